-- One rounding of the sum of three integers that p digits hold, from two roundings to nearest and one to odd.
use Rattle.std.proofs.Common.{rules, ◌≡◌, ℕ, zero, suc, ◌+◌, ◌-◌, ◌*◌, ◌^◌, ◌<◌, ◌≤◌, ℤ, pos, ◌+ℤ◌, ◌-ℤ◌, ◌*ℤ◌, nat_abs, sym, ap, ◌∙◌, subst, le_trans, le_of_eq, le_refl, lt_of_lt_of_le, lt_of_le_of_lt, lt_of_mul-lt-mul_right, lt_of_not-le, arith, pow_pos, pow_mono}
use native.Mathlib.Decide.{dec_le}
use borrow.Author.Differences.{ints}
use Rattle.pairs.specs.Value.{roundℤ, place, HasDigits}
use Rattle.pairs.specs.Fused.{RoundedOdd, itself, neighbour}
use Rattle.pairs.proofs.Powers.{double, pow-lt-inv}
use Rattle.pairs.proofs.Integers.{Multiple, multiple-down, multiple-add, multiple-sub, scale-abs}
use Rattle.pairs.proofs.Digits.{dropped-ge}
use Rattle.pairs.proofs.Nearest.{Close, place-bound, place-reach, round-place, round-close, round-wholeℤ, round-above, digits-place}
use Rattle.pairs.proofs.Remainders.{lost-digits}
use Rattle.pairs.proofs.RoundedOdd.{odd-then-nearest}

-- two multiples of a power of two that are nearer than it are equal
same-multiple : (x y : ℤ) (e : ℕ) → Multiple x e → Multiple y e → nat_abs (x -ℤ y) < 2 ^ e → x ≡ y
same-multiple x y e m n h = search (rules, multiple-sub, scale-abs, lt_of_mul-lt-mul_right, ints)

-- one less is less
less_one : (e : ℕ) → 1 ≤ e → e - 1 < e
less_one e h = omega arith

-- where p digits hold w, rounding it to odd changes nothing
odd-held : (p : ℕ) (w r : ℤ) → 0 < p → HasDigits p w → RoundedOdd p w r → r ≡ w
odd-held p w r P f (itself e) = e
odd-held p w r P f (neighbour k e n) = same-multiple r w (place p w) (k *ℤ pos 2 +ℤ pos 1, e) (digits-place p w P f) n

-- y is x rounded, and w is less than two of its last places: w may be rounded to odd before it is added
far-below : (p : ℕ) (x y w r : ℤ) → 5 ≤ p → y ≡ roundℤ p x → nat_abs w < 2 ^ suc (place p x) → RoundedOdd p w r → roundℤ p (y +ℤ r) ≡ roundℤ p (y +ℤ w)
far-below p x y w r P yx small (itself e) = ap (λ (z : ℤ). roundℤ p (y +ℤ z)) e
far-below p x y w r P yx small (neighbour k e n) = elim (dec_le 1 (place p w)) [
  | no l ↦ ap (λ (z : ℤ). roundℤ p (y +ℤ z)) (whole (place p w) l n)
  | yes l ↦
      let pp : 0 < p = omega arith in
      let ew = place p w in
      let ev = place p x in
      let b : p + (ew - 1) < suc ev = pow-lt-inv (p + (ew - 1)) (suc ev) (lt_of_le_of_lt (place-reach p w (ew - 1) (less_one ew l)) small) in
      let f : suc (suc (suc ew)) < ev = far p ew ev P l b in
      let my : Multiple y (suc ew) = subst (λ (z : ℤ). Multiple z (suc ew)) (sym yx) (multiple-down (roundℤ p x) ev (suc ew) (near ew ev f) (round-place p x pp)) in
      let q = p + (ev - 1) in
      let big : 2 ^ q ≤ nat_abs y = subst (λ (z : ℤ). 2 ^ q ≤ nat_abs z) (sym yx) (round-above p x (ev - 1) pp (place-reach p x (ev - 1) (less_one ev (some ew ev f)))) in
      let room : 2 ^ suc (suc ev) ≤ 2 ^ q = pow_mono (leaves p ew ev P f) in
      let c : 2 ^ q ≤ nat_abs (y +ℤ w) * 2 = left y w (2 ^ q) (2 ^ suc ev) big small (le_trans (le_of_eq (sym (double (suc ev)))) room) in
      let d : ev - 1 ≤ place p (y +ℤ w) = dropped-ge p (nat_abs (y +ℤ w)) (ev - 1) c in
      odd-then-nearest p y w r (neighbour k e n) my (last ew ev (place p (y +ℤ w)) f d)
]
  where
    whole : (e : ℕ) → ¬ (1 ≤ e) → nat_abs (r -ℤ w) < 2 ^ e → r ≡ w
    whole zero l n = omega (arith, ints)
    whole (suc e) l n = absurd (l (omega arith))

    far : (p ew ev : ℕ) → 5 ≤ p → 1 ≤ ew → p + (ew - 1) < suc ev → suc (suc (suc ew)) < ev
    far p ew ev h k l = omega arith

    near : (ew ev : ℕ) → suc (suc (suc ew)) < ev → suc ew ≤ ev
    near ew ev h = omega arith

    some : (ew ev : ℕ) → suc (suc (suc ew)) < ev → 1 ≤ ev
    some ew ev h = omega arith

    leaves : (p ew ev : ℕ) → 5 ≤ p → suc (suc (suc ew)) < ev → suc (suc ev) ≤ p + (ev - 1)
    leaves p ew ev h k = omega arith

    left : (y w : ℤ) (n m : ℕ) → n ≤ nat_abs y → nat_abs w < m → m * 2 ≤ n → n ≤ nat_abs (y +ℤ w) * 2
    left y w n m h k l = omega (arith, ints)

    last : (ew ev e : ℕ) → suc (suc (suc ew)) < ev → ev - 1 ≤ e → suc ew < e
    last ew ev e h k = omega arith

module _ (p : ℕ) (P : 5 ≤ p) (uh ul c : ℤ) (fu : HasDigits p uh) (fl : HasDigits p ul) (fc : HasDigits p c) where
  -- the last place of c + ul is at most one above that of uh + th, where that is above uh's
  at-most-next : (th : ℤ) → th ≡ roundℤ p (c +ℤ ul) → place p uh < place p (uh +ℤ th) → place p (c +ℤ ul) ≤ suc (place p (uh +ℤ th))
  at-most-next th et l = elim (dec_le (place p (c +ℤ ul)) (suc (place p (uh +ℤ th)))) [
    | yes h ↦ h
    | no h ↦
        let e = place p (c +ℤ ul) in
        let ev = place p (uh +ℤ th) in
        let q = p + (e - 1) in
        let a : 2 ^ q ≤ nat_abs th = grind (arith, round-above, place-reach) in
        let b : nat_abs th < 2 ^ (p + ev) * 2 = both uh th (2 ^ (p + ev)) (2 ^ (p + place p uh)) (place-bound p uh) (place-bound p (uh +ℤ th)) (pow_mono (mono p (place p uh) ev l)) in
        let d : q < suc (p + ev) = pow-lt-inv q (suc (p + ev)) (lt_of_le_of_lt a (lt_of_lt_of_le b (le_of_eq (sym (double (p + ev)))))) in
        absurd (clash p e ev (lt_of_not-le h) d)
  ]
    where
      mono : (p a b : ℕ) → a < b → p + a ≤ p + b
      mono p a b h = omega arith

      clash : (p e ev : ℕ) → suc ev < e → p + (e - 1) < suc (p + ev) → ⊥
      clash p e ev h k = omega arith

      both : (u t : ℤ) (n m : ℕ) → nat_abs u < m → nat_abs (u +ℤ t) < n → m ≤ n → nat_abs t < n * 2
      both u t n m h k l = omega (arith, ints)

  -- what both sums lost is less than two last places of uh + th
  lost-small : (th vh : ℤ) → th ≡ roundℤ p (c +ℤ ul) → vh ≡ roundℤ p (uh +ℤ th) → place p (c +ℤ ul) ≤ suc (place p (uh +ℤ th)) → nat_abs (c +ℤ ul -ℤ th +ℤ (uh +ℤ th -ℤ vh)) < 2 ^ suc (place p (uh +ℤ th))
  lost-small th vh et ev l =
      let n = place p (uh +ℤ th) in
      let a : Close th (c +ℤ ul) (2 ^ place p (c +ℤ ul)) = grind (arith, round-close) in
      let b : Close vh (uh +ℤ th) (2 ^ n) = grind (arith, round-close) in
      lt_of_lt_of_le (both (c +ℤ ul) th (uh +ℤ th) vh (2 ^ place p (c +ℤ ul)) (2 ^ n) a b (le_trans (pow_mono l) (le_of_eq (double n))) (pow_pos n)) (le_of_eq (sym (double n)))
    where
      both : (s t x v : ℤ) (m n : ℕ) → Close t s m → Close v x n → m ≤ n * 2 → 0 < n → nat_abs (s -ℤ t +ℤ (x -ℤ v)) < n * 2
      both s t x v m n h k l z = omega (arith, ints)

  -- th is c + ul rounded, vh is uh + th rounded, and r is what both lost, rounded to odd: vh + r is rounded as uh + ul + c is
  pub rounded-once : (th vh w r : ℤ) → th ≡ roundℤ p (c +ℤ ul) → vh ≡ roundℤ p (uh +ℤ th) → w ≡ c +ℤ ul -ℤ th +ℤ (uh +ℤ th -ℤ vh) → RoundedOdd p w r → roundℤ p (vh +ℤ r) ≡ roundℤ p (uh +ℤ ul +ℤ c)
  rounded-once th vh w r et ev ew o =
      let n = place p (uh +ℤ th) in
      let sum : vh +ℤ w ≡ uh +ℤ ul +ℤ c = total uh ul c th vh w ew in
      let go : place p (c +ℤ ul) ≤ suc n → roundℤ p (vh +ℤ r) ≡ roundℤ p (uh +ℤ ul +ℤ c) =
      λ l. far-below p (uh +ℤ th) vh w r P ev (subst (λ (z : ℤ). nat_abs z < 2 ^ suc n) (sym ew) (lost-small th vh et ev l)) o ∙ ap (roundℤ p) sum in
      elim (dec_le n (place p uh)) [
        | no h ↦ go (at-most-next th et (lt_of_not-le h))
        | yes h ↦ elim (dec_le n (place p (c +ℤ ul))) [
          | no k ↦ go (step (place p (c +ℤ ul)) n (lt_of_not-le k))
          | yes k ↦
              let mt : Multiple th n = subst (λ (z : ℤ). Multiple z n) (sym et) (multiple-down (roundℤ p (c +ℤ ul)) (place p (c +ℤ ul)) n k (round-place p (c +ℤ ul) (omega arith))) in
              let mu : Multiple uh n = multiple-down uh (place p uh) n h (digits-place p uh (omega arith) fu) in
              let x : vh ≡ uh +ℤ th = ev ∙ round-wholeℤ p (uh +ℤ th) n (omega arith) (le_refl n) (multiple-add uh th n mu mt) in
              let wt : w ≡ c +ℤ ul -ℤ th = only (c +ℤ ul) th uh vh w ew x in
              let fw : HasDigits p w = grind (arith, lost-digits) in
              ap (λ (z : ℤ). roundℤ p (vh +ℤ z)) (odd-held p w r (omega arith) fw o) ∙ ap (roundℤ p) sum
        ]
      ]
    where
      step : (a b : ℕ) → a < b → a ≤ suc b
      step a b h = omega arith

      total : (uh ul c th vh w : ℤ) → w ≡ c +ℤ ul -ℤ th +ℤ (uh +ℤ th -ℤ vh) → vh +ℤ w ≡ uh +ℤ ul +ℤ c
      total uh ul c th vh w e = omega (arith, ints)

      only : (s th uh vh w : ℤ) → w ≡ s -ℤ th +ℤ (uh +ℤ th -ℤ vh) → vh ≡ uh +ℤ th → w ≡ s -ℤ th
      only s th uh vh w e f = omega (arith, ints)
