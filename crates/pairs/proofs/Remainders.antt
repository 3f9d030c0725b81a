-- The remainder of a sum, on integers that p digits hold: the code's five further roundings give exactly what the rounding of the sum lost.
use Rattle.std.proofs.Common.{rules, ◌≡◌, ℕ, suc, ◌+◌, ◌*◌, ◌^◌, ◌<◌, ◌≤◌, ℤ, pos, ◌+ℤ◌, ◌-ℤ◌, neg_ℤ, nat_abs, sym, refl, ap, ◌∙◌, subst, le_trans, le_of_eq, lt_of_lt_of_le, le_of_suc-le-suc, le_of_lt, mul-le-mul_right, lt_of_mul-lt-mul_right, lt_of_not-le, arith, pow_mono, pow-add}
use native.Mathlib.Decide.{dec_le}
use borrow.Author.Differences.{ints}
use lib.IntN.{+ℤ_comm}
use Rattle.pairs.specs.Value.{roundℤ, place, HasDigits}
use Rattle.pairs.proofs.Powers.{double, double-next}
use Rattle.pairs.proofs.Integers.{abs_neg, sub-of-sum, Multiple, multiple-down, multiple-add, multiple-sub, scale-abs}
use Rattle.pairs.proofs.Nearest.{Close, place-bound, place-le, place_mono, place-reach, round-place, round-close, round-wholeℤ, round-keepsℤ, round-nearestℤ, round-above, digits-stay, digits-place, digits_of, digits-neg, digits-zero, digits-rounded}

-- ---- p digits hold what the rounding of a sum lost

-- with |y| ≤ |x|
lost-by : (p : ℕ) (x y : ℤ) → 0 < p → HasDigits p x → HasDigits p y → nat_abs y ≤ nat_abs x → HasDigits p (x +ℤ y -ℤ roundℤ p (x +ℤ y))
lost-by p x y P fx fy h =
    let e = place p y in
    let s = roundℤ p (x +ℤ y) in
    let my = digits-place p y P fy in
    let mx = multiple-down x (place p x) e (place_mono p y x h) (digits-place p x P fx) in
    let m = multiple-add x y e mx my in
    digits_of p (x +ℤ y -ℤ s) e (multiple-sub (x +ℤ y) s e m (round-keepsℤ p (x +ℤ y) e P m)) (at_most x y s (2 ^ (p + e)) (round-nearestℤ p (x +ℤ y) x P fx) (place-bound p y))
  where
    -- x is no nearer to the sum than s, and y off
    at_most : (x y s : ℤ) (n : ℕ) → nat_abs (s -ℤ (x +ℤ y)) ≤ nat_abs (x -ℤ (x +ℤ y)) → nat_abs y < n → nat_abs (x +ℤ y -ℤ s) ≤ n
    at_most x y s n h k =
        let a : nat_abs (x +ℤ y -ℤ s) ≡ nat_abs (s -ℤ (x +ℤ y)) = turn (x +ℤ y) s in
        let b : nat_abs (x -ℤ (x +ℤ y)) ≡ nat_abs y = less x y in
        omega arith
      where
        turn : (u v : ℤ) → nat_abs (u -ℤ v) ≡ nat_abs (v -ℤ u)
        turn u v = omega (arith, ints)

        less : (x y : ℤ) → nat_abs (x -ℤ (x +ℤ y)) ≡ nat_abs y
        less x y = omega (arith, ints)

-- in either order
pub lost-digits : (p : ℕ) (x y : ℤ) → 0 < p → HasDigits p x → HasDigits p y → HasDigits p (x +ℤ y -ℤ roundℤ p (x +ℤ y))
lost-digits p x y P fx fy = grind (arith, lost-by, +ℤ_comm)

-- ---- with |y| ≤ |x|, p digits hold the rounded sum less x

-- a multiple of 2^e below 2^(p + e) is a whole step below
step-below : (p : ℕ) (z : ℤ) (e : ℕ) → Multiple z e → nat_abs z < 2 ^ (p + e) → nat_abs z + 2 ^ e ≤ 2 ^ (p + e)
step-below p z e m h = search (rules, scale-abs, pow-add, mul-le-mul_right, lt_of_mul-lt-mul_right)

-- twice a bound is the bound of the next place
next_place : (p : ℕ) (z : ℤ) (e : ℕ) → nat_abs z < 2 ^ (p + e) * 2 → place p z ≤ suc e
next_place p z e h = grind (arith, place-le, double-next)

-- a sum is less than twice a bound on its larger term
sum_less : (x y : ℤ) (n : ℕ) → nat_abs y ≤ nat_abs x → nat_abs x < n → nat_abs (x +ℤ y) < n * 2
sum_less x y n h k = omega (arith, ints)

-- s - x is a multiple of a last place, and small enough
fast-digits : (p : ℕ) (x y : ℤ) → 0 < p → HasDigits p x → HasDigits p y → nat_abs y ≤ nat_abs x → HasDigits p (roundℤ p (x +ℤ y) -ℤ x)
fast-digits p x y P fx fy h =
    elim (dec_le es (place p y)) [
      | yes a ↦
          let m = multiple-add x y (place p y) (multiple-down x (place p x) (place p y) (place_mono p y x h) mx) my in
          subst (HasDigits p) (sym (sub-of-sum x y s (round-wholeℤ p (x +ℤ y) (place p y) P a m))) fy
      | no a ↦
          let b : 2 ^ (p + place p y) * 2 ≤ 2 ^ (p + es) = le_trans (le_of_eq (sym (double (p + place p y)))) (pow_mono (room p (place p y) es (lt_of_not-le a))) in
          elim (dec_le es (place p x)) [
            | yes d ↦ digits_of p (s -ℤ x) es (multiple-sub s x es ms (multiple-down x (place p x) es d mx)) (far x y s (2 ^ es) (2 ^ (p + es)) (2 ^ (p + place p y)) c (place-bound p y) b (pow_mono (more p es)))
            | no d ↦
                let top : es ≤ suc (place p x) = next_place p (x +ℤ y) (place p x) (sum_less x y (2 ^ (p + place p x)) h (place-bound p x)) in
                let u : 2 ^ es ≤ 2 ^ place p x * 2 = le_trans (pow_mono top) (le_of_eq (double (place p x))) in
                digits_of p (s -ℤ x) (place p x) (multiple-sub s x (place p x) (multiple-down s es (place p x) (le_of_lt (lt_of_not-le d)) ms) mx)
                (near x y s (2 ^ es) (2 ^ place p x) (2 ^ (p + place p x)) c h (step-below p x (place p x) mx (place-bound p x)) u)
          ]
    ]
  where
    s : ℤ
    s = roundℤ p (x +ℤ y)

    es : ℕ
    es = place p (x +ℤ y)

    my : Multiple y (place p y)
    my = digits-place p y P fy

    mx : Multiple x (place p x)
    mx = digits-place p x P fx

    ms : Multiple s es
    ms = round-place p (x +ℤ y) P

    c : Close s (x +ℤ y) (2 ^ es)
    c = round-close p (x +ℤ y) P

    more : (p e : ℕ) → e ≤ p + e
    more p e = omega arith

    room : (p a b : ℕ) → a < b → suc (p + a) ≤ p + b
    room p a b h = omega arith

    -- the unit of s is above that of y, or above both
    far : (x y s : ℤ) (u n m : ℕ) → Close s (x +ℤ y) u → nat_abs y < m → m * 2 ≤ n → u ≤ n → nat_abs (s -ℤ x) ≤ n
    far x y s u n m c h k l = omega (arith, ints)

    near : (x y s : ℤ) (u v n : ℕ) → Close s (x +ℤ y) u → nat_abs y ≤ nat_abs x → nat_abs x + v ≤ n → u ≤ v * 2 → nat_abs (s -ℤ x) ≤ n
    near x y s u v n c h k l = omega (arith, ints)

-- ---- the remainder, in five further roundings

-- the remainder as the code computes it
abbrev pub remainder : ℕ → ℤ → ℤ → ℤ
remainder p a b =
    let s = roundℤ p (a +ℤ b) in
    let bb = roundℤ p (s -ℤ a) in
    let aa = roundℤ p (s -ℤ bb) in
    roundℤ p (roundℤ p (a -ℤ aa) +ℤ roundℤ p (b -ℤ bb))

-- nothing is lost in aa = s - bb, in a - aa, in b - bb, nor in their sum
finish : (p : ℕ) (a b s bb aa : ℤ) → 0 < p → aa ≡ s -ℤ bb → HasDigits p (a -ℤ (s -ℤ bb)) → HasDigits p (b -ℤ bb) → HasDigits p (a +ℤ b -ℤ s) → roundℤ p (roundℤ p (a -ℤ aa) +ℤ roundℤ p (b -ℤ bb)) ≡ a +ℤ b -ℤ s
finish p a b s bb aa P e da db r =
    ap (λ (z : ℤ). roundℤ p (roundℤ p (a -ℤ z) +ℤ roundℤ p (b -ℤ bb))) e
    ∙ ap (λ (z : ℤ). roundℤ p (z +ℤ roundℤ p (b -ℤ bb))) (digits-stay p (a -ℤ (s -ℤ bb)) P da)
    ∙ ap (λ (z : ℤ). roundℤ p ((a -ℤ (s -ℤ bb)) +ℤ z)) (digits-stay p (b -ℤ bb) P db)
    ∙ ap (roundℤ p) (total a b s bb)
    ∙ digits-stay p (a +ℤ b -ℤ s) P r
  where
    total : (a b s bb : ℤ) → (a -ℤ (s -ℤ bb)) +ℤ (b -ℤ bb) ≡ a +ℤ b -ℤ s
    total a b s bb = omega (arith, ints)

-- where bb = s - a, b - bb is what was lost
lost_as : (a b s bb : ℤ) → bb ≡ s -ℤ a → b -ℤ bb ≡ a +ℤ b -ℤ s
lost_as a b s bb e = omega (arith, ints)

-- p digits hold s - a
direct : (p : ℕ) (a b : ℤ) → 0 < p → HasDigits p a → HasDigits p b → HasDigits p (roundℤ p (a +ℤ b) -ℤ a) → remainder p a b ≡ a +ℤ b -ℤ roundℤ p (a +ℤ b)
direct p a b P fa fb h =
    let s = roundℤ p (a +ℤ b) in
    let bb = roundℤ p (s -ℤ a) in
    let e : bb ≡ s -ℤ a = digits-stay p (s -ℤ a) P h in
    let r : HasDigits p (a +ℤ b -ℤ s) = lost-digits p a b P fa fb in
    finish p a b s bb (roundℤ p (s -ℤ bb)) P (digits-stay p (s -ℤ bb) P (subst (HasDigits p) (sym (back a s bb e)) fa)) (digits-zero p (a -ℤ (s -ℤ bb)) (none a s bb e)) (subst (HasDigits p) (sym (lost_as a b s bb e)) r) r
  where
    back : (a s bb : ℤ) → bb ≡ s -ℤ a → s -ℤ bb ≡ a
    back a s bb e = omega (arith, ints)

    none : (a s bb : ℤ) → bb ≡ s -ℤ a → a -ℤ (s -ℤ bb) ≡ pos 0
    none a s bb e = omega (arith, ints)

-- |a| < |b|, and the last place of the sum is above that of a
module _ (p : ℕ) (a b : ℤ) (P : 0 < p) (fa : HasDigits p a) (fb : HasDigits p b) (h : nat_abs a ≤ nat_abs b) (l : place p a < place p (a +ℤ b)) where
  -- bb is at most twice as far from b as b is from s - a
  apart : (a b s bb : ℤ) → nat_abs (bb -ℤ (s -ℤ a)) ≤ nat_abs (b -ℤ (s -ℤ a)) → nat_abs (b -ℤ bb) ≤ nat_abs (b -ℤ (s -ℤ a)) * 2
  apart a b s bb y = omega (arith, ints)

  -- b is at most |a| off s - a
  off-a : (a b s : ℤ) → nat_abs (s -ℤ (a +ℤ b)) ≤ nat_abs (b -ℤ (a +ℤ b)) → nat_abs (b -ℤ (s -ℤ a)) ≤ nat_abs a
  off-a a b s x = omega (arith, ints)

  -- and at most half of the last place of the sum
  off-unit : (a b s : ℤ) (u : ℕ) → Close s (a +ℤ b) u → nat_abs (b -ℤ (s -ℤ a)) * 2 ≤ u
  off-unit a b s u c = omega (arith, ints)

  -- p digits hold b - bb, where bb is s - a rounded
  gap : (s bb : ℤ) → s ≡ roundℤ p (a +ℤ b) → bb ≡ roundℤ p (s -ℤ a) → HasDigits p (b -ℤ bb)
  gap s bb es eb =
      let ea = place p a in
      let ma : Multiple a ea = digits-place p a P fa in
      let mb : Multiple b (place p b) = digits-place p b P fb in
      let ms : Multiple s ea = subst (λ (z : ℤ). Multiple z ea) (sym es) (multiple-down (roundℤ p (a +ℤ b)) (place p (a +ℤ b)) ea (le_of_lt l) (round-place p (a +ℤ b) P)) in
      let near1 : nat_abs (s -ℤ (a +ℤ b)) ≤ nat_abs (b -ℤ (a +ℤ b)) = grind (arith, round-nearestℤ) in
      let near2 : nat_abs (bb -ℤ (s -ℤ a)) ≤ nat_abs (b -ℤ (s -ℤ a)) = grind (arith, round-nearestℤ) in
      let twice : nat_abs (b -ℤ bb) ≤ nat_abs (b -ℤ (s -ℤ a)) * 2 = apart a b s bb near2 in
      elim (dec_le (place p (s -ℤ a)) ea) [
        | yes x ↦
            let i : bb ≡ s -ℤ a = eb ∙ round-wholeℤ p (s -ℤ a) ea P x (multiple-sub s a ea ms ma) in
            subst (HasDigits p) (sym (lost_as a b s bb i)) (subst (λ (z : ℤ). HasDigits p (a +ℤ b -ℤ z)) (sym es) (lost-digits p a b P fa fb))
        | no x ↦
            let mbb : Multiple bb (suc ea) = subst (λ (z : ℤ). Multiple z (suc ea)) (sym eb) (multiple-down (roundℤ p (s -ℤ a)) (place p (s -ℤ a)) (suc ea) (lt_of_not-le x) (round-place p (s -ℤ a) P)) in
            elim (dec_le (suc ea) (place p b)) [
              | yes y ↦ digits_of p (b -ℤ bb) (suc ea) (multiple-sub b bb (suc ea) (multiple-down b (place p b) (suc ea) y mb) mbb)
                  (le_trans (wide (nat_abs (b -ℤ bb)) (nat_abs (b -ℤ (s -ℤ a))) (nat_abs a) (2 ^ (p + ea)) twice (off-a a b s near1) (place-bound p a)) (le_of_eq (sym (double-next p ea))))
              | no y ↦
                  let eq : place p b ≤ ea = le_of_suc-le-suc (lt_of_not-le y) in
                  let below : nat_abs b < 2 ^ (p + ea) = lt_of_lt_of_le (place-bound p b) (pow_mono (mono p (place p b) ea eq)) in
                  let top : place p (a +ℤ b) ≤ suc ea = grind (arith, next_place, +ℤ_comm, sum_less) in
                  let u : 2 ^ place p (a +ℤ b) ≤ 2 ^ ea * 2 = grind arith in
                  let c : Close s (a +ℤ b) (2 ^ place p (a +ℤ b)) = grind (arith, round-close) in
                  let v : 2 ^ ea * 2 ≤ 2 ^ (p + ea) = grind (arith, double, pow_mono) in
                  digits_of p (b -ℤ bb) ea (multiple-sub b bb ea (multiple-down b (place p b) ea (place_mono p a b h) mb) (multiple-down bb (suc ea) ea (le-suc ea) mbb))
                  (tight (nat_abs (b -ℤ bb)) (nat_abs (b -ℤ (s -ℤ a))) (2 ^ place p (a +ℤ b)) (2 ^ ea) (2 ^ (p + ea)) twice (off-unit a b s (2 ^ place p (a +ℤ b)) c) u v)
            ]
      ]
    where
      mono : (p a b : ℕ) → a ≤ b → p + a ≤ p + b
      mono p a b h = omega arith

      le-suc : (e : ℕ) → e ≤ suc e
      le-suc e = omega arith

      wide : (d o a n : ℕ) → d ≤ o * 2 → o ≤ a → a < n → d ≤ n * 2
      wide d o a n x y z = omega arith

      tight : (d o u v n : ℕ) → d ≤ o * 2 → o * 2 ≤ u → u ≤ v * 2 → v * 2 ≤ n → d ≤ n
      tight d o u v n w x y z = omega arith

  -- the remainder in this case
  rounded : remainder p a b ≡ a +ℤ b -ℤ roundℤ p (a +ℤ b)
  rounded =
      let s = roundℤ p (a +ℤ b) in
      let bb = roundℤ p (s -ℤ a) in
      let fs : HasDigits p s = digits-rounded p (a +ℤ b) P in
      let fn = digits-neg p a fa in
      let big : nat_abs (neg_ℤ a) ≤ nat_abs s = le_trans (le_of_eq (abs_neg a)) (le_of_lt (lt_of_lt_of_le (place-bound p a) (round-above p (a +ℤ b) (place p a) P (place-reach p (a +ℤ b) (place p a) l)))) in
      let f1 : HasDigits p (bb -ℤ s) = fast-digits p s (neg_ℤ a) P fs fn big in
      let f2 : HasDigits p (s -ℤ bb) = subst (HasDigits p) (turn bb s) (digits-neg p (bb -ℤ s) f1) in
      let f3 : HasDigits p (s -ℤ a -ℤ bb) = lost-digits p s (neg_ℤ a) P fs fn in
      let f4 : HasDigits p (a -ℤ (s -ℤ bb)) = subst (HasDigits p) (turn_three a s bb) (digits-neg p (s -ℤ a -ℤ bb) f3) in
      finish p a b s bb (roundℤ p (s -ℤ bb)) P (digits-stay p (s -ℤ bb) P f2) f4 (gap s bb refl refl) (lost-digits p a b P fa fb)
    where
      turn : (x y : ℤ) → neg_ℤ (x -ℤ y) ≡ y -ℤ x
      turn x y = omega (arith, ints)

      turn_three : (a s bb : ℤ) → neg_ℤ (s -ℤ a -ℤ bb) ≡ a -ℤ (s -ℤ bb)
      turn_three a s bb = omega (arith, ints)

-- the remainder is what the rounding of the sum lost
pub remainder_is : (p : ℕ) (a b : ℤ) → 0 < p → HasDigits p a → HasDigits p b → remainder p a b ≡ a +ℤ b -ℤ roundℤ p (a +ℤ b)
remainder_is p a b P fa fb = elim (dec_le (nat_abs b) (nat_abs a)) [
  | yes h ↦ direct p a b P fa fb (fast-digits p a b P fa fb h)
  | no h ↦ elim (dec_le (place p (a +ℤ b)) (place p a)) [
    | yes x ↦
        let m = multiple-add a b (place p a) (digits-place p a P fa) (multiple-down b (place p b) (place p a) (place_mono p a b (le_of_lt (lt_of_not-le h))) (digits-place p b P fb)) in
        direct p a b P fa fb (subst (HasDigits p) (sym (sub-of-sum a b (roundℤ p (a +ℤ b)) (round-wholeℤ p (a +ℤ b) (place p a) P x m))) fb)
    | no x ↦ rounded p a b P fa fb (le_of_lt (lt_of_not-le h)) (lt_of_not-le x)
  ]
]
