-- Rounding an integer to p binary digits, to nearest: what stays, the error, what the result is a multiple of, and that nothing is nearer.
use Rattle.std.proofs.Common.{rules, ◌≡◌, ℕ, zero, suc, ◌+◌, ◌-◌, ◌*◌, ◌^◌, ◌<◌, ◌≤◌, Bool, true, false, ℤ, pos, ◌-ℤ◌, ◌*ℤ◌, neg_ℤ, nat_abs, sym, refl, ap, ◌∙◌, subst, le_trans, le_of_eq, lt_of_lt_of_le, le_of_lt, le_of_mul-le-mul_right, arith, pow_pos, pow_mono, pow-add}
use borrow.Author.Differences.{up, down, neg_is}
use lib.Ieee.{size}
use lib.Ieee.Digits.{size-lt, size_reaches}
use Rattle.pairs.specs.Value.{signed, roundℕ, roundℤ, place, HasDigits}
use Rattle.pairs.proofs.Integers.{is_neg, signed-own, signed-abs, signed-mul-pos, abs_neg, nat_abs_mul, neg-mul, Multiple, multiple-down, scale-abs}
use Rattle.pairs.proofs.Digits.{Near, Multipleℕ, Nearer, dropped-le, dropped-ge, round-zero, round-near, round_whole, round_exact, round-error, round-coarse, round_keeps, round-nearest}

-- ---- from naturals to integers

-- a sign does not change the rounding
pub roundℤ-signed : (p : ℕ) (s : Bool) (n : ℕ) → 0 < p → roundℤ p (signed s n) ≡ signed s (roundℕ p n)
unfolding roundℤ
roundℤ-signed p false n P = refl
roundℤ-signed p true zero P = grind (arith, round-zero)
roundℤ-signed p true (suc n) P = refl

-- the rounded integer has the sign of z
pub roundℤ-own : (p : ℕ) (z : ℤ) → 0 < p → roundℤ p z ≡ signed (is_neg z) (roundℕ p (nat_abs z))
roundℤ-own p z P = ap (roundℤ p) (signed-own z) ∙ roundℤ-signed p (is_neg z) (nat_abs z) P

-- and its size is that of z rounded
pub roundℤ-abs : (p : ℕ) (z : ℤ) → 0 < p → nat_abs (roundℤ p z) ≡ roundℕ p (nat_abs z)
roundℤ-abs p z P = grind (arith, roundℤ-own, signed-abs)

-- 2 |a - b| ≤ u
abbrev pub Close : ℤ → ℤ → ℕ → Type 0
Close a b u = ((up a + down b) * 2 ≤ (up b + down a) * 2 + u) × ((up b + down a) * 2 ≤ (up a + down b) * 2 + u)

-- numbers of one sign are as close as their sizes
signed-close : (s : Bool) (a b u : ℕ) → Near a b u → Close (signed s a) (signed s b) u
signed-close false a b u h = omega arith
signed-close true a b u h = omega (arith, neg_is (pos a), neg_is (pos b))

-- a bound on the error of the size is one on the error
close_of : (p : ℕ) (z : ℤ) (u : ℕ) → 0 < p → Near (roundℕ p (nat_abs z)) (nat_abs z) u → Close (roundℤ p z) z u
close_of p z u P h =
    subst (λ (x : ℤ). Close x z u) (sym (roundℤ-own p z P))
    (subst (λ (x : ℤ). Close (signed (is_neg z) (roundℕ p (nat_abs z))) x u) (sym (signed-own z)) (signed-close (is_neg z) (roundℕ p (nat_abs z)) (nat_abs z) u h))

-- and a multiple likewise
multiple-of : (p : ℕ) (z : ℤ) (e : ℕ) → 0 < p → Multipleℕ (roundℕ p (nat_abs z)) e → Multiple (roundℤ p z) e
multiple-of p z e P m = subst (λ (x : ℤ). Multiple x e) (sym (roundℤ-own p z P)) (signed s m.0, ap (signed s) m.1 ∙ signed-mul-pos s m.0 (2 ^ e))
  where
    s : Bool
    s = is_neg z

-- ---- at a given power of two

-- k 2^j stays where |k| ≤ 2^p
pub round-exactℤ : (p : ℕ) (z k : ℤ) (j : ℕ) → 0 < p → z ≡ k *ℤ pos (2 ^ j) → nat_abs k ≤ 2 ^ p → roundℤ p z ≡ z
round-exactℤ p z k j P e h = grind (arith, roundℤ-own, round_exact, nat_abs_mul, signed-own)

-- a bound on z bounds the error
pub round-errorℤ : (p : ℕ) (z : ℤ) (e : ℕ) → 0 < p → nat_abs z ≤ 2 ^ (p + e) → Close (roundℤ p z) z (2 ^ e)
round-errorℤ p z e P h = search (rules, close_of, round-error)

-- a bound on z from below makes the result a multiple
pub round-multipleℤ : (p : ℕ) (z : ℤ) (e : ℕ) → 0 < p → 2 ^ (p + e) ≤ nat_abs z * 2 → Multiple (roundℤ p z) e
round-multipleℤ p z e P h = grind (arith, multiple-of, round-coarse, dropped-ge)

-- a multiple of a power of two is rounded to one
pub round-keepsℤ : (p : ℕ) (z : ℤ) (e : ℕ) → 0 < p → Multiple z e → Multiple (roundℤ p z) e
round-keepsℤ p z e P m = grind (arith, multiple-of, round_keeps, nat_abs_mul)

-- ---- at the last place of z

-- z is below 2^p of its last places
pub place-bound : (p : ℕ) (z : ℤ) → nat_abs z < 2 ^ (p + place p z)
place-bound p z = lt_of_lt_of_le (size-lt (nat_abs z)) (pow_mono (cover (size (nat_abs z)) p))
  where
    cover : (s p : ℕ) → s ≤ p + (s - p)
    cover s p = omega arith

-- a bound on z bounds its last place
pub place-le : (p : ℕ) (z : ℤ) (e : ℕ) → nat_abs z < 2 ^ (p + e) → place p z ≤ e
place-le p z e h = dropped-le p (nat_abs z) e h

-- a larger number has no lower last place
pub place_mono : (p : ℕ) (y z : ℤ) → nat_abs y ≤ nat_abs z → place p y ≤ place p z
place_mono p y z h = grind (arith, place-le, place-bound)

-- a place below the last means that the leading digit is p places above it
pub place-reach : (p : ℕ) (z : ℤ) (e : ℕ) → e < place p z → 2 ^ (p + e) ≤ nat_abs z
place-reach p z e h = grind (arith, size_reaches)

-- the result is a multiple of the last place
pub round-place : (p : ℕ) (z : ℤ) → 0 < p → Multiple (roundℤ p z) (place p z)
round-place p z P = grind (arith, multiple-of, round-coarse)

-- the error is at most half of the last place
pub round-close : (p : ℕ) (z : ℤ) → 0 < p → Close (roundℤ p z) z (2 ^ place p z)
round-close p z P = search (rules, close_of, round-near)

-- a multiple of the last place, or of a higher one, stays
pub round-wholeℤ : (p : ℕ) (z : ℤ) (e : ℕ) → 0 < p → place p z ≤ e → Multiple z e → roundℤ p z ≡ z
round-wholeℤ p z e P h m =
    let d = multiple-down z e (place p z) h m in
    roundℤ-own p z P ∙ ap (signed (is_neg z)) (round_whole p (nat_abs z) (nat_abs d.0) (ap nat_abs d.1 ∙ scale-abs d.0 (place p z))) ∙ sym (signed-own z)

-- ---- numbers that p digits hold

-- they stay
pub digits-stay : (p : ℕ) (z : ℤ) → 0 < p → HasDigits p z → roundℤ p z ≡ z
digits-stay p z P f = round-exactℤ p z f.k f.t P f.is f.small

-- they are multiples of their last place
pub digits-place : (p : ℕ) (z : ℤ) → 0 < p → HasDigits p z → Multiple z (place p z)
digits-place p z P f = subst (λ (x : ℤ). Multiple x (place p z)) (digits-stay p z P f) (round-place p z P)

-- a multiple of 2^e up to 2^(p + e) is one
pub digits_of : (p : ℕ) (z : ℤ) (e : ℕ) → Multiple z e → nat_abs z ≤ 2 ^ (p + e) → HasDigits p z
digits_of p z e m h = grind (arith, le_of_mul-le-mul_right, scale-abs, pow-add, pow_pos)

-- so is the negative of one
pub digits-neg : (p : ℕ) (z : ℤ) → HasDigits p z → HasDigits p (neg_ℤ z)
digits-neg p z f = record { k = neg_ℤ f.k; t = f.t; is = ap neg_ℤ f.is ∙ sym (neg-mul f.k (pos (2 ^ f.t))); small = le_trans (le_of_eq (abs_neg f.k)) f.small }

-- zero is one
pub digits-zero : (p : ℕ) (z : ℤ) → z ≡ pos 0 → HasDigits p z
digits-zero p z e = record { k = pos 0; t = 0; is = e; small = le_of_lt (pow_pos p) }

-- ---- nothing is nearer

-- no w that p digits hold is nearer to z than z rounded
pub round-nearestℤ : (p : ℕ) (z w : ℤ) → 0 < p → HasDigits p w → nat_abs (roundℤ p z -ℤ z) ≤ nat_abs (w -ℤ z)
round-nearestℤ p z w P f =
    let n = nat_abs z in
    let s = is_neg z in
    let a : Nearer (roundℕ p n) n (nat_abs w) = grind (arith, scale-abs, round-nearest) in
    let b : Nearer (roundℕ p n) n 0 = round-nearest p n 0 0 P (le_of_lt (pow_pos p)) in
    let r : nat_abs (signed s (roundℕ p n) -ℤ signed s n) ≤ nat_abs (signed (is_neg w) (nat_abs w) -ℤ signed s n) = grind arith in
    subst (λ (x : ℤ). nat_abs (x -ℤ z) ≤ nat_abs (w -ℤ z)) (sym (roundℤ-own p z P))
    (subst (λ (x : ℤ). nat_abs (signed s (roundℕ p n) -ℤ x) ≤ nat_abs (w -ℤ x)) (sym (signed-own z))
    (subst (λ (x : ℤ). nat_abs (signed s (roundℕ p n) -ℤ signed s n) ≤ nat_abs (x -ℤ signed s n)) (sym (signed-own w)) r))

-- rounding does not cross a power of two
pub round-below : (p : ℕ) (z : ℤ) (e : ℕ) → 0 < p → nat_abs z ≤ 2 ^ (p + e) → nat_abs (roundℤ p z) ≤ 2 ^ (p + e)
round-below p z e P h = grind (arith, round-nearest, roundℤ-abs, pow-add)

-- the same from below
pub round-above : (p : ℕ) (z : ℤ) (e : ℕ) → 0 < p → 2 ^ (p + e) ≤ nat_abs z → 2 ^ (p + e) ≤ nat_abs (roundℤ p z)
round-above p z e P h = grind (arith, round-nearest, pow-add, roundℤ-abs)

-- p digits hold what is rounded
pub digits-rounded : (p : ℕ) (z : ℤ) → 0 < p → HasDigits p (roundℤ p z)
digits-rounded p z P = digits_of p (roundℤ p z) (place p z) (round-place p z P) (round-below p z (place p z) P (le_of_lt (place-bound p z)))
