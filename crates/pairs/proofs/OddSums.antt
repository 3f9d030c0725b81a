-- The sum rounded to odd, from the tests that the code makes of the sum and of what its rounding lost.
use Rattle.std.proofs.Common.{◌≡◌, ℕ, zero, suc, ◌+◌, ◌-◌, ◌*◌, ◌%◌, ◌^◌, ◌<◌, ◌≤◌, Bool, true, false, cond, ◌||◌, T, eqb, ltb, ℤ, pos, negsuc, ◌+ℤ◌, neg_ℤ, nat_abs, sym, refl, ap, ◌∙◌, subst, true≢false, arith, pow_pos, eqb-true}
use mathlib.Core.Bool.{beq}
use borrow.Author.Differences.{ints}
use borrow.Author.Tests.{eqb-false}
use lib.Ieee.{Float, nan, inf, fin, binary64, up, down, lt, eq, to_bits, of_bits, is_nan, fits}
use lib.Ieee.Fits.{down_pos}
use lib.Ieee.Bits.{is_true, is_false}
use Rattle.pairs.specs.Value.{signed, Value, roundℕ, roundℤ, place, Bounded, Exactly}
use Rattle.pairs.specs.DoubleDouble.{full_exact_add}
use Rattle.pairs.specs.Fused as Fused
use Rattle.pairs.specs.Fused.{towards, add_odd, itself, Odd, OddSum}
use Rattle.pairs.proofs.Integers.{is_neg, signed-own, signed-abs, signed-zero}
use Rattle.pairs.proofs.Nearest.{place-le, roundℤ-own}
use Rattle.pairs.proofs.Sums.{bounded, widen, full-add-fits, full-exact-add}
use Rattle.pairs.proofs.Neighbours.{has-no-nan, rounded-pos, odd-stays, odd-above, odd-below}

-- ---- comparisons with 0

-- the literal 0.0
zero_is : Fused.zero ≡ fin false 0 (pos 0)
unfolding of_bits
zero_is = refl

-- x and its units are 0 together
none_of : (n c q L : ℕ) → 0 < c → q * L ≡ n * c → q ≡ 0 → n ≡ 0
none_of n c q L C h e = grind arith

-- z > 0
positive : ℤ → Bool
positive (pos zero) = false
positive (pos (suc n)) = true
positive (negsuc n) = false

-- a negative number is not above 0
positive-neg : (n : ℕ) → positive (neg_ℤ (pos n)) ≡ false
unfolding positive
positive-neg zero = refl
positive-neg (suc n) = refl

-- a size is above 0 where another is
positive-size : (q n : ℕ) → (q ≡ 0 → n ≡ 0) → (n ≡ 0 → q ≡ 0) → ltb 0 q ≡ positive (pos n)
unfolding positive
positive-size q zero a b = ap (ltb 0) (b refl)
positive-size zero (suc n) a b = grind arith
positive-size (suc q) (suc n) a b = grind (arith, is_true)

-- `x > 0.0` by sign and size
lt-fin : (r s : Bool) (m n : ℕ) (e : ℤ) → r ≡ s → m * up e * 2 ^ 1074 ≡ n * down e → lt (fin false 0 (pos 0)) (fin r m e) ≡ positive (signed s n)
unfolding lt
lt-fin true true m n e p h = sym (positive-neg n)
lt-fin true false m n e p h = absurd (true≢false p)
lt-fin false true m n e p h = absurd (true≢false (sym p))
lt-fin false false m n e p h = grind (arith, positive-size, none_of, down_pos, pow_pos)

-- the test `x > 0.0`
lt-zero : (x : Float) (z : ℤ) → Value binary64 x z → lt Fused.zero x ≡ positive z
lt-zero nan z v = absurd v.has
lt-zero (inf s) z v = absurd v.has
lt-zero (fin r m e) z v = grind (arith, zero_is, lt-fin, positive)

-- `x == 0.0` says that the size is 0
eq-fin : (r : Bool) (m : ℕ) (e : ℤ) → eq (fin r m e) (fin false 0 (pos 0)) ≡ true → m * up e ≡ 0
unfolding eq
eq-fin r m e h = grind arith

-- and is said where it is
fin-eq : (r : Bool) (m : ℕ) (e : ℤ) → m * up e ≡ 0 → eq (fin r m e) (fin false 0 (pos 0)) ≡ true
unfolding eq
fin-eq r m e h = grind arith

-- the test `x == 0.0`
pub eq-zero : (x : Float) (z : ℤ) → Value binary64 x z → eq x Fused.zero ≡ true → z ≡ pos 0
eq-zero nan z v h = absurd v.has
eq-zero (inf s) z v h = absurd v.has
eq-zero (fin r m e) z v h = grind (arith, none_of, down_pos, eq-fin, zero_is, signed-zero)

-- its denial
ne-zero : (x : Float) (z : ℤ) → Value binary64 x z → eq x Fused.zero ≡ false → ¬ (z ≡ pos 0)
ne-zero nan z v h p = absurd v.has
ne-zero (inf s) z v h p = absurd v.has
ne-zero (fin r m e) z v h p = grind (arith, signed-abs, fin-eq, none_of, pow_pos, zero_is)

-- the sum and the rounded sum have one sign, so whether the rest E has it too says on which side the sum lies
sides : (s : Bool) (a n : ℕ) (E : ℤ) → signed s (suc a) +ℤ E ≡ signed s n → ¬ (E ≡ pos 0) → (beq (positive (signed s (suc a))) (positive E) ≡ true → suc a < n) × (beq (positive (signed s (suc a))) (positive E) ≡ false → n < suc a)
unfolding positive
sides s a n (pos zero) e h = absurd (h refl)
sides false a n (pos (suc k)) e h = grind (arith, ints)
sides false a n (negsuc k) e h = grind (arith, ints)
sides true a n (pos (suc k)) e h = grind (arith, ints)
sides true a n (negsuc k) e h = grind (arith, ints)

-- ---- each way through the code: s and t are the sum z and what it lost

module _ (s t : Float) (z : ℤ) (f : T (fits binary64 s)) (e : Exactly z s t) (b : nat_abs z < 2 ^ 2090) where
  -- the last place is far below overflow
  in_place : 53 + place 53 z < 2098
  in_place = grind (arith, place-le)

  -- s is z rounded
  rounded : Value binary64 s (roundℤ 53 z)
  rounded = subst (Value binary64 s) e.nearest e.h_is

  -- where t is 0, s is z
  nothing-lost : eq t Fused.zero ≡ true → Odd z s
  nothing-lost h = record { units = e.H; is = e.h_is; odd = itself (done e.H e.L z e.exact (eq-zero t e.L e.l_is h)) }
    where
      done : (S E z : ℤ) → S +ℤ E ≡ z → E ≡ pos 0 → S ≡ z
      done S E z a b = omega (arith, ints)

  -- where it is not, s is not z
  inexact : eq t Fused.zero ≡ false → ¬ (roundℤ 53 z ≡ z)
  inexact h p = ne-zero t e.L e.l_is h (done e.H e.L z e.exact (e.nearest ∙ p))
    where
      done : (S E z : ℤ) → S +ℤ E ≡ z → S ≡ z → E ≡ pos 0
      done S E z a b = omega (arith, ints)

  -- the signs of s and t say on which side of s the sum z lies
  side : eq t Fused.zero ≡ false → (beq (lt Fused.zero s) (lt Fused.zero t) ≡ true → nat_abs (roundℤ 53 z) < nat_abs z) × (beq (lt Fused.zero s) (lt Fused.zero t) ≡ false → nat_abs z < nat_abs (roundℤ 53 z))
  side h = go (roundℕ 53 (nat_abs z)) (rounded-pos s z f rounded in_place (inexact h)) (roundℤ-own 53 z (omega arith))
    where
      go : (a : ℕ) → 0 < a → roundℤ 53 z ≡ signed (is_neg z) a → (beq (lt Fused.zero s) (lt Fused.zero t) ≡ true → nat_abs (roundℤ 53 z) < nat_abs z) × (beq (lt Fused.zero s) (lt Fused.zero t) ≡ false → nat_abs z < nat_abs (roundℤ 53 z))
      go zero p q = absurd (omega arith)
      go (suc a) p q =
          let w : beq (lt Fused.zero s) (lt Fused.zero t) ≡ beq (positive (signed (is_neg z) (suc a))) (positive e.L) = grind (arith, lt-zero, positive) in
          let r = sides (is_neg z) a (nat_abs z) e.L (ap (λ (u : ℤ). u +ℤ e.L) (sym (e.nearest ∙ q)) ∙ e.exact ∙ signed-own z) (ne-zero t e.L e.l_is h) in
          let k : nat_abs (roundℤ 53 z) ≡ suc a = grind arith in
          (λ x. subst (λ (m : ℕ). m < nat_abs z) (sym k) (r.0 (sym w ∙ x)), λ x. subst (λ (m : ℕ). nat_abs z < m) (sym k) (r.1 (sym w ∙ x)))

  -- the value that the tests choose is z rounded to odd
  chosen : Odd z (cond (eq t Fused.zero || is_nan t || eqb (to_bits binary64 s % 2) 1) s (of_bits binary64 (towards s t)))
  chosen = go (eq t Fused.zero) (is_nan t) (eqb (to_bits binary64 s % 2) 1) (beq (lt Fused.zero s) (lt Fused.zero t)) refl (is_false _ (has-no-nan t _ _ _ e.l_is.has)) refl refl
    where
      even : (n : ℕ) → ¬ (n % 2 ≡ 1) → n % 2 ≡ 0
      even n h = omega arith

      go : (p q r u : Bool) → eq t Fused.zero ≡ p → q ≡ false → eqb (to_bits binary64 s % 2) 1 ≡ r → beq (lt Fused.zero s) (lt Fused.zero t) ≡ u
          → Odd z (cond (p || q || r) s (of_bits binary64 (cond u (to_bits binary64 s + 1) (to_bits binary64 s - 1))))
      go true q r u h k o w = nothing-lost h
      go false true r u h k o w = absurd (true≢false k)
      go false false true u h k o w = odd-stays s z f rounded in_place (inexact h) (eqb-true (to_bits binary64 s % 2) 1 o)
      go false false false true h k o w = odd-above s z f rounded in_place (inexact h) (even (to_bits binary64 s) (eqb-false (to_bits binary64 s % 2) 1 o)) ((side h).0 w)
      go false false false false h k o w = odd-below s z f rounded in_place (inexact h) (even (to_bits binary64 s) (eqb-false (to_bits binary64 s % 2) 1 o)) ((side h).1 w)

-- ---- with the bounds of the operands

-- a bound on the sum
sum_below : (x y : ℤ) → nat_abs x ≤ 2 ^ 2080 → nat_abs y ≤ 2 ^ 2080 → nat_abs (x +ℤ y) < 2 ^ 2090
sum_below x y h k = grind arith

-- the contract of `add_odd`
pub add-odd : (a b : Float) → T (fits binary64 a) → T (fits binary64 b) → Bounded 2080 a → Bounded 2080 b → OddSum a b (add_odd a b)
unfolding add_odd
add-odd a b ta tb x y X Y va vb =
    chosen (full_exact_add a b).hi (full_exact_add a b).lo (X +ℤ Y) (full-add-fits a b).0
    (full-exact-add a b ta tb (widen 2080 2090 a (omega arith) x) (widen 2080 2090 b (omega arith) y) X Y va vb)
    (sum_below X Y (bounded 2080 a X x va) (bounded 2080 b Y y vb))
