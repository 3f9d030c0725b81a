-- The sum of two values with its remainder is exact, whichever is larger.
use Rattle.std.proofs.Common.{rules, ℕ, suc, ◌+◌, ◌^◌, ◌<◌, ◌≤◌, T, ℤ, ◌+ℤ◌, ◌-ℤ◌, nat_abs, refl, ap, ◌∙◌, subst, arith, pow_mono}
use lib.Ieee.{Float, Format, binary64, prec, emax, low, add, sub, fits}
use lib.Ieee.Fits.{add-fits}
use Rattle.pairs.specs.Value.{Value, roundℤ, Bounded, Exactly, AddsTo}
use Rattle.pairs.specs.DoubleDouble.{plus, minus, full_exact_add}
use Rattle.pairs.proofs.Powers.{double-next}
use Rattle.pairs.proofs.Integers.{sum-le, sub-le, rejoin}
use Rattle.pairs.proofs.Nearest.{round-below}
use Rattle.pairs.proofs.Units.{prec-pos, value-unique, value-digits, in-range, add-value, sub-value}
use Rattle.pairs.proofs.Remainders.{remainder, remainder_is}

module _ (f : Format) where
  -- x is z units, at most 2^(prec + n) of them
  record Step (x : Float) (z : ℤ) (n : ℕ) : Type 0 where
    at : Value f x z
    bound : nat_abs z ≤ 2 ^ (prec f + n)

  -- a sum is at most twice as large as its terms
  add_step : (x y : Float) (X Y : ℤ) (n : ℕ) → Step x X n → Step y Y n → prec f + suc n < low f + suc (emax f) → Step (add f x y) (roundℤ (prec f) (X +ℤ Y)) (suc n)
  add_step x y X Y n v w b = search (rules, sum-le, double-next, add-value, in-range, round-below, prec-pos)

  -- and so is a difference
  sub-step : (x y : Float) (X Y : ℤ) (n : ℕ) → Step x X n → Step y Y n → prec f + suc n < low f + suc (emax f) → Step (sub f x y) (roundℤ (prec f) (X -ℤ Y)) (suc n)
  sub-step x y X Y n v w b = search (rules, sub-le, double-next, sub-value, in-range, round-below, prec-pos)

  -- a larger bound
  up_step : (x : Float) (X : ℤ) (m n : ℕ) → m ≤ n → Step x X m → Step x X n
  up_step x X m n h v = grind (arith, pow_mono)

-- the six operations in units
exact-sum : (a b : Float) (X Y : ℤ) → T (fits binary64 a) → T (fits binary64 b) → Value binary64 a X → Value binary64 b Y → nat_abs X ≤ 2 ^ 2090 → nat_abs Y ≤ 2 ^ 2090 → Exactly (X +ℤ Y) (full_exact_add a b).hi (full_exact_add a b).lo
unfolding full_exact_add
exact-sum a b X Y ta tb va vb ha hb =
    let f = binary64 in
    let s = plus a b in
    let S = roundℤ 53 (X +ℤ Y) in
    let bb = minus s a in
    let B = roundℤ 53 (S -ℤ X) in
    let aa = minus s bb in
    let A = roundℤ 53 (S -ℤ B) in
    let A0 : Step f a X 2037 = record { at = va; bound = ha } in
    let B0 : Step f b Y 2037 = record { at = vb; bound = hb } in
    let S1 = add_step f a b X Y 2037 A0 B0 (omega arith) in
    let B2 = sub-step f s a S X 2038 S1 (up_step f a X 2037 2038 (omega arith) A0) (omega arith) in
    let A3 = sub-step f s bb S B 2039 (up_step f s S 2038 2039 (omega arith) S1) B2 (omega arith) in
    let D4 = sub-step f a aa X A 2040 (up_step f a X 2037 2040 (omega arith) A0) A3 (omega arith) in
    let D3 = sub-step f b bb Y B 2039 (up_step f b Y 2037 2039 (omega arith) B0) B2 (omega arith) in
    let R = add_step f (minus a aa) (minus b bb) (roundℤ 53 (X -ℤ A)) (roundℤ 53 (Y -ℤ B)) 2041 D4 (up_step f (minus b bb) (roundℤ 53 (Y -ℤ B)) 2040 2041 (omega arith) D3) (omega arith) in
    record {
      H = S;
      L = remainder 53 X Y;
      h_is = S1.at;
      l_is = R.at;
      nearest = refl;
      exact = ap (λ (z : ℤ). S +ℤ z) (remainder_is 53 X Y (omega arith) (value-digits f a X ta va) (value-digits f b Y tb vb)) ∙ rejoin (X +ℤ Y) S;
    }

-- a bounded value is bounded in whatever units it is given
pub bounded : (q : ℕ) (a : Float) (X : ℤ) → Bounded q a → Value binary64 a X → nat_abs X ≤ 2 ^ q
bounded q a X b v = subst (λ (z : ℤ). nat_abs z ≤ 2 ^ q) (value-unique binary64 a b.units X b.is v) b.small

-- the contract of `from_full_exact_add`
pub full-exact-add : (a b : Float) → T (fits binary64 a) → T (fits binary64 b) → Bounded 2090 a → Bounded 2090 b → AddsTo a b (full_exact_add a b).hi (full_exact_add a b).lo
full-exact-add a b ta tb x y X Y va vb = search (rules, exact-sum, bounded)

-- the sum and its remainder fit
pub full-add-fits : (a b : Float) → T (fits binary64 (full_exact_add a b).hi) × T (fits binary64 (full_exact_add a b).lo)
unfolding full_exact_add
full-add-fits a b = grind (arith, add-fits)

-- a larger bound
pub widen : (q r : ℕ) (x : Float) → q ≤ r → Bounded q x → Bounded r x
widen q r x h b = grind (arith, pow_mono)
