-- The fused sum answers a b + c wherever that is a value of f64. Assumes nothing.
use Rattle.std.specs.Prelude.{◌≡◌, ℕ, ◌*◌, ◌^◌, ◌<◌, Bool, T, ℤ, pos, ◌+ℤ◌, ◌*ℤ◌, Float}
use Rattle.std.proofs.Common.{sym, ap, ◌∙◌, mul_assoc, mul_comm, mul_right_comm, mul-pos, pow_pos}
use Rattle.std.proofs.Math.Nat.{mul-mul-mul_comm}
use Rattle.std.specs.Float.{binary64}
use Rattle.std.specs.Float.Ieee.{unlike, fits}
use Rattle.std.specs.Float.Ieee.Fits.{cond-fits, add-fits}
use Rattle.pairs.specs.Value.{Value, signed}
use Rattle.pairs.specs.Fused.{fused_sum, fused_parts}
use Rattle.pairs.proofs.Integers.{signed_mul, signed-mul-pos}
use Rattle.pairs.proofs.Units.{value-digits}
use Rattle.pairs.proofs.Fusing.{exact-fused}
use Rattle.power.specs.Rules.{FmaExact, Number, Within, IsSum, MulAdd, sign, num, den}
use Rattle.power.specs.Lemmas.Values.{den_pos, scale-sum}
use Rattle.power.specs.Lemmas.InUnits.{Counts, number_fits, count, own_value, within-moderate, within-bounded, sum_number, sum→units, units→sum}

-- the result is a value of f64
fused-fits : (a b c : Float) → T (fits binary64 (fused_sum a b c))
unfolding fused_sum fused_parts
fused-fits a b c = cond-fits binary64 _ _ _ (add-fits binary64 _ _) (add-fits binary64 _ _)

-- A / f is x / L and B / g is y / L: their product to the denominators f g h and L L
first-term : (A B f g h x y L : ℕ) → A * L ≡ x * f → B * L ≡ y * g → A * B * h * (L * L) ≡ x * y * (f * g * h)
first-term A B f g h x y L p q =
    mul_right_comm (A * B) h (L * L)
    ∙ ap (λ (n : ℕ). n * h) (mul-mul-mul_comm A B L L ∙ ap (λ (n : ℕ). n * (B * L)) p ∙ ap (λ (n : ℕ). x * f * n) q ∙ mul-mul-mul_comm x f y g)
    ∙ mul_assoc (x * y) (f * g) h

-- C / h is z / L: the same to the denominators k h and L L
second-term : (C h k z L : ℕ) → C * L ≡ z * h → C * k * (L * L) ≡ z * L * (k * h)
second-term C h k z L p =
    mul-mul-mul_comm C k L L ∙ ap (λ (n : ℕ). n * (k * L)) p ∙ ap (λ (n : ℕ). z * h * n) (mul_comm k L) ∙ mul-mul-mul_comm z h L k ∙ ap (λ (n : ℕ). z * L * n) (mul_comm h k)

-- a, b and c are x, y and z units in size
module _ (a b c : Float) (x y z : ℕ) (p : Counts a x) (q : Counts b y) (r : Counts c z) where
  abbrev L : ℕ
  L = 2 ^ 1074

  abbrev s : Bool
  s = unlike (sign a) (sign b)

  abbrev d : ℕ
  d = den a * den b * den c

  -- v is a b + c, from the units
  abbrev Sum : Float → Type 0
  Sum v = IsSum v s (x * y) (sign c) (z * L) (L * L)

  d-pos : 0 < d
  d-pos = mul-pos (mul-pos (den_pos a) (den_pos b)) (den_pos c)

  first : num a * num b * den c * (L * L) ≡ x * y * d
  first = first-term (num a) (num b) (den a) (den b) (den c) x y L p q

  second : num c * (den a * den b) * (L * L) ≡ z * L * d
  second = second-term (num c) (den c) (den a * den b) z L r

  into : (v : Float) → MulAdd a b c v → Sum v
  into v = scale-sum v s (sign c) (num a * num b * den c) (num c * (den a * den b)) d (x * y) (z * L) (L * L) d-pos (mul-pos (pow_pos 1074) (pow_pos 1074)) first second

  out : (v : Float) → Sum v → MulAdd a b c v
  out v = scale-sum v s (sign c) (x * y) (z * L) (L * L) (num a * num b * den c) (num c * (den a * den b)) d (mul-pos (pow_pos 1074) (pow_pos 1074)) d-pos (sym first) (sym second)

  -- the same integer from the signed units
  joined : signed s (x * y) +ℤ signed (sign c) (z * L) ≡ signed (sign a) x *ℤ signed (sign b) y +ℤ signed (sign c) z *ℤ pos L
  joined = ap (λ (i : ℤ). i +ℤ signed (sign c) (z * L)) (sym (signed_mul (sign a) (sign b) x y)) ∙ ap (λ (i : ℤ). signed (sign a) x *ℤ signed (sign b) y +ℤ i) (signed-mul-pos (sign c) z L)

  -- where v is a b + c, the fused sum is as many units as v
  same_units : (v : Float) (S : ℤ) → Within 400 a → Within 400 b → Within 512 c → Number v → Value binary64 v S → Sum v → Value binary64 (fused_sum a b c) S
  same_units v S A B C N V w =
      exact-fused a b c (number_fits a A.0) (number_fits b B.0) (number_fits c C.0) (within-moderate a A) (within-moderate b B) (within-bounded c C)
      (signed (sign a) x) (signed (sign b) y) (signed (sign c) z) S (own_value a x A.0 p) (own_value b y B.0 q) (own_value c z C.0 r)
      (sum→units v s (x * y) (sign c) (z * L) L S w V ∙ joined) (value-digits binary64 v S (number_fits v N) V)

  pub fused-same : (v : Float) → Within 400 a → Within 400 b → Within 512 c → MulAdd a b c v → MulAdd a b c (fused_sum a b c)
  fused-same v A B C M =
      let w = into v M in
      let N = sum_number v s (x * y) (sign c) (z * L) (L * L) w in
      let n = count v N in
      let S = signed (sign v) n.0 in
      let V = own_value v n.0 N n.1 in
      let at = sum→units v s (x * y) (sign c) (z * L) L S w V in
      out (fused_sum a b c) (units→sum (fused_sum a b c) s (x * y) (sign c) (z * L) L S (fused-fits a b c) (same_units v S A B C N V w) at)

pub fused-rule : FmaExact fused_sum
fused-rule a b c p r A B C P M =
    let x = count a A.0 in
    let y = count b B.0 in
    let z = count c C.0 in
    fused-same a b c x.0 y.0 z.0 x.1 y.1 z.1 r A B C M
