-- On every backend that keeps the rules, the fast path is exact at a power of two whose exponent product is whole.
use Rattle.std.proofs.Common.{◌≡◌, ℕ, suc, ◌-◌, ◌*◌, ◌^◌, ◌<◌, ◌≤◌, min, false, cond, T, ◌⊎◌, ℤ, pos, negsuc, nat_abs, sym, ap, ◌∙◌, subst, inl, inr, eq-zero-or-pos, arith}
use native.Mathlib.Nat.{min-eq_left, min-eq_right}
use lib.Ieee as Ieee
use lib.Ieee.{Float, nan, fin, binary32, binary64, up, down, round, fits}
use Rattle.std.specs.Float.{round_to_format}
use Rattle.power.specs.Backend.{Scalar}
use Rattle.power.specs.Rules.{ScalarRules, Number, num, den}
use Rattle.power.specs.Lookup.{f64}
use Rattle.power.specs.ExactCases.{Times}
use Rattle.power.specs.Reduction.{normalize, reduce}
use Rattle.power.specs.Fast.{log, y64, rest_high, rest, count, scale, exp_poly, tested, fast}
use Rattle.power.specs.declared.fast.Doubt.{Doubt}
use Rattle.std.specs.Prelude.{Ok, Err}
use Rattle.power.specs.Lemmas.Values.{number}
use Rattle.power.specs.Lemmas.Alike.{IsZero}
use Rattle.power.specs.Lemmas.Zeros.{mul-one-left}
use Rattle.power.proofs.FloatTests.{number-is, not-nan}
use Rattle.power.proofs.Multiples.{negative}
use Rattle.power.proofs.NoRest.{NoRest}
use Rattle.power.proofs.PowerReduction.{At, power-reduced}
use Rattle.power.proofs.Stages.{Multiplied, multiplied, round_is, rest-high-zero, rest-zero, exp-poly-zero}
use Rattle.power.proofs.Scaling.{field, field-range, count-is, scale-is}
use Rattle.power.proofs.Powers.{field-value, held-rounded, field-number}
use Rattle.power.proofs.Neighbours.{tested-sure, tested-tie}

-- the stages, from the first reduction to the test
staged : (m : Scalar) → ScalarRules m → (k j : ℤ) (x y : Float) → At k (reduce m (normalize x)) → Multiplied k j (y64 y)
    → (d : Doubt) × (fast m x y ≡ tested m.err (f64 (field j * 2 ^ 52)) d) × NoRest (suc (field j) * 64) d
unfolding fast
staged m K k j x y A M =
    let r = reduce m (normalize x) in
    let y6 = y64 y in
    let h = m.round (Ieee.mul binary64 (log m r) y6) in
    let high = rest_high m r y6 h in
    let H = round_is m K k j r y6 A M in
    let Z : IsZero high = rest-high-zero m K k j r y6 h A M H in
    let c = count-is h j H in
    let range = field-range j in
    let p = f64 (field j * 2 ^ 52) in
    let d : Doubt = record { reduced = r; y6 = y6; high = high; count = count h } in
    let same : Ieee.mul binary64 (exp_poly m (rest m r y6 high)) (scale (count h)) ≡ p =
    (λ i. Ieee.mul binary64 (exp-poly-zero m K (rest m r y6 high) (rest-zero m K k r y6 high A M.within Z) i) ((ap scale c ∙ scale-is (field j) range.0 range.1) i))
    ∙ mul-one-left p (field-number j) in (
      d,
      (λ i. cond (number-is h (not-nan Number (λ z. z) h (number h (negative j) (nat_abs j * 64) 1 H)) i) (Ok nan) (tested m.err (same i) d)),
      record { index = A.index; dx = A.dx; y6 = M.within; high = Z; count = c },
    )

reached : (m : Scalar) → ScalarRules m → (x y : Float) (k j : ℤ) → T (fits binary32 x) → T (fits binary32 y) → x ≡ fin false 1 k → num y ≤ 2 ^ 32 * den y → Times k y j
    → (d : Doubt) × (fast m x y ≡ tested m.err (f64 (field j * 2 ^ 52)) d) × NoRest (suc (field j) * 64) d
reached m K x y k j X Y e l t =
    let A : At k (reduce m (normalize (fin false 1 k))) = power-reduced m K k (subst (λ (z : Float). T (fits binary32 z)) e X) in
    staged m K k j x y (subst (λ (z : Float). At k (reduce m (normalize z))) (sym e) A) (multiplied k j y A.few Y l t)

-- only -150 has the field of 2^-150
only-tie : (j : ℤ) → field j ≡ 873 → j ≡ negsuc 149
only-tie (pos a) e = absurd (omega arith)
only-tie (negsuc a) e = go (eq-zero-or-pos (a - 511))
  where
    go : (a - 511 ≡ 0) ⊎ (0 < a - 511) → negsuc a ≡ negsuc 149
    go (inl z) = let h : min a 511 ≡ a = min-eq_left (omega arith) in ap negsuc (omega arith)
    go (inr p) = let h : min a 511 ≡ 511 = min-eq_right (omega arith) in absurd (omega arith)

-- 2^j, rounded once
pub fast-exact : (m : Scalar) → ScalarRules m → (x y : Float) (k j : ℤ) → T (fits binary32 x) → T (fits binary32 y) → x ≡ fin false 1 k → num y ≤ 2 ^ 32 * den y → Times k y j
    → (j ≡ negsuc 149 → ⊥) → fast m x y ≡ Ok (round binary32 false (1 * up j) (down j))
fast-exact m K x y k j X Y e l t away =
    let R = reached m K x y k j X Y e l t in
    let range = field-range j in
    R.1 ∙ tested-sure m.err (field j) R.0 K.err_most range.0 range.1 (λ q. away (only-tie j q))
    ∙ ap (λ (v : Float). Ok (round_to_format binary32 v)) (field-value j) ∙ ap Ok (held-rounded j)

-- 2^-150, the tie of 0 and the smallest f32, is left open
pub fast-tie : (m : Scalar) → ScalarRules m → (x y : Float) (k j : ℤ) → T (fits binary32 x) → T (fits binary32 y) → x ≡ fin false 1 k → num y ≤ 2 ^ 32 * den y → Times k y j
    → j ≡ negsuc 149 → (d : Doubt) × (fast m x y ≡ Err d) × NoRest 55936 d
fast-tie m K x y k j X Y e l t at =
    let R = reached m K x y k j X Y e l t in
    let d = R.0 in
    let f : field j ≡ 873 = ap field at in (
      d,
      R.1 ∙ ap (λ (c : ℕ). tested m.err (f64 (c * 2 ^ 52)) d) f ∙ tested-tie m.err d K.err_least K.err_most,
      subst (λ (c : ℕ). NoRest (suc c * 64) d) f R.2,
    )
