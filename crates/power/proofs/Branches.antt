-- The branches of the power: where its tests answer so, it is that branch. Assumes nothing.
use Rattle.std.proofs.Common.{◌≡◌, ℕ, ◌*◌, ◌<◌, ◌≤◌, Bool, true, false, cond, not, ◌&&◌, ◌||◌, T, ltb, ◌⊎◌, ℤ, pos, sym, refl, ap, ◌∙◌, subst, inl, inr, arith, ltb-false, ltb-true}
use mathlib.Core.Bool.{beq}
use lib.Dec.{not_T}
use lib.Ieee.{Float, nan, inf, fin, binary32, up, down, neg, mul, lt, eq, is_nan, fits, of_bits}
use lib.Ieee.Bits.{is_true, is_false}
use Rattle.std.specs.Float.{float_zero, float_one, float_is_infinite, float_with_sign, sqrt}
use Rattle.pairs.specs.Whole.{whole, odd}
use Rattle.power.specs.Backend.{Arithmetic, Scalar}
use Rattle.power.specs.Rules.{Rules, Exponent, Zero}
use Rattle.power.specs.Special.{signed, infinite_exponent, infinite_base, keeps_sign, negative_zero, zero_base}
use Rattle.power.specs.SpecialCases.{Not, Finite, Nan, At1, Positive, Negative, Whole}
use Rattle.power.specs.Whole.{whole_power, multiplies}
use Rattle.power.specs.Fast.{fast}
use Rattle.power.specs.Powf.{bounded, decided, power, ordinary, magnitude, general}
use Rattle.power.proofs.FloatTests as tests
use Rattle.power.proofs.FloatTests.{two, half, Side}

-- ---- the definition, by what its tests answer

branch : (m : Arithmetic) (x y : Float) (a b c d e : Bool)
    → (eq y float_zero || eq x float_one) ≡ a → (is_nan x || is_nan y) ≡ b → float_is_infinite y ≡ c → float_is_infinite x ≡ d → eq x float_zero ≡ e
    → power m x y ≡ cond a float_one (cond b nan (cond c (infinite_exponent x y) (cond d (infinite_base m.scalar x y) (cond e (zero_base m.scalar x y) (ordinary m x y)))))
unfolding power of_bits
branch m x y a b c d e p q r s t =
    λ i. cond (p i) float_one (cond (q i) nan (cond (r i) (infinite_exponent x y) (cond (s i) (infinite_base m.scalar x y) (cond (t i) (zero_base m.scalar x y) (ordinary m x y)))))

ordinary-branch : (m : Arithmetic) (x y : Float) (a b c : Bool) → lt x float_zero ≡ a → m.scalar.integerf y ≡ b → m.scalar.odd_integerf y ≡ c
    → ordinary m x y ≡ cond a (cond b (signed c (magnitude m (neg x) y)) nan) (magnitude m x y)
unfolding ordinary of_bits
ordinary-branch m x y a b c p q r = λ i. cond (p i) (cond (q i) (signed (r i) (magnitude m (neg x) y)) nan) (magnitude m x y)

-- by the exponents 1, 2 and 1/2, by short products, and by the rest
pub magnitude-by : (m : Arithmetic) (x y r : Float) → (eq y float_one ≡ true → x ≡ r) → (eq y two ≡ true → mul binary32 x x ≡ r) → (eq y half ≡ true → sqrt binary32 x ≡ r)
    → (multiplies m.scalar x y ≡ true → whole_power x y ≡ r) → (multiplies m.scalar x y ≡ false → general m x y ≡ r) → magnitude m x y ≡ r
unfolding magnitude of_bits
magnitude-by m x y r a b c d e = go (eq y float_one) (eq y two) (eq y half) (multiplies m.scalar x y) a b c d e
  where
    go : (p q u v : Bool) → (p ≡ true → x ≡ r) → (q ≡ true → mul binary32 x x ≡ r) → (u ≡ true → sqrt binary32 x ≡ r) → (v ≡ true → whole_power x y ≡ r) → (v ≡ false → general m x y ≡ r)
        → cond p x (cond q (mul binary32 x x) (cond u (sqrt binary32 x) (cond v (whole_power x y) (general m x y)))) ≡ r
    go true q u v a b c d e = a refl
    go false true u v a b c d e = b refl
    go false false true v a b c d e = c refl
    go false false false true a b c d e = d refl
    go false false false false a b c d e = e refl

bounded-is : (s : Bool) (p : ℕ) (g : ℤ) → bounded (fin s p g) ≡ cond (ltb (2533359616 * down g) (p * up g * 1)) (fin s 1 (pos 32)) (fin s p g)
unfolding of_bits lt neg
bounded-is true p g = refl
bounded-is false p g = refl

-- by the bound of the exponent
pub general-by : (m : Arithmetic) (x r : Float) (s : Bool) (p : ℕ) (g : ℤ) → (p * up g ≤ 2533359616 * down g → decided m (fast m.scalar x (fin s p g)) ≡ r)
    → (2533359616 * down g < p * up g → decided m (fast m.scalar x (fin s 1 (pos 32))) ≡ r) → general m x (fin s p g) ≡ r
unfolding general
general-by m x r s p g inside outside = ap (λ (y : Float). decided m (fast m.scalar x y)) (bounded-is s p g) ∙ go (ltb (2533359616 * down g) (p * up g * 1)) refl
  where
    go : (b : Bool) → ltb (2533359616 * down g) (p * up g * 1) ≡ b → decided m (fast m.scalar x (cond b (fin s 1 (pos 32)) (fin s p g))) ≡ r
    go true e = let h = ltb-true (2533359616 * down g) (p * up g * 1) e in outside (omega arith)
    go false e = let h = ltb-false (2533359616 * down g) (p * up g * 1) e in inside (omega arith)

pub infinite-exponent-branch : (x y : Float) (a b c : Bool) → eq (float_with_sign false x) float_one ≡ a → lt float_one (float_with_sign false x) ≡ b → lt float_zero y ≡ c
    → infinite_exponent x y ≡ cond a float_one (cond (beq b c) (inf false) float_zero)
unfolding of_bits
infinite-exponent-branch x y a b c p q r = λ i. cond (p i) float_one (cond (beq (q i) (r i)) (inf false) float_zero)

infinite-base-branch : (m : Scalar) (x y : Float) (a b : Bool) → lt x float_zero ≡ a → m.odd_integerf y ≡ b
    → infinite_base m x y ≡ signed (a && b) (cond (lt float_zero y) (inf false) float_zero)
unfolding of_bits
infinite-base-branch m x y a b p q = λ i. signed (p i && q i) (cond (lt float_zero y) (inf false) float_zero)

zero-base-branch : (m : Scalar) (x y : Float) (a b : Bool) → lt y float_zero ≡ a → (negative_zero x && keeps_sign m y) ≡ b
    → zero_base m x y ≡ cond a (inf false) (signed b float_zero)
unfolding of_bits
zero-base-branch m x y a b p q = λ i. cond (p i) (inf false) (signed (q i) float_zero)

-- ---- the power

pub exponent : (y : Float) → T (fits binary32 y) → Finite y → Not (Zero y) → Exponent y
exponent nan t F N = F
exponent (inf s) t F N = F
exponent (fin s m e) t F N = (t, omega (arith, N))

pub at-zero-exponent : (m : Arithmetic) (x y : Float) → Zero y → power m x y ≡ float_one
at-zero-exponent m x y Z =
    branch m x y true (is_nan x || is_nan y) (float_is_infinite y) (float_is_infinite x) (eq x float_zero) (ap (λ (b : Bool). b || eq x float_one) (tests.eq-zero y Z)) refl refl refl refl

pub at-unit-base : (m : Arithmetic) (x y : Float) → x ≡ float_one → power m x y ≡ float_one
at-unit-base m x y e =
    branch m x y true (is_nan x || is_nan y) (float_is_infinite y) (float_is_infinite x) (eq x float_zero) (tests.second (eq y float_zero) (eq x float_one) (tests.eq-one x e)) refl refl refl refl

neither : (a b : Bool) → a ≡ false → b ≡ false → (a || b) ≡ false
neither a b p q = λ i. p i || q i

at-nan : (m : Arithmetic) (x y : Float) → eq y float_zero ≡ false → eq x float_one ≡ false → (is_nan x || is_nan y) ≡ true → power m x y ≡ nan
at-nan m x y p q h = branch m x y false true (float_is_infinite y) (float_is_infinite x) (eq x float_zero) (neither (eq y float_zero) (eq x float_one) p q) h refl refl refl

pub at-nan-base : (m : Arithmetic) (y : Float) → Not (Zero y) → power m nan y ≡ nan
at-nan-base m y N = at-nan m nan y (tests.not-eq-zero y N) (unfold eq in refl) (unfold is_nan in refl)

pub at-nan-exponent : (m : Arithmetic) (x : Float) → T (fits binary32 x) → Not (x ≡ float_one) → power m x nan ≡ nan
at-nan-exponent m x X N = at-nan m x nan (unfold eq in refl) (tests.not-eq-one x X N) (tests.second (is_nan x) (is_nan nan) (unfold is_nan in refl))

-- an infinite exponent; at 1 the answers agree
pub at-infinite-exponent : (m : Arithmetic) (x : Float) (s : Bool) → T (fits binary32 x) → Not (Nan x) → power m x (inf s) ≡ infinite_exponent x (inf s)
at-infinite-exponent m x s X N = go (tests.one-or-not x X)
  where
    go : (x ≡ float_one) ⊎ (eq x float_one ≡ false) → power m x (inf s) ≡ infinite_exponent x (inf s)
    go (inl e) =
        at-unit-base m x (inf s) e
        ∙ sym (infinite-exponent-branch x (inf s) true (lt float_one (float_with_sign false x)) (lt float_zero (inf s)) (tests.size-at-one x (subst At1 (sym e) refl)) refl refl)
    go (inr q) =
        branch m x (inf s) false false true (float_is_infinite x) (eq x float_zero) (neither (eq (inf s) float_zero) (eq x float_one) (unfold eq in refl) q)
        (neither (is_nan x) (is_nan (inf s)) (tests.number-is x N) (unfold is_nan in refl)) (tests.infinite-is s) refl refl

finite-not-nan : (x : Float) → Finite x → is_nan x ≡ false
finite-not-nan x F = tests.number-is x (tests.not-nan Finite (λ z. z) x F)

-- an infinite base; the answer is negative if the base is and the exponent is odd
pub at-infinite-base : (m : Arithmetic) → Rules m → (s : Bool) (y : Float) → T (fits binary32 y) → Finite y → Not (Zero y)
    → power m (inf s) y ≡ signed (s && odd y) (cond (lt float_zero y) (inf false) float_zero)
at-infinite-base m R s y Y F N =
    branch m (inf s) y false false false true (eq (inf s) float_zero) (neither (eq y float_zero) (eq (inf s) float_one) (tests.not-eq-zero y N) (unfold eq in refl))
    (neither (is_nan (inf s)) (is_nan y) (unfold is_nan in refl) (finite-not-nan y F)) (tests.finite-not-infinite y F) (tests.infinite-is s) refl
    ∙ infinite-base-branch m.scalar (inf s) y s (odd y) (unfold lt in refl) (R.scalar.odd_told y (exponent y Y F N))

-- a finite base other than 1 and a finite exponent other than 0
at-finite : (m : Arithmetic) (x y : Float) (e : Bool) → Finite x → eq x float_one ≡ false → Finite y → Not (Zero y) → eq x float_zero ≡ e
    → power m x y ≡ cond e (zero_base m.scalar x y) (ordinary m x y)
at-finite m x y e F p G N q =
    branch m x y false false false false e (neither (eq y float_zero) (eq x float_one) (tests.not-eq-zero y N) p)
    (neither (is_nan x) (is_nan y) (finite-not-nan x F) (finite-not-nan y G)) (tests.finite-not-infinite y G) (tests.finite-not-infinite x F) q

-- a zero base; the answer is a zero for a positive exponent and ∞ for a negative one
pub at-zero-base : (m : Arithmetic) (x y : Float) (p b : Bool) → Zero x → Finite x → Finite y → Side p y → (negative_zero x && keeps_sign m.scalar y) ≡ b
    → power m x y ≡ cond (not p) (inf false) (signed b float_zero)
at-zero-base m x y p b Z F G P q =
    at-finite m x y true F (tests.zero-eq-one x Z) G (tests.not-zero p y P) (tests.eq-zero x Z) ∙ zero-base-branch m.scalar x y (not p) b (tests.lt-zero p y P) q

pub at-ordinary : (m : Arithmetic) (x y : Float) → Finite x → Not (Zero x) → eq x float_one ≡ false → Finite y → Not (Zero y) → power m x y ≡ ordinary m x y
at-ordinary m x y F K p G N = at-finite m x y false F p G N (tests.not-eq-zero x K)

-- ---- finite bases and exponents other than 0

pub ordinary-positive : (m : Arithmetic) (x y : Float) → Positive x → ordinary m x y ≡ magnitude m x y
ordinary-positive m x y P = ordinary-branch m x y false (m.scalar.integerf y) (m.scalar.odd_integerf y) (tests.lt-zero true x P) refl refl

pub ordinary-negative : (m : Arithmetic) → Rules m → (x y : Float) → Negative x → Exponent y → Whole y → ordinary m x y ≡ signed (odd y) (magnitude m (neg x) y)
ordinary-negative m R x y P E W =
    ordinary-branch m x y true true (odd y) (tests.lt-zero false x P) (R.scalar.whole_told y E ∙ is_true (whole y) W) (R.scalar.odd_told y E)

pub ordinary-fractional : (m : Arithmetic) → Rules m → (x y : Float) → Negative x → Exponent y → Not (Whole y) → ordinary m x y ≡ nan
ordinary-fractional m R x y P E W =
    ordinary-branch m x y true false (odd y) (tests.lt-zero false x P) (R.scalar.whole_told y E ∙ is_false (whole y) (not_T (whole y) W)) (R.scalar.odd_told y E)
