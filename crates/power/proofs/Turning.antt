-- Powers of opposite bases under one whole exponent: equal, or opposite if the exponent is odd. Assumes nothing.
use Rattle.std.proofs.Common.{◌≡◌, ℕ, ◌*◌, ◌/◌, ◌%◌, ◌<◌, Bool, true, false, cond, not, ◌&&◌, T, eqb, ℤ, sym, refl, ap, ◌∙◌, ⊎_elim, eq-zero-or-pos, arith}
use lib.Dec.{not_T}
use lib.Ieee.{Float, nan, inf, fin, binary32, up, down, neg, lt, fits}
use lib.Ieee.Bits.{is_true, is_false}
use lib.Ieee.Fits.{and_l, neg-fits}
use Rattle.std.specs.Float.{float_zero, float_with_sign}
use Rattle.pairs.specs.Whole.{whole, odd}
use Rattle.power.specs.Backend.{Arithmetic}
use Rattle.power.specs.Rules.{Rules, Zero}
use Rattle.power.specs.Special.{signed}
use Rattle.power.specs.SpecialCases.{Not, Finite, Whole, Odd}
use Rattle.power.specs.Opposites.{SameMagnitude, Opposite}
use Rattle.power.specs.Powf.{power, magnitude}
use Rattle.power.proofs.FloatTests as tests
use Rattle.power.proofs.Branches as branches
use Rattle.power.proofs.ExactPowers.{positive-base}

-- ---- signs

neg-neg : (x : Float) → neg (neg x) ≡ x
unfolding neg
neg-neg nan = refl
neg-neg (inf true) = refl
neg-neg (inf false) = refl
neg-neg (fin true m e) = refl
neg-neg (fin false m e) = refl

-- turned for an odd exponent, from either of two opposite bases
turned-back : (o : Bool) (x : Float) → x ≡ signed o (signed o x)
turned-back true x = sym (neg-neg x)
turned-back false x = refl

turned-base : (s o : Bool) (x : Float) → signed (not s && o) x ≡ signed o (signed (s && o) x)
turned-base true o x = turned-back o x
turned-base false o x = refl

signed-nan : (o : Bool) → signed o nan ≡ nan
unfolding neg
signed-nan true = refl
signed-nan false = refl

signed-size : (o : Bool) (x : Float) → SameMagnitude x (signed o x)
unfolding neg float_with_sign
signed-size false x = refl
signed-size true nan = refl
signed-size true (inf s) = refl
signed-size true (fin s m e) = refl

-- ---- a base other than 0

negative-base : (m : Arithmetic) → Rules m → (k : ℕ) (e : ℤ) (y : Float) → T (fits binary32 (fin true k e)) → 0 < k → T (fits binary32 y) → Finite y → Not (Zero y) → Whole y
    → power m (fin true k e) y ≡ signed (odd y) (magnitude m (fin false k e) y)
unfolding neg
negative-base m R k e y X h Y F N W =
    let x = fin true k e in
    branches.at-ordinary m x y tt (λ z. omega arith) (tests.negative-not-one x X (refl, h)) F N
    ∙ branches.ordinary-negative m R x y (refl, h) (branches.exponent y Y F N) W

turned-other : (m : Arithmetic) → Rules m → (x y : Float) → T (fits binary32 x) → T (fits binary32 y) → Not (Zero x) → Finite y → Not (Zero y) → Whole y
    → power m (neg x) y ≡ signed (odd y) (power m x y)
unfolding neg
turned-other m R nan y X Y K F N W = branches.at-nan-base m y N ∙ sym (ap (signed (odd y)) (branches.at-nan-base m y N) ∙ signed-nan (odd y))
turned-other m R (inf s) y X Y K F N W =
    branches.at-infinite-base m R (not s) y Y F N ∙ turned-base s (odd y) (cond (lt float_zero y) (inf false) float_zero) ∙ ap (signed (odd y)) (sym (branches.at-infinite-base m R s y Y F N))
turned-other m R (fin false k e) y X Y K F N W =
    let h : 0 < k = omega (arith, K) in
    negative-base m R k e y (neg-fits binary32 (fin false k e) X) h Y F N W ∙ ap (signed (odd y)) (sym (positive-base m R (fin false k e) y X Y tt (refl, h) F N))
turned-other m R (fin true k e) y X Y K F N W =
    let h : 0 < k = omega (arith, K) in
    positive-base m R (fin false k e) y (neg-fits binary32 (fin true k e) X) Y tt (refl, h) F N ∙ turned-back (odd y) (magnitude m (fin false k e) y)
    ∙ ap (signed (odd y)) (sym (negative-base m R k e y X h Y F N W))

-- the exponent 0
turned_zero : (m : Arithmetic) (x y : Float) → Zero y → power m (neg x) y ≡ signed (odd y) (power m x y)
turned_zero m x y Z = branches.at-zero-exponent m (neg x) y Z ∙ sym (λ i. signed ((tests.zero-whole y Z).1 i) (branches.at-zero-exponent m x y Z i))

turned : (m : Arithmetic) → Rules m → (x y : Float) → T (fits binary32 x) → T (fits binary32 y) → Not (Zero x) → Finite y → Whole y
    → power m (neg x) y ≡ signed (odd y) (power m x y)
turned m R x nan X Y K F W = absurd F
turned m R x (inf s) X Y K F W = absurd F
turned m R x (fin s k e) X Y K F W =
    let y = fin s k e in
    ⊎_elim (λ z. turned_zero m x y z) (λ h. turned-other m R x y X Y K F (λ z. omega arith) W) (eq-zero-or-pos k)

odd-whole : (y : Float) → Odd y → Whole y
odd-whole nan O = O
odd-whole (inf s) O = O
odd-whole (fin s k e) O = and_l (whole (fin s k e)) (eqb (k * up e / down e % 2) 1) O

pub opposite : (m : Arithmetic) → Rules m → (x y : Float) → T (fits binary32 x) → T (fits binary32 y) → Opposite x y (power m x y) (power m (neg x) y)
opposite m R x y X Y =
    let r = power m x y in
    let t = power m (neg x) y in
    let o = odd y in
    let is : Not (Zero x) → Finite y → Whole y → t ≡ signed o r = turned m R x y X Y in
    record {
      both_or_neither = λ K F W. (
        λ h. is K F W ∙ ap (signed o) h ∙ signed-nan o,
        λ h. turned-back o r ∙ ap (signed o) (sym (is K F W) ∙ h) ∙ signed-nan o,
      );
      magnitudes = λ K F W. signed-size o r ∙ ap (float_with_sign false) (sym (is K F W));
      odd_turns = λ K F O. is K F (odd-whole y O) ∙ ap (λ (b : Bool). signed b r) (is_true o O);
      even_keeps = λ K F W O. is K F W ∙ ap (λ (b : Bool). signed b r) (is_false o (not_T o O));
    }
