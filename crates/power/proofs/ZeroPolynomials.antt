-- The polynomials at a zero answer their first coefficient, but for the signs of zeros. Assumes nothing.
use Rattle.std.proofs.Common.{◌≡◌, ℕ, ◌*◌, ◌^◌, ◌≤◌, Bool, true, false, ◌&&◌, ◌||◌, T, eqb, leb, ◌⊎◌, ap, ◌∙◌, inl, inr, zero-mul, lit≤, eqb→eq, leb→le}
use lib.Ieee.{Float, nan, inf, fin, binary64, up, down, fits}
use lib.Ieee.Fits.{and_l, and_r}
use Rattle.pairs.specs.declared.double_double.DoubleDouble.{DoubleDouble}
use Rattle.power.specs.Backend.{Scalar, Products}
use Rattle.power.specs.Rules.{ScalarRules, ProductRules, Within, WithinPair, ZeroPair}
use Rattle.power.specs.Polynomial.{Ops, six, ten, on_f64, on_pairs}
use Rattle.power.specs.Lemmas.Alike.{IsZero, Same, same-within, same-trans, within_more}
use Rattle.power.specs.Lemmas.Zeros.{mul-zero-left}
use Rattle.power.specs.Lemmas.ZeroProducts.{fma-zero-left}
use Rattle.power.proofs.ZeroPairs.{Stays, zeros_within, stays-trans, plus-product-zero}

-- ---- coefficients, by a computed test

abbrev pub ranged : Float → Bool
ranged nan = false
ranged (inf s) = false
ranged (fin s m e) = fits binary64 (fin s m e) && (eqb m 0 || leb (down e) (m * up e * 2 ^ 400) && leb (m * up e) (2 ^ 400 * down e))

pub ranged-within : (x : Float) → T (ranged x) → Within 400 x
ranged-within nan t = absurd t
ranged-within (inf s) t = absurd t
ranged-within (fin s m e) t = (and_l (fits binary64 (fin s m e)) (eqb m 0 || lower && upper) t, go (eqb m 0) (eqb→eq m 0) (and_r (fits binary64 (fin s m e)) (eqb m 0 || lower && upper) t))
  where
    lower : Bool
    lower = leb (down e) (m * up e * 2 ^ 400)

    upper : Bool
    upper = leb (m * up e) (2 ^ 400 * down e)

    go : (q : Bool) → (T q → m ≡ 0) → T (q || leb (down e) (m * up e * 2 ^ 400) && leb (m * up e) (2 ^ 400 * down e))
        → (m * up e ≡ 0) ⊎ ((down e ≤ m * up e * 2 ^ 400) × (m * up e ≤ 2 ^ 400 * down e))
    go true z t = inl (ap (λ (k : ℕ). k * up e) (z tt) ∙ zero-mul (up e))
    go false z t =
        let a = leb (down e) (m * up e * 2 ^ 400) in
        let b = leb (m * up e) (2 ^ 400 * down e) in
        inr (leb→le (down e) (m * up e * 2 ^ 400) (and_l a b t), leb→le (m * up e) (2 ^ 400 * down e) (and_r a b t))

abbrev pub ranged_pair : DoubleDouble → Bool
ranged_pair a = ranged a.lo && ranged a.hi

ranged-pair : (a : DoubleDouble) → T (ranged_pair a) → WithinPair a
ranged-pair a t = (ranged-within a.lo (and_l (ranged a.lo) (ranged a.hi) t), ranged-within a.hi (and_r (ranged a.lo) (ranged a.hi) t))

-- ---- over any arithmetic

-- of a zero x: x x is zero, and x b + c stays c; coefficients pass a test
pub record AtZero {A : Type 0} (o : Ops A) (test : A → Bool) (Z W : A → Type 0) (S : A → A → Type 0) : Type 0 where
  pub square : (x : A) → Z x → Z (o.times x x)
  pub step : (x b c : A) → Z x → W b → W c → S (o.times_add x b c) c
  pub within : (p c : A) → S p c → W c → W p
  pub trans : (p q c : A) → S p q → S q c → S p c
  pub coefficient : (a : A) → T (test a) → W a

module _ {A : Type 0} {o : Ops A} {test : A → Bool} {Z W : A → Type 0} {S : A → A → Type 0} (R : AtZero o test Z W S) where
  next : (x b c : A) → Z x → W b → W c → W (o.times_add x b c)
  next x b c X B C = R.within (o.times_add x b c) c (R.step x b c X B C) C

  first : (x b c : A) → Z x → T (test b) → T (test c) → S (o.times_add x b c) c
  first x b c X B C = R.step x b c X (R.coefficient b B) (R.coefficient c C)

  start : (x b c : A) → Z x → T (test b) → T (test c) → W (o.times_add x b c)
  start x b c X B C = next x b c X (R.coefficient b B) (R.coefficient c C)

  -- x b + c, for a c that stays a
  last : (x b c a : A) → Z x → W b → S c a → T (test a) → S (o.times_add x b c) a
  last x b c a X B C t = R.trans (o.times_add x b c) c a (R.step x b c X B (R.within c a C (R.coefficient a t))) C

  pub six-zero : (x a0 a1 a2 a3 a4 a5 : A) → Z x → T (test a0) → T (test a1) → T (test a2) → T (test a3) → T (test a4) → T (test a5) → S (six o x a0 a1 a2 a3 a4 a5) a0
  unfolding six
  six-zero x a0 a1 a2 a3 a4 a5 X A0 A1 A2 A3 A4 A5 =
      let f = o.times_add in
      let q = o.times x x in
      let Q = R.square x X in
      last q (f q (f x a5 a4) (f x a3 a2)) (f x a1 a0) a0 Q (next q (f x a5 a4) (f x a3 a2) Q (start x a5 a4 X A5 A4) (start x a3 a2 X A3 A2)) (first x a1 a0 X A1 A0) A0

  pub ten-zero : (x a0 a1 a2 a3 a4 a5 a6 a7 a8 a9 : A) → Z x
      → T (test a0) → T (test a1) → T (test a2) → T (test a3) → T (test a4) → T (test a5) → T (test a6) → T (test a7) → T (test a8) → T (test a9)
      → S (ten o x a0 a1 a2 a3 a4 a5 a6 a7 a8 a9) a0
  unfolding ten
  ten-zero x a0 a1 a2 a3 a4 a5 a6 a7 a8 a9 X A0 A1 A2 A3 A4 A5 A6 A7 A8 A9 =
      let f = o.times_add in
      let x2 = o.times x x in
      let X2 = R.square x X in
      let x4 = o.times x2 x2 in
      let X4 = R.square x2 X2 in
      let q0 = f x2 (f x a3 a2) (f x a1 a0) in
      let Q0 = last x2 (f x a3 a2) (f x a1 a0) a0 X2 (start x a3 a2 X A3 A2) (first x a1 a0 X A1 A0) A0 in
      let q1 = f x2 (f x a7 a6) (f x a5 a4) in
      let Q1 = next x2 (f x a7 a6) (f x a5 a4) X2 (start x a7 a6 X A7 A6) (start x a5 a4 X A5 A4) in
      last (o.times x4 x4) (f x a9 a8) (f x4 q1 q0) a0 (R.square x4 X4) (start x a9 a8 X A9 A8) (last x4 q1 q0 a0 X4 Q1 Q0 A0) A0

-- ---- in f64 and in pairs

pub f64-at-zero : (m : Scalar) → ScalarRules m → AtZero (on_f64 m) ranged IsZero (Within 400) Same
f64-at-zero m K = record {
  square = λ x X. mul-zero-left x x X X.0;
  step = λ x b c X B C. fma-zero-left m.fma K.fma_exact x b c X B (within_more 400 512 c (lit≤ tt) C);
  within = same-within 400;
  trans = same-trans;
  coefficient = ranged-within;
}

pub pairs-at-zero : (m : Products) → ProductRules m → AtZero (on_pairs m) ranged_pair ZeroPair WithinPair Stays
pairs-at-zero m R = record {
  square = λ x X. R.zero_left x x (zeros_within x X) (zeros_within x X) X;
  step = λ x b c X B C. plus-product-zero (m.quick_mult x b) c (R.zero_left x b (zeros_within x X) B X) C;
  within = λ p c P C. P.0;
  trans = stays-trans;
  coefficient = ranged-pair;
}
