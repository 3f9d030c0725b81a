-- Products of pairs by a fused multiply-add, with zeros and with 1. Assumes nothing.
use Rattle.std.specs.Prelude.{◌≡◌, ℕ, ◌+◌, ◌-◌, ◌*◌, Bool, true, false, cond, not, nat_lt, refl, Float}
use Rattle.std.proofs.Common.{sym, ap, ◌∙◌, inl, inr, mul_assoc, mul_right_comm, zero-mul, mul-pos, arith, ltb-true}
use Rattle.std.proofs.Math.Path.{subst}
use Rattle.std.specs.Bool.{beq}
use Rattle.std.specs.Float.Ieee.{up, down, unlike, neg}
use Rattle.std.specs.Float.{float_one as unit, nan, inf, fin}
use Rattle.pairs.specs.declared.double_double.DoubleDouble.{DoubleDouble}
use Rattle.pairs.specs.DoubleDouble.{exact_mult_fma, quick_mult_fma, quick_mult_f64_fma}
use Rattle.power.specs.Rules.{FmaExact, ProductRules, Is, IsSum, Product, Number, Within, WithinPair, Zero, ZeroPair, Alike, AlikePair, sign, num, den}
use Rattle.power.specs.Lemmas.Values.{den_pos, own_is, scale-is}
use Rattle.power.specs.Lemmas.Unique.{is-alike}
use Rattle.power.specs.Lemmas.Alike.{IsZero, same-zero, zero-num, zero-within, within_more}
use Rattle.power.specs.Lemmas.Zeros.{times, unlike-false, mul-zero-left, mul-zero-right, mul-one-right, neg-number, neg-zero}
use Rattle.power.specs.Lemmas.ZeroProducts.{fma-zero-left, fma-zero-right, fma-opposite}
use Rattle.power.specs.Lemmas.PairProducts.{one_unit}

-- ---- -a

neg-within : (k : ℕ) (x : Float) → Within k x → Within k (neg x)
unfolding neg
neg-within k nan X = X
neg-within k (inf s) X = X
neg-within k (fin s m e) X = (neg-number (fin s m e) X.0, X.1)

neg-zeros : (x : Float) → IsZero x → IsZero (neg x)
neg-zeros x Z = (neg-number x Z.0, neg-zero x Z.1)

-- ---- a 1

-- a 1 = a
times-one : (a : Float) → Number a → Product a unit a
times-one a N =
    let same : num a * (den a * 1) ≡ num a * 1 * den a = sym (mul_assoc (num a) (den a) 1) ∙ mul_right_comm (num a) (den a) 1 in
    subst (λ (s : Bool). Is a s (num a * 1) (den a * 1)) (sym (unlike-false (sign a))) (scale-is a (sign a) (num a) (den a) (num a * 1) (den a * 1) (den_pos a) same (own_is a N))

-- -a is a 1 with the other sign
neg-opposite : (a : Float) → Number a → (num a * 1 * den (neg a) ≡ num (neg a) * (den a * 1)) × (sign (neg a) ≡ not (unlike (sign a) false))
unfolding neg
neg-opposite nan N = absurd N
neg-opposite (inf s) N = absurd N
neg-opposite (fin s m e) N = (mul_right_comm (m * up e) 1 (down e) ∙ mul_assoc (m * up e) (down e) 1, ap not (sym (unlike-false s)))

-- a sum whose second term is 0 is the first
first-only : (x : Float) (s t : Bool) (n k d : ℕ) → k ≡ 0 → IsSum x s n t k d ≡ Is x s n d
first-only x s t n k d z = go (beq s t) (nat_lt n k) refl
  where
    go : (u v : Bool) → nat_lt n k ≡ v → cond u (Is x s (n + k) d) (cond v (Is x t (k - n) d) (Is x s (n - k) d)) ≡ Is x s n d
    go true v e = ap (λ (j : ℕ). Is x s j d) {x = n + k} {y = n} (omega arith)
    go false true e = let h = ltb-true n k e in absurd (omega arith)
    go false false e = ap (λ (j : ℕ). Is x s j d) {x = n - k} {y = n} (omega arith)

module _ (fma : Float → Float → Float → Float) (R : FmaExact fma) where
  -- a 1 - a = 0
  fma-back : (a : Float) → Within 400 a → Within 400 unit → IsZero (fma a unit (neg a))
  fma-back a A U =
      let h = neg-opposite a A.0 in
      fma-opposite fma R a unit (neg a) a A U (within_more 400 512 (neg a) (omega arith) (neg-within 400 a A)) (times-one a A.0) h.0 (inr h.1)

  -- a 1 + 0 is a
  fma-one : (a c : Float) → Within 400 a → Within 400 unit → IsZero c → Alike (fma a unit c) a
  fma-one a c A U C =
      let x = fma a unit c in
      let s = unlike (sign a) false in
      let n = num a * 1 * den c in
      let k = num c * (den a * 1) in
      let d = den a * 1 * den c in
      let one-pos = mul-pos (den_pos a) (omega arith) in
      let P = times-one a A.0 in
      let same : num a * 1 * d ≡ n * (den a * 1) = sym (mul_assoc (num a * 1) (den a * 1) (den c)) ∙ mul_right_comm (num a * 1) (den a * 1) (den c) in
      let is : Is a s n d = scale-is a s (num a * 1) (den a * 1) n d one-pos same P in
      let only : (y : Float) → IsSum y s n (sign c) k d ≡ Is y s n d =
      λ y. first-only y s (sign c) n k d (ap (λ (i : ℕ). i * (den a * 1)) (zero-num c C.1) ∙ zero-mul (den a * 1)) in
      let got = R a unit c a a A U (zero-within 512 c C) P (subst (λ (X : Type 0). X) (sym (only a)) is) in
      is-alike x a s n d (mul-pos one-pos (den_pos c)) (subst (λ (X : Type 0). X) (only x) got) is

  -- ---- zeros

  zero_left : (a b c : Float) → IsZero a → Within 400 b → IsZero c → IsZero (fma a b c)
  zero_left a b c A B C = same-zero (fma a b c) c (fma-zero-left fma R a b c A B (zero-within 512 c C)) C.1

  zero_right : (a b c : Float) → Within 400 a → IsZero b → IsZero c → IsZero (fma a b c)
  zero_right a b c A B C = same-zero (fma a b c) c (fma-zero-right fma R a b c A B (zero-within 512 c C)) C.1

  quick-zero-left : (a b : DoubleDouble) → WithinPair a → WithinPair b → ZeroPair a → ZeroPair (quick_mult_fma fma a b)
  unfolding quick_mult_fma exact_mult_fma
  quick-zero-left a b A B Z =
      let h = times a.hi b.hi in
      let r = fma a.hi b.hi (neg h) in
      let H = mul-zero-left a.hi b.hi Z.1 B.1.0 in
      let first = zero_left a.hi b.hi (neg h) Z.1 B.1 (neg-zeros h H) in
      let second = zero_left a.hi b.lo r Z.1 B.0 first in
      (zero_left a.lo b.hi (fma a.hi b.lo r) Z.0 B.1 second, H)

  quick-zero-right : (a b : DoubleDouble) → WithinPair a → WithinPair b → ZeroPair b → ZeroPair (quick_mult_fma fma a b)
  unfolding quick_mult_fma exact_mult_fma
  quick-zero-right a b A B Z =
      let h = times a.hi b.hi in
      let r = fma a.hi b.hi (neg h) in
      let H = mul-zero-right a.hi b.hi A.1.0 Z.1 in
      let first = zero_right a.hi b.hi (neg h) A.1 Z.1 (neg-zeros h H) in
      let second = zero_right a.hi b.lo r A.1 Z.0 first in
      (zero_right a.lo b.hi (fma a.hi b.lo r) A.0 Z.1 second, H)

  quick-zero-left-f64 : (a : DoubleDouble) (b : Float) → WithinPair a → Within 400 b → ZeroPair a → ZeroPair (quick_mult_f64_fma fma a b)
  unfolding quick_mult_f64_fma
  quick-zero-left-f64 a b A B Z =
      let h = times b a.hi in
      let H = mul-zero-right b a.hi B.0 Z.1 in
      let first = zero_right b a.hi (neg h) B Z.1 (neg-zeros h H) in
      (zero_right b a.lo (fma b a.hi (neg h)) B Z.0 first, H)

  quick-zero-right-f64 : (a : DoubleDouble) (b : Float) → WithinPair a → Within 400 b → Zero b → ZeroPair (quick_mult_f64_fma fma a b)
  unfolding quick_mult_f64_fma
  quick-zero-right-f64 a b A B Z =
      let b-zero : IsZero b = (B.0, Z) in
      let h = times b a.hi in
      let H = mul-zero-left b a.hi b-zero A.1.0 in
      let first = zero_left b a.hi (neg h) b-zero A.1 (neg-zeros h H) in
      (zero_left b a.lo (fma b a.hi (neg h)) b-zero A.0 first, H)

  -- ---- the pair 1

  quick-unit : (a b : DoubleDouble) → WithinPair a → WithinPair b → Zero b.lo → b.hi ≡ unit → AlikePair (quick_mult_fma fma a b) a
  unfolding quick_mult_fma exact_mult_fma
  quick-unit a b A B Z e =
      let U : Within 400 unit = subst (Within 400) e B.1 in
      let product = mul-one-right a.hi A.1.0 in
      let r = fma a.hi unit (neg (times a.hi unit)) in
      let first : IsZero r = subst (λ (h : Float). IsZero (fma a.hi unit (neg h))) (sym product) (fma-back a.hi A.1 U) in
      let second = zero_right a.hi b.lo r A.1 (B.0.0, Z) first in
      let third = fma-one a.lo (fma a.hi b.lo r) A.0 U second in (
        subst (λ (u : Float). Alike (fma a.lo u (fma a.hi b.lo (fma a.hi u (neg (times a.hi u))))) a.lo) (sym e) third,
        subst (λ (u : Float). Alike (times a.hi u) a.hi) (sym e) (inl product),
      )

  -- ---- the rules

  pub fma-products : ProductRules (record { quick_mult = quick_mult_fma fma; quick_mult_f64 = quick_mult_f64_fma fma })
  fma-products = record {
    zero_left = quick-zero-left;
    zero_right = quick-zero-right;
    one_right = λ a b A B Z e. quick-unit a b A B Z (e ∙ one_unit);
    zero_left_f64 = quick-zero-left-f64;
    zero_right_f64 = quick-zero-right-f64;
  }
