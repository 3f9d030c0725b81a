-- Products of pairs with zeros and with 1. Assumes nothing.
use Rattle.std.specs.Prelude.{◌≡◌, false, refl, Float}
use Rattle.std.proofs.Common.{sym, ◌∙◌, subst, inl, arith}
use Rattle.std.specs.Float.Ieee.{round, add, sub, mul, neg, sum, of_bits, fits}
use Rattle.std.specs.Float.Ieee.Fits.{sub-fits}
use Rattle.std.specs.Float.{float_zero as nought, float_one as unit, binary64}
use Rattle.pairs.specs.declared.double_double.DoubleDouble.{DoubleDouble}
use Rattle.pairs.specs.DoubleDouble.{splitter, split, exact_mult, quick_mult, quick_mult_f64}
use Rattle.power.specs.Rules.{Number, Zero, Alike, Within, WithinPair, ZeroPair, AlikePair, one}
use Rattle.power.specs.Lemmas.Unique.{alike-trans, alike-number}
use Rattle.power.specs.Lemmas.Alike.{IsZero}
use Rattle.power.specs.Lemmas.Zeros.{plus, minus, times, nought-zero, mul-zero-left, mul-zero-right, add-zeros, sub-zeros, zero-plus, mul-one-right, neg-number, sub_anti, cancels}
use Rattle.power.specs.Lemmas.Bounded.{Bounded, mul-bounded, add-bounded, sub-bounded, bounded-more, within-bounded}

abbrev Numbers : DoubleDouble → Type 0
Numbers p = Number p.lo × Number p.hi

-- ---- the parts of a split number

splitter-bounded : Bounded 28 splitter
unfolding of_bits fits
splitter-bounded = (tt, omega arith)

-- zeros for a zero
split-zero : (a : Float) → IsZero a → ZeroPair (split a)
unfolding split
split-zero a Z =
    let t = mul-zero-right splitter a splitter-bounded.0 Z in
    let hi = add-zeros (times splitter a) (minus a (times splitter a)) t.1 (sub-zeros a (times splitter a) Z.1 t.1).1 in
    (sub-zeros a (plus (times splitter a) (minus a (times splitter a))) Z.1 hi.1, hi)

-- no part overflows
split-numbers : (a : Float) → Bounded 400 a → Numbers (split a)
unfolding split
split-numbers a A =
    let t = times splitter a in
    let T1 : Bounded 428 t = mul-bounded 28 400 splitter a (omega arith) splitter-bounded A in
    let D : Bounded 429 (minus a t) = sub-bounded 428 a t (omega arith) (bounded-more 400 428 a (omega arith) A) T1 in
    let H : Bounded 430 (plus t (minus a t)) = add-bounded 429 t (minus a t) (omega arith) (bounded-more 428 429 t (omega arith) T1) D in
    ((sub-bounded 430 a (plus t (minus a t)) (omega arith) (bounded-more 400 430 a (omega arith) A) H).0, H.0)

-- ---- zeros

-- the low part of a product, from the parts s of a and t of b and from h = a b
abbrev low_part : DoubleDouble → DoubleDouble → Float → Float
low_part s t h =
    plus (times s.lo t.lo)
    (plus (times s.lo t.hi) (plus (times s.hi t.lo) (minus (times s.hi t.hi) h)))

-- where each product of a part with P and a part with Q is zero, all of the product is
module _ (P Q : Float → Type 0) (none : (x y : Float) → P x → Q y → IsZero (times x y)) where
  low-zero : (s t : DoubleDouble) (h : Float) → P s.lo × P s.hi → Q t.lo × Q t.hi → IsZero h → IsZero (low_part s t h)
  low-zero s t h S T H =
      let ll = times s.lo t.lo in
      let lh = times s.lo t.hi in
      let hl = times s.hi t.lo in
      let hh = times s.hi t.hi in
      let z1 = sub-zeros hh h (none s.hi t.hi S.1 T.1).1 H.1 in
      let z2 = add-zeros hl (minus hh h) (none s.hi t.lo S.1 T.0).1 z1.1 in
      let z3 = add-zeros lh (plus hl (minus hh h)) (none s.lo t.hi S.0 T.1).1 z2.1 in
      add-zeros ll (plus lh (plus hl (minus hh h))) (none s.lo t.lo S.0 T.0).1 z3.1

  exact-zero : (a b : Float) → P (split a).lo × P (split a).hi → Q (split b).lo × Q (split b).hi → IsZero (times a b) → ZeroPair (exact_mult a b)
  unfolding exact_mult
  exact-zero a b A B H = (low-zero (split a) (split b) (times a b) A B H, H)

  quick-zero : (a b : DoubleDouble) → P a.lo × P a.hi → Q b.lo × Q b.hi → ZeroPair (exact_mult a.hi b.hi) → ZeroPair (quick_mult a b)
  unfolding quick_mult
  quick-zero a b A B C =
      let x = times a.hi b.lo in
      let y = times a.lo b.hi in
      (add-zeros (exact_mult a.hi b.hi).lo (plus x y) C.0.1 (add-zeros x y (none a.hi b.lo A.1 B.0).1 (none a.lo b.hi A.0 B.1).1).1, C.1)

  quick-zero-f64 : (a : DoubleDouble) (b : Float) → P a.lo → Q b → ZeroPair (exact_mult a.hi b) → ZeroPair (quick_mult_f64 a b)
  unfolding quick_mult_f64
  quick-zero-f64 a b A B C = (add-zeros (exact_mult a.hi b).lo (times a.lo b) C.0.1 (none a.lo b A B).1, C.1)

exact-zero-left : (a b : Float) → IsZero a → Within 400 b → ZeroPair (exact_mult a b)
exact-zero-left a b A B = exact-zero IsZero Number mul-zero-left a b (split-zero a A) (split-numbers b (within-bounded 400 b B)) (mul-zero-left a b A B.0)

exact-zero-right : (a b : Float) → Within 400 a → IsZero b → ZeroPair (exact_mult a b)
exact-zero-right a b A B = exact-zero Number IsZero mul-zero-right a b (split-numbers a (within-bounded 400 a A)) (split-zero b B) (mul-zero-right a b A.0 B)

pub quick-zero-left : (a b : DoubleDouble) → WithinPair a → WithinPair b → ZeroPair a → ZeroPair (quick_mult a b)
quick-zero-left a b A B Z = quick-zero IsZero Number mul-zero-left a b Z (B.0.0, B.1.0) (exact-zero-left a.hi b.hi Z.1 B.1)

pub quick-zero-right : (a b : DoubleDouble) → WithinPair a → WithinPair b → ZeroPair b → ZeroPair (quick_mult a b)
quick-zero-right a b A B Z = quick-zero Number IsZero mul-zero-right a b (A.0.0, A.1.0) Z (exact-zero-right a.hi b.hi A.1 Z.1)

pub quick-zero-left-f64 : (a : DoubleDouble) (b : Float) → WithinPair a → Within 400 b → ZeroPair a → ZeroPair (quick_mult_f64 a b)
quick-zero-left-f64 a b A B Z = quick-zero-f64 IsZero Number mul-zero-left a b Z.0 B.0 (exact-zero-left a.hi b Z.1 B)

pub quick-zero-right-f64 : (a : DoubleDouble) (b : Float) → WithinPair a → Within 400 b → Zero b → ZeroPair (quick_mult_f64 a b)
quick-zero-right-f64 a b A B Z = quick-zero-f64 Number IsZero mul-zero-right a b A.0.0 (B.0, Z) (exact-zero-right a.hi b A.1 (B.0, Z))

-- ---- 1

pub one_unit : one ≡ unit
unfolding of_bits
one_unit = refl

split-unit : split unit ≡ record { lo = nought; hi = unit }
unfolding split mul add sub neg sum round of_bits
split-unit = refl

-- s.hi - a and s.lo, which is a - s.hi, add up to nothing
low-one : (a : Float) (s : DoubleDouble) → Number a → Numbers s → s.lo ≡ minus a s.hi → IsZero (low_part s (record { lo = nought; hi = unit }) (times a unit))
low-one a s N S e =
    let z = nought in
    let t1 = minus (times s.hi unit) (times a unit) in
    let t2 = plus (times s.hi z) t1 in
    let t1-is : t1 ≡ minus s.hi a = λ i. minus (mul-one-right s.hi S.1 i) (mul-one-right a N i) in
    let turned : Alike (minus s.hi a) (neg s.lo) = subst (λ (x : Float). Alike (minus s.hi a) (neg x)) (sym e) (sub_anti s.hi a S.1 N) in
    let first : Alike t1 (neg s.lo) = subst (λ (x : Float). Alike x (neg s.lo)) (sym t1-is) turned in
    let number : Number t1 = alike-number t1 (neg s.lo) (sub-fits binary64 (times s.hi unit) (times a unit)) (neg-number s.lo S.0) first in
    let second : Alike t2 (neg s.lo) = alike-trans t2 t1 (neg s.lo) (zero-plus (times s.hi z) t1 (mul-zero-right s.hi z S.1 (nought-zero false)).1 number).1 first in
    let third : IsZero (plus (times s.lo unit) t2) = subst (λ (x : Float). IsZero (plus x t2)) (sym (mul-one-right s.lo S.0)) (cancels s.lo t2 S.0 second) in
    add-zeros (times s.lo z) (plus (times s.lo unit) t2) (mul-zero-right s.lo z S.0 (nought-zero false)).1 third.1

split-low : (a : Float) → (split a).lo ≡ minus a (split a).hi
unfolding split
split-low a = refl

exact_one : (a : Float) → Bounded 400 a → IsZero (exact_mult a unit).lo × ((exact_mult a unit).hi ≡ a)
unfolding exact_mult
exact_one a A = (
  subst (λ (t : DoubleDouble). IsZero (low_part (split a) t (times a unit))) (sym split-unit) (low-one a (split a) A.0 (split-numbers a A) (split-low a)),
  mul-one-right a A.0,
)

quick-unit : (a b : DoubleDouble) → WithinPair a → WithinPair b → Zero b.lo → b.hi ≡ unit → AlikePair (quick_mult a b) a
unfolding quick_mult
quick-unit a b A B Z e =
    let c = exact_one a.hi (within-bounded 400 a.hi A.1) in
    let x = times a.hi b.lo in
    let rest = zero-plus x a.lo (mul-zero-right a.hi b.lo A.1.0 (B.0.0, Z)).1 A.0.0 in
    let low = zero-plus (exact_mult a.hi unit).lo (plus x a.lo) c.0.1 rest.0 in
    let both = alike-trans (plus (exact_mult a.hi unit).lo (plus x a.lo)) (plus x a.lo) a.lo low.1 rest.1 in
    let at_unit : Alike (plus (exact_mult a.hi unit).lo (plus x (times a.lo unit))) a.lo =
    subst (λ (y : Float). Alike (plus (exact_mult a.hi unit).lo (plus x y)) a.lo) (sym (mul-one-right a.lo A.0.0)) both in (
      subst (λ (h : Float). Alike (plus (exact_mult a.hi h).lo (plus x (times a.lo h))) a.lo) (sym e) at_unit,
      subst (λ (h : Float). Alike (exact_mult a.hi h).hi a.hi) (sym e) (inl c.1),
    )

pub quick-one-right : (a b : DoubleDouble) → WithinPair a → WithinPair b → Zero b.lo → b.hi ≡ one → AlikePair (quick_mult a b) a
quick-one-right a b A B Z e = quick-unit a b A B Z (e ∙ one_unit)
