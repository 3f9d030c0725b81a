-- The fallback at the tie 2^-150 answers +0, the even one of its two neighbours. Assumes nothing.
use Rattle.std.proofs.Common.{◌≡◌, ℕ, Bool, false, cond, ◌||◌, pos, negsuc, sym, refl, ap, ◌∙◌, subst, inr, arith, lit≤}
use lib.Ieee.{Float, nan, fin, binary32, fits, of_bits, to_bits, to_unsigned, neg, sum, round, add, sub, eq, is_nan, size}
use Rattle.std.specs.Float.{round_to_format}
use Rattle.pairs.specs.declared.double_double.DoubleDouble.{DoubleDouble}
use Rattle.pairs.specs.DoubleDouble as Pairs
use Rattle.pairs.specs.DoubleDouble.{pair}
use Rattle.power.specs.Backend.{Scalar, Products, Arithmetic}
use Rattle.power.specs.Rules.{ScalarRules, ProductRules, Rules, Number, Zero, Alike, Within, WithinPair, ZeroPair, one}
use Rattle.power.specs.Lookup.{f64, powf_r2, log2_r_td, log2_r2_dd, exp2_mid}
use Rattle.power.specs.Reduction.{negative_one}
use Rattle.power.specs.Fallback as Fallback
use Rattle.power.specs.Fallback.{either_nan, scale_pair, ordered_add, dx2}
use Rattle.power.specs.declared.fast.Doubt.{Doubt}
use Rattle.power.specs.Lemmas.Unique.{is-alike}
use Rattle.power.specs.Lemmas.Alike.{IsZero, zero-within, alike-zero, alike-other}
use Rattle.power.specs.Lemmas.Zeros.{plus, nought-zero, plus-zero}
use Rattle.power.proofs.FloatTests.{number-is, not-nan, eq-zero}
use Rattle.power.specs.Lemmas.ZeroProducts.{fma-zero-left}
use Rattle.power.proofs.ZeroPairs.{Stays, zeros_within, exact-add-zero, ordered-zeros}
use Rattle.power.proofs.ZeroPolynomials.{six-zero, ten-zero, pairs-at-zero}
use Rattle.power.proofs.Places.{factor, shift}
use Rattle.power.proofs.PowerReduction.{one-less-one}
use Rattle.power.proofs.NoRest.{NoRest}

-- ---- the second reduction's index

abbrev sixty-four : Float
sixty-four = fin false 1 (pos 6)

not-64 : Zero sixty-four → ⊥
not-64 e = omega arith

-- 2^14 x + 64, for a zero x
shifted : (m : Scalar) → ScalarRules m → (x : Float) → IsZero x → m.fma x factor shift ≡ sixty-four
unfolding of_bits fits
shifted m K x Z =
    alike-other (m.fma x factor shift) sixty-four (fma-zero-left m.fma K.fma_exact x factor shift Z (tt, inr (lit≤ tt, lit≤ tt)) (tt, inr (lit≤ tt, lit≤ tt))).1 not-64

rounded : (m : Scalar) → ScalarRules m → m.round sixty-four ≡ sixty-four
unfolding fits
rounded m K =
    let w = K.round_away sixty-four (tt, inr (lit≤ tt, lit≤ tt)) in
    alike-other (m.round sixty-four) sixty-four (is-alike (m.round sixty-four) sixty-four false 64 1 (omega arith) w (tt, refl, inr refl)) not-64

place-zero : (m : Scalar) → ScalarRules m → (x : Float) → IsZero x → Fallback.place m x ≡ 64
unfolding Fallback.place to_unsigned
place-zero m K x Z = ap (λ (z : Float). to_unsigned 64 (m.round z)) (shifted m K x Z) ∙ ap (to_unsigned 64) (rounded m K)

-- ---- log2 x

not-one : Zero one → ⊥
unfolding of_bits
not-one e = omega arith

one_number : Number one
unfolding of_bits fits
one_number = tt

entry-64 : powf_r2 64 ≡ one
unfolding powf_r2
entry-64 = refl

-- (1 + x) 1 - 1, for a zero x
dx2-zero : (m : Scalar) → ScalarRules m → (x : Float) → IsZero x → IsZero (dx2 m x 64)
dx2-zero m K x Z =
    let e : plus one x ≡ one = alike-other (plus one x) one (plus-zero one x one_number Z.1).1 not-one in
    subst (λ (y : Float). IsZero (m.fma y (powf_r2 64) negative_one)) (sym e) (subst (λ (r : Float). IsZero (m.fma one r negative_one)) (sym entry-64) (one-less-one m K))

log-poly-within : (m : Products) → ProductRules m → (x : Float) → IsZero x → WithinPair (Fallback.log_poly m x)
unfolding Fallback.log_poly of_bits fits
log-poly-within m R x Z =
    (six-zero (pairs-at-zero m R) _ _ _ _ _ _ _ ((tt, refl), Z) tt tt tt tt tt tt).0

log-low-zero : (m : Arithmetic) → Rules m → (x : Float) → IsZero x → ZeroPair (Fallback.log_low m x 64)
unfolding Fallback.log_low
log-low-zero m R x Z =
    let d = dx2 m.scalar x 64 in
    let D = dx2-zero m.scalar R.scalar x Z in
    R.products.zero_right_f64 (Fallback.log_poly m.products d) d (log-poly-within m.products R.products d D) (zero-within 400 d D) D.1

-- the tables' entries at 1
log-mid-zero : ZeroPair (Fallback.log_mid 0 64)
unfolding Fallback.log_mid Pairs.add add sub neg sum round of_bits log2_r_td log2_r2_dd fits
log-mid-zero = ((tt, refl), (tt, refl))

-- ---- 2^(y log2 x)

neither : (x y : Float) → Zero x → Zero y → either_nan x y ≡ false
neither x y X Y = λ i. number x X i || number y Y i
  where
    number : (x : Float) → Zero x → is_nan x ≡ false
    number x X = number-is x (not-nan Zero (λ z. z) x X)

abbrev nought : Float
nought = f64 0

is-nought : IsZero nought
unfolding of_bits
is-nought = nought-zero false

-- 2^-150
abbrev tiny : Float
tiny = fin false 1 (negsuc 149)

not-tiny : Zero tiny → ⊥
not-tiny e = omega arith

exp-poly-zero : (m : Products) → ProductRules m → (x : DoubleDouble) → ZeroPair x → Stays (Fallback.exp_poly m x) (pair nought one)
unfolding Fallback.exp_poly of_bits fits
exp-poly-zero m R x Z = ten-zero (pairs-at-zero m R) _ _ _ _ _ _ _ _ _ _ _ Z tt tt tt tt tt tt tt tt tt tt

scale-is : scale_pair 55936 ≡ pair nought tiny
unfolding exp2_mid of_bits
scale-is = refl

tiny-number : Number tiny
unfolding fits
tiny-number = tt

tiny-within : Within 400 tiny
tiny-within = (tiny-number, inr (lit≤ tt, lit≤ tt))

-- a high part 2^-150 stays where the low part is zero
settled-tiny : (r : DoubleDouble) → Zero r.lo → r.hi ≡ tiny → Fallback.settled r ≡ tiny
unfolding Fallback.settled is_nan eq of_bits to_bits size
settled-tiny r Z e =
    ap (λ (h : Float). Fallback.settled (pair r.lo h)) e
    ∙ ap (λ (q : Bool). cond q tiny (cond (is_nan r.lo) nan (Fallback.nudged tiny r.lo))) (eq-zero r.lo Z)

-- 2^-150 times 2^0
tiny-product : (m : Products) → ProductRules m → (x : DoubleDouble) → ZeroPair x → Fallback.scaled m (pair nought tiny) x ≡ tiny
unfolding Fallback.scaled
tiny-product m R x X =
    let p = Fallback.exp_poly m x in
    let E = exp-poly-zero m R x X in
    let rr = m.quick_mult (pair nought tiny) p in
    let unit = alike-other p.hi one E.1.1 not-one in
    let A = R.one_right (pair nought tiny) p (zero-within 400 nought is-nought, tiny-within) E.0 (alike-zero p.lo nought E.1.0 is-nought.1) unit in
    let hi = alike-other rr.hi tiny A.1 not-tiny in
    let lo = alike-zero rr.lo nought A.0 is-nought.1 in
    let K = exact-add-zero rr.hi rr.lo (subst Number (sym hi) tiny-number) lo in
    let t = Pairs.exact_add rr.hi rr.lo in
    settled-tiny t K.low.1 (alike-other t.hi tiny (subst (Alike t.hi) hi K.high.1) not-tiny)

-- from a log2 x without a rest on
finished-tiny : (m : Products) → ProductRules m → (d : Doubt) → NoRest 55936 d → (log : DoubleDouble) → ZeroPair log → Fallback.finished m d log ≡ tiny
unfolding Fallback.finished
finished-tiny m R d A log L =
    let prod = m.quick_mult_f64 log d.y6 in
    let Z = R.zero_left_f64 log d.y6 (zeros_within log L) A.y6 L in
    let x = ordered_add prod (pair nought d.high) in
    ap (λ (q : Bool). cond q nan (Fallback.scaled m (scale_pair d.count) x)) (neither prod.hi d.high Z.1.1 A.high.1)
    ∙ ap (λ (k : ℕ). Fallback.scaled m (scale_pair k) x) A.count
    ∙ ap (λ (e : DoubleDouble). Fallback.scaled m e x) scale-is
    ∙ tiny-product m R x (ordered-zeros prod (pair nought d.high) Z (is-nought, A.high))

-- from the places in the tables on
placed : Arithmetic → Doubt → ℕ → ℕ → Float
placed m d j i =
    let low = Fallback.log_low m d.reduced.dx i in
    let mid = Fallback.log_mid j i in
    cond (either_nan mid.hi low.hi) nan (Fallback.finished m.products d (ordered_add mid low))

placed-tiny : (m : Arithmetic) → Rules m → (d : Doubt) → NoRest 55936 d → placed m d 0 64 ≡ tiny
unfolding placed
placed-tiny m R d A =
    let low = Fallback.log_low m d.reduced.dx 64 in
    let mid = Fallback.log_mid 0 64 in
    let L = log-low-zero m R d.reduced.dx A.dx in
    ap (λ (q : Bool). cond q nan (Fallback.finished m.products d (ordered_add mid low))) (neither mid.hi low.hi log-mid-zero.1.1 L.1.1)
    ∙ finished-tiny m.products R.products d A (ordered_add mid low) (ordered-zeros mid low log-mid-zero L)

powf-tiny : (m : Arithmetic) → Rules m → (d : Doubt) → NoRest 55936 d → Fallback.powf_dd m d ≡ tiny
unfolding Fallback.powf_dd placed
powf-tiny m R d A =
    ap (λ (i : ℕ). placed m d d.reduced.index i) (place-zero m.scalar R.scalar d.reduced.dx A.dx)
    ∙ ap (λ (j : ℕ). placed m d j 64) A.index
    ∙ placed-tiny m R d A

-- ---- a tie of f32, to even

tie : round_to_format binary32 tiny ≡ fin false 0 (pos 0)
unfolding round_to_format round
tie = refl

pub fallback-tie : (m : Arithmetic) → Rules m → (d : Doubt) → NoRest 55936 d → Fallback.fallback m d ≡ fin false 0 (pos 0)
unfolding Fallback.fallback
fallback-tie m R d A = ap (round_to_format binary32) (powf-tiny m R d A) ∙ tie
