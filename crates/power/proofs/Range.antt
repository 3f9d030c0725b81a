-- The first reduction: m r - 1 lies from -2^-8 to below 2^-7, on every backend that keeps the rules.
use Rattle.std.proofs.Common.{◌≡◌, ℕ, ◌+◌, ◌-◌, ◌*◌, ◌/◌, ◌%◌, ◌^◌, ◌<◌, ◌≤◌, Bool, true, false, cond, not, ◌&&◌, T, eqb, ltb, leb, get_or, sym, refl, ap, ◌∙◌, subst, inr, ⊎_elim, le_trans, lt_of_le_of_lt, mul-le-mul_right, mul-one, arith, lit≤, eqb→eq, ltb→lt, leb→le, ltb-false, ltb-true}
use mathlib.Core.Bool.{beq}
use borrow.Author.Tests.{lt-leb}
use lib.Bits.{bit_and, bit_or, mask_lt, or_shifted_r}
use lib.Ieee.{Float, nan, inf, fin, binary64, of_bits, of_fields, odd, neg, round, fits}
use lib.Ieee.Bits.{of_bits-fits}
use lib.Ieee.Exact.{HasValue, odd_sign}
use lib.Ieee.Fits.{and_l, and_r}
use Rattle.power.specs.Backend.{Scalar}
use Rattle.power.specs.Rules.{ScalarRules, Is, IsSum, sign, num, den}
use Rattle.power.specs.Tables.{log_range_reduction_list}
use Rattle.power.specs.Lookup.{range_reduction}
use Rattle.power.specs.Reduction as Reduction
use Rattle.power.specs.Reduction.{Reduces, ReductionRule, Small}
use Rattle.power.specs.Lemmas.Values.{signs, value→is, scale-is}
use Rattle.power.specs.Lemmas.Uses.{dyadic, use-fma}
use Rattle.power.proofs.TableTest.{every, at}

-- ---- the table, by one computed test

-- 256 r
whole : Float → ℕ
whole r = num r * 256 / den r

-- finite, with the sign clear
plain : Float → Bool
plain nan = false
plain (inf s) = false
plain (fin s m e) = not s

-- the entry b at i is k / 256 with k from 128 to 256, and m r - 1 keeps to its bounds at the least and the greatest m of the index i
entry : ℕ → ℕ → Bool
unfolding whole plain of_bits
entry i b =
    let r = of_bits binary64 b in
    plain r && eqb (num r * 256) (whole r * den r) && leb 128 (whole r) && leb (whole r) 256
    && leb (2 ^ 31 - 2 ^ 23) ((2 ^ 23 + i * 2 ^ 16) * whole r) && ltb ((2 ^ 23 + i * 2 ^ 16 + (2 ^ 16 - 1)) * whole r) (2 ^ 31 + 2 ^ 24)

all-entries : T (every entry 0 log_range_reduction_list)
unfolding entry whole plain of_bits
all-entries = tt

-- a number in the terms n / 256
fraction : (r : Float) → T (fits binary64 r) → T (plain r) → (n : ℕ) → num r * 256 ≡ n * den r → Is r false n 256
unfolding plain
fraction nan t h n e = absurd h
fraction (inf s) t h n e = absurd h
fraction (fin true m g) t h n e = absurd h
fraction (fin false m g) t h n e = (t, e, inr refl)

-- the lower bound holds from the index's least significand on
between-low : (t i k : ℕ) → i * 2 ^ 16 ≤ t → 2 ^ 31 - 2 ^ 23 ≤ (2 ^ 23 + i * 2 ^ 16) * k → 2 ^ 31 - 2 ^ 23 ≤ (2 ^ 23 + t) * k
between-low t i k h l = le_trans l (mul-le-mul_right k (omega arith))

-- the upper bound holds up to the index's greatest significand
between-high : (t i k : ℕ) → t ≤ i * 2 ^ 16 + (2 ^ 16 - 1) → (2 ^ 23 + i * 2 ^ 16 + (2 ^ 16 - 1)) * k < 2 ^ 31 + 2 ^ 24 → (2 ^ 23 + t) * k < 2 ^ 31 + 2 ^ 24
between-high t i k h l = lt_of_le_of_lt (mul-le-mul_right k (omega arith)) l

-- the test at one entry, part by part
pub reduction_rule : ReductionRule
unfolding entry range_reduction
reduction_rule i t h l e =
    let b = get_or log_range_reduction_list i 0 in
    let r = of_bits binary64 b in
    let k = whole r in
    let A = plain r in
    let B = eqb (num r * 256) (k * den r) in
    let C = leb 128 k in
    let D = leb k 256 in
    let E = leb (2 ^ 31 - 2 ^ 23) ((2 ^ 23 + i * 2 ^ 16) * k) in
    let F = ltb ((2 ^ 23 + i * 2 ^ 16 + (2 ^ 16 - 1)) * k) (2 ^ 31 + 2 ^ 24) in
    let t5 = at entry log_range_reduction_list all-entries i h in
    let t4 = and_l (A && B && C && D && E) F t5 in
    let t3 = and_l (A && B && C && D) E t4 in
    let t2 = and_l (A && B && C) D t3 in
    let t1 = and_l (A && B) C t2 in
    record {
      size = k;
      is = fraction r (of_bits-fits binary64 b) (and_l A B t1) k (eqb→eq (num r * 256) (k * den r) (and_r A B t1));
      size_least = leb→le 128 k (and_r (A && B) C t2);
      size_most = leb→le k 256 (and_r (A && B && C) D t3);
      product_least = between-low t i k (omega arith) (leb→le (2 ^ 31 - 2 ^ 23) ((2 ^ 23 + i * 2 ^ 16) * k) (and_r (A && B && C && D) E t4));
      product_most = between-high t i k (omega arith) (ltb→lt ((2 ^ 23 + i * 2 ^ 16 + (2 ^ 16 - 1)) * k) (2 ^ 31 + 2 ^ 24) (and_r (A && B && C && D && E) F t5));
    }

-- ---- the significand

-- the pattern of an exponent field of 1023 and the fraction t
pattern : (t : ℕ) → t < 2 ^ 52 → of_bits binary64 (1023 * 2 ^ 52 + t) ≡ odd 53 false (2 ^ 52 + t) 1022 1074
unfolding of_bits of_fields
pattern t h =
    let n = 1023 * 2 ^ 52 + t in
    let a : leb (2 ^ 63) n ≡ false = lt-leb (2 ^ 63) n (omega arith) in
    let b : n % 2 ^ 63 / 2 ^ 52 ≡ 1023 = omega arith in
    let c : n % 2 ^ 52 ≡ t = omega arith in
    λ i. of_fields binary64 (a i) (b i) (c i)

-- (2^52 + 2^29 t) p / (2^52 p) is (2^23 + t) / 2^23
same-ratio : (t p q : ℕ) → q ≡ p * 2 ^ 52 → (2 ^ 52 + t * 2 ^ 29) * p * 2 ^ 23 ≡ (2 ^ 23 + t) * q
same-ratio t p q e = rw e (omega arith)

-- the significand of the fraction bits t is (2^23 + t) / 2^23
significand-is : (b : ℕ) → Is (Reduction.significand b) false (2 ^ 23 + bit_and b 0x7f_ffff) (2 ^ 23)
significand-is b =
    let t = bit_and b 0x7f_ffff in
    let h : t < 2 ^ 23 = mask_lt b 23 in
    let x = Reduction.significand b in
    let n = (2 ^ 52 + t * 2 ^ 29) * 2 ^ 1022 in
    let u : t * 2 ^ 29 < 2 ^ 52 = omega arith in
    let e : x ≡ odd 53 false (2 ^ 52 + t * 2 ^ 29) 1022 1074 = ap (of_bits binary64) (or_shifted_r 1023 52 (t * 2 ^ 29) u) ∙ pattern (t * 2 ^ 29) u in
    let v : HasValue x false n (2 ^ 1074) = subst (λ (y : Float). HasValue y false n (2 ^ 1074)) (sym e) (odd_sign 53 false (2 ^ 52 + t * 2 ^ 29) 1022 1074) in
    scale-is x false n (2 ^ 1074) (2 ^ 23 + t) (2 ^ 23) (lit≤ tt) (same-ratio t (2 ^ 1022) (2 ^ 1074) refl)
    (value→is x false n (2 ^ 1074) (of_bits-fits binary64 (bit_or (t * 2 ^ 29) 0x3ff0_0000_0000_0000)) v)

-- ---- m r - 1

-- a sum of two fractions of few digits over 2^j is a value of f64
pub sum_number : (s t : Bool) (a b j : ℕ) → a + b < 2 ^ 53 → j ≤ 1074 → (r : Float) × IsSum r s a t b (2 ^ j)
sum_number s t a b j h k = go (beq s t) (ltb a b)
  where
    go : (p q : Bool) → (r : Float) × cond p (Is r s (a + b) (2 ^ j)) (cond q (Is r t (b - a) (2 ^ j)) (Is r s (a - b) (2 ^ j)))
    go true q = (round binary64 s (a + b) (2 ^ j), dyadic s (a + b) j h k)
    go false true = (round binary64 t (b - a) (2 ^ j), dyadic t (b - a) j (omega arith) k)
    go false false = (round binary64 s (a - b) (2 ^ j), dyadic s (a - b) j (omega arith) k)

-- a / 2^31 - 1 keeps to the bounds that a does
small : (x : Float) (a : ℕ) → 2 ^ 31 - 2 ^ 23 ≤ a → a < 2 ^ 31 + 2 ^ 24 → IsSum x false a true (2 ^ 31) (2 ^ 31) → Small x
small x a l u w = go (ltb a (2 ^ 31)) refl w
  where
    go : (q : Bool) → ltb a (2 ^ 31) ≡ q → cond q (Is x true (2 ^ 31 - a) (2 ^ 31)) (Is x false (a - 2 ^ 31) (2 ^ 31)) → Small x
    go true e w = let h = ltb-true a (2 ^ 31) e in record { minus = true; size = 2 ^ 31 - a; is = w; bound = omega arith }
    go false e w = let h = ltb-false a (2 ^ 31) e in record { minus = false; size = a - 2 ^ 31; is = w; bound = omega arith }

minus_one : Is Reduction.negative_one true 1 1
unfolding neg of_bits fits
minus_one = (tt, refl, inr refl)

minus-sign : sign Reduction.negative_one ≡ true
unfolding neg of_bits
minus-sign = refl

-- an entry has the sign clear
entry-sign : (r : Float) (t : ℕ) → Reduces r t → sign r ≡ false
entry-sign r t R = ⊎_elim (λ z. absurd (omega (arith, R.size_least, z))) (λ e. e) (signs r false R.size 256 R.is)

-- fma answers m r - 1, which has few digits
pub first_range : (m : Scalar) → ScalarRules m → (b : ℕ) → Small (Reduction.dx m b)
unfolding Reduction.dx
first_range m K b =
    let t = bit_and b 0x7f_ffff in
    let h : t < 2 ^ 23 = mask_lt b 23 in
    let r = range_reduction (t / 2 ^ 16) in
    let R : Reduces r t = reduction_rule (t / 2 ^ 16) t (omega arith) h refl in
    let k = R.size in
    let N = (2 ^ 23 + t) * k in
    let lo : 2 ^ 31 - 2 ^ 23 ≤ N = R.product_least in
    let hi : N < 2 ^ 31 + 2 ^ 24 = R.product_most in
    let same : N * 1 ≡ N = mul-one N in
    let S = sum_number false true (N * 1) (2 ^ 31) 31 (omega arith) (lit≤ tt) in
    small (Reduction.dx m b) (N * 1) (omega arith) (omega arith)
    (use-fma m.fma K.fma_exact (Reduction.significand b) r Reduction.negative_one (round binary64 false N (2 ^ 31)) S.0
    false false true (2 ^ 23 + t) (2 ^ 23) k 256 1 1
    (lit≤ tt) (lit≤ tt) (lit≤ tt) (lit≤ tt) (lit≤ tt) (lit≤ tt) (le_trans (omega arith) (lit≤ {m = 2 ^ 24} tt)) (le_trans R.size_most (lit≤ tt)) (lit≤ tt)
    (significand-is b) R.is minus_one (entry-sign r t R) minus-sign
    (dyadic false N 31 (omega arith) (lit≤ tt)) S.1)
