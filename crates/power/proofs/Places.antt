-- The second reduction's index lies in 0 to 192, on every backend that keeps the rules.
use Rattle.std.proofs.Common.{◌≡◌, ℕ, ◌+◌, ◌-◌, ◌*◌, ◌/◌, ◌^◌, ◌<◌, ◌≤◌, Bool, true, false, cond, ltb, sym, refl, ap, ◌∙◌, inr, le_trans, le_of_eq, lt_of_le_of_lt, le_of_lt, div-lt_iff_lt-mul, mul-lt-mul_of_pos_right, mul-one, mul-div_cancel, arith, lit≤, ltb-false}
use native.Mathlib.Nat.{min-le_left}
use lib.Ieee.{Float, nan, inf, fin, binary64, of_bits, fits, unlike, round, to_unsigned, up, down}
use lib.Ieee.Fits.{down_pos}
use Rattle.std.specs.Float.{ratio_round_half_up}
use Rattle.power.specs.Backend.{Scalar}
use Rattle.power.specs.Rules.{ScalarRules, Is, IsSum, sign, num, den}
use Rattle.power.specs.Lookup.{f64}
use Rattle.power.specs.Reduction.{Small}
use Rattle.power.specs.Fallback as Fallback
use Rattle.power.specs.Lemmas.Values.{den_pos, cross, turn_is}
use Rattle.power.specs.Lemmas.Uses.{dyadic, within, use-fma}
use Rattle.power.proofs.Range.{sum_number}

-- 2^14
abbrev pub factor : Float
factor = f64 0x40d0_0000_0000_0000

-- 64
abbrev pub shift : Float
shift = f64 0x4050_0000_0000_0000

-- 2^14 dx + 64 is below 192, in units of 2^-31
shifted : (s : Bool) (n : ℕ) (z : Float) → cond s (n ≤ 2 ^ 23) (n < 2 ^ 24) → IsSum z (unlike s false) (n * 2 ^ 14 * 1) false (2 ^ 37) (2 ^ 31)
    → (k : ℕ) × (k < 192 * 2 ^ 31) × Is z false k (2 ^ 31)
shifted false n z h w = (n * 2 ^ 14 * 1 + 2 ^ 37, omega arith, w)
shifted true n z h w = go (ltb (n * 2 ^ 14 * 1) (2 ^ 37)) refl w
  where
    go : (q : Bool) → ltb (n * 2 ^ 14 * 1) (2 ^ 37) ≡ q → cond q (Is z false (2 ^ 37 - n * 2 ^ 14 * 1) (2 ^ 31)) (Is z true (n * 2 ^ 14 * 1 - 2 ^ 37) (2 ^ 31))
        → (k : ℕ) × (k < 192 * 2 ^ 31) × Is z false k (2 ^ 31)
    go true e w = (2 ^ 37 - n * 2 ^ 14 * 1, omega arith, w)
    go false e w =
        let l = ltb-false (n * 2 ^ 14 * 1) (2 ^ 37) e in
        (0, omega arith, turn_is z true false (n * 2 ^ 14 * 1 - 2 ^ 37) 0 (2 ^ 31) (omega arith) refl w)

-- a fraction below 192 is rounded to at most 192
half-bound : (n d : ℕ) → 0 < d → n < 192 * d → ratio_round_half_up n d < 193
half-bound n d D h = (div-lt_iff_lt-mul {k = 2 * d} {x = 2 * n + d} {y = 193} (omega arith)).1 (omega arith)

-- the cast of a whole number ±n to an integer is at most n
cut : (x : Float) (s : Bool) (n : ℕ) → Is x s n 1 → to_unsigned 64 x ≤ n
unfolding to_unsigned
cut nan s n w = absurd w
cut (inf t) s n w = absurd w
cut (fin true m e) s n w = omega arith
cut (fin false m e) s n w =
    let q : m * up e / down e ≡ n = ap (λ (x : ℕ). x / down e) (sym (mul-one (m * up e)) ∙ w.1) ∙ mul-div_cancel n (down_pos e) in
    le_trans (min-le_left (m * up e / down e) (2 ^ 64 - 1)) (le_of_eq q)

-- either bound, as one
few : (s : Bool) (n : ℕ) → cond s (n ≤ 2 ^ 23) (n < 2 ^ 24) → n ≤ 2 ^ 24
few true n h = omega arith
few false n h = omega arith

-- fma answers 2^14 dx + 64, which has few digits
sum_is : (m : Scalar) → ScalarRules m → (x : Float) → Small x → (k : ℕ) × (k < 192 * 2 ^ 31) × Is (m.fma x factor shift) false k (2 ^ 31)
unfolding of_bits fits
sum_is m K x R =
    let s = R.minus in
    let n = R.size in
    let n-le : n ≤ 2 ^ 24 = few s n R.bound in
    let S = sum_number (unlike s false) false (n * 2 ^ 14 * 1) (2 ^ 37) 31 (omega arith) (lit≤ tt) in
    shifted s n (m.fma x factor shift) R.bound
    (use-fma m.fma K.fma_exact x factor shift (round binary64 (unlike s false) (n * 2 ^ 14) (2 ^ 31)) S.0
    s false false n (2 ^ 31) (2 ^ 14) 1 64 1
    (lit≤ tt) (lit≤ tt) (lit≤ tt) (lit≤ tt) (lit≤ tt) (lit≤ tt) (le_trans n-le (lit≤ tt)) (lit≤ tt) (lit≤ tt)
    R.is (tt, refl, inr refl) (tt, refl, inr refl) refl refl
    (dyadic (unlike s false) (n * 2 ^ 14) 31 (omega arith) (lit≤ tt)) S.1)

-- its nearest whole number is at most 192
pub place_small : (m : Scalar) → ScalarRules m → (x : Float) → Small x → Fallback.place m x < 193
unfolding Fallback.place
place_small m K x R =
    let z = m.fma x factor shift in
    let Z = sum_is m K x R in
    let c = cross z false Z.0 (2 ^ 31) Z.2 in
    let below : Z.0 * den z < 192 * 2 ^ 31 * den z = mul-lt-mul_of_pos_right Z.1 (den_pos z) in
    let bound : num z < 192 * den z = omega (arith, c, below) in
    let r = K.round_away z (within 400 z false Z.0 (2 ^ 31) (lit≤ tt) (lit≤ tt) (le_trans (le_of_lt Z.1) (lit≤ tt)) Z.2) in
    lt_of_le_of_lt (cut (m.round z) (sign z) (ratio_round_half_up (num z) (den z)) r) (half-bound (num z) (den z) (den_pos z) bound)
