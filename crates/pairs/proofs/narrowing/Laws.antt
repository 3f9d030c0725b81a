-- Narrowing from binary64 to binary32, on the patterns. Assumes nothing.
use Rattle.std.proofs.Common.{◌≡◌, ℕ, zero, suc, ◌+◌, ◌-◌, ◌*◌, ◌/◌, ◌%◌, ◌^◌, ◌<◌, ◌≤◌, Bool, true, false, cond, not, T, sym, refl, ap, ◌∙◌, subst, inl, inr, true≢false, lt_of_lt_of_le, mul-le-mul_right, mod-lt, mul_assoc, div-lt_iff_lt-mul, eq-zero-or-pos, eq-or-lt_of_le, mul-lt-mul_of_pos_right, mul-pos, div-add-mod', le-div_iff_mul-le, arith, nltb→le, pow_pos, pow_mono, pow-add, shl_lt, shr_lt}
use Prim.Native.Nat.{compare, Ordering}
use native.Mathlib.Omega.{compare-lt, compare-eq, compare-gt}
use lib.Arith.{digits_div, digits_mod}
use lib.Ieee.{Float, Format, nan, inf, fin, binary32, binary64, prec, low, size, nearest, units, round, of_bits, to_bits, fits, is_nan}
use lib.Ieee.Bits.{of_bits-to_bits, to_bits-lt, nan_bits_is, nan_bits_above}
use lib.Ieee.Digits.{size-le}
use lib.Ieee.Fits.{round_is, down_pos}
use lib.Ieee.Exact.{HasValue}
use lib.Ieee.Nearest.{closest, closest_same, div_same}
use lib.Ieee.Scale.{round_same}
use Rattle.std.specs.Float.{round_to_format}
use Rattle.pairs.specs.Narrowing.{Narrowed}
use Rattle.pairs.proofs.Powers.{size-gt}
use Rattle.pairs.proofs.Digits.{closest-is}
use Rattle.pairs.proofs.Patterns.{steps, steps_high, steps-lt, read-signed, packed, infinite, overflows}

-- ---- the nearest whole number

whole : (t u q r : ℕ) → t ≡ q * u + r → r < u → t / u ≡ q
whole t u q r e l = ap (λ (k : ℕ). k / u) e ∙ digits_div q l

-- t / u is q, and r is left
at : (t u q r : ℕ) (o : Ordering) → t ≡ q * u + r → r < u → compare (r * 2) u ≡ o → closest t u ≡ nearest q o
at t u q r o e l c = grind (arith, whole, digits_mod)

-- Half the unit less one is added, and one more where q is odd: a carry says to go up.
module _ (t u h q r : ℕ) (U : u ≡ 2 * h) (e : t ≡ q * u + r) (l : r < u) where
  tie : (p : ℕ) → r ≡ h → p < 2 → (t + (h - 1) + p) / u ≡ q + p
  tie zero x P = whole (t + (h - 1) + 0) u (q + 0) (r + (h - 1)) (omega arith) (omega arith)
  tie (suc zero) x P = whole (t + (h - 1) + 1) u (q + 1) 0 (omega arith) (omega arith)
  tie (suc (suc p)) x P = absurd (omega arith)

  by-half : (p : ℕ) → p ≡ q % 2 → (t + (h - 1) + p) / u ≡ closest t u
  by-half p P = go (compare (r * 2) u) refl
    where
      go : (o : Ordering) → compare (r * 2) u ≡ o → (t + (h - 1) + p) / u ≡ closest t u
      go Ordering.lt c = let x : r * 2 < u = compare-lt _ _ c in whole (t + (h - 1) + p) u q (r + (h - 1) + p) (omega arith) (omega arith) ∙ sym (at t u q r Ordering.lt e l c)
      go Ordering.eq c = let x : r * 2 ≡ u = compare-eq _ _ c in tie p (omega arith) (omega arith) ∙ ap (λ (x : ℕ). q + x) P ∙ sym (at t u q r Ordering.eq e l c)
      go Ordering.gt c = let x : u < r * 2 = compare-gt _ _ c in whole (t + (h - 1) + p) u (suc q) (r + (h - 1) + p - u) (omega arith) (omega arith) ∙ sym (at t u q r Ordering.gt e l c)

power_at : (a b : ℕ) → a ≡ b → 2 ^ a ≡ 2 ^ b
power_at a b e = ap (λ (k : ℕ). 2 ^ k) e

double : (k : ℕ) → 0 < k → 2 ^ k ≡ 2 * 2 ^ (k - 1)
double k h = grind (arith, power_at, pow-add)

pub half-even : (t k : ℕ) → 0 < k → (t + (2 ^ (k - 1) - 1) + t / 2 ^ k % 2) / 2 ^ k ≡ closest t (2 ^ k)
half-even t k h = by-half t (2 ^ k) (2 ^ (k - 1)) (t / 2 ^ k) (t % 2 ^ k) (double k h) (sym (div-add-mod' t (2 ^ k))) (mod-lt t (pow_pos k)) (t / 2 ^ k % 2) refl

carry : (c q : ℕ) (o : Ordering) → nearest (c * 2 + q) o ≡ c * 2 + nearest q o
carry c q Ordering.lt = refl
carry c q Ordering.eq = omega arith
carry c q Ordering.gt = omega arith

-- an even number more
more : (c m u : ℕ) → 0 < u → closest (c * 2 * u + m) u ≡ c * 2 + closest m u
more c m u U = at (c * 2 * u + m) u (c * 2 + m / u) (m % u) (compare (m % u * 2) u) (omega (arith, div-add-mod' m u)) (mod-lt m U) refl ∙ carry c (m / u) (compare (m % u * 2) u)

-- less than a half
small : (n u : ℕ) → n * 2 < u → closest n u ≡ 0
small n u h = closest-is n u 0 (omega arith) (omega arith) (omega arith)

closest-in : (m u : ℕ) → (m / u ≤ closest m u) × (closest m u ≤ m / u + 1)
closest-in m u = grind arith

scaled : (m j a b : ℕ) → j + a ≡ b → closest (m * 2 ^ j) (2 ^ b) ≡ closest m (2 ^ a)
scaled m j a b e = grind (arith, closest_same, pow_pos, pow-add, power_at)

-- ---- `round` at a fraction whose divisor is a power of two

rounded : (f : Format) (s : Bool) (n l k : ℕ) → size (n / 2 ^ l) - prec f ≡ k → round f s n (2 ^ (low f + l)) ≡ units f s (closest n (2 ^ (l + k))) k
rounded f s n l k K = grind (arith, div_same, pow_pos, mul_assoc, pow-add, power_at, closest_same, mul-pos, round_is)

-- m has a + 1 digits, and p + 1 are left
sized : (m a j p l : ℕ) → 2 ^ a ≤ m → m < 2 ^ suc a → a + j ≡ p + l → size (m * 2 ^ j / 2 ^ l) ≡ suc p
sized m a j p l lo hi e =
    let w : 2 ^ a * 2 ^ j ≡ 2 ^ p * 2 ^ l = sym (pow-add 2 a j) ∙ power_at (a + j) (p + l) e ∙ pow-add 2 p l in
    let v : 2 ^ suc a * 2 ^ j ≡ 2 ^ suc p * 2 ^ l = sym (pow-add 2 (suc a) j) ∙ power_at (suc a + j) (suc p + l) (omega arith) ∙ pow-add 2 (suc p) l in
    let x : p < size (m * 2 ^ j / 2 ^ l) = grind (arith, size-gt, le-div_iff_mul-le, pow_pos, mul-le-mul_right) in
    let y : size (m * 2 ^ j / 2 ^ l) ≤ suc p = grind (arith, size-le, div-lt_iff_lt-mul, pow_pos, mul-lt-mul_of_pos_right) in
    omega arith

-- from 2^-126 on: 24 of the 53 digits are kept
from-normal : (s : Bool) (m k : ℕ) → 2 ^ 52 ≤ m → m < 2 ^ 53 → round binary32 s (m * 2 ^ (k + 896)) (2 ^ 1074) ≡ units binary32 s (closest m (2 ^ 29)) k
from-normal s m k lo hi =
    rounded binary32 s (m * 2 ^ (k + 896)) 925 k (digits (size (m * 2 ^ (k + 896) / 2 ^ 925)) (sized m 52 (k + 896) (k + 23) 925 lo hi (omega arith)))
    ∙ ap (λ (x : ℕ). units binary32 s x k) (scaled m (k + 896) 29 (925 + k) (omega arith))
  where
    digits : (z : ℕ) → z ≡ suc (k + 23) → z - 24 ≡ k
    digits z e = omega arith

-- below it, to a multiple of 2^-149
below-normal : (s : Bool) (n : ℕ) → n < 2 ^ 948 → round binary32 s n (2 ^ 1074) ≡ units binary32 s (closest n (2 ^ 925)) 0
below-normal s n h = rounded binary32 s n 925 0 (none (size (n / 2 ^ 925)) (size-le (n / 2 ^ 925) 23 (shr_lt 23 925 h)))
  where
    none : (z : ℕ) → z ≤ 23 → z - 24 ≡ 0
    none z e = omega arith

-- ---- from a pattern to what is rounded

of-value : (x : Float) (s : Bool) (a : ℕ) → HasValue x s a (2 ^ 1074) → round_to_format binary32 x ≡ round binary32 s a (2 ^ 1074)
unfolding round_to_format
of-value nan s a v = absurd v
of-value (inf t) s a v = absurd v
of-value (fin t m e) s a v = grind (arith, round_same, down_pos, pow_pos)

finite : (s : Bool) (b : ℕ) → b < 2047 * 2 ^ 52 → round_to_format binary32 (of_bits binary64 (cond s (2 ^ 63) 0 + b)) ≡ round binary32 s (steps binary64 b) (2 ^ 1074)
finite s b h = grind (arith, of-value, read-signed)

-- by its significand m, and j, one less than its exponent field
with-field : (s : Bool) (b m j : ℕ) → 2 ^ 52 ≤ b → b < 2047 * 2 ^ 52 → 2 ^ 52 + b % 2 ^ 52 ≡ m → b / 2 ^ 52 - 1 ≡ j
    → round_to_format binary32 (of_bits binary64 (cond s (2 ^ 63) 0 + b)) ≡ round binary32 s (m * 2 ^ j) (2 ^ 1074)
with-field s b m j lo hi M J = grind (arith, finite, steps_high)

-- ---- the four ranges

pub normal : (b r : ℕ) → 897 * 2 ^ 52 ≤ b → b < 1151 * 2 ^ 52 → r ≡ closest (b - 896 * 2 ^ 52) (2 ^ 29) → Narrowed b r
normal b r lo hi e =
    let m = 2 ^ 52 + b % 2 ^ 52 in
    let k = b / 2 ^ 52 - 897 in
    let q = closest m (2 ^ 29) in
    let d : b - 896 * 2 ^ 52 ≡ k * 2 ^ 22 * 2 * 2 ^ 29 + m = omega arith in
    let is : r ≡ k * 2 ^ 23 + q = omega (arith, e, ap (λ (t : ℕ). closest t (2 ^ 29)) d, more (k * 2 ^ 22) m (2 ^ 29) (pow_pos 29)) in
    let i = closest-in m (2 ^ 29) in
    let K : k ≤ 253 = omega arith in
    let Q : (2 ^ 23 ≤ q) × (q ≤ 2 ^ 24) = omega (arith, i.0, i.1) in
    record {
      bound = omega (arith, Q.0, Q.1);
      nearest = λ s.
          ap (λ (t : ℕ). of_bits binary32 (cond s (2 ^ 31) 0 + t)) is
          ∙ packed binary32 s q k Q.1 (λ _. Q.0) (omega arith)
          ∙ sym (with-field s b m (k + 896) (omega arith) (omega arith) refl (omega arith) ∙ from-normal s m k (omega arith) (omega arith));
    }

-- below half of 2^-149
pub tiny : (b : ℕ) → b < 873 * 2 ^ 52 → Narrowed b 0
tiny b h =
    let n = steps binary64 b in
    let zero : closest n (2 ^ 925) ≡ 0 = small n (2 ^ 925) (shl_lt 924 1 (steps-lt b 872 h)) in
    record {
      bound = omega arith;
      nearest = λ s.
          packed binary32 s 0 0 (omega arith) (λ g. absurd (omega arith)) (omega arith)
          ∙ sym (finite s b (omega arith) ∙ below-normal s n (steps-lt b 896 (omega arith)) ∙ ap (λ (q : ℕ). units binary32 s q 0) zero);
    }

-- 30 digits at least are dropped
pub subnormal-bound : (m d : ℕ) → m < 2 ^ 53 → 30 ≤ d → closest m (2 ^ d) ≤ 2 ^ 23
subnormal-bound m d h g =
    let p : 53 ≤ 23 + d = omega arith in
    let l : m / 2 ^ d < 2 ^ 23 = shr_lt 23 d (lt_of_lt_of_le h (pow_mono p)) in
    omega (arith, (closest-in m (2 ^ d)).1)

pub subnormal : (b r : ℕ) → 873 * 2 ^ 52 ≤ b → b < 897 * 2 ^ 52 → r ≡ closest (2 ^ 52 + b % 2 ^ 52) (2 ^ (926 - b / 2 ^ 52)) → Narrowed b r
subnormal b r lo hi e =
    let m = 2 ^ 52 + b % 2 ^ 52 in
    let d = 926 - b / 2 ^ 52 in
    let n = steps binary64 b in
    let i : r ≤ 2 ^ 23 = omega (arith, subnormal-bound m d (omega arith) (omega arith)) in
    let same : closest n (2 ^ 925) ≡ r =
    ap (λ (z : ℕ). closest z (2 ^ 925)) (steps_high binary64 b (omega arith)) ∙ scaled m (b / 2 ^ 52 - 1) d 925 (omega arith) ∙ sym e in
    record {
      bound = omega arith;
      nearest = λ s.
          ap (λ (z : ℕ). of_bits binary32 (cond s (2 ^ 31) 0 + z)) {x = r} {y = 0 * 2 ^ 23 + r} (omega arith)
          ∙ packed binary32 s r 0 (omega arith) (λ g. absurd (omega arith)) (omega arith)
          ∙ sym (finite s b (omega arith) ∙ below-normal s n (steps-lt b 896 hi) ∙ ap (λ (q : ℕ). units binary32 s q 0) same);
    }

at-infinity : (s : Bool) → round_to_format binary32 (of_bits binary64 (cond s (2 ^ 63) 0 + 2047 * 2 ^ 52)) ≡ inf s
at-infinity s = ap (round_to_format binary32) (infinite binary64 s) ∙ of-infinity s
  where
    of-infinity : (s : Bool) → round_to_format binary32 (inf s) ≡ inf s
    of-infinity s = unfold round_to_format in refl

from-overflow : (s : Bool) (b : ℕ) → 1151 * 2 ^ 52 ≤ b → b ≤ 2047 * 2 ^ 52 → round_to_format binary32 (of_bits binary64 (cond s (2 ^ 63) 0 + b)) ≡ inf s
from-overflow s b lo hi =
    elim (eq-or-lt_of_le hi) [
      | inl e ↦ ap (λ (z : ℕ). round_to_format binary32 (of_bits binary64 (cond s (2 ^ 63) 0 + z))) e ∙ at-infinity s
      | inr l ↦
          let m = 2 ^ 52 + b % 2 ^ 52 in
          let k = b / 2 ^ 52 - 897 in
          with-field s b m (k + 896) (omega arith) l refl (omega arith)
          ∙ from-normal s m k (omega arith) (omega arith)
          ∙ overflows binary32 s (closest m (2 ^ 29)) k (omega (arith, (closest-in m (2 ^ 29)).0)) (omega arith)
    ]

pub huge : (b : ℕ) → 1151 * 2 ^ 52 ≤ b → b ≤ 2047 * 2 ^ 52 → Narrowed b (255 * 2 ^ 23)
huge b lo hi = record { bound = omega arith; nearest = λ s. infinite binary32 s ∙ sym (from-overflow s b lo hi) }

-- ---- a NaN, and what is none

pub nan_is : (x : Float) → is_nan x ≡ true → of_bits binary32 0x7fc0_0000 ≡ round_to_format binary32 x
unfolding round_to_format of_bits is_nan
nan_is nan h = refl
nan_is (inf s) h = absurd (true≢false (sym h))
nan_is (fin s m e) h = absurd (true≢false (sym h))

pub number-bits : (x : Float) → T (fits binary64 x) → T (not (is_nan x)) → to_bits binary64 x % 2 ^ 63 ≤ 2047 * 2 ^ 52
number-bits x F n =
    let b = to_bits binary64 x in
    nltb→le (2047 * 2 ^ 52) (b % 2 ^ 63) (subst (λ (k : Bool). T (not k)) (sym (ap is_nan (of_bits-to_bits binary64 x F)) ∙ sym (nan_bits_is binary64 b) ∙ nan_bits_above binary64 b) n)

-- ---- the sign

sign : (b : ℕ) → b < 2 ^ 64 → (s : Bool) × (b ≡ cond s (2 ^ 63) 0 + b % 2 ^ 63) × (b / 2 ^ 63 * 2 ^ 31 % 2 ^ 64 ≡ cond s (2 ^ 31) 0)
sign b h = elim (eq-zero-or-pos (b / 2 ^ 63)) [ inl z ↦ (false, omega arith, omega arith) | inr p ↦ (true, omega arith, omega arith) ]

pub with-sign : (x : Float) (r : ℕ) → T (fits binary64 x) → Narrowed (to_bits binary64 x % 2 ^ 63) r
    → of_bits binary32 (to_bits binary64 x / 2 ^ 63 * 2 ^ 31 % 2 ^ 64 + r) ≡ round_to_format binary32 x
with-sign x r F N =
    let s = sign (to_bits binary64 x) (to_bits-lt binary64 x F) in
    ap (λ (z : ℕ). of_bits binary32 (z + r)) s.2
    ∙ N.nearest s.0
    ∙ ap (λ (z : ℕ). round_to_format binary32 (of_bits binary64 z)) (sym s.1)
    ∙ ap (round_to_format binary32) (of_bits-to_bits binary64 x F)
