-- Rounding to a whole number, halves away from zero, on the pattern of a double. Assumes nothing.
use Rattle.std.proofs.Common.{◌≡◌, ℕ, suc, ◌+◌, ◌-◌, ◌*◌, ◌/◌, ◌%◌, ◌^◌, ◌<◌, ◌≤◌, Bool, true, false, cond, T, leb, ◌⊎◌, ℤ, sym, refl, ap, ◌∙◌, subst, inl, inr, lt_of_lt_of_le, mul-le-mul_right, mul_assoc, mul_comm, div-lt_iff_lt-mul, add-mul, eq-zero-or-pos, mul-le-mul_left, le-div_iff_mul-le, mul-one, mul_right_comm, arith, pow_pos, pow_mono, pow-add, shl_lt}
use native.Mathlib.Nat.{mul-div-mul_right, eq_of_mul-eq-mul_right, add-mul-div_right, pow-succ'}
use lib.Bits.{bit_and, bit_or, and_high, or_shifted}
use lib.Pow.{shl-shr, shr_mod, field, high, ones_lt, ones_split}
use lib.Ieee.{Float, Format, nan, inf, fin, binary64, up, down, round, fits, of_bits, to_bits}
use lib.Ieee.Back.{round_whole, whole_unique}
use lib.Ieee.Bits.{of_bits-fits}
use lib.Ieee.Exact.{HasValue, round_exact}
use lib.Ieee.Fits.{down_pos, round-fits}
use Rattle.std.specs.Float.{ratio_round_half_up, round_with, float_round}
use Rattle.pairs.proofs.Patterns.{steps, steps-lt, steps_high, steps-packed, read-signed, value, no_number}

-- ---- the nearest whole number

-- equal fractions have one nearest whole number
half-same : (n d a c : ℕ) → 0 < d → 0 < c → n * c ≡ a * d → ratio_round_half_up n d ≡ ratio_round_half_up a c
half-same n d a c D C e =
    let p : (2 * n + d) * c ≡ (2 * a + c) * d = omega (arith, mul_comm d c) in
    let q : 2 * d * c ≡ 2 * c * d = omega (arith, mul_comm d c) in
    sym (mul-div-mul_right (2 * n + d) (2 * d) C) ∙ (λ i. p i / q i) ∙ mul-div-mul_right (2 * a + c) (2 * c) D

half-none : (a p q : ℕ) → p ≡ 2 * q → a < q → ratio_round_half_up a p ≡ 0
half-none a p q e h = grind arith

half-one : (a p q : ℕ) → p ≡ 2 * q → q ≤ a → a < p → ratio_round_half_up a p ≡ 1
half-one a p q e h l = grind arith

half-half : (m h : ℕ) → ratio_round_half_up m (2 * h) ≡ (m + h) / (2 * h)
half-half m h = grind arith

away-is : (f : Format) (t : Bool) (m : ℕ) (e : ℤ) → float_round f (fin t m e) ≡ round f t (ratio_round_half_up (m * up e) (down e)) 1
unfolding round_with
away-is f true m e = refl
away-is f false m e = refl

away-nan : (f : Format) → nan ≡ float_round f nan
unfolding round_with
away-nan f = refl

away-inf : (f : Format) (s : Bool) → inf s ≡ float_round f (inf s)
unfolding round_with
away-inf f s = refl

-- y is the whole number n that is nearest to x, the fraction a / c
nearest-is : (f : Format) (x y : Float) (s : Bool) (a c n : ℕ) → HasValue x s a c → 0 < c → ratio_round_half_up a c ≡ n → T (fits f y) → HasValue y s n 1 → HasValue (round f s n 1) s n 1 → y ≡ float_round f x
nearest-is f nan y s a c n v C h Y w r = absurd v
nearest-is f (inf t) y s a c n v C h Y w r = absurd v
nearest-is f (fin t m e) y s a c n v C h Y w r = grind (arith, ratio_round_half_up, half-same, down_pos, whole_unique, round-fits, away-is)

-- n p over p is n
reduced : (x : Float) (s : Bool) (n p : ℕ) → 0 < p → HasValue x s (n * p) p → HasValue x s n 1
reduced nan s n p P v = absurd v
reduced (inf t) s n p P v = absurd v
reduced (fin t m e) s n p P v = grind (arith, eq_of_mul-eq-mul_right, mul_right_comm)

-- ---- sizes of patterns

steps-lower : (b : ℕ) → b / 2 ^ 52 ≡ 1022 → 2 ^ 1073 ≤ steps binary64 b
steps-lower b h = grind (arith, steps_high, mul-le-mul_right)

steps-one : steps binary64 0x3ff0_0000_0000_0000 ≡ 1 * 2 ^ 1074
unfolding steps
steps-one = refl

steps-zero : steps binary64 0 ≡ 0 * 2 ^ 1074
unfolding steps
steps-zero = refl

-- ---- fields of patterns

by_sign : (b : ℕ) → b < 2 ^ 64 → b / 2 ^ 63 % 2 ^ 1 * 2 ^ 63 ≡ cond (leb (2 ^ 63) b) (2 ^ 63) 0
by_sign b h = grind arith

-- the sign of b, and it before z
sign : (b : ℕ) → b < 2 ^ 64 → bit_and b (2 ^ 63) ≡ cond (leb (2 ^ 63) b) (2 ^ 63) 0
sign b h = and_high b 1 63 ∙ by_sign b h

pub signed : (b z : ℕ) → b < 2 ^ 64 → z < 2 ^ 63 → bit_or (bit_and b (2 ^ 63)) z ≡ cond (leb (2 ^ 63) b) (2 ^ 63) 0 + z
signed b z h l = ap (λ (a : ℕ). bit_or a z) (and_high b 1 63) ∙ or_shifted (b / 2 ^ 63 % 2 ^ 1) 63 z l ∙ ap (λ (a : ℕ). a + z) (by_sign b h)

-- the ones below 2^(i + 1), shifted out of 52, and the one at 2^i out of 51
ones-shifted : (i j : ℕ) → i + j ≡ 51 → (2 ^ 52 - 1) / 2 ^ j ≡ 2 ^ suc i - 1
ones-shifted i j h =
    let e : 52 ≡ suc i + j = omega arith in
    ap (λ (a : ℕ). (2 ^ a - 1) / 2 ^ j) e ∙ ap (λ (a : ℕ). a / 2 ^ j) (ones_split (suc i) j) ∙ high (2 ^ suc i - 1) j (ones_lt j)

one_shifted : (i j : ℕ) → i + j ≡ 51 → 2 ^ 51 / 2 ^ j ≡ 2 ^ i
one_shifted i j h = ap (λ (a : ℕ). 2 ^ a / 2 ^ j) (sym h) ∙ ap (λ (a : ℕ). a / 2 ^ j) (pow-add 2 i j) ∙ shl-shr (2 ^ i) j

-- the low i + 1 bits cleared
cleared : (n i : ℕ) → i ≤ 51 → n < 2 ^ 64 → bit_and n (2 ^ 64 - 1 - (2 ^ suc i - 1)) ≡ n / 2 ^ suc i * 2 ^ suc i
cleared n i l h =
    let k : 63 - i + suc i ≡ 64 = omega arith in
    let m : 2 ^ 64 - 1 - (2 ^ suc i - 1) ≡ 2 ^ (63 - i + suc i) - 2 ^ suc i = omega (arith, pow_pos (suc i), ap (λ (a : ℕ). 2 ^ a) k) in
    let u : n < 2 ^ (63 - i + suc i) = subst (λ (a : ℕ). n < 2 ^ a) (sym k) h in
    ap (bit_and n) m ∙ and_high n (63 - i) (suc i) ∙ ap (λ (a : ℕ). a * 2 ^ suc i) (shr_mod (63 - i) (suc i) u)

-- the multiple c d q stays
above-cleared : (c d q w : ℕ) → 0 < q → (c * (d * q) + w) / q * q ≡ c * (d * q) + w / q * q
above-cleared c d q w h =
    let e : c * (d * q) + w ≡ w + c * d * q = omega (arith, mul_assoc c d q) in
    let p : (c * (d * q) + w) / q ≡ w / q + c * d = grind (arith, add-mul-div_right) in
    ap (λ (a : ℕ). a * q) p ∙ omega (arith, mul_assoc c d q, add-mul (w / q) (c * d) q)

-- the significand m, rounded to a multiple of q = 2 h, stays within its binade's ends
in-binade : (m d q h : ℕ) → q ≡ 2 * h → 0 < h → d * q ≤ m → m < 2 * (d * q) → (d * q ≤ (m + h) / q * q) × ((m + h) / q * q ≤ 2 * (d * q))
in-binade m d q h e H l u =
    let Q : 0 < q = omega arith in
    let a : d ≤ (m + h) / q = (le-div_iff_mul-le Q).1 (omega arith) in
    let b : (m + h) / q < 2 * d + 1 = (div-lt_iff_lt-mul Q).1 (omega (arith, add-mul (2 * d) 1 q, mul_assoc 2 d q)) in
    let c : (m + h) / q ≤ 2 * d = omega arith in
    (mul-le-mul_right q a, omega (arith, mul-le-mul_right q c, mul_assoc 2 d q))

-- the pattern's parts: c 2^52 holds the sign and one less than the exponent field
parts : (b : ℕ) → b < 2 ^ 64 → 1 ≤ b / 2 ^ 52 % 2 ^ 11
    → (b ≡ (b / 2 ^ 52 - 1) * 2 ^ 52 + (2 ^ 52 + b % 2 ^ 52)) × ((b / 2 ^ 52 - 1) * 2 ^ 52 ≡ cond (leb (2 ^ 63) b) (2 ^ 63) 0 + (b / 2 ^ 52 % 2 ^ 11 - 1) * 2 ^ 52)
parts b h l = (omega arith, omega (arith, by_sign b h))

-- b with half a unit added and the fraction bits cleared, for an exponent field of j + 1023
pattern : (b i j : ℕ) → b < 2 ^ 64 → i + j ≡ 51 → b / 2 ^ 52 % 2 ^ 11 ≡ j + 1023
    → bit_and (b + 2 ^ 51 / 2 ^ j) (2 ^ 64 - 1 - (2 ^ 52 - 1) / 2 ^ j) ≡ cond (leb (2 ^ 63) b) (2 ^ 63) 0 + ((j + 1022) * 2 ^ 52 + (2 ^ 52 + b % 2 ^ 52 + 2 ^ i) / 2 ^ suc i * 2 ^ suc i)
pattern b i j l h f =
    let q = 2 ^ suc i in
    let m = 2 ^ 52 + b % 2 ^ 52 in
    let c = b / 2 ^ 52 - 1 in
    let w = parts b l (omega arith) in
    let p : 2 ^ j * q ≡ 2 ^ 52 = sym (pow-add 2 j (suc i)) ∙ ap (λ (a : ℕ). 2 ^ a) {x = j + suc i} {y = 52} (omega arith) in
    let P : c * (2 ^ j * q) ≡ c * 2 ^ 52 = ap (λ (a : ℕ). c * a) p in
    let u : 2 ^ i ≤ 2 ^ 51 = pow_mono {i = i} {j = 51} (omega arith) in
    (λ t. bit_and (b + one_shifted i j h t) (2 ^ 64 - 1 - ones-shifted i j h t))
    ∙ cleared (b + 2 ^ i) i (omega arith) (omega arith)
    ∙ ap (λ (a : ℕ). a / q * q) {x = b + 2 ^ i} {y = c * (2 ^ j * q) + (m + 2 ^ i)} (omega arith)
    ∙ above-cleared c (2 ^ j) q (m + 2 ^ i) (pow_pos (suc i))
    ∙ omega arith

-- the value of b, to a whole number, for a unit of 2^(i + 1) in its significand
halved : (b i k : ℕ) → b / 2 ^ 52 % 2 ^ 11 ≡ suc k → 2 ^ k * 2 ^ suc i ≡ 2 ^ 1074 → ratio_round_half_up (steps binary64 (b % 2 ^ 63)) (2 ^ 1074) ≡ (2 ^ 52 + b % 2 ^ 52 + 2 ^ i) / 2 ^ suc i
halved b i k g P =
    let m = 2 ^ 52 + b % 2 ^ 52 in
    let r = b % 2 ^ 63 in
    let a : 2 ^ 52 + r % 2 ^ 52 ≡ m = grind arith in
    let c : r / 2 ^ 52 ≡ suc k = field b 11 52 ∙ g in
    ap (λ (t : ℕ). ratio_round_half_up t (2 ^ 1074)) (steps_high binary64 r (least r k c) ∙ (λ t. a t * 2 ^ (c t - 1)) ∙ ap (λ (t : ℕ). m * 2 ^ t) {x = suc k - 1} {y = k} (pred-suc k))
    ∙ half-same (m * 2 ^ k) (2 ^ 1074) m (2 ^ suc i) (pow_pos 1074) (pow_pos (suc i)) (mul_assoc m (2 ^ k) (2 ^ suc i) ∙ ap (λ (t : ℕ). m * t) P)
    ∙ ap (ratio_round_half_up m) (pow-succ' 2 i)
    ∙ half-half m (2 ^ i)
    ∙ ap (λ (t : ℕ). (m + 2 ^ i) / t) (sym (pow-succ' 2 i))
  where
    least : (r k : ℕ) → r / 2 ^ 52 ≡ suc k → 2 ^ 52 ≤ r
    least r k h = omega arith

    pred-suc : (k : ℕ) → suc k - 1 ≡ k
    pred-suc k = omega arith

-- ---- the answers, for the pattern b of x and its exponent field X

module _ (x : Float) (b X : ℕ) (F : T (fits binary64 x)) (e : b ≡ to_bits binary64 x) (l : b < 2 ^ 64) (g : X ≡ b / 2 ^ 52 % 2 ^ 11) where
  number : b % 2 ^ 63 < 2047 * 2 ^ 52 → HasValue x (leb (2 ^ 63) b) (steps binary64 (b % 2 ^ 63)) (2 ^ 1074)
  number h =
      subst (λ (a : ℕ). HasValue x (leb (2 ^ 63) a) (steps binary64 (a % 2 ^ 63)) (2 ^ 1074)) (sym e)
      (value binary64 x F (subst (λ (a : ℕ). a % 2 ^ 63 < 2047 * 2 ^ 52) e h))

  -- an exponent field below infinity's: m 2^(k + 1074) smallest values
  whole : (m k : ℕ) → m < 2 ^ 53 → k ≤ 971 → HasValue x (leb (2 ^ 63) b) (m * 2 ^ (k + 1074)) (2 ^ 1074) → x ≡ float_round binary64 x
  whole m k h l v =
      let s = leb (2 ^ 63) b in
      let n = m * 2 ^ k in
      let p : m * 2 ^ (k + 1074) ≡ n * 2 ^ 1074 = ap (λ (a : ℕ). m * a) (pow-add 2 k 1074) ∙ sym (mul_assoc m (2 ^ k) (2 ^ 1074)) in
      let w : HasValue x s n 1 = grind (arith, reduced, pow_pos) in
      let r : HasValue (round binary64 s n 1) s n 1 =
      round_exact binary64 s n 1 m (k + 1074) (omega arith) h (lt_of_lt_of_le (shl_lt {a = m} 53 (k + 1074) h) (pow_mono {i = 53 + (k + 1074)} {j = 2098} (omega arith)))
      (sym p ∙ sym (mul-one (m * 2 ^ (k + 1074)))) in
      nearest-is binary64 x x s n 1 n w (omega arith) (omega arith) F w r

  -- from 2^52 on
  pub kept : 1075 ≤ X → x ≡ float_round binary64 x
  kept h = go (eq-zero-or-pos (2047 * 2 ^ 52 - b % 2 ^ 63))
    where
      no : (x ≡ nan) ⊎ ((s : Bool) × (x ≡ inf s)) → x ≡ float_round binary64 x
      no (inl q) = subst (λ (y : Float). y ≡ float_round binary64 y) (sym q) (away-nan binary64)
      no (inr q) = subst (λ (y : Float). y ≡ float_round binary64 y) (sym q.1) (away-inf binary64 q.0)

      go : (2047 * 2 ^ 52 - b % 2 ^ 63 ≡ 0) ⊎ (0 < 2047 * 2 ^ 52 - b % 2 ^ 63) → x ≡ float_round binary64 x
      go (inl z) = no (no_number binary64 x F (subst (λ (a : ℕ). 2047 * 2 ^ 52 ≤ a % 2 ^ 63) e (omega arith)))
      go (inr p) =
          let r = b % 2 ^ 63 in
          let k : r / 2 ^ 52 - 1 ≡ r / 2 ^ 52 - 1075 + 1074 = omega arith in
          whole (2 ^ 52 + r % 2 ^ 52) (r / 2 ^ 52 - 1075) (omega arith) (omega arith)
          (subst (λ (a : ℕ). HasValue x (leb (2 ^ 63) b) a (2 ^ 1074)) (steps_high binary64 r (omega arith) ∙ ap (λ (a : ℕ). (2 ^ 52 + r % 2 ^ 52) * 2 ^ a) k) (number (omega arith)))

  -- the pattern z after the sign is that of the whole number n
  rounded : (z n : ℕ) → b % 2 ^ 63 < 2047 * 2 ^ 52 → z < 2047 * 2 ^ 52 → steps binary64 z ≡ n * 2 ^ 1074 → ratio_round_half_up (steps binary64 (b % 2 ^ 63)) (2 ^ 1074) ≡ n → n ≤ 2 ^ 53
      → of_bits binary64 (cond (leb (2 ^ 63) b) (2 ^ 63) 0 + z) ≡ float_round binary64 x
  rounded z n h l q a u =
      let s = leb (2 ^ 63) b in
      let y = of_bits binary64 (cond s (2 ^ 63) 0 + z) in
      nearest-is binary64 x y s (steps binary64 (b % 2 ^ 63)) (2 ^ 1074) n (number h) (pow_pos 1074) a (of_bits-fits binary64 (cond s (2 ^ 63) 0 + z))
      (reduced y s n (2 ^ 1074) (pow_pos 1074) (subst (λ (c : ℕ). HasValue y s c (2 ^ 1074)) q (read-signed binary64 s z l)))
      (round_whole binary64 s n u)

  -- below a half
  pub to-zero : X < 1022 → of_bits binary64 (bit_and b (2 ^ 63)) ≡ float_round binary64 x
  to-zero h =
      ap (of_bits binary64) {x = bit_and b (2 ^ 63)} {y = cond (leb (2 ^ 63) b) (2 ^ 63) 0 + 0} (omega (arith, sign b l))
      ∙ rounded 0 0 (omega arith) (omega arith) steps-zero (half-none (steps binary64 (b % 2 ^ 63)) (2 ^ 1074) (2 ^ 1073) refl (steps-lt (b % 2 ^ 63) 1021 (omega arith))) (omega arith)

  -- from a half to below one
  pub to_one : X ≡ 1022 → of_bits binary64 (bit_or (bit_and b (2 ^ 63)) 0x3ff0_0000_0000_0000) ≡ float_round binary64 x
  to_one h =
      ap (of_bits binary64) (signed b 0x3ff0_0000_0000_0000 l (omega arith))
      ∙ rounded 0x3ff0_0000_0000_0000 1 (omega arith) (omega arith) steps-one
      (half-one (steps binary64 (b % 2 ^ 63)) (2 ^ 1074) (2 ^ 1073) refl (steps-lower (b % 2 ^ 63) (omega arith)) (steps-lt (b % 2 ^ 63) 1022 (omega arith)))
      (omega arith)

  -- from one to below 2^52: q is the weight of the unit in the pattern
  pub between : 1023 ≤ X → X < 1075 → of_bits binary64 (bit_and (b + 2 ^ 51 / 2 ^ (X - 1023)) (2 ^ 64 - 1 - (2 ^ 52 - 1) / 2 ^ (X - 1023))) ≡ float_round binary64 x
  between h u =
      let j = X - 1023 in
      let i = 1074 - X in
      let q = 2 ^ suc i in
      let m = 2 ^ 52 + b % 2 ^ 52 in
      let n = (m + 2 ^ i) / q in
      let p : 2 ^ j * q ≡ 2 ^ 52 = sym (pow-add 2 j (suc i)) ∙ ap (λ (a : ℕ). 2 ^ a) {x = j + suc i} {y = 52} (omega arith) in
      let P : 2 ^ (j + 1022) * q ≡ 2 ^ 1074 = sym (pow-add 2 (j + 1022) (suc i)) ∙ ap (λ (a : ℕ). 2 ^ a) {x = j + 1022 + suc i} {y = 1074} (omega arith) in
      let w : (2 ^ j * q ≤ n * q) × (n * q ≤ 2 * (2 ^ j * q)) = grind (arith, in-binade, pow-succ', pow_pos) in
      let z = (j + 1022) * 2 ^ 52 + n * q in
      let Z : steps binary64 z ≡ n * 2 ^ 1074 =
      steps-packed binary64 (n * q) (j + 1022) (omega arith) (omega arith) ∙ mul_assoc n q (2 ^ (j + 1022)) ∙ ap (λ (a : ℕ). n * a) (mul_comm q (2 ^ (j + 1022)) ∙ P) in
      ap (of_bits binary64) (pattern b i j l (omega arith) (omega arith))
      ∙ rounded z n (omega arith) (omega arith) Z (halved b i (j + 1022) (omega arith) P) (omega (arith, mul-le-mul_left n (pow_pos (suc i))))
