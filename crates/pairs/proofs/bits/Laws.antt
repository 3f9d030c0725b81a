-- The bits of an f32 from its leading one to its last, and that its bit pattern says how many. Assumes nothing.
use Rattle.std.proofs.Common.{◌≡◌, ℕ, zero, suc, ◌+◌, ◌-◌, ◌/◌, ◌%◌, ◌^◌, ◌<◌, ◌≤◌, Bool, true, false, cond, T, eqb, ◌⊎◌, sym, refl, ap, ◌∙◌, subst, inl, inr, mod-lt, le-div_iff_mul-le, arith, pow_pos, pow_mono, pow-add, shr_lt, eqb-true}
use native.Mathlib.Nat.{div-eq_of_lt}
use lib.Pow.{mod-mod-pow}
use lib.Bits.{bit_and, bit_or, and_mask, or_shifted_r}
use lib.Count.{count_leading_zeros, count_trailing_zeros, under, leading_top}
use lib.Ieee.{Float, nan, inf, binary32, size, odd, fits, of_fields, of_bits, to_bits}
use lib.Ieee.Digits.{size-le}
use lib.Ieee.Bits.{of_bits-to_bits}
use borrow.Author.Tests.{eqb-false}
use Rattle.pairs.specs.Bits.{significant_bits}
use Rattle.pairs.proofs.Powers.{size-gt}
use Rattle.pairs.proofs.whole.Laws.{cut-odd}

-- ---- digits of a number

half : (c q : ℕ) → q < 2 ^ suc c → q / 2 < 2 ^ c
half c q h = omega arith

-- the trailing zeros of a q that c digits hold, and d digits too
same-trailing : (c d q : ℕ) → 0 < q → q < 2 ^ c → q < 2 ^ d → count_trailing_zeros c q ≡ count_trailing_zeros d q
unfolding count_trailing_zeros
same-trailing zero d q p h k = absurd (omega arith)
same-trailing (suc c) zero q p h k = absurd (omega arith)
same-trailing (suc c) (suc d) q p h k = go (q % 2) refl (λ (r : 0 < q / 2). same-trailing c d (q / 2) r (half c q h) (half d q k))
  where
    go : (r : ℕ) → q % 2 ≡ r → (0 < q / 2 → count_trailing_zeros c (q / 2) ≡ count_trailing_zeros d (q / 2)) → under r (count_trailing_zeros c (q / 2)) ≡ under r (count_trailing_zeros d (q / 2))
    go zero e rest = ap suc (rest (omega arith))
    go (suc r) e rest = refl

size_exact : (n j : ℕ) → 2 ^ j ≤ n → n < 2 ^ suc j → size n ≡ suc j
size_exact n j l u = grind (arith, size-le, size-gt)

-- of j + 1 + t digits, with the t lowest cut off, j + 1 are left
cut-size : (q j t : ℕ) → 2 ^ (j + t) ≤ q → q < 2 ^ (suc j + t) → size (q / 2 ^ t) ≡ suc j
cut-size q j t l u = size_exact (q / 2 ^ t) j ((le-div_iff_mul-le (pow_pos t)).1 (subst (λ (x : ℕ). x ≤ q) (pow-add 2 j t) l)) (shr_lt (suc j) t u)

-- a set digit stands no higher than the highest
set-le : (q j t : ℕ) → q < 2 ^ suc j → q / 2 ^ t % 2 ≡ 1 → t ≤ j
set-le q j t u o = grind (arith, div-eq_of_lt, pow_mono)

-- what a word of 32 bits has between its leading and its trailing zeros
abbrev pub Counts : ℕ → ℕ → Type 0
Counts d n = (count_trailing_zeros 32 d ≤ 32 - count_leading_zeros 32 d) × (32 - count_leading_zeros 32 d - count_trailing_zeros 32 d ≡ n)

between : (q : ℕ) → 0 < q → q < 2 ^ 24 → Counts q (size (q / 2 ^ count_trailing_zeros 24 q))
between q p h =
    let t = count_trailing_zeros 24 q in
    let e : count_trailing_zeros 32 q ≡ t = same-trailing 32 24 q p (omega arith) h in
    let top = leading_top 32 q p (omega arith) in
    let j = top.0 in
    let le : t ≤ j = set-le q j t top.3 (cut-odd 24 q p h) in
    let up : 2 ^ (j - t + t) ≤ q = grind arith in
    let below : q < 2 ^ (suc (j - t) + t) = grind arith in
    let s : size (q / 2 ^ t) ≡ suc (j - t) = cut-size q (j - t) t up below in
    let w : count_leading_zeros 32 q + suc j ≡ 32 = top.1 in
    (omega arith, omega arith)

-- ---- a bit pattern

canonical : (s : Bool) (q k l : ℕ) → 0 < q → q < 2 ^ 24 → Counts q (significant_bits (odd 24 s q k l))
unfolding odd significant_bits
canonical s zero k l p h = absurd (omega arith)
canonical s (suc q) k l p h = between (suc q) p h

of_zero : (s : Bool) (k l : ℕ) → 0 ≡ significant_bits (odd 24 s 0 k l)
unfolding odd significant_bits size
of_zero s k l = refl

-- an infinity or a NaN
no_number : (s b : Bool) → 0 ≡ significant_bits (cond b (inf s) nan)
unfolding significant_bits
no_number s true = refl
no_number s false = refl

-- what the pattern a of |y| says of y
pub record Says (a : ℕ) (y : Float) : Type 0 where
  pub none : (a ≡ 0) ⊎ (0x7f80_0000 ≤ a) → 0 ≡ significant_bits y
  pub subnormal : 0 < a → a < 2 ^ 23 → Counts a (significant_bits y)
  pub normal : 2 ^ 23 ≤ a → a < 0x7f80_0000 → Counts (2 ^ 23 + a % 2 ^ 23) (significant_bits y)

-- the sign s, the exponent field x and the fraction t
of-fields : (s : Bool) (a x t : ℕ) → x ≡ a / 2 ^ 23 → t ≡ a % 2 ^ 23 → a < 2 ^ 31 → Says a (of_fields binary32 s x t)
unfolding of_fields
of-fields s a zero t e f h =
    let q : t ≡ a = omega arith in
    subst (λ (n : ℕ). Says a (odd 24 s n 0 149)) (sym q) (record {
      none = λ z. elim z [
        | inl i ↦ subst (λ (n : ℕ). 0 ≡ significant_bits (odd 24 s n 0 149)) (sym i) (of_zero s 0 149)
        | inr i ↦ absurd (omega arith)
      ];
      subnormal = λ p u. canonical s a 0 149 p (omega arith);
      normal = λ p u. absurd (omega arith);
    })
of-fields s a (suc x) t e f h = go (eqb (suc x) 255) refl
  where
    go : (b : Bool) → eqb (suc x) 255 ≡ b → Says a (cond b (cond (eqb t 0) (inf s) nan) (odd 24 s (2 ^ 23 + t) x 149))
    go true i =
        let j : suc x ≡ 255 = eqb-true (suc x) 255 i in
        record { none = λ z. no_number s (eqb t 0); subnormal = λ p u. absurd (omega arith); normal = λ p u. absurd (omega arith) }
    go false i = record {
      none = λ z. absurd (elim z [ inl k ↦ omega arith | inr k ↦ eqb-false (suc x) 255 i (omega arith) ]);
      subnormal = λ p u. absurd (omega arith);
      normal = λ p u. subst (λ (n : ℕ). Counts (2 ^ 23 + n) (significant_bits (odd 24 s (2 ^ 23 + t) x 149))) f (canonical s (2 ^ 23 + t) x 149 (omega arith) (omega arith));
    }

of-pattern : (b : ℕ) → Says (bit_and b 0x7fff_ffff) (of_bits binary32 b)
unfolding of_bits
of-pattern b =
    subst (λ (a : ℕ). Says a (of_bits binary32 b)) (sym (and_mask b 31))
    (of-fields _ (b % 2 ^ 31) (b % 2 ^ 31 / 2 ^ 23) (b % 2 ^ 23) refl (sym (mod-mod-pow b 8 23)) (mod-lt b (omega arith)))

pub says : (x : Float) (b : ℕ) → T (fits binary32 x) → b ≡ to_bits binary32 x → Says (bit_and b 0x7fff_ffff) x
says x b h e = subst (λ (y : Float). Says (bit_and b 0x7fff_ffff) y) (ap (of_bits binary32) e ∙ of_bits-to_bits binary32 x h) (of-pattern b)

-- the fraction below the hidden bit
pub hidden : (a : ℕ) → bit_or (bit_and a 0x7f_ffff) 0x80_0000 ≡ 2 ^ 23 + a % 2 ^ 23
hidden a = ap (λ (n : ℕ). bit_or n 0x80_0000) (and_mask a 23) ∙ or_shifted_r 1 23 (a % 2 ^ 23) (mod-lt a (omega arith))
