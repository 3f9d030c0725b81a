-- Powers of two: their order, and how one splits.
use Rattle.std.proofs.Common.{◌≡◌, ℕ, suc, ◌+◌, ◌-◌, ◌*◌, ◌^◌, ◌<◌, ◌≤◌, ap, ◌∙◌, lt_of_not-le, lt_of_lt_of_le, not-le_of_lt, arith, pow_mono, pow-add}
use lib.Pow.{pow-lt}
use lib.Ieee.{size}
use lib.Ieee.Digits.{back, size-lt}

-- one step up doubles
pub double : (q : ℕ) → 2 ^ suc q ≡ 2 ^ q * 2
double q = omega arith

-- the same for the second part of an exponent
pub double-next : (p e : ℕ) → 2 ^ (p + suc e) ≡ 2 ^ (p + e) * 2
double-next p e = ap (λ (n : ℕ). 2 ^ n) (shift p e) ∙ double (p + e)
  where
    shift : (p e : ℕ) → p + suc e ≡ suc (p + e)
    shift p e = omega arith

-- 2^d taken out of k 2^j
pub pow-split : (k j d : ℕ) → d ≤ j → k * 2 ^ j ≡ k * 2 ^ (j - d) * 2 ^ d
pow-split k j d h = grind (arith, back, pow-add)

-- what reaches a power of two has its digits
pub size-gt : (n j : ℕ) → 2 ^ j ≤ n → j < size n
size-gt n j h = lt_of_not-le (λ (g : size n ≤ j). not-le_of_lt (lt_of_lt_of_le (size-lt n) (pow_mono g)) h)

-- exponents are in the order of the powers
pub pow-le-inv : (a b : ℕ) → 2 ^ a ≤ 2 ^ b → a ≤ b
pow-le-inv a b h = grind (arith, pow-lt)

-- the same, strictly
pub pow-lt-inv : (a b : ℕ) → 2 ^ a < 2 ^ b → a < b
pow-lt-inv a b h = grind (arith, pow_mono)
