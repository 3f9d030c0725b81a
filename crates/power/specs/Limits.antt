-- Values at the limits of the rules, on the portable arithmetic.
use Rattle.std.specs.Prelude.{◌≡◌, ℕ, zero, suc, List, [], ◌∷◌, map, from_bits, to_bits, Float}
use Rattle.std.specs.Float.Ieee as Ieee
use Rattle.std.specs.Float.{binary32}
use Rattle.power.specs.Backend.{portable}
use Rattle.power.specs.Powf.{power}

-- the bit patterns of x, y and x^y
abbrev pub table : List (ℕ × ℕ × ℕ)
table =
    (0x4170_0000, 0x4130_0000, 0x54fb_bdb4) ∷  -- 15^11
    (0x3f80_4000, 0x4040_0000, 0x3f80_c060) ∷  -- an x of ten significant bits, cubed
    (0x4040_0000, 0x4040_0000, 0x41d8_0000) ∷  -- 3^3 = 27
    (0xc000_0000, 0xc040_0000, 0xbe00_0000) ∷  -- (-2)^-3 = -1/8
    (0x4180_0000, 0xbe80_0000, 0x3f00_0000) ∷  -- 16^-0.25 = 1/2
    (0x2680_0000, 0x4040_0000, 0x0000_0000) ∷  -- (2^-50)^3 = 0, a tie
    (0x5f80_0000, 0x4000_0000, 0x7f80_0000) ∷  -- (2^64)^2 = ∞
    (0xbf80_0000, 0x4f00_0000, 0x3f80_0000) ∷  -- (-1)^2147483648 = 1
    (0xff80_0000, 0x4060_0000, 0x7f80_0000) ∷  -- (-∞)^3.5 = ∞
    (0x7fc0_0000, 0x0000_0000, 0x3f80_0000) ∷  -- NaN^0 = 1
    (0x8000_0000, 0x4040_0000, 0x8000_0000) ∷  -- (-0)^3 = -0
    []

abbrev pub at : ℕ → ℕ → ℕ
at x y = to_bits binary32 (power portable (from_bits binary32 x) (from_bits binary32 y))

-- the product of n + 1 factors x, each product rounded to f32
abbrev pub narrow_product : Float → ℕ → Float
narrow_product x zero = x
narrow_product x (suc n) = Ieee.mul binary32 (narrow_product x n) x

-- each power is the table's, and 15^11 multiplied in f32 would be one off
abbrev pub Limits : Type 0
Limits = (map (λ t. at t.0 t.1) table ≡ map (λ t. t.2) table) × (to_bits binary32 (narrow_product (from_bits binary32 0x4170_0000) 10) ≡ 0x54fb_bdb5)
