-- Whole exponents from 3 to 24: products in f64, rounded once to f32.
use Rattle.std.specs.Prelude.{ℕ, zero, suc, ◌+◌, ◌-◌, ◌*◌, Bool, ◌&&◌, nat_le, Float}
use Rattle.std.specs.Float.Ieee as Ieee
use Rattle.std.specs.Float.{round_to_format, binary32, binary64}
use Rattle.pairs.specs.Bits.{significant_bits}
use Rattle.power.specs.Backend.{Scalar}
use Rattle.power.specs.Reduction.{f32}

-- x, multiplied k times by x
abbrev pub repeated : Float → ℕ → Float
repeated x zero = x
repeated x (suc k) = Ieee.mul binary64 (repeated x k) x

-- the product of n factors x
unfoldable pub product : Float → ℕ → Float
product x n = round_to_format binary32 (repeated x (n - 1))

-- y is whole and from 3 to 24
abbrev pub small_whole : Scalar → Float → Bool
small_whole m y = Ieee.lt (f32 0x4000_0000) y && Ieee.le y (f32 0x41c0_0000) && m.integerf y

-- (s - 2) y is at most 25, where s is the bit count of x's odd part
abbrev pub short : Float → ℕ → Bool
short x n = nat_le (significant_bits x * n) (25 + 2 * n)

abbrev pub multiplies : Scalar → Float → Float → Bool
multiplies m x y = small_whole m y && short x (Ieee.to_unsigned 32 y)

abbrev pub whole_power : Float → Float → Float
whole_power x y = product x (Ieee.to_unsigned 32 y)
