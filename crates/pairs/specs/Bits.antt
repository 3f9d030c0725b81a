-- Fields of a bit pattern.
use Rattle.std.specs.Prelude.{ℕ, ◌/◌, ◌%◌, ◌^◌, to_bits, Float}
use Rattle.std.specs.Float.{nan, inf, fin, binary64}
use Rattle.std.specs.Float.Ieee.{size}

-- the eleven bits above the 52 of the fraction; NaN counts as its quiet pattern
unfoldable pub exponent_field : Float → ℕ
exponent_field x = to_bits binary64 x / 2 ^ 52 % 2 ^ 11

-- x is m 2^e with an odd m: the bit count of m
unfoldable pub significant_bits : Float → ℕ
significant_bits nan = 0
significant_bits (inf s) = 0
significant_bits (fin s m e) = size m
