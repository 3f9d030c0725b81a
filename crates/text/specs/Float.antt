-- Floats as their bit patterns. Assumes nothing.
use Rattle.std.specs.Prelude.{List, Option, Float, from_bits, to_bits, ℕ}
use Rattle.std.specs.Float.{binary32}
use Rattle.std.specs.Option.{option_map}
use Rattle.text.specs.Hex.{pattern, hex8}

-- what is written for a float; every NaN is written 7fc00000
abbrev pub float : Float → List ℕ
float x = hex8 (to_bits binary32 x)

-- the float whose bit pattern eight digits write
abbrev pub float_given : List ℕ → Option Float
float_given digits = option_map (from_bits binary32) (pattern digits)
