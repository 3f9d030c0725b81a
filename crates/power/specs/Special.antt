-- The answers at zeros and infinities.
use Rattle.std.specs.Prelude.{Bool, false, cond, ◌&&◌, ◌||◌, ◌==◌, Float}
use Rattle.std.specs.Bool.{beq}
use Rattle.std.specs.Float.Ieee as Ieee
use Rattle.std.specs.Float.Ieee.{neg}
use Rattle.std.specs.Float.{float_with_sign, binary32}
use Rattle.power.specs.Backend.{Scalar}
use Rattle.power.specs.Reduction.{f32}

abbrev pub zero : Float
zero = f32 0

abbrev pub one : Float
one = f32 0x3f80_0000

abbrev pub infinity : Float
infinity = f32 0x7f80_0000

abbrev pub signed : Bool → Float → Float
signed s x = cond s (neg x) x

-- y is an infinity: 1 at |x| = 1, ∞ where |x| > 1 agrees with y > 0, else +0
abbrev pub infinite_exponent : Float → Float → Float
infinite_exponent x y =
    let size = float_with_sign false x in
    cond (Ieee.eq size one) one (cond (beq (Ieee.lt one size) (Ieee.lt zero y)) infinity zero)

-- x is an infinity and y is finite
abbrev pub infinite_base : Scalar → Float → Float → Float
infinite_base m x y = signed (Ieee.lt x zero && m.odd_integerf y) (cond (Ieee.lt zero y) infinity zero)

-- the exponents at which negative zero keeps its sign: 1, and odd ones from 3 to 23
abbrev pub keeps_sign : Scalar → Float → Bool
keeps_sign m y = Ieee.eq y one || (Ieee.lt (f32 0x4000_0000) y && Ieee.lt y (f32 0x41c0_0000) && m.odd_integerf y)

abbrev pub negative_zero : Float → Bool
negative_zero x = Ieee.to_bits binary32 x == 0x8000_0000

-- x is a zero and y is finite
abbrev pub zero_base : Scalar → Float → Float → Float
zero_base m x y = cond (Ieee.lt y zero) infinity (signed (negative_zero x && keeps_sign m y) zero)
