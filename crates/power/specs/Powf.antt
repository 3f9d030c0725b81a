-- The power of any two f32, on a backend.
use Rattle.std.specs.Prelude.{cond, ◌||◌, is_nan, Float, Result, Ok, Err}
use Rattle.std.specs.Float.Ieee as Ieee
use Rattle.std.specs.Float.Ieee.{neg}
use Rattle.std.specs.Float.{float_is_infinite, sqrt, binary32, nan}
use Rattle.power.specs.Backend.{Arithmetic}
use Rattle.power.specs.Reduction.{f32}
use Rattle.power.specs.Special.{zero, one, signed, infinite_exponent, infinite_base, zero_base}
use Rattle.power.specs.Whole.{whole_power, multiplies}
use Rattle.power.specs.Fast.{fast}
use Rattle.power.specs.Fallback.{fallback}
use Rattle.power.specs.declared.fast.Doubt.{Doubt}

-- a larger exponent overflows or underflows all the same: beyond ±0x4f170000 it counts as ±2^32
abbrev pub bounded : Float → Float
bounded y =
    let end = f32 0x4f17_0000 in
    let far = f32 0x4f80_0000 in
    cond (Ieee.lt end y) far (cond (Ieee.lt y (neg end)) (neg far) y)

abbrev pub decided : Arithmetic → Result Float Doubt → Float
decided m (Ok v) = v
decided m (Err d) = fallback m d

unfoldable pub general : Arithmetic → Float → Float → Float
general m x y = decided m (fast m.scalar x (bounded y))

-- x is positive and finite, y is finite and not zero
unfoldable pub magnitude : Arithmetic → Float → Float → Float
magnitude m x y =
    cond (Ieee.eq y one) x
    (cond (Ieee.eq y (f32 0x4000_0000)) (Ieee.mul binary32 x x)
    (cond (Ieee.eq y (f32 0x3f00_0000)) (sqrt binary32 x)
    (cond (multiplies m.scalar x y) (whole_power x y)
    (general m x y))))

-- x and y are finite and not zero
unfoldable pub ordinary : Arithmetic → Float → Float → Float
ordinary m x y =
    cond (Ieee.lt x zero)
    (cond (m.scalar.integerf y) (signed (m.scalar.odd_integerf y) (magnitude m (neg x) y)) nan)
    (magnitude m x y)

unfoldable pub power : Arithmetic → Float → Float → Float
power m x y =
    cond (Ieee.eq y zero || Ieee.eq x one) one
    (cond (is_nan x || is_nan y) nan
    (cond (float_is_infinite y) (infinite_exponent x y)
    (cond (float_is_infinite x) (infinite_base m.scalar x y)
    (cond (Ieee.eq x zero) (zero_base m.scalar x y)
    (ordinary m x y)))))
