-- Whole and odd numbers, and what the two tests of an exponent answer.
use Rattle.std.specs.Prelude.{zero, suc, ◌*◌, ◌/◌, ◌%◌, Bool, true, false, ◌&&◌, ◌==◌, Float}
use Rattle.std.specs.Float.{nan, inf, fin}
use Rattle.std.specs.Float.Ieee.{up, down}

-- the fraction m 2^e is a whole number
abbrev pub whole : Float → Bool
whole nan = false
whole (inf s) = false
whole (fin s m e) = m * up e % down e == 0

-- it is one, and its last binary digit is 1
abbrev pub odd : Float → Bool
odd nan = false
odd (inf s) = false
odd (fin s m e) = whole (fin s m e) && m * up e / down e % 2 == 1

-- the tests: as above for a finite nonzero number; zero is called neither, and an infinity or a NaN whole
unfoldable pub integerf : Float → Bool
integerf nan = true
integerf (inf s) = true
integerf (fin s zero e) = false
integerf (fin s (suc m) e) = whole (fin s (suc m) e)

unfoldable pub odd_integerf : Float → Bool
odd_integerf nan = false
odd_integerf (inf s) = false
odd_integerf (fin s zero e) = false
odd_integerf (fin s (suc m) e) = odd (fin s (suc m) e)
