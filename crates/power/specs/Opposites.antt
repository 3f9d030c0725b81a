-- Powers of opposite bases under one whole exponent.
use Rattle.std.specs.Prelude.{◌≡◌, false, Float}
use Rattle.std.specs.Float.Ieee.{neg}
use Rattle.std.specs.Float.{float_with_sign, nan}
use Rattle.power.specs.Rules.{Zero}
use Rattle.power.specs.SpecialCases.{Not, Finite, Whole, Odd}

-- r and t differ in nothing but, perhaps, the sign
abbrev pub SameMagnitude : Float → Float → Type 0
SameMagnitude r t = float_with_sign false r ≡ float_with_sign false t

-- r is the power of x, t that of the opposite of x
pub record Opposite (x y r t : Float) : Type 0 where
  pub both_or_neither : Not (Zero x) → Finite y → Whole y → (r ≡ nan → t ≡ nan) × (t ≡ nan → r ≡ nan)
  pub magnitudes : Not (Zero x) → Finite y → Whole y → SameMagnitude r t
  pub odd_turns : Not (Zero x) → Finite y → Odd y → t ≡ neg r
  pub even_keeps : Not (Zero x) → Finite y → Whole y → Not (Odd y) → t ≡ r
