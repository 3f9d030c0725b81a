-- The special cases of IEEE 754-2019, 9.2.1, `pow`: what they say of x, y and an answer r.
use Rattle.std.specs.Prelude.{◌≡◌, ◌*◌, ◌<◌, Bool, true, false, T, pos, Float}
use Rattle.std.specs.Float.{float_zero, float_one, nan, inf, fin}
use Rattle.pairs.specs.Whole.{whole, odd}
use Rattle.power.specs.Rules.{Zero, num, den}

-- ---- words

abbrev pub Not : Type 0 → Type 0
Not P = P → ⊥

abbrev pub Finite : Float → Type 0
Finite nan = ⊥
Finite (inf s) = ⊥
Finite (fin s m e) = Unit {0}

abbrev pub Nan : Float → Type 0
Nan x = x ≡ nan

-- below, at and above 1 in magnitude
abbrev pub Below1 : Float → Type 0
Below1 nan = ⊥
Below1 (inf s) = ⊥
Below1 (fin s m e) = num (fin s m e) < den (fin s m e)

abbrev pub At1 : Float → Type 0
At1 nan = ⊥
At1 (inf s) = ⊥
At1 (fin s m e) = num (fin s m e) ≡ den (fin s m e)

abbrev pub Above1 : Float → Type 0
Above1 nan = ⊥
Above1 (inf s) = Unit {0}
Above1 (fin s m e) = den (fin s m e) < num (fin s m e)

-- greater and less than zero, infinities included
abbrev pub Positive : Float → Type 0
Positive nan = ⊥
Positive (inf s) = s ≡ false
Positive (fin s m e) = (s ≡ false) × (0 < m)

abbrev pub Negative : Float → Type 0
Negative nan = ⊥
Negative (inf s) = s ≡ true
Negative (fin s m e) = (s ≡ true) × (0 < m)

abbrev pub Odd : Float → Type 0
Odd y = T (odd y)

abbrev pub Whole : Float → Type 0
Whole y = T (whole y)

abbrev pub minus_zero : Float
minus_zero = fin true 0 (pos 0)

-- ---- the standard, line by line

pub record Special (x y r : Float) : Type 0 where
  -- pow(x, ±0) is 1 for any x, even a NaN
  pub zero_exponent : Zero y → r ≡ float_one
  -- pow(1, y) is 1 for any y, even a NaN
  pub unit_base : x ≡ float_one → r ≡ float_one
  -- any other NaN gives a NaN
  pub nan_base : Nan x → Not (Zero y) → r ≡ nan
  pub nan_exponent : Nan y → Not (x ≡ float_one) → r ≡ nan
  -- pow(±1, ±∞) is 1
  pub infinite_at_one : (s : Bool) → y ≡ inf s → At1 x → r ≡ float_one
  -- pow(x, +∞) is +0 below 1 in magnitude and +∞ above
  pub plus_infinity_below : y ≡ inf false → Below1 x → r ≡ float_zero
  pub plus_infinity_above : y ≡ inf false → Above1 x → r ≡ inf false
  -- pow(x, -∞) is +∞ below 1 in magnitude and +0 above
  pub minus_infinity_below : y ≡ inf true → Below1 x → r ≡ inf false
  pub minus_infinity_above : y ≡ inf true → Above1 x → r ≡ float_zero
  -- pow(+∞, y) is +∞ for y > 0 and +0 for y < 0
  pub infinity_up : x ≡ inf false → Positive y → r ≡ inf false
  pub infinity_down : x ≡ inf false → Negative y → r ≡ float_zero
  -- pow(-∞, y), for a finite y, is negative exactly if y is odd
  pub minus_infinity_odd_up : x ≡ inf true → Finite y → Positive y → Odd y → r ≡ inf true
  pub minus_infinity_up : x ≡ inf true → Finite y → Positive y → Not (Odd y) → r ≡ inf false
  pub minus_infinity_odd_down : x ≡ inf true → Finite y → Negative y → Odd y → r ≡ minus_zero
  pub minus_infinity_down : x ≡ inf true → Finite y → Negative y → Not (Odd y) → r ≡ float_zero
  -- pow(x, y) is NaN for a finite x < 0 and a finite y that is not whole
  pub fractional : Finite x → Negative x → Finite y → Not (Whole y) → r ≡ nan
  -- pow(+0, y) is +0 for y > 0 and +∞ for y < 0
  pub zero_up : x ≡ float_zero → Positive y → r ≡ float_zero
  pub zero_down : x ≡ float_zero → Negative y → r ≡ inf false

-- ---- negative zero, which follows the published crate and not the standard

-- 1, or odd and from 3 to 23
abbrev pub KeepsSign : Float → Type 0
KeepsSign y = Odd y × Positive y × (num y < 24 * den y)

pub record NegativeZero (x y r : Float) : Type 0 where
  pub keeps : x ≡ minus_zero → Finite y → KeepsSign y → r ≡ minus_zero
  pub loses : x ≡ minus_zero → Positive y → Not (KeepsSign y) → r ≡ float_zero
  pub overflows : x ≡ minus_zero → Negative y → r ≡ inf false
