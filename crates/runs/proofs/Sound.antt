-- What holds of every model that a run leads to. Assumes nothing.
use Rattle.std.proofs.Common.{◌≡◌, true, T, List, length, is_some, Some, None, Option}
use lib.Ieee.{binary32, fits}
use Rattle.std.specs.List.{AllByRecursion}
use Rattle.strip.specs.Curve.{in_table}
use Rattle.strip.specs.declared.curve.Curve.{Curve}
use Rattle.runs.specs.Model.{Entry, Model}

-- an exponent is a value of f32
abbrev pub SoundCurve : Option Curve → Type 0
SoundCurve None = Unit {0}
SoundCurve (Some c) = T (fits binary32 c.exponent)

-- a reading is a value of f32, and its curve is set
abbrev pub SoundEntry : List (Option Curve) → Option Entry → Type 0
SoundEntry curves None = Unit {0}
SoundEntry curves (Some e) = T (fits binary32 e.reading) × (is_some (in_table curves e.curve) ≡ true)

pub record Sound (m : Model) : Type 0 where
  pub sixteen : length m.curves ≡ 16
  pub counted : length m.patches ≡ m.count
  pub exponents : AllByRecursion SoundCurve m.curves
  pub entries : AllByRecursion (SoundEntry m.curves) m.patches
