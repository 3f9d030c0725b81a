-- Curves: which is set, what a reading shows under one. Assumes nothing.
use Rattle.std.specs.Prelude.{ℕ, cond, List, replicate, Some, None, Option, from_bits, nat_lt, slice_index_or, slice_set, Float}
use Rattle.std.specs.Float.{binary32}
use Rattle.strip.specs.declared.curve.Curve.{Curve}
use Rattle.strip.specs.declared.curve.Curves.{Curves}
use Rattle.strip.specs.declared.curve.Numbered.{Numbered}

-- the curve of a number in a table of sixteen; none is above 15
abbrev pub in_table : List (Option Curve) → ℕ → Option Curve
in_table table k = cond (nat_lt 15 k) None (slice_index_or table k None)

-- the curve of exponent 0
abbrev pub level : Curve
level = record { exponent = from_bits binary32 0 }

-- a curve that is unset or above 15 counts as the one of exponent 0
abbrev pub counted : Option Curve → Curve
counted None = level
counted (Some c) = c

-- curve k, which is c
abbrev pub numbered : ℕ → Curve → Numbered
numbered k c = record { number = k; curve = c }

-- what a reading shows under a curve: its power p by the exponent
abbrev pub shown : (p : Float → Float → Float) → Curve → (reading : Float) → Float
shown p c reading = p reading c.exponent

abbrev pub unset : Curves
unset = record { table = replicate 16 None }

abbrev pub with_curve : Curves → ℕ → Option Curve → Curves
with_curve cs k c = record { table = slice_set cs.table k c }
