-- What each call makes of the strip and of the cells that it is handed. Assumes nothing.
use Rattle.std.specs.Prelude.{ℕ, List, length, is_some, Some, None, Option, nat_lt, slice_set, Float}
use Rattle.power.specs.Backend.{Arithmetic}
use Rattle.power.specs.Powf.{power}
use Rattle.strip.specs.Curve.{in_table, counted, unset, with_curve}
use Rattle.strip.specs.Cells.{all_reworked, at, cleared, users}
use Rattle.strip.specs.Patch.{empty, laid}
use Rattle.strip.specs.Refusal.{Observed, objection, left}
use Rattle.strip.specs.declared.call.Call.{Call}
use Rattle.strip.specs.declared.call.Call.TheVariants.{Spread, SetCurve, DropCurve, LayPatch, ChangeReading, MovePatch, LiftPatch, ReadPatch, Finish, Reopen}
use Rattle.strip.specs.declared.curve.Curve.{Curve}
use Rattle.strip.specs.declared.curve.Curves.{Curves}
use Rattle.strip.specs.declared.patch.Patch.{Patch}
use Rattle.strip.specs.declared.refusal.Refusal.{Refusal}
use Rattle.strip.specs.declared.strip.Strip.{Strip}

module _ {B : Type 0} where
  -- no curve set, no cells
  abbrev pub opened : B → Strip B
  opened b = record { backend = b; curves = unset; count = 0 }

  abbrev pub with_count : Strip B → ℕ → Strip B
  with_count s n = record { backend = s.backend; curves = s.curves; count = n }

  abbrev pub with_curves : Strip B → Curves → Strip B
  with_curves s cs = record { backend = s.backend; curves = cs; count = s.count }

  -- curve k, if it is set
  abbrev pub curve_of : Strip B → ℕ → Option Curve
  curve_of s k = in_table s.curves.table k

  -- the places ask the strip and the cells that are handed in
  abbrev pub observed : Strip B → List Patch → Observed
  observed s cells =
      record {
        handed = length cells;
        count = s.count;
        is_set = λ k. is_some (curve_of s k);
        is_filled = λ i. (at cells i).filled;
        in_use = λ k. nat_lt 0 (users k cells);
      }

  abbrev pub refusal : Call → Strip B → List Patch → Option Refusal
  refusal call s cells = objection call (observed s cells)

  -- ---- what an accepted call makes of the strip: only the count and one curve are ever written

  abbrev pub strip_made : Call → Strip B → List Patch → Strip B
  strip_made Spread s cells = with_count s (length cells)
  strip_made (SetCurve k y) s cells = with_curves s (with_curve s.curves k (Some (record { exponent = y })))
  strip_made (DropCurve k) s cells = with_curves s (with_curve s.curves k None)
  strip_made (LayPatch i x k) s cells = s
  strip_made (ChangeReading i x) s cells = s
  strip_made (MovePatch i k) s cells = s
  strip_made (LiftPatch i) s cells = s
  strip_made (ReadPatch i) s cells = s
  strip_made Finish s cells = s
  strip_made Reopen s cells = s

  abbrev pub strip_after : Call → Strip B → List Patch → Strip B
  strip_after call s cells = left (refusal call s cells) s (strip_made call s cells)

-- ---- what an accepted call makes of the cells

module _ {B : Type 0} (meaning : B → Arithmetic) where
  -- the power on the strip's own backend
  abbrev pub own_power : Strip B → Float → Float → Float
  own_power s = power (meaning s.backend)

  -- the patch that a reading makes under curve k
  abbrev pub patch_laid : Strip B → (k : ℕ) → (reading : Float) → Patch
  patch_laid s k x = laid (own_power s) k (counted (curve_of s k)) x

  abbrev pub cells_made : Call → Strip B → List Patch → List Patch
  cells_made Spread s cells = cleared cells
  cells_made (SetCurve k y) s cells = all_reworked (own_power s) k (record { exponent = y }) cells
  cells_made (DropCurve k) s cells = cells
  cells_made (LayPatch i x k) s cells = slice_set cells i (patch_laid s k x)
  cells_made (ChangeReading i x) s cells = slice_set cells i (patch_laid s (at cells i).curve x)
  cells_made (MovePatch i k) s cells = slice_set cells i (patch_laid s k (at cells i).reading)
  cells_made (LiftPatch i) s cells = slice_set cells i empty
  cells_made (ReadPatch i) s cells = cells
  cells_made Finish s cells = cells
  cells_made Reopen s cells = cells

  abbrev pub cells_after : Call → Strip B → List Patch → List Patch
  cells_after call s cells = left (refusal call s cells) cells (cells_made call s cells)
