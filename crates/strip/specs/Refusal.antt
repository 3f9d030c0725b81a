-- The table of refusals: their numbers, what each place asks, and which places a call visits. Assumes nothing.
use Rattle.std.specs.Prelude.{ℕ, Bool, cond, not, ◌||◌, List, [], ◌∷◌, Some, None, Ok, Err, Option, Result, ◌==◌, is_nan, nat_lt, Float}
use Rattle.strip.specs.declared.call.Call.{Call}
use Rattle.strip.specs.declared.call.Call.TheVariants.{Spread, SetCurve, DropCurve, LayPatch, ChangeReading, MovePatch, LiftPatch, ReadPatch, Finish, Reopen}
use Rattle.strip.specs.declared.refusal.Refusal.{Refusal}
use Rattle.strip.specs.declared.refusal.Refusal.TheVariants.{Spreading, Cells, PatchNumber, CurveNumber, Exponent, CurveUnset, PatchFilled, PatchEmpty, CurveInUse}

abbrev pub number : Refusal → ℕ
number Spreading = 1
number Cells = 2
number PatchNumber = 3
number CurveNumber = 4
number Exponent = 5
number CurveUnset = 6
number PatchFilled = 7
number PatchEmpty = 8
number CurveInUse = 9

-- what the places ask after, whoever is asked
pub record Observed : Type 0 where
  -- the cells of the list that is handed in
  pub handed : ℕ
  -- the cell count
  pub count : ℕ
  -- whether a curve is set
  pub is_set : ℕ → Bool
  -- whether a patch is filled
  pub is_filled : ℕ → Bool
  -- whether a filled patch is under a curve
  pub in_use : ℕ → Bool

-- ---- the places, each with its question

abbrev pub Place : Type 0
Place = Bool × Refusal

module _ (o : Observed) where
  abbrev pub spreading : Place
  spreading = (o.handed == 0 || nat_lt 4096 o.handed, Spreading)

  abbrev pub cells : Place
  cells = (not (o.handed == o.count), Cells)

  abbrev pub patch_number : ℕ → Place
  patch_number i = (not (nat_lt i o.count), PatchNumber)

  abbrev pub curve_unset : ℕ → Place
  curve_unset k = (not (o.is_set k), CurveUnset)

  abbrev pub patch_filled : ℕ → Place
  patch_filled i = (o.is_filled i, PatchFilled)

  abbrev pub patch_empty : ℕ → Place
  patch_empty i = (not (o.is_filled i), PatchEmpty)

  abbrev pub curve_in_use : ℕ → Place
  curve_in_use k = (o.in_use k, CurveInUse)

abbrev pub curve_number : ℕ → Place
curve_number k = (nat_lt 15 k, CurveNumber)

abbrev pub exponent : Float → Place
exponent y = (is_nan y, Exponent)

-- ---- which places a call visits, in the order of the table

abbrev pub places : Call → Observed → List Place
places Spread o = spreading o ∷ []
places (SetCurve k y) o = cells o ∷ curve_number k ∷ exponent y ∷ []
places (DropCurve k) o = cells o ∷ curve_number k ∷ curve_unset o k ∷ curve_in_use o k ∷ []
places (LayPatch i x k) o = cells o ∷ patch_number o i ∷ curve_number k ∷ curve_unset o k ∷ patch_filled o i ∷ []
places (ChangeReading i x) o = cells o ∷ patch_number o i ∷ patch_empty o i ∷ []
places (MovePatch i k) o = cells o ∷ patch_number o i ∷ curve_number k ∷ curve_unset o k ∷ patch_empty o i ∷ []
places (LiftPatch i) o = cells o ∷ patch_number o i ∷ patch_empty o i ∷ []
places (ReadPatch i) o = cells o ∷ patch_number o i ∷ patch_empty o i ∷ []
places Finish o = []
places Reopen o = []

-- the first place that objects
abbrev pub first : List Place → Option Refusal
first [] = None
first (p ∷ ps) = cond p.0 (Some p.1) (first ps)

abbrev pub objection : Call → Observed → Option Refusal
objection call o = first (places call o)

-- ---- what an objection does

-- a place alone
abbrev pub asked : Place → Result (Unit {0}) Refusal
asked p = cond p.0 (Err p.1) (Ok tt)

-- a refused call answers the refusal alone
abbrev pub answered : {X : Type 0} → Option Refusal → X → Result X Refusal
answered (Some e) x = Err e
answered None x = Ok x

-- and leaves what there was
abbrev pub left : {X : Type 0} → Option Refusal → (was new : X) → X
left (Some e) was new = was
left None was new = new
