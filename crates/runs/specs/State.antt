-- What a call does in either state, by what the calls of the strip promise. Assumes nothing.
use Rattle.std.specs.Prelude.{Bool, true, false, cond, T, List, length}
use Rattle.std.specs.Float.{binary32}
use Rattle.std.specs.Float.Ieee.{fits}
use Rattle.power.specs.Backend.{Arithmetic}
use Rattle.strip.specs.Cells.{at, users}
use Rattle.strip.specs.Curve.{counted}
use Rattle.strip.specs.Patch.{view}
use Rattle.strip.specs.Strip as Strips
use Rattle.strip.specs.Strip.{refusal, curve_of, patch_laid}
use Rattle.strip.specs.declared.call.Call.{Call}
use Rattle.strip.specs.declared.call.Call.TheVariants.{Spread, SetCurve, DropCurve, LayPatch, ChangeReading, MovePatch, LiftPatch, ReadPatch, Finish, Reopen}
use Rattle.strip.specs.declared.patch.Patch as Cell
use Rattle.strip.specs.declared.strip.Strip.{Strip}
use Rattle.runs.specs.Answer.{reply}
use Rattle.runs.specs.declared.answer.Answer.{Answer}
use Rattle.runs.specs.declared.answer.Answer.TheVariants.{NotAllowed, Count, Value, Patch, Done}
use Rattle.runs.specs.declared.state.AnyStrip.{AnyStrip}
use Rattle.runs.specs.declared.state.AnyStrip.TheVariants.{Open, Finished}

-- ---- the states: which calls each allows

abbrev pub allowed_open : Call → Bool
allowed_open Spread = true
allowed_open (SetCurve k y) = true
allowed_open (DropCurve k) = true
allowed_open (LayPatch i x k) = true
allowed_open (ChangeReading i x) = true
allowed_open (MovePatch i k) = true
allowed_open (LiftPatch i) = true
allowed_open (ReadPatch i) = true
allowed_open Finish = true
allowed_open Reopen = false

abbrev pub allowed_finished : Call → Bool
allowed_finished Spread = false
allowed_finished (SetCurve k y) = false
allowed_finished (DropCurve k) = false
allowed_finished (LayPatch i x k) = false
allowed_finished (ChangeReading i x) = false
allowed_finished (MovePatch i k) = false
allowed_finished (LiftPatch i) = false
allowed_finished (ReadPatch i) = true
allowed_finished Finish = false
allowed_finished Reopen = true

-- the floats that a call brings are values of f32
abbrev pub Singles : Call → Type 0
Singles Spread = Unit {0}
Singles (SetCurve k y) = T (fits binary32 y)
Singles (DropCurve k) = Unit {0}
Singles (LayPatch i x k) = T (fits binary32 x)
Singles (ChangeReading i x) = T (fits binary32 x)
Singles (MovePatch i k) = Unit {0}
Singles (LiftPatch i) = Unit {0}
Singles (ReadPatch i) = Unit {0}
Singles Finish = Unit {0}
Singles Reopen = Unit {0}

module _ {B : Type 0} where
  -- what a strip holds in either state
  abbrev pub inside : AnyStrip B → Strip B
  inside (Open s) = s.strip
  inside (Finished f) = f.strip

  abbrev pub allows : AnyStrip B → Call → Bool
  allows (Open s) call = allowed_open call
  allows (Finished f) call = allowed_finished call

  -- s in the state of another
  abbrev pub kept : AnyStrip B → Strip B → AnyStrip B
  kept (Open o) s = Open (record { strip = s })
  kept (Finished f) s = Finished (record { strip = s })

  -- s in the state that the call leads to
  abbrev pub in_state : AnyStrip B → Call → Strip B → AnyStrip B
  in_state any Spread s = kept any s
  in_state any (SetCurve k y) s = kept any s
  in_state any (DropCurve k) s = kept any s
  in_state any (LayPatch i x k) s = kept any s
  in_state any (ChangeReading i x) s = kept any s
  in_state any (MovePatch i k) s = kept any s
  in_state any (LiftPatch i) s = kept any s
  in_state any (ReadPatch i) s = kept any s
  in_state any Finish s = Finished (record { strip = s })
  in_state any Reopen s = Open (record { strip = s })

  -- a call that is not allowed is not made
  abbrev pub strip_after : AnyStrip B → List Cell.Patch → Call → AnyStrip B
  strip_after any cells call = cond (allows any call) (in_state any call (Strips.strip_after call (inside any) cells)) any

module _ {B : Type 0} (meaning : B → Arithmetic) where
  abbrev pub cells_after : AnyStrip B → List Cell.Patch → Call → List Cell.Patch
  cells_after any cells call = cond (allows any call) (Strips.cells_after meaning call (inside any) cells) cells

  -- what an accepted call answers
  abbrev pub value : Strip B → List Cell.Patch → Call → Answer
  value s cells Spread = Count (length cells)
  value s cells (SetCurve k y) = Count (users k cells)
  value s cells (DropCurve k) = Value (counted (curve_of s k)).exponent
  value s cells (LayPatch i x k) = Value (patch_laid meaning s k x).shown
  value s cells (ChangeReading i x) = Value (patch_laid meaning s (at cells i).curve x).shown
  value s cells (MovePatch i k) = Value (patch_laid meaning s k (at cells i).reading).shown
  value s cells (LiftPatch i) = Value (at cells i).reading
  value s cells (ReadPatch i) = Patch (view (at cells i))
  value s cells Finish = Done
  value s cells Reopen = Done

  abbrev pub answer : AnyStrip B → List Cell.Patch → Call → Answer
  answer any cells call = cond (allows any call) (reply (refusal call (inside any) cells) (value (inside any) cells call)) NotAllowed
