-- What is written for an input of calls: the answers are those of the model and the power, and no cells are spoken of. Assumes nothing.
use Rattle.std.specs.Prelude.{◌≡◌, ℕ, ◌+◌, Bool, true, false, cond, List, [], ◌∷◌, ◌++◌, map, length, Some, None, Option, slice_index_or, filter_map}
use Rattle.power.specs.Backend.{portable}
use Rattle.power.specs.Powf.{power}
use Rattle.runs.specs.Model.{Model, opening, fed}
use Rattle.runs.specs.Model as Model
use Rattle.runs.specs.State.{allowed_open, allowed_finished}
use Rattle.runs.specs.declared.answer.Answer.{Answer}
use Rattle.runs.specs.declared.answer.Answer.TheVariants.{NotAllowed}
use Rattle.runs.specs.declared.run.Handed.{Handed}
use Rattle.runs.specs.declared.run.Handed.TheVariants.{Own, Numbered}
use Rattle.runs.specs.declared.run.Step.{Step}
use Rattle.strip.specs.declared.call.Call.{Call}
use Rattle.strip.specs.declared.call.Call.TheVariants.{Spread, SetCurve, DropCurve, LayPatch, ChangeReading, MovePatch, LiftPatch, ReadPatch, Finish, Reopen}
use Rattle.strip.specs.declared.patch.Patch.{Patch}
use Rattle.striptext.specs.Step.{step}
use Rattle.striptext.specs.Written as Written
use Rattle.text.specs.Input.{answered_within}
use Rattle.text.specs.Pieces.{lines, newline}

-- the list of number n has n cells
abbrev pub FitsAs : List (List Patch) → Handed → Type 0
FitsAs lists Own = Unit {0}
FitsAs lists (Numbered n) = length (slice_index_or lists n []) ≡ n

abbrev pub Fits : List (List Patch) → Step → Type 0
Fits lists s = FitsAs lists s.list

-- ---- the answers

-- how many cells a step hands in: as many as the strip has, or as many as it says
abbrev pub cells_handed : Model → Step → ℕ
cells_handed m s = elim s.list [ Own ↦ m.count | Numbered n ↦ n ]

-- whether the strip is open after a call that is allowed
abbrev pub open_after : Bool → Call → Bool
open_after o Spread = o
open_after o (SetCurve k y) = o
open_after o (DropCurve k) = o
open_after o (LayPatch i x k) = o
open_after o (ChangeReading i x) = o
open_after o (MovePatch i k) = o
open_after o (LiftPatch i) = o
open_after o (ReadPatch i) = o
open_after o Finish = false
open_after o Reopen = true

abbrev pub allowed : (is_open : Bool) → Call → Bool
allowed o call = cond o (allowed_open call) (allowed_finished call)

-- by the model alone; a list of another length than the strip's is refused, so that only the strip's own is ever worked on
abbrev pub replies : (is_open : Bool) → Model → List Step → List Answer
replies o m [] = []
replies o m (s ∷ steps) =
    cond (allowed o s.call)
    (Model.answer (power portable) m s.call (cells_handed m s) ∷ replies (open_after o s.call) (fed m s.call (cells_handed m s) true) steps)
    (NotAllowed ∷ replies o m steps)

-- ---- the output

abbrev pub calls : List (Option Step) → List Step
calls read = filter_map (λ line. line) read

-- for the lines numbered from n: `bad` with the number, or the next answer
unfoldable pub written : ℕ → List (Option Step) → List Answer → List ℕ
written n [] answers = []
written n (None ∷ read) answers = Written.bad n ++ newline ∷ written (n + 1) read answers
written n (Some s ∷ read) [] = newline ∷ written (n + 1) read []
written n (Some s ∷ read) (a ∷ answers) = Written.answer a ++ newline ∷ written (n + 1) read answers

-- the calls of a text's lines are answered, and a line is written for each line
abbrev pub line_by_line : List ℕ → List ℕ
line_by_line text = let read : List (Option Step) = map step (lines text) in written 1 read (replies true opening (calls read))

unfoldable pub output : List ℕ → List ℕ
output input = answered_within line_by_line input
