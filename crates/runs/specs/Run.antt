-- Runs of calls on one strip and several lists of cells. Assumes nothing.
use Rattle.std.specs.Prelude.{◌≡◌, ℕ, Bool, true, false, cond, not, ◌&&◌, ◌||◌, List, [], ◌∷◌, length, is_some, ◌==◌, slice_index_or, slice_set}
use Rattle.power.specs.Backend.{Arithmetic}
use Rattle.strip.specs.Strip.{opened, refusal}
use Rattle.strip.specs.declared.call.Call.{Call}
use Rattle.strip.specs.declared.call.Call.TheVariants.{Spread, SetCurve, DropCurve, LayPatch, ChangeReading, MovePatch, LiftPatch, ReadPatch, Finish, Reopen}
use Rattle.strip.specs.declared.patch.Patch.{Patch}
use Rattle.runs.specs.State.{inside, allows, strip_after, cells_after, answer}
use Rattle.runs.specs.declared.answer.Answer.{Answer}
use Rattle.runs.specs.declared.run.Handed.TheVariants.{Own, Numbered}
use Rattle.runs.specs.declared.run.Step.{Step}
use Rattle.runs.specs.declared.state.AnyStrip.{AnyStrip}
use Rattle.runs.specs.declared.state.AnyStrip.TheVariants.{Open}

-- A strip, the lists of cells that there are, and the number of the strip's own. Past the last list stands an empty one, which is the
-- strip's own until a spread is accepted.
pub record World (B : Type 0) : Type 0 where
  pub strip : AnyStrip B
  pub lists : List (List Patch)
  pub own : ℕ

abbrev pub is_spread : Call → Bool
is_spread Spread = true
is_spread (SetCurve k y) = false
is_spread (DropCurve k) = false
is_spread (LayPatch i x k) = false
is_spread (ChangeReading i x) = false
is_spread (MovePatch i k) = false
is_spread (LiftPatch i) = false
is_spread (ReadPatch i) = false
is_spread Finish = false
is_spread Reopen = false

-- the calls that take cells, and want the strip's own ones
abbrev pub works : Call → Bool
works Spread = false
works (SetCurve k y) = true
works (DropCurve k) = true
works (LayPatch i x k) = true
works (ChangeReading i x) = true
works (MovePatch i k) = true
works (LiftPatch i) = true
works (ReadPatch i) = true
works Finish = false
works Reopen = false

module _ {B : Type 0} where
  abbrev pub world : AnyStrip B → List (List Patch) → ℕ → World B
  world any lists own = record { strip = any; lists = lists; own = own }

  abbrev pub start : B → List (List Patch) → World B
  start backend lists = world (Open (record { strip = opened backend })) lists (length lists)

  -- the number of the list that a step hands in
  abbrev pub number : World B → Step → ℕ
  number w s = elim s.list [ Own ↦ w.own | Numbered n ↦ n ]

  abbrev pub handed : World B → Step → List Patch
  handed w s = slice_index_or w.lists (number w s) []

  abbrev pub own_cells : World B → List Patch
  own_cells w = slice_index_or w.lists w.own []

  -- whether a step hands in the strip's own list; there is but one empty list
  abbrev pub is_own : World B → Step → Bool
  is_own w s = number w s == w.own || (length (handed w s) == 0 && length (own_cells w) == 0)

  -- whether a step is allowed and no place objects
  abbrev pub accepted : World B → Step → Bool
  accepted w s = allows w.strip s.call && not (is_some (refusal s.call (inside w.strip) (handed w s)))

  -- an accepted call that works on cells is handed the strip's own
  abbrev pub Proper : World B → Step → Type 0
  Proper w s = accepted w s ≡ true → works s.call ≡ true → is_own w s ≡ true

module _ {B : Type 0} (meaning : B → Arithmetic) where
  -- the list that was handed in is written back; an accepted spread makes it the strip's own
  abbrev pub stepped : World B → Step → World B
  stepped w s =
      record {
        strip = strip_after w.strip (handed w s) s.call;
        lists = slice_set w.lists (number w s) (cells_after meaning w.strip (handed w s) s.call);
        own = cond (is_spread s.call && accepted w s) (number w s) w.own;
      }

  abbrev pub answer_of : World B → Step → Answer
  answer_of w s = answer meaning w.strip (handed w s) s.call

  abbrev pub run : World B → List Step → World B
  run w [] = w
  run w (s ∷ steps) = run (stepped w s) steps

  abbrev pub answers : World B → List Step → List Answer
  answers w [] = []
  answers w (s ∷ steps) = answer_of w s ∷ answers (stepped w s) steps

  abbrev pub ProperRun : World B → List Step → Type 0
  ProperRun w [] = Unit {0}
  ProperRun w (s ∷ steps) = Proper w s × ProperRun (stepped w s) steps
