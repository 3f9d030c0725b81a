-- The law over runs. Assumes nothing.
use Rattle.std.proofs.Common.{List, [], ◌∷◌, length, None, refl, arith}
use Rattle.power.specs.Backend.{Arithmetic}
use Rattle.power.specs.Rules.{Rules}
use Rattle.std.proofs.lemmas.List.{get_or_past}
use Rattle.strip.specs.declared.patch.Patch.{Patch}
use Rattle.runs.specs.Law.{Agrees, Holds, Law, StepLaws, followed, model_after}
use Rattle.runs.specs.Model.{Model, opening}
use Rattle.runs.specs.Run.{World, start, run, answers, own_cells, stepped, ProperRun}
use Rattle.runs.specs.State.{inside}
use Rattle.runs.specs.declared.run.Step.{Step}
use Rattle.runs.proofs.Everywhere.{all_replicate}
use Rattle.runs.proofs.Followed.{step_follows}
use Rattle.runs.proofs.Showing.{holds}
use Rattle.runs.proofs.Singles.{SinglesRun}
use Rattle.runs.proofs.Sound.{Sound, SoundCurve}
use Rattle.runs.proofs.Steps.{step-law}

-- from any world that agrees with a model
module _ {B : Type 0} (meaning : B → Arithmetic) (rules : (b : B) → Rules (meaning b)) (b : B) where
  run-law : (steps : List Step) (w : World B) (m : Model) → Sound m → Agrees meaning b (inside w.strip) (own_cells w) m
      → SinglesRun meaning w steps → ProperRun meaning w steps
      → Holds meaning b (inside (run meaning w steps).strip) (own_cells (run meaning w steps)) (model_after meaning w m steps)
      × StepLaws meaning b w m steps (answers meaning w steps)
  run-law [] w m sound agrees singles proper = (holds meaning rules b (inside w.strip) (own_cells w) m sound agrees, tt)
  run-law (s ∷ steps) w m sound agrees singles proper =
      let after = step_follows meaning b w m s sound agrees singles.0 proper.0 in
      let rest = run-law steps (stepped meaning w s) (followed w m s) after.1 after.0 singles.1 proper.1 in
      (rest.0, (step-law meaning rules b w m s sound agrees singles.0 proper.0, rest.1))

opening-sound : Sound opening
opening-sound = record { sixteen = refl; counted = refl; exponents = all_replicate SoundCurve 16 None tt; entries = tt }

-- the strip's own cells are none: its number is past the last list
start-agrees : {B : Type 0} (meaning : B → Arithmetic) (b : B) (lists : List (List Patch))
    → Agrees meaning b (inside (start b lists).strip) (own_cells (start b lists)) opening
start-agrees meaning b lists = record { backend = refl; count = refl; curves = refl; patches = get_or_past lists (length lists) [] (omega arith) }

pub law : {B : Type 0} (meaning : B → Arithmetic) → ((b : B) → Rules (meaning b)) → (b : B) (lists : List (List Patch)) (steps : List Step)
    → SinglesRun meaning (start b lists) steps → ProperRun meaning (start b lists) steps
    → Law meaning b lists steps (run meaning (start b lists) steps) (answers meaning (start b lists) steps)
law meaning rules b lists steps singles proper =
    let both = run-law meaning rules b steps (start b lists) opening opening-sound (start-agrees meaning b lists) singles proper in
    record { ends = both.0; each = both.1 }
