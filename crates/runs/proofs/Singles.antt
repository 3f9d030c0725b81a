-- A run whose calls bring no floats but values of f32. Assumes nothing.
use Rattle.std.proofs.Common.{◌≡◌, true, List, [], ◌∷◌}
use Rattle.power.specs.Backend.{Arithmetic}
use Rattle.runs.specs.Run.{World, stepped}
use Rattle.runs.specs.State.{allows, Singles}
use Rattle.runs.specs.declared.run.Step.{Step}

abbrev pub SinglesRun : {B : Type 0} → (B → Arithmetic) → World B → List Step → Type 0
SinglesRun meaning w [] = Unit {0}
SinglesRun meaning w (s ∷ steps) = (allows w.strip s.call ≡ true → Singles s.call) × SinglesRun meaning (stepped meaning w s) steps
