use Rattle.std.proofs.Common.{map, take, vec_items}
use Rattle.std.specs.List.{AllByRecursion}
use Rattle.striptext.specs.Session.{Fits}
use Rattle.striptext.proofs.session.lists_for.Given as goal

-- the lists fit the calls so far
abbrev pub invariant-loop-step : goal.invariant-loop-step
invariant-loop-step l = AllByRecursion (Fits (map vec_items (vec_items l.lists))) (take l.step-index l.steps)
