use Rattle.std.proofs.Common.{◌≡◌, ◌≤◌, map, length, vec_capacity, vec_items, vec_len}
use Rattle.runs.specs.Run.{world}
use Rattle.runs.proofs.run.SoFar.{SoFar}
use Rattle.runs.proofs.run.replay.Given as goal

abbrev pub invariant-loop-step : goal.invariant-loop-step
invariant-loop-step g l =
    record {
      so_far : SoFar g.B.PowfBackend.meaning (world l.initial.session.strip (map vec_items l.initial.lists) l.initial.session.own) l.steps
          (world l.session.strip (map vec_items l.lists) l.session.own) l.step-index (vec_items l.answers);
      made : vec_len l.answers ≡ l.step-index;
      room : length l.steps ≤ vec_capacity l.answers;
    }
