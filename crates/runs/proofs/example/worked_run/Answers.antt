use Rattle.std.proofs.Common.{sym, subst}
use Rattle.runs.specs.Example.{lists}
use Rattle.runs.specs.Run.{ProperRun, start}
use Rattle.runs.proofs.Worked.{worked-proper}
use Rattle.runs.proofs.example.worked_run.Goals as goal

pub returns : goal.returns
returns g c =
    let meaning = g.B.PowfBackend.meaning in
    let b = c.args.backend.now in
    record {
      steps = c.worked_steps.ensures;
      proper = subst (ProperRun meaning (start b lists)) (sym c.worked_steps.ensures) (worked-proper meaning b);
    }
