use Rattle.std.proofs.Common.{get_or, sym, ap, ◌∙◌, arith}
use Rattle.power.specs.Powf.{power}
use Rattle.std.proofs.lemmas.List.{take_all}
use Rattle.std.proofs.lemmas.List.Sums.{count_by_more_yes, count_by_more_no}
use Rattle.strip.specs.Cells.{absent, users}
use Rattle.strip.specs.Patch.{under, reworked}
use Rattle.strip.proofs.cells.Loops.{still, one_more, all_done, reworked-under, reworked-other}
use Rattle.strip.proofs.cells.rework.Goals as goal
use Rattle.strip.proofs.cells.rework.Goals.{then-is_under, else-is_under}

pub loop-cell-preserved : goal.loop-cell-preserved
loop-cell-preserved g c =
    let p = power (g.B.PowfBackend.meaning c.args.backend.now) in
    let k = c.args.set.number in
    let f = reworked p k c.args.set.curve in
    let xs = c.args.cells.now in
    let ys = c.loop-cell.cells in
    let i = c.loop-cell.cell-index in
    let lt = c.loop-cell-test.true in
    let inv = c.loop-cell.invariant in
    let same = ap (under k) (still f xs ys i absent lt inv.0) in
    elim c.if-is_under.branch [
      | then-is_under w ↦
          let u = sym w.if-is_under.ensures in
          let m = count_by_more_yes (under k) xs i absent lt (sym same ∙ u) in
          (w.cells-is ∙ one_more f xs ys i absent lt inv.0 _ (reworked-under p k c.args.set.curve (get_or ys i absent) _ u w.shown-cell.ensures), omega arith, omega arith)
      | else-is_under w ↦
          let u = sym w.if-is_under.ensures in
          let m = count_by_more_no (under k) xs i absent lt (sym same ∙ u) in
          (w.cells-is ∙ one_more f xs ys i absent lt inv.0 _ (reworked-other p k c.args.set.curve (get_or ys i absent) u), omega arith, omega arith)
    ]

pub returns : goal.returns
returns g c =
    record {
      cells = all_done _ c.args.cells.now c.loop-cell.cells c.loop-cell.cell-index c.loop-cell-test.false c.loop-cell.invariant.0;
      answer = c.loop-cell.invariant.1 ∙ ap (users c.args.set.number) (take_all _ _ c.loop-cell-test.false);
    }
