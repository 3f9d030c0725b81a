use Rattle.std.proofs.Common.{◌≡◌, ◌≤◌, take}
use Rattle.power.specs.Powf.{power}
use Rattle.strip.specs.Cells.{users}
use Rattle.strip.specs.Patch.{reworked}
use Rattle.strip.proofs.cells.Loops.{UpTo}
use Rattle.strip.proofs.cells.rework.Given as goal

abbrev pub invariant-loop-cell : goal.invariant-loop-cell
invariant-loop-cell g l =
    UpTo (reworked (power (g.B.PowfBackend.meaning l.backend)) l.fn.set.number l.fn.set.curve) l.initial.cells l.cells l.cell-index
    × (l.count ≡ users l.fn.set.number (take l.cell-index l.initial.cells))
    × (l.count ≤ l.cell-index)
