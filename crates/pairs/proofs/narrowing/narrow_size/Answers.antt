use Rattle.std.proofs.Common.{arith}
use Rattle.pairs.proofs.narrowing.Laws.{normal, huge}
use Rattle.pairs.proofs.narrowing.narrow_size.Goals as goal

pub returns-then-size-lt-OVERFLOW : goal.returns-then-size-lt-OVERFLOW
returns-then-size-lt-OVERFLOW c = normal c.args.size c.nearest_even.result (omega arith) (omega arith) c.nearest_even.ensures

pub returns-else-size-lt-OVERFLOW : goal.returns-else-size-lt-OVERFLOW
returns-else-size-lt-OVERFLOW c = huge c.args.size (omega arith) (omega arith)
