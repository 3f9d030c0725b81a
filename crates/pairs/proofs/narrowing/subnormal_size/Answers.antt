use Rattle.std.proofs.Common.{◌+◌, ◌-◌, ◌/◌, ◌%◌, ◌^◌, arith}
use Rattle.pairs.proofs.narrowing.Laws.{tiny, subnormal, subnormal-bound}
use Rattle.pairs.proofs.narrowing.subnormal_size.Goals as goal

pub returns-then-field-lt873 : goal.returns-then-field-lt873
returns-then-field-lt873 c = tiny c.args.size (omega arith)

pub overflow_cast-result : goal.overflow_cast-result
overflow_cast-result c =
    let b = c.args.size in
    omega (arith, c.nearest_even.ensures, subnormal-bound (2 ^ 52 + b % 2 ^ 52) (926 - b / 2 ^ 52) (omega arith) (omega arith))

pub returns : goal.returns
returns c = subnormal c.args.size c.nearest_even.result (omega arith) (omega arith) c.nearest_even.ensures
