use Rattle.std.proofs.Common.{◌≡◌, rules}
use Rattle.pairs.specs.DoubleDouble.{split}
use Rattle.pairs.proofs.Halving.{halved}
use Rattle.pairs.proofs.double_double.DoubleDouble.split.Goals as goal

pub returns : goal.returns
unfolding split
returns c =
    let e : c.new.result ≡ split c.args.a = search rules in
    record { value = e; halves = rw e (halved c.args.a (search rules)) }
