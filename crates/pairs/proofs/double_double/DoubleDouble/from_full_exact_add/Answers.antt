use Rattle.std.proofs.Common.{◌≡◌, rules}
use Rattle.pairs.specs.DoubleDouble.{full_exact_add}
use Rattle.pairs.proofs.Sums.{full-exact-add}
use Rattle.pairs.proofs.double_double.DoubleDouble.from_full_exact_add.Goals as goal

pub returns : goal.returns
unfolding full_exact_add
returns c =
    let e : c.new.result ≡ full_exact_add c.args.a c.args.b = search rules in
    record { value = e; exact = rw e (full-exact-add c.args.a c.args.b (search rules) (search rules)) }
