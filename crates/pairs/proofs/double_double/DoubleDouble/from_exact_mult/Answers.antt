use Rattle.std.proofs.Common.{◌≡◌, rules}
use Rattle.pairs.specs.DoubleDouble.{exact_mult}
use Rattle.pairs.proofs.Products.{exact-mult}
use Rattle.pairs.proofs.double_double.DoubleDouble.from_exact_mult.Goals as goal

pub returns : goal.returns
unfolding exact_mult
returns c =
    let e : c.new.result ≡ exact_mult c.args.a c.args.b = search rules in
    record { value = e; exact = rw e (exact-mult c.args.a c.args.b (search rules) (search rules)) }
