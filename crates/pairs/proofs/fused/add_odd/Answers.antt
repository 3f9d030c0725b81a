use Rattle.std.proofs.Common.{◌≡◌, rules, arith}
use Rattle.std.proofs.lemmas.Grind.{common_steps}
use Rattle.pairs.specs.Fused.{add_odd}
use Rattle.pairs.proofs.OddSums.{add-odd}
use Rattle.pairs.proofs.fused.add_odd.Goals as goal

pub returns-then-sum : goal.returns-then-sum
unfolding add_odd
returns-then-sum c =
    let e : c.from_full_exact_add-sum.result.hi ≡ add_odd c.args.a c.args.b = grind (arith, common_steps) in
    record { value = e; odd = rw e (add-odd c.args.a c.args.b (search rules) (search rules)) }

pub returns : goal.returns
unfolding add_odd
returns c =
    let e : c.f64_from_bits_with_nan.result ≡ add_odd c.args.a c.args.b = grind (arith, common_steps) in
    record { value = e; odd = rw e (add-odd c.args.a c.args.b (search rules) (search rules)) }
