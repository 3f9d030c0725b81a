use Rattle.std.proofs.Common.{◌≡◌, rules, arith}
use Rattle.std.proofs.lemmas.Grind.{common_steps}
use Rattle.pairs.specs.DoubleDouble.{plus, times}
use Rattle.pairs.specs.Fused.{fused_sum, fused_parts}
use Rattle.pairs.proofs.Fusing.{exact-fused}
use Rattle.pairs.proofs.fused.fused_sum.Goals as goal

pub returns-then-product : goal.returns-then-product
unfolding fused_sum fused_parts
returns-then-product c =
    let e : plus (times c.args.a c.args.b) c.args.c ≡ fused_sum c.args.a c.args.b c.args.c = grind (arith, common_steps) in
    record { value = e; exact = rw e (exact-fused c.args.a c.args.b c.args.c (search rules) (search rules) (search rules)) }

pub returns : goal.returns
unfolding fused_sum fused_parts
returns c =
    let e : plus c.from_full_exact_add-v.result.hi c.add_odd.result ≡ fused_sum c.args.a c.args.b c.args.c = grind (arith, common_steps) in
    record { value = e; exact = rw e (exact-fused c.args.a c.args.b c.args.c (search rules) (search rules) (search rules)) }
