use Rattle.std.proofs.Common.{rules}
use Rattle.power.specs.Lookup.{f64}
use Rattle.power.specs.Reduction.{log_poly}
use Rattle.power.proofs.Coefficients.{mapped}
use Rattle.power.proofs.reduction.log_poly.Goals as goal

pub returns : goal.returns
unfolding log_poly
returns g c = search (rules, mapped f64 0 c.map.ensures.items (λ p x y q k. search rules))
