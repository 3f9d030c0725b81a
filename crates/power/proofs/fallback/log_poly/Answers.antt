use Rattle.std.proofs.Common.{rules}
use Rattle.pairs.specs.DoubleDouble.{from_bit_pair}
use Rattle.power.specs.Fallback.{log_poly}
use Rattle.power.proofs.Coefficients.{mapped}
use Rattle.power.proofs.fallback.log_poly.Goals as goal

pub returns : goal.returns
unfolding log_poly
returns g c = search (rules, mapped (λ b. from_bit_pair b.0 b.1) (0, 0) c.map.ensures.items (λ p x y q k. search rules))
