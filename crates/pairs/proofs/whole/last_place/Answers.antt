use Rattle.std.proofs.Common.{rules}
use Rattle.pairs.proofs.whole.Laws.{says}
use Rattle.pairs.proofs.whole.last_place.Goals as goal

pub returns : goal.returns
returns c = let h = says c.args.x _ (search rules) c.f32_to_bits_with_nan-x_u.ensures in record { whole = h.0; odd = h.1 }
