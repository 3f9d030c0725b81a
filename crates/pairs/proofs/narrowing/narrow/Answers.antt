use Rattle.std.proofs.Common.{sym, rules, arith}
use Rattle.std.proofs.lemmas.Float.{not_nan_f32_bits}
use lib.Ieee.{binary64}
use lib.Ieee.Bits.{to_bits-lt}
use Rattle.pairs.proofs.narrowing.Laws.{nan_is, number-bits, with-sign}
use Rattle.pairs.proofs.narrowing.narrow.Goals as goal

pub returns-then-is_nan : goal.returns-then-is_nan
returns-then-is_nan c = nan_is c.args.x (sym c.if-is_nan.ensures.value)

pub overflow_cast-sign : goal.overflow_cast-sign
overflow_cast-sign c = omega (arith, to_bits-lt binary64 c.args.x (search rules))

pub narrow_size-requires : goal.narrow_size-requires
narrow_size-requires c = number-bits c.args.x (search rules) c.if-is_nan.ensures.not_nan

pub overflow_add-result : goal.overflow_add-result
overflow_add-result c = omega (arith, to_bits-lt binary64 c.args.x (search rules), c.narrow_size.ensures.bound)

pub float_from_bits-result : goal.float_from_bits-result
float_from_bits-result c = not_nan_f32_bits _ (omega (arith, to_bits-lt binary64 c.args.x (search rules), c.narrow_size.ensures.bound))

pub returns : goal.returns
returns c = with-sign c.args.x c.narrow_size.result (search rules) c.narrow_size.ensures
