-- The values at the limits, computed by the definitions. Assumes nothing.
use Rattle.std.proofs.Common.{refl}
use lib.Ieee.{of_bits, to_bits, mul, add, sub, neg, of_int, to_unsigned, eq, is_nan, lt, le, size}
use Rattle.std.specs.Float.{round_with, round_to_format, float_is_infinite, float_with_sign, sqrt}
use Rattle.pairs.specs.Bits.{exponent_field, significant_bits}
use Rattle.pairs.specs.Whole.{integerf, odd_integerf}
use Rattle.pairs.specs.DoubleDouble as Pairs
use Rattle.power.specs.Lookup.{range_reduction, log2_r, log2_r_td, powf_r2, log2_r2_dd, exp2_mid}
use Rattle.power.specs.Polynomial.{six, ten}
use Rattle.power.specs.Reduction as Reduction
use Rattle.power.specs.Fast as Fast
use Rattle.power.specs.Fallback as Fallback
use Rattle.power.specs.Whole.{product}
use Rattle.power.specs.Powf.{power, ordinary, magnitude, general}
use Rattle.power.specs.Limits.{Limits}

pub limits : Limits
unfolding of_bits to_bits mul add sub neg of_int to_unsigned eq is_nan lt le size round_with round_to_format float_is_infinite float_with_sign sqrt exponent_field significant_bits integerf odd_integerf Pairs.split Pairs.exact_add Pairs.exact_mult Pairs.add Pairs.add_f64 Pairs.quick_mult Pairs.quick_mult_f64 Pairs.plus_product range_reduction log2_r log2_r_td powf_r2 log2_r2_dd exp2_mid six ten Reduction.normalize Reduction.dx Reduction.log_poly Reduction.reduce Fast.exp_poly Fast.fast Fallback.place Fallback.log_poly Fallback.log_low Fallback.log_mid Fallback.exp_poly Fallback.settled Fallback.scaled Fallback.finished Fallback.powf_dd Fallback.fallback product power ordinary magnitude general
limits = (refl, refl)
