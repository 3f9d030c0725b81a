-- What a backend computes: one value for each list of arguments, as a record of functions.
use Rattle.std.specs.Prelude.{ℕ, Bool, Float}
use Rattle.std.specs.Float.Ieee as Ieee
use Rattle.std.specs.Float.{float_round, binary64}
use Rattle.pairs.specs.declared.double_double.DoubleDouble.{DoubleDouble}
use Rattle.pairs.specs.DoubleDouble.{quick_mult, quick_mult_f64, quick_mult_fma, quick_mult_f64_fma}
use Rattle.pairs.specs.Fused.{fused_sum}
use Rattle.pairs.specs.Whole as Tests

-- the part on single numbers, which is all that the fast path asks for
pub record Scalar : Type 0 where
  pub fma : Float → Float → Float → Float
  pub integerf : Float → Bool
  pub odd_integerf : Float → Bool
  pub round : Float → Float
  pub err : ℕ

-- the products of pairs, which the fallback asks for besides
pub record Products : Type 0 where
  pub quick_mult : DoubleDouble → DoubleDouble → DoubleDouble
  pub quick_mult_f64 : DoubleDouble → Float → DoubleDouble

pub record Arithmetic : Type 0 where
  pub scalar : Scalar
  pub products : Products

-- the portable arithmetic: a product is rounded, and then the sum
abbrev pub portable_scalar : Scalar
portable_scalar = record {
  fma = λ a b c. Ieee.add binary64 (Ieee.mul binary64 a b) c;
  integerf = Tests.integerf;
  odd_integerf = Tests.odd_integerf;
  round = float_round binary64;
  err = 128;
}

abbrev pub portable_products : Products
portable_products = record { quick_mult = quick_mult; quick_mult_f64 = quick_mult_f64 }

abbrev pub portable : Arithmetic
portable = record { scalar = portable_scalar; products = portable_products }

-- the fused arithmetic: a product and a sum with one rounding
abbrev pub fused_scalar : Scalar
fused_scalar = record { fma = fused_sum; integerf = Tests.integerf; odd_integerf = Tests.odd_integerf; round = float_round binary64; err = 64 }

abbrev pub fused_products : Products
fused_products = record { quick_mult = quick_mult_fma fused_sum; quick_mult_f64 = quick_mult_f64_fma fused_sum }

abbrev pub fused : Arithmetic
fused = record { scalar = fused_scalar; products = fused_products }
