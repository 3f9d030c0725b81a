-- Entries of the tables, as values.
use Rattle.std.specs.Prelude.{ℕ, get_or, from_bits, slice_index, slice_index_or, Float}
use Rattle.std.specs.Float.{binary64}
use Rattle.pairs.specs.declared.double_double.DoubleDouble.{DoubleDouble}
use Rattle.pairs.specs.DoubleDouble.{from_bit_pair}
use Rattle.power.specs.Tables as Tables

-- the f64 of a bit pattern
abbrev pub f64 : ℕ → Float
f64 = from_bits binary64

unfoldable pub range_reduction : ℕ → Float
range_reduction i = f64 (slice_index Tables.log_range_reduction_list i)

unfoldable pub log2_r : ℕ → Float
log2_r i = f64 (slice_index Tables.log2_r_list i)

unfoldable pub log2_r_td : ℕ → (Float × Float × Float)
log2_r_td i = let t = get_or Tables.log2_r_td_list i (0, 0, 0) in (f64 t.0, f64 t.1, f64 t.2)

unfoldable pub powf_r2 : ℕ → Float
powf_r2 i = f64 (slice_index Tables.powf_r2_list i)

unfoldable pub log2_r2_dd : ℕ → DoubleDouble
log2_r2_dd i = let t = get_or Tables.log2_r2_dd_list i (0, 0) in from_bit_pair t.0 t.1

unfoldable pub exp2_mid : ℕ → (ℕ × ℕ)
exp2_mid i = slice_index_or Tables.exp2_mid1_list i (0, 0)
