-- The power in pairs of doubles, where the fast path leaves its last bit open.
use Rattle.std.specs.Prelude.{ℕ, ◌+◌, ◌-◌, ◌/◌, ◌%◌, ◌^◌, Bool, cond, not, ◌||◌, ◌==◌, bit_and, nat_le, nat_lt, is_nan, Float}
use Rattle.std.specs.Float.Ieee as Ieee
use Rattle.std.specs.Float.{round_to_format, binary32, binary64, nan}
use Rattle.pairs.specs.Bits.{exponent_field}
use Rattle.pairs.specs.declared.double_double.DoubleDouble.{DoubleDouble}
use Rattle.pairs.specs.DoubleDouble.{pair, from_bit_pair, add, exact_add}
use Rattle.power.specs.Backend.{Scalar, Products, Arithmetic}
use Rattle.power.specs.Lookup.{f64, powf_r2, log2_r_td, log2_r2_dd, exp2_mid}
use Rattle.power.specs.Polynomial.{six, ten, on_pairs}
use Rattle.power.specs.Reduction.{negative_one}
use Rattle.power.specs.Fast.{hi_bits, scale}
use Rattle.power.specs.declared.fast.Doubt.{Doubt}

abbrev zero : Float
zero = f64 0

abbrev one : Float
one = f64 0x3ff0_0000_0000_0000

abbrev pub either_nan : Float → Float → Bool
either_nan a b = is_nan a || is_nan b

-- the second reduction's index: the whole number nearest to 2^14 (dx + 2^-8)
unfoldable pub place : Scalar → Float → ℕ
place m dx = Ieee.to_unsigned 64 (m.round (m.fma dx (f64 0x40d0_0000_0000_0000) (f64 0x4050_0000_0000_0000)))

-- (1 + dx) r - 1, for the second table's r
abbrev pub dx2 : Scalar → Float → ℕ → Float
dx2 m dx i = m.fma (Ieee.add binary64 one dx) (powf_r2 i) negative_one

unfoldable pub log_poly : Products → Float → DoubleDouble
log_poly m x =
    six (on_pairs m) (pair zero x) (from_bit_pair 0x3c77_77d0_ffda_25e0 0x3ff7_1547_652b_82fe) (from_bit_pair 0xbc67_77d1_01cf_0a84 0xbfe7_1547_652b_82fe)
    (from_bit_pair 0x3c7c_e04b_5140_d867 0x3fde_c709_dc3a_03fd) (from_bit_pair 0x3c71_37b4_7e63_5be5 0xbfd7_1547_652b_82fb)
    (from_bit_pair 0xbc5b_5a30_b3bd_b318 0x3fd2_776c_516a_92a2) (from_bit_pair 0x3c62_d2fb_d081_e657 0xbfce_c70a_f192_9ca6)

abbrev pub larger_exponent : Float → Float → Bool
larger_exponent a b = nat_le (exponent_field b) (exponent_field a)

-- a + b, the one of the larger exponent first
abbrev pub ordered_add : DoubleDouble → DoubleDouble → DoubleDouble
ordered_add a b = cond (larger_exponent a.hi b.hi) (add a b) (add b a)

-- log2 (1 + dx2), and the part of log2 x that the first path's high part leaves out, but for that
unfoldable pub log_low : Arithmetic → Float → ℕ → DoubleDouble
log_low m dx i =
    let d = dx2 m.scalar dx i in
    m.products.quick_mult_f64 (log_poly m.products d) d

unfoldable pub log_mid : ℕ → ℕ → DoubleDouble
log_mid index i =
    let td = log2_r_td index in
    add (log2_r2_dd i) (pair td.0 td.1)

unfoldable pub exp_poly : Products → DoubleDouble → DoubleDouble
exp_poly m x =
    ten (on_pairs m) x (from_bit_pair 0x0000_0000_0000_0000 0x3ff0_0000_0000_0000) (from_bit_pair 0x3c1a_bc9e_3b39_8024 0x3f86_2e42_fefa_39ef)
    (from_bit_pair 0xbba5_e43a_5429_bddb 0x3f0e_bfbd_ff82_c58f) (from_bit_pair 0xbb2d_3316_2491_268f 0x3e8c_6b08_d704_a0c0)
    (from_bit_pair 0x3a94_fb32_d240_a14e 0x3e03_b2ab_6fba_4e77) (from_bit_pair 0x39ee_84e9_16be_83e0 0x3d75_d87f_e78a_6731)
    (from_bit_pair 0xb989_a447_bfdd_c5e6 0x3ce4_3091_2f86_bfb8) (from_bit_pair 0xb8e3_1a55_719d_e47f 0x3c4f_fcbf_c588_ded9)
    (from_bit_pair 0xb850_ba57_164e_b36b 0x3bb6_2c03_4beb_8339) (from_bit_pair 0xb7b8_483e_abd9_642d 0x3b1b_5251_ff97_bee1)

-- 2^(h / 64) as a pair, for a count 2^16 + h
abbrev pub scale_low : ℕ → Float
scale_low k = cond (bit_and k 0x3f == 0) zero (f64 ((hi_bits k + (exp2_mid (bit_and k 0x3f)).0) % 2 ^ 64))

abbrev pub scale_pair : ℕ → DoubleDouble
scale_pair k = pair (scale_low k) (scale k)

-- a high part at a possible tie of f32, moved by one pattern towards the low part
abbrev pub nudged : Float → Float → Float
nudged hi lo =
    let b = Ieee.to_bits binary64 hi in
    cond (b / 2 ^ 63 == Ieee.to_bits binary64 lo / 2 ^ 63) (f64 ((b + 1) % 2 ^ 64))
    (cond (nat_lt 0 (bit_and b 0xf_ffff_ffff_ffff)) (f64 ((b + 2 ^ 64 - 1) % 2 ^ 64)) hi)

unfoldable pub settled : DoubleDouble → Float
settled r =
    cond (is_nan r.hi) nan
    (cond (not (bit_and (Ieee.to_bits binary64 r.hi) 0xfff_ffff == 0) || Ieee.eq r.lo zero) r.hi
    (cond (is_nan r.lo) nan (nudged r.hi r.lo)))

-- e 2^(x / 64), with the pair e
unfoldable pub scaled : Products → DoubleDouble → DoubleDouble → Float
scaled m e x =
    let rr = m.quick_mult e (exp_poly m x) in
    settled (exact_add rr.hi rr.lo)

-- from log2 x, but for its high part, on
unfoldable pub finished : Products → Doubt → DoubleDouble → Float
finished m d log =
    let prod = m.quick_mult_f64 log d.y6 in
    cond (either_nan prod.hi d.high) nan (scaled m (scale_pair d.count) (ordered_add prod (pair zero d.high)))

unfoldable pub powf_dd : Arithmetic → Doubt → Float
powf_dd m d =
    let i = place m.scalar d.reduced.dx in
    let low = log_low m d.reduced.dx i in
    let mid = log_mid d.reduced.index i in
    cond (either_nan mid.hi low.hi) nan (finished m.products d (ordered_add mid low))

unfoldable pub fallback : Arithmetic → Doubt → Float
fallback m d = round_to_format binary32 (powf_dd m d)
