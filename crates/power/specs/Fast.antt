-- The power of a positive f32 in f64: 2^(y log2 x) by tables and polynomials, and the rounding test.
use Rattle.std.specs.Prelude.{ℕ, ◌+◌, ◌-◌, ◌*◌, ◌/◌, ◌%◌, ◌^◌, false, cond, bit_and, is_nan, Float, Result, Ok, Err}
use Rattle.std.specs.Float.Ieee as Ieee
use Rattle.std.specs.Float.Ieee.{neg}
use Rattle.std.specs.Float.{round_to_format, float_with_sign, binary32, binary64, nan}
use Rattle.power.specs.Backend.{Scalar}
use Rattle.power.specs.Lookup.{f64, log2_r, log2_r_td, exp2_mid}
use Rattle.power.specs.Polynomial.{six, on_f64}
use Rattle.power.specs.Reduction.{f32, normalize, reduce}
use Rattle.power.specs.declared.reduction.Reduced.{Reduced}
use Rattle.power.specs.declared.fast.Doubt.{Doubt}

abbrev plus : Float → Float → Float
plus = Ieee.add binary64

abbrev times : Float → Float → Float
times = Ieee.mul binary64

-- log2 x, nearly
abbrev pub log : Scalar → Reduced → Float
log m x = m.fma x.dx x.p (plus (log2_r x.index) x.exponent)

-- 64 y
abbrev pub y64 : Float → Float
y64 y = Ieee.mul binary32 y (f32 0x4280_0000)

-- what is left of 64 y log2 x beyond the whole number h: the high part, and all of it
abbrev pub rest_high : Scalar → Reduced → Float → Float → Float
rest_high m x y6 h = m.fma y6 (plus x.exponent (log2_r_td x.index).2) (neg h)

abbrev pub rest : Scalar → Reduced → Float → Float → Float
rest m x y6 high = m.fma y6 (m.fma x.dx x.p (log2_r_td x.index).1) high

-- h, held within -2^15 and 2^15
abbrev pub clamped : Float → Float
clamped h =
    let end = f64 0x40e0_0000_0000_0000 in
    cond (Ieee.lt end h) end (cond (Ieee.lt h (neg end)) (neg end) h)

-- 2^16 + h, after the clamp and with any fraction cut off
abbrev pub count : Float → ℕ
count h =
    let c = clamped h in
    let n = Ieee.to_unsigned 32 (float_with_sign false c) in
    cond (Ieee.lt c (f64 0)) (65536 - n) (65536 + n)

-- the exponent field of 2^floor(h / 64), in place, for a count k = 2^16 + h: it is added to a pattern, modulo 2^64
abbrev pub hi_bits : ℕ → ℕ
hi_bits k = (k / 2 ^ 6 + 2 ^ 64 - 1024) % 2 ^ 64 * 2 ^ 52 % 2 ^ 64

-- 2^(h / 64)
abbrev pub scale : ℕ → Float
scale k = f64 ((hi_bits k + (exp2_mid (bit_and k 0x3f)).1) % 2 ^ 64)

-- 2^(x / 64), nearly, for an x of at most 1/2
unfoldable pub exp_poly : Scalar → Float → Float
exp_poly m x =
    six (on_f64 m) x (f64 0x3ff0_0000_0000_0000) (f64 0x3f86_2e42_fefa_39ef) (f64 0x3f0e_bfbd_ff82_a23a)
    (f64 0x3e8c_6b08_d707_6268) (f64 0x3e03_b2ad_33f8_b48b) (f64 0x3d75_d870_c4d8_4445)

-- the neighbours of r at a distance of err patterns, each rounded to f32
abbrev pub upper : ℕ → Float → Float
upper err r = round_to_format binary32 (f64 ((Ieee.to_bits binary64 r + err) % 2 ^ 64))

abbrev pub lower : ℕ → Float → Float
lower err r = round_to_format binary32 (f64 ((Ieee.to_bits binary64 r + 2 ^ 64 - err) % 2 ^ 64))

-- r, where its neighbours round alike
abbrev pub tested : ℕ → Float → Doubt → Result Float Doubt
tested err r d =
    cond (is_nan r) (Ok nan)
    (cond (Ieee.eq (upper err r) (lower err r)) (Ok (upper err r)) (Err d))

unfoldable pub fast : Scalar → Float → Float → Result Float Doubt
fast m x y =
    let r = reduce m (normalize x) in
    let y6 = y64 y in
    let h = m.round (times (log m r) y6) in
    let high = rest_high m r y6 h in
    let k = count h in
    cond (is_nan h) (Ok nan)
    (tested m.err (times (exp_poly m (rest m r y6 high)) (scale k)) (record { reduced = r; y6 = y6; high = high; count = k }))
