-- The first reduction of x, a positive f32: x = 2^exponent m, and m r = 1 + dx for a table's r.
use Rattle.std.specs.Prelude.{◌≡◌, ℕ, ◌+◌, ◌-◌, ◌*◌, ◌/◌, ◌^◌, ◌<◌, ◌≤◌, Bool, false, cond, pos, bit_and, bit_or, Float}
use Rattle.std.specs.Float.Ieee as Ieee
use Rattle.std.specs.Float.{binary32, binary64}
use Rattle.std.specs.Float.Ieee.{neg}
use Rattle.power.specs.Backend.{Scalar}
use Rattle.power.specs.Rules.{Is}
use Rattle.power.specs.Lookup.{f64, range_reduction}
use Rattle.power.specs.Polynomial.{six, on_f64}
use Rattle.power.specs.declared.reduction.Scaled.{Scaled}
use Rattle.power.specs.declared.reduction.Reduced.{Reduced}

-- the f32 of a bit pattern
abbrev pub f32 : ℕ → Float
f32 = Ieee.of_bits binary32

-- the bits of x and what its exponent field exceeds the exponent by; a subnormal x is scaled by 2^64
unfoldable pub normalize : Float → Scaled
normalize x =
    cond (Ieee.lt x (f32 0x0080_0000))
    (record { bits = Ieee.to_bits binary32 (Ieee.mul binary32 x (f32 0x5f80_0000)); bias = f64 0x4067_e000_0000_0000 })
    (record { bits = Ieee.to_bits binary32 x; bias = f64 0x405f_c000_0000_0000 })

abbrev pub exponent : Scaled → Float
exponent b = Ieee.sub binary64 (Ieee.of_int binary64 (pos (bit_and (b.bits / 2 ^ 23) 0xff))) b.bias

-- the top seven bits of the fraction
abbrev pub index : ℕ → ℕ
index b = bit_and b 0x7f_ffff / 2 ^ 16

-- from 1 to below 2
abbrev pub significand : ℕ → Float
significand b = f64 (bit_or (bit_and b 0x7f_ffff * 2 ^ 29) 0x3ff0_0000_0000_0000)

abbrev pub negative_one : Float
negative_one = neg (f64 0x3ff0_0000_0000_0000)

unfoldable pub dx : Scalar → ℕ → Float
dx m b = m.fma (significand b) (range_reduction (index b)) negative_one

-- log2 (1 + dx) / dx, nearly
unfoldable pub log_poly : Scalar → Float → Float
log_poly m x =
    six (on_f64 m) x (f64 0x3ff7_1547_652b_82fe) (f64 0xbfe7_1547_652b_7a07) (f64 0x3fde_c709_dc45_8db1)
    (f64 0xbfd7_1547_9c22_66c9) (f64 0x3fd2_776a_e1dd_f8f0) (f64 0xbfce_7b21_7887_0157)

unfoldable pub reduce : Scalar → Scaled → Reduced
reduce m b =
    let d = dx m b.bits in
    record { index = index b.bits; exponent = exponent b; dx = d; p = log_poly m d }

-- r = size / 256 is from 1/2 to 1, of at most eight significant bits, and m r - 1 lies from -2^-8 to below 2^-7,
-- for m = (2^23 + t) / 2^23; so 2^31 m r is (2^23 + t) size
pub record Reduces (r : Float) (t : ℕ) : Type 0 where
  pub size : ℕ
  pub is : Is r false size 256
  pub size_least : 128 ≤ size
  pub size_most : size ≤ 256
  pub product_least : 2 ^ 31 - 2 ^ 23 ≤ (2 ^ 23 + t) * size
  pub product_most : (2 ^ 23 + t) * size < 2 ^ 31 + 2 ^ 24

-- the table's rule: each m from 1 to below 2 is so reduced by the entry at the top seven of its 23 fraction bits t
abbrev pub ReductionRule : Type 0
ReductionRule = (i t : ℕ) → i < 128 → t < 2 ^ 23 → t / 2 ^ 16 ≡ i → Reduces (range_reduction i) t

-- x is a value of f64 from -2^-8 to below 2^-7, and a multiple of 2^-31
pub record Small (x : Float) : Type 0 where
  pub minus : Bool
  pub size : ℕ
  pub is : Is x minus size (2 ^ 31)
  pub bound : cond minus (size ≤ 2 ^ 23) (size < 2 ^ 24)
