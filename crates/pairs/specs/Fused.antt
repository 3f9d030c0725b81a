-- A product and a sum with one rounding: what the code computes, and when it is exact.
use Rattle.std.specs.Prelude.{◌≡◌, ℕ, ◌+◌, ◌-◌, ◌%◌, ◌^◌, ◌<◌, cond, not, ◌||◌, ℤ, pos, ◌+ℤ◌, ◌-ℤ◌, ◌*ℤ◌, ◌==◌, from_bits, is_nan, to_bits, unsigned_abs, Float}
use Rattle.std.specs.Bool.{beq}
use Rattle.std.specs.Float.Ieee as Ieee
use Rattle.std.specs.Float.{float_is_finite, binary64}
use Rattle.pairs.specs.DoubleDouble.{plus, times, exact_mult, full_exact_add}
use Rattle.pairs.specs.Value.{Value, HasDigits, place}

-- ---- what the code computes

abbrev pub zero : Float
zero = from_bits binary64 0

-- the pattern next to that of x: away from 0 where x and t have one sign, else towards 0
abbrev pub towards : Float → Float → ℕ
towards x t = cond (beq (Ieee.lt zero x) (Ieee.lt zero t)) (to_bits binary64 x + 1) (to_bits binary64 x - 1)

-- a + b rounded to odd: where the rounded sum lost something and its last bit is 0, its neighbour on the side of what was lost
unfoldable pub add_odd : Float → Float → Float
add_odd a b =
    let s = full_exact_add a b in
    cond (Ieee.eq s.lo zero || is_nan s.lo || to_bits binary64 s.hi % 2 == 1) s.hi (from_bits binary64 (towards s.hi s.lo))

-- a b + c by exact products and sums, and one sum rounded to odd
unfoldable pub fused_parts : Float → Float → Float → Float
fused_parts a b c =
    let u = exact_mult a b in
    let t = full_exact_add c u.lo in
    let v = full_exact_add u.hi t.hi in
    plus v.hi (add_odd t.lo v.lo)

-- the same where the plain sum is finite and the product is not 0; else the plain sum, for the signs of zeros
unfoldable pub fused_sum : Float → Float → Float → Float
fused_sum a b c =
    let plain = plus (times a b) c in
    cond (Ieee.eq (times a b) zero || not (float_is_finite plain)) plain (fused_parts a b c)

-- ---- what it means

-- r is z rounded to odd: z itself, or a neighbour of z with an odd significand
pub data RoundedOdd (p : ℕ) (z r : ℤ) : Type 0 where
  itself : r ≡ z → RoundedOdd p z r
  neighbour : (k : ℤ) → r ≡ (k *ℤ pos 2 +ℤ pos 1) *ℤ pos (2 ^ place p z) → unsigned_abs (r -ℤ z) < 2 ^ place p z → RoundedOdd p z r

-- x is z units rounded to odd
pub record Odd (z : ℤ) (x : Float) : Type 0 where
  pub units : ℤ
  pub is : Value binary64 x units
  pub odd : RoundedOdd 53 z units

-- x is a + b rounded to odd
abbrev pub OddSum : (a b x : Float) → Type 0
OddSum a b x = (X Y : ℤ) → Value binary64 a X → Value binary64 b Y → Odd (X +ℤ Y) x

-- S units are the sum of Z units and the product of X units and Y units
abbrev pub UnitsOfSum : (X Y Z S : ℤ) → Type 0
UnitsOfSum X Y Z S = S *ℤ pos (2 ^ 1074) ≡ X *ℤ Y +ℤ Z *ℤ pos (2 ^ 1074)

-- r is a b + c, where 53 digits hold that
abbrev pub ExactFused : (a b c r : Float) → Type 0
ExactFused a b c r = (X Y Z S : ℤ) → Value binary64 a X → Value binary64 b Y → Value binary64 c Z → UnitsOfSum X Y Z S → HasDigits 53 S → Value binary64 r S
