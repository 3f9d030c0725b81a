-- Values as whole numbers, and what it is that an operation loses nothing.
--
-- Every finite f64 is a whole number of units of 2^-1074, the smallest f64 above 0. In units an exact sum is a sum of integers, and a rounding is one of integers.
use Rattle.std.specs.Prelude.{◌≡◌, ℕ, suc, ◌-◌, ◌*◌, ◌^◌, ◌≤◌, Bool, true, false, ◌⊎◌, ℤ, pos, negsuc, ◌+ℤ◌, ◌*ℤ◌, neg_ℤ, unsigned_abs, Float}
use Rattle.std.specs.Float.{Format, binary64}
use Rattle.std.specs.Float.Ieee.{low, size}
use Rattle.std.specs.Float.Ieee.Exact.{HasValue}
use Rattle.std.specs.Float.Ieee.Nearest.{closest}

-- the integer of a sign and a magnitude
abbrev pub signed : Bool → ℕ → ℤ
signed false n = pos n
signed true n = neg_ℤ (pos n)

-- x is finite, and is z units of f's smallest value
pub record Value (f : Format) (x : Float) (z : ℤ) : Type 0 where
  pub sign : Bool
  pub count : ℕ
  pub is : z ≡ signed sign count
  pub has : HasValue x sign count (2 ^ low f)

-- ---- rounding

-- how many binary digits n has beyond p
abbrev pub dropped : ℕ → ℕ → ℕ
dropped p n = size n - p

-- n to the nearest number of p digits and zeros after them, a tie to the even one
unfoldable pub roundℕ : ℕ → ℕ → ℕ
roundℕ p n = closest n (2 ^ dropped p n) * 2 ^ dropped p n

unfoldable pub roundℤ : ℕ → ℤ → ℤ
roundℤ p (pos n) = pos (roundℕ p n)
roundℤ p (negsuc n) = neg_ℤ (pos (roundℕ p (suc n)))

-- the exponent of the last place that z keeps in p digits
abbrev pub place : ℕ → ℤ → ℕ
place p z = dropped p (unsigned_abs z)

-- z is k 2^t with |k| ≤ 2^p: p digits hold it
pub record HasDigits (p : ℕ) (z : ℤ) : Type 0 where
  pub k : ℤ
  pub t : ℕ
  pub is : z ≡ k *ℤ pos (2 ^ t)
  pub small : unsigned_abs k ≤ 2 ^ p

-- ---- ranges

-- x is finite, and in size at most 2^q units, which are 2^(q - 1074)
pub record Bounded (q : ℕ) (x : Float) : Type 0 where
  pub units : ℤ
  pub is : Value binary64 x units
  pub small : unsigned_abs units ≤ 2 ^ q

-- no units, or from 2^-400 to 2^400
abbrev pub Middle : ℤ → Type 0
Middle z = (z ≡ pos 0) ⊎ ((2 ^ 674 ≤ unsigned_abs z) × (unsigned_abs z ≤ 2 ^ 1474))

-- x is 0, or from 2^-400 to 2^400 in size
pub record Moderate (x : Float) : Type 0 where
  pub units : ℤ
  pub is : Value binary64 x units
  pub range : Middle units

-- ---- nothing lost

-- h and l add up to z units, and h is z rounded
pub record Exactly (z : ℤ) (h l : Float) : Type 0 where
  pub H : ℤ
  pub L : ℤ
  pub h_is : Value binary64 h H
  pub l_is : Value binary64 l L
  pub exact : H +ℤ L ≡ z
  pub nearest : H ≡ roundℤ 53 z

-- a + b is s + t, and s is a + b rounded
abbrev pub AddsTo : (a b s t : Float) → Type 0
AddsTo a b s t = (X Y : ℤ) → Value binary64 a X → Value binary64 b Y → Exactly (X +ℤ Y) s t

-- W units are the product of X units and Y units
abbrev pub UnitsOfProduct : (X Y W : ℤ) → Type 0
UnitsOfProduct X Y W = W *ℤ pos (2 ^ 1074) ≡ X *ℤ Y

-- a b is h + l, and h is a b rounded
abbrev pub ExactProduct : (a b h l : Float) → Type 0
ExactProduct a b h l = (X Y : ℤ) → Value binary64 a X → Value binary64 b Y → (W : ℤ) × UnitsOfProduct X Y W × Exactly W h l

-- h and l add up to z units, and 26 digits hold each
pub record Halves (z : ℤ) (h l : Float) : Type 0 where
  pub H : ℤ
  pub L : ℤ
  pub h_is : Value binary64 h H
  pub l_is : Value binary64 l L
  pub exact : H +ℤ L ≡ z
  pub h_short : HasDigits 26 H
  pub l_short : HasDigits 26 L

-- a is h + l, and 26 digits hold each
abbrev pub Halved : (a h l : Float) → Type 0
Halved a h l = (X : ℤ) → Value binary64 a X → Halves X h l
