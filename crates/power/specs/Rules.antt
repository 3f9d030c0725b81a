-- The rules that the author of a backend shows. A zero's sign is not compared.
use Rattle.std.specs.Prelude.{◌≡◌, ℕ, ◌+◌, ◌-◌, ◌*◌, ◌^◌, ◌<◌, ◌≤◌, Bool, false, cond, T, ◌⊎◌, from_bits, nat_lt, Float}
use Rattle.std.specs.Bool.{beq}
use Rattle.std.specs.Float.Ieee.{up, down, unlike, fits}
use Rattle.std.specs.Float.{ratio_round_half_up, nan, inf, fin, binary32, binary64}
use Rattle.pairs.specs.declared.double_double.DoubleDouble.{DoubleDouble}
use Rattle.pairs.specs.Whole.{whole, odd}
use Rattle.power.specs.Backend.{Scalar, Products, Arithmetic}

-- ---- values

-- x is a value of f64 of the size n / d, with the sign s unless it is zero
abbrev pub Is : Float → Bool → ℕ → ℕ → Type 0
Is nan s n d = ⊥
Is (inf t) s n d = ⊥
Is (fin t m e) s n d = T (fits binary64 (fin t m e)) × (m * up e * d ≡ n * down e) × ((n ≡ 0) ⊎ (t ≡ s))

-- sign, numerator and denominator of a number
abbrev pub sign : Float → Bool
sign nan = false
sign (inf s) = s
sign (fin s m e) = s

abbrev pub num : Float → ℕ
num nan = 0
num (inf s) = 0
num (fin s m e) = m * up e

abbrev pub den : Float → ℕ
den nan = 1
den (inf s) = 1
den (fin s m e) = down e

abbrev pub Number : Float → Type 0
Number nan = ⊥
Number (inf s) = ⊥
Number (fin s m e) = T (fits binary64 (fin s m e))

-- a value of f64 that is zero or of a magnitude from 2^-k to 2^k
abbrev pub Within : ℕ → Float → Type 0
Within k x = Number x × ((num x ≡ 0) ⊎ ((den x ≤ num x * 2 ^ k) × (num x ≤ 2 ^ k * den x)))

-- x = a b
abbrev pub Product : Float → Float → Float → Type 0
Product a b x = Is x (unlike (sign a) (sign b)) (num a * num b) (den a * den b)

-- x = ±n / d ± k / d
abbrev pub IsSum : Float → Bool → ℕ → Bool → ℕ → ℕ → Type 0
IsSum x s n t k d = cond (beq s t) (Is x s (n + k) d) (cond (nat_lt n k) (Is x t (k - n) d) (Is x s (n - k) d))

-- x = a b + c
abbrev pub MulAdd : Float → Float → Float → Float → Type 0
MulAdd a b c x = IsSum x (unlike (sign a) (sign b)) (num a * num b * den c) (sign c) (num c * (den a * den b)) (den a * den b * den c)

-- ---- zeros and pairs

abbrev pub Zero : Float → Type 0
Zero nan = ⊥
Zero (inf s) = ⊥
Zero (fin s m e) = m ≡ 0

-- equal, or both zero
abbrev pub Alike : Float → Float → Type 0
Alike x y = (x ≡ y) ⊎ (Zero x × Zero y)

abbrev pub one : Float
one = from_bits binary64 0x3ff0_0000_0000_0000

abbrev pub WithinPair : DoubleDouble → Type 0
WithinPair p = Within 400 p.lo × Within 400 p.hi

-- both parts are zeros of f64
abbrev pub ZeroPair : DoubleDouble → Type 0
ZeroPair p = (Number p.lo × Zero p.lo) × (Number p.hi × Zero p.hi)

abbrev pub AlikePair : DoubleDouble → DoubleDouble → Type 0
AlikePair p q = Alike p.lo q.lo × Alike p.hi q.hi

-- ---- the rules

-- a b + c, where a b and a b + c are both values of f64
abbrev pub FmaExact : (Float → Float → Float → Float) → Type 0
FmaExact fma = (a b c p r : Float) → Within 400 a → Within 400 b → Within 512 c → Product a b p → MulAdd a b c r → MulAdd a b c (fma a b c)

-- y is a finite f32 other than zero
abbrev pub Exponent : Float → Type 0
Exponent nan = ⊥
Exponent (inf s) = ⊥
Exponent (fin s m e) = T (fits binary32 (fin s m e)) × (0 < m)

pub record ScalarRules (m : Scalar) : Type 0 where
  pub whole_told : (y : Float) → Exponent y → m.integerf y ≡ whole y
  pub odd_told : (y : Float) → Exponent y → m.odd_integerf y ≡ odd y
  -- the nearest whole number, halves away from zero
  pub round_away : (x : Float) → Within 400 x → Is (m.round x) (sign x) (ratio_round_half_up (num x) (den x)) 1
  pub fma_exact : FmaExact m.fma
  pub err_least : 1 ≤ m.err
  pub err_most : m.err ≤ 128

pub record ProductRules (m : Products) : Type 0 where
  pub zero_left : (a b : DoubleDouble) → WithinPair a → WithinPair b → ZeroPair a → ZeroPair (m.quick_mult a b)
  pub zero_right : (a b : DoubleDouble) → WithinPair a → WithinPair b → ZeroPair b → ZeroPair (m.quick_mult a b)
  pub one_right : (a b : DoubleDouble) → WithinPair a → WithinPair b → Zero b.lo → b.hi ≡ one → AlikePair (m.quick_mult a b) a
  pub zero_left_f64 : (a : DoubleDouble) (b : Float) → WithinPair a → Within 400 b → ZeroPair a → ZeroPair (m.quick_mult_f64 a b)
  pub zero_right_f64 : (a : DoubleDouble) (b : Float) → WithinPair a → Within 400 b → Zero b → ZeroPair (m.quick_mult_f64 a b)

pub record Rules (m : Arithmetic) : Type 0 where
  pub scalar : ScalarRules m.scalar
  pub products : ProductRules m.products
