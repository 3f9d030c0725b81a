-- Powers that are told exactly, and their rounding.
use Rattle.std.specs.Prelude.{◌≡◌, ℕ, ◌+◌, ◌*◌, ◌^◌, ◌≤◌, Bool, true, false, ℤ, pos, ◌*ℤ◌, neg_ℤ, Float}
use Rattle.std.specs.Float.{nan, inf, fin, binary32}
use Rattle.std.specs.Float.Ieee.{up, down, round, size}

-- a whole number times a power of two
pub record Dyadic : Type 0 where
  pub digits : ℕ
  pub exponent : ℤ

-- the f32 nearest to it, ties to even; from 2^128 - 2^103 up it is ∞
abbrev pub rounded_once : Dyadic → Float
rounded_once d = round binary32 false (d.digits * up d.exponent) (down d.exponent)

-- j = k y, for y = ±m 2^e
abbrev pub signedℤ : Bool → ℤ → ℤ
signedℤ false z = z
signedℤ true z = neg_ℤ z

abbrev pub Times : ℤ → Float → ℤ → Type 0
Times k nan j = ⊥
Times k (inf s) j = ⊥
Times k (fin s m e) j = signedℤ s (k *ℤ pos (m * up e)) ≡ j *ℤ pos (down e)

-- x is positive and finite, y is finite
pub data ExactCase (x y : Float) : Type 0 where
  -- x = 2^k, and k y is the whole number j
  power_of_two : (k j : ℤ) → x ≡ fin false 1 k → Times k y j → ExactCase x y
  -- x = m 2^e with an odd m of s bits, and y = n from 3 to 24 with (s - 2) n at most 25 and s n at most 53
  product : (m : ℕ) (e : ℤ) (n : ℕ) → 1 ≤ m → x ≡ fin false m e → Times (pos 1) y (pos n)
      → 3 ≤ n → n ≤ 24 → size m * n ≤ 25 + 2 * n → size m * n ≤ 53 → ExactCase x y

-- 2^j, or the product of n factors m 2^e
abbrev pub true_power : {x y : Float} → ExactCase x y → Dyadic
true_power (power_of_two k j p q) = record { digits = 1; exponent = j }
true_power (product m e n o p q a b c d) = record { digits = m ^ n; exponent = e *ℤ pos n }
