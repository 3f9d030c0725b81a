-- Bit patterns in hexadecimal digits. Assumes nothing.
use Rattle.std.specs.Prelude.{ℕ, zero, suc, ◌+◌, ◌-◌, ◌/◌, ◌%◌, ◌^◌, cond, List, [], ◌∷◌, length, None, Option, ◌==◌, nat_lt}
use Rattle.text.specs.Digits.{numeral}

-- the number that exactly eight digits write
abbrev pub pattern : List ℕ → Option ℕ
pattern bs = cond (length bs == 8) (numeral 16 0 bs) None

-- the lower-case character of a digit
abbrev pub hexadecimal : ℕ → ℕ
hexadecimal d = cond (nat_lt d 10) (48 + d) (97 + (d - 10))

-- the last k digits of n, the highest of them first
unfoldable pub places : ℕ → ℕ → List ℕ
places zero n = []
places (suc k) n = hexadecimal (n / 16 ^ k % 16) ∷ places k n

abbrev pub hex8 : ℕ → List ℕ
hex8 n = places 8 n
