-- Numbers in digits of a base. Assumes nothing.
use Rattle.std.specs.Prelude.{ℕ, ◌+◌, ◌-◌, ◌*◌, cond, ◌&&◌, List, [], ◌∷◌, Some, None, Option, nat_le, nat_lt}

-- `0` to `9`, and then `a` and on, as far as the base goes: no other byte is a digit
abbrev pub digit : (base : ℕ) → ℕ → Option ℕ
digit base b =
    cond (nat_le 48 b && nat_le b 57 && nat_lt (b - 48) base) (Some (b - 48))
    (cond (nat_le 97 b && nat_lt (b - 97 + 10) base) (Some (b - 97 + 10)) None)

-- the number that digits write after those that gave n; none if a byte is no digit
unfoldable pub numeral : (base : ℕ) → ℕ → List ℕ → Option ℕ
numeral base n [] = Some n
numeral base n (b ∷ bs) = elim (digit base b) [ None ↦ None | Some d ↦ numeral base (n * base + d) bs ]
