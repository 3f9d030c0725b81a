-- Numbers in decimal digits. Assumes nothing.
use Rattle.std.specs.Prelude.{ℕ, cond, ◌&&◌, List, length, None, Option, nat_le}
use Rattle.text.specs.Digits.{numeral}

-- the number that one to nine digits write; zeros may lead
abbrev pub number : List ℕ → Option ℕ
number bs = cond (nat_le 1 (length bs) && nat_le (length bs) 9) (numeral 10 0 bs) None
