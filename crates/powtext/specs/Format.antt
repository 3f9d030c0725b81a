-- Powers as text, byte for byte: what a line says, and what is written for it. Assumes nothing.
use Rattle.std.specs.Prelude.{ℕ, ◌+◌, cond, ◌&&◌, List, [], ◌∷◌, ◌++◌, length, take, drop, Some, None, codes, decimal, Option, ◌==◌, from_bits, slice_index, to_bits}
use Rattle.std.specs.Float.{binary32}
use Rattle.power.specs.Backend.{portable}
use Rattle.power.specs.Powf.{power}
use Rattle.powtext.specs.declared.Pair.{Pair}
use Rattle.text.specs.Hex.{pattern, hex8}
use Rattle.text.specs.Input.{answered_within}
use Rattle.text.specs.Pieces.{newline, blank, lines}

-- ---- what a line says

abbrev pub both : Option ℕ → Option ℕ → Option (ℕ × ℕ)
both None y = None
both (Some x) None = None
both (Some x) (Some y) = Some (x, y)

-- a good line has exactly 17 bytes: the bit pattern of x, a blank and the bit pattern of y
abbrev pub parsed : List ℕ → Option (ℕ × ℕ)
parsed line = cond (length line == 17 && slice_index line 8 == blank) (both (pattern (take 8 line)) (pattern (take 8 (drop 9 line)))) None

-- the floats of two bit patterns
abbrev pub pair : ℕ × ℕ → Pair
pair p = record { x = from_bits binary32 p.0; y = from_bits binary32 p.1 }

-- ---- what is written

-- the bit pattern of the power, from those of x and y; every NaN is written 7fc00000
abbrev pub powered : ℕ → ℕ → ℕ
powered x y = to_bits binary32 (power portable (from_bits binary32 x) (from_bits binary32 y))

-- the answer to a line, which is the n-th: the digits of the power, or `bad`, a blank and n
abbrev pub answer : ℕ → List ℕ → List ℕ
answer n line = elim (parsed line) [ None ↦ codes "bad " ++ decimal n | Some p ↦ hex8 (powered p.0 p.1) ]

-- the answers to lines that are numbered from n, each ended by a newline
unfoldable pub answered : ℕ → List (List ℕ) → List ℕ
answered n [] = []
answered n (line ∷ more) = answer n line ++ newline ∷ answered (n + 1) more

-- what is written for an input: `too long` where it has more than 65,536 bytes, else the answers to its lines, numbered from 1
abbrev pub output : List ℕ → List ℕ
output input = answered_within (λ text. answered 1 (lines text)) input
