-- How much input is answered. Assumes nothing.
use Rattle.std.specs.Prelude.{ℕ, cond, List, [], ◌∷◌, ◌++◌, length, codes, nat_lt}
use Rattle.text.specs.Pieces.{newline}

abbrev pub max_input : ℕ
max_input = 65536

-- what is written for an input: `too long` where it has more than `max_input` bytes, else the answers
abbrev pub answered_within : (List ℕ → List ℕ) → List ℕ → List ℕ
answered_within answers input = cond (nat_lt max_input (length input)) (codes "too long" ++ newline ∷ []) (answers input)
