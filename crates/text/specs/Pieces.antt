-- How text falls into pieces: an input into lines, a line into words. Assumes nothing.
use Rattle.std.specs.Prelude.{ℕ, cond, List, [], ◌∷◌, ◌==◌}
use Rattle.text.specs.declared.pieces.Pieces.{Pieces}

-- b in front of the first piece, or alone where there is none
abbrev pub begun : ℕ → List (List ℕ) → List (List ℕ)
begun b [] = (b ∷ []) ∷ []
begun b (piece ∷ more) = (b ∷ piece) ∷ more

-- a separator ends a piece, also an empty one, and starts no other by itself; the last piece may lack it
unfoldable pub pieces : (separator : ℕ) → List ℕ → List (List ℕ)
pieces c [] = []
pieces c (b ∷ bs) = cond (b == c) ([] ∷ pieces c bs) (begun b (pieces c bs))

abbrev pub newline : ℕ
newline = 10

abbrev pub lines : List ℕ → List (List ℕ)
lines text = pieces newline text

abbrev pub blank : ℕ
blank = 32

abbrev pub words : List ℕ → List (List ℕ)
words line = pieces blank line

-- the pieces that an iterator is still to give
abbrev pub pieces_left : Pieces → List (List ℕ)
pieces_left it = pieces it.separator it.rest.now
