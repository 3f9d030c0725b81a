-- How text falls into pieces at its separators. Assumes nothing.
use Rattle.std.proofs.Common.{◌≡◌, ℕ, ◌+◌, ◌<◌, ◌≤◌, Bool, true, false, cond, eqb, List, [], ◌∷◌, length, take, drop, refl, ap, ◌∙◌, one-add, arith}
use Rattle.std.proofs.Math.Nat.{suc-add}
use Rattle.std.proofs.lemmas.Bool.{ltb-false}
use Rattle.std.proofs.lemmas.List.{take_all, drop_all}
use Rattle.std.specs.List.{before_first, after_first, position_or_len}
use Rattle.std.specs.Prelude.{position, nat_lt, MatchOption, Some, None}
use Rattle.text.specs.Pieces.{begun, pieces}

-- a byte in front adds a piece at most
one-more : (ends : Bool) (b : ℕ) (more : List (List ℕ)) (n : ℕ) → length more ≤ n → length (cond ends ([] ∷ more) (begun b more)) ≤ n + 1
one-more true b more n h = omega arith
one-more false b [] n h = omega arith
one-more false b (piece ∷ more) n h = omega arith

module _ (c : ℕ) where
  abbrev ends : ℕ → Bool
  ends b = eqb b c

  longer : (x n : ℕ) (xs : List ℕ) → begun x (take n xs ∷ pieces c (drop (n + 1) xs)) ≡ take (1 + n) (x ∷ xs) ∷ pieces c (drop (1 + n + 1) (x ∷ xs))
  longer x n xs = rw (one-add n, suc-add n 1) refl

  -- what stands before the first separator is the first piece, and what follows it has the others
  pieces_first : (xs : List ℕ) → 0 < length xs → pieces c xs ≡ before_first ends xs ∷ pieces c (after_first ends xs)
  unfolding pieces
  pieces_first [] some = absurd (omega arith)
  pieces_first (x ∷ []) some = by (ends x) refl
    where
      by : (t : Bool) → ends x ≡ t → pieces c (x ∷ []) ≡ before_first ends (x ∷ []) ∷ pieces c (after_first ends (x ∷ []))
      by true e = rw e
      by false e = rw e
  pieces_first (x ∷ y ∷ ys) some = by (ends x) refl (pieces_first (y ∷ ys) (omega arith))
    where
      by : (t : Bool) → ends x ≡ t → pieces c (y ∷ ys) ≡ before_first ends (y ∷ ys) ∷ pieces c (after_first ends (y ∷ ys)) → pieces c (x ∷ y ∷ ys) ≡ before_first ends (x ∷ y ∷ ys) ∷ pieces c (after_first ends (x ∷ y ∷ ys))
      by true e more = rw e
      by false e more = rw e (ap (begun x) more ∙ longer x (position_or_len ends (y ∷ ys)) (y ∷ ys))

  -- the same by the place of the first separator; with none there is one piece
  pub pieces_cut : (xs : List ℕ) → 0 < length xs → MatchOption (position ends xs) (pieces c xs ≡ xs ∷ pieces c []) (λ i. pieces c xs ≡ take i xs ∷ pieces c (drop (i + 1) xs))
  pieces_cut xs some = by (nat_lt (position_or_len ends xs) (length xs)) refl
    where
      by : (t : Bool) → nat_lt (position_or_len ends xs) (length xs) ≡ t → MatchOption (cond t (Some (position_or_len ends xs)) None) (pieces c xs ≡ xs ∷ pieces c []) (λ i. pieces c xs ≡ take i xs ∷ pieces c (drop (i + 1) xs))
      by true e = pieces_first xs some
      by false e = let past = ltb-false _ _ e in rw (take_all _ xs past, drop_all (position_or_len ends xs + 1) xs (omega arith)) at (pieces_first xs some)

  -- each piece takes a byte or more
  pub pieces_few : (xs : List ℕ) → length (pieces c xs) ≤ length xs
  unfolding pieces
  pieces_few [] = omega arith
  pieces_few (x ∷ xs) = let more = one-more (eqb x c) x (pieces c xs) (length xs) (pieces_few xs) in omega arith
