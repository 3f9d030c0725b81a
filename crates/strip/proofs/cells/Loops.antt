-- A loop that has put f x in the place of each x up to index i. Assumes nothing.
use Rattle.std.proofs.Common.{◌≡◌, ℕ, ◌+◌, ◌<◌, ◌≤◌, true, false, List, ◌++◌, map, length, get_or, take, drop, set, sym, ap, ◌∙◌, subst, arith, length-append, take-append-drop}
use lib.Ieee.{Float}
use lib.ListN.{length-map}
use Rattle.std.proofs.lemmas.List.Edits.{map_over_more}
use Rattle.std.proofs.lemmas.List.{drop_more, get_or_at, length-take-le, take_all, drop_all, append-nil, get_or_default}
use Rattle.std.proofs.lemmas.Bool.{cond-true, cond-false}
use Rattle.strip.specs.Curve.{shown}
use Rattle.strip.specs.Patch.{under, reworked}
use Rattle.strip.specs.declared.curve.Curve.{Curve}
use Rattle.strip.specs.declared.patch.Patch.{Patch}

abbrev pub UpTo : {X : Type 0} (f : X → X) (xs ys : List X) (i : ℕ) → Type 0
UpTo f xs ys i = ys ≡ map f (take i xs) ++ drop i xs

module _ {X : Type 0} (f : X → X) (xs ys : List X) (i : ℕ) (d : X) (lt : i < length xs) (so_far : UpTo f xs ys i) where
  -- the next element is still the one that was there
  pub still : get_or ys i d ≡ get_or xs i d
  still =
      ap (λ zs. get_or zs i d) (so_far ∙ ap (λ zs. map f (take i xs) ++ zs) (drop_more xs i d lt))
      ∙ get_or_at (map f (take i xs)) (get_or xs i d) (drop (i + 1) xs) d i (length-map (take i xs) f ∙ length-take-le i xs (omega arith))

  same_length : length ys ≡ length xs
  same_length =
      ap length so_far
      ∙ length-append (map f (take i xs)) (drop i xs)
      ∙ ap (λ n. n + length (drop i xs)) (length-map (take i xs) f)
      ∙ sym (length-append (take i xs) (drop i xs))
      ∙ ap length (take-append-drop i xs)

  pub one_more : (v : X) → v ≡ f (get_or ys i d) → UpTo f xs (set ys i v) (i + 1)
  one_more v e =
      ap (set ys i) e
      ∙ map_over_more f xs ys i (get_or ys i d) lt so_far (get_or_default ys i d (get_or ys i d) (subst (λ n. i < n) (sym same_length) lt))

pub all_done : {X : Type 0} (f : X → X) (xs ys : List X) (i : ℕ) → length xs ≤ i → UpTo f xs ys i → ys ≡ map f xs
all_done f xs ys i le e = e ∙ rw (take_all i xs le, drop_all i xs le, append-nil (map f xs))

module _ (p : Float → Float → Float) (k : ℕ) (c : Curve) (q : Patch) where
  abbrev showing : Float → Patch
  showing z = record { filled = q.filled; reading = q.reading; curve = q.curve; shown = z }

  pub reworked-under : (z : Float) → under k q ≡ true → z ≡ shown p c q.reading → showing z ≡ reworked p k c q
  reworked-under z u e = ap showing e ∙ sym (cond-true (under k q) (showing (shown p c q.reading)) q u)

  pub reworked-other : under k q ≡ false → q ≡ reworked p k c q
  reworked-other u = sym (cond-false (under k q) (showing (shown p c q.reading)) q u)
