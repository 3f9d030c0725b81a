-- What calls make of the cells that a model tells. Assumes nothing.
use Rattle.std.proofs.Common.{◌≡◌, ℕ, zero, suc, ◌+◌, ◌≤◌, Bool, true, cond, eqb, ltb, List, [], ◌∷◌, map, length, get_or, set, replicate, is_some, Some, None, count_by, Option, sym, refl, ap, ◌∙◌, ⊎_elim, arith}
use lib.Ieee.{Float}
use Rattle.std.proofs.lemmas.List.{get_or-set_other, get_or-set_same}
use Rattle.std.proofs.lemmas.List.Sums.{sum_by-cons}
use Rattle.std.proofs.lemmas.Bool.{cases_eq, cond-false, eq-eqb, false≢true, le-ltb, ne_eqb}
use Rattle.strip.specs.Cells.{all_reworked, at, cleared}
use Rattle.strip.specs.Curve.{counted, in_table}
use Rattle.strip.specs.Patch.{empty, laid, reworked}
use Rattle.strip.specs.declared.curve.Curve.{Curve}
use Rattle.strip.specs.declared.patch.Patch.{Patch}
use Rattle.runs.specs.Law.{cell_of}
use Rattle.runs.specs.Model.{Entry, entry_under, re_curved, re_read}

-- ---- a table of which one curve is written

module _ (curves : List (Option Curve)) (k : ℕ) (c : Option Curve) where
  pub curve-written : k ≤ 15 → length curves ≡ 16 → in_table (set curves k c) k ≡ c
  curve-written low sixteen = cond-false (ltb 15 k) None _ (le-ltb 15 k low) ∙ get_or-set_same curves k c None (omega arith)

  pub curve-beside : (j : ℕ) → (j ≡ k → ⊥) → in_table (set curves k c) j ≡ in_table curves j
  curve-beside j apart = ap (cond (ltb 15 j) None) (get_or-set_other curves k j c None apart)

-- ---- entries of which none is under a curve

pub none-under : (k : ℕ) (e : Entry) (es : List (Option Entry)) → count_by (entry_under k) (Some e ∷ es) ≡ 0 → (e.curve ≡ k → ⊥) × (count_by (entry_under k) es ≡ 0)
none-under k e es none =
    let one : Bool → ℕ = λ t. cond t 1 0 in
    let more : count_by (entry_under k) (Some e ∷ es) ≡ one (eqb e.curve k) + count_by (entry_under k) es = sum_by-cons (λ x. one (entry_under k x)) (Some e) es in
    ((λ same. let here : one (eqb e.curve k) ≡ 1 = ap one (eq-eqb e.curve k same) in omega arith), omega arith)

pub none_more : (k : ℕ) (es : List (Option Entry)) → count_by (entry_under k) (None ∷ es) ≡ 0 → count_by (entry_under k) es ≡ 0
none_more k es none = omega (arith, sum_by-cons (λ x. cond (entry_under k x) 1 0) None es)

module _ (p : Float → Float → Float) (curves : List (Option Curve)) where
  -- ---- one cell

  pub cell-seen : (es : List (Option Entry)) (i : ℕ) → is_some (get_or es i None) ≡ true → at (map (cell_of p curves) es) i ≡ cell_of p curves (get_or es i None)
  cell-seen [] i filled = absurd (false≢true filled)
  cell-seen (e ∷ es) zero filled = refl
  cell-seen (e ∷ es) (suc i) filled = cell-seen es i filled

  pub changed-seen : (x : Float) (e : Option Entry) → is_some e ≡ true
      → laid p (cell_of p curves e).curve (counted (in_table curves (cell_of p curves e).curve)) x ≡ cell_of p curves (re_read x e)
  changed-seen x None filled = absurd (false≢true filled)
  changed-seen x (Some e) filled = refl

  pub moved-seen : (k : ℕ) (e : Option Entry) → is_some e ≡ true
      → laid p k (counted (in_table curves k)) (cell_of p curves e).reading ≡ cell_of p curves (re_curved k e)
  moved-seen k None filled = absurd (false≢true filled)
  moved-seen k (Some e) filled = refl

  -- ---- all of them

  pub cleared-seen : (cells : List Patch) → cleared cells ≡ map (cell_of p curves) (replicate (length cells) None)
  cleared-seen [] = refl
  cleared-seen (q ∷ cells) = ap (λ more. empty ∷ more) (cleared-seen cells)

  -- a curve that is set reworks what is under it
  pub reworked-seen : (k : ℕ) (c : Curve) → k ≤ 15 → length curves ≡ 16 → (es : List (Option Entry))
      → all_reworked p k c (map (cell_of p curves) es) ≡ map (cell_of p (set curves k (Some c))) es
  reworked-seen k c low sixteen [] = refl
  reworked-seen k c low sixteen (None ∷ es) = ap (λ more. empty ∷ more) (reworked-seen k c low sixteen es)
  reworked-seen k c low sixteen (Some e ∷ es) = λ i. here i ∷ reworked-seen k c low sixteen es i
    where
      here : reworked p k c (cell_of p curves (Some e)) ≡ cell_of p (set curves k (Some c)) (Some e)
      here =
          ⊎_elim
          (λ same. rw (eq-eqb e.curve k same, ap (in_table (set curves k (Some c))) same, curve-written curves k (Some c) low sixteen))
          (λ apart. rw (ne_eqb e.curve k apart, curve-beside curves k (Some c) e.curve apart))
          (cases_eq e.curve k)

  -- a curve with nothing under it alters no cell
  pub unused-seen : (k : ℕ) (c : Option Curve) (es : List (Option Entry)) → count_by (entry_under k) es ≡ 0
      → map (cell_of p curves) es ≡ map (cell_of p (set curves k c)) es
  unused-seen k c [] none = refl
  unused-seen k c (None ∷ es) none = ap (λ more. empty ∷ more) (unused-seen k c es (none_more k es none))
  unused-seen k c (Some e ∷ es) none =
      let parts = none-under k e es none in
      λ i. laid p e.curve (counted (sym (curve-beside curves k c e.curve parts.0) i)) e.reading ∷ unused-seen k c es parts.1 i
