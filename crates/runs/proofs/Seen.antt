-- What the table of refusals asks of a strip that agrees with a model, it is told by the model. Assumes nothing.
use Rattle.std.proofs.Common.{◌≡◌, ℕ, zero, suc, ◌+◌, Bool, cond, ltb, List, [], ◌∷◌, map, length, get_or, is_some, Some, None, count_by, Option, sym, refl, ap, ◌∙◌}
use lib.Ieee.{Float}
use Rattle.power.specs.Backend.{Arithmetic}
use Rattle.power.specs.Powf.{power}
use Rattle.std.proofs.lemmas.List.Sums.{sum_by-cons}
use Rattle.strip.specs.Cells.{at, users}
use Rattle.strip.specs.Curve.{in_table}
use Rattle.strip.specs.Patch.{under}
use Rattle.strip.specs.Refusal.{objection}
use Rattle.strip.specs.Strip.{observed, refusal}
use Rattle.strip.specs.declared.call.Call.{Call}
use Rattle.strip.specs.declared.curve.Curve.{Curve}
use Rattle.strip.specs.declared.patch.Patch.{Patch}
use Rattle.strip.specs.declared.strip.Strip.{Strip}
use Rattle.runs.specs.Law.{Agrees, beside, cell_of}
use Rattle.runs.specs.Model.{Entry, Model, entry_under, objection_in, seen}

module _ (p : Float → Float → Float) (curves : List (Option Curve)) where
  pub filled-seen : (es : List (Option Entry)) (i : ℕ) → (at (map (cell_of p curves) es) i).filled ≡ is_some (get_or es i None)
  filled-seen [] i = refl
  filled-seen (None ∷ es) zero = refl
  filled-seen (Some e ∷ es) zero = refl
  filled-seen (e ∷ es) (suc i) = filled-seen es i

  pub under-seen : (k : ℕ) (e : Option Entry) → under k (cell_of p curves e) ≡ entry_under k e
  under-seen k None = refl
  under-seen k (Some e) = refl

  pub users-seen : (k : ℕ) (es : List (Option Entry)) → users k (map (cell_of p curves) es) ≡ count_by (entry_under k) es
  users-seen k [] = refl
  users-seen k (e ∷ es) =
      let one : Bool → ℕ = λ t. cond t 1 0 in
      sum_by-cons (λ q. cond (under k q) 1 0) (cell_of p curves e) (map (cell_of p curves) es)
      ∙ ap (λ n. n + users k (map (cell_of p curves) es)) (ap one (under-seen k e))
      ∙ ap (λ n. one (entry_under k e) + n) (users-seen k es)
      ∙ sym (sum_by-cons (λ x. cond (entry_under k x) 1 0) e es)

module _ {B : Type 0} (meaning : B → Arithmetic) (b : B) (s : Strip B) (cells : List Patch) (m : Model) (agrees : Agrees meaning b s cells m) where
  abbrev p : Float → Float → Float
  p = power (meaning b)

  -- with the strip's own cells
  pub observed-seen : observed s cells ≡ seen m (length cells)
  observed-seen i =
      record {
        handed = length cells;
        count = agrees.count i;
        is_set = λ k. is_some (in_table (agrees.curves i) k);
        is_filled = λ j. (ap (λ cs. (at cs j).filled) agrees.patches ∙ filled-seen p m.curves m.patches j) i;
        in_use = λ k. ltb 0 ((ap (users k) agrees.patches ∙ users-seen p m.curves k m.patches) i);
      }

  pub refusal-seen : (call : Call) → refusal call s cells ≡ objection_in m call (length cells)
  refusal-seen call = ap (objection call) observed-seen

  -- with other cells
  pub refusal-beside : (others : List Patch) (call : Call) → refusal call s others ≡ objection call (beside m others)
  refusal-beside others call = ap (objection call) (λ i.
      record {
        handed = length others;
        count = agrees.count i;
        is_set = λ k. is_some (in_table (agrees.curves i) k);
        is_filled = λ j. (at others j).filled;
        in_use = λ k. ltb 0 (users k others);
      })
