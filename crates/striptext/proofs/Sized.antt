-- Runs on lists that have as many cells as their numbers say: the strip's own list is told by its length, so that they are proper. Assumes nothing.
use Rattle.std.proofs.Common.{◌≡◌, ℕ, Bool, true, false, cond, ◌&&◌, eqb, ◌⊎◌, List, [], ◌∷◌, length, get_or, is_some, sym, refl, ap, ◌∙◌, inl, inr, ⊎_elim, arith}
use Rattle.power.specs.Backend.{Arithmetic}
use Rattle.runs.specs.Run.{World, accepted, handed, is_own, is_spread, number, own_cells, start, stepped, Proper, ProperRun}
use Rattle.runs.specs.State.{allows, inside}
use Rattle.runs.specs.declared.run.Handed.{Handed}
use Rattle.runs.specs.declared.run.Handed.TheVariants.{Own, Numbered}
use Rattle.runs.specs.declared.run.Step.{Step}
use Rattle.std.proofs.ByRecursion.{All-weaker}
use Rattle.std.proofs.lemmas.List.{get_or_past}
use Rattle.std.proofs.lemmas.Bool.{and_from, and_parts, both_ways, cases_Bool, cond_both, eq-eqb, eqb-true, not-true, or_left, or_right}
use Rattle.std.specs.List.{AllByRecursion}
use Rattle.strip.specs.Strip.{observed, refusal}
use Rattle.strip.specs.declared.call.Call.{Call}
use Rattle.strip.specs.declared.patch.Patch.{Patch}
use Rattle.striptext.specs.Session.{Fits, FitsAs}
use Rattle.striptext.proofs.Lengths.{count-after, length-after, length-written, refused-others}

-- list n has n cells, or none
abbrev AsNumbered : List (List Patch) → ℕ → Type 0
AsNumbered lists n = (length (get_or lists n []) ≡ n) ⊎ (length (get_or lists n []) ≡ 0)

-- the strip counts its own cells, which are as many as their number says, or none
pub record Sized {B : Type 0} (w : World B) : Type 0 where
  pub counted : (inside w.strip).count ≡ length (own_cells w)
  pub numbered : AsNumbered w.lists w.own

pub start-sized : {B : Type 0} (b : B) (lists : List (List Patch)) → Sized (start b lists)
start-sized b lists =
    let none : length (own_cells (start b lists)) ≡ 0 = ap length (get_or_past lists (length lists) [] (omega arith)) in
    record { counted = sym none; numbered = inr none }

-- ---- the list that a step hands in

module _ {B : Type 0} (w : World B) (sized : Sized w) where
  own-from-length : (list : Handed) (call : Call) → FitsAs w.lists list
      → length (handed w (record { list = list; call = call })) ≡ length (own_cells w) → is_own w (record { list = list; call = call }) ≡ true
  own-from-length Own call fits same = or_left _ _ (eq-eqb w.own w.own refl)
  own-from-length (Numbered n) call fits same =
      ⊎_elim
      (λ own. or_left _ _ (eq-eqb n w.own (omega arith)))
      (λ none. or_right _ _ (and_from _ _ (eq-eqb (length (get_or w.lists n [])) 0 (omega arith)) (eq-eqb _ 0 none)))
      sized.numbered

  handed-numbered : (list : Handed) (call : Call) → FitsAs w.lists list → AsNumbered w.lists (number w (record { list = list; call = call }))
  handed-numbered Own call fits = sized.numbered
  handed-numbered (Numbered n) call fits = inl fits

  module _ (s : Step) (fits : Fits w.lists s) where
    -- as many cells as the strip counts are the strip's own
    pub own-from-count : eqb (length (handed w s)) (inside w.strip).count ≡ true → is_own w s ≡ true
    own-from-count same = own-from-length s.list s.call fits (eqb-true _ _ same ∙ sized.counted)

    step-proper : Proper w s
    step-proper accept work =
        let o = observed (inside w.strip) (handed w s) in
        let unasked = not-true (is_some (refusal s.call (inside w.strip) (handed w s))) (and_parts (allows w.strip s.call) _ accept).1 in
        ⊎_elim
        own-from-count
        (λ other. absurd (both_ways _ unasked (ap is_some (refused-others s.call o work other))))
        (cases_Bool (eqb o.handed o.count))

-- ---- a step

-- lists of which each is as long as before
module _ (lists lists' : List (List Patch)) (same : (n : ℕ) → length (get_or lists' n []) ≡ length (get_or lists n [])) where
  pub fits-as-long : (list : Handed) → FitsAs lists list → FitsAs lists' list
  fits-as-long Own fits = tt
  fits-as-long (Numbered n) fits = same n ∙ fits

  numbered-as-long : (n : ℕ) → AsNumbered lists n → AsNumbered lists' n
  numbered-as-long n = ⊎_elim (λ full. inl (same n ∙ full)) (λ none. inr (same n ∙ none))

of_either : (f : ℕ → ℕ) (t : Bool) (x y : ℕ) → f (cond t x y) ≡ cond t (f x) (f y)
of_either f true x y = refl
of_either f false x y = refl

module _ {B : Type 0} (meaning : B → Arithmetic) (w : World B) (s : Step) where
  same-lengths : (n : ℕ) → length (get_or (stepped meaning w s).lists n []) ≡ length (get_or w.lists n [])
  same-lengths n = length-written w.lists (number w s) n _ (length-after meaning w.strip (handed w s) s.call)

  pub still-fits : (t : Step) → Fits w.lists t → Fits (stepped meaning w s).lists t
  still-fits t = fits-as-long w.lists (stepped meaning w s).lists same-lengths t.list

  abbrev spreads : Bool
  spreads = is_spread s.call && accepted w s

  own-length : length (own_cells (stepped meaning w s)) ≡ cond spreads (length (handed w s)) (length (own_cells w))
  own-length = same-lengths (stepped meaning w s).own ∙ of_either (λ n. length (get_or w.lists n [])) spreads (number w s) w.own

  pub step-sized : Sized w → Fits w.lists s → Sized (stepped meaning w s)
  step-sized sized fits =
      record {
        counted = count-after w.strip (handed w s) s.call ∙ ap (cond spreads (length (handed w s))) sized.counted ∙ sym own-length;
        numbered =
            numbered-as-long w.lists (stepped meaning w s).lists same-lengths (stepped meaning w s).own
            (cond_both spreads (number w s) w.own (AsNumbered w.lists) (λ _. handed-numbered w sized s.list s.call fits) (λ _. sized.numbered));
      }

-- ---- a run

module _ {B : Type 0} (meaning : B → Arithmetic) where
  pub run-proper : (steps : List Step) (w : World B) → Sized w → AllByRecursion (Fits w.lists) steps → ProperRun meaning w steps
  run-proper [] w sized fit = tt
  run-proper (s ∷ steps) w sized fit =
      (step-proper w sized s fit.0, run-proper steps (stepped meaning w s) (step-sized meaning w s sized fit.0) (All-weaker _ _ (still-fits meaning w s) steps fit.1))
