-- The strip's own cells before and after a step. Assumes nothing.
use Rattle.std.proofs.Common.{◌≡◌, ℕ, zero, suc, Bool, true, false, cond, not, ◌&&◌, eqb, ◌⊎◌, List, [], ◌∷◌, length, get_or, set, is_some, Some, None, Option, sym, refl, ap, ◌∙◌, inl, inr, ⊎_elim}
use Rattle.power.specs.Backend.{Arithmetic}
use Rattle.std.proofs.lemmas.List.{get_or-set_other, nil_from_length}
use Rattle.std.proofs.lemmas.Bool.{and_parts, cases_eq, cond_both, eqb-false, eqb-true, or_cases, or_parts}
use Rattle.strip.specs.Refusal.{left}
use Rattle.strip.specs.Strip as Strips
use Rattle.strip.specs.Strip.{refusal}
use Rattle.strip.specs.declared.call.Call.{Call}
use Rattle.strip.specs.declared.call.Call.TheVariants.{Spread, SetCurve, DropCurve, LayPatch, ChangeReading, MovePatch, LiftPatch, ReadPatch, Finish, Reopen}
use Rattle.strip.specs.declared.patch.Patch.{Patch}
use Rattle.strip.specs.declared.refusal.Refusal.{Refusal}
use Rattle.strip.specs.declared.strip.Strip.{Strip}
use Rattle.runs.specs.Run.{World, number, handed, own_cells, is_own, is_spread, accepted, stepped}
use Rattle.runs.specs.State.{inside, allows, cells_after}
use Rattle.runs.specs.declared.run.Step.{Step}
use Rattle.runs.specs.declared.state.AnyStrip.{AnyStrip}
use Rattle.runs.specs.declared.state.AnyStrip.TheVariants.{Open, Finished}

-- ---- an empty list: no call alters it, and no spread of it is accepted

left-same : {X : Type 0} (o : Option Refusal) (x : X) → left o x x ≡ x
left-same (Some e) x = refl
left-same None x = refl

module _ {B : Type 0} where
  empty-unspread : (any : AnyStrip B) (call : Call) → (is_spread call && (allows any call && not (is_some (refusal call (inside any) [])))) ≡ false
  empty-unspread (Open s) Spread = refl
  empty-unspread (Finished f) Spread = refl
  empty-unspread any (SetCurve k y) = refl
  empty-unspread any (DropCurve k) = refl
  empty-unspread any (LayPatch i x k) = refl
  empty-unspread any (ChangeReading i x) = refl
  empty-unspread any (MovePatch i k) = refl
  empty-unspread any (LiftPatch i) = refl
  empty-unspread any (ReadPatch i) = refl
  empty-unspread any Finish = refl
  empty-unspread any Reopen = refl

  module _ (meaning : B → Arithmetic) where
    empty-made : (s : Strip B) (call : Call) → Strips.cells_made meaning call s [] ≡ []
    empty-made s Spread = refl
    empty-made s (SetCurve k y) = refl
    empty-made s (DropCurve k) = refl
    empty-made s (LayPatch i x k) = refl
    empty-made s (ChangeReading i x) = refl
    empty-made s (MovePatch i k) = refl
    empty-made s (LiftPatch i) = refl
    empty-made s (ReadPatch i) = refl
    empty-made s Finish = refl
    empty-made s Reopen = refl

    empty-stays : (any : AnyStrip B) (call : Call) → cells_after meaning any [] call ≡ []
    empty-stays any call =
        ap (λ cells. cond (allows any call) (left (refusal call (inside any) []) [] cells) []) (empty-made (inside any) call)
        ∙ ap (λ cells. cond (allows any call) cells []) (left-same (refusal call (inside any) []) [])
        ∙ cond_both (allows any call) [] [] (λ cells. cells ≡ []) (λ _. refl) (λ _. refl)

-- ---- lists where the one at n is altered by f, which leaves an empty list empty

module _ {X : Type 0} (f : List X → List X) (kept : f [] ≡ []) where
  read_back : (lists : List (List X)) (n : ℕ) → get_or (set lists n (f (get_or lists n []))) n [] ≡ f (get_or lists n [])
  read_back [] n = sym kept
  read_back (l ∷ lists) zero = refl
  read_back (l ∷ lists) (suc n) = read_back lists n

  -- read at n where t says so, and else at m
  read_same : (lists : List (List X)) (n m : ℕ) (t : Bool) → n ≡ m → get_or (set lists n (f (get_or lists n []))) (cond t n m) [] ≡ f (get_or lists n [])
  read_same lists n m true same = read_back lists n
  read_same lists n m false same = ap (λ j. get_or (set lists n (f (get_or lists n []))) j []) (sym same) ∙ read_back lists n

  read-other : (lists : List (List X)) (n m : ℕ) (t : Bool) → (n ≡ m → ⊥)
      → get_or (set lists n (f (get_or lists n []))) (cond t n m) [] ≡ cond t (f (get_or lists n [])) (get_or lists m [])
  read-other lists n m true apart = read_back lists n
  read-other lists n m false apart = get_or-set_other lists n m (f (get_or lists n [])) [] (λ same. apart (sym same))

module _ {B : Type 0} (meaning : B → Arithmetic) (w : World B) (s : Step) where
  abbrev both-empty : Bool
  both-empty = eqb (length (handed w s)) 0 && eqb (length (own_cells w)) 0

  empties : both-empty ≡ true → (handed w s ≡ []) × (own_cells w ≡ [])
  empties both =
      let parts = and_parts (eqb (length (handed w s)) 0) (eqb (length (own_cells w)) 0) both in
      (nil_from_length (handed w s) (eqb-true _ 0 parts.0), nil_from_length (own_cells w) (eqb-true _ 0 parts.1))

  -- the strip's own list goes by its number, or is empty as the one that is handed in
  by_number : is_own w s ≡ true → (number w s ≡ w.own) ⊎ ((handed w s ≡ []) × (own_cells w ≡ []))
  by_number own =
      ⊎_elim (λ same. inl (eqb-true (number w s) w.own same)) (λ both. inr (empties both)) (or_cases (eqb (number w s) w.own) both-empty own)

  pub handed-own : is_own w s ≡ true → handed w s ≡ own_cells w
  handed-own own = ⊎_elim (λ same. ap (λ n. get_or w.lists n []) same) (λ nil. nil.0 ∙ sym nil.1) (by_number own)

  abbrev altered : List Patch → List Patch
  altered cells = cells_after meaning w.strip cells s.call

  -- an accepted spread
  abbrev spreads : List Patch → Bool
  spreads cells = is_spread s.call && (allows w.strip s.call && not (is_some (refusal s.call (inside w.strip) cells)))

  stays : altered [] ≡ []
  stays = empty-stays meaning w.strip s.call

  same_after : number w s ≡ w.own → own_cells (stepped meaning w s) ≡ altered (handed w s)
  same_after = read_same altered stays w.lists (number w s) w.own (spreads (handed w s))

  apart-after : (number w s ≡ w.own → ⊥) → own_cells (stepped meaning w s) ≡ cond (spreads (handed w s)) (altered (handed w s)) (own_cells w)
  apart-after = read-other altered stays w.lists (number w s) w.own (spreads (handed w s))

  empty-after : handed w s ≡ [] → own_cells w ≡ [] → (number w s ≡ w.own → ⊥) → own_cells (stepped meaning w s) ≡ altered (handed w s)
  empty-after nil own-nil apart =
      apart-after apart
      ∙ ap (λ (cells : List Patch). cond (spreads cells) (altered (handed w s)) (own_cells w)) nil
      ∙ ap (λ t. cond t (altered (handed w s)) (own_cells w)) (empty-unspread w.strip s.call)
      ∙ own-nil ∙ sym stays ∙ ap altered (sym nil)

  pub own-after : is_own w s ≡ true → own_cells (stepped meaning w s) ≡ cells_after meaning w.strip (handed w s) s.call
  own-after own =
      ⊎_elim same_after (λ nil. ⊎_elim same_after (empty-after nil.0 nil.1) (cases_eq (number w s) w.own)) (by_number own)

  pub other_after : is_own w s ≡ false
      → own_cells (stepped meaning w s) ≡ cond (is_spread s.call && accepted w s) (cells_after meaning w.strip (handed w s) s.call) (own_cells w)
  other_after other = apart-after (eqb-false (number w s) w.own (or_parts (eqb (number w s) w.own) both-empty other).0)
