-- What a step leaves of the strip's own cells: an accepted spread none, any other call each patch that it has nothing to do with. Assumes nothing.
use Rattle.std.proofs.Common.{◌≡◌, ℕ, Bool, true, false, cond, not, ◌&&◌, eqb, List, set, is_some, Some, None, Option, sym, refl, ap, ◌∙◌, ⊎_elim}
use lib.ListN.{get_or-map}
use Rattle.power.specs.Backend.{Arithmetic}
use Rattle.std.proofs.lemmas.List.{get_or-set_other}
use Rattle.std.proofs.lemmas.Bool.{and_cases, and_parts, both_ways, cases_Bool, cond_both, cond-false, cond-true, eqb-false, false≢true}
use Rattle.strip.specs.Cells.{absent, at, cleared}
use Rattle.strip.specs.Patch.{reworked, under}
use Rattle.strip.specs.Refusal.{left}
use Rattle.strip.specs.Strip.{cells_made, own_power, refusal}
use Rattle.strip.specs.declared.call.Call.{Call}
use Rattle.strip.specs.declared.call.Call.TheVariants.{Spread, SetCurve, DropCurve, LayPatch, ChangeReading, MovePatch, LiftPatch, ReadPatch, Finish, Reopen}
use Rattle.strip.specs.declared.patch.Patch.{Patch}
use Rattle.strip.specs.declared.refusal.Refusal.{Refusal}
use Rattle.strip.specs.declared.strip.Strip.{Strip}
use Rattle.runs.specs.Law.{names, sets_curve_of}
use Rattle.runs.specs.Run.{World, accepted, handed, is_own, is_spread, own_cells, stepped}
use Rattle.runs.specs.State.{allows, cells_after, inside}
use Rattle.runs.specs.declared.run.Step.{Step}
use Rattle.runs.proofs.Lists.{handed-own, other_after, own-after}

-- ---- what an accepted call makes of cells

module _ {B : Type 0} (meaning : B → Arithmetic) (s : Strip B) (cells : List Patch) where
  spread-empties : (call : Call) → is_spread call ≡ true → cells_made meaning call s cells ≡ cleared cells
  spread-empties Spread spread = refl
  spread-empties (SetCurve k y) spread = absurd (false≢true spread)
  spread-empties (DropCurve k) spread = absurd (false≢true spread)
  spread-empties (LayPatch i x k) spread = absurd (false≢true spread)
  spread-empties (ChangeReading i x) spread = absurd (false≢true spread)
  spread-empties (MovePatch i k) spread = absurd (false≢true spread)
  spread-empties (LiftPatch i) spread = absurd (false≢true spread)
  spread-empties (ReadPatch i) spread = absurd (false≢true spread)
  spread-empties Finish spread = absurd (false≢true spread)
  spread-empties Reopen spread = absurd (false≢true spread)

  -- a write to patch j
  beside-written : (i j : ℕ) (q : Patch) → eqb i j ≡ false → at (set cells j q) i ≡ at cells i
  beside-written i j q other = get_or-set_other cells j i q absent (eqb-false i j other)

  others-stay : (call : Call) (i : ℕ) → is_spread call ≡ false → names call i ≡ false → sets_curve_of call (at cells i) ≡ false
      → at (cells_made meaning call s cells) i ≡ at cells i
  others-stay Spread i spread named set_to = absurd (false≢true (sym spread))
  others-stay (SetCurve k y) i spread named set_to =
      get_or-map (reworked (own_power meaning s) k (record { exponent = y })) cells i absent
      ∙ cond-false (under k (at cells i)) _ (at cells i) set_to
  others-stay (DropCurve k) i spread named set_to = refl
  others-stay (LayPatch j x k) i spread named set_to = beside-written i j _ named
  others-stay (ChangeReading j x) i spread named set_to = beside-written i j _ named
  others-stay (MovePatch j k) i spread named set_to = beside-written i j _ named
  others-stay (LiftPatch j) i spread named set_to = beside-written i j _ named
  others-stay (ReadPatch j) i spread named set_to = refl
  others-stay Finish i spread named set_to = refl
  others-stay Reopen i spread named set_to = refl

-- ---- a step

-- what is not allowed or refused leaves all as it was
left-unless : {X : Type 0} (t : Bool) (o : Option Refusal) (was new : X) → cond t (left o was new) was ≡ cond (t && not (is_some o)) new was
left-unless true (Some r) was new = refl
left-unless true None was new = refl
left-unless false o was new = refl

module _ {B : Type 0} (meaning : B → Arithmetic) (w : World B) (s : Step) where
  abbrev made : List Patch
  made = cells_made meaning s.call (inside w.strip) (handed w s)

  abbrev spreads : Bool
  spreads = is_spread s.call && accepted w s

  by-accepted : cells_after meaning w.strip (handed w s) s.call ≡ cond (accepted w s) made (handed w s)
  by-accepted = left-unless (allows w.strip s.call) (refusal s.call (inside w.strip) (handed w s)) (handed w s) made

  pub spread-emptied : spreads ≡ true → own_cells (stepped meaning w s) ≡ cleared (handed w s)
  spread-emptied spread =
      let both = and_parts (is_spread s.call) (accepted w s) spread in
      let handed-emptied : cells_after meaning w.strip (handed w s) s.call ≡ cleared (handed w s) =
      by-accepted
      ∙ cond-true (accepted w s) made (handed w s) both.1
      ∙ spread-empties meaning (inside w.strip) (handed w s) s.call both.0 in
      ⊎_elim
      (λ own. own-after meaning w s own ∙ handed-emptied)
      (λ other. other_after meaning w s other ∙ cond-true spreads _ (own_cells w) spread ∙ handed-emptied)
      (cases_Bool (is_own w s))

  -- the cells that are handed in
  handed-stay : spreads ≡ false → (i : ℕ) → names s.call i ≡ false → sets_curve_of s.call (at (handed w s) i) ≡ false
      → at (cells_after meaning w.strip (handed w s) s.call) i ≡ at (handed w s) i
  handed-stay unspread i named set_to =
      let no-spread : accepted w s ≡ true → is_spread s.call ≡ false =
      λ yes. ⊎_elim (λ no. no) (λ no. absurd (both_ways (accepted w s) no yes)) (and_cases (is_spread s.call) (accepted w s) unspread) in
      ap (λ cells. at cells i) by-accepted
      ∙ cond_both (accepted w s) made (handed w s) (λ cells. at cells i ≡ at (handed w s) i)
      (λ yes. others-stay meaning (inside w.strip) (handed w s) s.call i (no-spread yes) named set_to)
      (λ _. refl)

  pub others-unaltered : spreads ≡ false → (i : ℕ) → names s.call i ≡ false → sets_curve_of s.call (at (own_cells w) i) ≡ false
      → at (own_cells (stepped meaning w s)) i ≡ at (own_cells w) i
  others-unaltered unspread i named set_to =
      ⊎_elim
      (λ own.
      let same = handed-own meaning w s own in
      ap (λ cells. at cells i) (own-after meaning w s own)
      ∙ handed-stay unspread i named (ap (λ cells. sets_curve_of s.call (at cells i)) same ∙ set_to)
      ∙ ap (λ cells. at cells i) same)
      (λ other. ap (λ cells. at cells i) (other_after meaning w s other ∙ cond-false spreads _ (own_cells w) unspread))
      (cases_Bool (is_own w s))
