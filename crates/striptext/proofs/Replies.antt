-- The answers of a run on lists that have as many cells as their numbers say: the model and the power tell them. Assumes nothing.
use Rattle.std.proofs.Common.{◌≡◌, ℕ, Bool, true, false, not, ◌||◌, eqb, List, [], ◌∷◌, length, sym, refl, ap, ◌∙◌, ⊎_elim}
use Rattle.power.specs.Backend.{Arithmetic, portable}
use Rattle.power.specs.Powf.{power}
use Rattle.runs.specs.Answer.{reply}
use Rattle.runs.specs.Law.{Law, StepLaw, StepLaws, beside, followed}
use Rattle.runs.specs.Model as Model
use Rattle.runs.specs.Model.{Model, fed, opening, seen, written}
use Rattle.runs.specs.Run.{World, ProperRun, handed, is_own, start, stepped, works}
use Rattle.runs.specs.State.{allows, in_state, inside, kept}
use Rattle.runs.specs.declared.answer.Answer.{Answer}
use Rattle.runs.specs.declared.answer.Answer.TheVariants.{Refused}
use Rattle.runs.specs.declared.run.Handed.{Handed}
use Rattle.runs.specs.declared.run.Handed.TheVariants.{Own, Numbered}
use Rattle.runs.specs.declared.run.Step.{Step}
use Rattle.runs.specs.declared.state.AnyStrip.{AnyStrip}
use Rattle.runs.specs.declared.state.AnyStrip.TheVariants.{Open, Finished}
use Rattle.std.proofs.ByRecursion.{All-weaker}
use Rattle.std.proofs.lemmas.Bool.{both_ways, cases_Bool, cond-false, cond-true, not-false, or_parts}
use Rattle.std.specs.List.{AllByRecursion}
use Rattle.strip.specs.Refusal.{left}
use Rattle.strip.specs.declared.call.Call.{Call}
use Rattle.strip.specs.declared.call.Call.TheVariants.{Spread, SetCurve, DropCurve, LayPatch, ChangeReading, MovePatch, LiftPatch, ReadPatch, Finish, Reopen}
use Rattle.strip.specs.declared.patch.Patch.{Patch}
use Rattle.strip.specs.declared.refusal.Refusal.TheVariants.{Cells}
use Rattle.strip.specs.declared.strip.Strip.{Strip}
use Rattle.striptext.specs.Session.{Fits, FitsAs, allowed, cells_handed, open_after, replies}
use Rattle.striptext.proofs.Lengths.{refused-others}
use Rattle.striptext.proofs.Sized.{Sized, own-from-count, run-proper, start-sized, step-sized, still-fits}

-- ---- the state

module _ {B : Type 0} where
  abbrev is_open : AnyStrip B → Bool
  is_open (Open s) = true
  is_open (Finished f) = false

  open_kept : (any : AnyStrip B) (s : Strip B) → is_open (kept any s) ≡ is_open any
  open_kept (Open o) s = refl
  open_kept (Finished f) s = refl

  open_told : (any : AnyStrip B) (call : Call) (s : Strip B) → is_open (in_state any call s) ≡ open_after (is_open any) call
  open_told any Spread s = open_kept any s
  open_told any (SetCurve k y) s = open_kept any s
  open_told any (DropCurve k) s = open_kept any s
  open_told any (LayPatch i x k) s = open_kept any s
  open_told any (ChangeReading i x) s = open_kept any s
  open_told any (MovePatch i k) s = open_kept any s
  open_told any (LiftPatch i) s = open_kept any s
  open_told any (ReadPatch i) s = open_kept any s
  open_told any Finish s = refl
  open_told any Reopen s = refl

  allowed-told : (any : AnyStrip B) (call : Call) → allowed (is_open any) call ≡ allows any call
  allowed-told (Open s) call = refl
  allowed-told (Finished f) call = refl

-- ---- the model

-- that the cells are other ones changes nothing, where they are of another number
module _ (m : Model) (n : ℕ) (other : eqb n m.count ≡ false) where
  refused-fed : (call : Call) → works call ≡ true → m ≡ fed m call n true
  refused-fed call work = sym (ap (λ o. left o m (written m call n)) (refused-others call (seen m n) work other))

  other-fed : (call : Call) → fed m call n false ≡ fed m call n true
  other-fed Spread = refl
  other-fed (SetCurve k y) = refused-fed (SetCurve k y) refl
  other-fed (DropCurve k) = refused-fed (DropCurve k) refl
  other-fed (LayPatch i x k) = refused-fed (LayPatch i x k) refl
  other-fed (ChangeReading i x) = refused-fed (ChangeReading i x) refl
  other-fed (MovePatch i k) = refused-fed (MovePatch i k) refl
  other-fed (LiftPatch i) = refused-fed (LiftPatch i) refl
  other-fed (ReadPatch i) = refused-fed (ReadPatch i) refl
  other-fed Finish = refl
  other-fed Reopen = refl

-- ---- a step that is allowed

module _ {B : Type 0} (w : World B) (sized : Sized w) (m : Model) (same : (inside w.strip).count ≡ m.count) where
  length-by : (list : Handed) (call : Call) → FitsAs w.lists list
      → length (handed w (record { list = list; call = call })) ≡ cells_handed m (record { list = list; call = call })
  length-by Own call fits = sym sized.counted ∙ same
  length-by (Numbered n) call fits = fits

  module _ (s : Step) (fits : Fits w.lists s) (allow : allows w.strip s.call ≡ true) where
    length-told : length (handed w s) ≡ cells_handed m s
    length-told = length-by s.list s.call fits

    -- other cells are of another number
    other_length : is_own w s ≡ false → eqb (length (handed w s)) m.count ≡ false
    other_length other =
        ap (eqb (length (handed w s))) (sym same)
        ∙ ⊎_elim (λ own. absurd (both_ways (is_own w s) other (own-from-count w sized s fits own))) (λ apart. apart)
        (cases_Bool (eqb (length (handed w s)) (inside w.strip).count))

    other-count : is_own w s ≡ false → eqb (cells_handed m s) m.count ≡ false
    other-count other = ap (λ n. eqb n m.count) (sym length-told) ∙ other_length other

    model-told : followed w m s ≡ fed m s.call (cells_handed m s) true
    model-told =
        cond-true (allows w.strip s.call) _ m allow
        ∙ ap (λ n. fed m s.call n (is_own w s)) length-told
        ∙ ⊎_elim
        (λ own. ap (fed m s.call (cells_handed m s)) own)
        (λ other. ap (fed m s.call (cells_handed m s)) other ∙ other-fed m (cells_handed m s) (other-count other) s.call)
        (cases_Bool (is_own w s))

    module _ (meaning : B → Arithmetic) (b : B) (a : Answer) (law : StepLaw meaning b w m s a) where
      refused-told : (is_own w s || not (works s.call)) ≡ false → a ≡ Model.answer (power (meaning b)) m s.call (cells_handed m s)
      refused-told asked =
          let neither = or_parts (is_own w s) (not (works s.call)) asked in
          let work = not-false (works s.call) neither.1 in
          let refusal = law.refused allow asked in
          let by-cells = refused-others s.call (beside m (handed w s)) work (other_length neither.0) in
          let by-model = refused-others s.call (seen m (cells_handed m s)) work (other-count neither.0) in
          let is : refusal.0 ≡ Cells = cc in
          refusal.1 ∙ ap Refused is ∙ sym (ap (λ o. reply o (Model.value (power (meaning b)) m s.call (cells_handed m s))) by-model)

      answer-told : a ≡ Model.answer (power (meaning b)) m s.call (cells_handed m s)
      answer-told =
          ⊎_elim
          (λ asked. law.answered allow asked ∙ ap (Model.answer (power (meaning b)) m s.call) length-told)
          refused-told
          (cases_Bool (is_own w s || not (works s.call)))

-- ---- a run

module _ {B : Type 0} (b : B) where
  abbrev meaning : B → Arithmetic
  meaning _ = portable

  -- a step in front of steps whose answers are told
  more-told : (w : World B) (m : Model) (s : Step) (steps : List Step) (a : Answer) (more : List Answer) → Sized w → Fits w.lists s
      → (inside w.strip).count ≡ m.count → StepLaw meaning b w m s a
      → more ≡ replies (is_open (stepped meaning w s).strip) (followed w m s) steps → a ∷ more ≡ replies (is_open w.strip) m (s ∷ steps)
  more-told w m s steps a more sized fits same law later =
      ⊎_elim
      (λ allow.
      let state : is_open (stepped meaning w s).strip ≡ open_after (is_open w.strip) s.call =
      ap is_open (cond-true (allows w.strip s.call) _ w.strip allow) ∙ open_told w.strip s.call _ in
      let answer = answer-told w sized m same s fits allow meaning b a law in
      let model = model-told w sized m same s fits allow in
      rw (allowed-told w.strip s.call ∙ allow) cc)
      (λ deny.
      let state : is_open (stepped meaning w s).strip ≡ is_open w.strip = ap is_open (cond-false (allows w.strip s.call) _ w.strip deny) in
      let model : followed w m s ≡ m = cond-false (allows w.strip s.call) _ m deny in
      rw (allowed-told w.strip s.call ∙ deny) (cc (law.not_allowed deny)))
      (cases_Bool (allows w.strip s.call))

  run-told : (steps : List Step) (w : World B) (m : Model) (got : List Answer) → Sized w → AllByRecursion (Fits w.lists) steps
      → (inside w.strip).count ≡ m.count → StepLaws meaning b w m steps got → got ≡ replies (is_open w.strip) m steps
  run-told [] w m [] sized fit same laws = refl
  run-told [] w m (a ∷ more) sized fit same laws = absurd laws
  run-told (s ∷ steps) w m [] sized fit same laws = absurd laws
  run-told (s ∷ steps) w m (a ∷ more) sized fit same laws =
      more-told w m s steps a more sized fit.0 same laws.0
      (run-told steps (stepped meaning w s) (followed w m s) more (step-sized meaning w s sized fit.0) (All-weaker _ _ (still-fits meaning w s) steps fit.1)
      laws.0.after.agrees.count laws.1)

  -- from the opening
  pub session-told : (lists : List (List Patch)) (steps : List Step) (end : World B) (got : List Answer) → AllByRecursion (Fits lists) steps
      → (ProperRun meaning (start b lists) steps → Law meaning b lists steps end got) → got ≡ replies true opening steps
  session-told lists steps end got fit law =
      run-told steps (start b lists) opening got (start-sized b lists) fit refl (law (run-proper meaning steps (start b lists) (start-sized b lists) fit)).each
