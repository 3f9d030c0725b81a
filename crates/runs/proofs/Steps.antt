-- The law of one step. Assumes nothing.
use Rattle.std.proofs.Common.{◌≡◌, true, false, not, length, is_some, Some, sym, ◌∙◌, subst, ⊎_elim}
use Rattle.power.specs.Backend.{Arithmetic}
use Rattle.power.specs.Powf.{power}
use Rattle.power.specs.Rules.{Rules}
use Rattle.std.proofs.lemmas.Bool.{and_from, both_ways, cases_Bool, cond-false, cond-true, not-false, not_from_false, not-true, or_cases, or_parts}
use Rattle.strip.specs.Refusal.{objection}
use Rattle.strip.specs.Strip.{refusal}
use Rattle.strip.specs.declared.refusal.Refusal.{Refusal}
use Rattle.runs.specs.Answer.{reply}
use Rattle.runs.specs.Law.{Agrees, StepLaw, beside, followed}
use Rattle.runs.specs.Model as Model
use Rattle.runs.specs.Model.{Model}
use Rattle.runs.specs.Run.{World, handed, is_own, own_cells, answer_of, stepped, works, Proper}
use Rattle.runs.specs.State.{allows, inside, value, Singles}
use Rattle.runs.specs.declared.answer.Answer.{Answer}
use Rattle.runs.specs.declared.answer.Answer.TheVariants.{NotAllowed, Refused}
use Rattle.runs.specs.declared.run.Step.{Step}
use Rattle.runs.proofs.Answering.{answer-free, answer-seen, replied}
use Rattle.runs.proofs.Followed.{step_follows}
use Rattle.runs.proofs.Leaving.{others-unaltered, spread-emptied}
use Rattle.runs.proofs.Lists.{handed-own}
use Rattle.runs.proofs.Seen.{refusal-beside}
use Rattle.runs.proofs.Showing.{holds}
use Rattle.runs.proofs.Sound.{Sound}

-- ---- the answer of a call that is allowed

module _ {B : Type 0} (meaning : B → Arithmetic) (b : B) (w : World B) (m : Model) (s : Step) (allowed : allows w.strip s.call ≡ true) where
  abbrev replies : Answer
  replies = reply (refusal s.call (inside w.strip) (handed w s)) (value meaning (inside w.strip) (handed w s) s.call)

  answer-is : answer_of meaning w s ≡ replies
  answer-is = cond-true (allows w.strip s.call) replies NotAllowed allowed

  -- whatever cells are handed in
  answered-free : works s.call ≡ false → answer_of meaning w s ≡ Model.answer (power (meaning b)) m s.call (length (handed w s))
  answered-free free = answer-is ∙ answer-free meaning b (inside w.strip) m (handed w s) s.call free

  module _ (agrees : Agrees meaning b (inside w.strip) (own_cells w) m) where
    answered-own : is_own w s ≡ true → answer_of meaning w s ≡ Model.answer (power (meaning b)) m s.call (length (handed w s))
    answered-own own =
        let with-handed = subst (λ cells. Agrees meaning b (inside w.strip) cells m) (sym (handed-own meaning w s own)) agrees in
        answer-is ∙ answer-seen meaning b (inside w.strip) (handed w s) m with-handed s.call

    -- a call that works on cells is refused others
    refused-other : Proper w s → works s.call ≡ true → is_own w s ≡ false
        → (r : Refusal) × (answer_of meaning w s ≡ Refused r) × (objection s.call (beside m (handed w s)) ≡ Some r)
    refused-other proper work other =
        let told = refusal s.call (inside w.strip) (handed w s) in
        let some : is_some told ≡ true =
        ⊎_elim (λ yes. yes)
        (λ no.
        let accept = and_from (allows w.strip s.call) (not (is_some told)) allowed (not_from_false (is_some told) no) in
        absurd (both_ways (is_own w s) other (proper accept work)))
        (cases_Bool (is_some told)) in
        let by = replied told (value meaning (inside w.strip) (handed w s) s.call) some in
        let asked-beside = refusal-beside meaning b (inside w.strip) (own_cells w) m agrees (handed w s) s.call in
        (by.0, answer-is ∙ by.1, sym asked-beside ∙ by.2)

-- ---- all of it

module _ {B : Type 0} (meaning : B → Arithmetic) (rules : (b : B) → Rules (meaning b)) (b : B) where
  pub step-law : (w : World B) (m : Model) (s : Step) → Sound m → Agrees meaning b (inside w.strip) (own_cells w) m
      → (allows w.strip s.call ≡ true → Singles s.call) → Proper w s
      → StepLaw meaning b w m s (answer_of meaning w s)
  step-law w m s sound agrees singles proper =
      let to = step_follows meaning b w m s sound agrees singles proper in
      record {
        not_allowed = cond-false (allows w.strip s.call) _ NotAllowed;
        answered = λ allowed asked.
            ⊎_elim
            (answered-own meaning b w m s allowed agrees)
            (λ free. answered-free meaning b w m s allowed (not-true (works s.call) free))
            (or_cases (is_own w s) (not (works s.call)) asked);
        refused = λ allowed asked.
            let neither = or_parts (is_own w s) (not (works s.call)) asked in
            refused-other meaning b w m s allowed agrees proper (not-false (works s.call) neither.1) neither.0;
        emptied = spread-emptied meaning w s;
        unaltered = others-unaltered meaning w s;
        after = holds meaning rules b (inside (stepped meaning w s).strip) (own_cells (stepped meaning w s)) (followed w m s) to.1 to.0;
      }
