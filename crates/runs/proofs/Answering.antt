-- What a call answers, by the model. Assumes nothing.
use Rattle.std.proofs.Common.{◌≡◌, ℕ, true, false, List, length, is_some, Some, None, Option, sym, refl, ap, ◌∙◌}
use lib.Ieee.{Float}
use Rattle.power.specs.Backend.{Arithmetic}
use Rattle.power.specs.Powf.{power}
use Rattle.std.proofs.lemmas.Bool.{false≢true, not-false}
use Rattle.strip.specs.Cells.{at, users}
use Rattle.strip.specs.Curve.{counted, in_table}
use Rattle.strip.specs.Patch.{view}
use Rattle.strip.specs.Refusal.{places}
use Rattle.strip.specs.Strip.{refusal, patch_laid}
use Rattle.strip.specs.declared.call.Call.{Call}
use Rattle.strip.specs.declared.call.Call.TheVariants.{Spread, SetCurve, DropCurve, LayPatch, ChangeReading, MovePatch, LiftPatch, ReadPatch, Finish, Reopen}
use Rattle.strip.specs.declared.patch.Patch as Cell
use Rattle.strip.specs.declared.refusal.Refusal.{Refusal}
use Rattle.strip.specs.declared.strip.Strip.{Strip}
use Rattle.runs.specs.Answer.{reply}
use Rattle.runs.specs.Law.{Agrees, cell_of}
use Rattle.runs.specs.Model as Model
use Rattle.runs.specs.Model.{Entry, Model, objection_in, of_entry, patch_in, seen, shown_under}
use Rattle.runs.specs.Run.{works}
use Rattle.runs.specs.State.{value}
use Rattle.runs.specs.declared.answer.Answer.{Answer}
use Rattle.runs.specs.declared.answer.Answer.TheVariants.{Refused, Count, Value, Patch}
use Rattle.runs.proofs.Places.{unobjected}
use Rattle.runs.proofs.Seen.{refusal-seen, users-seen}
use Rattle.runs.proofs.Showing.{cell_at}

-- ---- refusals

reply-alike : (o : Option Refusal) (a c : Answer) → (o ≡ None → a ≡ c) → reply o a ≡ reply o c
reply-alike (Some r) a c same = refl
reply-alike None a c same = same refl

pub replied : (o : Option Refusal) (a : Answer) → is_some o ≡ true → (r : Refusal) × (reply o a ≡ Refused r) × (o ≡ Some r)
replied (Some r) a some = (r, refl, refl)
replied None a some = absurd (false≢true some)

-- ---- calls on one filled patch

by-entry : (o : Option Entry) (f : Entry → Answer) (a : Answer) → is_some o ≡ true → ((e : Entry) → o ≡ Some e → a ≡ f e) → a ≡ of_entry o f
by-entry (Some e) f a filled each = each e refl
by-entry None f a filled each = absurd (false≢true filled)

-- ---- with the strip's own cells

module _ {B : Type 0} (meaning : B → Arithmetic) (b : B) (s : Strip B) (cells : List Cell.Patch) (m : Model) (agrees : Agrees meaning b s cells m) where
  abbrev p : Float → Float → Float
  p = power (meaning b)

  entry_seen : (i : ℕ) (e : Entry) → patch_in m i ≡ Some e → at cells i ≡ cell_of p m.curves (Some e)
  entry_seen i e is = ap (λ cs. at cs i) agrees.patches ∙ cell_at p m.curves m.patches i e is

  laid-seen : (k : ℕ) (x : Float) → (patch_laid meaning s k x).shown ≡ shown_under p m k x
  laid-seen k x j = power (meaning (agrees.backend j)) x (counted (in_table (agrees.curves j) k)).exponent

  value-seen : (call : Call) → objection_in m call (length cells) ≡ None → value meaning s cells call ≡ Model.value p m call (length cells)
  value-seen Spread none = refl
  value-seen (SetCurve k y) none = ap Count (ap (users k) agrees.patches ∙ users-seen p m.curves k m.patches)
  value-seen (DropCurve k) none = ap (λ table. Value (counted (in_table table k)).exponent) agrees.curves
  value-seen (LayPatch i x k) none = ap Value (laid-seen k x)
  value-seen (ChangeReading i x) none =
      by-entry (patch_in m i) _ _ (not-false (is_some (patch_in m i)) (unobjected (places (ChangeReading i x) (seen m (length cells))) none).1.1.0)
      (λ e is. ap (λ (q : Cell.Patch). Value (patch_laid meaning s q.curve x).shown) (entry_seen i e is) ∙ ap Value (laid-seen e.curve x))
  value-seen (MovePatch i k) none =
      by-entry (patch_in m i) _ _ (not-false (is_some (patch_in m i)) (unobjected (places (MovePatch i k) (seen m (length cells))) none).1.1.1.1.0)
      (λ e is. ap (λ (q : Cell.Patch). Value (patch_laid meaning s k q.reading).shown) (entry_seen i e is) ∙ ap Value (laid-seen k e.reading))
  value-seen (LiftPatch i) none =
      by-entry (patch_in m i) _ _ (not-false (is_some (patch_in m i)) (unobjected (places (LiftPatch i) (seen m (length cells))) none).1.1.0)
      (λ e is. ap (λ (q : Cell.Patch). Value q.reading) (entry_seen i e is))
  value-seen (ReadPatch i) none =
      by-entry (patch_in m i) _ _ (not-false (is_some (patch_in m i)) (unobjected (places (ReadPatch i) (seen m (length cells))) none).1.1.0)
      (λ e is. ap (λ (q : Cell.Patch). Patch (view q)) (entry_seen i e is))
  value-seen Finish none = refl
  value-seen Reopen none = refl

  pub answer-seen : (call : Call) → reply (refusal call s cells) (value meaning s cells call) ≡ Model.answer p m call (length cells)
  answer-seen call =
      ap (λ o. reply o (value meaning s cells call)) (refusal-seen meaning b s cells m agrees call)
      ∙ reply-alike (objection_in m call (length cells)) (value meaning s cells call) (Model.value p m call (length cells)) (value-seen call)

-- ---- with any cells: the table asks a call that does not work on them at most after their number
module _ {B : Type 0} (meaning : B → Arithmetic) (b : B) (s : Strip B) (m : Model) where
  pub answer-free : (cells : List Cell.Patch) (call : Call) → works call ≡ false
      → reply (refusal call s cells) (value meaning s cells call) ≡ Model.answer (power (meaning b)) m call (length cells)
  answer-free cells Spread free = refl
  answer-free cells (SetCurve k y) free = absurd (false≢true (sym free))
  answer-free cells (DropCurve k) free = absurd (false≢true (sym free))
  answer-free cells (LayPatch i x k) free = absurd (false≢true (sym free))
  answer-free cells (ChangeReading i x) free = absurd (false≢true (sym free))
  answer-free cells (MovePatch i k) free = absurd (false≢true (sym free))
  answer-free cells (LiftPatch i) free = absurd (false≢true (sym free))
  answer-free cells (ReadPatch i) free = absurd (false≢true (sym free))
  answer-free cells Finish free = refl
  answer-free cells Reopen free = refl
