-- What one call makes of the number of cells: no list's, and the strip's count only where a spread is accepted. Assumes nothing.
use Rattle.std.proofs.Common.{◌≡◌, ℕ, zero, suc, Bool, true, false, cond, not, ◌&&◌, eqb, List, [], ◌∷◌, length, get_or, set, is_some, Some, None, Option, refl, ap, ◌∙◌}
use lib.ListN.{length-map}
use Rattle.power.specs.Backend.{Arithmetic}
use Rattle.runs.proofs.Inside.{inside-state}
use Rattle.runs.specs.Run.{is_spread, works}
use Rattle.runs.specs.State.{allows, cells_after, in_state, inside, strip_after}
use Rattle.runs.specs.declared.state.AnyStrip.{AnyStrip}
use Rattle.std.proofs.lemmas.List.{length-set}
use Rattle.std.proofs.lemmas.Bool.{cond-true, false≢true, not_from_false}
use Rattle.strip.specs.Refusal.{Observed, left, objection}
use Rattle.strip.specs.Strip.{cells_made, refusal, strip_made}
use Rattle.strip.specs.declared.call.Call.{Call}
use Rattle.strip.specs.declared.call.Call.TheVariants.{Spread, SetCurve, DropCurve, LayPatch, ChangeReading, MovePatch, LiftPatch, ReadPatch, Finish, Reopen}
use Rattle.strip.specs.declared.patch.Patch.{Patch}
use Rattle.strip.specs.declared.refusal.Refusal.{Refusal}
use Rattle.strip.specs.declared.refusal.Refusal.TheVariants.{Cells}
use Rattle.strip.specs.declared.strip.Strip.{Strip}

-- ---- the cells

length-either : {X : Type 0} (allowed : Bool) (o : Option Refusal) (was new : List X) → length new ≡ length was → length (cond allowed (left o was new) was) ≡ length was
length-either true (Some r) was new same = refl
length-either true None was new same = same
length-either false o was new same = refl

module _ {B : Type 0} (meaning : B → Arithmetic) where
  length-made : (call : Call) (s : Strip B) (cells : List Patch) → length (cells_made meaning call s cells) ≡ length cells
  length-made Spread s cells = length-map cells _
  length-made (SetCurve k y) s cells = length-map cells _
  length-made (DropCurve k) s cells = refl
  length-made (LayPatch i x k) s cells = length-set cells i _
  length-made (ChangeReading i x) s cells = length-set cells i _
  length-made (MovePatch i k) s cells = length-set cells i _
  length-made (LiftPatch i) s cells = length-set cells i _
  length-made (ReadPatch i) s cells = refl
  length-made Finish s cells = refl
  length-made Reopen s cells = refl

  pub length-after : (any : AnyStrip B) (cells : List Patch) (call : Call) → length (cells_after meaning any cells call) ≡ length cells
  length-after any cells call =
      length-either (allows any call) (refusal call (inside any) cells) cells (cells_made meaning call (inside any) cells) (length-made call (inside any) cells)

-- a list that is written back as long as it was
pub length-written : {X : Type 0} (lists : List (List X)) (n k : ℕ) (new : List X) → length new ≡ length (get_or lists n [])
    → length (get_or (set lists n new) k []) ≡ length (get_or lists k [])
length-written [] n k new same = refl
length-written (l ∷ lists) zero zero new same = same
length-written (l ∷ lists) zero (suc k) new same = refl
length-written (l ∷ lists) (suc n) zero new same = refl
length-written (l ∷ lists) (suc n) (suc k) new same = length-written lists n k new same

-- ---- the strip's count

module _ {B : Type 0} where
  count-made : (call : Call) (s : Strip B) (cells : List Patch) → (strip_made call s cells).count ≡ cond (is_spread call) (length cells) s.count
  count-made Spread s cells = refl
  count-made (SetCurve k y) s cells = refl
  count-made (DropCurve k) s cells = refl
  count-made (LayPatch i x k) s cells = refl
  count-made (ChangeReading i x) s cells = refl
  count-made (MovePatch i k) s cells = refl
  count-made (LiftPatch i) s cells = refl
  count-made (ReadPatch i) s cells = refl
  count-made Finish s cells = refl
  count-made Reopen s cells = refl

  count_left : (o : Option Refusal) (spread : Bool) (s new : Strip B) (n : ℕ) → new.count ≡ cond spread n s.count
      → (left o s new).count ≡ cond (spread && not (is_some o)) n s.count
  count_left (Some r) true s new n e = refl
  count_left (Some r) false s new n e = refl
  count_left None true s new n e = e
  count_left None false s new n e = e

  count-either : (allowed spread : Bool) (o : Option Refusal) (any : AnyStrip B) (call : Call) (new : Strip B) (n : ℕ)
      → new.count ≡ cond spread n (inside any).count
      → (inside (cond allowed (in_state any call (left o (inside any) new)) any)).count ≡ cond (spread && (allowed && not (is_some o))) n (inside any).count
  count-either true spread o any call new n e =
      ap (λ (s : Strip B). s.count) (inside-state any call (left o (inside any) new)) ∙ count_left o spread (inside any) new n e
  count-either false true o any call new n e = refl
  count-either false false o any call new n e = refl

  pub count-after : (any : AnyStrip B) (cells : List Patch) (call : Call)
      → (inside (strip_after any cells call)).count
      ≡ cond (is_spread call && (allows any call && not (is_some (refusal call (inside any) cells)))) (length cells) (inside any).count
  count-after any cells call =
      count-either (allows any call) (is_spread call) (refusal call (inside any) cells) any call (strip_made call (inside any) cells) (length cells)
      (count-made call (inside any) cells)

-- ---- the table of refusals

-- a call that works on cells is refused a list of another length, before anything else is asked
pub refused-others : (call : Call) (o : Observed) → works call ≡ true → eqb o.handed o.count ≡ false → objection call o ≡ Some Cells
refused-others Spread o work other = absurd (false≢true work)
refused-others (SetCurve k y) o work other = cond-true _ _ _ (not_from_false _ other)
refused-others (DropCurve k) o work other = cond-true _ _ _ (not_from_false _ other)
refused-others (LayPatch i x k) o work other = cond-true _ _ _ (not_from_false _ other)
refused-others (ChangeReading i x) o work other = cond-true _ _ _ (not_from_false _ other)
refused-others (MovePatch i k) o work other = cond-true _ _ _ (not_from_false _ other)
refused-others (LiftPatch i) o work other = cond-true _ _ _ (not_from_false _ other)
refused-others (ReadPatch i) o work other = cond-true _ _ _ (not_from_false _ other)
refused-others Finish o work other = absurd (false≢true work)
refused-others Reopen o work other = absurd (false≢true work)
