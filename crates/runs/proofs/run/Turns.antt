-- One step of a run: the list that it is handed, and what it leaves. Assumes nothing.
use Rattle.std.proofs.Common.{◌≡◌, ℕ, ◌<◌, ◌≤◌, Bool, true, false, cond, not, ◌&&◌, List, [], map, length, get_or, set, is_some, Some, None, Option, sym, refl, ◌∙◌, arith}
use lib.ListN.{length-map}
use Rattle.power.specs.Backend.{Arithmetic}
use Rattle.std.proofs.lemmas.List.{get_or-map, get_or_past, map-set, set_past}
use Rattle.std.proofs.lemmas.Bool.{and_right}
use Rattle.strip.specs.Strip.{refusal}
use Rattle.strip.specs.declared.call.Call.{Call}
use Rattle.strip.specs.declared.call.Call.TheVariants.{Spread, SetCurve, DropCurve, LayPatch, ChangeReading, MovePatch, LiftPatch, ReadPatch, Finish, Reopen}
use Rattle.strip.specs.declared.patch.Patch.{Patch}
use Rattle.strip.specs.declared.refusal.Refusal.{Refusal}
use Rattle.runs.specs.Answer.{reply, is_count}
use Rattle.runs.specs.Run.{world, number, is_spread, stepped}
use Rattle.runs.specs.State.{inside, allows, strip_after, cells_after, answer}
use Rattle.runs.specs.declared.answer.Answer.TheVariants.{NotAllowed, Count}
use Rattle.runs.specs.declared.run.Step.{Step}
use Rattle.runs.specs.declared.state.AnyStrip.{AnyStrip}
use Rattle.runs.specs.declared.state.Called.{Called}

-- what is answered is a count, if the call is allowed and not refused
counts : (allowed : Bool) (o : Option Refusal) (n : ℕ) → (is_count (cond allowed (reply o (Count n)) NotAllowed) && true) ≡ (allowed && not (is_some o))
counts true None n = refl
counts true (Some e) n = refl
counts false o n = refl

module _ {B : Type 0} (meaning : B → Arithmetic) (any : AnyStrip B) where
  -- of all calls, an accepted spread is the spread that answers a count
  counted-spread : (cells : List Patch) (call : Call)
      → (is_count (answer meaning any cells call) && is_spread call) ≡ (is_spread call && (allows any call && not (is_some (refusal call (inside any) cells))))
  counted-spread cells Spread = counts (allows any Spread) (refusal Spread (inside any) cells) (length cells)
  counted-spread cells (SetCurve k y) = and_right _ false refl
  counted-spread cells (DropCurve k) = and_right _ false refl
  counted-spread cells (LayPatch i x k) = and_right _ false refl
  counted-spread cells (ChangeReading i x) = and_right _ false refl
  counted-spread cells (MovePatch i k) = and_right _ false refl
  counted-spread cells (LiftPatch i) = and_right _ false refl
  counted-spread cells (ReadPatch i) = and_right _ false refl
  counted-spread cells Finish = and_right _ false refl
  counted-spread cells Reopen = and_right _ false refl

  -- a call made on the list numbered n
  pub record MadeOn (n : ℕ) (call : Call) (lists lists' : List (List Patch)) (after : Called B) : Type 0 where
    pub strip-is : after.strip ≡ strip_after any (get_or lists n []) call
    pub answer-is : after.answer ≡ answer meaning any (get_or lists n []) call
    pub lists-are : lists' ≡ set lists n (cells_after meaning any (get_or lists n []) call)

  module _ {V : Type 0} (items : V → List Patch) (n : ℕ) (call : Call) (vs vs' : List V) (after called : Called B) (same : after ≡ called) where
    -- with a list that there is
    pub within-lists : (v v' : V) (cells cells' : List Patch) → n < length vs → cells ≡ items (get_or vs n v) → vs' ≡ set vs n v' → items v' ≡ cells'
        → called.strip ≡ strip_after any cells call → called.answer ≡ answer meaning any cells call → cells' ≡ cells_after meaning any cells call
        → MadeOn n call (map items vs) (map items vs') after
    within-lists v v' cells cells' lt cells_are vs-are items-are called-strip called-answer called-cells =
        let handed : cells ≡ get_or (map items vs) n [] = cells_are ∙ sym (get_or-map items vs n v [] lt) in
        let writes = map-set items vs n v' in
        record { strip-is = cc; answer-is = cc; lists-are = cc }

    -- with the empty list that stands past them
    pub past-lists : length vs ≤ n → vs' ≡ vs → called.strip ≡ strip_after any [] call → called.answer ≡ answer meaning any [] call
        → MadeOn n call (map items vs) (map items vs') after
    past-lists le vs-are called-strip called-answer =
        let past : length (map items vs) ≤ n = omega (arith, length-map vs items) in
        let handed : get_or (map items vs) n [] ≡ [] = get_or_past (map items vs) n [] past in
        let writes = set_past (map items vs) n (cells_after meaning any (get_or (map items vs) n []) call) past in
        record { strip-is = cc; answer-is = cc; lists-are = cc }

  -- and the step that it was
  module _ (lists lists' : List (List Patch)) (own n : ℕ) (s : Step) (after : Called B) (n-is : n ≡ number (world any lists own) s)
      (made : MadeOn n s.call lists lists' after) where
    pub step_is : (own' : ℕ) → own' ≡ cond (is_count after.answer && is_spread s.call) n own
        → world after.strip lists' own' ≡ stepped meaning (world any lists own) s
    step_is own' own_is = let spreads = counted-spread (get_or lists n []) s.call in cc
