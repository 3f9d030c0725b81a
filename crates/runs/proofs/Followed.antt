-- A step takes strip and cells where the model goes. Assumes nothing.
use Rattle.std.proofs.Common.{◌≡◌, Bool, true, false, cond, not, ◌&&◌, List, length, is_some, Some, None, Option, sym, refl, ap, ⊎_elim}
use mathlib.Core.Path.{subst⁻¹, subst₃}
use Rattle.power.specs.Backend.{Arithmetic}
use Rattle.std.proofs.lemmas.Bool.{both_ways, cases_Bool}
use Rattle.strip.specs.Refusal.{left}
use Rattle.strip.specs.Strip as Strips
use Rattle.strip.specs.Strip.{refusal, strip_made}
use Rattle.strip.specs.declared.call.Call.{Call}
use Rattle.strip.specs.declared.call.Call.TheVariants.{Spread, SetCurve, DropCurve, LayPatch, ChangeReading, MovePatch, LiftPatch, ReadPatch, Finish, Reopen}
use Rattle.strip.specs.declared.patch.Patch.{Patch}
use Rattle.strip.specs.declared.refusal.Refusal.{Refusal}
use Rattle.strip.specs.declared.strip.Strip.{Strip}
use Rattle.runs.specs.Law.{Agrees, followed}
use Rattle.runs.specs.Model.{Model, fed, objection_in, written}
use Rattle.runs.specs.Run.{World, accepted, handed, is_own, is_spread, own_cells, stepped, works, Proper}
use Rattle.runs.specs.State.{allows, cells_after, in_state, inside, Singles}
use Rattle.runs.specs.declared.run.Step.{Step}
use Rattle.runs.specs.declared.state.AnyStrip.{AnyStrip}
use Rattle.runs.proofs.Inside.{inside-state}
use Rattle.runs.proofs.Lists.{handed-own, other_after, own-after}
use Rattle.runs.proofs.Seen.{refusal-seen}
use Rattle.runs.proofs.Sound.{Sound}
use Rattle.runs.proofs.Written.{Follows, Written, others-written, own-written}

-- ---- what is inside after a call

module _ {B : Type 0} where
  inside-either : (allowed : Bool) (any : AnyStrip B) (call : Call) (s : Strip B)
      → inside (cond allowed (in_state any call s) any) ≡ cond allowed s (inside any)
  inside-either true any call s = inside-state any call s
  inside-either false any call s = refl

  abbrev after : AnyStrip B → List Patch → Call → Strip B
  after any cells call = cond (allows any call) (Strips.strip_after call (inside any) cells) (inside any)

module _ {B : Type 0} (meaning : B → Arithmetic) (b : B) where
  -- ---- a call that is allowed or not, and refused or not

  module _ (s : Strip B) (cells : List Patch) (m : Model) (was : Follows meaning b s cells m) where
    -- on the strip's own cells
    own-either : (allowed : Bool) (o : Option Refusal) (s' : Strip B) (cells' : List Patch) (m' : Model)
        → (allowed ≡ true → o ≡ None → Follows meaning b s' cells' m')
        → Follows meaning b (cond allowed (left o s s') s) (cond allowed (left o cells cells') cells) (cond allowed (left o m m') m)
    own-either true (Some e) s' cells' m' made = was
    own-either true None s' cells' m' made = made refl refl
    own-either false o s' cells' m' made = was

    -- a spread of others
    spread-either : (allowed : Bool) (o : Option Refusal) (s' : Strip B) (others others' : List Patch) (m' : Model)
        → Follows meaning b s' others' m'
        → Follows meaning b (cond allowed (left o s s') s) (cond (allowed && not (is_some o)) (cond allowed (left o others others') others) cells)
        (cond allowed (left o m m') m)
    spread-either true (Some e) s' others others' m' made = was
    spread-either true None s' others others' m' made = made
    spread-either false o s' others others' m' made = was

    -- any other call on others
    other-either : (allowed : Bool) (o : Option Refusal) (s' : Strip B) → ((allowed && not (is_some o)) ≡ true → s' ≡ s)
        → Follows meaning b (cond allowed (left o s s') s) cells (cond allowed m m)
    other-either true (Some e) s' same = was
    other-either true None s' same = subst⁻¹ (λ t. Follows meaning b t cells m) (same refl) was
    other-either false o s' same = was

  module _ (any : AnyStrip B) (cells : List Patch) (m : Model) (sound : Sound m) (agrees : Agrees meaning b (inside any) cells m) where
    own-follows : (call : Call) → (allows any call ≡ true → Singles call)
        → Follows meaning b (after any cells call) (cells_after meaning any cells call) (cond (allows any call) (fed m call (length cells) true) m)
    own-follows call singles =
        let s : Strip B = inside any in
        let allowed : Bool = allows any call in
        let model : Model = cond allowed (fed m call (length cells) true) m in
        let s' : Strip B = strip_made call s cells in
        let cells' : List Patch = Strips.cells_made meaning call s cells in
        let After : Option Refusal → Type 0 = λ o. Follows meaning b (cond allowed (left o s s') s) (cond allowed (left o cells cells') cells) model in
        let o : Option Refusal = objection_in m call (length cells) in
        let made : allowed ≡ true → o ≡ None → Written meaning b m s cells call = λ is none. own-written meaning b m sound s cells agrees call none (singles is) in
        subst⁻¹ After (refusal-seen meaning b s cells m agrees call) (own-either s cells m (agrees, sound) allowed o s' cells' (written m call (length cells)) made)

    module _ (others : List Patch) where
      abbrev accepts : Call → Bool
      accepts call = allows any call && not (is_some (refusal call (inside any) others))

      abbrev OthersFollow : Call → Type 0
      OthersFollow call =
          Follows meaning b (after any others call) (cond (is_spread call && accepts call) (cells_after meaning any others call) cells)
          (cond (allows any call) (fed m call (length others) false) m)

      unspread : (call : Call) → (accepts call ≡ true → strip_made call (inside any) others ≡ inside any)
          → Follows meaning b (after any others call) cells (cond (allows any call) m m)
      unspread call same =
          other-either (inside any) cells m (agrees, sound) (allows any call) (refusal call (inside any) others) (strip_made call (inside any) others) same

      others-follow : (call : Call) → (accepts call ≡ true → works call ≡ true → ⊥) → OthersFollow call
      others-follow Spread unfit =
          spread-either (inside any) cells m (agrees, sound) (allows any Spread) (refusal Spread (inside any) others) _ others _ _
          (others-written meaning b m sound (inside any) cells agrees others)
      others-follow (SetCurve k y) unfit = unspread (SetCurve k y) (λ accepted. absurd (unfit accepted refl))
      others-follow (DropCurve k) unfit = unspread (DropCurve k) (λ accepted. absurd (unfit accepted refl))
      others-follow (LayPatch i x k) unfit = unspread (LayPatch i x k) (λ _. refl)
      others-follow (ChangeReading i x) unfit = unspread (ChangeReading i x) (λ _. refl)
      others-follow (MovePatch i k) unfit = unspread (MovePatch i k) (λ _. refl)
      others-follow (LiftPatch i) unfit = unspread (LiftPatch i) (λ _. refl)
      others-follow (ReadPatch i) unfit = unspread (ReadPatch i) (λ _. refl)
      others-follow Finish unfit = unspread Finish (λ _. refl)
      others-follow Reopen unfit = unspread Reopen (λ _. refl)

  -- ---- a step

  module _ (w : World B) (m : Model) (s : Step) (sound : Sound m) (agrees : Agrees meaning b (inside w.strip) (own_cells w) m) where
    abbrev Stepped : Type 0
    Stepped = Follows meaning b (inside (stepped meaning w s).strip) (own_cells (stepped meaning w s)) (followed w m s)

    strip-stepped : after w.strip (handed w s) s.call ≡ inside (stepped meaning w s).strip
    strip-stepped = sym (inside-either (allows w.strip s.call) w.strip s.call (Strips.strip_after s.call (inside w.strip) (handed w s)))

    model-stepped : (own : Bool) → is_own w s ≡ own → cond (allows w.strip s.call) (fed m s.call (length (handed w s)) own) m ≡ followed w m s
    model-stepped own is = ap (λ t. cond (allows w.strip s.call) (fed m s.call (length (handed w s)) t) m) (sym is)

    own-step : (allows w.strip s.call ≡ true → Singles s.call) → is_own w s ≡ true → Stepped
    own-step singles own =
        let agrees' = subst⁻¹ (λ cells. Agrees meaning b (inside w.strip) cells m) (handed-own meaning w s own) agrees in
        subst₃ (Follows meaning b) strip-stepped (sym (own-after meaning w s own)) (model-stepped true own)
        (own-follows w.strip (handed w s) m sound agrees' s.call singles)

    other_step : Proper w s → is_own w s ≡ false → Stepped
    other_step proper other =
        let unfit : accepted w s ≡ true → works s.call ≡ true → ⊥ = λ accepts working. both_ways (is_own w s) other (proper accepts working) in
        subst₃ (Follows meaning b) strip-stepped (sym (other_after meaning w s other)) (model-stepped false other)
        (others-follow w.strip (own_cells w) m sound agrees (handed w s) s.call unfit)

  pub step_follows : (w : World B) (m : Model) (s : Step) → Sound m → Agrees meaning b (inside w.strip) (own_cells w) m
      → (allows w.strip s.call ≡ true → Singles s.call) → Proper w s
      → Agrees meaning b (inside (stepped meaning w s).strip) (own_cells (stepped meaning w s)) (followed w m s) × Sound (followed w m s)
  step_follows w m s sound agrees singles proper =
      ⊎_elim (own-step w m s sound agrees singles) (other_step w m s sound agrees proper) (cases_Bool (is_own w s))
