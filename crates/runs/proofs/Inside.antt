-- Any state holds the strip that it is given. Assumes nothing.
use Rattle.std.proofs.Common.{◌≡◌, refl}
use Rattle.strip.specs.declared.call.Call.{Call}
use Rattle.strip.specs.declared.call.Call.TheVariants.{Spread, SetCurve, DropCurve, LayPatch, ChangeReading, MovePatch, LiftPatch, ReadPatch, Finish, Reopen}
use Rattle.strip.specs.declared.strip.Strip.{Strip}
use Rattle.runs.specs.State.{in_state, inside, kept}
use Rattle.runs.specs.declared.state.AnyStrip.{AnyStrip}
use Rattle.runs.specs.declared.state.AnyStrip.TheVariants.{Open, Finished}

module _ {B : Type 0} where
  inside-kept : (any : AnyStrip B) (s : Strip B) → inside (kept any s) ≡ s
  inside-kept (Open o) s = refl
  inside-kept (Finished f) s = refl

  pub inside-state : (any : AnyStrip B) (call : Call) (s : Strip B) → inside (in_state any call s) ≡ s
  inside-state any Spread s = inside-kept any s
  inside-state any (SetCurve k y) s = inside-kept any s
  inside-state any (DropCurve k) s = inside-kept any s
  inside-state any (LayPatch i x k) s = inside-kept any s
  inside-state any (ChangeReading i x) s = inside-kept any s
  inside-state any (MovePatch i k) s = inside-kept any s
  inside-state any (LiftPatch i) s = inside-kept any s
  inside-state any (ReadPatch i) s = inside-kept any s
  inside-state any Finish s = refl
  inside-state any Reopen s = refl
