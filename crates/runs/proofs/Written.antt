-- What an accepted call makes of strip and cells is what it writes in the model. Assumes nothing.
use Rattle.std.proofs.Common.{◌≡◌, ℕ, T, List, map, length, set, is_some, Some, None, Option, sym, refl, ap, ◌∙◌, subst₂, arith}
use mathlib.Core.Path.{subst⁻¹}
use lib.Ieee.{Float, binary32, fits}
use Rattle.power.specs.Backend.{Arithmetic}
use Rattle.power.specs.Powf.{power}
use Rattle.std.proofs.lemmas.List.{map-set}
use Rattle.std.proofs.lemmas.Bool.{ltb-false, not-false}
use Rattle.strip.specs.Cells.{at}
use Rattle.strip.specs.Curve.{counted}
use Rattle.strip.specs.Patch.{laid}
use Rattle.strip.specs.Refusal.{places}
use Rattle.strip.specs.Strip.{strip_made, cells_made}
use Rattle.strip.specs.declared.call.Call.{Call}
use Rattle.strip.specs.declared.call.Call.TheVariants.{Spread, SetCurve, DropCurve, LayPatch, ChangeReading, MovePatch, LiftPatch, ReadPatch, Finish, Reopen}
use Rattle.strip.specs.declared.patch.Patch.{Patch}
use Rattle.strip.specs.declared.strip.Strip.{Strip}
use Rattle.runs.specs.Law.{Agrees, cell_of}
use Rattle.runs.specs.Model.{Entry, Model, curve_in, objection_in, patch_in, re_curved, re_read, seen, users_in, with_patch, written}
use Rattle.runs.specs.State.{Singles}
use Rattle.runs.proofs.Painted.{cell-seen, changed-seen, cleared-seen, moved-seen, reworked-seen, unused-seen}
use Rattle.runs.proofs.Everywhere.{all_read}
use Rattle.runs.proofs.Places.{unobjected}
use Rattle.runs.proofs.Sound.{Sound, SoundEntry}
use Rattle.runs.proofs.Soundness.{all-beside, all-still-set, curve-sound, patch-sound, re-curved-sound, re-read-sound, spread-sound}

module _ {B : Type 0} (meaning : B → Arithmetic) (b : B) where
  abbrev pub Follows : Strip B → List Patch → Model → Type 0
  Follows s cells m = Agrees meaning b s cells m × Sound m

  -- an accepted call with these cells leads where the model goes
  abbrev pub Written : Model → Strip B → List Patch → Call → Type 0
  Written m s cells call = Follows (strip_made call s cells) (cells_made meaning call s cells) (written m call (length cells))

  module _ (m : Model) (sound : Sound m) where
    abbrev p : Float → Float → Float
    p = power (meaning b)

    -- the strip and the cells that the model tells
    abbrev told : Strip B
    told = record { backend = b; curves = record { table = m.curves }; count = m.count }

    abbrev own : List Patch
    own = map (cell_of p m.curves) m.patches

    abbrev Accepted : Call → Type 0
    Accepted call = objection_in m call (length own) ≡ None

    unaltered : Follows told own m
    unaltered = (record { backend = refl; count = refl; curves = refl; patches = refl }, sound)

    -- one patch is written
    patch-written : (i : ℕ) (new : Patch) (e : Option Entry) → new ≡ cell_of p m.curves e → SoundEntry m.curves e → Follows told (set own i new) (with_patch m i e)
    patch-written i new e same entry = (
      record {
        backend = refl;
        count = refl;
        curves = refl;
        patches = ap (set own i) same ∙ sym (map-set (cell_of p m.curves) m.patches i e);
      },
      patch-sound m sound i e entry,
    )

    at-patch : (i : ℕ) → SoundEntry m.curves (patch_in m i)
    at-patch i = all_read (SoundEntry m.curves) m.patches i None tt sound.entries

    -- ---- one call each

    spread_written : (cells : List Patch) → Written m told cells Spread
    spread_written cells =
        (record { backend = refl; count = refl; curves = refl; patches = cleared-seen p m.curves cells }, spread-sound m sound (length cells))

    set-written : (k : ℕ) (y : Float) → Accepted (SetCurve k y) → T (fits binary32 y) → Written m told own (SetCurve k y)
    set-written k y none single =
        let low = ltb-false 15 k (unobjected (places (SetCurve k y) (seen m (length own))) none).1.0 in (
          record {
            backend = refl;
            count = refl;
            curves = refl;
            patches = reworked-seen p m.curves k (record { exponent = y }) low sound.sixteen m.patches;
          },
          curve-sound m sound k _ single (all-still-set m.curves k (record { exponent = y }) low sound.sixteen m.patches sound.entries),
        )

    drop-written : (k : ℕ) → Accepted (DropCurve k) → Written m told own (DropCurve k)
    drop-written k none =
        let unused : users_in m k ≡ 0 = omega (arith, ltb-false 0 (users_in m k) (unobjected (places (DropCurve k) (seen m (length own))) none).1.1.1.0) in (
          record { backend = refl; count = refl; curves = refl; patches = unused-seen p m.curves k None m.patches unused },
          curve-sound m sound k None tt (all-beside m.curves k None m.patches unused sound.entries),
        )

    lay-written : (i : ℕ) (x : Float) (k : ℕ) → Accepted (LayPatch i x k) → T (fits binary32 x) → Written m told own (LayPatch i x k)
    lay-written i x k none single =
        let is_set = not-false (is_some (curve_in m k)) (unobjected (places (LayPatch i x k) (seen m (length own))) none).1.1.1.0 in
        patch-written i _ (Some (record { reading = x; curve = k })) refl (single, is_set)

    change-written : (i : ℕ) (x : Float) → Accepted (ChangeReading i x) → T (fits binary32 x) → Written m told own (ChangeReading i x)
    change-written i x none single =
        let filled = not-false (is_some (patch_in m i)) (unobjected (places (ChangeReading i x) (seen m (length own))) none).1.1.0 in
        let new : Patch → Patch = λ q. laid p q.curve (counted (curve_in m q.curve)) x in
        patch-written i (new (at own i)) (re_read x (patch_in m i))
        (ap new (cell-seen p m.curves m.patches i filled) ∙ changed-seen p m.curves x (patch_in m i) filled)
        (re-read-sound m.curves x (patch_in m i) single (at-patch i))

    move-written : (i k : ℕ) → Accepted (MovePatch i k) → Written m told own (MovePatch i k)
    move-written i k none =
        let all = unobjected (places (MovePatch i k) (seen m (length own))) none in
        let is_set = not-false (is_some (curve_in m k)) all.1.1.1.0 in
        let filled = not-false (is_some (patch_in m i)) all.1.1.1.1.0 in
        let new : Patch → Patch = λ q. laid p k (counted (curve_in m k)) q.reading in
        patch-written i (new (at own i)) (re_curved k (patch_in m i))
        (ap new (cell-seen p m.curves m.patches i filled) ∙ moved-seen p m.curves k (patch_in m i) filled)
        (re-curved-sound m.curves k (patch_in m i) is_set (at-patch i))

    lift-written : (i : ℕ) → Written m told own (LiftPatch i)
    lift-written i = patch-written i _ None refl tt

    -- ---- any call

    told-written : (call : Call) → Accepted call → Singles call → Written m told own call
    told-written Spread none single = spread_written own
    told-written (SetCurve k y) none single = set-written k y none single
    told-written (DropCurve k) none single = drop-written k none
    told-written (LayPatch i x k) none single = lay-written i x k none single
    told-written (ChangeReading i x) none single = change-written i x none single
    told-written (MovePatch i k) none single = move-written i k none
    told-written (LiftPatch i) none single = lift-written i
    told-written (ReadPatch i) none single = unaltered
    told-written Finish none single = unaltered
    told-written Reopen none single = unaltered

    module _ (s : Strip B) (cells : List Patch) (agrees : Agrees meaning b s cells m) where
      as-told : s ≡ told
      as-told i = record { backend = agrees.backend i; curves = record { table = agrees.curves i }; count = agrees.count i }

      -- a call with the strip's own cells
      pub own-written : (call : Call) → objection_in m call (length cells) ≡ None → Singles call → Written m s cells call
      own-written call none single =
          let As : Strip B → List Patch → Type 0 = λ t ys. objection_in m call (length ys) ≡ None → Written m t ys call in
          subst₂ As (sym as-told) (sym agrees.patches) (λ accepted. told-written call accepted single) none

      -- a spread of any cells
      pub others-written : (others : List Patch) → Written m s others Spread
      others-written others = subst⁻¹ (λ t. Written m t others Spread) as-told (spread_written others)
