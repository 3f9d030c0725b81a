-- The model of a strip: what was last accepted, with no cells, no shown values and no backend. Assumes nothing.
use Rattle.std.specs.Prelude.{ℕ, Bool, false, cond, ◌||◌, List, [], replicate, is_some, Some, None, count_by, Option, ◌==◌, nat_lt, slice_index_or, slice_set, Float}
use Rattle.strip.specs.Curve.{in_table, counted, shown}
use Rattle.strip.specs.Refusal.{Observed, objection, left}
use Rattle.strip.specs.declared.call.Call.{Call}
use Rattle.strip.specs.declared.call.Call.TheVariants.{Spread, SetCurve, DropCurve, LayPatch, ChangeReading, MovePatch, LiftPatch, ReadPatch, Finish, Reopen}
use Rattle.strip.specs.declared.curve.Curve.{Curve}
use Rattle.strip.specs.declared.refusal.Refusal.{Refusal}
use Rattle.strip.specs.declared.refusal.Refusal.TheVariants.{PatchEmpty}
use Rattle.runs.specs.Answer.{reply}
use Rattle.runs.specs.Run.{is_spread}
use Rattle.runs.specs.declared.answer.Answer.{Answer}
use Rattle.runs.specs.declared.answer.Answer.TheVariants.{Refused, Count, Value, Patch, Done}

-- a reading and the number of its curve
pub record Entry : Type 0 where
  pub reading : Float
  pub curve : ℕ

-- a count, sixteen curves, and what stands at each patch number below the count
pub record Model : Type 0 where
  pub count : ℕ
  pub curves : List (Option Curve)
  pub patches : List (Option Entry)

abbrev pub opening : Model
opening = record { count = 0; curves = replicate 16 None; patches = [] }

abbrev pub curve_in : Model → ℕ → Option Curve
curve_in m k = in_table m.curves k

abbrev pub patch_in : Model → ℕ → Option Entry
patch_in m i = slice_index_or m.patches i None

abbrev pub entry_under : ℕ → Option Entry → Bool
entry_under k None = false
entry_under k (Some e) = e.curve == k

abbrev pub users_in : Model → ℕ → ℕ
users_in m k = count_by (entry_under k) m.patches

-- the table of refusals, asked of the model: n cells are handed in
abbrev pub seen : Model → ℕ → Observed
seen m n =
    record {
      handed = n;
      count = m.count;
      is_set = λ k. is_some (curve_in m k);
      is_filled = λ i. is_some (patch_in m i);
      in_use = λ k. nat_lt 0 (users_in m k);
    }

abbrev pub objection_in : Model → Call → ℕ → Option Refusal
objection_in m call n = objection call (seen m n)

-- ---- the step

abbrev pub with_curve : Model → ℕ → Option Curve → Model
with_curve m k c = record { count = m.count; curves = slice_set m.curves k c; patches = m.patches }

abbrev pub with_patch : Model → ℕ → Option Entry → Model
with_patch m i e = record { count = m.count; curves = m.curves; patches = slice_set m.patches i e }

abbrev pub re_read : Float → Option Entry → Option Entry
re_read x None = None
re_read x (Some e) = Some (record { reading = x; curve = e.curve })

abbrev pub re_curved : ℕ → Option Entry → Option Entry
re_curved k None = None
re_curved k (Some e) = Some (record { reading = e.reading; curve = k })

-- what an accepted call writes
abbrev pub written : Model → Call → ℕ → Model
written m Spread n = record { count = n; curves = m.curves; patches = replicate n None }
written m (SetCurve k y) n = with_curve m k (Some (record { exponent = y }))
written m (DropCurve k) n = with_curve m k None
written m (LayPatch i x k) n = with_patch m i (Some (record { reading = x; curve = k }))
written m (ChangeReading i x) n = with_patch m i (re_read x (patch_in m i))
written m (MovePatch i k) n = with_patch m i (re_curved k (patch_in m i))
written m (LiftPatch i) n = with_patch m i None
written m (ReadPatch i) n = m
written m Finish n = m
written m Reopen n = m

-- a call with n cells, which are the strip's own or not: only a spread hears of others, and a refused call changes nothing
abbrev pub fed : Model → Call → (n : ℕ) → (own : Bool) → Model
fed m call n own = cond (own || is_spread call) (left (objection_in m call n) m (written m call n)) m

-- ---- the answers, with a power p

-- what a filled patch answers by its entry
abbrev pub of_entry : Option Entry → (Entry → Answer) → Answer
of_entry None f = Refused PatchEmpty
of_entry (Some e) f = f e

module _ (p : Float → Float → Float) (m : Model) where
  -- what a reading shows under curve k
  abbrev pub shown_under : ℕ → Float → Float
  shown_under k x = shown p (counted (curve_in m k)) x

  -- what an accepted call answers
  abbrev pub value : Call → ℕ → Answer
  value Spread n = Count n
  value (SetCurve k y) n = Count (users_in m k)
  value (DropCurve k) n = Value (counted (curve_in m k)).exponent
  value (LayPatch i x k) n = Value (shown_under k x)
  value (ChangeReading i x) n = of_entry (patch_in m i) (λ e. Value (shown_under e.curve x))
  value (MovePatch i k) n = of_entry (patch_in m i) (λ e. Value (shown_under k e.reading))
  value (LiftPatch i) n = of_entry (patch_in m i) (λ e. Value e.reading)
  value (ReadPatch i) n =
      of_entry (patch_in m i) (λ e. Patch (record { reading = e.reading; curve = e.curve; shown = shown_under e.curve e.reading }))
  value Finish n = Done
  value Reopen n = Done

  -- what a call with the strip's own n cells answers
  abbrev pub answer : Call → ℕ → Answer
  answer call n = reply (objection_in m call n) (value call n)
