-- The law over runs: strip and cells agree with the model, after every call. Assumes nothing.
use Rattle.std.specs.Prelude.{◌≡◌, ℕ, Bool, true, false, cond, not, ◌&&◌, ◌||◌, List, [], ◌∷◌, map, length, is_some, Some, None, Option, ◌==◌, nat_lt, Float}
use Rattle.std.specs.Float.Ieee.{neg}
use Rattle.power.specs.Backend.{Arithmetic}
use Rattle.power.specs.ExactCases.{ExactCase, rounded_once, true_power}
use Rattle.power.specs.Opposites.{Opposite}
use Rattle.power.specs.Powf.{power}
use Rattle.strip.specs.Cells.{at, cleared, users}
use Rattle.strip.specs.Curve.{in_table, counted}
use Rattle.strip.specs.Patch.{empty, laid, under}
use Rattle.strip.specs.Refusal.{Observed, objection}
use Rattle.strip.specs.declared.call.Call.{Call}
use Rattle.strip.specs.declared.call.Call.TheVariants.{Spread, SetCurve, DropCurve, LayPatch, ChangeReading, MovePatch, LiftPatch, ReadPatch, Finish, Reopen}
use Rattle.strip.specs.declared.curve.Curve.{Curve}
use Rattle.strip.specs.declared.patch.Patch.{Patch}
use Rattle.strip.specs.declared.refusal.Refusal.{Refusal}
use Rattle.strip.specs.declared.strip.Strip.{Strip}
use Rattle.runs.specs.Model.{Entry, Model, opening, curve_in, patch_in, fed}
use Rattle.runs.specs.Model as Model
use Rattle.runs.specs.Run.{World, start, handed, own_cells, is_own, is_spread, works, accepted, stepped}
use Rattle.runs.specs.State.{inside, allows}
use Rattle.runs.specs.declared.answer.Answer.{Answer}
use Rattle.runs.specs.declared.answer.Answer.TheVariants.{NotAllowed, Refused}
use Rattle.runs.specs.declared.run.Step.{Step}

-- ---- agreement

-- the cell of a patch that the model has nothing of, or an entry: it shows the power of the reading by its curve's exponent
abbrev pub cell_of : (p : Float → Float → Float) → List (Option Curve) → Option Entry → Patch
cell_of p curves None = empty
cell_of p curves (Some e) = laid p e.curve (counted (in_table curves e.curve)) e.reading

module _ {B : Type 0} (meaning : B → Arithmetic) where
  -- a strip on the backend b, with its cells, is as the model says
  pub record Agrees (b : B) (s : Strip B) (cells : List Patch) (m : Model) : Type 0 where
    pub backend : s.backend ≡ b
    pub count : s.count ≡ m.count
    pub curves : s.curves.table ≡ m.curves
    pub patches : cells ≡ map (cell_of (power (meaning b)) m.curves) m.patches

-- patch i is filled by the model: its reading is x and its curve's exponent is y
pub record Graded (m : Model) (i : ℕ) (x y : Float) : Type 0 where
  pub curve : ℕ
  pub patch : patch_in m i ≡ Some (record { reading = x; curve = curve })
  pub set_to : curve_in m curve ≡ Some (record { exponent = y })

-- a patch that the model has is under a curve that is set
abbrev pub AllSet : Model → Type 0
AllSet m = (i : ℕ) (e : Entry) → patch_in m i ≡ Some e → is_some (curve_in m e.curve) ≡ true

-- in an exact case a patch shows the true power, rounded once
abbrev pub Exact : List Patch → Model → Type 0
Exact cells m = (i : ℕ) (x y : Float) → Graded m i x y → (c : ExactCase x y) → (at cells i).shown ≡ rounded_once (true_power c)

-- patches with opposite readings under one exponent show what `Opposite` says of the powers
abbrev pub Opposed : List Patch → Model → Type 0
Opposed cells m = (i j : ℕ) (x y : Float) → Graded m i x y → Graded m j (neg x) y → Opposite x y (at cells i).shown (at cells j).shown

module _ {B : Type 0} (meaning : B → Arithmetic) where
  pub record Holds (b : B) (s : Strip B) (cells : List Patch) (m : Model) : Type 0 where
    pub agrees : Agrees meaning b s cells m
    -- there are as many cells as the count
    pub counted : length cells ≡ m.count
    pub all_set : AllSet m
    pub exact : Exact cells m
    pub opposed : Opposed cells m

-- ---- one call

-- the table asked of the model's count and curves, and of cells that are not the strip's own
abbrev pub beside : Model → List Patch → Observed
beside m cells =
    record {
      handed = length cells;
      count = m.count;
      is_set = λ k. is_some (curve_in m k);
      is_filled = λ i. (at cells i).filled;
      in_use = λ k. nat_lt 0 (users k cells);
    }

-- whether a call names patch i
abbrev pub names : Call → ℕ → Bool
names Spread i = false
names (SetCurve k y) i = false
names (DropCurve k) i = false
names (LayPatch j x k) i = i == j
names (ChangeReading j x) i = i == j
names (MovePatch j k) i = i == j
names (LiftPatch j) i = i == j
names (ReadPatch j) i = i == j
names Finish i = false
names Reopen i = false

-- whether a call sets the curve that a patch is under
abbrev pub sets_curve_of : Call → Patch → Bool
sets_curve_of Spread q = false
sets_curve_of (SetCurve k y) q = under k q
sets_curve_of (DropCurve k) q = false
sets_curve_of (LayPatch j x k) q = false
sets_curve_of (ChangeReading j x) q = false
sets_curve_of (MovePatch j k) q = false
sets_curve_of (LiftPatch j) q = false
sets_curve_of (ReadPatch j) q = false
sets_curve_of Finish q = false
sets_curve_of Reopen q = false

module _ {B : Type 0} where
  -- the model hears of the calls that are allowed
  abbrev pub followed : World B → Model → Step → Model
  followed w m s = cond (allows w.strip s.call) (fed m s.call (length (handed w s)) (is_own w s)) m

module _ {B : Type 0} (meaning : B → Arithmetic) (b : B) where
  -- What a step from w answers and does, where m is the model before it.
  pub record StepLaw (w : World B) (m : Model) (s : Step) (a : Answer) : Type 0 where
    -- a call that is not allowed is not made
    pub not_allowed : allows w.strip s.call ≡ false → a ≡ NotAllowed
    -- a call with the strip's own cells, and one that needs none of them, is answered as the model and the power say
    pub answered : allows w.strip s.call ≡ true → (is_own w s || not (works s.call)) ≡ true
        → a ≡ Model.answer (power (meaning b)) m s.call (length (handed w s))
    -- a call with other cells is refused, as count, curves and those cells have it
    pub refused : allows w.strip s.call ≡ true → (is_own w s || not (works s.call)) ≡ false
        → (r : Refusal) × (a ≡ Refused r) × (objection s.call (beside m (handed w s)) ≡ Some r)
    -- an accepted spread empties all
    pub emptied : (is_spread s.call && accepted w s) ≡ true → own_cells (stepped meaning w s) ≡ cleared (handed w s)
    -- no other call alters a patch that it does not name and whose curve it does not set
    pub unaltered : (is_spread s.call && accepted w s) ≡ false
        → (i : ℕ) → names s.call i ≡ false → sets_curve_of s.call (at (own_cells w) i) ≡ false
        → at (own_cells (stepped meaning w s)) i ≡ at (own_cells w) i
    -- and strip and cells go on as the model says
    pub after : Holds meaning b (inside (stepped meaning w s).strip) (own_cells (stepped meaning w s)) (followed w m s)

  -- every step, with its answer
  abbrev pub StepLaws : World B → Model → List Step → List Answer → Type 0
  StepLaws w m [] [] = Unit {0}
  StepLaws w m [] (a ∷ more) = ⊥
  StepLaws w m (s ∷ steps) [] = ⊥
  StepLaws w m (s ∷ steps) (a ∷ more) = StepLaw w m s a × StepLaws (stepped meaning w s) (followed w m s) steps more

module _ {B : Type 0} (meaning : B → Arithmetic) where
  -- the model after a run
  abbrev pub model_after : World B → Model → List Step → Model
  model_after w m [] = m
  model_after w m (s ∷ steps) = model_after (stepped meaning w s) (followed w m s) steps

  -- A run from the opening on a backend b, on lists of cells: where it ends, and what each call answered.
  pub record Law (b : B) (lists : List (List Patch)) (steps : List Step) (end : World B) (got : List Answer) : Type 0 where
    pub ends : Holds meaning b (inside end.strip) (own_cells end) (model_after (start b lists) opening steps)
    pub each : StepLaws meaning b (start b lists) opening steps got
