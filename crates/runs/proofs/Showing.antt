-- What patches show where strip and cells agree with a model: exact cases and opposite readings. Assumes nothing.
use Rattle.std.proofs.Common.{◌≡◌, ℕ, T, ltb, List, map, length, get_or, is_some, Some, None, Option, ap, ◌∙◌, subst}
use lib.Ieee.{Float, binary32, fits, neg}
use lib.ListN.{length-map}
use Rattle.power.proofs.ExactPowers as exact-powers
use Rattle.power.proofs.Turning as turning
use Rattle.power.specs.Backend.{Arithmetic}
use Rattle.power.specs.Powf.{power}
use Rattle.power.specs.Rules.{Rules}
use Rattle.std.proofs.lemmas.Bool.{cond_both}
use Rattle.strip.specs.Cells.{at}
use Rattle.strip.specs.Curve.{counted}
use Rattle.strip.specs.declared.curve.Curve.{Curve}
use Rattle.strip.specs.declared.patch.Patch.{Patch}
use Rattle.strip.specs.declared.strip.Strip.{Strip}
use Rattle.runs.specs.Law.{Agrees, Graded, Holds, cell_of}
use Rattle.runs.specs.Model.{Entry, Model, patch_in}
use Rattle.runs.proofs.Everywhere.{all_read}
use Rattle.runs.proofs.Painted.{cell-seen}
use Rattle.runs.proofs.Sound.{Sound, SoundCurve, SoundEntry}

-- the cell of an entry of the model
pub cell_at : (p : Float → Float → Float) (curves : List (Option Curve)) (es : List (Option Entry)) (i : ℕ) (e : Entry)
    → get_or es i None ≡ Some e → at (map (cell_of p curves) es) i ≡ cell_of p curves (Some e)
cell_at p curves es i e is = cell-seen p curves es i (ap is_some is) ∙ ap (cell_of p curves) is

entry_at : (m : Model) → Sound m → (i : ℕ) (e : Entry) → patch_in m i ≡ Some e → SoundEntry m.curves (Some e)
entry_at m sound i e is = subst (SoundEntry m.curves) is (all_read (SoundEntry m.curves) m.patches i None tt sound.entries)

module _ (m : Model) (sound : Sound m) (i : ℕ) (x y : Float) (graded : Graded m i x y) where
  reading-fits : T (fits binary32 x)
  reading-fits = (entry_at m sound i (record { reading = x; curve = graded.curve }) graded.patch).0

  exponent-fits : T (fits binary32 y)
  exponent-fits =
      let k = graded.curve in
      subst SoundCurve graded.set_to
      (cond_both (ltb 15 k) None (get_or m.curves k None) SoundCurve (λ _. tt) (λ _. all_read SoundCurve m.curves k None tt sound.exponents))

module _ {B : Type 0} (meaning : B → Arithmetic) (b : B) (s : Strip B) (cells : List Patch) (m : Model) (agrees : Agrees meaning b s cells m) where
  shows : (i : ℕ) (x y : Float) → Graded m i x y → (at cells i).shown ≡ power (meaning b) x y
  shows i x y graded =
      ap (λ cs. (at cs i).shown) agrees.patches
      ∙ ap (λ (q : Patch). q.shown) (cell_at (power (meaning b)) m.curves m.patches i (record { reading = x; curve = graded.curve }) graded.patch)
      ∙ ap (λ c. power (meaning b) x (counted c).exponent) graded.set_to

module _ {B : Type 0} (meaning : B → Arithmetic) (rules : (b : B) → Rules (meaning b)) (b : B) where
  pub holds : (s : Strip B) (cells : List Patch) (m : Model) → Sound m → Agrees meaning b s cells m → Holds meaning b s cells m
  holds s cells m sound agrees =
      let show = shows meaning b s cells m agrees in
      record {
        agrees = agrees;
        counted = ap length agrees.patches ∙ length-map m.patches (cell_of (power (meaning b)) m.curves) ∙ sound.counted;
        all_set = λ i e is. (entry_at m sound i e is).1;
        exact = λ i x y graded c.
            show i x y graded ∙ exact-powers.exact (meaning b) (rules b) x y (reading-fits m sound i x y graded) (exponent-fits m sound i x y graded) c;
        opposed = λ i j x y graded turned.
            rw (show i x y graded, show j (neg x) y turned)
            (turning.opposite (meaning b) (rules b) x y (reading-fits m sound i x y graded) (exponent-fits m sound i x y graded));
      }
