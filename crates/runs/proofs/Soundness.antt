-- What accepted calls write keeps a model sound. Assumes nothing.
use Rattle.std.proofs.Common.{◌≡◌, ℕ, ◌≤◌, true, T, List, [], ◌∷◌, length, set, replicate, is_some, Some, None, count_by, Option, ap, ◌∙◌, ⊎_elim}
use lib.Ieee.{Float, binary32, fits}
use Rattle.std.proofs.ByRecursion.{All-set}
use Rattle.std.proofs.lemmas.List.{length-replicate, length-set}
use Rattle.std.proofs.lemmas.Bool.{cases_eq}
use Rattle.std.specs.List.{AllByRecursion}
use Rattle.strip.specs.Curve.{in_table}
use Rattle.strip.specs.declared.curve.Curve.{Curve}
use Rattle.runs.specs.Model.{Entry, Model, entry_under, re_curved, re_read, with_curve, with_patch}
use Rattle.runs.proofs.Everywhere.{all_replicate}
use Rattle.runs.proofs.Painted.{curve-beside, curve-written, none_more, none-under}
use Rattle.runs.proofs.Sound.{Sound, SoundCurve, SoundEntry}

-- ---- entries

module _ (curves : List (Option Curve)) where
  pub re-read-sound : (x : Float) (e : Option Entry) → T (fits binary32 x) → SoundEntry curves e → SoundEntry curves (re_read x e)
  re-read-sound x None single sound = tt
  re-read-sound x (Some e) single sound = (single, sound.1)

  pub re-curved-sound : (k : ℕ) (e : Option Entry) → is_some (in_table curves k) ≡ true → SoundEntry curves e → SoundEntry curves (re_curved k e)
  re-curved-sound k None is_set sound = tt
  re-curved-sound k (Some e) is_set sound = (sound.0, is_set)

  -- where a curve is set
  pub all-still-set : (k : ℕ) (c : Curve) → k ≤ 15 → length curves ≡ 16 → (es : List (Option Entry))
      → AllByRecursion (SoundEntry curves) es → AllByRecursion (SoundEntry (set curves k (Some c))) es
  all-still-set k c low sixteen [] all = tt
  all-still-set k c low sixteen (None ∷ es) all = (tt, all-still-set k c low sixteen es all.1)
  all-still-set k c low sixteen (Some e ∷ es) all = ((all.0.0, here), all-still-set k c low sixteen es all.1)
    where
      here : is_some (in_table (set curves k (Some c)) e.curve) ≡ true
      here =
          ⊎_elim
          (λ same. ap is_some (ap (in_table (set curves k (Some c))) same ∙ curve-written curves k (Some c) low sixteen))
          (λ apart. ap is_some (curve-beside curves k (Some c) e.curve apart) ∙ all.0.1)
          (cases_eq e.curve k)

  -- where a curve with nothing under it is written
  pub all-beside : (k : ℕ) (c : Option Curve) (es : List (Option Entry)) → count_by (entry_under k) es ≡ 0
      → AllByRecursion (SoundEntry curves) es → AllByRecursion (SoundEntry (set curves k c)) es
  all-beside k c [] none all = tt
  all-beside k c (None ∷ es) none all = (tt, all-beside k c es (none_more k es none) all.1)
  all-beside k c (Some e ∷ es) none all =
      let parts = none-under k e es none in
      ((all.0.0, ap is_some (curve-beside curves k c e.curve parts.0) ∙ all.0.1), all-beside k c es parts.1 all.1)

-- ---- models

module _ (m : Model) (sound : Sound m) where
  pub patch-sound : (i : ℕ) (e : Option Entry) → SoundEntry m.curves e → Sound (with_patch m i e)
  patch-sound i e new =
      record {
        sixteen = sound.sixteen;
        counted = length-set m.patches i e ∙ sound.counted;
        exponents = sound.exponents;
        entries = All-set (SoundEntry m.curves) m.patches i e new sound.entries;
      }

  pub curve-sound : (k : ℕ) (c : Option Curve) → SoundCurve c → AllByRecursion (SoundEntry (set m.curves k c)) m.patches → Sound (with_curve m k c)
  curve-sound k c new entries =
      record {
        sixteen = length-set m.curves k c ∙ sound.sixteen;
        counted = sound.counted;
        exponents = All-set SoundCurve m.curves k c new sound.exponents;
        entries = entries;
      }

  pub spread-sound : (n : ℕ) → Sound (record { count = n; curves = m.curves; patches = replicate n None })
  spread-sound n =
      record { sixteen = sound.sixteen; counted = length-replicate n None; exponents = sound.exponents; entries = all_replicate (SoundEntry m.curves) n None tt }
