-- Where no place of the table objects. Assumes nothing.
use Rattle.std.proofs.Common.{◌≡◌, true, false, List, [], ◌∷◌, is_some, None, sym, refl, ap}
use Rattle.std.proofs.lemmas.Bool.{false≢true}
use Rattle.std.specs.List.{AllByRecursion}
use Rattle.strip.specs.Refusal.{Place, first}

-- each answers no
pub unobjected : (ps : List Place) → first ps ≡ None → AllByRecursion (λ p. p.0 ≡ false) ps
unobjected [] none = tt
unobjected ((false, r) ∷ ps) none = (refl, unobjected ps none)
unobjected ((true, r) ∷ ps) none = absurd (false≢true (ap is_some (sym none)))
