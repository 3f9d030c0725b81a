-- The names of the calls. Assumes nothing.
use Rattle.std.specs.Prelude.{ℕ, cond, List, [], ◌∷◌, Some, None, codes, Option}
use Rattle.std.specs.Str.{bytes_eq}
use Rattle.striptext.specs.declared.name.Name.{Name}
use Rattle.striptext.specs.declared.name.Name.TheVariants.{Spread, SetCurve, DropCurve, LayPatch, ChangeReading, MovePatch, LiftPatch, ReadPatch, Finish, Reopen}

-- what stands beside the word, in a list of words; none if it stands nowhere
abbrev pub find : List ℕ → List (List ℕ × Name) → Option Name
find word [] = None
find word (row ∷ rows) = cond (bytes_eq word row.0) (Some row.1) (find word rows)

abbrev pub name : List ℕ → Option Name
name word =
    find word
    ((codes "spread", Spread)
    ∷ (codes "set-curve", SetCurve)
    ∷ (codes "drop-curve", DropCurve)
    ∷ (codes "lay-patch", LayPatch)
    ∷ (codes "change-reading", ChangeReading)
    ∷ (codes "move-patch", MovePatch)
    ∷ (codes "lift-patch", LiftPatch)
    ∷ (codes "read-patch", ReadPatch)
    ∷ (codes "finish", Finish)
    ∷ (codes "reopen", Reopen)
    ∷ [])
