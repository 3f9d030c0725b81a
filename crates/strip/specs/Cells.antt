-- A list of cells, and what is done to all of it. Assumes nothing.
use Rattle.std.specs.Prelude.{ℕ, false, List, map, count_by, slice_index_or, Float}
use Rattle.std.specs.Float.{nan}
use Rattle.strip.specs.Patch.{empty, reworked, under}
use Rattle.strip.specs.declared.curve.Curve.{Curve}
use Rattle.strip.specs.declared.patch.Patch.{Patch}

-- stands past the end of a list, where no call reads
abbrev pub absent : Patch
absent = record { filled = false; reading = nan; curve = 0; shown = nan }

abbrev pub at : List Patch → ℕ → Patch
at cells i = slice_index_or cells i absent

-- how many filled patches are under curve k
abbrev pub users : ℕ → List Patch → ℕ
users k cells = count_by (under k) cells

abbrev pub cleared : List Patch → List Patch
cleared cells = map (λ _. empty) cells

-- curve k is now c
abbrev pub all_reworked : (p : Float → Float → Float) → ℕ → Curve → List Patch → List Patch
all_reworked p k c cells = map (reworked p k c) cells
