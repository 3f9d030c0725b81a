-- Patches: the empty one, and those under a curve. Assumes nothing.
use Rattle.std.specs.Prelude.{ℕ, Bool, true, false, cond, ◌&&◌, Some, None, Option, ◌==◌, from_bits, Float}
use Rattle.std.specs.Float.{binary32}
use Rattle.strip.specs.declared.curve.Curve.{Curve}
use Rattle.strip.specs.declared.patch.Patch.{Patch}
use Rattle.strip.specs.declared.patch.View.{View}
use Rattle.strip.specs.Curve.{shown}

-- +0, curve 0, +0
abbrev pub empty : Patch
empty = record { filled = false; reading = from_bits binary32 0; curve = 0; shown = from_bits binary32 0 }

-- a reading under curve k, which is c
abbrev pub laid : (p : Float → Float → Float) → ℕ → Curve → (reading : Float) → Patch
laid p k c x = record { filled = true; reading = x; curve = k; shown = shown p c x }

-- filled, under curve k
abbrev pub under : ℕ → Patch → Bool
under k q = q.filled && q.curve == k

abbrev pub view : Patch → View
view q = record { reading = q.reading; curve = q.curve; shown = q.shown }

abbrev pub viewed : Patch → Option View
viewed q = cond q.filled (Some (view q)) None

-- curve k is now c: a filled patch under it shows the power anew, any other is as it was
abbrev pub reworked : (p : Float → Float → Float) → ℕ → Curve → Patch → Patch
reworked p k c q = cond (under k q) (record { filled = q.filled; reading = q.reading; curve = q.curve; shown = shown p c q.reading }) q
