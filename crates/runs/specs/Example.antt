-- A worked run: refusals, another list, finish and reopen, a second spread. Assumes nothing.
use Rattle.std.specs.Prelude.{ℕ, true, List, [], ◌∷◌, replicate, from_bits, Float}
use Rattle.std.specs.Float.{binary32}
use Rattle.std.specs.Float.Ieee.{neg}
use Rattle.strip.specs.Patch.{empty}
use Rattle.strip.specs.declared.call.Call.{Call}
use Rattle.strip.specs.declared.call.Call.TheVariants.{Spread, SetCurve, DropCurve, LayPatch, ChangeReading, MovePatch, LiftPatch, ReadPatch, Finish, Reopen}
use Rattle.strip.specs.declared.patch.Patch.{Patch}
use Rattle.runs.specs.declared.run.Handed.TheVariants.{Own, Numbered}
use Rattle.runs.specs.declared.run.Step.{Step}

abbrev pub one : Float
one = from_bits binary32 0x3f800000

abbrev pub two : Float
two = from_bits binary32 0x40000000

abbrev pub three : Float
three = from_bits binary32 0x40400000

-- a patch from elsewhere, filled under a curve above 15
abbrev pub stray : Patch
stray = record { filled = true; reading = one; curve = 99; shown = two }

-- four cells from elsewhere, and three empty ones
abbrev pub lists : List (List Patch)
lists = replicate 4 stray ∷ replicate 3 empty ∷ []

abbrev pub on_own : Call → Step
on_own call = record { list = Own; call = call }

abbrev pub on_list : ℕ → Call → Step
on_list n call = record { list = Numbered n; call = call }

abbrev pub steps : List Step
steps =
    on_own (SetCurve 0 three)
    ∷ on_list 0 Spread
    ∷ on_own (LayPatch 2 three 0)
    ∷ on_own (LayPatch 1 (neg three) 0)
    ∷ on_own (LayPatch 2 one 0)
    ∷ on_own (LayPatch 0 one 5)
    ∷ on_list 1 (ReadPatch 2)
    ∷ on_own (SetCurve 0 two)
    ∷ on_own (DropCurve 0)
    ∷ on_own Finish
    ∷ on_own (ReadPatch 1)
    ∷ on_own Reopen
    ∷ on_own (ChangeReading 1 three)
    ∷ on_own (MovePatch 2 16)
    ∷ on_own (LiftPatch 2)
    ∷ on_list 1 Spread
    ∷ on_list 0 (ReadPatch 1)
    ∷ on_own (ReadPatch 1)
    ∷ []
