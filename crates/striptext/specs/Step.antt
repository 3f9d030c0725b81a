-- A line as a call and the list of cells that it is handed. Assumes nothing.
use Rattle.std.specs.Prelude.{ℕ, cond, List, [], ◌∷◌, Some, None, codes, Option, nat_le, Float}
use Rattle.runs.specs.declared.run.Handed.{Handed}
use Rattle.runs.specs.declared.run.Handed.TheVariants.{Own, Numbered}
use Rattle.runs.specs.declared.run.Step.{Step}
use Rattle.std.specs.Str.{bytes_eq}
use Rattle.strip.specs.declared.call.Call.{Call}
use Rattle.strip.specs.declared.call.Call.TheVariants as Calls
use Rattle.striptext.specs.Name.{name}
use Rattle.striptext.specs.declared.name.Name.{Name}
use Rattle.striptext.specs.declared.name.Name.TheVariants as Names
use Rattle.text.specs.Decimal as Decimal
use Rattle.text.specs.Float.{float_given}
use Rattle.text.specs.Pieces.{words}

abbrev pub Words : Type 0
Words = List (List ℕ)

-- ---- words

-- what follows, if there is a first
abbrev pub then : {X Y : Type 0} → Option (X × Words) → (X → Words → Option Y) → Option Y
then None f = None
then (Some p) f = f p.0 p.1

abbrev pub before : {X : Type 0} → Option X → Words → Option (X × Words)
before None ws = None
before (Some x) ws = Some (x, ws)

-- what the word in front gives
abbrev pub first : {X : Type 0} → (List ℕ → Option X) → Words → Option (X × Words)
first given [] = None
first given (w ∷ ws) = before (given w) ws

-- a number in decimal digits in front
abbrev pub number_first : Words → Option (ℕ × Words)
number_first ws = first Decimal.number ws

-- a bit pattern of eight hexadecimal digits in front
abbrev pub float_first : Words → Option (Float × Words)
float_first ws = first float_given ws

-- ---- lists of cells

-- the list of n cells is the one of that number; no call tells lists of more than 4,096 cells apart
abbrev pub list_of : ℕ → Handed
list_of n = Numbered (cond (nat_le n 4097) n 4097)

-- nothing more stands there
abbrev pub alone : {X : Type 0} → Words → X → Option X
alone [] x = Some x
alone (w ∷ ws) x = None

-- the strip's own list, or after `with` the list of a number of cells
abbrev pub handed : Words → Option Handed
handed [] = Some Own
handed (w ∷ ws) = cond (bytes_eq w (codes "with")) (then (number_first ws) (λ n rest. alone rest (list_of n))) None

abbrev pub on : Option Handed → Call → Option Step
on None call = None
on (Some list) call = Some (record { list = list; call = call })

abbrev pub on_list : Words → Call → Option Step
on_list ws call = on (handed ws) call

-- ---- calls: what follows the name

abbrev pub spread : Words → Option Step
spread ws = then (number_first ws) (λ n rest. alone rest (record { list = list_of n; call = Calls.Spread }))

abbrev pub set_curve : Words → Option Step
set_curve ws = then (number_first ws) (λ k rest. then (float_first rest) (λ y rest'. on_list rest' (Calls.SetCurve k y)))

abbrev pub drop_curve : Words → Option Step
drop_curve ws = then (number_first ws) (λ k rest. on_list rest (Calls.DropCurve k))

abbrev pub lay_patch : Words → Option Step
lay_patch ws =
    then (number_first ws) (λ i rest. then (float_first rest) (λ x rest'. then (number_first rest') (λ k rest''. on_list rest'' (Calls.LayPatch i x k))))

abbrev pub change_reading : Words → Option Step
change_reading ws = then (number_first ws) (λ i rest. then (float_first rest) (λ x rest'. on_list rest' (Calls.ChangeReading i x)))

abbrev pub move_patch : Words → Option Step
move_patch ws = then (number_first ws) (λ i rest. then (number_first rest) (λ k rest'. on_list rest' (Calls.MovePatch i k)))

abbrev pub lift_patch : Words → Option Step
lift_patch ws = then (number_first ws) (λ i rest. on_list rest (Calls.LiftPatch i))

abbrev pub read_patch : Words → Option Step
read_patch ws = then (number_first ws) (λ i rest. on_list rest (Calls.ReadPatch i))

abbrev pub by_name : Name → Words → Option Step
by_name Names.Spread ws = spread ws
by_name Names.SetCurve ws = set_curve ws
by_name Names.DropCurve ws = drop_curve ws
by_name Names.LayPatch ws = lay_patch ws
by_name Names.ChangeReading ws = change_reading ws
by_name Names.MovePatch ws = move_patch ws
by_name Names.LiftPatch ws = lift_patch ws
by_name Names.ReadPatch ws = read_patch ws
by_name Names.Finish ws = alone ws (record { list = Own; call = Calls.Finish })
by_name Names.Reopen ws = alone ws (record { list = Own; call = Calls.Reopen })

abbrev pub named : Option Name → Words → Option Step
named None ws = None
named (Some n) ws = by_name n ws

abbrev pub of_words : Words → Option Step
of_words [] = None
of_words (w ∷ ws) = named (name w) ws

-- the call of a line, if it is one
unfoldable pub step : List ℕ → Option Step
step line = of_words (words line)
