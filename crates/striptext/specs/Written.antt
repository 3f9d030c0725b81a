-- What is written for an answer. Assumes nothing.
use Rattle.std.specs.Prelude.{ℕ, List, ◌∷◌, ◌++◌, codes, Float}
use Rattle.runs.specs.declared.answer.Answer.{Answer}
use Rattle.runs.specs.declared.answer.Answer.TheVariants.{NotAllowed, Refused, Count, Value, Patch, Done}
use Rattle.std.specs.Fmt as Std
use Rattle.strip.specs.Refusal.{number}
use Rattle.strip.specs.declared.patch.View.{View}
use Rattle.text.specs.Float as Float
use Rattle.text.specs.Pieces.{blank}

abbrev pub decimal : ℕ → List ℕ
decimal n = Std.decimal n

-- the bit pattern; every NaN is 7fc00000
abbrev pub float : Float → List ℕ
float x = Float.float x

-- reading, curve and shown value
abbrev pub view : View → List ℕ
view v = float v.reading ++ blank ∷ (decimal v.curve ++ blank ∷ float v.shown)

abbrev pub answer : Answer → List ℕ
answer NotAllowed = codes "not allowed"
answer (Refused r) = codes "refused " ++ decimal (number r)
answer (Count n) = decimal n
answer (Value x) = float x
answer (Patch v) = view v
answer Done = codes "done"

-- the n-th line is no call
abbrev pub bad : ℕ → List ℕ
bad n = codes "bad " ++ decimal n
