-- What a call answers. Assumes nothing.
use Rattle.std.specs.Prelude.{Bool, true, false, Some, None, Option}
use Rattle.strip.specs.declared.refusal.Refusal.{Refusal}
use Rattle.runs.specs.declared.answer.Answer.{Answer}
use Rattle.runs.specs.declared.answer.Answer.TheVariants.{NotAllowed, Refused, Count, Value, Patch, Done}

-- the refusal, or else the answer of the accepted call
abbrev pub reply : Option Refusal → Answer → Answer
reply (Some e) a = Refused e
reply None a = a

abbrev pub is_count : Answer → Bool
is_count NotAllowed = false
is_count (Refused e) = false
is_count (Count n) = true
is_count (Value x) = false
is_count (Patch v) = false
is_count Done = false
