use Rattle.std.proofs.Common.{◌≡◌, ◌^◌, ◌<◌, drop}
use Rattle.text.specs.Digits.{numeral}
use Rattle.text.proofs.digits.read.Given as goal

-- what is read so far has a digit for each byte, and the bytes that are left go on from it
abbrev pub invariant-loop-b : goal.invariant-loop-b
invariant-loop-b l = (l.n < l.base ^ l.b-index) × (numeral l.base l.n (drop l.b-index l.digits) ≡ numeral l.base 0 l.digits)
