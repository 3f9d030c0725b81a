use Rattle.std.proofs.Common.{◌≡◌, ◌+◌, ◌++◌, string_bytes}
use Rattle.powtext.specs.Format.{answered}
use Rattle.text.specs.Pieces.{lines, pieces_left}
use Rattle.powtext.proofs.answer_lines.Given as goal

-- what is written, with the answers to what is left, is the whole
abbrev pub invariant-loop-i : goal.invariant-loop-i
invariant-loop-i l = string_bytes l.out ++ answered (l.i-iterator.count + 1) (pieces_left l.i-iterator.iter) ≡ answered 1 (lines l.text)
