use Rattle.std.proofs.Common.{◌≡◌, ◌+◌, ◌++◌, drop, string_bytes}
use Rattle.std.specs.Slice.Iter.{iter_rest}
use Rattle.striptext.specs.Session.{written}
use Rattle.striptext.proofs.session.write_lines.Given as goal

-- what is written, with what is left to write, is the whole
abbrev pub invariant-loop-i : goal.invariant-loop-i
invariant-loop-i l = string_bytes l.out ++ written (l.i + 1) (drop l.i l.read) (iter_rest l.left) ≡ written 1 l.read l.answers
