use Rattle.std.proofs.Common.{arith}
use Rattle.text.specs.Pieces.{newline}
use Rattle.text.proofs.pieces.Cuts.{pieces_few}
use Rattle.powtext.proofs.answer_lines.Goals as goal

pub loop-i-init-derived : goal.loop-i-init-derived
loop-i-init-derived c = let few = pieces_few newline c.args.text.now in grind arith
