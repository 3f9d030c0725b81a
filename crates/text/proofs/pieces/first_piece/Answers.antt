use Rattle.std.proofs.Common.{arith, false-eqb}
use Rattle.std.proofs.lemmas.List.{take_rest}
use Rattle.text.proofs.pieces.Cuts.{pieces_cut}
use Rattle.text.proofs.pieces.first_piece.Goals as goal

pub returns-in-Some-clause-cut : goal.returns-in-Some-clause-cut
returns-in-Some-clause-cut c =
    let some = false-eqb _ 0 c.if-is_empty.ensures in
    let cut = rw (← c.in-Some.ensures) at (pieces_cut c.args.separator c.args.text.now (omega arith)) in
    rw take_rest cut

pub returns-in-None-clause-cut : goal.returns-in-None-clause-cut
returns-in-None-clause-cut c =
    let some = false-eqb _ 0 c.if-is_empty.ensures in
    rw (← c.in-None.ensures) at (pieces_cut c.args.separator c.args.text.now (omega arith))
