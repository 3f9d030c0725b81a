use Rattle.std.proofs.Common.{rules}
use Rattle.std.proofs.lemmas.Iterator.{YieldsList-from_map, items_from_collect}
use Rattle.std.proofs.lemmas.Iterator.Consumers.{YieldsList-from_first}
use Rattle.striptext.specs.Step.{step}
use Rattle.text.specs.Pieces.{lines, pieces_left}
use Rattle.striptext.proofs.session.read_lines.Goals as goal

pub returns : goal.returns
returns c =
    items_from_collect _ c.collect.ensures.ran
    (YieldsList-from_map _ step (YieldsList-from_first (λ x. x.now) pieces_left (lines c.args.text.now) cc) c.map.ensures.closure (λ x r q k. search rules))
