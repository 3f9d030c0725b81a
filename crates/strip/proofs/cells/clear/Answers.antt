use Rattle.std.proofs.Common.{length, ◌∙◌, refl}
use Rattle.std.proofs.lemmas.Simd.{splat_is_map}
use Rattle.strip.proofs.cells.clear.Goals as goal

pub returns : goal.returns
returns c =
    let cells = c.args.cells.now in
    let same = c.fill.ensures.after (λ y is. is) in
    (rw c.empty.ensures at same) ∙ splat_is_map cells (length cells) _ refl
