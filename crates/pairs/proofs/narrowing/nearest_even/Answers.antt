use Rattle.std.proofs.Common.{◌≡◌, ◌+◌, ◌-◌, ◌*◌, ◌/◌, ◌%◌, ◌^◌, ◌<◌, ◌∙◌, arith}
use lib.Bits.{and_mask}
use lib.Pow.{pow-lt}
use Rattle.pairs.proofs.narrowing.Laws.{half-even}
use Rattle.pairs.proofs.narrowing.nearest_even.Goals as goal

pub returns : goal.returns
returns c =
    let t = c.args.t in
    let k = c.args.shift in
    let j : k - 1 < 64 = omega arith in
    let l : 2 ^ (k - 1) < 2 ^ 64 = pow-lt j in
    let h : 1 * 2 ^ (k - 1) % 2 ^ 64 ≡ 2 ^ (k - 1) = omega arith in
    (λ i. (t + (h i - 1) + and_mask (t / 2 ^ k) 1 i) / 2 ^ k) ∙ half-even t k (omega arith)
