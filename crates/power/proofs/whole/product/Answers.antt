use Rattle.std.proofs.Common.{◌≡◌, ℕ, suc, ◌-◌, List, ◌++◌, [], ◌∷◌, length, refl, ap, ◌∙◌, rules, length-append, arith}
use Rattle.std.proofs.iter.Yields.{nat_range_steps}
use Rattle.std.proofs.lemmas.Fn.{fold_over}
use Rattle.std.proofs.lemmas.Iterator.{YieldsList-from_range}
use Rattle.std.proofs.lemmas.List.FromFn.{length-range_with_len}
use Rattle.std.specs.List.{range_with_len}
use lib.Ieee.{Float, binary64, mul}
use Rattle.power.specs.Whole.{repeated, product}
use Rattle.power.proofs.whole.product.Goals as goal

-- one factor more
more : (x : Float) (ys : List ℕ) (i : ℕ) → mul binary64 (repeated x (length ys)) x ≡ repeated x (length (ys ++ i ∷ []))
more x ys i = ap (repeated x) {x = suc (length ys)} (omega (arith, length-append ys (i ∷ [])))

pub returns : goal.returns
unfolding product
returns c =
    let x = c.f32_to_f64_with_nan-x_d.result in
    let n = c.args.n - 1 in
    let all : c.fold.result ≡ repeated x (length (range_with_len 1 n)) =
    fold_over nat_range_steps (λ i. i) _ (λ ys p. p ≡ repeated x (length ys)) _ (λ ys p i q f e k. search (rules, more x ys i)) (record { start = 1; end = c.args.n }) (range_with_len 1 n) x _ (YieldsList-from_range 1 c.args.n n refl refl).runs refl c.fold.ensures.ran in
    search (rules, all ∙ ap (repeated x) (length-range_with_len 1 n))
