use Rattle.std.proofs.Common.{◌<◌, ◌≤◌, length, take, vec_items, sym, ◌∙◌, arith, rules}
use Rattle.runs.specs.declared.run.Handed.TheVariants.{Own}
use Rattle.runs.specs.declared.run.Step.{Step}
use Rattle.strip.specs.declared.call.Call.TheVariants.{Spread}
use Rattle.striptext.proofs.session.Fitted.{Fit, all-empty, grown-fit, made-fit}
use Rattle.striptext.proofs.session.lists_for.Goals as goal

pub loop-step-preserved : goal.loop-step-preserved
loop-step-preserved c =
    let steps = c.args.steps.now in
    let i = c.loop-step.step-index in
    let none : Step = record { list = Own; call = Spread } in
    let lt = c.loop-step-test.true in
    let n = c.in-Numbered.cells in
    let before = vec_items c.loop-step.lists in
    let lists = vec_items c.resize_with.new.self in
    let put = c.in_ok-resize_with.ensures.items in
    let most : length before ≤ c.max.result = omega (arith, c.loop-step.lists.ok.0, c.len.ensures, c.max.ensures) in
    let grown : Fit vec_items lists (take i steps) =
    grown-fit vec_items before lists put.0 c.max.result (take i steps) put.2 most (all-empty vec_items _ (λ p v q made. search rules) put.0 _ _ put.3) c.loop-step.invariant in
    let count = rw c.in_ok-count.ensures.ok_part at c.checked_add.ensures in
    let within : n < length lists = omega (arith, c.resize_with.new.self.ok.0, c.in_ok-resize_with.ensures.len, c.max.ensures, count) in
    made-fit vec_items lists steps i none lt grown n c.resize.new.self c.in-Numbered.is within (sym c.resize.new.self.ok.0 ∙ c.in_ok-resize.ensures.len)
