use Rattle.std.proofs.Common.{◌≡◌, length, true, map, vec_items, sym, ◌∙◌, subst₂}
use Rattle.runs.specs.Model.{opening}
use Rattle.std.proofs.lemmas.Bool.{cond-false, le-ltb}
use Rattle.std.specs.List.{AllByRecursion}
use Rattle.striptext.specs.Session.{Fits, line_by_line, output, replies}
use Rattle.text.specs.Input.{max_input}
use Rattle.striptext.proofs.Replies.{session-told}
use Rattle.striptext.proofs.session.answers.Goals as goal

pub returns : goal.returns
unfolding output
returns c =
    let steps = c.deref-3.result.now in
    let lists = c.deref_mut.result.now in
    let fit : AllByRecursion (Fits (map vec_items lists)) steps =
    subst₂ (λ vs ss. AllByRecursion (Fits (map vec_items vs)) ss) (sym c.deref_mut.ensures.value) (c.deref-2.ensures.value ∙ sym c.deref-3.ensures.value)
    c.in_ok-lists.ensures in
    let told : vec_items c.in_ok-done.done.answers ≡ replies true opening steps = session-told _ _ _ _ _ fit c.in_ok-done.ensures.law in
    let short : output c.args.input.now ≡ line_by_line c.args.input.now = cond-false _ _ _ (le-ltb max_input (length c.args.input.now) c.in-Some.ensures.1) in
    cc (c.in_ok-read.ensures, c.in_ok-steps.ensures, c.in_ok-out.ensures, c.in-Some.ensures.0)
