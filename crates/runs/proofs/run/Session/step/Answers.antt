use Rattle.std.proofs.Common.{◌≡◌, cond, ◌&&◌, map, get_or, vec_items, sym, ◌∙◌}
use Rattle.std.proofs.lemmas.List.{with_items_is}
use Rattle.std.proofs.lemmas.Bool.{and_from, and_left, and_right, cond-true, cond-false}
use Rattle.std.specs.Vec.{with_items}
use Rattle.runs.specs.Answer.{is_count}
use Rattle.runs.specs.Run.{number, world, is_spread}
use Rattle.runs.proofs.run.Turns.{MadeOn, within-lists, past-lists, step_is}
use Rattle.runs.proofs.run.Session.step.Goals as goal
use Rattle.runs.proofs.run.Session.step.Goals.{then-number-lists, else-number-lists}
use Rattle.runs.proofs.run.Session.step.Goals.{then-is_count+then-is_spread, else-is_count, else-is_count-via-then-is_count+else-is_spread, else-is_count-via-else-is_count}

pub returns-clause-world : goal.returns-clause-world
returns-clause-world g c =
    let meaning = g.B.PowfBackend.meaning in
    let any = c.args.self.strip in
    let own = c.args.self.own in
    let vs = c.args.lists.now in
    let lists = map vec_items vs in
    let s = c.args.step in
    let n = c.number-number.result in
    let after = c.if-number-lists.strip in
    let vs' = c.if-number-lists.lists in
    let n-is : n ≡ number (world any lists own) s = c.number-number.ensures in
    let made : MadeOn meaning any n s.call lists (map vec_items vs') after = elim c.if-number-lists.branch [
      | then-number-lists w ↦
          let v = w.index-lists-number.result in
          let called = w.call in
          let handed = w.deref_mut in
          let cells' = called.new.cells in
          within-lists meaning any vec_items n s.call vs vs' after called.result w.strip-is v (with_items (get_or vs n v) cells') handed.result.now cells'
          w.if-number-lists.true handed.ensures.value w.lists-is (with_items_is (get_or vs n v) cells' (called.auto.cells ∙ handed.ensures.len))
          called.ensures.strip called.ensures.answer called.ensures.cells
      | else-number-lists w ↦
          let called = w.call-else-number-lists in
          past-lists meaning any vec_items n s.call vs vs' after called.result w.strip-is
          w.if-number-lists.false w.lists-is called.ensures.strip called.ensures.answer
    ] in
    let counted = is_count after.answer in
    let spread = is_spread s.call in
    let own_is : c.if-is_count.own ≡ cond (counted && spread) n own = elim c.if-is_count.branch [
      | then-is_count+then-is_spread w ↦
          w.own-is ∙ sym (cond-true (counted && spread) n own
          (and_from counted spread (sym c.is_count.ensures ∙ w.if-is_count.true) (sym w.is_spread.ensures ∙ w.if-is_spread.true)))
      | else-is_count w ↦
          w.own-is ∙ sym (cond-false (counted && spread) n own (elim w.else-is_count.branch [
            | else-is_count-via-then-is_count+else-is_spread v ↦ and_right counted spread (sym v.is_spread.ensures ∙ v.if-is_spread.false)
            | else-is_count-via-else-is_count v ↦ and_left counted spread (sym c.is_count.ensures ∙ v.if-is_count.false)
          ]))
    ] in
    step_is meaning any lists (map vec_items vs') own n s after n-is made c.if-is_count.own own_is
