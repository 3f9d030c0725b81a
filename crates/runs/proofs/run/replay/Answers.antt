use Rattle.std.proofs.Common.{◌≡◌, ◌+◌, [], ◌∷◌, ◌++◌, map, length, vec_items, sym, subst, rules, arith}
use Rattle.strip.specs.declared.call.Call.TheVariants.{Spread}
use Rattle.runs.specs.Law.{Law}
use Rattle.runs.specs.Run.{world, start}
use Rattle.runs.specs.declared.run.Handed.TheVariants.{Own}
use Rattle.runs.specs.declared.state.AnyStrip.TheVariants.{Open}
use Rattle.runs.proofs.Law.{law}
use Rattle.runs.proofs.run.SoFar.{SoFar, one_more, all-singles, at-end, starts}
use Rattle.runs.proofs.run.replay.Goals as goal

pub loop-step-preserved : goal.loop-step-preserved
loop-step-preserved g c =
    let meaning = g.B.PowfBackend.meaning in
    let turn = c.loop-step in
    let inv = turn.invariant in
    let done = c.step-done in
    let got = vec_items turn.answers in
    let first = world (Open c.new.result) (map vec_items c.args.lists.now) (length c.args.lists.now) in
    let next = world done.result.session.strip (map vec_items done.new.lists) done.result.session.own in
    let pushed = c.push.ensures.succeeds (omega (arith, inv.made, inv.room, c.loop-step-test.true)) in
    let is : vec_items c.push.new.self ≡ got ++ done.result.answer ∷ [] = search rules in
    record {
      so_far =
          subst (SoFar meaning first c.args.steps.now next (turn.step-index + 1)) (sym is)
          (one_more meaning first c.args.steps.now (world turn.session.strip (map vec_items turn.lists) turn.session.own) next
          turn.step-index got done.result.answer (record { list = Own; call = Spread }) c.loop-step-test.true inv.so_far
          done.ensures.world done.ensures.answer done.ensures.singles);
      made = search rules;
      room = omega (arith, inv.room, c.push.ensures.capacity);
    }

pub returns-clause-law : goal.returns-clause-law
returns-clause-law g c =
    let meaning = g.B.PowfBackend.meaning in
    let backend = c.args.backend in
    let lists = map vec_items c.args.lists.now in
    let steps = c.args.steps.now in
    let turn = c.loop-step in
    let end = world turn.session.strip (map vec_items turn.lists) turn.session.own in
    let got = vec_items turn.answers in
    let all = c.loop-step-test.false in
    let first = start backend lists in
    let so_far =
    subst (λ w. SoFar meaning w steps end turn.step-index got) (starts vec_items c.args.lists.now backend c.new.result c.new.ensures)
    turn.invariant.so_far in
    λ proper.
    at-end meaning first steps end turn.step-index got all so_far (Law meaning backend lists steps)
    (law meaning g.met.B.PowfBackend.rules backend lists steps (all-singles meaning first steps end turn.step-index got all so_far) proper)
