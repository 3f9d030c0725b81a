-- The first steps of a run, made one after another. Assumes nothing.
use Rattle.std.proofs.Common.{◌≡◌, ℕ, ◌+◌, ◌<◌, ◌≤◌, true, List, [], ◌∷◌, ◌++◌, map, length, get_or, drop, sym, ap, ◌∙◌, subst}
use lib.ListN.{length-map}
use Rattle.power.specs.Backend.{Arithmetic}
use Rattle.std.proofs.lemmas.List.{append_assoc, append-nil, at_drop_more, at_drop_all, drop_more, drop_all}
use Rattle.strip.specs.Strip.{opened}
use Rattle.strip.specs.declared.patch.Patch.{Patch}
use Rattle.strip.specs.declared.strip.OpenStrip.{OpenStrip}
use Rattle.runs.specs.Run.{World, world, start, stepped, answer_of, run, answers}
use Rattle.runs.specs.State.{allows, Singles}
use Rattle.runs.specs.declared.answer.Answer.{Answer}
use Rattle.runs.specs.declared.run.Step.{Step}
use Rattle.runs.specs.declared.state.AnyStrip.TheVariants.{Open}
use Rattle.runs.proofs.Singles.{SinglesRun}

-- where a run starts
pub starts : {B V : Type 0} (items : V → List Patch) (vs : List V) (b : B) (s : OpenStrip B) → s.strip ≡ opened b
    → world (Open s) (map items vs) (length vs) ≡ start b (map items vs)
starts items vs b s e = λ i. world (Open (record { strip = e i })) (map items vs) (sym (length-map vs items) i)

module _ {B : Type 0} (meaning : B → Arithmetic) (first : World B) (steps : List Step) where
  -- i steps led from the first world to w: the rest lead on from there to the end of the run, its answers and its floats
  pub record SoFar (w : World B) (i : ℕ) (got : List Answer) : Type 0 where
    pub leads : run meaning w (drop i steps) ≡ run meaning first steps
    pub answered : got ++ answers meaning w (drop i steps) ≡ answers meaning first steps
    pub singles : SinglesRun meaning w (drop i steps) → SinglesRun meaning first steps

  -- the next step is made, and its answer follows those before it
  pub one_more : (w w' : World B) (i : ℕ) (got : List Answer) (a : Answer) (none : Step) → i < length steps → SoFar w i got
      → w' ≡ stepped meaning w (get_or steps i none) → a ≡ answer_of meaning w (get_or steps i none)
      → (allows w.strip (get_or steps i none).call ≡ true → Singles (get_or steps i none).call)
      → SoFar w' (i + 1) (got ++ a ∷ [])
  one_more w w' i got a none lt so_far w-is a-is single =
      let rest = drop (i + 1) steps in
      let next = drop_more steps i none lt in
      record {
        leads = ap (λ v. run meaning v rest) w-is ∙ sym (at_drop_more (run meaning w) steps i none lt) ∙ so_far.leads;
        answered =
            append_assoc got (a ∷ []) (answers meaning w' rest)
            ∙ ap (λ more. got ++ more) (cc)
            ∙ so_far.answered;
        singles = λ more. so_far.singles (subst (SinglesRun meaning w) (sym next) (single, subst (λ v. SinglesRun meaning v rest) w-is more));
      }

  -- all steps are made
  module _ (w : World B) (i : ℕ) (got : List Answer) (le : length steps ≤ i) (so_far : SoFar w i got) where
    pub all-ends : w ≡ run meaning first steps
    all-ends = sym (at_drop_all (run meaning w) steps i le) ∙ so_far.leads

    pub all-answers : got ≡ answers meaning first steps
    all-answers = sym (append-nil got) ∙ ap (λ more. got ++ more) (sym (at_drop_all (answers meaning w) steps i le)) ∙ so_far.answered

    pub all-singles : SinglesRun meaning first steps
    all-singles = so_far.singles (subst (SinglesRun meaning w) (sym (drop_all i steps le)) tt)

    -- what holds of where the run ends and of its answers, holds here
    pub at-end : (P : World B → List Answer → Type 0) → P (run meaning first steps) (answers meaning first steps) → P w got
    at-end P h = subst (λ v. P v got) (sym all-ends) (subst (P (run meaning first steps)) (sym all-answers) h)
