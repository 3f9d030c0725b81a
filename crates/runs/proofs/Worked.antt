-- The worked run is one that the law speaks of. Assumes nothing.
use Rattle.std.proofs.Common.{refl}
use lib.Ieee.{is_nan, of_bits}
use Rattle.power.specs.Backend.{Arithmetic}
use Rattle.std.proofs.lemmas.Bool.{false≢true}
use Rattle.runs.specs.Example.{lists, steps}
use Rattle.runs.specs.Run.{ProperRun, start}

pub worked-proper : {B : Type 0} (meaning : B → Arithmetic) (b : B) → ProperRun meaning (start b lists) steps
unfolding is_nan of_bits
worked-proper meaning b =
    (λ _ _. refl, (λ _ works. absurd (false≢true works), (λ _ _. refl, (λ _ _. refl, (λ _ _. refl, (λ _ _. refl, (λ accepted _. absurd (false≢true accepted), (λ _ _. refl, (λ _ _. refl, (λ _ _. refl, (λ _ _. refl, (λ _ _. refl, (λ _ _. refl, (λ _ _. refl, (λ _ _. refl, (λ _ works. absurd (false≢true works), (λ accepted _. absurd (false≢true accepted), (λ _ _. refl, tt))))))))))))))))))
