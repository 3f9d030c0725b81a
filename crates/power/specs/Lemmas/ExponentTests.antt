-- The two tests of an exponent answer as the rules ask. Assumes nothing.
use Rattle.std.specs.Prelude.{◌≡◌, ℕ, zero, suc, Bool, ℤ, Float}
use Rattle.std.proofs.Common.{arith}
use Rattle.std.specs.Float.{nan, inf, fin}
use Rattle.pairs.specs.Whole.{whole, odd, integerf, odd_integerf}
use Rattle.pairs.proofs.whole.Laws.{integerf-whole, odd-odd}
use Rattle.power.specs.Rules.{Exponent}

-- a finite number other than zero
at-exponent : (P : Float → Type 0) → ((s : Bool) (m : ℕ) (e : ℤ) → P (fin s (suc m) e)) → (y : Float) → Exponent y → P y
at-exponent P f nan E = absurd E
at-exponent P f (inf s) E = absurd E
at-exponent P f (fin s zero e) E = let h = E.1 in absurd (omega arith)
at-exponent P f (fin s (suc m) e) E = f s m e

pub tells-whole : (y : Float) → Exponent y → integerf y ≡ whole y
tells-whole = at-exponent (λ y. integerf y ≡ whole y) integerf-whole

pub tells-odd : (y : Float) → Exponent y → odd_integerf y ≡ odd y
tells-odd = at-exponent (λ y. odd_integerf y ≡ odd y) odd-odd
