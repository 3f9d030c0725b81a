-- What the fast path works with at a power of two whose exponent product is whole: nothing is left beyond the count.
use Rattle.std.proofs.Common.{◌≡◌, ℕ}
use Rattle.power.specs.Rules.{Within}
use Rattle.power.specs.declared.fast.Doubt.{Doubt}
use Rattle.power.specs.Lemmas.Alike.{IsZero}

-- 64 y log2 x is n - 2^16, and nothing is left of it
pub record NoRest (n : ℕ) (d : Doubt) : Type 0 where
  pub index : d.reduced.index ≡ 0
  pub dx : IsZero d.reduced.dx
  pub y6 : Within 400 d.y6
  pub high : IsZero d.high
  pub count : d.count ≡ n
