use Rattle.std.proofs.Common.{◌≡◌, true, false, refl, ◌∙◌}
use lib.Ieee.{Float, nan, inf, fin, of_bits, neg, lt}
use Rattle.std.specs.Float.{float_clamp}
use Rattle.power.specs.Lookup.{f64}
use Rattle.power.specs.Fast.{clamped}
use Rattle.power.proofs.fast.clamped.Goals as goal

-- the ends are apart, so the order of the two tests is free
clamp-is : (h : Float) → float_clamp h (neg (f64 0x40e0_0000_0000_0000)) (f64 0x40e0_0000_0000_0000) ≡ clamped h
unfolding lt neg of_bits
clamp-is nan = refl
clamp-is (inf true) = refl
clamp-is (inf false) = refl
clamp-is (fin true m e) = refl
clamp-is (fin false m e) = refl

pub returns : goal.returns
unfolding neg of_bits
returns c = c.clamp.ensures.value ∙ clamp-is c.args.h
