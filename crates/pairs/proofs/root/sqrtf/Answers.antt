use Rattle.std.proofs.Common.{◌-◌, ◌*◌, ◌%◌, ◌^◌, ◌≤◌, ℕ, ◌∙◌, subst, rules, arith}
use Rattle.std.proofs.lemmas.Float.{not_nan_f32_bits}
use lib.Ieee.{binary32}
use lib.Ieee.Bits.{of_bits-to_bits}
use Rattle.pairs.specs.Root.{NearestRoot}
use Rattle.pairs.proofs.root.Values.{of_zero, of_negative, of-infinity, pattern-pos, radicand-in, shifted, root_in, root_is, pattern-is}
use Rattle.pairs.proofs.root.sqrtf.Goals as goal

pub returns-then-x : goal.returns-then-x
returns-then-x c = of_zero c.args.x (search rules) c.if-x.true

pub returns-then-not-x : goal.returns-then-not-x
returns-then-not-x c = of_negative c.args.x c.if-x.false c.if-not-x.true

pub returns-then-b-ge-INFINITY_F32 : goal.returns-then-b-ge-INFINITY_F32
returns-then-b-ge-INFINITY_F32 c = of-infinity c.args.x (search rules) c.if-not-x.false c.if-b-ge-INFINITY_F32.true

pub from_pattern-significand-requires-clause-positive : goal.from_pattern-significand-requires-clause-positive
from_pattern-significand-requires-clause-positive c = pattern-pos c.args.x (search rules) c.if-not-x.false

-- the radicand, which is not 0, and its root of 24 digits
pub nearest_root-root-requires : goal.nearest_root-root-requires
nearest_root-root-requires c = let p = c.from_pattern-significand in omega (arith, shifted _ _ p.result.exponent c.from.ensures p.ensures.from p.ensures.upto, radicand-in _ p.result.exponent p.ensures.from p.ensures.upto)

nearest-of : (c : goal.After-nearest_root-root) → NearestRoot (c.from_pattern-significand.result.significand * 2 ^ (24 - c.from_pattern-significand.result.exponent % 2)) c.nearest_root-root.result
nearest-of c =
    let p = c.from_pattern-significand in
    subst (λ (n : ℕ). NearestRoot n c.nearest_root-root.result) (shifted _ _ p.result.exponent c.from.ensures p.ensures.from p.ensures.upto) c.nearest_root-root.ensures

digits_of : (c : goal.After-nearest_root-root) → (2 ^ 23 ≤ c.nearest_root-root.result) × (c.nearest_root-root.result ≤ 2 ^ 24)
digits_of c = let p = c.from_pattern-significand in root_in _ p.result.exponent _ p.ensures.from p.ensures.upto (nearest-of c)

pub float_from_bits-result : goal.float_from_bits-result
float_from_bits-result c = not_nan_f32_bits _ (omega (arith, digits_of c))

pub returns : goal.returns
returns c =
    let p = c.from_pattern-significand in
    let q = c.nearest_root-root.result in
    pattern-is p.result.exponent q (digits_of c).0 (digits_of c).1 p.ensures.exponent
    ∙ root_is c.args.x p.result.significand p.result.exponent q (rw (of_bits-to_bits binary32 c.args.x (search rules)) at p.ensures.value) p.ensures.from p.ensures.upto (nearest-of c)
