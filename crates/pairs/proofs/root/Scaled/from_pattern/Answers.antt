use Rattle.std.proofs.Common.{refl, arith}
use Rattle.pairs.proofs.root.Values.{leading-in, subnormal, normal}
use Rattle.pairs.proofs.root.Scaled.from_pattern.Goals as goal

pub overflow_sub-shift : goal.overflow_sub-shift
overflow_sub-shift c = omega (arith, leading-in c.args.b c.requires.positive c.if-b-lt-FIELD_ONE_F32.true)

pub returns-then-b-lt-FIELD_ONE_F32 : goal.returns-then-b-lt-FIELD_ONE_F32
returns-then-b-lt-FIELD_ONE_F32 c = subnormal c.args.b _ c.requires.positive c.if-b-lt-FIELD_ONE_F32.true refl

pub returns-else-b-lt-FIELD_ONE_F32 : goal.returns-else-b-lt-FIELD_ONE_F32
returns-else-b-lt-FIELD_ONE_F32 c = normal c.args.b c.if-b-lt-FIELD_ONE_F32.false c.requires.finite
