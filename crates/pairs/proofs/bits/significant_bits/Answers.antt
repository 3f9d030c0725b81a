use Rattle.std.proofs.Common.{ℕ, rules, sym, ◌∙◌, subst, inl, inr, arith}
use Rattle.pairs.specs.Bits.{significant_bits}
use Rattle.pairs.proofs.bits.Laws.{Counts, says, hidden}
use Rattle.pairs.proofs.bits.significant_bits.Goals as goal
use Rattle.pairs.proofs.bits.significant_bits.Goals.{then-x_abs-lt-FIELD_ONE_F32, else-x_abs-lt-FIELD_ONE_F32}

pub returns-then-x_abs-eq0 : goal.returns-then-x_abs-eq0
returns-then-x_abs-eq0 c =
    let h = says c.args.x _ (search rules) c.f32_to_bits_with_nan-x_abs.ensures in
    h.none (elim c.then-x_abs-eq0.either [ inl z ↦ inl z | inr l ↦ inr l.1 ])

counts : (c : goal.Joined-x_abs-lt-FIELD_ONE_F32) → Counts c.if-x_abs-lt-FIELD_ONE_F32.digits (significant_bits c.args.x)
counts c =
    let h = says c.args.x _ (search rules) c.f32_to_bits_with_nan-x_abs.ensures in
    let n = significant_bits c.args.x in
    elim c.if-x_abs-lt-FIELD_ONE_F32.branch [
      | then-x_abs-lt-FIELD_ONE_F32 w ↦ subst (λ (d : ℕ). Counts d n) (sym w.digits-is) (h.subnormal (omega arith) (omega arith))
      | else-x_abs-lt-FIELD_ONE_F32 w ↦ subst (λ (d : ℕ). Counts d n) (sym (w.digits-is ∙ hidden _)) (h.normal (omega arith) (omega arith))
    ]

pub overflow_sub-result-2 : goal.overflow_sub-result-2
overflow_sub-result-2 c = (counts c).0

pub returns : goal.returns
returns c = (counts c).1
