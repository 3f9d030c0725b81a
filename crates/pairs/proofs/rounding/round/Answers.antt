use Rattle.std.proofs.Common.{rules, ◌∙◌, arith}
use Rattle.pairs.proofs.rounding.Laws.{kept, to-zero, to_one, between}
use Rattle.pairs.proofs.rounding.round.Goals as goal

pub returns-in-0-to-1021 : goal.returns-in-0-to-1021
returns-in-0-to-1021 c =
    c.f64_from_bits_with_nan-in-0-to-1021.ensures
    ∙ to-zero c.args.x _ c.field_f64.result (search rules) c.f64_to_bits_with_nan-bits.ensures c.f64_to_bits_with_nan-bits.type_inv c.field_f64.ensures (omega arith)

pub returns-in-1022 : goal.returns-in-1022
returns-in-1022 c =
    c.f64_from_bits_with_nan.ensures
    ∙ to_one c.args.x _ c.field_f64.result (search rules) c.f64_to_bits_with_nan-bits.ensures c.f64_to_bits_with_nan-bits.type_inv c.field_f64.ensures c.in-1022.is

pub returns-in-1023-to-1074 : goal.returns-in-1023-to-1074
returns-in-1023-to-1074 c =
    c.f64_from_bits_with_nan-in-1023-to-1074.ensures
    ∙ between c.args.x _ c.field_f64.result (search rules) c.f64_to_bits_with_nan-bits.ensures c.f64_to_bits_with_nan-bits.type_inv c.field_f64.ensures (omega arith) (omega arith)

pub returns-in_default : goal.returns-in_default
returns-in_default c = kept c.args.x c.f64_to_bits_with_nan-bits.result c.field_f64.result (search rules) c.f64_to_bits_with_nan-bits.ensures c.f64_to_bits_with_nan-bits.type_inv c.field_f64.ensures (omega arith)
