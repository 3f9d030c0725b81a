-- The polynomials, over any arithmetic that multiplies and multiply-adds.
use Rattle.std.specs.Float.Ieee as Ieee
use Rattle.std.specs.Prelude.{ℕ, List, slice_index_or, Float}
use Rattle.std.specs.Float.{binary64}
use Rattle.pairs.specs.declared.double_double.DoubleDouble.{DoubleDouble}
use Rattle.pairs.specs.DoubleDouble.{plus_product}
use Rattle.power.specs.Backend.{Scalar, Products}

pub record Ops (A : Type 0) : Type 0 where
  pub times : A → A → A
  pub times_add : A → A → A → A

abbrev pub on_f64 : Scalar → Ops Float
on_f64 m = record { times = Ieee.mul binary64; times_add = m.fma }

abbrev pub on_pairs : Products → Ops DoubleDouble
on_pairs m = record { times = m.quick_mult; times_add = λ a b c. plus_product (m.quick_mult a b) c }

-- q (q (x a5 + a4) + (x a3 + a2)) + (x a1 + a0), with q = x x
unfoldable pub six : {A : Type 0} → Ops A → A → A → A → A → A → A → A → A
six o x a0 a1 a2 a3 a4 a5 =
    let q = o.times x x in
    o.times_add q (o.times_add q (o.times_add x a5 a4) (o.times_add x a3 a2)) (o.times_add x a1 a0)

-- x^8 (x a9 + a8) + (x^4 (x^2 (x a7 + a6) + (x a5 + a4)) + (x^2 (x a3 + a2) + (x a1 + a0)))
unfoldable pub ten : {A : Type 0} → Ops A → A → A → A → A → A → A → A → A → A → A → A → A
ten o x a0 a1 a2 a3 a4 a5 a6 a7 a8 a9 =
    let x2 = o.times x x in
    let x4 = o.times x2 x2 in
    let x8 = o.times x4 x4 in
    let q0 = o.times_add x2 (o.times_add x a3 a2) (o.times_add x a1 a0) in
    let q1 = o.times_add x2 (o.times_add x a7 a6) (o.times_add x a5 a4) in
    o.times_add x8 (o.times_add x a9 a8) (o.times_add x4 q1 q0)

-- over a list of coefficients, from the constant term up
abbrev pub six_of : {A : Type 0} → Ops A → A → List A → A
six_of {A} o x a = let at : ℕ → A = λ i. slice_index_or a i x in six o x (at 0) (at 1) (at 2) (at 3) (at 4) (at 5)

abbrev pub ten_of : {A : Type 0} → Ops A → A → List A → A
ten_of {A} o x a = let at : ℕ → A = λ i. slice_index_or a i x in ten o x (at 0) (at 1) (at 2) (at 3) (at 4) (at 5) (at 6) (at 7) (at 8) (at 9)
