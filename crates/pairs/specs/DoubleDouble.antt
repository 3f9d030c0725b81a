-- What the operations on pairs answer. Each operation on f64 rounds once.
use Rattle.std.specs.Prelude.{ℕ, Float}
use Rattle.std.specs.Float.Ieee as Ieee
use Rattle.std.specs.Float.{binary64}
use Rattle.std.specs.Float.Ieee.{neg}
use Rattle.pairs.specs.declared.double_double.DoubleDouble.{DoubleDouble}

abbrev pub plus : Float → Float → Float
plus = Ieee.add binary64

abbrev pub minus : Float → Float → Float
minus = Ieee.sub binary64

abbrev pub times : Float → Float → Float
times = Ieee.mul binary64

abbrev pub pair : Float → Float → DoubleDouble
pair lo hi = record { lo = lo; hi = hi }

abbrev pub from_bit_pair : ℕ → ℕ → DoubleDouble
from_bit_pair lo hi = pair (Ieee.of_bits binary64 lo) (Ieee.of_bits binary64 hi)

-- 2^27 + 1
abbrev pub splitter : Float
splitter = Ieee.of_bits binary64 0x41a0_0000_0200_0000

unfoldable pub split : Float → DoubleDouble
split a =
    let t1 = times splitter a in
    let hi = plus t1 (minus a t1) in
    pair (minus a hi) hi

unfoldable pub exact_add : Float → Float → DoubleDouble
exact_add a b =
    let hi = plus a b in
    pair (minus b (minus hi a)) hi

-- the sum and its remainder, whichever of a and b is larger
unfoldable pub full_exact_add : Float → Float → DoubleDouble
full_exact_add a b =
    let hi = plus a b in
    let bb = minus hi a in
    pair (plus (minus a (minus hi bb)) (minus b bb)) hi

unfoldable pub exact_mult : Float → Float → DoubleDouble
exact_mult a b =
    let s = split a in
    let t = split b in
    let hi = times a b in
    let t1 = minus (times s.hi t.hi) hi in
    let t2 = plus (times s.hi t.lo) t1 in
    let t3 = plus (times s.lo t.hi) t2 in
    pair (plus (times s.lo t.lo) t3) hi

unfoldable pub add : DoubleDouble → DoubleDouble → DoubleDouble
add a b =
    let s = plus a.hi b.hi in
    let d = minus s a.hi in
    pair (plus (plus (minus b.hi d) (plus a.hi (minus d s))) (plus a.lo b.lo)) s

unfoldable pub add_f64 : DoubleDouble → Float → DoubleDouble
add_f64 a b =
    let t = exact_add a.hi b in
    pair (plus a.lo t.lo) t.hi

unfoldable pub quick_mult : DoubleDouble → DoubleDouble → DoubleDouble
quick_mult a b =
    let c = exact_mult a.hi b.hi in
    pair (plus c.lo (plus (times a.hi b.lo) (times a.lo b.hi))) c.hi

unfoldable pub quick_mult_f64 : DoubleDouble → Float → DoubleDouble
quick_mult_f64 a b =
    let c = exact_mult a.hi b in
    pair (plus c.lo (times a.lo b)) c.hi

-- c plus a product that is given as a pair
unfoldable pub plus_product : DoubleDouble → DoubleDouble → DoubleDouble
plus_product h c =
    let p = add_f64 c h.hi in
    pair (plus h.lo p.lo) p.hi

-- ---- the same by a fused multiply-add

abbrev pub Fused : Type 0
Fused = Float → Float → Float → Float

unfoldable pub exact_mult_fma : Fused → Float → Float → DoubleDouble
exact_mult_fma fma a b =
    let hi = times a b in
    pair (fma a b (neg hi)) hi

unfoldable pub quick_mult_fma : Fused → DoubleDouble → DoubleDouble → DoubleDouble
quick_mult_fma fma a b =
    let r = exact_mult_fma fma a.hi b.hi in
    pair (fma a.lo b.hi (fma a.hi b.lo r.lo)) r.hi

unfoldable pub quick_mult_f64_fma : Fused → DoubleDouble → Float → DoubleDouble
quick_mult_f64_fma fma a b =
    let h = times b a.hi in
    pair (fma b a.lo (fma b a.hi (neg h))) h
