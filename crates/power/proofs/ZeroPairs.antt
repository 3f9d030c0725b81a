-- Pairs of zeros: their sums, and what is added to them. Assumes nothing.
use Rattle.std.proofs.Common.{Bool, true, false, cond, sym, ap, inl, inr}
use lib.Ieee.{Float, neg, sub}
use Rattle.pairs.specs.declared.double_double.DoubleDouble.{DoubleDouble}
use Rattle.pairs.specs.DoubleDouble as Pairs
use Rattle.power.specs.Rules.{Number, Zero, WithinPair, ZeroPair, AlikePair}
use Rattle.power.specs.Fallback.{larger_exponent, ordered_add}
use Rattle.power.specs.Lemmas.Unique.{alike-trans}
use Rattle.power.specs.Lemmas.Alike.{IsZero, Same, zero-within, same-trans, same-within}
use Rattle.power.specs.Lemmas.Zeros.{plus, minus, add-zeros, sub-zeros, neg-zero, zero-plus, plus-zero, cancels}

-- p is c but for the signs of zeros, and within the rules' range
abbrev pub Stays : DoubleDouble → DoubleDouble → Type 0
Stays p c = WithinPair p × AlikePair p c

pub zeros_within : (p : DoubleDouble) → ZeroPair p → WithinPair p
zeros_within p Z = (zero-within 400 p.lo Z.0, zero-within 400 p.hi Z.1)

pub stays-trans : (p q c : DoubleDouble) → Stays p q → Stays q c → Stays p c
stays-trans p q c P Q = (P.0, (alike-trans p.lo q.lo c.lo P.1.0 Q.1.0, alike-trans p.hi q.hi c.hi P.1.1 Q.1.1))

-- the difference of what is alike
sub_alike : (x y : Float) → Same x y → IsZero (minus x y)
unfolding sub
sub_alike x y (N, inl e) = cancels x (neg y) N (inl (ap neg (sym e)))
sub_alike x y (N, inr Z) = cancels x (neg y) N (inr (neg-zero y Z.1, neg-zero x Z.0))

-- ---- sums of pairs

-- a + 0, for a number a
pub record Kept (a : Float) (p : DoubleDouble) : Type 0 where
  pub low : IsZero p.lo
  pub high : Same p.hi a

pub exact-add-zero : (a z : Float) → Number a → Zero z → Kept a (Pairs.exact_add a z)
unfolding Pairs.exact_add
exact-add-zero a z N Z =
    let hi = plus a z in
    let h = plus-zero a z N Z in
    record { low = sub-zeros z (minus hi a) Z (sub_alike hi a h).1; high = h }

-- c plus a zero pair
pub plus-product-zero : (h c : DoubleDouble) → ZeroPair h → WithinPair c → Stays (Pairs.plus_product h c) c
unfolding Pairs.plus_product Pairs.add_f64
plus-product-zero h c Z W =
    let t = Pairs.exact_add c.hi h.hi in
    let T = exact-add-zero c.hi h.hi W.1.0 Z.1.1 in
    let i = plus c.lo t.lo in
    let inner = plus-zero c.lo t.lo W.0.0 T.low.1 in
    let low = same-trans (plus h.lo i) i c.lo (zero-plus h.lo i Z.0.1 inner.0) inner in
    ((same-within 400 (plus h.lo i) c.lo low W.0, same-within 400 t.hi c.hi T.high W.1), (low.1, T.high.1))

-- the sum of zero pairs
add-zero-pairs : (a b : DoubleDouble) → ZeroPair a → ZeroPair b → ZeroPair (Pairs.add a b)
unfolding Pairs.add
add-zero-pairs a b A B =
    let s = plus a.hi b.hi in
    let S = add-zeros a.hi b.hi A.1.1 B.1.1 in
    let d = minus s a.hi in
    let D = sub-zeros s a.hi S.1 A.1.1 in
    let first = sub-zeros b.hi d B.1.1 D.1 in
    let second = add-zeros a.hi (minus d s) A.1.1 (sub-zeros d s D.1 S.1).1 in
    let high = add-zeros (minus b.hi d) (plus a.hi (minus d s)) first.1 second.1 in
    let low = add-zeros a.lo b.lo A.0.1 B.0.1 in
    (add-zeros (plus (minus b.hi d) (plus a.hi (minus d s))) (plus a.lo b.lo) high.1 low.1, S)

-- in either order
pub ordered-zeros : (a b : DoubleDouble) → ZeroPair a → ZeroPair b → ZeroPair (ordered_add a b)
ordered-zeros a b A B = go (larger_exponent a.hi b.hi)
  where
    go : (q : Bool) → ZeroPair (cond q (Pairs.add a b) (Pairs.add b a))
    go true = add-zero-pairs a b A B
    go false = add-zero-pairs b a B A
