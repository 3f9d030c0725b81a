-- The split of an f64 into two halves of 26 digits is exact, for values that are zero or from 2^-400 to 2^400 in size.
use Rattle.std.proofs.Common.{rules, ◌≡◌, ℕ, ◌+◌, ◌*◌, ◌^◌, ◌<◌, ◌≤◌, Bool, true, false, T, ℤ, pos, negsuc, ◌+ℤ◌, ◌-ℤ◌, ◌*ℤ◌, neg_ℤ, nat_abs, sym, refl, ap, ◌∙◌, subst, inl, inr, add_comm, eq-or-lt_of_le, lt_of_not-le, arith}
use native.Mathlib.Decide.{dec_le}
use borrow.Author.Differences.{ints}
use lib.Ieee.{Float, binary64, of_bits, fits}
use Rattle.pairs.specs.Value.{signed, Value, Middle, Moderate, Halves, Halved}
use Rattle.pairs.specs.DoubleDouble.{plus, minus, times, splitter, split}
use Rattle.pairs.proofs.Integers.{Abs, abs-out, abs-in, is_neg, distr, rejoin, times-one, Multiple, scale-add}
use Rattle.pairs.proofs.Nearest.{Close, digits-zero}
use Rattle.pairs.proofs.Units.{value-unique, add-zeros, sub-zeros, times_zero}
use Rattle.pairs.proofs.Scaled.{Scaled, Rounded, Result, sub-scaled, mul-scaled, add-exact, sub-exact, Normal, normal}

-- |M| has 53 digits
abbrev pub Full : ℤ → Type 0
Full M = (2 ^ 52 ≤ nat_abs M) × (nat_abs M < 2 ^ 53)

-- ---- the integers: t1 is r, the product of 2^27 + 1 and M rounded

-- the product is at most 2^81
product-below : (M : ℤ) → Full M → Abs (pos 134217729 *ℤ M) (2 ^ 81)
product-below M h = grind arith

-- and at least 2^79
product-above : (M : ℤ) → Full M → 2 ^ 80 ≤ nat_abs (pos 134217729 *ℤ M) * 2
product-above M h = grind arith

-- M - r has its last place at 2^27, where the product is above 2^80
rest-large : (M r : ℤ) → Full M → 2 ^ 80 < nat_abs (pos 134217729 *ℤ M) → Close r (pos 134217729 *ℤ M) (2 ^ 28) → Abs (M -ℤ r) (2 ^ 80) × (2 ^ 80 ≤ nat_abs (M -ℤ r) * 2)
rest-large M r h l c = omega (arith, ints)

-- where it is not
rest-small : (M r : ℤ) → 2 ^ 52 < nat_abs M → nat_abs M < 2 ^ 53 → Close r (pos 134217729 *ℤ M) (2 ^ 27) → Abs (M -ℤ r) (2 ^ 80) × (2 ^ 80 ≤ nat_abs (M -ℤ r) * 2)
rest-small M r h h' c = omega (arith, ints)

-- at the least M
rest-least : (M r : ℤ) → 2 ^ 52 ≡ nat_abs M → r ≡ pos 134217729 *ℤ M → Abs (M -ℤ r) (2 ^ 80) × (2 ^ 80 ≤ nat_abs (M -ℤ r) * 2)
rest-least M r h c = omega (arith, ints)

-- so always
rest-range : (M r : ℤ) → Full M → Rounded 53 (pos 134217729 *ℤ M) r → Abs (M -ℤ r) (2 ^ 80) × (2 ^ 80 ≤ nat_abs (M -ℤ r) * 2)
unfolding is_neg
rest-range M r h R =
    let Z = pos 134217729 *ℤ M in
    elim (dec_le (nat_abs Z) (2 ^ 80)) [
      | no l ↦ rest-large M r h (lt_of_not-le l) (R.error 28 (product-below M h))
      | yes l ↦ elim (eq-or-lt_of_le h.0) [
        | inl e ↦ rest-least M r e (R.exact (signed (is_neg M) 134217729) 52 (least M e) (short (is_neg M)))
        | inr m ↦ rest-small M r m h.1 (R.error 27 (abs-in Z (2 ^ 80) l))
      ]
    ]
  where
    least : (M : ℤ) → 2 ^ 52 ≡ nat_abs M → pos 134217729 *ℤ M ≡ signed (is_neg M) 134217729 *ℤ pos (2 ^ 52)
    least (pos n) e = ap (λ (k : ℕ). pos (134217729 * k)) (sym e)
    least (negsuc n) e = ap (λ (k : ℕ). neg_ℤ (pos (134217729 * k))) (sym e)

    short : (s : Bool) → Abs (signed s 134217729) (2 ^ 53)
    short false = omega arith
    short true = omega arith

-- r1 + r2, the high half, is near M
high-near : (M r1 r2 : ℤ) → Close r2 (M -ℤ r1) (2 ^ 27) → Close (r1 +ℤ r2) M (2 ^ 27)
high-near M r1 r2 c = omega (arith, ints)

-- it is a multiple of 2^27
high-multiple : (r1 r2 q1 q2 : ℤ) → r1 ≡ q1 *ℤ pos (2 ^ 27) → r2 ≡ q2 *ℤ pos (2 ^ 27) → r1 +ℤ r2 ≡ (q1 +ℤ q2) *ℤ pos (2 ^ 27)
high-multiple r1 r2 q1 q2 e f = omega (arith, ints)

-- so 26 digits hold it
high-short : (M q : ℤ) → nat_abs M < 2 ^ 53 → Close (q *ℤ pos (2 ^ 27)) M (2 ^ 27) → Abs q (2 ^ 26)
high-short M q h c = omega (arith, ints)

-- and 26 digits hold what is left
low-short : (M H : ℤ) → Close H M (2 ^ 27) → Abs (M -ℤ H) (2 ^ 26)
low-short M H c = omega (arith, ints)

-- ---- the split at a scale

-- 2^27 + 1 is a value
splitter-value : Scaled binary64 splitter (pos 134217729) 1074
unfolding of_bits
splitter-value = grind arith

-- M is A 2^27 + L, and x and y are the two parts at the scale i
pub record HalvesAt (M : ℤ) (i : ℕ) (x y : Float) : Type 0 where
  pub A : ℤ
  pub L : ℤ
  pub whole : A *ℤ pos (2 ^ 27) +ℤ L ≡ M
  pub high_is : Scaled binary64 x (A *ℤ pos (2 ^ 27)) i
  pub low-is : Scaled binary64 y L i
  pub A-short : Abs A (2 ^ 26)
  pub L-short : Abs L (2 ^ 26)

-- from t1, which is r1, and t2, which is M - r1 rounded
halves-at : (a t1 t2 : Float) (M r1 r2 : ℤ) (i : ℕ) → Full M → i < 2000 → Scaled binary64 a M i → Scaled binary64 t1 r1 i → Scaled binary64 t2 r2 i → Multiple r1 27 → Multiple r2 27 → Close r2 (M -ℤ r1) (2 ^ 27) → HalvesAt M i (plus t1 t2) (minus a (plus t1 t2))
halves-at a t1 t2 M r1 r2 i h b v v1 v2 m1 m2 near =
    let q = m1.0 +ℤ m2.0 in
    let H = q *ℤ pos (2 ^ 27) in
    let e : r1 +ℤ r2 ≡ H = high-multiple r1 r2 m1.0 m2.0 m1.1 m2.1 in
    let c : Close H M (2 ^ 27) = subst (λ (z : ℤ). Close z M (2 ^ 27)) e (high-near M r1 r2 near) in
    let s : Abs q (2 ^ 26) = high-short M q h.1 c in
    let hi : Scaled binary64 (plus t1 t2) H i = subst (λ (z : ℤ). Scaled binary64 (plus t1 t2) z i) e (add-exact binary64 t1 t2 r1 r2 q 27 i v1 v2 e (omega arith) (omega arith)) in
    let t : Abs (M -ℤ H) (2 ^ 26) = low-short M H c in
    record {
      A = q;
      L = M -ℤ H;
      whole = rejoin M H;
      high_is = hi;
      low-is = sub-exact binary64 a (plus t1 t2) M H (M -ℤ H) 0 i v hi (times-one (M -ℤ H)) (omega arith) (omega arith);
      A-short = s;
      L-short = t;
    }

-- the split of a value that is M, of 53 digits, at the scale i
pub split_at : (a : Float) (M : ℤ) (i : ℕ) → Scaled binary64 a M i → Full M → i < 2000 → HalvesAt M i (split a).hi (split a).lo
unfolding split
split_at a M i v h b =
    let t1 = times splitter a in
    let t2 = minus a t1 in
    let R1 : Result binary64 t1 (pos 134217729 *ℤ M) i = mul-scaled binary64 splitter a (pos 134217729) M 1074 i i 28 splitter-value v (add_comm 1074 i) (product-below M h) (omega arith) in
    let r1 = R1.r in
    let m1 : Multiple r1 27 = R1.rounded.multiple 27 (product-above M h) in
    let z2 = rest-range M r1 h R1.rounded in
    let R2 : Result binary64 t2 (M -ℤ r1) i = sub-scaled binary64 a t1 M r1 i 27 v R1.at z2.0 (omega arith) in
    halves-at a t1 t2 M r1 R2.r i h b v R1.at R2.at m1 (R2.rounded.multiple 27 z2.1) (R2.rounded.error 27 z2.0)

-- ---- in units

-- the halves of a zero are zeros
pub split-zero : (a : Float) → Value binary64 a (pos 0) → Value binary64 (split a).hi (pos 0) × Value binary64 (split a).lo (pos 0)
unfolding split
split-zero a v = search (rules, times_zero, splitter-value, sub-zeros, add-zeros)

-- a moderate value that is not 0, at its scale
abbrev pub Normal53 : ℤ → Type 0
Normal53 z = Normal 52 z 674 1474

-- its significand and scale
pub normal53 : (a : Float) (z : ℤ) → T (fits binary64 a) → Value binary64 a z → (2 ^ 674 ≤ nat_abs z) × (nat_abs z ≤ 2 ^ 1474) → Normal53 z
normal53 a z t v h = normal binary64 52 a z 674 1474 refl t v (omega arith) h.0 h.1

-- the scale is below 2000
pub scale_small : (i : ℕ) → 52 + i ≤ 1474 → i < 2000
scale_small i h = omega arith

-- the halves in units
pub split-halves : (a : Float) (X : ℤ) → T (fits binary64 a) → Value binary64 a X → Middle X → Halves X (split a).hi (split a).lo
split-halves a X t v (inl e) =
    let z = split-zero a (subst (Value binary64 a) e v) in
    record { H = pos 0; L = pos 0; h_is = z.0; l_is = z.1; exact = sym e; h_short = digits-zero 26 (pos 0) refl; l_short = digits-zero 26 (pos 0) refl }
split-halves a X t v (inr h) =
    let n = normal53 a X t v h in
    let i = n.i in
    let s = split_at a n.M i (subst (Value binary64 a) n.is v) (n.least, n.most) (scale_small i n.below) in
    let A = s.A *ℤ pos (2 ^ 27) in
    record {
      H = A *ℤ pos (2 ^ i);
      L = s.L *ℤ pos (2 ^ i);
      h_is = s.high_is;
      l_is = s.low-is;
      exact = sym (distr A s.L (pos (2 ^ i))) ∙ ap (λ (z : ℤ). z *ℤ pos (2 ^ i)) s.whole ∙ sym n.is;
      h_short = record { k = s.A; t = 27 + i; is = sym (scale-add s.A 27 i); small = abs-out s.A (2 ^ 26) s.A-short };
      l_short = record { k = s.L; t = i; is = refl; small = abs-out s.L (2 ^ 26) s.L-short };
    }

-- a moderate value is moderate in whatever units it is given
pub middle : (a : Float) (X : ℤ) → Moderate a → Value binary64 a X → Middle X
middle a X m v = subst Middle (value-unique binary64 a m.units X m.is v) m.range

-- the contract of `split`
pub halved : (a : Float) → T (fits binary64 a) → Moderate a → Halved a (split a).hi (split a).lo
halved a t m X v = split-halves a X t v (middle a X m v)
