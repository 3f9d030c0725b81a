-- A product and a sum of values with one rounding: the product and two sums with their remainders, and the sum of the remainders rounded to odd.
use Rattle.std.proofs.Common.{rules, ◌≡◌, ℕ, suc, ◌+◌, ◌^◌, ◌≤◌, Bool, true, false, cond, not, ◌||◌, T, ℤ, pos, ◌+ℤ◌, ◌-ℤ◌, ◌*ℤ◌, nat_abs, sym, refl, ap, ◌∙◌, subst, inl, inr, true≢false, le_trans, le_of_eq, le_of_lt, mul-le-mul, le_of_mul-le-mul_right, arith, pow_pos, pow_mono, pow-add}
use borrow.Author.Differences.{ints}
use lib.Ieee.{Float, binary64, eq, fits}
use Rattle.std.specs.Float.{float_is_finite}
use Rattle.pairs.specs.Value.{Value, roundℤ, Middle, Moderate, Bounded, Exactly, UnitsOfProduct}
use Rattle.pairs.specs.DoubleDouble.{plus, times, exact_mult, full_exact_add}
use Rattle.pairs.specs.Fused as Fused
use Rattle.pairs.specs.Fused.{add_odd, fused_parts, fused_sum, Odd, UnitsOfSum, ExactFused}
use Rattle.pairs.proofs.Powers.{double-next}
use Rattle.pairs.proofs.Integers.{nat_abs_mul, distr, mul-cancel, sum-le, rest_le}
use Rattle.pairs.proofs.Nearest.{round-below, digits-stay}
use Rattle.pairs.proofs.Units.{value-digits, value-finite, InRange, in-range, add-value}
use Rattle.pairs.proofs.Halving.{middle}
use Rattle.pairs.proofs.Products.{product-fits, product_high, exact-mult}
use Rattle.pairs.proofs.Sums.{bounded, full-add-fits, full-exact-add}
use Rattle.pairs.proofs.OneRounding.{rounded-once}
use Rattle.pairs.proofs.OddSums.{eq-zero, add-odd}

-- ---- the sizes of the parts

-- a moderate number is at most 2^1474 units
middle-small : (z : ℤ) → Middle z → nat_abs z ≤ 2 ^ 1474
middle-small z (inl e) = le_trans (le_of_eq (ap nat_abs e)) (le_of_lt (pow_pos 1474))
middle-small z (inr h) = h.1

-- the parts of n units rounded
record Small (h l : Float) (z : ℤ) (e : Exactly z h l) (n : ℕ) : Type 0 where
  upper : nat_abs e.H ≤ 2 ^ (53 + n)
  lower : nat_abs e.L ≤ 2 ^ (53 + suc n)

-- a bound on z bounds its two parts
small : (n : ℕ) (h l : Float) (z : ℤ) (e : Exactly z h l) → nat_abs z ≤ 2 ^ (53 + n) → Small h l z e n
small n h l z e b =
    let k : nat_abs e.H ≤ 2 ^ (53 + n) = grind (arith, round-below) in
    record { upper = k; lower = le_trans (rest_le e.H e.L z (2 ^ (53 + n)) e.exact b k) (le_of_eq (sym (double-next 53 n))) }

-- a product of moderate numbers is at most 2^1874 units
product_small : (X Y W : ℤ) → nat_abs X ≤ 2 ^ 1474 → nat_abs Y ≤ 2 ^ 1474 → UnitsOfProduct X Y W → nat_abs W ≤ 2 ^ 1874
product_small X Y W a b e = grind (arith, nat_abs_mul, le_of_mul-le-mul_right, mul-le-mul, pow-add, pow_pos)

-- a sum is at most twice the bound on its terms
sum-small : (n : ℕ) (x y : ℤ) → nat_abs x ≤ 2 ^ (53 + n) → nat_abs y ≤ 2 ^ (53 + n) → nat_abs (x +ℤ y) ≤ 2 ^ (53 + suc n)
sum-small n x y h k = grind (arith, sum-le, double-next)

-- a larger exponent
grow : (n q r : ℕ) → q ≤ r → n ≤ 2 ^ q → n ≤ 2 ^ r
grow n q r h k = le_trans k (pow_mono h)

-- a bounded value from its units
bounded-by : (q r : ℕ) (x : Float) (z : ℤ) → Value binary64 x z → q ≤ r → nat_abs z ≤ 2 ^ q → Bounded r x
bounded-by q r x z v h k = search (rules, grow)

-- ---- values

-- a b is W units, in two parts, and c is Z units
module _ (a b c : Float) (Z W : ℤ) (tc : T (fits binary64 c)) (vc : Value binary64 c Z) (E : Exactly W (exact_mult a b).hi (exact_mult a b).lo) (bw : nat_abs W ≤ 2 ^ 1874) (bz : nat_abs Z ≤ 2 ^ 2000) where
  -- the two parts of the product, and their sizes
  abbrev uh : Float
  uh = (exact_mult a b).hi

  abbrev ul : Float
  ul = (exact_mult a b).lo

  su : Small uh ul W E 1821
  su = small 1821 uh ul W E bw

  high_small : nat_abs E.H ≤ 2 ^ 2000
  high_small = grind (arith, grow, su)

  low_small : nat_abs E.L ≤ 2 ^ 2000
  low_small = grind (arith, grow, su)

  -- the plain sum
  plain_value : Value binary64 (plus (times a b) c) (roundℤ 53 (E.H +ℤ Z))
  plain_value = add-value binary64 (times a b) c E.H Z (subst (λ (x : Float). Value binary64 x E.H) (product_high a b) E.h_is) vc (in-range binary64 (E.H +ℤ Z) 1948 (sum-small 1947 E.H Z high_small bz) (omega arith))

  -- a product that is rounded to 0 is 0
  product-none : E.H ≡ pos 0 → W ≡ E.H
  product-none e =
      let w : W ≡ E.L = alone E.H E.L W E.exact e in
      sym (E.nearest ∙ ap (roundℤ 53) w ∙ digits-stay 53 E.L (omega arith) (value-digits binary64 ul E.L (product-fits a b).1 E.l_is) ∙ sym w)
    where
      alone : (h l w : ℤ) → h +ℤ l ≡ w → h ≡ pos 0 → w ≡ l
      alone h l w e f = omega (arith, ints)

  -- the last sum, from the contracts of the others
  last_sum : (th tl vh vl x : Float) (t : Exactly (Z +ℤ E.L) th tl) (v : Exactly (E.H +ℤ t.H) vh vl) → Odd (t.L +ℤ v.L) x → Value binary64 (plus vh x) (roundℤ 53 (W +ℤ Z))
  last_sum th tl vh vl x t v o =
      let same : roundℤ 53 (v.H +ℤ o.units) ≡ roundℤ 53 (W +ℤ Z) =
      rounded-once 53 (omega arith) E.H E.L Z (value-digits binary64 uh E.H (product-fits a b).0 E.h_is) (value-digits binary64 ul E.L (product-fits a b).1 E.l_is) (value-digits binary64 c Z tc vc)
      t.H v.H (t.L +ℤ v.L) o.units t.nearest v.nearest (lost Z E.L t.H t.L E.H v.H v.L t.exact v.exact) o.odd
      ∙ ap (λ (z : ℤ). roundℤ 53 (z +ℤ Z)) E.exact in
      let wide : nat_abs (W +ℤ Z) ≤ 2 ^ 2001 = sum-small 1947 W Z (grow (nat_abs W) 1874 2000 (omega arith) bw) bz in
      subst (Value binary64 (plus vh x)) same (add-value binary64 vh x v.H o.units v.h_is o.is (subst (λ (z : ℤ). InRange binary64 z) (sym same) (in-range binary64 (W +ℤ Z) 1948 wide (omega arith))))
    where
      lost : (Z L S E H S' E' : ℤ) → S +ℤ E ≡ Z +ℤ L → S' +ℤ E' ≡ H +ℤ S → E +ℤ E' ≡ Z +ℤ L -ℤ S +ℤ (H +ℤ S -ℤ S')
      lost Z L S E H S' E' a b = omega (arith, ints)

  -- the exact parts, added up
  parts-value : Value binary64 (fused_parts a b c) (roundℤ 53 (W +ℤ Z))
  unfolding fused_parts
  parts-value =
      let H = E.H in
      let L = E.L in
      let fl = product-fits a b in
      let t = full-exact-add c ul tc fl.1 (bounded-by 2000 2090 c Z vc (omega arith) bz) (bounded-by 2000 2090 ul L E.l_is (omega arith) low_small) Z L vc E.l_is in
      let th = (full_exact_add c ul).hi in
      let tl = (full_exact_add c ul).lo in
      let ft = full-add-fits c ul in
      let st = small 1948 th tl (Z +ℤ L) t (sum-small 1947 Z L bz low_small) in
      let v = full-exact-add uh th fl.0 ft.0 (bounded-by 2000 2090 uh H E.h_is (omega arith) high_small) (bounded-by 2001 2090 th t.H t.h_is (omega arith) st.upper) H t.H E.h_is t.h_is in
      let vh = (full_exact_add uh th).hi in
      let vl = (full_exact_add uh th).lo in
      let fv = full-add-fits uh th in
      let sv = small 1949 vh vl (H +ℤ t.H) v (sum-small 1948 H t.H (grow (nat_abs H) 2000 2001 (omega arith) high_small) st.upper) in
      last_sum th tl vh vl (add_odd tl vl) t v
      (add-odd tl vl ft.1 fv.1 (bounded-by 2002 2080 tl t.L t.l_is (omega arith) st.lower) (bounded-by 2003 2080 vl v.L v.l_is (omega arith) sv.lower) t.L v.L t.l_is v.l_is)

  -- both ways of the code
  sum-value : Value binary64 (fused_sum a b c) (roundℤ 53 (W +ℤ Z))
  unfolding fused_sum
  sum-value = go (eq (times a b) Fused.zero) (float_is_finite (plus (times a b) c)) refl (value-finite binary64 (plus (times a b) c) (roundℤ 53 (E.H +ℤ Z)) plain_value)
    where
      go : (p q : Bool) → eq (times a b) Fused.zero ≡ p → q ≡ true → Value binary64 (cond (p || not q) (plus (times a b) c) (fused_parts a b c)) (roundℤ 53 (W +ℤ Z))
      go true q e f = subst (λ (z : ℤ). Value binary64 (plus (times a b) c) (roundℤ 53 (z +ℤ Z))) (sym (product-none (eq-zero (times a b) E.H (subst (λ (x : Float). Value binary64 x E.H) (product_high a b) E.h_is) e))) plain_value
      go false true e f = parts-value
      go false false e f = absurd (true≢false (sym f))

-- the result is a b + c rounded once, for whatever a, b and c are in units
pub fused-once : (a b c : Float) → T (fits binary64 a) → T (fits binary64 b) → T (fits binary64 c) → Moderate a → Moderate b → Bounded 2000 c
    → (X Y Z S : ℤ) → Value binary64 a X → Value binary64 b Y → Value binary64 c Z → UnitsOfSum X Y Z S → Value binary64 (fused_sum a b c) (roundℤ 53 S)
fused-once a b c ta tb tc ma mb bc X Y Z S va vb vc e =
    let p = exact-mult a b ta tb ma mb X Y va vb in
    let W = p.0 in
    let s : W +ℤ Z ≡ S = mul-cancel (W +ℤ Z) S (2 ^ 1074) (pow_pos 1074) (distr W Z (pos (2 ^ 1074)) ∙ ap (λ (z : ℤ). z +ℤ Z *ℤ pos (2 ^ 1074)) p.1 ∙ sym e) in
    subst (λ (z : ℤ). Value binary64 (fused_sum a b c) (roundℤ 53 z)) s
    (sum-value a b c Z W tc vc p.2 (product_small X Y W (middle-small X (middle a X ma va)) (middle-small Y (middle b Y mb vb)) p.1) (bounded 2000 c Z bc vc))

-- the contract of `fused_sum`
pub exact-fused : (a b c : Float) → T (fits binary64 a) → T (fits binary64 b) → T (fits binary64 c) → Moderate a → Moderate b → Bounded 2000 c → ExactFused a b c (fused_sum a b c)
exact-fused a b c ta tb tc ma mb bc X Y Z S va vb vc e d = subst (Value binary64 (fused_sum a b c)) (digits-stay 53 S (omega arith) d) (fused-once a b c ta tb tc ma mb bc X Y Z S va vb vc e)
