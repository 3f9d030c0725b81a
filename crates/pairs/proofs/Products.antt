-- The product with its remainder is exact, for factors that are zero or from 2^-400 to 2^400 in size.
use Rattle.std.proofs.Common.{rules, ◌≡◌, ℕ, ◌+◌, ◌-◌, ◌*◌, ◌^◌, ◌<◌, ◌≤◌, T, leb, ℤ, pos, ◌+ℤ◌, ◌-ℤ◌, ◌*ℤ◌, nat_abs, sym, refl, ap, ◌∙◌, subst, inl, inr, arith, leb→le, pow-add}
use borrow.Author.Differences.{ints}
use lib.IntN.{zero-*ℤ, *ℤ-zero}
use lib.Ieee.{Float, binary64, fits}
use lib.Ieee.Fits.{add-fits, mul-fits}
use Rattle.pairs.specs.Value.{Value, roundℤ, Middle, Moderate, Exactly, UnitsOfProduct, ExactProduct}
use Rattle.pairs.specs.DoubleDouble.{plus, minus, times, split, exact_mult}
use Rattle.pairs.proofs.Integers.{Abs, abs-mul, distr, mul-assocℤ, mul-right-commℤ, mul-swapℤ, expand, times-one, rejoin, Multiple, scale-add}
use Rattle.pairs.proofs.Nearest.{Close, digits-stay, digits-zero}
use Rattle.pairs.proofs.Units.{add-zeros, sub-zeros, zero-times, times_zero}
use Rattle.pairs.proofs.Scaled.{Scaled, Result, mul-scaled, add-exact, sub-exact, mul-exact}
use Rattle.pairs.proofs.Halving.{Full, split_at, split-zero, split-halves, Normal53, normal53, scale_small, middle}

-- ---- the integers: W is the product P 2^54 + (Q + R) 2^27 + S, and H = q 2^52 is W rounded

module _ (P Q R S W H q : ℤ) (w : W ≡ P *ℤ pos (2 ^ 54) +ℤ (Q +ℤ R) *ℤ pos (2 ^ 27) +ℤ S) (h : H ≡ q *ℤ pos (2 ^ 52)) (c : Close H W (2 ^ 53)) (b_q : Abs Q (2 ^ 52)) (b_r : Abs R (2 ^ 52)) (b_s : Abs S (2 ^ 52)) where
  -- the first partial sum
  sum1 : P *ℤ pos (2 ^ 54) -ℤ H ≡ (P *ℤ pos 4 -ℤ q) *ℤ pos (2 ^ 52)
  sum1 = omega (arith, ints)

  -- is short
  short1 : Abs (P *ℤ pos 4 -ℤ q) (2 ^ 53)
  short1 = omega (arith, ints)

  -- the second
  sum2 : Q *ℤ pos (2 ^ 27) +ℤ (P *ℤ pos (2 ^ 54) -ℤ H) ≡ (Q +ℤ (P *ℤ pos (2 ^ 27) -ℤ q *ℤ pos (2 ^ 25))) *ℤ pos (2 ^ 27)
  sum2 = omega (arith, ints)

  -- is short
  short2 : Abs (Q +ℤ (P *ℤ pos (2 ^ 27) -ℤ q *ℤ pos (2 ^ 25))) (2 ^ 53)
  short2 = omega (arith, ints)

  -- the third is short as it is
  short3 : Abs (R *ℤ pos (2 ^ 27) +ℤ (Q *ℤ pos (2 ^ 27) +ℤ (P *ℤ pos (2 ^ 54) -ℤ H))) (2 ^ 53)
  short3 = omega (arith, ints)

  -- the last is what the rounding lost
  sum4 : S +ℤ (R *ℤ pos (2 ^ 27) +ℤ (Q *ℤ pos (2 ^ 27) +ℤ (P *ℤ pos (2 ^ 54) -ℤ H))) ≡ W -ℤ H
  sum4 = omega (arith, ints)

  -- and is short
  short4 : Abs (W -ℤ H) (2 ^ 53)
  short4 = omega (arith, ints)

-- a product of significands is at most 2^106
product-below : (M N : ℤ) → Full M → Full N → Abs (M *ℤ N) (2 ^ 106)
product-below M N h k = grind arith

-- and at least 2^104
product-above : (M N : ℤ) → Full M → Full N → 2 ^ 105 ≤ nat_abs (M *ℤ N) * 2
product-above M N h k = grind arith

-- a product of halves has 52 digits
half_product : (a b : ℤ) → Abs a (2 ^ 26) → Abs b (2 ^ 26) → Abs (a *ℤ b) (2 ^ 52)
half_product a b h k = abs-mul a b (2 ^ 26) (2 ^ 26) h k

-- and so at most 53
one_more : (z : ℤ) → Abs z (2 ^ 52) → Abs z (2 ^ 53)
one_more z h = omega arith

-- ---- the floats

-- what is lost from h, by the four products of the halves
abbrev lost : (x y u v h : Float) → Float
lost x y u v h = plus (times y v) (plus (times y u) (plus (times x v) (minus (times x u) h)))

-- the four products and the four sums are exact, for any h that is H
lost-exact : (x y u v h : Float) (A L B K W H q : ℤ) (i j k : ℕ) → Scaled binary64 x (A *ℤ pos (2 ^ 27)) i → Scaled binary64 y L i → Scaled binary64 u (B *ℤ pos (2 ^ 27)) j → Scaled binary64 v K j → Scaled binary64 h H k
    → Abs A (2 ^ 26) → Abs L (2 ^ 26) → Abs B (2 ^ 26) → Abs K (2 ^ 26) → i + j ≡ k + 1074 → k < 1900
    → W ≡ A *ℤ B *ℤ pos (2 ^ 54) +ℤ (A *ℤ K +ℤ L *ℤ B) *ℤ pos (2 ^ 27) +ℤ L *ℤ K → H ≡ q *ℤ pos (2 ^ 52) → Close H W (2 ^ 53)
    → Scaled binary64 (lost x y u v h) (W -ℤ H) k
lost-exact x y u v h A L B K W H q i j k vx vy vu vv vh b_a b_l b_b b_k t r w m c =
    let P = A *ℤ B in
    let Q = A *ℤ K in
    let R = L *ℤ B in
    let S = L *ℤ K in
    let b_p : Abs P (2 ^ 52) = half_product A B b_a b_b in
    let b_q : Abs Q (2 ^ 52) = half_product A K b_a b_k in
    let b_r : Abs R (2 ^ 52) = half_product L B b_l b_b in
    let b_s : Abs S (2 ^ 52) = half_product L K b_l b_k in
    let e_p : A *ℤ pos (2 ^ 27) *ℤ (B *ℤ pos (2 ^ 27)) ≡ P *ℤ pos (2 ^ 54) = grind (arith, mul-swapℤ) in
    let e_q : A *ℤ pos (2 ^ 27) *ℤ K ≡ Q *ℤ pos (2 ^ 27) = mul-right-commℤ A (pos (2 ^ 27)) K in
    let e_r : L *ℤ (B *ℤ pos (2 ^ 27)) ≡ R *ℤ pos (2 ^ 27) = sym (mul-assocℤ L B (pos (2 ^ 27))) in
    let p1 : Scaled binary64 (times x u) (P *ℤ pos (2 ^ 54)) k = subst (λ (z : ℤ). Scaled binary64 (times x u) z k) e_p (mul-exact binary64 x u (A *ℤ pos (2 ^ 27)) (B *ℤ pos (2 ^ 27)) P 54 i j k vx vu t e_p (one_more P b_p) (inside 54 k tt r)) in
    let p2 : Scaled binary64 (times x v) (Q *ℤ pos (2 ^ 27)) k = subst (λ (z : ℤ). Scaled binary64 (times x v) z k) e_q (mul-exact binary64 x v (A *ℤ pos (2 ^ 27)) K Q 27 i j k vx vv t e_q (one_more Q b_q) (inside 27 k tt r)) in
    let p3 : Scaled binary64 (times y u) (R *ℤ pos (2 ^ 27)) k = subst (λ (z : ℤ). Scaled binary64 (times y u) z k) e_r (mul-exact binary64 y u L (B *ℤ pos (2 ^ 27)) R 27 i j k vy vu t e_r (one_more R b_r) (inside 27 k tt r)) in
    let p4 : Scaled binary64 (times y v) S k = mul-exact binary64 y v L K S 0 i j k vy vv t (times-one S) (one_more S b_s) (inside 0 k tt r) in
    let T1 = P *ℤ pos (2 ^ 54) -ℤ H in
    let T2 = Q *ℤ pos (2 ^ 27) +ℤ T1 in
    let T3 = R *ℤ pos (2 ^ 27) +ℤ T2 in
    let f1 = minus (times x u) h in
    let f2 = plus (times x v) f1 in
    let f3 = plus (times y u) f2 in
    let t1 = sub-exact binary64 (times x u) h (P *ℤ pos (2 ^ 54)) H (P *ℤ pos 4 -ℤ q) 52 k p1 vh (sum1 P Q R S W H q w m c b_q b_r b_s) (short1 P Q R S W H q w m c b_q b_r b_s) (inside 52 k tt r) in
    let t2 = add-exact binary64 (times x v) f1 (Q *ℤ pos (2 ^ 27)) T1 (Q +ℤ (P *ℤ pos (2 ^ 27) -ℤ q *ℤ pos (2 ^ 25))) 27 k p2 t1 (sum2 P Q R S W H q w m c b_q b_r b_s) (short2 P Q R S W H q w m c b_q b_r b_s) (inside 27 k tt r) in
    let t3 = add-exact binary64 (times y u) f2 (R *ℤ pos (2 ^ 27)) T2 T3 0 k p3 t2 (times-one T3) (short3 P Q R S W H q w m c b_q b_r b_s) (inside 0 k tt r) in
    let e4 : S +ℤ T3 ≡ W -ℤ H = sum4 P Q R S W H q w m c b_q b_r b_s in
    let t4 = add-exact binary64 (times y v) f3 S T3 (W -ℤ H) 0 k p4 t3 (e4 ∙ times-one (W -ℤ H)) (short4 P Q R S W H q w m c b_q b_r b_s) (inside 0 k tt r) in
    subst (λ (z : ℤ). Scaled binary64 (lost x y u v h) z k) e4 t4
  where
    inside : (e k : ℕ) → T (leb e 60) → k < 1900 → 53 + (e + k) < 2098
    inside e k h r = omega (arith, leb→le e 60 h)

-- h is H and l is W - H, at one scale, where H is W rounded
record ExactAt (W : ℤ) (k : ℕ) (h l : Float) : Type 0 where
  H : ℤ
  h_is : Scaled binary64 h H k
  l_is : Scaled binary64 l (W -ℤ H) k
  nearest : roundℤ 53 (W *ℤ pos (2 ^ k)) ≡ H *ℤ pos (2 ^ k)

-- the product with its remainder, at a scale
product_at : (a b : Float) (M N : ℤ) (i j k : ℕ) → Scaled binary64 a M i → Scaled binary64 b N j → Full M → Full N → i < 2000 → j < 2000 → i + j ≡ k + 1074 → k < 1900
    → ExactAt (M *ℤ N) k (exact_mult a b).hi (exact_mult a b).lo
unfolding exact_mult
product_at a b M N i j k va vb h_m h_n ri rj t r =
    let W = M *ℤ N in
    let X = split_at a M i va h_m ri in
    let Y = split_at b N j vb h_n rj in
    let R0 : Result binary64 (times a b) W k = mul-scaled binary64 a b M N i j k 53 va vb t (product-below M N h_m h_n) (omega arith) in
    let m : Multiple R0.r 52 = R0.rounded.multiple 52 (product-above M N h_m h_n) in
    let w : W ≡ X.A *ℤ Y.A *ℤ pos (2 ^ 54) +ℤ (X.A *ℤ Y.L +ℤ X.L *ℤ Y.A) *ℤ pos (2 ^ 27) +ℤ X.L *ℤ Y.L =
    ap (λ (z : ℤ). z *ℤ N) (sym X.whole) ∙ ap (λ (z : ℤ). (X.A *ℤ pos (2 ^ 27) +ℤ X.L) *ℤ z) (sym Y.whole) ∙ expand X.A X.L Y.A Y.L (pos (2 ^ 27)) in
    record {
      H = R0.r;
      h_is = R0.at;
      nearest = R0.nearest;
      l_is = lost-exact (split a).hi (split a).lo (split b).hi (split b).lo (times a b) X.A X.L Y.A Y.L W R0.r m.0 i j k
          X.high_is X.low-is Y.high_is Y.low-is R0.at X.A-short X.L-short Y.A-short Y.L-short t r w m.1 (R0.rounded.error 53 (product-below M N h_m h_n));
    }

-- ---- in units

-- where each product of halves is 0, nothing is lost
lost-zeros : (x y u v h : Float) → Value binary64 (times x u) (pos 0) → Value binary64 (times x v) (pos 0) → Value binary64 (times y u) (pos 0) → Value binary64 (times y v) (pos 0) → Value binary64 h (pos 0) → Value binary64 (lost x y u v h) (pos 0)
lost-zeros x y u v h p q r s z = search (rules, sub-zeros, add-zeros)

-- two zeros are 0 exactly
nothing : (h l : Float) → Value binary64 h (pos 0) → Value binary64 l (pos 0) → Exactly (pos 0) h l
nothing h l v w = grind (arith, digits-stay, digits-zero)

-- with a first factor that is 0
zero-product : (a b : Float) (Y : ℤ) → T (fits binary64 b) → Value binary64 a (pos 0) → Value binary64 b Y → Middle Y → Exactly (pos 0) (exact_mult a b).hi (exact_mult a b).lo
unfolding exact_mult
zero-product a b Y t v w r =
    let z = split-zero a v in
    let s = split-halves b Y t w r in
    let h = zero-times binary64 a b Y v w in
    nothing (times a b) (lost (split a).hi (split a).lo (split b).hi (split b).lo (times a b)) h
    (lost-zeros (split a).hi (split a).lo (split b).hi (split b).lo (times a b)
    (zero-times binary64 (split a).hi (split b).hi s.H z.0 s.h_is) (zero-times binary64 (split a).hi (split b).lo s.L z.0 s.l_is)
    (zero-times binary64 (split a).lo (split b).hi s.H z.1 s.h_is) (zero-times binary64 (split a).lo (split b).lo s.L z.1 s.l_is) h)

-- with a second factor that is 0
product-zero : (a b : Float) (X : ℤ) → T (fits binary64 a) → Value binary64 a X → Value binary64 b (pos 0) → Middle X → Exactly (pos 0) (exact_mult a b).hi (exact_mult a b).lo
unfolding exact_mult
product-zero a b X t v w r =
    let z = split-zero b w in
    let s = split-halves a X t v r in
    let h = times_zero binary64 a b X v w in
    nothing (times a b) (lost (split a).hi (split a).lo (split b).hi (split b).lo (times a b)) h
    (lost-zeros (split a).hi (split a).lo (split b).hi (split b).lo (times a b)
    (times_zero binary64 (split a).hi (split b).hi s.H s.h_is z.0) (times_zero binary64 (split a).hi (split b).lo s.H s.h_is z.1)
    (times_zero binary64 (split a).lo (split b).hi s.L s.l_is z.0) (times_zero binary64 (split a).lo (split b).lo s.L s.l_is z.1) h)

-- with factors that are not 0
normal-product : (a b : Float) (X Y : ℤ) → Value binary64 a X → Value binary64 b Y → Normal53 X → Normal53 Y → (W : ℤ) × UnitsOfProduct X Y W × Exactly W (exact_mult a b).hi (exact_mult a b).lo
normal-product a b X Y va vb m n =
    let i = m.i in
    let j = n.i in
    let k = i + j - 1074 in
    let W = m.M *ℤ n.M in
    let t : i + j ≡ k + 1074 = enough i j m.above n.above in
    let d = product_at a b m.M n.M i j k (subst (Value binary64 a) m.is va) (subst (Value binary64 b) n.is vb) (m.least, m.most) (n.least, n.most) (scale_small i m.below) (scale_small j n.below) t (not_more i j m.below n.below) in
    let whole : d.H *ℤ pos (2 ^ k) +ℤ (W -ℤ d.H) *ℤ pos (2 ^ k) ≡ W *ℤ pos (2 ^ k) = sym (distr d.H (W -ℤ d.H) (pos (2 ^ k))) ∙ ap (λ (z : ℤ). z *ℤ pos (2 ^ k)) (rejoin W d.H) in (
      W *ℤ pos (2 ^ k),
      sym (scale-add W k 1074) ∙ ap (λ (n : ℕ). W *ℤ pos (2 ^ n)) (sym t) ∙ ap (λ (n : ℕ). W *ℤ pos n) (pow-add 2 i j)
          ∙ sym (mul-swapℤ m.M (pos (2 ^ i)) n.M (pos (2 ^ j))) ∙ ap (λ (z : ℤ). z *ℤ (n.M *ℤ pos (2 ^ j))) (sym m.is) ∙ ap (λ (z : ℤ). X *ℤ z) (sym n.is),
      record { H = d.H *ℤ pos (2 ^ k); L = (W -ℤ d.H) *ℤ pos (2 ^ k); h_is = d.h_is; l_is = d.l_is; exact = whole; nearest = sym d.nearest },
    )
  where
    enough : (i j : ℕ) → 674 < 53 + i → 674 < 53 + j → i + j ≡ i + j - 1074 + 1074
    enough i j h k = omega arith

    not_more : (i j : ℕ) → 52 + i ≤ 1474 → 52 + j ≤ 1474 → i + j - 1074 < 1900
    not_more i j h k = omega arith

-- all cases
exact-product : (a b : Float) (X Y : ℤ) → T (fits binary64 a) → T (fits binary64 b) → Value binary64 a X → Value binary64 b Y → Middle X → Middle Y → (W : ℤ) × UnitsOfProduct X Y W × Exactly W (exact_mult a b).hi (exact_mult a b).lo
exact-product a b X Y ta tb va vb (inl e) rb = (pos 0, zero-*ℤ (pos (2 ^ 1074)) ∙ sym (zero-*ℤ Y) ∙ ap (λ (z : ℤ). z *ℤ Y) (sym e), zero-product a b Y tb (subst (Value binary64 a) e va) vb rb)
exact-product a b X Y ta tb va vb (inr h) (inl e) = (pos 0, zero-*ℤ (pos (2 ^ 1074)) ∙ sym (*ℤ-zero X) ∙ ap (λ (z : ℤ). X *ℤ z) (sym e), product-zero a b X ta va (subst (Value binary64 b) e vb) (inr h))
exact-product a b X Y ta tb va vb (inr h) (inr k) = normal-product a b X Y va vb (normal53 a X ta va h) (normal53 b Y tb vb k)

-- the contract of `from_exact_mult`
pub exact-mult : (a b : Float) → T (fits binary64 a) → T (fits binary64 b) → Moderate a → Moderate b → ExactProduct a b (exact_mult a b).hi (exact_mult a b).lo
exact-mult a b ta tb ma mb X Y va vb = exact-product a b X Y ta tb va vb (middle a X ma va) (middle b Y mb vb)

-- the product and its remainder fit
pub product-fits : (a b : Float) → T (fits binary64 (exact_mult a b).hi) × T (fits binary64 (exact_mult a b).lo)
unfolding exact_mult
product-fits a b = (mul-fits binary64 a b, add-fits binary64 _ _)

-- the high part is the rounded product
pub product_high : (a b : Float) → (exact_mult a b).hi ≡ times a b
unfolding exact_mult
product_high a b = refl
