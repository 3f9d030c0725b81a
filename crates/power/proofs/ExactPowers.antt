-- The exact cases of the power are the true power, rounded once. Assumes nothing.
use Rattle.std.proofs.Common.{◌≡◌, ℕ, zero, suc, ◌+◌, ◌*◌, ◌^◌, ◌<◌, ◌≤◌, Bool, true, false, T, ◌⊎◌, ℤ, pos, negsuc, ◌*ℤ◌, neg_ℤ, nat_abs, sym, refl, ap, ◌∙◌, subst, inl, inr, ⊎_elim, true≢false, le_trans, lt_irrefl, mul-pos, one-mul, pow-suc, mul-zero, zero-mul, mul-one, arith}
use native.Mathlib.Nat.{pow-zero}
use borrow.Author.Tests.{both_ways}
use lib.IntN.{ℤ_discrete}
use lib.Ieee.{Float, nan, inf, fin, binary32, up, down, size, round, mul, eq, fits}
use lib.Ieee.Fits.{up_pos, down_pos, round-fits}
use lib.Ieee.Positive.{first_pos}
use lib.Ieee.Scale.{round_same}
use Rattle.std.specs.Float.{float_one}
use Rattle.power.specs.Backend.{Arithmetic}
use Rattle.power.specs.Rules.{Rules, Zero, num, den}
use Rattle.power.specs.Whole.{product, whole_power, multiplies}
use Rattle.power.specs.Fast.{fast}
use Rattle.power.specs.Powf.{power, magnitude, general, decided}
use Rattle.power.specs.SpecialCases.{Not, Finite, Positive}
use Rattle.power.specs.ExactCases.{rounded_once, signedℤ, Times, ExactCase, power_of_two, product as by_product, true_power}
use Rattle.power.specs.Lemmas.Values.{rounds}
use Rattle.power.specs.Lemmas.Unique.{value-unique, no-factor}
use Rattle.power.proofs.Ends.{pow-over, pow-under}
use Rattle.power.proofs.Multiples.{sizes, signs, times-signed, times_zero, no-product, one-sign, times-whole, times-one, times-half, larger, squared}
use Rattle.power.proofs.Repeated.{product-rounded}
use Rattle.power.proofs.FloatTests as tests
use Rattle.power.proofs.Branches as branches
use Rattle.power.proofs.SmallExponents.{Factors, multiplies-tells, count-is, above-two, takes-product}
use Rattle.power.proofs.PowerOfTwo.{fast-exact, fast-tie}
use Rattle.power.proofs.TieFallback.{fallback-tie}
use Rattle.power.proofs.WholeRoots.{root-exact}

-- 2^j, rounded once
abbrev two_to : ℤ → Float
two_to j = round binary32 false (1 * up j) (down j)

two_to-zero : two_to (pos 0) ≡ float_one
unfolding round
two_to-zero = refl

-- ---- exponents out of range

two_to-under : (p : ℕ) → 150 ≤ p → two_to (neg_ℤ (pos p)) ≡ fin false 0 (pos 0)
two_to-under zero h = absurd (lt_irrefl 0 (le_trans (omega arith) h))
two_to-under (suc p) h = pow-under p (omega arith)

-- beyond the bound, y and ±2^32 give the same
alike-beyond : (s : Bool) (N D : ℕ) (k j : ℤ) → 0 < D → 2533359616 * D < N → signedℤ s (k *ℤ pos N) ≡ j *ℤ pos D → two_to (signedℤ s (k *ℤ pos 4294967296)) ≡ two_to j
alike-beyond s N D k j D-pos h e =
    ap two_to (times-signed s k 4294967296)
    ∙ one-sign (λ k j. two_to (k *ℤ pos 4294967296) ≡ two_to j) N D (omega arith) D-pos positive negative (signedℤ s k) j (sym (times-signed s k N) ∙ e)
  where
    positive : (a b : ℕ) → a * N ≡ b * D → two_to (pos (a * 4294967296)) ≡ two_to (pos b)
    positive zero b w = ap (λ (x : ℕ). two_to (pos x)) (zero-mul 4294967296 ∙ sym (no-factor b D D-pos (sym w ∙ zero-mul N)))
    positive (suc a) b w = let l = larger (suc a) b 2533359616 N D (omega arith) h w in pow-over (suc a * 4294967296) (omega arith) ∙ sym (pow-over b (omega arith))

    negative : (a b : ℕ) → suc a * N ≡ suc b * D → two_to (neg_ℤ (pos (suc a * 4294967296))) ≡ two_to (negsuc b)
    negative a b w = let l = larger (suc a) (suc b) 2533359616 N D (omega arith) h w in two_to-under (suc a * 4294967296) (omega arith) ∙ sym (pow-under b (omega arith))

-- ---- powers of two by the fast path and the fallback

worked-out : (m : Arithmetic) → Rules m → (k j : ℤ) (y : Float) → T (fits binary32 (fin false 1 k)) → T (fits binary32 y) → num y ≤ 2 ^ 32 * den y
    → Times k y j → decided m (fast m.scalar (fin false 1 k) y) ≡ two_to j
worked-out m rules k j y X Y most t = go (ℤ_discrete j (negsuc 149))
  where
    go : Dec (j ≡ negsuc 149) → decided m (fast m.scalar (fin false 1 k) y) ≡ two_to j
    go (yes e) =
        let w = fast-tie m.scalar rules.scalar (fin false 1 k) y k j X Y refl most t e in
        ap (decided m) w.1 ∙ fallback-tie m rules w.0 w.2 ∙ sym (pow-under 149 (omega arith)) ∙ ap two_to (sym e)
    go (no f) = ap (decided m) (fast-exact m.scalar rules.scalar (fin false 1 k) y k j X Y refl most t f)

large-fits : (s : Bool) → T (fits binary32 (fin s 1 (pos 32)))
unfolding fits
large-fits s = tt

in-general : (m : Arithmetic) → Rules m → (k j : ℤ) (s : Bool) (p : ℕ) (g : ℤ) → T (fits binary32 (fin false 1 k)) → T (fits binary32 (fin s p g))
    → Times k (fin s p g) j → general m (fin false 1 k) (fin s p g) ≡ two_to j
in-general m rules k j s p g X Y t =
    let far = signedℤ s (k *ℤ pos 4294967296) in
    branches.general-by m (fin false 1 k) (two_to j) s p g
    (λ h. worked-out m rules k j (fin s p g) X Y (omega arith) t)
    (λ h. worked-out m rules k far (fin s 1 (pos 32)) X (large-fits s) (omega arith) (sym (times-one far)) ∙ alike-beyond s (p * up g) (down g) k j (down_pos g) h t)

-- ---- powers of two by the other branches

itself : (k : ℤ) → T (fits binary32 (fin false 1 k)) → fin false 1 k ≡ two_to k
itself k t =
    value-unique binary32 (fin false 1 k) (two_to k) false (1 * up k) (down k) (down_pos k) t (round-fits binary32 false (1 * up k) (down k)) (refl, refl)
    (rounds binary32 false false (1 * up k) (down k) 1 k (down_pos k) t refl)

square : (k : ℤ) → mul binary32 (fin false 1 k) (fin false 1 k) ≡ two_to (k *ℤ pos 2)
unfolding mul
square k =
    round_same binary32 false (1 * up k * (1 * up k)) (down k * down k) (1 * up (k *ℤ pos 2)) (down (k *ℤ pos 2)) (mul-pos (down_pos k) (down_pos k)) (down_pos (k *ℤ pos 2)) (squared k)

-- k y = j for a positive y
plain : (s : Bool) (k j : ℤ) (N D : ℕ) → s ≡ false → signedℤ s (k *ℤ pos N) ≡ j *ℤ pos D → k *ℤ pos N ≡ j *ℤ pos D
plain s k j N D e t = subst (λ (u : Bool). signedℤ u (k *ℤ pos N) ≡ j *ℤ pos D) e t

one_power : (n : ℕ) → 1 ^ n ≡ 1
one_power zero = pow-zero 1
one_power (suc n) = pow-suc 1 n ∙ mul-one (1 ^ n) ∙ one_power n

few_bits : (n : ℕ) → n ≤ 24 → size 1 * n ≤ 53
unfolding size
few_bits n h = omega arith

by-products : (k j : ℤ) (s : Bool) (p : ℕ) (g : ℤ) → T (fits binary32 (fin false 1 k)) → 0 < p → Factors s p g → Times k (fin s p g) j → whole_power (fin false 1 k) (fin s p g) ≡ two_to j
by-products k j s p g X P f t =
    let n = f.count in
    let N = p * up g in
    let j-is : j ≡ k *ℤ pos n = times-whole k j N (down g) n (mul-pos P (up_pos g)) (down_pos g) f.is (plain s k j N (down g) f.sign t) in
    ap (λ (u : Bool). whole_power (fin false 1 k) (fin u p g)) f.sign
    ∙ ap (product (fin false 1 k)) (count-is p g n f.is f.most)
    ∙ product-rounded 1 k n (omega arith) X (le_trans (omega arith) f.least) f.most (few_bits n f.most)
    ∙ ap (λ (x : ℕ). round binary32 false (x * up (k *ℤ pos n)) (down (k *ℤ pos n))) (one_power n)
    ∙ ap two_to (sym j-is)

two-magnitude : (m : Arithmetic) → Rules m → (k j : ℤ) (s : Bool) (p : ℕ) (g : ℤ) → T (fits binary32 (fin false 1 k)) → T (fits binary32 (fin s p g)) → 0 < p
    → Times k (fin s p g) j → magnitude m (fin false 1 k) (fin s p g) ≡ two_to j
two-magnitude m rules k j s p g X Y P t =
    let x = fin false 1 k in
    let y = fin s p g in
    let N = p * up g in
    let D = down g in
    let N-pos : 0 < N = mul-pos P (up_pos g) in
    let D-pos = down_pos g in
    branches.magnitude-by m x y (two_to j)
    (λ e. let w = tests.eq-tells s p g 1 (pos 0) P e in
    itself k X ∙ ap two_to (sym (times-whole k j N D 1 N-pos D-pos (sym (mul-one N) ∙ w.1) (plain s k j N D w.0 t) ∙ times-one k)))
    (λ e. let w = tests.eq-tells s p g 1 (pos 1) P e in
    square k ∙ ap two_to (sym (times-whole k j N D 2 N-pos D-pos (sym (mul-one N) ∙ w.1) (plain s k j N D w.0 t))))
    (λ e. let w = tests.eq-tells s p g 1 (negsuc 0) P e in
    root-exact k j X (times-half k j N D N-pos D-pos (w.1 ∙ one-mul D) (plain s k j N D w.0 t)))
    (λ e. by-products k j s p g X P (multiplies-tells m.scalar rules.scalar x s p g (Y, P) e) t)
    (λ e. in-general m rules k j s p g X Y t)

-- ---- positive bases

magnitude-one : (m : Arithmetic) → Rules m → (y : Float) → T (fits binary32 y) → Finite y → Not (Zero y) → magnitude m float_one y ≡ float_one
unfolding fits
magnitude-one m rules nan Y F N = absurd F
magnitude-one m rules (inf s) Y F N = absurd F
magnitude-one m rules (fin s p g) Y F N = two-magnitude m rules (pos 0) (pos 0) s p g tt Y (omega (arith, N)) (times_zero s (p * up g) (down g)) ∙ two_to-zero

-- the general path answers for every positive base, 1 as well
pub positive-base : (m : Arithmetic) → Rules m → (x y : Float) → T (fits binary32 x) → T (fits binary32 y) → Finite x → Positive x → Finite y → Not (Zero y) → power m x y ≡ magnitude m x y
positive-base m rules x y X Y F P G N = go (tests.one-or-not x X)
  where
    go : (x ≡ float_one) ⊎ (eq x float_one ≡ false) → power m x y ≡ magnitude m x y
    go (inl u) = branches.at-unit-base m x y u ∙ sym (ap (λ (v : Float). magnitude m v y) u ∙ magnitude-one m rules y Y G N)
    go (inr p) = branches.at-ordinary m x y F (tests.not-zero true x P) p G N ∙ branches.ordinary-positive m x y P

-- ---- powers of two

two-power : (m : Arithmetic) → Rules m → (k j : ℤ) (y : Float) → T (fits binary32 (fin false 1 k)) → T (fits binary32 y) → Times k y j → power m (fin false 1 k) y ≡ two_to j
two-power m rules k j nan X Y t = absurd t
two-power m rules k j (inf s) X Y t = absurd t
two-power m rules k j (fin s zero g) X Y t =
    let none : nat_abs k * (0 * up g) ≡ 0 = ap (λ (x : ℕ). nat_abs k * x) (zero-mul (up g)) ∙ mul-zero (nat_abs k) in
    branches.at-zero-exponent m (fin false 1 k) (fin s 0 g) refl ∙ sym two_to-zero ∙ ap two_to (sym (no-product s k j (0 * up g) (down g) (down_pos g) none t))
two-power m rules k j (fin s (suc p) g) X Y t =
    positive-base m rules (fin false 1 k) (fin s (suc p) g) X Y tt (refl, omega arith) tt (λ z. omega arith) ∙ two-magnitude m rules k j s (suc p) g X Y (omega arith) t

-- ---- products

-- y is the whole number n
record Counted (y : Float) (n : ℕ) : Type 0 where
  digits : ℕ
  scale : ℤ
  written : y ≡ fin false digits scale
  some : 0 < digits
  is : digits * up scale ≡ n * down scale

counted : (y : Float) (n : ℕ) → 0 < n → Times (pos 1) y (pos n) → Counted y n
counted nan n N t = absurd t
counted (inf s) n N t = absurd t
counted (fin true p g) n N t =
    ⊎_elim (λ z. absurd (omega arith)) (λ e. absurd (true≢false e)) (signs true (pos 1) (pos n) (p * up g) (down g) (down_pos g) t)
counted (fin false p g) n N t =
    let w : p * up g ≡ n * down g = sym (one-mul (p * up g)) ∙ sizes false (pos 1) (pos n) (p * up g) (down g) t in
    record { digits = p; scale = g; written = refl; some = first_pos p (up g) (subst (λ (x : ℕ). 0 < x) (sym w) (mul-pos N (down_pos g))); is = w }

-- the true power
abbrev power_of : ℕ → ℤ → ℕ → Float
power_of q e n = round binary32 false (q ^ n * up (e *ℤ pos n)) (down (e *ℤ pos n))

product-magnitude : (m : Arithmetic) → Rules m → (q : ℕ) (e : ℤ) (n p : ℕ) (g : ℤ) → 0 < q → 0 < p → T (fits binary32 (fin false q e)) → T (fits binary32 (fin false p g))
    → p * up g ≡ n * down g → 3 ≤ n → n ≤ 24 → size q * n ≤ 25 + 2 * n → size q * n ≤ 53 → magnitude m (fin false q e) (fin false p g) ≡ power_of q e n
product-magnitude m rules q e n p g Q P X Y w least most short fine =
    let x = fin false q e in
    let y = fin false p g in
    let N = p * up g in
    let above = above-two n N (down g) (down_pos g) w least in
    branches.magnitude-by m x y (power_of q e n)
    (λ h. let w = (tests.eq-tells false p g 1 (pos 0) P h).1 in absurd (omega arith))
    (λ h. let w = (tests.eq-tells false p g 1 (pos 1) P h).1 in absurd (omega arith))
    (λ h. let w = (tests.eq-tells false p g 1 (negsuc 0) P h).1 in absurd (omega arith))
    (λ h. ap (product x) (count-is p g n w most) ∙ product-rounded q e n Q X (le_trans (omega arith) least) most fine)
    (λ h. absurd (both_ways (multiplies m.scalar x y) h (takes-product m.scalar rules.scalar q e p g n (Y, P) w least most short)))

-- ---- both

pub exact : (m : Arithmetic) → Rules m → (x y : Float) → T (fits binary32 x) → T (fits binary32 y) → (c : ExactCase x y) → power m x y ≡ rounded_once (true_power c)
exact m rules x y X Y (power_of_two k j x-is t) =
    ap (λ (z : Float). power m z y) x-is ∙ two-power m rules k j y (subst (λ (z : Float). T (fits binary32 z)) x-is X) Y t
exact m rules x y X Y (by_product q e n some x-is t least most short fine) =
    let c = counted y n (omega arith) t in
    let X' = subst (λ (z : Float). T (fits binary32 z)) x-is X in
    let Y' = subst (λ (z : Float). T (fits binary32 z)) c.written Y in
    let p = c.some in
    (λ i. power m (x-is i) (c.written i))
    ∙ positive-base m rules (fin false q e) (fin false c.digits c.scale) X' Y' tt (refl, some) tt (λ z. omega arith)
    ∙ product-magnitude m rules q e n c.digits c.scale some p X' Y' c.is least most short fine
