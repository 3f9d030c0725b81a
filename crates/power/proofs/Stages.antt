-- The stages of the fast path at a power of two, where the reduced argument is zero: each is exact.
use Rattle.std.proofs.Common.{◌≡◌, ℕ, ◌+◌, ◌*◌, ◌/◌, ◌^◌, ◌<◌, ◌≤◌, Bool, false, not, T, ◌⊎◌, ℤ, nat_abs, sym, refl, ap, ◌∙◌, subst, inl, inr, ⊎_elim, le_trans, le_of_eq, lt_of_le_of_lt, le_of_lt, mul-le-mul_right, mul_assoc, mul_comm, mul-le-mul_left, mul-pos, one-mul, mul-zero, zero-mul, mul-one, mul_right_comm, le_of_mul-le-mul_right, mul_left_comm, arith, lit≤, pow-add}
use native.Mathlib.Nat.{eq_of_mul-eq-mul_right}
use lib.Arith.{digits_div}
use lib.Ieee as Ieee
use lib.Ieee.{Float, nan, inf, fin, binary32, binary64, up, down, unlike, round, fits}
use lib.Ieee.Exact.{round_exact}
use lib.Ieee.Fits.{down_pos, round-fits, fits_widens}
use Rattle.std.specs.Float.{ratio_round_half_up, float_one as unit}
use Rattle.power.specs.Backend.{Scalar}
use Rattle.power.specs.Rules.{ScalarRules, Is, Within, sign, num, den}
use Rattle.power.specs.Lookup.{log2_r, log2_r_td}
use Rattle.power.specs.ExactCases.{Times}
use Rattle.power.specs.Fast.{log, y64, rest_high, rest, exp_poly}
use Rattle.power.specs.declared.reduction.Reduced.{Reduced}
use Rattle.power.specs.Lemmas.Values.{bounds, in-units, den_pos, cross, number, signs, value→is, scale-is}
use Rattle.power.specs.Lemmas.Unique.{no-factor}
use Rattle.power.specs.Lemmas.Uses.{within, product-terms}
use Rattle.power.specs.Lemmas.Alike.{IsZero, zero-within, same-is, same-zero, turn, alike-other}
use Rattle.power.specs.Lemmas.Zeros.{unlike-comm, unlike-false, neg-number, zero-plus, plus-zero}
use Rattle.power.proofs.Multiples as Multiples
use Rattle.power.proofs.Multiples.{negative}
use Rattle.power.specs.Lemmas.ZeroProducts.{IsProduct, fma-zero-left, fma-zero-right, fma-cancels, times-whole}
use Rattle.power.proofs.ZeroPolynomials.{six-zero, f64-at-zero}
use Rattle.power.proofs.PowerReduction.{At}

-- ---- log2 x

table-zero : IsZero (log2_r 0)
unfolding log2_r Ieee.of_bits fits
table-zero = (tt, refl)

parts-zero : IsZero (log2_r_td 0).1 × IsZero (log2_r_td 0).2
unfolding log2_r_td Ieee.of_bits fits
parts-zero = ((tt, refl), (tt, refl))

-- log2 2^k is k
log_is : (m : Scalar) → ScalarRules m → (k : ℤ) (r : Reduced) → At k r → Is (log m r) (negative k) (nat_abs k) 1
log_is m K k r A =
    let E = r.exponent in
    let t = log2_r r.index in
    let c = Ieee.add binary64 t E in
    let Z : IsZero t = subst (λ (i : ℕ). IsZero (log2_r i)) (sym A.index) table-zero in
    let is : Is c (negative k) (nat_abs k) 1 = same-is c E (negative k) (nat_abs k) 1 (zero-plus t E Z.1 (number E (negative k) (nat_abs k) 1 A.exponent)) A.exponent in
    let small : nat_abs k ≤ 2 ^ 512 = le_trans A.few (lit≤ tt) in
    same-is (log m r) c (negative k) (nat_abs k) 1
    (fma-zero-left m.fma K.fma_exact r.dx r.p c A.dx A.p (within 512 c (negative k) (nat_abs k) 1 (lit≤ tt) (lit≤ tt) small is)) is

-- the high part of it in three parts is k too
high_is : (k : ℤ) (r : Reduced) → At k r → Is (Ieee.add binary64 r.exponent (log2_r_td r.index).2) (negative k) (nat_abs k) 1
high_is k r A =
    let E = r.exponent in
    let t = (log2_r_td r.index).2 in
    let Z : IsZero t = subst (λ (i : ℕ). IsZero (log2_r_td i).2) (sym A.index) parts-zero.1 in
    same-is (Ieee.add binary64 E t) E (negative k) (nat_abs k) 1 (plus-zero E t (number E (negative k) (nat_abs k) 1 A.exponent) Z.1) A.exponent

-- ---- 64 y

scaled : (m u l v d : ℕ) → u * l ≡ v * d → m * u * 64 * l ≡ m * (v * 64) * (d * 1)
scaled m u l v d e =
    let p : m * u * 64 * l ≡ m * 64 * (u * l) = simp (mul_assoc, mul_comm, mul_left_comm) in
    let q : m * (v * 64) * (d * 1) ≡ m * 64 * (v * d) = simp (mul_assoc, mul_comm, mul_left_comm, one-mul) in
    p ∙ ap (λ (x : ℕ). m * 64 * x) e ∙ sym q

no_overflow : (m u l v d : ℕ) → 0 < d → u * l ≡ v * d → m * u ≤ 2 ^ 32 * d → m * v ≤ 2 ^ 32 * l
no_overflow m u l v d D e h =
    let p : m * v * d ≡ m * u * l = mul_assoc m v d ∙ ap (λ (x : ℕ). m * x) (sym e) ∙ sym (mul_assoc m u l) in
    le_of_mul-le-mul_right (le_trans (le_of_eq p) (le_trans (mul-le-mul_right l h) (le_of_eq (mul_right_comm (2 ^ 32) d l)))) D

-- the product in f32 is exact
y64-is : (s : Bool) (m : ℕ) (e : ℤ) → T (fits binary32 (fin s m e)) → m * up e ≤ 2 ^ 32 * down e → Is (y64 (fin s m e)) s (m * up e * 64) (down e)
unfolding Ieee.mul Ieee.of_bits
y64-is s m e t h =
    let b = bounds binary32 s m e t in
    let unit = in-units 149 e b.fine in
    let v = 2 ^ unit.0 in
    let n = m * up e * 64 in
    let d = down e * 1 in
    let u = unlike s false in
    let x = round binary32 u n d in
    let D : 0 < d = mul-pos (down_pos e) (lit≤ tt) in
    let power : 2 ^ (unit.0 + 6) ≡ v * 64 = pow-add 2 unit.0 6 in
    let same : n * 2 ^ 149 ≡ m * 2 ^ (unit.0 + 6) * d = scaled m (up e) (2 ^ 149) v (down e) unit.1 ∙ ap (λ (i : ℕ). m * i * d) (sym power) in
    let most : m * v ≤ 2 ^ 32 * 2 ^ 149 = no_overflow m (up e) (2 ^ 149) v (down e) (down_pos e) unit.1 h in
    let top : m * 2 ^ (unit.0 + 6) ≡ m * v * 64 = ap (λ (i : ℕ). m * i) power ∙ sym (mul_assoc m v 64) in
    let fine : m * 2 ^ (unit.0 + 6) < 2 ^ 277 = lt_of_le_of_lt (le_trans (le_of_eq top) (mul-le-mul_right 64 most)) (lit≤ tt) in
    let is : Is x u n d = value→is x u n d (fits_widens x (round-fits binary32 u n d)) (round_exact binary32 u n d m (unit.0 + 6) D b.few fine same) in
    subst (λ (z : Bool). Is x z n (down e)) (unlike-false s) (scale-is x u n d n (down e) D (ap (λ (i : ℕ). n * i) (sym (mul-one (down e)))) is)

-- ---- 64 j = 64 y k

-- y6 is 64 n / d with the sign s, and k n / d is j
pub record Multiplied (k j : ℤ) (y6 : Float) : Type 0 where
  pub minus : Bool
  pub n : ℕ
  pub d : ℕ
  pub d-pos : 0 < d
  pub is : Is y6 minus (n * 64) d
  pub within : Within 400 y6
  pub size : nat_abs k * n ≡ nat_abs j * d
  pub signs : (nat_abs j ≡ 0) ⊎ (unlike (negative k) minus ≡ negative j)
  pub few : nat_abs j ≤ 149 * 2 ^ 32

few-multiples : (a n b d : ℕ) → 0 < d → a ≤ 149 → n ≤ 2 ^ 32 * d → a * n ≡ b * d → b ≤ 149 * 2 ^ 32
few-multiples a n b d D h l e =
    le_of_mul-le-mul_right (le_trans (le_of_eq (sym e)) (le_trans (mul-le-mul_right n h) (le_trans (mul-le-mul_left 149 l) (le_of_eq (sym (mul_assoc 149 (2 ^ 32) d)))))) D

bounded-numerator : (n d : ℕ) → d ≤ 2 ^ 149 → n ≤ 2 ^ 32 * d → n * 64 ≤ 2 ^ 400
bounded-numerator n d h l = le_trans (mul-le-mul_right 64 (le_trans l (mul-le-mul_left (2 ^ 32) h))) (lit≤ tt)

pub multiplied : (k j : ℤ) (y : Float) → nat_abs k ≤ 149 → T (fits binary32 y) → num y ≤ 2 ^ 32 * den y → Times k y j → Multiplied k j (y64 y)
multiplied k j nan h t l e = absurd e
multiplied k j (inf s) h t l e = absurd e
multiplied k j (fin s m g) h t l e =
    let n = m * up g in
    let d = down g in
    let is = y64-is s m g t l in
    let fine : d ≤ 2 ^ 149 = (bounds binary32 s m g t).fine in
    let size = Multiples.sizes s k j n d e in
    record {
      minus = s;
      n = n;
      d = d;
      d-pos = down_pos g;
      is = is;
      within = within 400 (y64 (fin s m g)) s (n * 64) d (down_pos g) (le_trans fine (lit≤ tt)) (bounded-numerator n d fine l) is;
      size = size;
      signs = Multiples.signs s k j n d (down_pos g) e;
      few = few-multiples (nat_abs k) n (nat_abs j) d (down_pos g) h l size;
    }

cancelled : (a n b d M P : ℕ) → 0 < d → a * n ≡ b * d → a * (n * 64) * M ≡ P * (1 * d) → P ≡ b * 64 * M
cancelled a n b d M P D e h =
    let p : a * (n * 64) * M ≡ a * n * (64 * M) = simp (mul_assoc, mul_left_comm) in
    let q : b * 64 * M * d ≡ b * d * (64 * M) = simp (mul_assoc, mul_comm, mul_left_comm) in
    eq_of_mul-eq-mul_right d D P (b * 64 * M) (ap (λ (i : ℕ). P * i) (sym (one-mul d)) ∙ sym h ∙ p ∙ ap (λ (i : ℕ). i * (64 * M)) e ∙ sym q)

-- a value of k times y6
multiple : (k j : ℤ) (y6 a : Float) → Multiplied k j y6 → Is a (negative k) (nat_abs k) 1 → IsProduct a y6 (nat_abs j * 64)
multiple k j y6 a M A =
    cancelled (nat_abs k) M.n (nat_abs j) M.d (den a * den y6) (num a * num y6) M.d-pos M.size
    (product-terms (nat_abs k) (M.n * 64) 1 M.d (num a) (den a) (num y6) (den y6) (cross a (negative k) (nat_abs k) 1 A) (cross y6 M.minus (M.n * 64) M.d M.is))

none_left : (a n b d : ℕ) → 0 < d → a * n ≡ b * d → (a ≡ 0) ⊎ (n * 64 ≡ 0) → b * 64 ≡ 0
none_left a n b d D e z = ap (λ (i : ℕ). i * 64) (no-factor b d D (sym e ∙ ⊎_elim (λ p. ap (λ (i : ℕ). i * n) p ∙ zero-mul n) (λ q. no-right (omega arith)) z))
  where
    no-right : n ≡ 0 → a * n ≡ 0
    no-right p = ap (λ (i : ℕ). a * i) p ∙ mul-zero a

multiple-sign : (k j : ℤ) (y6 a : Float) → Multiplied k j y6 → Is a (negative k) (nat_abs k) 1 → (nat_abs j * 64 ≡ 0) ⊎ (unlike (sign a) (sign y6) ≡ negative j)
multiple-sign k j y6 a M A =
    let none = none_left (nat_abs k) M.n (nat_abs j) M.d M.d-pos M.size in
    ⊎_elim (λ z. inl (none (inl z)))
    (λ p. ⊎_elim (λ z. inl (none (inr z)))
    (λ q. ⊎_elim (λ z. inl (ap (λ (i : ℕ). i * 64) z)) (λ r. inr ((λ i. unlike (p i) (q i)) ∙ r)) M.signs)
    (signs y6 M.minus (M.n * 64) M.d M.is))
    (signs a (negative k) (nat_abs k) 1 A)

-- the nearest whole number of a whole number
half-whole : (n d c : ℕ) → 0 < d → n ≡ c * d → ratio_round_half_up n d ≡ c
half-whole n d c D e =
    let p : 2 * n + d ≡ c * (2 * d) + d = ap (λ (i : ℕ). 2 * i + d) e ∙ ap (λ (i : ℕ). i + d) (mul_left_comm 2 c d) in
    let l : d < 2 * d = omega arith in
    ap (λ (i : ℕ). i / (2 * d)) p ∙ digits_div c l

pub round_whole : (m : Scalar) → ScalarRules m → (z : Float) (s : Bool) (n : ℕ) → n ≤ 2 ^ 400 → Is z s n 1 → Is (m.round z) s n 1
round_whole m K z s n h w =
    let half : ratio_round_half_up (num z) (den z) ≡ n = half-whole (num z) (den z) n (den_pos z) (sym (mul-one (num z)) ∙ cross z s n 1 w) in
    turn (m.round z) (sign z) s n 1 (signs z s n 1 w)
    (subst (λ (i : ℕ). Is (m.round z) (sign z) i 1) half (K.round_away z (within 400 z s n 1 (lit≤ tt) (lit≤ tt) h w)))

-- h is 64 j
pub round_is : (m : Scalar) → ScalarRules m → (k j : ℤ) (r : Reduced) (y6 : Float) → At k r → Multiplied k j y6
    → Is (m.round (Ieee.mul binary64 (log m r) y6)) (negative j) (nat_abs j * 64) 1
round_is m K k j r y6 A M =
    let l = log m r in
    let L = log_is m K k r A in
    let n = nat_abs j * 64 in
    let small : n < 2 ^ 53 = omega (arith, M.few) in
    let product = times-whole l y6 n (number l (negative k) (nat_abs k) 1 L) M.within.0 small (multiple k j y6 l M L) in
    round_whole m K (Ieee.mul binary64 l y6) (negative j) n (le_trans (le_of_lt small) (lit≤ tt))
    (turn (Ieee.mul binary64 l y6) (unlike (sign l) (sign y6)) (negative j) n 1 (multiple-sign k j y6 l M L) product)

-- ---- what is left beyond h

neg_is : (x : Float) (s : Bool) (n d : ℕ) → Is x s n d → Is (Ieee.neg x) (not s) n d
unfolding Ieee.neg
neg_is nan s n d w = w
neg_is (inf t) s n d w = w
neg_is (fin t m e) s n d w = (neg-number (fin t m e) w.0, w.1, ⊎_elim inl (λ h. inr (ap not h)) w.2)

-- nothing, in the high part
pub rest-high-zero : (m : Scalar) → ScalarRules m → (k j : ℤ) (r : Reduced) (y6 h : Float) → At k r → Multiplied k j y6 → Is h (negative j) (nat_abs j * 64) 1
    → IsZero (rest_high m r y6 h)
rest-high-zero m K k j r y6 h A M w =
    let e = Ieee.add binary64 r.exponent (log2_r_td r.index).2 in
    let E = high_is k r A in
    let n = nat_abs j * 64 in
    let small : n < 2 ^ 53 = omega (arith, M.few) in
    let s = unlike (sign y6) (sign e) in
    let turned : (n ≡ 0) ⊎ (not (negative j) ≡ not s) =
    ⊎_elim inl (λ p. inr (ap not (sym p ∙ unlike-comm (sign e) (sign y6)))) (multiple-sign k j y6 e M E) in
    let product : IsProduct y6 e n = mul_comm (num y6) (num e) ∙ multiple k j y6 e M E ∙ ap (λ (i : ℕ). n * i) (mul_comm (den e) (den y6)) in
    let minus : Is (Ieee.neg h) (not (negative j)) n 1 = neg_is h (negative j) n 1 w in
    fma-cancels m.fma K.fma_exact y6 e (Ieee.neg h) n M.within (within 400 e (negative k) (nat_abs k) 1 (lit≤ tt) (lit≤ tt) (le_trans A.few (lit≤ tt)) E)
    (within 512 (Ieee.neg h) (not (negative j)) n 1 (lit≤ tt) (lit≤ tt) (le_trans (le_of_lt small) (lit≤ tt)) minus) small product
    (turn (Ieee.neg h) (not (negative j)) (not s) n 1 turned minus)

-- nothing, in all
pub rest-zero : (m : Scalar) → ScalarRules m → (k : ℤ) (r : Reduced) (y6 high : Float) → At k r → Within 400 y6 → IsZero high → IsZero (rest m r y6 high)
rest-zero m K k r y6 high A W H =
    let t = (log2_r_td r.index).1 in
    let Z : IsZero t = subst (λ (i : ℕ). IsZero (log2_r_td i).1) (sym A.index) parts-zero.0 in
    let i = m.fma r.dx r.p t in
    let inner : IsZero i = same-zero i t (fma-zero-left m.fma K.fma_exact r.dx r.p t A.dx A.p (zero-within 512 t Z)) Z.1 in
    same-zero (rest m r y6 high) high (fma-zero-right m.fma K.fma_exact y6 i high W inner (zero-within 512 high H)) H.1

-- ---- 2^0

pub exp-poly-zero : (m : Scalar) → ScalarRules m → (x : Float) → IsZero x → exp_poly m x ≡ unit
unfolding exp_poly Ieee.of_bits fits
exp-poly-zero m K x Z = alike-other (exp_poly m x) unit (six-zero (f64-at-zero m K) x _ _ _ _ _ _ Z tt tt tt tt tt tt).1 (λ z. omega arith)
