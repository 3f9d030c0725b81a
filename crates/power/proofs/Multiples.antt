-- Products k y = j of whole numbers k and j and a fraction y = ±N / D: sizes, signs, and what they give. Assumes nothing.
use Rattle.std.proofs.Common.{◌≡◌, ℕ, zero, suc, ◌+◌, ◌*◌, ◌^◌, ◌<◌, Bool, true, false, not, ◌⊎◌, ℤ, pos, negsuc, ◌+ℤ◌, ◌*ℤ◌, neg_ℤ, nat_abs, sym, refl, ap, ◌∙◌, inl, inr, ⊎_elim, le_trans, le_of_eq, lt_of_lt_of_le, lt_irrefl, mul-le-mul_right, mul_assoc, mul_comm, lt_of_mul-lt-mul_right, mul-pos, one-mul, zero-mul, mul-one, arith, pow-add}
use native.Mathlib.Nat.{eq_of_mul-eq-mul_right}
use lib.IntN.{pos-ne-negsuc, neg_ℤ-neg_ℤ}
use lib.Ieee.{up, down, unlike}
use Rattle.pairs.proofs.Integers.{abs_neg}
use Rattle.power.specs.ExactCases.{signedℤ}
use Rattle.power.specs.Lemmas.Unique.{no-factor}

abbrev pub negative : ℤ → Bool
negative (pos n) = false
negative (negsuc n) = true

-- ---- sizes

abs-signed : (s : Bool) (z : ℤ) → nat_abs (signedℤ s z) ≡ nat_abs z
abs-signed true z = abs_neg z
abs-signed false z = refl

abs-times : (k : ℤ) (n : ℕ) → nat_abs (k *ℤ pos n) ≡ nat_abs k * n
abs-times (pos a) n = refl
abs-times (negsuc a) n = abs_neg (pos (suc a * n))

pub sizes : (s : Bool) (k j : ℤ) (N D : ℕ) → signedℤ s (k *ℤ pos N) ≡ j *ℤ pos D → nat_abs k * N ≡ nat_abs j * D
sizes s k j N D e = sym (abs-times k N) ∙ sym (abs-signed s (k *ℤ pos N)) ∙ ap nat_abs e ∙ abs-times j D

-- ---- signs

-- z is zero, or negative as s says
abbrev Signed : Bool → ℤ → Type 0
Signed s z = (nat_abs z ≡ 0) ⊎ (negative z ≡ s)

signed-neg : (s : Bool) (z : ℤ) → Signed s z → Signed (not s) (neg_ℤ z)
signed-neg s (pos zero) h = inl refl
signed-neg s (pos (suc n)) (inl z) = inl z
signed-neg s (pos (suc n)) (inr e) = inr (ap not e)
signed-neg s (negsuc n) (inl z) = inl z
signed-neg s (negsuc n) (inr e) = inr (ap not e)

signed-times : (k : ℤ) (n : ℕ) → Signed (negative k) (k *ℤ pos n)
signed-times (pos a) n = inr refl
signed-times (negsuc a) n = signed-neg false (pos (suc a * n)) (inr refl)

signed_product : (s t : Bool) (z : ℤ) → Signed t z → Signed (unlike t s) (signedℤ s z)
signed_product true true z h = signed-neg true z h
signed_product true false z h = signed-neg false z h
signed_product false true z h = h
signed_product false false z h = h

pub signs : (s : Bool) (k j : ℤ) (N D : ℕ) → 0 < D → signedℤ s (k *ℤ pos N) ≡ j *ℤ pos D → (nat_abs j ≡ 0) ⊎ (unlike (negative k) s ≡ negative j)
signs s k j N D D-pos e = ⊎_elim none (λ p. ⊎_elim none (λ q. inr (sym p ∙ ap negative e ∙ q)) (signed-times j D)) left
  where
    left : (nat_abs (j *ℤ pos D) ≡ 0) ⊎ (negative (signedℤ s (k *ℤ pos N)) ≡ unlike (negative k) s)
    left = ⊎_elim (λ z. inl (sym (ap nat_abs e) ∙ z)) inr (signed_product s (negative k) (k *ℤ pos N) (signed-times k N))

    none : nat_abs (j *ℤ pos D) ≡ 0 → (nat_abs j ≡ 0) ⊎ (unlike (negative k) s ≡ negative j)
    none z = inl (no-factor (nat_abs j) D D-pos (sym (abs-times j D) ∙ z))

-- the sign goes to the whole number
pub times-signed : (s : Bool) (k : ℤ) (N : ℕ) → signedℤ s (k *ℤ pos N) ≡ signedℤ s k *ℤ pos N
times-signed false k N = refl
times-signed true (pos zero) N = ap (λ (x : ℕ). neg_ℤ (pos x)) (zero-mul N) ∙ ap pos (sym (zero-mul N))
times-signed true (pos (suc a)) N = refl
times-signed true (negsuc a) N = neg_ℤ-neg_ℤ (pos (suc a * N))

-- ---- 0

pub times_zero : (s : Bool) (N D : ℕ) → signedℤ s (pos 0 *ℤ pos N) ≡ pos 0 *ℤ pos D
times_zero true N D = ap (λ (x : ℕ). neg_ℤ (pos x)) (zero-mul N) ∙ ap pos (sym (zero-mul D))
times_zero false N D = ap pos (zero-mul N ∙ sym (zero-mul D))

-- k y = j is 0 where k or y is
pub no-product : (s : Bool) (k j : ℤ) (N D : ℕ) → 0 < D → nat_abs k * N ≡ 0 → signedℤ s (k *ℤ pos N) ≡ j *ℤ pos D → j ≡ pos 0
no-product s k j N D D-pos z e = is_zero j (no-factor (nat_abs j) D D-pos (sym (sizes s k j N D e) ∙ z))
  where
    is_zero : (j : ℤ) → nat_abs j ≡ 0 → j ≡ pos 0
    is_zero (pos b) h = ap pos h
    is_zero (negsuc b) h = absurd (omega arith)

-- ---- a positive y

apart : (a b : ℕ) → 0 < b → pos a ≡ neg_ℤ (pos b) → ⊥
apart a zero B e = lt_irrefl 0 B
apart a (suc b) B e = pos-ne-negsuc a b e

some_of : (a n : ℕ) → 0 < n → 0 < suc a * n
some_of a n N = mul-pos (omega arith) N

same-below : (a b : ℕ) → neg_ℤ (pos a) ≡ neg_ℤ (pos b) → a ≡ b
same-below a b e = sym (abs_neg (pos a)) ∙ ap nat_abs e ∙ abs_neg (pos b)

-- k and j have one sign: k = ±a and j = ±b with a N = b D
pub one-sign : (P : ℤ → ℤ → Type 0) (N D : ℕ) → 0 < N → 0 < D → ((a b : ℕ) → a * N ≡ b * D → P (pos a) (pos b)) → ((a b : ℕ) → suc a * N ≡ suc b * D → P (negsuc a) (negsuc b))
    → (k j : ℤ) → k *ℤ pos N ≡ j *ℤ pos D → P k j
one-sign P N D N-pos D-pos p n (pos a) (pos b) e = p a b (ap nat_abs e)
one-sign P N D N-pos D-pos p n (pos a) (negsuc b) e = absurd (apart (a * N) (suc b * D) (some_of b D D-pos) e)
one-sign P N D N-pos D-pos p n (negsuc a) (pos b) e = absurd (apart (b * D) (suc a * N) (some_of a N N-pos) (sym e))
one-sign P N D N-pos D-pos p n (negsuc a) (negsuc b) e = n a b (same-below (suc a * N) (suc b * D) e)

-- ---- a whole y

cancelled : (a b n N D : ℕ) → 0 < D → N ≡ n * D → a * N ≡ b * D → b ≡ a * n
cancelled a b n N D D-pos w e = eq_of_mul-eq-mul_right D D-pos b (a * n) (sym e ∙ ap (λ (x : ℕ). a * x) w ∙ sym (mul_assoc a n D))

pub times-whole : (k j : ℤ) (N D n : ℕ) → 0 < N → 0 < D → N ≡ n * D → k *ℤ pos N ≡ j *ℤ pos D → j ≡ k *ℤ pos n
times-whole k j N D n N-pos D-pos w e =
    one-sign (λ k j. j ≡ k *ℤ pos n) N D N-pos D-pos
    (λ a b h. ap pos (cancelled a b n N D D-pos w h))
    (λ a b h. ap (λ (x : ℕ). neg_ℤ (pos x)) (cancelled (suc a) (suc b) n N D D-pos w h)) k j e

pub times-one : (k : ℤ) → k *ℤ pos 1 ≡ k
times-one (pos a) = ap pos (mul-one a)
times-one (negsuc a) = ap (λ (x : ℕ). neg_ℤ (pos x)) (mul-one (suc a))

-- ---- a half

halved : (a b N D : ℕ) → 0 < N → N * 2 ≡ D → a * N ≡ b * D → a ≡ b + b
halved a b N D N-pos w e =
    let g : a * N ≡ b * 2 * N = e ∙ ap (λ (x : ℕ). b * x) (sym w ∙ mul_comm N 2) ∙ sym (mul_assoc b 2 N) in
    let h : a ≡ b * 2 = eq_of_mul-eq-mul_right N N-pos a (b * 2) g in
    omega arith

less_one : (a b : ℕ) → suc a ≡ suc b + suc b → a ≡ suc (b + b)
less_one a b e = omega arith

pub times-half : (k j : ℤ) (N D : ℕ) → 0 < N → 0 < D → N * 2 ≡ D → k *ℤ pos N ≡ j *ℤ pos D → k ≡ j +ℤ j
times-half k j N D N-pos D-pos w e =
    one-sign (λ k j. k ≡ j +ℤ j) N D N-pos D-pos
    (λ a b h. ap pos (halved a b N D N-pos w h))
    (λ a b h. ap negsuc (less_one a b (halved (suc a) (suc b) N D N-pos w h))) k j e

-- ---- a large y

-- b = a N / D is above c if N / D is, for an a above 0
pub larger : (a b c N D : ℕ) → 0 < a → c * D < N → a * N ≡ b * D → c < b
larger a b c N D A h e =
    lt_of_mul-lt-mul_right D (lt_of_lt_of_le h (le_trans (le_of_eq (sym (one-mul N))) (le_trans (mul-le-mul_right N A) (le_of_eq e))))

-- ---- 2^(k n) as a fraction

-- 2^-p
pub negative_power : (p : ℕ) → 0 < p → (up (neg_ℤ (pos p)) ≡ 1) × (down (neg_ℤ (pos p)) ≡ 2 ^ p)
negative_power zero h = absurd (lt_irrefl 0 h)
negative_power (suc p) h = (refl, refl)

double : (a : ℕ) → 2 ^ (a * 2) ≡ 2 ^ a * 2 ^ a
double a = ap (λ (x : ℕ). 2 ^ x) (twice a) ∙ pow-add 2 a a
  where
    twice : (a : ℕ) → a * 2 ≡ a + a
    twice a = omega arith

-- 2^k times 2^k is 2^(2k)
pub squared : (k : ℤ) → 1 * up k * (1 * up k) * down (k *ℤ pos 2) ≡ 1 * up (k *ℤ pos 2) * (down k * down k)
squared (pos a) = simp (mul-one, one-mul) (sym (double a))
squared (negsuc a) =
    let p = negative_power (suc a * 2) (some_of a 2 (omega arith)) in
    (λ i. 1 * 1 * (1 * 1) * p.1 i) ∙ simp one-mul (double (suc a)) ∙ (λ i. 1 * (sym p.0 i) * (2 ^ suc a * 2 ^ suc a))
