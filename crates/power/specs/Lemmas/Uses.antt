-- How a caller uses the rule of fma, on numbers given as fractions. Assumes nothing.
use Rattle.std.specs.Prelude.{◌≡◌, ℕ, ◌+◌, ◌-◌, ◌*◌, ◌^◌, ◌<◌, ◌≤◌, Bool, ◌⊎◌, Float}
use Rattle.std.proofs.Common.{sym, ap, ◌∙◌, subst, inl, inr, ⊎_elim, le_trans, le_of_eq, lt_of_lt_of_le, mul_assoc, mul_comm, mul_left_comm, mul-one, one-mul, zero-mul, mul-pos, mul-le-mul_right, mul-le-mul_left, eq-zero-or-pos, arith, pow-add, pow_pos, pow_mono, shl_lt}
use Rattle.std.specs.Float.{binary64}
use Rattle.std.specs.Float.Ieee.{unlike, round}
use Rattle.std.specs.Float.Ieee.Digits.{back}
use Rattle.std.specs.Float.Ieee.Fits.{round-fits}
use Rattle.std.specs.Float.Ieee.Exact.{round_exact}
use Rattle.power.specs.Rules.{FmaExact, Is, IsSum, Product, MulAdd, Within, sign, num, den}
use Rattle.power.specs.Lemmas.Values.{den_pos, cross, number, signs, turn_is, value→is, scale-is, scale-sum, resign}
use Rattle.power.specs.Lemmas.Unique.{no-factor}

-- ---- numbers given as fractions

-- a fraction of at most 53 digits over a power of two is a value of f64
pub dyadic : (s : Bool) (n j : ℕ) → n < 2 ^ 53 → j ≤ 1074 → Is (round binary64 s n (2 ^ j)) s n (2 ^ j)
dyadic s n j h k =
    let e : n * 2 ^ 1074 ≡ n * 2 ^ (1074 - j) * 2 ^ j =
    ap (λ (x : ℕ). n * 2 ^ x) (sym (back 1074 j k)) ∙ ap (λ (x : ℕ). n * x) (pow-add 2 (1074 - j) j) ∙ sym (mul_assoc n (2 ^ (1074 - j)) (2 ^ j)) in
    let top : 53 + (1074 - j) ≤ 1074 + 1024 = omega arith in
    value→is (round binary64 s n (2 ^ j)) s n (2 ^ j) (round-fits binary64 s n (2 ^ j))
    (round_exact binary64 s n (2 ^ j) n (1074 - j) (pow_pos j) h (lt_of_lt_of_le (shl_lt 53 (1074 - j) h) (pow_mono top)) e)

low_end : (a b n d k : ℕ) → 0 < n → d ≤ k → a * d ≡ n * b → b ≤ a * k
low_end a b n d k N h e = le_trans (le_trans (le_of_eq (sym (one-mul b))) (mul-le-mul_right b N)) (le_trans (le_of_eq (sym e)) (mul-le-mul_left a h))

high_end : (a b n d k : ℕ) → 0 < d → n ≤ k → a * d ≡ n * b → a ≤ k * b
high_end a b n d k D h e = le_trans (le_trans (le_of_eq (sym (mul-one a))) (mul-le-mul_left a D)) (le_trans (le_of_eq e) (mul-le-mul_right b h))

-- a / b, which is n / d, is 0 if n is
none : (n d a b : ℕ) → 0 < d → a * d ≡ n * b → n ≡ 0 → a ≡ 0
none n d a b D e z = no-factor a d D (e ∙ ap (λ (x : ℕ). x * b) z ∙ zero-mul b)

-- n / d is within 2^±k if n and d are at most 2^k
pub within : (k : ℕ) (x : Float) (s : Bool) (n d : ℕ) → 0 < d → d ≤ 2 ^ k → n ≤ 2 ^ k → Is x s n d → Within k x
within k x s n d D h l w =
    let e = cross x s n d w in
    let size : (num x ≡ 0) ⊎ ((den x ≤ num x * 2 ^ k) × (num x ≤ 2 ^ k * den x)) =
    ⊎_elim (λ z. inl (none n d (num x) (den x) D e z)) (λ N. inr (low_end (num x) (den x) n d (2 ^ k) N h e, high_end (num x) (den x) n d (2 ^ k) D l e)) (eq-zero-or-pos n) in
    (number x s n d w, size)

-- ---- products and sums of fractions

two-terms : (n k g d e na da nb db dc : ℕ) → na * d ≡ n * da → nb * e ≡ k * db → n * k * g * (da * db * dc) ≡ na * nb * dc * (d * e * g)
two-terms n k g d e na da nb db dc p q =
    let l : n * k * g * (da * db * dc) ≡ n * da * (k * db) * (g * dc) = simp (mul_assoc, mul_left_comm) in
    let r : na * nb * dc * (d * e * g) ≡ na * d * (nb * e) * (g * dc) = simp (mul_assoc, mul_comm, mul_left_comm) in
    l ∙ ap (λ (x : ℕ). x * (k * db) * (g * dc)) (sym p) ∙ ap (λ (x : ℕ). na * d * x * (g * dc)) (sym q) ∙ sym r

one-term : (l d e g nc da db dc : ℕ) → nc * g ≡ l * dc → l * (d * e) * (da * db * dc) ≡ nc * (da * db) * (d * e * g)
one-term l d e g nc da db dc p =
    let a : l * (d * e) * (da * db * dc) ≡ l * dc * (d * e * (da * db)) = simp (mul_assoc, mul_comm, mul_left_comm) in
    let b : nc * (da * db) * (d * e * g) ≡ nc * g * (d * e * (da * db)) = simp (mul_assoc, mul_comm, mul_left_comm) in
    a ∙ ap (λ (x : ℕ). x * (d * e * (da * db))) (sym p) ∙ sym b

pub product-terms : (n k d e na da nb db : ℕ) → na * d ≡ n * da → nb * e ≡ k * db → n * k * (da * db) ≡ na * nb * (d * e)
product-terms n k d e na da nb db p q =
    let l : n * k * (da * db) ≡ n * da * (k * db) = simp (mul_assoc, mul_left_comm) in
    let r : na * nb * (d * e) ≡ na * d * (nb * e) = simp (mul_assoc, mul_comm, mul_left_comm) in
    l ∙ ap (λ (x : ℕ). x * (k * db)) (sym p) ∙ ap (λ (x : ℕ). na * d * x) (sym q) ∙ sym r

-- a product with a zero
nothing : (n d na da nb : ℕ) → 0 < d → na * d ≡ n * da → n ≡ 0 → na * nb ≡ 0
nothing n d na da nb D p z = ap (λ (x : ℕ). x * nb) (none n d na da D p z) ∙ zero-mul nb

-- ---- fma

-- where a b and a b + c are values, fma answers a b + c
pub use-fma : (fma : Float → Float → Float → Float) → FmaExact fma → (a b c p r : Float) (s t u : Bool) (n d k e l g : ℕ)
    → 0 < d → 0 < e → 0 < g → d ≤ 2 ^ 400 → e ≤ 2 ^ 400 → g ≤ 2 ^ 512 → n ≤ 2 ^ 400 → k ≤ 2 ^ 400 → l ≤ 2 ^ 512
    → Is a s n d → Is b t k e → Is c u l g → sign b ≡ t → sign c ≡ u
    → Is p (unlike s t) (n * k) (d * e) → IsSum r (unlike s t) (n * k * g) u (l * (d * e)) (d * e * g)
    → IsSum (fma a b c) (unlike s t) (n * k * g) u (l * (d * e)) (d * e * g)
use-fma fma R a b c p r s t u n d k e l g D E G d-le e-le g-le n-le k-le l_le A B C b-sign c-sign P S =
    let N = num a * num b in
    let M = den a * den b in
    let v = unlike (sign a) (sign b) in
    let a-is = cross a s n d A in
    let b-is = cross b t k e B in
    let terms-pos = mul-pos (mul-pos (den_pos a) (den_pos b)) (den_pos c) in
    let fraction-pos = mul-pos (mul-pos D E) G in
    let first = two-terms n k g d e (num a) (den a) (num b) (den b) (den c) a-is b-is in
    let second = one-term l d e g (num c) (den a) (den b) (den c) (cross c u l g C) in
    let sign-is : (N ≡ 0) ⊎ (unlike s t ≡ v) =
    ⊎_elim (λ z. inl (nothing n d (num a) (den a) (num b) D a-is z)) (λ h. inr (λ i. unlike (sym h i) (sym b-sign i))) (signs a s n d A) in
    let turned : (N * den c ≡ 0) ⊎ (unlike s t ≡ v) = ⊎_elim (λ z. inl (ap (λ (x : ℕ). x * den c) z ∙ zero-mul (den c))) inr sign-is in
    let back' : (N * den c ≡ 0) ⊎ (v ≡ unlike s t) = ⊎_elim inl (λ h. inr (sym h)) turned in
    let scaled : Is p (unlike s t) N M = scale-is p (unlike s t) (n * k) (d * e) N M (mul-pos D E) (product-terms n k d e (num a) (den a) (num b) (den b) a-is b-is) P in
    let product : Product a b p = ⊎_elim (λ z. turn_is p (unlike s t) v N N M z z scaled) (λ h. subst (λ (w : Bool). Is p w N M) h scaled) sign-is in
    let there : MulAdd a b c r =
    subst (λ (w : Bool). IsSum r v (N * den c) w (num c * M) (M * den c)) (sym c-sign)
    (resign r (unlike s t) v u (N * den c) (num c * M) (M * den c) turned
    (scale-sum r (unlike s t) u (n * k * g) (l * (d * e)) (d * e * g) (N * den c) (num c * M) (M * den c) fraction-pos terms-pos first second S)) in
    let z = fma a b c in
    let got : MulAdd a b c z = R a b c p r (within 400 a s n d D d-le n-le A) (within 400 b t k e E e-le k-le B) (within 512 c u l g G g-le l_le C) product there in
    scale-sum z (unlike s t) u (N * den c) (num c * M) (M * den c) (n * k * g) (l * (d * e)) (d * e * g) terms-pos fraction-pos (sym first) (sym second)
    (resign z v (unlike s t) u (N * den c) (num c * M) (M * den c) back'
    (subst (λ (w : Bool). IsSum z v (N * den c) w (num c * M) (M * den c)) c-sign got))
