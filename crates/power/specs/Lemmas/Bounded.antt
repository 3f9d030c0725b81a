-- Magnitudes at most 2^k: rounding keeps the bound, so a product or a sum below 2^1024 does not overflow. Assumes nothing.
use Rattle.std.specs.Prelude.{◌≡◌, ℕ, suc, ◌+◌, ◌-◌, ◌*◌, ◌/◌, ◌^◌, ◌<◌, ◌≤◌, Bool, true, false, cond, ◌&&◌, T, nat_lt, Float}
use Rattle.std.proofs.Common.{sym, ap, ◌∙◌, subst, inl, inr, le_trans, le_of_eq, lt_of_le_of_lt, div-one, two-mul, add-mul, mul_assoc, mul_comm, mul_left_comm, mul_right_comm, mul-one, mul-pos, mul-le-mul, mul-le-mul_right, le_of_mul-le-mul_right, arith, pow-add, pow_pos, pow_mono}
use Rattle.std.specs.Bool.{beq}
use Prim.Native.Nat.{zero-le, compare}
use Rattle.std.proofs.Math.Nat.{div-le_of_le-mul, mod-one, pow-succ'}
use Rattle.std.proofs.Math.Pow.{pow-lt}
use Rattle.std.specs.Float.{Format, nan, inf, fin, binary64}
use Rattle.std.specs.Float.Ieee.{prec, emax, low, up, down, unlike, size, nearest, round, neg, sum, add, sub, mul, fits}
use Rattle.std.specs.Float.Ieee.Digits.{back, size-le}
use Rattle.std.specs.Float.Ieee.Fits.{down_pos, round-fits, round_is}
use Rattle.std.specs.Float.Ieee.Exact.{HasValue, units_val}
use Rattle.std.specs.Float.Ieee.Nearest.{closest, closest_mono}
use Rattle.std.specs.Float.Ieee.Order.{drop, kept}
use Rattle.std.specs.Float.Ieee.Scale.{grid}
use Rattle.power.specs.Rules.{Number, Within, num, den}
use Rattle.power.specs.Lemmas.Zeros.{neg-number}

abbrev pub Bounded : ℕ → Float → Type 0
Bounded k x = Number x × (num x ≤ 2 ^ k * den x)

-- ---- rounding

closest-whole : (n : ℕ) → closest n 1 ≡ n
closest-whole n = ap (λ (r : ℕ). nearest (n / 1) (compare (r * 2) 1)) (mod-one n) ∙ div-one n

spare : (z p j : ℕ) → 0 < p → z ≤ suc j → z - p ≤ j
spare z p j P h = omega arith

-- n / d rounded to p digits, for an n / d of at most 2^j
kept-le : (p n d j : ℕ) → 0 < p → 0 < d → n ≤ 2 ^ j * d → kept p n d * 2 ^ drop p n d ≤ 2 ^ j
kept-le p n d j P D h =
    let k = drop p n d in
    let few : size (n / d) ≤ suc j = size-le (n / d) (suc j) (lt_of_le_of_lt (div-le_of_le-mul d (le_trans h (le_of_eq (mul_comm (2 ^ j) d)))) (pow-lt (omega arith))) in
    let le : k ≤ j = spare (size (n / d)) p j P few in
    let split : 2 ^ (j - k) * 2 ^ k ≡ 2 ^ j = sym (pow-add 2 (j - k) k) ∙ ap (λ (x : ℕ). 2 ^ x) (back j k le) in
    let same : 2 ^ j * d ≡ 2 ^ (j - k) * (d * 2 ^ k) = ap (λ (x : ℕ). x * d) (sym split) ∙ mul_assoc (2 ^ (j - k)) (2 ^ k) d ∙ ap (λ (x : ℕ). 2 ^ (j - k) * x) (mul_comm (2 ^ k) d) in
    let below : n * 1 ≤ 2 ^ (j - k) * (d * 2 ^ k) = le_trans (le_of_eq (mul-one n)) (le_trans h (le_of_eq same)) in
    let one : kept p n d ≤ 2 ^ (j - k) = le_trans (closest_mono n (d * 2 ^ k) (2 ^ (j - k)) 1 (mul-pos D (pow_pos k)) (omega arith) below) (le_of_eq (closest-whole (2 ^ (j - k)))) in
    le_trans (mul-le-mul_right (2 ^ k) one) (le_of_eq split)

round-value : (f : Format) (s : Bool) (n d : ℕ) → grid f n d < 2 ^ (low f + suc (emax f)) → HasValue (round f s n d) s (grid f n d) (2 ^ low f)
round-value f s n d h =
    subst (λ (x : Float). HasValue x s (grid f n d) (2 ^ low f)) (sym (round_is f s n d)) (units_val f s (kept (prec f) (n * 2 ^ low f) d) (drop (prec f) (n * 2 ^ low f) d) h)

-- N / D, which is g / l, is at most b if g / l is
bound-back : (N D g l b : ℕ) → 0 < l → N * l ≡ g * D → g ≤ b * l → N ≤ b * D
bound-back N D g l b L e h = le_of_mul-le-mul_right (le_trans (le_of_eq e) (le_trans (mul-le-mul_right D h) (le_of_eq (mul_right_comm b l D)))) L

bounded-value : (x : Float) (s : Bool) (g l k : ℕ) → 0 < l → T (fits binary64 x) → HasValue x s g l → g ≤ 2 ^ k * l → Bounded k x
bounded-value nan s g l k L t v h = absurd v
bounded-value (inf u) s g l k L t v h = absurd v
bounded-value (fin u m e) s g l k L t v h = (t, bound-back (m * up e) (down e) g l (2 ^ k) L v.1 h)

round-bounded : (s : Bool) (n d k : ℕ) → 0 < d → k ≤ 1023 → n ≤ 2 ^ k * d → Bounded k (round binary64 s n d)
round-bounded s n d k D top h =
    let l = low binary64 in
    let scaled : n * 2 ^ l ≤ 2 ^ (k + l) * d =
    le_trans (mul-le-mul_right (2 ^ l) h) (le_of_eq (mul_right_comm (2 ^ k) d (2 ^ l) ∙ ap (λ (x : ℕ). x * d) (sym (pow-add 2 k l)))) in
    let le : grid binary64 n d ≤ 2 ^ (k + l) = kept-le 53 (n * 2 ^ l) d (k + l) (omega arith) D scaled in
    let in-range : k + l < l + 1024 = omega arith in
    bounded-value (round binary64 s n d) s (grid binary64 n d) (2 ^ l) k (pow_pos l) (round-fits binary64 s n d)
    (round-value binary64 s n d (lt_of_le_of_lt le (pow-lt in-range))) (le_trans le (le_of_eq (pow-add 2 k l)))

-- ---- products and sums

product_le : (a b c d p q : ℕ) → a ≤ p * c → b ≤ q * d → a * b ≤ p * q * (c * d)
product_le a b c d p q h k =
    let same : p * c * (q * d) ≡ p * q * (c * d) = simp (mul_assoc, mul_comm, mul_left_comm) in
    le_trans (mul-le-mul h k) (le_of_eq same)

pub mul-bounded : (j k : ℕ) (x y : Float) → j + k ≤ 1023 → Bounded j x → Bounded k y → Bounded (j + k) (mul binary64 x y)
unfolding mul
mul-bounded j k nan y t X Y = absurd X.0
mul-bounded j k (inf s) y t X Y = absurd X.0
mul-bounded j k (fin s m e) nan t X Y = absurd Y.0
mul-bounded j k (fin s m e) (inf u) t X Y = absurd Y.0
mul-bounded j k (fin s m e) (fin u n d) t X Y =
    round-bounded (unlike s u) (m * up e * (n * up d)) (down e * down d) (j + k) (mul-pos (down_pos e) (down_pos d)) t
    (le_trans (product_le (m * up e) (n * up d) (down e) (down d) (2 ^ j) (2 ^ k) X.1 Y.1) (le_of_eq (ap (λ (x : ℕ). x * (down e * down d)) (sym (pow-add 2 j k)))))

double : (k c : ℕ) → 2 ^ suc k * c ≡ 2 ^ k * c + 2 ^ k * c
double k c = ap (λ (x : ℕ). x * c) (pow-succ' 2 k ∙ two-mul (2 ^ k)) ∙ add-mul (2 ^ k) (2 ^ k) c

sum-bounded : (s t : Bool) (a b c k : ℕ) → 0 < c → suc k ≤ 1023 → a ≤ 2 ^ k * c → b ≤ 2 ^ k * c → Bounded (suc k) (sum binary64 s a t b c)
unfolding sum
sum-bounded s t a b c k C top p q = go (beq s t) (nat_lt a b)
  where
    go : (u v : Bool) → Bounded (suc k) (cond u (round binary64 s (a + b) c) (cond v (round binary64 t (b - a) c) (round binary64 (s && nat_lt b a) (a - b) c)))
    go true v = round-bounded s (a + b) c (suc k) C top (omega (arith, double k c))
    go false true = round-bounded t (b - a) c (suc k) C top (omega (arith, double k c))
    go false false = round-bounded (s && nat_lt b a) (a - b) c (suc k) C top (omega (arith, double k c))

pub add-bounded : (k : ℕ) (x y : Float) → suc k ≤ 1023 → Bounded k x → Bounded k y → Bounded (suc k) (add binary64 x y)
unfolding add
add-bounded k nan y t X Y = absurd X.0
add-bounded k (inf s) y t X Y = absurd X.0
add-bounded k (fin s m e) nan t X Y = absurd Y.0
add-bounded k (fin s m e) (inf u) t X Y = absurd Y.0
add-bounded k (fin s m e) (fin u n d) t X Y =
    let first : m * up e * down d ≤ 2 ^ k * (down e * down d) = le_trans (mul-le-mul_right (down d) X.1) (le_of_eq (mul_assoc (2 ^ k) (down e) (down d))) in
    let second : n * up d * down e ≤ 2 ^ k * (down e * down d) =
    le_trans (mul-le-mul_right (down e) Y.1) (le_of_eq (mul_assoc (2 ^ k) (down d) (down e) ∙ ap (λ (x : ℕ). 2 ^ k * x) (mul_comm (down d) (down e)))) in
    sum-bounded s u (m * up e * down d) (n * up d * down e) (down e * down d) k (mul-pos (down_pos e) (down_pos d)) t first second

neg-bounded : (k : ℕ) (x : Float) → Bounded k x → Bounded k (neg x)
unfolding neg
neg-bounded k nan X = X
neg-bounded k (inf s) X = X
neg-bounded k (fin s m e) X = (neg-number (fin s m e) X.0, X.1)

pub sub-bounded : (k : ℕ) (x y : Float) → suc k ≤ 1023 → Bounded k x → Bounded k y → Bounded (suc k) (sub binary64 x y)
unfolding sub
sub-bounded k x y t X Y = add-bounded k x (neg y) t X (neg-bounded k y Y)

pub bounded-more : (j k : ℕ) (x : Float) → j ≤ k → Bounded j x → Bounded k x
bounded-more j k x h X = (X.0, le_trans X.1 (mul-le-mul_right (den x) (pow_mono h)))

pub within-bounded : (k : ℕ) (x : Float) → Within k x → Bounded k x
within-bounded k x (N, inl z) = (N, subst (λ (n : ℕ). n ≤ 2 ^ k * den x) (sym z) zero-le)
within-bounded k x (N, inr h) = (N, h.1)
