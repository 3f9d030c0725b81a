-- Where a product or a sum is a value of f64, the operation answers it. Assumes nothing.
use Rattle.std.specs.Prelude.{◌≡◌, ℕ, ◌+◌, ◌-◌, ◌*◌, ◌<◌, ◌≤◌, Bool, true, false, cond, ◌&&◌, ℤ, nat_lt, refl, Float}
use Rattle.std.proofs.Common.{sym, ap, subst, mul_assoc, mul_comm, mul_left_comm, mul-pos, arith, ltb-false}
use Rattle.std.specs.Bool.{beq}
use Rattle.std.specs.Float.{nan, inf, fin, binary64}
use Rattle.std.specs.Float.Ieee.{up, down, unlike, round, sum, add, mul}
use Rattle.std.specs.Float.Ieee.Fits.{down_pos}
use Rattle.std.specs.Float.Ieee.Exact.{HasValue}
use Rattle.power.specs.Rules.{Is, IsSum, Product, MulAdd, Number}
use Rattle.power.specs.Lemmas.Values.{round-is-value, round-is-same, turn_is, scale-sum}

-- ---- sums

none_left : (a b : ℕ) → a ≤ b → a - b ≡ 0
none_left a b h = omega arith

-- `sum` answers a sum that some y is
pub sum-is-same : (y : Float) (s t : Bool) (a b d : ℕ) → 0 < d → IsSum y s a t b d → IsSum (sum binary64 s a t b d) s a t b d
unfolding sum
sum-is-same y s t a b d D w = go (beq s t) (nat_lt a b) w
  where
    last : (q : Bool) → nat_lt b a ≡ q → Is y s (a - b) d → (u : Bool) → u ≡ s → Is (round binary64 (u && q) (a - b) d) s (a - b) d
    last true e w true h = subst (λ (v : Bool). Is (round binary64 true (a - b) d) v (a - b) d) h (round-is-same y true (a - b) d D (subst (λ (v : Bool). Is y v (a - b) d) (sym h) w))
    last true e w false h = subst (λ (v : Bool). Is (round binary64 false (a - b) d) v (a - b) d) h (round-is-same y false (a - b) d D (subst (λ (v : Bool). Is y v (a - b) d) (sym h) w))
    last false e w u h =
        let z = none_left a b (ltb-false b a e) in
        turn_is (round binary64 (u && false) (a - b) d) (u && false) s (a - b) (a - b) d z z (round-is-same y (u && false) (a - b) d D (turn_is y s (u && false) (a - b) (a - b) d z z w))

    go : (p q : Bool) → cond p (Is y s (a + b) d) (cond q (Is y t (b - a) d) (Is y s (a - b) d))
        → cond p (Is (cond p (round binary64 s (a + b) d) (cond q (round binary64 t (b - a) d) (round binary64 (s && nat_lt b a) (a - b) d))) s (a + b) d)
        (cond q (Is (cond p (round binary64 s (a + b) d) (cond q (round binary64 t (b - a) d) (round binary64 (s && nat_lt b a) (a - b) d))) t (b - a) d)
        (Is (cond p (round binary64 s (a + b) d) (cond q (round binary64 t (b - a) d) (round binary64 (s && nat_lt b a) (a - b) d))) s (a - b) d))
    go true q w = round-is-same y s (a + b) d D w
    go false true w = round-is-same y t (b - a) d D w
    go false false w = last (nat_lt b a) refl w s refl

-- ---- a product, and then a sum

-- of n / D, which is k / g, to the denominators D c and g c
first-term : (n k c g D : ℕ) → k * D ≡ n * g → n * c * (g * c) ≡ k * c * (D * c)
first-term n k c g D h = simp (mul_assoc, mul_comm) (simp (mul_assoc, mul_comm, mul_left_comm) at (ap (λ (z : ℕ). z * (c * c)) (sym h)))

second-term : (b c g D : ℕ) → b * D * (g * c) ≡ b * g * (D * c)
second-term b c g D = simp (mul_assoc, mul_comm, mul_left_comm)

then-add : (x : Float) (s : Bool) (n D : ℕ) (u : Bool) (k : ℕ) (g : ℤ) (r : Float) → 0 < D → HasValue x s n D
    → IsSum r s (n * down g) u (k * up g * D) (D * down g) → IsSum (add binary64 x (fin u k g)) s (n * down g) u (k * up g * D) (D * down g)
unfolding add
then-add nan s n D u k g r P v w = absurd v
then-add (inf t) s n D u k g r P v w = absurd v
then-add (fin t m e) s n D u k g r P v w =
    let a = m * up e * down g in
    let b = k * up g * down e in
    let d = down e * down g in
    let d-pos = mul-pos (down_pos e) (down_pos g) in
    let first = first-term n (m * up e) (down g) (down e) D v.1 in
    let second = second-term (k * up g) (down g) (down e) D in
    let there : IsSum r s a u b d = scale-sum r s u (n * down g) (k * up g * D) (D * down g) a b d (mul-pos P (down_pos g)) d-pos first second w in
    let at : IsSum (sum binary64 s a u b d) s a u b d = sum-is-same r s u a b d d-pos there in
    scale-sum (sum binary64 t a u b d) s u a b d (n * down g) (k * up g * D) (D * down g) d-pos (mul-pos P (down_pos g)) (sym first) (sym second)
    (subst (λ (z : Bool). IsSum (sum binary64 z a u b d) s a u b d) (sym v.0) at)

-- a b + c by a product and a sum, where both are values
pub twice-rounded : (a b c p r : Float) → Number a → Number b → Number c → Product a b p → MulAdd a b c r → MulAdd a b c (add binary64 (mul binary64 a b) c)
unfolding mul
twice-rounded nan b c p r A B C w v = absurd A
twice-rounded (inf s) b c p r A B C w v = absurd A
twice-rounded (fin s m e) nan c p r A B C w v = absurd B
twice-rounded (fin s m e) (inf t) c p r A B C w v = absurd B
twice-rounded (fin s m e) (fin t n d) nan p r A B C w v = absurd C
twice-rounded (fin s m e) (fin t n d) (inf u) p r A B C w v = absurd C
twice-rounded (fin s m e) (fin t n d) (fin u k g) p r A B C w v =
    let N = m * up e * (n * up d) in
    let D = down e * down d in
    let D-pos = mul-pos (down_pos e) (down_pos d) in
    then-add (round binary64 (unlike s t) N D) (unlike s t) N D u k g r D-pos (round-is-value p (unlike s t) N D D-pos w) v
