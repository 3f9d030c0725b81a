-- Values of f64 as fractions: `Is`, `IsSum`, and the fractions that `round` keeps as they are. Assumes nothing.
use Rattle.std.specs.Prelude.{◌≡◌, ℕ, zero, suc, ◌+◌, ◌-◌, ◌*◌, ◌%◌, ◌^◌, ◌<◌, ◌≤◌, Bool, true, false, cond, ◌&&◌, T, ltb, ◌⊎◌, ℤ, pos, negsuc, nat_eq, nat_le, nat_lt, refl, Float}
use Rattle.std.proofs.Common.{sym, ap, ◌∙◌, subst, inl, inr, ⊎_elim, not-le_of_lt, le_trans, le_of_eq, mul_assoc, mul_comm, mul_left_comm, mul_right_comm, mul-one, one-mul, zero-mul, add-mul, mul-pos, mul-le-mul_right, mul-lt-mul_of_pos_right, lt_of_mul-lt-mul_right, arith, ltb-true, ltb-false, eqb→eq, ltb→lt, leb→le, pow-add, pow_pos}
use Rattle.std.specs.Bool.{beq}
use Rattle.std.proofs.Math.Nat.{mul-sub, eq_of_mul-eq-mul_right}
use Rattle.std.specs.Float.{Format, nan, inf, fin, binary64}
use Rattle.std.specs.Float.Ieee.{prec, emax, low, up, down, round, fits}
use Rattle.std.specs.Float.Ieee.Digits.{back}
use Rattle.std.specs.Float.Ieee.Fits.{up_pos, down_pos, and_l, and_r, round-fits}
use Rattle.std.specs.Float.Ieee.Exact.{HasValue, round_exact}
use Rattle.pairs.proofs.Powers.{pow-le-inv}
use Rattle.power.specs.Rules.{Is, IsSum, Number, sign, num, den}

-- ---- what a value of a format keeps to

pub record Bounds (f : Format) (m : ℕ) (e : ℤ) : Type 0 where
  pub few : m < 2 ^ prec f
  pub fine : down e ≤ 2 ^ low f
  pub small : m * up e < 2 ^ suc (emax f) * down e

at_most_one : (u d : ℕ) → 0 < u → u * d ≡ 1 → d ≤ 1
at_most_one u d h e = le_trans (le_trans (le_of_eq (sym (one-mul d))) (mul-le-mul_right d h)) (le_of_eq e)

pub bounds : (f : Format) (s : Bool) (m : ℕ) (e : ℤ) → T (fits f (fin s m e)) → Bounds f m e
unfolding fits
bounds f s zero e t =
    let one : up e * down e ≡ 1 = eqb→eq (up e * down e) 1 t in
    record {
      few = pow_pos (prec f);
      fine = le_trans (at_most_one (up e) (down e) (up_pos e) one) (pow_pos (low f));
      small = subst (λ (x : ℕ). x < 2 ^ suc (emax f) * down e) (sym (zero-mul (up e))) (mul-pos (pow_pos (suc (emax f))) (down_pos e));
    }
bounds f s (suc m) e t =
    let a : Bool = nat_eq (suc m % 2) 1 in
    let b : Bool = ltb (suc m) (2 ^ prec f) in
    let c : Bool = nat_le (down e) (2 ^ low f) in
    let d : Bool = ltb (suc m * up e) (2 ^ suc (emax f) * down e) in
    record {
      few = ltb→lt (suc m) (2 ^ prec f) (and_r a b (and_l (a && b) c (and_l (a && b && c) d t)));
      fine = leb→le (down e) (2 ^ low f) (and_r (a && b) c (and_l (a && b && c) d t));
      small = ltb→lt (suc m * up e) (2 ^ suc (emax f) * down e) (and_r (a && b && c) d t);
    }

-- ---- a fraction that is a value of the format

-- 2^e is 2^j of the smallest values
pub in-units : (l : ℕ) (e : ℤ) → down e ≤ 2 ^ l → (j : ℕ) × (up e * 2 ^ l ≡ 2 ^ j * down e)
in-units l (pos a) h = (a + l, sym (pow-add 2 a l) ∙ sym (mul-one (2 ^ (a + l))))
in-units l (negsuc a) h =
    let le : suc a ≤ l = pow-le-inv (suc a) l h in
    (l - suc a, one-mul (2 ^ l) ∙ ap (λ (x : ℕ). 2 ^ x) (sym (back l (suc a) le)) ∙ pow-add 2 (l - suc a) (suc a))

-- a bound of m u / dn is one of m J / L, which is equal
scaled-less : (m u S dn J L P : ℕ) → 0 < L → m * J * dn ≡ m * u * L → P ≡ L * S → m * u < S * dn → m * J * dn < P * dn
scaled-less m u S dn J L P pos-L at e h =
    let k : S * dn * L ≡ P * dn = simp (e, mul_assoc, mul_comm) in
    subst (λ (x : ℕ). x < P * dn) (sym at) (subst (λ (x : ℕ). m * u * L < x) k (mul-lt-mul_of_pos_right h pos-L))

scaled-same : (n m u d dn J L : ℕ) → m * J * dn ≡ m * u * L → m * u * d ≡ n * dn → n * L * dn ≡ m * J * d * dn
scaled-same n m u d dn J L at h =
    let p : n * L * dn ≡ m * u * d * L = simp (mul_assoc, mul_comm) (simp mul_assoc at (ap (λ (x : ℕ). x * L) (sym h))) in
    let q : m * J * d * dn ≡ m * u * d * L = simp (mul_assoc, mul_comm) (simp (mul_assoc, mul_comm, mul_left_comm) at (ap (λ (x : ℕ). x * d) at)) in
    p ∙ sym q

-- `round` keeps it as it is
pub rounds : (f : Format) (s u : Bool) (n d m : ℕ) (e : ℤ) → 0 < d → T (fits f (fin u m e)) → m * up e * d ≡ n * down e → HasValue (round f s n d) s n d
rounds f s u n d m e D t h =
    let b = bounds f u m e t in
    let l = low f in
    let unit = in-units l e b.fine in
    let j = unit.0 in
    let at : m * 2 ^ j * down e ≡ m * up e * 2 ^ l = mul_assoc m (2 ^ j) (down e) ∙ ap (λ (x : ℕ). m * x) (sym unit.1) ∙ sym (mul_assoc m (up e) (2 ^ l)) in
    let less = scaled-less m (up e) (2 ^ suc (emax f)) (down e) (2 ^ j) (2 ^ l) (2 ^ (l + suc (emax f))) (pow_pos l) at (pow-add 2 l (suc (emax f))) b.small in
    let is : n * 2 ^ l ≡ m * 2 ^ j * d = eq_of_mul-eq-mul_right (down e) (down_pos e) (n * 2 ^ l) (m * 2 ^ j * d) (scaled-same n m (up e) d (down e) (2 ^ j) (2 ^ l) at h) in
    round_exact f s n d m j D b.few (lt_of_mul-lt-mul_right (down e) less) is

-- ---- `Is`

pub den_pos : (x : Float) → 0 < den x
den_pos nan = omega arith
den_pos (inf s) = omega arith
den_pos (fin s m e) = down_pos e

pub cross : (x : Float) (s : Bool) (n d : ℕ) → Is x s n d → num x * d ≡ n * den x
cross nan s n d w = absurd w
cross (inf t) s n d w = absurd w
cross (fin t m e) s n d w = w.1

pub number : (x : Float) (s : Bool) (n d : ℕ) → Is x s n d → Number x
number nan s n d w = w
number (inf t) s n d w = w
number (fin t m e) s n d w = w.0

pub signs : (x : Float) (s : Bool) (n d : ℕ) → Is x s n d → (n ≡ 0) ⊎ (sign x ≡ s)
signs nan s n d w = absurd w
signs (inf t) s n d w = absurd w
signs (fin t m e) s n d w = w.2

pub value→is : (x : Float) (s : Bool) (n d : ℕ) → T (fits binary64 x) → HasValue x s n d → Is x s n d
value→is nan s n d t v = v
value→is (inf u) s n d t v = v
value→is (fin u m e) s n d t v = (t, v.1, inr v.0)

-- a number is its own fraction
pub own_is : (x : Float) → Number x → Is x (sign x) (num x) (den x)
own_is nan N = N
own_is (inf s) N = N
own_is (fin s m e) N = (N, refl, inr refl)

-- `round` answers a fraction that some y is
pub round-is-value : (y : Float) (s : Bool) (n d : ℕ) → 0 < d → Is y s n d → HasValue (round binary64 s n d) s n d
round-is-value nan s n d D w = absurd w
round-is-value (inf u) s n d D w = absurd w
round-is-value (fin u m e) s n d D w = rounds binary64 s u n d m e D w.0 w.1

pub round-is-same : (y : Float) (s : Bool) (n d : ℕ) → 0 < d → Is y s n d → Is (round binary64 s n d) s n d
round-is-same y s n d D w = value→is (round binary64 s n d) s n d (round-fits binary64 s n d) (round-is-value y s n d D w)

-- a zero is one with either sign
pub turn_is : (x : Float) (s u : Bool) (n k d : ℕ) → n ≡ 0 → k ≡ 0 → Is x s n d → Is x u k d
turn_is nan s u n k d z y w = w
turn_is (inf t) s u n k d z y w = w
turn_is (fin t m e) s u n k d z y w = (w.0, w.1 ∙ ap (λ (v : ℕ). v * down e) (z ∙ sym y), inl y)

same-is : (x : Float) (s : Bool) (n k d : ℕ) → n ≡ k → Is x s n d → Is x s k d
same-is x s n k d e w = subst (λ (v : ℕ). Is x s v d) e w

-- the same fraction in other terms
pub scale-is : (x : Float) (s : Bool) (n d n' d' : ℕ) → 0 < d → n * d' ≡ n' * d → Is x s n d → Is x s n' d'
scale-is nan s n d n' d' D h w = w
scale-is (inf t) s n d n' d' D h w = w
scale-is (fin t m e) s n d n' d' D h w = (
  w.0,
  eq_of_mul-eq-mul_right d D (m * up e * d') (n' * down e)
      (mul_right_comm (m * up e) d' d ∙ ap (λ (z : ℕ). z * d') w.1 ∙ mul_right_comm n (down e) d' ∙ ap (λ (z : ℕ). z * down e) h ∙ mul_right_comm n' d (down e)),
  ⊎_elim (λ z. inl (eq_of_mul-eq-mul_right d D n' 0 (sym h ∙ ap (λ (y : ℕ). y * d') z ∙ zero-mul d' ∙ sym (zero-mul d)))) inr w.2,
)

-- ---- `IsSum`

plus-scaled : (a b a' b' d d' : ℕ) → a * d' ≡ a' * d → b * d' ≡ b' * d → (a + b) * d' ≡ (a' + b') * d
plus-scaled a b a' b' d d' p q = simp (add-mul, p, q)

minus-scaled : (a b a' b' d d' : ℕ) → a * d' ≡ a' * d → b * d' ≡ b' * d → (a - b) * d' ≡ (a' - b') * d
minus-scaled a b a' b' d d' p q =
    mul_comm (a - b) d' ∙ mul-sub d' a b ∙ ap (λ (z : ℕ). z - d' * b) (mul_comm d' a ∙ p ∙ mul_comm a' d)
    ∙ ap (λ (z : ℕ). d * a' - z) (mul_comm d' b ∙ q ∙ mul_comm b' d) ∙ sym (mul-sub d a' b') ∙ mul_comm d (a' - b')

less-scaled : (a b a' b' d d' : ℕ) → 0 < d' → a * d' ≡ a' * d → b * d' ≡ b' * d → a < b → a' < b'
less-scaled a b a' b' d d' D p q h = lt_of_mul-lt-mul_right d (subst (λ (z : ℕ). z < b' * d) p (subst (λ (z : ℕ). a * d' < z) q (mul-lt-mul_of_pos_right h D)))

-- the same sum in other terms
pub scale-sum : (x : Float) (s t : Bool) (a b d a' b' d' : ℕ) → 0 < d → 0 < d' → a * d' ≡ a' * d → b * d' ≡ b' * d → IsSum x s a t b d → IsSum x s a' t b' d'
scale-sum x s t a b d a' b' d' D D' p q w = go (beq s t) (nat_lt a b) (nat_lt a' b') refl refl w
  where
    go : (u v v' : Bool) → nat_lt a b ≡ v → nat_lt a' b' ≡ v' → cond u (Is x s (a + b) d) (cond v (Is x t (b - a) d) (Is x s (a - b) d))
        → cond u (Is x s (a' + b') d') (cond v' (Is x t (b' - a') d') (Is x s (a' - b') d'))
    go true v v' e e' w = scale-is x s (a + b) d (a' + b') d' D (plus-scaled a b a' b' d d' p q) w
    go false true true e e' w = scale-is x t (b - a) d (b' - a') d' D (minus-scaled b a b' a' d d' q p) w
    go false true false e e' w = absurd (not-le_of_lt (less-scaled a b a' b' d d' D' p q (ltb-true a b e)) (ltb-false a' b' e'))
    go false false true e e' w = absurd (not-le_of_lt (less-scaled a' b' a b d' d D (sym p) (sym q) (ltb-true a' b' e')) (ltb-false a b e))
    go false false false e e' w = scale-is x s (a - b) d (a' - b') d' D (minus-scaled a b a' b' d d' p q) w

-- the sign of a zero makes no difference to a sum
pub resign : (x : Float) (s u t : Bool) (a b d : ℕ) → (a ≡ 0) ⊎ (s ≡ u) → IsSum x s a t b d → IsSum x u a t b d
resign x s u t a b d (inr e) w = subst (λ (v : Bool). IsSum x v a t b d) e w
resign x s u t a b d (inl z) w = go (nat_lt a b) refl s u t w
  where
    go : (q : Bool) → nat_lt a b ≡ q → (s u t : Bool) → cond (beq s t) (Is x s (a + b) d) (cond q (Is x t (b - a) d) (Is x s (a - b) d))
        → cond (beq u t) (Is x u (a + b) d) (cond q (Is x t (b - a) d) (Is x u (a - b) d))
    go q e true true true w = w
    go q e true true false w = w
    go q e false false true w = w
    go q e false false false w = w
    go true e true false true w = same-is x true (a + b) (b - a) d (omega arith) w
    go true e true false false w = same-is x false (b - a) (a + b) d (omega arith) w
    go true e false true true w = same-is x true (b - a) (a + b) d (omega arith) w
    go true e false true false w = same-is x false (a + b) (b - a) d (omega arith) w
    go false e true false true w = let h = ltb-false a b e in turn_is x true false (a + b) (a - b) d (omega arith) (omega arith) w
    go false e true false false w = let h = ltb-false a b e in turn_is x true false (a - b) (a + b) d (omega arith) (omega arith) w
    go false e false true true w = let h = ltb-false a b e in turn_is x false true (a - b) (a + b) d (omega arith) (omega arith) w
    go false e false true false w = let h = ltb-false a b e in turn_is x false true (a + b) (a - b) d (omega arith) (omega arith) w
