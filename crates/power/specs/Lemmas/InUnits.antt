-- A value of f64 as a fraction and in units of 2^-1074, the smallest f64 above 0: each from the other. Assumes nothing.
use Rattle.std.specs.Prelude.{◌≡◌, ℕ, zero, suc, ◌+◌, ◌-◌, ◌*◌, ◌^◌, ◌<◌, ◌≤◌, Bool, true, false, cond, not, T, ◌⊎◌, ℤ, pos, ◌+ℤ◌, ◌*ℤ◌, nat_lt, unsigned_abs, refl, Float}
use Rattle.std.proofs.Common.{sym, ap, ◌∙◌, inl, inr, le_trans, le_of_eq, le_of_lt, mul_assoc, mul_comm, mul_right_comm, zero-mul, mul-le-mul_right, le_of_mul-le-mul_right, arith, ltb-true, ltb-false, lit≤, pow_pos}
use Rattle.std.proofs.Math.Nat.{eq_of_mul-eq-mul_right}
use Rattle.std.specs.Float.{nan, inf, fin, binary64}
use Rattle.std.specs.Float.Ieee.{up, down, fits}
use Rattle.std.specs.Float.Ieee.Fits.{down_pos}
use Rattle.pairs.specs.Value.{signed, Value, Moderate, Bounded}
use Rattle.pairs.proofs.Integers.{signed-abs, signed-zero, signed-mul-pos, signed_same}
use Rattle.pairs.proofs.Units.{alike-sum, unlike-sum, unlike-sum'}
use Rattle.power.specs.Rules.{Is, IsSum, Number, Within, sign, num, den}
use Rattle.power.specs.Lemmas.Values.{bounds, in-units, den_pos, number}

-- ---- numbers

pub number_fits : (x : Float) → Number x → T (fits binary64 x)
number_fits nan N = absurd N
number_fits (inf s) N = absurd N
number_fits (fin s m e) N = N

-- x is n units in size
abbrev pub Counts : Float → ℕ → Type 0
Counts x n = num x * 2 ^ 1074 ≡ n * den x

-- a number of f64 is a whole number of units
pub count : (x : Float) → Number x → (n : ℕ) × Counts x n
count nan N = absurd N
count (inf s) N = absurd N
count (fin s m e) N =
    let u = in-units 1074 e (bounds binary64 s m e N).fine in
    (m * 2 ^ u.0, mul_assoc m (up e) (2 ^ 1074) ∙ ap (λ (k : ℕ). m * k) u.1 ∙ sym (mul_assoc m (2 ^ u.0) (down e)))

pub own_value : (x : Float) (n : ℕ) → Number x → Counts x n → Value binary64 x (signed (sign x) n)
own_value nan n N h = absurd N
own_value (inf s) n N h = absurd N
own_value (fin s m e) n N h = record { sign = s; count = n; is = refl; has = (refl, h) }

-- ---- ranges

-- n / L, which is a / d, is 0 where a is
no-units : (a d n L : ℕ) → 0 < d → a * L ≡ n * d → a ≡ 0 → n ≡ 0
no-units a d n L D h z = eq_of_mul-eq-mul_right d D n 0 (sym h ∙ ap (λ (x : ℕ). x * L) z ∙ zero-mul L ∙ sym (zero-mul d))

-- from a / d at least 1 / K to n / (K J) at least 1 / K
units-least : (a d n K J : ℕ) → 0 < d → a * (K * J) ≡ n * d → d ≤ a * K → J ≤ n
units-least a d n K J D h l = le_of_mul-le-mul_right (le_trans (le_of_eq (mul_comm J d)) (le_trans (mul-le-mul_right J l) (le_of_eq (mul_assoc a K J ∙ h)))) D

-- from a / d at most K to n / L at most K
units-most : (a d n K L : ℕ) → 0 < d → a * L ≡ n * d → a ≤ K * d → n ≤ K * L
units-most a d n K L D h l = le_of_mul-le-mul_right (le_trans (le_of_eq (sym h)) (le_trans (mul-le-mul_right L l) (le_of_eq (mul_right_comm K d L)))) D

signed-none : (s : Bool) (n : ℕ) → n ≡ 0 → signed s n ≡ pos 0
signed-none s n z = ap (signed s) z ∙ signed-zero s

pub within-moderate : (x : Float) → Within 400 x → Moderate x
within-moderate x (N, r) =
    let c = count x N in
    let n = c.0 in
    let abs = signed-abs (sign x) n in
    record {
      units = signed (sign x) n;
      is = own_value x n N c.1;
      range = elim r [
        | inl z ↦ inl (signed-none (sign x) n (no-units (num x) (den x) n (2 ^ 1074) (den_pos x) c.1 z))
        | inr b ↦ inr (
          le_trans (units-least (num x) (den x) n (2 ^ 400) (2 ^ 674) (den_pos x) c.1 b.0) (le_of_eq (sym abs)),
          le_trans (le_of_eq abs) (units-most (num x) (den x) n (2 ^ 400) (2 ^ 1074) (den_pos x) c.1 b.1),
        )
      ];
    }

pub within-bounded : (x : Float) → Within 512 x → Bounded 2000 x
within-bounded x (N, r) =
    let c = count x N in
    let n = c.0 in
    record {
      units = signed (sign x) n;
      is = own_value x n N c.1;
      small = le_trans (le_of_eq (signed-abs (sign x) n)) (elim r [
        | inl z ↦ le_trans (le_of_eq (no-units (num x) (den x) n (2 ^ 1074) (den_pos x) c.1 z)) (le_of_lt (pow_pos 2000))
        | inr b ↦ le_trans (units-most (num x) (den x) n (2 ^ 512) (2 ^ 1074) (den_pos x) c.1 b.1) (lit≤ tt)
      ]);
    }

-- ---- fractions

-- a / g is k / (L d) and n / L
rescaled : (a g k n L d : ℕ) → 0 < g → a * (L * d) ≡ k * g → a * L ≡ n * g → n * d ≡ k
rescaled a g k n L d G h u = eq_of_mul-eq-mul_right g G (n * d) k (mul_right_comm n d g ∙ ap (λ (x : ℕ). x * d) (sym u) ∙ mul_assoc a L d ∙ h)

restored : (a g k n L d : ℕ) → n * d ≡ k → a * L ≡ n * g → a * (L * d) ≡ k * g
restored a g k n L d h u = sym (mul_assoc a L d) ∙ ap (λ (x : ℕ). x * d) u ∙ mul_right_comm n g d ∙ ap (λ (x : ℕ). x * g) h

-- where x is ±k / (2^1074 d), its units are ±k / d
pub is→units : (x : Float) (s : Bool) (k d : ℕ) (z : ℤ) → Is x s k (2 ^ 1074 * d) → Value binary64 x z → z *ℤ pos d ≡ signed s k
is→units nan s k d z w v = absurd w
is→units (inf t) s k d z w v = absurd w
is→units (fin t m e) s k d z w v =
    let n = v.count in
    let size : n * d ≡ k = rescaled (m * up e) (down e) k n (2 ^ 1074) d (down_pos e) w.1 v.has.1 in
    ap (λ (y : ℤ). y *ℤ pos d) v.is ∙ sym (signed-mul-pos v.sign n d) ∙ ap (signed v.sign) size ∙ elim w.2 [
      | inl none ↦ signed-none v.sign k none ∙ sym (signed-none s k none)
      | inr same ↦ ap (λ (b : Bool). signed b k) (sym v.has.0 ∙ same)
    ]

-- and where its units are ±k / d, x is ±k / (2^1074 d)
pub units→is : (x : Float) (s : Bool) (k d : ℕ) (z : ℤ) → T (fits binary64 x) → Value binary64 x z → z *ℤ pos d ≡ signed s k → Is x s k (2 ^ 1074 * d)
units→is nan s k d z t v h = absurd v.has
units→is (inf u) s k d z t v h = absurd v.has
units→is (fin u m e) s k d z t v h =
    let n = v.count in
    let both : signed v.sign (n * d) ≡ signed s k = signed-mul-pos v.sign n d ∙ ap (λ (y : ℤ). y *ℤ pos d) (sym v.is) ∙ h in
    let size : n * d ≡ k = sym (signed-abs v.sign (n * d)) ∙ ap unsigned_abs both ∙ signed-abs s k in
    (t, restored (m * up e) (down e) k n (2 ^ 1074) d size v.has.1, sides k size both)
  where
    sides : (k : ℕ) → v.count * d ≡ k → signed v.sign (v.count * d) ≡ signed s k → (k ≡ 0) ⊎ (u ≡ s)
    sides zero e b = inl refl
    sides (suc k) e b = inr (v.has.0 ∙ (signed_same v.sign s (v.count * d) (suc k) (omega arith) b).0)

-- ---- sums

-- z is an integer with a sign and a size, and P says of x and d that x is z / d
record Total (z : ℤ) (P : Float → ℕ → Type 0) : Type 0 where
  sign : Bool
  size : ℕ
  is : z ≡ signed sign size
  to : (x : Float) (d : ℕ) → P x d → Is x sign size d
  back : (x : Float) (d : ℕ) → Is x sign size d → P x d

-- of two numbers of one sign
together : (s : Bool) (n k : ℕ) → Total (signed s n +ℤ signed s k) (λ x d. Is x s (n + k) d)
together s n k = record { sign = s; size = n + k; is = alike-sum s n k; to = λ x d w. w; back = λ x d w. w }

-- and of two signs
apart : (s : Bool) (n k : ℕ) (b : Bool) → nat_lt n k ≡ b → Total (signed s n +ℤ signed (not s) k) (λ x d. cond b (Is x (not s) (k - n) d) (Is x s (n - k) d))
apart s n k true e = record { sign = not s; size = k - n; is = unlike-sum s n k (le_of_lt (ltb-true n k e)); to = λ x d w. w; back = λ x d w. w }
apart s n k false e = record { sign = s; size = n - k; is = unlike-sum' s n k (ltb-false n k e); to = λ x d w. w; back = λ x d w. w }

-- the sum of ±n and ±k
total : (s : Bool) (n : ℕ) (t : Bool) (k : ℕ) → Total (signed s n +ℤ signed t k) (λ x d. IsSum x s n t k d)
total true n true k = together true n k
total false n false k = together false n k
total true n false k = apart true n k (nat_lt n k) refl
total false n true k = apart false n k (nat_lt n k) refl

-- a sum is a number
pub sum_number : (x : Float) (s : Bool) (n : ℕ) (t : Bool) (k d : ℕ) → IsSum x s n t k d → Number x
sum_number x s n t k d w = let c = total s n t k in number x c.sign c.size d (c.to x d w)

-- where x is (±n ± k) / (2^1074 d), its units are (±n ± k) / d
pub sum→units : (x : Float) (s : Bool) (n : ℕ) (t : Bool) (k d : ℕ) (z : ℤ) → IsSum x s n t k (2 ^ 1074 * d) → Value binary64 x z → z *ℤ pos d ≡ signed s n +ℤ signed t k
sum→units x s n t k d z w v = let c = total s n t k in is→units x c.sign c.size d z (c.to x (2 ^ 1074 * d) w) v ∙ sym c.is

-- and the other way round
pub units→sum : (x : Float) (s : Bool) (n : ℕ) (t : Bool) (k d : ℕ) (z : ℤ) → T (fits binary64 x) → Value binary64 x z → z *ℤ pos d ≡ signed s n +ℤ signed t k → IsSum x s n t k (2 ^ 1074 * d)
units→sum x s n t k d z f v h = let c = total s n t k in c.back x (2 ^ 1074 * d) (units→is x c.sign c.size d z f v (h ∙ c.is))
