-- A format writes a number in one way, so two values of one size are equal, or both zero. Assumes nothing.
use Rattle.std.specs.Prelude.{◌≡◌, ℕ, ◌+◌, ◌-◌, ◌*◌, ◌/◌, ◌^◌, ◌<◌, Bool, cond, T, ℤ, from_bits, Float}
use Rattle.std.proofs.Common.{sym, ap, ◌∙◌, subst, inl, inr, ⊎_elim, mul_right_comm, zero-mul}
use Rattle.std.proofs.Math.Nat.{eq_of_mul-eq-mul_right}
use Rattle.std.specs.Float.{Format, nan, inf, fin, binary64}
use Rattle.std.specs.Float.Ieee.{prec, low, hid, top, size, up, down, fits, to_bits}
use Rattle.std.specs.Float.Ieee.Bits.{of_bits-to_bits}
use Rattle.std.specs.Float.Ieee.Exact.{HasValue}
use Rattle.std.specs.Float.Ieee.Fits.{up_pos, down_pos}
use Rattle.std.specs.Float.Ieee.Nearest.{div_same}
use Rattle.power.specs.Rules.{Is, Number, Zero, Alike}

-- ---- one way to write a number

-- the pattern turns on the sign and the size alone
same_bits : (f : Format) (s : Bool) (m : ℕ) (e : ℤ) (n : ℕ) (d : ℤ) → m * up e * down d ≡ n * up d * down e → to_bits f (fin s m e) ≡ to_bits f (fin s n d)
unfolding to_bits
same_bits f s m e n d h =
    let l = 2 ^ low f in
    let scaled : m * up e * l * down d ≡ n * up d * l * down e = mul_right_comm (m * up e) l (down d) ∙ ap (λ (x : ℕ). x * l) h ∙ mul_right_comm (n * up d) (down e) l in
    ap (λ (k : ℕ). cond s (top f) 0 + (size k - prec f) * hid f + k / 2 ^ (size k - prec f))
    (div_same (m * up e * l) (down e) (n * up d * l) (down d) (down_pos e) (down_pos d) scaled)

same_number : (f : Format) (s t : Bool) (m : ℕ) (e : ℤ) (n : ℕ) (d : ℤ) → T (fits f (fin s m e)) → T (fits f (fin t n d))
    → s ≡ t → m * up e * down d ≡ n * up d * down e → fin s m e ≡ fin t n d
same_number f s t m e n d p q same h =
    let q' = subst (λ (u : Bool). T (fits f (fin u n d))) (sym same) q in
    sym (of_bits-to_bits f (fin s m e) p) ∙ ap (from_bits f) (same_bits f s m e n d h) ∙ of_bits-to_bits f (fin s n d) q' ∙ ap (λ (u : Bool). fin u n d) same

-- two fractions that are both n / d
same-cross : (a b c e n d : ℕ) → 0 < d → a * d ≡ n * b → c * d ≡ n * e → a * e ≡ c * b
same-cross a b c e n d D p q =
    eq_of_mul-eq-mul_right d D (a * e) (c * b)
    (mul_right_comm a e d ∙ ap (λ (x : ℕ). x * e) p ∙ mul_right_comm n b e ∙ ap (λ (x : ℕ). x * b) (sym q) ∙ mul_right_comm c d b)

pub value-unique : (f : Format) (x y : Float) (s : Bool) (n d : ℕ) → 0 < d → T (fits f x) → T (fits f y) → HasValue x s n d → HasValue y s n d → x ≡ y
value-unique f nan y s n d D p q v w = absurd v
value-unique f (inf t) y s n d D p q v w = absurd v
value-unique f (fin t m e) nan s n d D p q v w = absurd w
value-unique f (fin t m e) (inf u) s n d D p q v w = absurd w
value-unique f (fin t m e) (fin u k g) s n d D p q v w =
    same_number f t u m e k g p q (v.0 ∙ sym w.0) (same-cross (m * up e) (down e) (k * up g) (down g) n d D v.1 w.1)

-- ---- zeros

-- no product with a positive factor is 0
pub no-factor : (a b : ℕ) → 0 < b → a * b ≡ 0 → a ≡ 0
no-factor a b B h = eq_of_mul-eq-mul_right b B a 0 (h ∙ sym (zero-mul b))

pub is_zero : (x : Float) (s : Bool) (n d : ℕ) → 0 < d → n ≡ 0 → Is x s n d → Zero x
is_zero nan s n d D z w = w
is_zero (inf t) s n d D z w = w
is_zero (fin t m e) s n d D z w = no-factor m (up e) (up_pos e) (no-factor (m * up e) d D (w.1 ∙ ap (λ (x : ℕ). x * down e) z ∙ zero-mul (down e)))

-- ---- `Alike`

pub is-alike : (x y : Float) (s : Bool) (n d : ℕ) → 0 < d → Is x s n d → Is y s n d → Alike x y
is-alike nan y s n d D v w = absurd v
is-alike (inf t) y s n d D v w = absurd v
is-alike (fin t m e) nan s n d D v w = absurd w
is-alike (fin t m e) (inf u) s n d D v w = absurd w
is-alike (fin t m e) (fin u k g) s n d D v w =
    let zeros : n ≡ 0 → Alike (fin t m e) (fin u k g) = λ z. inr (is_zero (fin t m e) s n d D z v, is_zero (fin u k g) s n d D z w) in
    let size : m * up e * down g ≡ k * up g * down e = same-cross (m * up e) (down e) (k * up g) (down g) n d D v.1 w.1 in
    ⊎_elim zeros (λ p. ⊎_elim zeros (λ q. inl (same_number binary64 t u m e k g v.0 w.0 (p ∙ sym q) size)) w.2) v.2

pub alike-trans : (x y z : Float) → Alike x y → Alike y z → Alike x z
alike-trans x y z (inl p) (inl q) = inl (p ∙ q)
alike-trans x y z (inl p) (inr q) = inr (subst Zero (sym p) q.0, q.1)
alike-trans x y z (inr p) (inl q) = inr (p.0, subst Zero q p.1)
alike-trans x y z (inr p) (inr q) = inr (p.0, q.1)

pub zero_number : (x : Float) → T (fits binary64 x) → Zero x → Number x
zero_number nan t z = z
zero_number (inf s) t z = z
zero_number (fin s m e) t z = t

-- what is alike to a number is one
pub alike-number : (x y : Float) → T (fits binary64 x) → Number y → Alike x y → Number x
alike-number x y t N (inl p) = subst Number (sym p) N
alike-number x y t N (inr p) = zero_number x t p.0
