-- Numbers that are equal, or both zero: what holds of one holds of the other. Assumes nothing.
use Rattle.std.specs.Prelude.{◌≡◌, ℕ, ◌*◌, ◌≤◌, Bool, ◌⊎◌, refl, Float}
use Rattle.std.proofs.Common.{sym, ap, ◌∙◌, subst, inl, inr, le_trans, zero-mul, mul-le-mul_left, mul-le-mul_right, pow_mono}
use Rattle.std.specs.Float.{nan, inf, fin}
use Rattle.std.specs.Float.Ieee.{up, down}
use Rattle.power.specs.Rules.{Is, Number, Zero, Alike, Within, num, den}
use Rattle.power.specs.SpecialCases.{Not}
use Rattle.power.specs.Lemmas.Values.{den_pos, cross, turn_is}
use Rattle.power.specs.Lemmas.Unique.{alike-trans, no-factor}

-- ---- zeros

abbrev pub IsZero : Float → Type 0
IsZero x = Number x × Zero x

pub zero-num : (x : Float) → Zero x → num x ≡ 0
zero-num nan Z = refl
zero-num (inf s) Z = refl
zero-num (fin s m e) Z = ap (λ (k : ℕ). k * up e) Z ∙ zero-mul (up e)

pub zero-within : (k : ℕ) (x : Float) → IsZero x → Within k x
zero-within k x Z = (Z.0, inl (zero-num x Z.1))

-- a zero is 0 / d with either sign
pub zero_is : (x : Float) (s : Bool) (n d : ℕ) → IsZero x → n ≡ 0 → Is x s n d
zero_is nan s n d Z z = Z.1
zero_is (inf t) s n d Z z = Z.1
zero_is (fin t m e) s n d Z z = (Z.0, ap (λ (k : ℕ). k * d) (zero-num (fin t m e) Z.1) ∙ zero-mul d ∙ sym (ap (λ (k : ℕ). k * down e) z ∙ zero-mul (down e)), inl z)

-- the sign of a zero is free
pub turn : (x : Float) (s u : Bool) (n d : ℕ) → (n ≡ 0) ⊎ (s ≡ u) → Is x s n d → Is x u n d
turn x s u n d (inl z) w = turn_is x s u n n d z z w
turn x s u n d (inr e) w = subst (λ (v : Bool). Is x v n d) e w

pub alike-zero : (x c : Float) → Alike x c → Zero c → Zero x
alike-zero x c (inl e) Z = subst Zero (sym e) Z
alike-zero x c (inr W) Z = W.0

-- what is alike a number other than zero is that number
pub alike-other : (x c : Float) → Alike x c → Not (Zero c) → x ≡ c
alike-other x c (inl e) N = e
alike-other x c (inr Z) N = absurd (N Z.1)

-- ---- numbers

-- a number that is equal to c, or zero as c is
abbrev pub Same : Float → Float → Type 0
Same x c = Number x × Alike x c

pub same-zero : (x c : Float) → Same x c → Zero c → IsZero x
same-zero x c (N, h) Z = (N, alike-zero x c h Z)

pub same-trans : (x y z : Float) → Same x y → Same y z → Same x z
same-trans x y z X Y = (X.0, alike-trans x y z X.1 Y.1)

pub same-is : (x c : Float) (s : Bool) (n d : ℕ) → Same x c → Is c s n d → Is x s n d
same-is x c s n d (N, inl e) w = subst (λ (y : Float). Is y s n d) (sym e) w
same-is x c s n d (N, inr Z) w =
    let none : n * den c ≡ 0 = sym (cross c s n d w) ∙ ap (λ (k : ℕ). k * d) (zero-num c Z.1) ∙ zero-mul d in
    zero_is x s n d (N, Z.0) (no-factor n (den c) (den_pos c) none)

pub same-within : (k : ℕ) (x c : Float) → Same x c → Within k c → Within k x
same-within k x c (N, inl e) W = subst (Within k) (sym e) W
same-within k x c (N, inr Z) W = zero-within k x (N, Z.0)

pub within_more : (j k : ℕ) (x : Float) → j ≤ k → Within j x → Within k x
within_more j k x h (N, inl z) = (N, inl z)
within_more j k x h (N, inr b) = (N, inr (le_trans b.0 (mul-le-mul_left (num x) (pow_mono h)), le_trans b.1 (mul-le-mul_right (den x) (pow_mono h))))
