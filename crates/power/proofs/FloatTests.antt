-- What the tests answer on values: whether it is NaN, and compared with a constant, with 0 and with 1. Assumes nothing.
use Rattle.std.proofs.Common.{◌≡◌, ℕ, zero, suc, ◌+◌, ◌*◌, ◌/◌, ◌%◌, ◌<◌, Bool, true, false, not, ◌&&◌, ◌||◌, T, eqb, ◌⊎◌, ℤ, pos, negsuc, sym, refl, ap, ◌∙◌, subst, inl, inr, true≢false, mul-pos, zero-mul, mul-one, arith, eqb→eq, le-ltb, lt-ltb, eq-eqb, ne_eqb}
use mathlib.Core.Bool.{beq, false≢true}
use native.Mathlib.Nat.{zero-div, zero-mod}
use borrow.Author.Tests.{both_ways}
use lib.Ieee.{Float, nan, inf, fin, binary32, up, down, level, fits, lt, eq, is_nan}
use lib.Ieee.Fits.{and_l, and_r, up_pos, down_pos}
use Rattle.std.specs.Float as Floats
use Rattle.std.specs.Float.{float_one, float_is_infinite, float_with_sign}
use Rattle.pairs.specs.Whole.{whole, odd}
use Rattle.power.specs.Rules.{Zero}
use Rattle.power.specs.SpecialCases.{Not, Finite, Nan, Below1, At1, Above1, Positive, Negative}
use Rattle.power.specs.Lemmas.Unique.{value-unique}

abbrev pub two : Float
two = fin false 1 (pos 1)

abbrev pub half : Float
half = fin false 1 (negsuc 0)

abbrev pub twenty-four : Float
twenty-four = fin false 3 (pos 3)

-- ---- NaN, and infinities

pub number-is : (x : Float) → Not (Nan x) → is_nan x ≡ false
unfolding is_nan
number-is nan h = absurd (h refl)
number-is (inf s) h = refl
number-is (fin s m e) h = refl

pub finite-not-infinite : (x : Float) → Finite x → float_is_infinite x ≡ false
unfolding float_is_infinite
finite-not-infinite nan F = refl
finite-not-infinite (inf s) F = absurd F
finite-not-infinite (fin s m e) F = refl

pub infinite-is : (s : Bool) → float_is_infinite (inf s) ≡ true
unfolding float_is_infinite
infinite-is s = refl

-- what holds of x and not of NaN
pub not-nan : (P : Float → Type 0) → Not (P nan) → (x : Float) → P x → Not (Nan x)
not-nan P none x h e = none (subst P e h)

-- ---- against a constant u 2^v

-- it is equal to a number other than 0: the number is positive, and the sizes agree
pub eq-tells : (s : Bool) (p : ℕ) (g : ℤ) (u : ℕ) (v : ℤ) → 0 < p → eq (fin s p g) (fin false u v) ≡ true → (s ≡ false) × (p * up g * down v ≡ u * up v * down g)
unfolding eq
eq-tells s p g u v P e = go s (p * up g * down v) (u * up v * down g) (mul-pos (mul-pos P (up_pos g)) (down_pos v)) (subst T (sym e) tt)
  where
    go : (s : Bool) (a b : ℕ) → 0 < a → T (level s a false b) → (s ≡ false) × (a ≡ b)
    go false a b h t = (refl, eqb→eq a b (and_l (eqb a b) true t))
    go true a b h t = let z = eqb→eq a 0 (and_r (eqb a b) (eqb a 0) t) in absurd (omega arith)

pub eq-same : (m : ℕ) (e : ℤ) (u : ℕ) (v : ℤ) → m * up e * down v ≡ u * up v * down e → eq (fin false m e) (fin false u v) ≡ true
unfolding eq
eq-same m e u v h = ap (λ (b : Bool). b && true) (eq-eqb (m * up e * down v) (u * up v * down e) h)

eq-other : (s : Bool) (m : ℕ) (e : ℤ) (u : ℕ) (v : ℤ) → Not (m * up e * down v ≡ u * up v * down e) → eq (fin s m e) (fin false u v) ≡ false
unfolding eq
eq-other s m e u v h = ap (λ (b : Bool). b && (beq s false || eqb (m * up e * down v) 0)) (ne_eqb (m * up e * down v) (u * up v * down e) h)

-- ---- against 0

no_size : (m u : ℕ) → m ≡ 0 → m * u * 1 ≡ 0
no_size m u z = mul-one (m * u) ∙ ap (λ (k : ℕ). k * u) z ∙ zero-mul u

some_size : (m : ℕ) (e : ℤ) → 0 < m → 0 < m * up e * 1
some_size m e h = mul-pos (mul-pos h (up_pos e)) (omega arith)

pub second : (b c : Bool) → c ≡ true → (b || c) ≡ true
second true c h = refl
second false c h = h

pub eq-zero : (x : Float) → Zero x → eq x Floats.float_zero ≡ true
unfolding eq
eq-zero nan z = absurd z
eq-zero (inf s) z = absurd z
eq-zero (fin s m e) z =
    let n = m * up e * 1 in
    let none : n ≡ 0 = no_size m (up e) z in
    let same : eqb n (0 * down e) ≡ true = eq-eqb n (0 * down e) (none ∙ sym (zero-mul (down e))) in
    let sign : (beq s false || eqb n 0) ≡ true = second (beq s false) (eqb n 0) (eq-eqb n 0 none) in
    λ i. same i && sign i

pub not-eq-zero : (x : Float) → Not (Zero x) → eq x Floats.float_zero ≡ false
not-eq-zero nan h = unfold eq in refl
not-eq-zero (inf s) h = unfold eq in refl
not-eq-zero (fin s m e) h = eq-other s m e 0 (pos 0) (λ q. let l = some_size m e (omega (arith, h)) in omega (arith, zero-mul (down e)))

-- greater than 0, or less
abbrev pub Side : Bool → Float → Type 0
Side true x = Positive x
Side false x = Negative x

pub lt-zero : (p : Bool) (x : Float) → Side p x → lt x Floats.float_zero ≡ not p
unfolding lt
lt-zero true nan P = absurd P
lt-zero false nan P = absurd P
lt-zero true (inf s) P = P
lt-zero false (inf s) P = P
lt-zero true (fin true m e) P = absurd (true≢false P.0)
lt-zero true (fin false m e) P = le-ltb (m * up e * 1) (0 * down e) (omega (arith, zero-mul (down e)))
lt-zero false (fin true m e) P = let l = some_size m e P.1 in lt-ltb 0 (m * up e * 1 + 0 * down e) (omega arith)
lt-zero false (fin false m e) P = absurd (false≢true P.0)

pub zero-lt : (p : Bool) (x : Float) → Side p x → lt Floats.float_zero x ≡ p
unfolding lt
zero-lt true nan P = absurd P
zero-lt false nan P = absurd P
zero-lt true (inf s) P = ap not P
zero-lt false (inf s) P = ap not P
zero-lt true (fin true m e) P = absurd (true≢false P.0)
zero-lt true (fin false m e) P = let l = some_size m e P.1 in lt-ltb (0 * down e) (m * up e * 1) (omega (arith, zero-mul (down e)))
zero-lt false (fin true m e) P = refl
zero-lt false (fin false m e) P = absurd (false≢true P.0)

pub not-zero : (p : Bool) (x : Float) → Side p x → Not (Zero x)
not-zero p nan P z = z
not-zero p (inf s) P z = z
not-zero true (fin s m e) P z = let h = P.1 in omega arith
not-zero false (fin s m e) P z = let h = P.1 in omega arith

-- 0 is whole, and even
pub zero-whole : (x : Float) → Zero x → (whole x ≡ true) × (odd x ≡ false)
zero-whole nan z = absurd z
zero-whole (inf s) z = absurd z
zero-whole (fin s m e) z =
    let none : m * up e ≡ 0 = ap (λ (k : ℕ). k * up e) z ∙ zero-mul (up e) in
    let no-rest : eqb (m * up e % down e) 0 ≡ true = eq-eqb (m * up e % down e) 0 (ap (λ (k : ℕ). k % down e) none ∙ zero-mod (down e)) in
    let even : eqb (m * up e / down e % 2) 1 ≡ false = ap (λ (k : ℕ). eqb (k % 2) 1) (ap (λ (k : ℕ). k / down e) none ∙ zero-div (down e)) in
    (no-rest, λ i. no-rest i && even i)

-- ---- against 1

pub eq-one : (x : Float) → x ≡ float_one → eq x float_one ≡ true
eq-one x h = ap (λ (v : Float). eq v float_one) h ∙ eq-same 1 (pos 0) 1 (pos 0) refl

pub zero-eq-one : (x : Float) → Zero x → eq x float_one ≡ false
zero-eq-one nan z = absurd z
zero-eq-one (inf s) z = absurd z
zero-eq-one (fin s m e) z = eq-other s m e 1 (pos 0) (λ q. let none = no_size m (up e) z in let d = down_pos e in omega arith)

-- among the values of f32 only 1 is equal to 1
pub eq-one-is : (x : Float) → T (fits binary32 x) → eq x float_one ≡ true → x ≡ float_one
unfolding fits
eq-one-is nan t h = absurd (false≢true (unfold eq in h))
eq-one-is (inf s) t h = absurd (false≢true (unfold eq in h))
eq-one-is (fin s zero e) t h = absurd (both_ways (eq (fin s 0 e) float_one) (zero-eq-one (fin s 0 e) refl) h)
eq-one-is (fin s (suc m) e) t h =
    value-unique binary32 (fin s (suc m) e) float_one false 1 1 (omega arith) t tt (eq-tells s (suc m) e 1 (pos 0) (omega arith) h) (refl, refl)

pub one-or-not : (x : Float) → T (fits binary32 x) → (x ≡ float_one) ⊎ (eq x float_one ≡ false)
one-or-not x t = go (eq x float_one) refl
  where
    go : (b : Bool) → eq x float_one ≡ b → (x ≡ float_one) ⊎ (eq x float_one ≡ false)
    go true h = inl (eq-one-is x t h)
    go false h = inr h

pub not-eq-one : (x : Float) → T (fits binary32 x) → Not (x ≡ float_one) → eq x float_one ≡ false
not-eq-one x t h = elim (one-or-not x t) [ inl e ↦ absurd (h e) | inr k ↦ k ]

pub negative-not-one : (x : Float) → T (fits binary32 x) → Negative x → eq x float_one ≡ false
negative-not-one x t P = not-eq-one x t (λ e. let h : Negative float_one = subst Negative e P in false≢true h.0)

-- ---- a magnitude against 1

pub size-at-one : (x : Float) → At1 x → eq (float_with_sign false x) float_one ≡ true
unfolding float_with_sign
size-at-one nan h = absurd h
size-at-one (inf s) h = absurd h
size-at-one (fin s m e) h = eq-same m e 1 (pos 0) (omega arith)

-- above 1, or below
abbrev pub Away1 : Bool → Float → Type 0
Away1 true x = Above1 x
Away1 false x = Below1 x

pub size-away : (b : Bool) (x : Float) → Away1 b x → (eq (float_with_sign false x) float_one ≡ false) × (lt float_one (float_with_sign false x) ≡ b)
unfolding lt float_with_sign
size-away true nan h = absurd h
size-away false nan h = absurd h
size-away true (inf s) h = (unfold eq in refl, refl)
size-away false (inf s) h = absurd h
size-away true (fin s m e) h = (eq-other false m e 1 (pos 0) (λ q. omega arith), lt-ltb (1 * down e) (m * up e * 1) (omega arith))
size-away false (fin s m e) h = (eq-other false m e 1 (pos 0) (λ q. omega arith), le-ltb (1 * down e) (m * up e * 1) (omega arith))
