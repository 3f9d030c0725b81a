-- The f32 that the root reads and the one that it writes. Assumes nothing.
use Rattle.std.proofs.Common.{◌≡◌, ℕ, zero, suc, ◌+◌, ◌-◌, ◌*◌, ◌/◌, ◌%◌, ◌^◌, ◌<◌, ◌≤◌, Bool, true, false, T, ◌⊎◌, ℤ, pos, negsuc, eqb→eq, sym, refl, ap, ◌∙◌, subst, subst₂, inl, inr, true≢false, mul-le-mul_right, mul_assoc, eq-zero-or-pos, mul-lt-mul_of_pos_right, mul-pos, lt_of_not-le, zero-add, mul_right_comm, mul-div_cancel, arith, pow_pos, pow_mono, pow-add, ltb-false, eq-eqb, ne_eqb, le-leb}
use native.Mathlib.Nat.{pow-succ', mul-one, one-mul}
use lib.Count.{count_leading_zeros, leading_top}
use borrow.Author.Tests.{lt-leb}
use lib.Ieee.{Float, nan, inf, fin, binary32, up, down, units, round, lt, eq, fits, of_bits, to_bits}
use lib.Ieee.Bits.{of_bits-to_bits}
use lib.Ieee.Exact.{HasValue}
use lib.Ieee.Fits.{up_pos, down_pos}
use Rattle.std.specs.Float as Floats
use lib.Ieee.{root_twice, sqrt}
use Rattle.pairs.specs.Root.{Parts, NearestRoot}
use Rattle.pairs.proofs.Patterns.{steps, steps_low, steps_high, read, value, no_number, packed}
use Rattle.pairs.proofs.root.Laws.{root-rounds, root-at-least, root-at-most}

-- ---- the 24 digits of a pattern's value

rescaled : (x : Float) (s : Bool) (a : ℕ) → HasValue x s a (2 ^ 149) → HasValue x s (a * 2 ^ 23) (2 ^ 172)
rescaled nan s a v = v
rescaled (inf t) s a v = v
rescaled (fin t m e) s a v = grind (arith, mul_right_comm)

of-pattern : (b : ℕ) → b < 255 * 2 ^ 23 → HasValue (of_bits binary32 b) false (steps binary32 b * 2 ^ 23) (2 ^ 172)
of-pattern b h =
    let m : b % 2 ^ 31 ≡ b = omega arith in
    rescaled (of_bits binary32 b) false (steps binary32 b)
    (subst₂ (λ (s : Bool) (n : ℕ). HasValue (of_bits binary32 b) s (steps binary32 n) (2 ^ 149)) (lt-leb (2 ^ 31) b (omega arith)) m (read binary32 b (omega arith)))

has_parts : (b m k : ℕ) → b < 255 * 2 ^ 23 → 2 ^ 23 ≤ m → m < 2 ^ 24 → k < 277 → m * 2 ^ k ≡ steps binary32 b * 2 ^ 23 → Parts b m k
has_parts b m k h lo hi K e = grind (arith, of-pattern)

pub leading-in : (b : ℕ) → 0 < b → b < 2 ^ 23 → (9 ≤ count_leading_zeros 32 b) × (count_leading_zeros 32 b ≤ 31)
leading-in b p q =
    let t = leading_top 32 b p (omega arith) in
    let j : t.0 < 23 = lt_of_not-le (λ (g : 23 ≤ t.0). let m : 2 ^ 23 ≤ 2 ^ t.0 = pow_mono g in omega (arith, t.2)) in
    omega (arith, t.1)

pub subnormal : (b d : ℕ) → 0 < b → b < 2 ^ 23 → d ≡ count_leading_zeros 32 b - 8 → Parts b ((b * 2 ^ d) % 2 ^ 32) (23 - d)
subnormal b d p q e =
    let t = leading_top 32 b p (omega arith) in
    let j = t.0 in
    let s : j + d ≡ 23 = omega (arith, t.1, leading-in b p q) in
    let w : 2 ^ j * 2 ^ d ≡ 2 ^ 23 = sym (pow-add 2 j d) ∙ ap (λ (k : ℕ). 2 ^ k) s in
    let lo : 2 ^ 23 ≤ b * 2 ^ d = omega (arith, mul-le-mul_right (2 ^ d) t.2) in
    let top : b < 2 * 2 ^ j = omega (arith, t.3) in
    let hi : b * 2 ^ d < 2 ^ 24 = omega (arith, mul-lt-mul_of_pos_right top (pow_pos d)) in
    let m : (b * 2 ^ d) % 2 ^ 32 ≡ b * 2 ^ d = omega arith in
    let v : 2 ^ d * 2 ^ (23 - d) ≡ 2 ^ 23 = grind arith in
    has_parts b ((b * 2 ^ d) % 2 ^ 32) (23 - d) (omega arith) (omega arith) (omega arith) (omega arith)
    (ap (λ (k : ℕ). k * 2 ^ (23 - d)) m ∙ mul_assoc b (2 ^ d) (2 ^ (23 - d)) ∙ ap (λ (k : ℕ). b * k) v ∙ ap (λ (k : ℕ). k * 2 ^ 23) (sym (steps_low binary32 b q)))

pub normal : (b : ℕ) → 2 ^ 23 ≤ b → b < 255 * 2 ^ 23 → Parts b (b % 2 ^ 23 + 2 ^ 23) (b / 2 ^ 23 + 22)
normal b h l =
    let x : b % 2 ^ 23 + 2 ^ 23 ≡ 2 ^ 23 + b % 2 ^ 23 = omega arith in
    let y : b / 2 ^ 23 + 22 ≡ b / 2 ^ 23 - 1 + 23 = omega arith in
    has_parts b (b % 2 ^ 23 + 2 ^ 23) (b / 2 ^ 23 + 22) l (omega arith) (omega arith) (omega arith)
    ((λ i. x i * 2 ^ y i) ∙ ap (λ (k : ℕ). (2 ^ 23 + b % 2 ^ 23) * k) (pow-add 2 (b / 2 ^ 23 - 1) 23)
    ∙ sym (mul_assoc (2 ^ 23 + b % 2 ^ 23) (2 ^ (b / 2 ^ 23 - 1)) (2 ^ 23)) ∙ ap (λ (k : ℕ). k * 2 ^ 23) (sym (steps_high binary32 b h)))

-- ---- `sqrt`, case by case

zero_is : of_bits binary32 0 ≡ Floats.float_zero
unfolding of_bits
zero_is = refl

some : (m : ℕ) (e : ℤ) → 0 < suc m * up e * 1
some m e = omega (arith, mul-pos, up_pos)

no_power : (k : ℕ) → 2 * 2 ^ k ≡ 1 → ⊥
no_power k h = omega arith

flat : (e : ℤ) → up e * down e ≡ 1 → e ≡ pos 0
flat (pos zero) h = refl
flat (pos (suc k)) h = absurd (no_power k (sym (pow-succ' 2 k) ∙ sym (mul-one (2 ^ suc k)) ∙ h))
flat (negsuc k) h = absurd (no_power k (sym (pow-succ' 2 k) ∙ sym (one-mul (2 ^ suc k)) ∙ h))

-- a zero of a format is written in one way
zero_exponent : (s : Bool) (e : ℤ) → T (fits binary32 (fin s zero e)) → e ≡ pos 0
unfolding fits
zero_exponent s e t = flat e (eqb→eq (up e * down e) 1 t)

pub of_zero : (x : Float) → T (fits binary32 x) → eq x (of_bits binary32 0) ≡ true → x ≡ sqrt binary32 x
unfolding eq sqrt
of_zero x X e = grind (arith, zero_is, zero_exponent, ne_eqb, some)

nan_is : of_bits binary32 0x7fc0_0000 ≡ nan
unfolding of_bits
nan_is = refl

pub of_negative : (x : Float) → eq x (of_bits binary32 0) ≡ false → lt (of_bits binary32 0) x ≡ false → of_bits binary32 0x7fc0_0000 ≡ sqrt binary32 x
unfolding eq lt sqrt
of_negative x a b = grind (arith, nan_is, zero_is, eq-eqb, ltb-false, some)

-- what is above zero has no sign
no_sign : (x : Float) (n d : ℕ) → lt (of_bits binary32 0) x ≡ true → HasValue x true n d → ⊥
unfolding lt
no_sign x n d h = grind (arith, zero_is)

pub pattern-pos : (x : Float) → T (fits binary32 x) → lt (of_bits binary32 0) x ≡ true → 0 < to_bits binary32 x
unfolding lt
pattern-pos x X h = grind (arith, of_bits-to_bits, zero_is)

pub of-infinity : (x : Float) → T (fits binary32 x) → lt (of_bits binary32 0) x ≡ true → 255 * 2 ^ 23 ≤ to_bits binary32 x → x ≡ sqrt binary32 x
unfolding lt sqrt
of-infinity x X h l =
    elim (eq-zero-or-pos (255 * 2 ^ 23 - to_bits binary32 x % 2 ^ 31)) [
      | inl z ↦ go (no_number binary32 x X (omega arith))
      | inr p ↦
          absurd (no_sign x _ _ h
          (subst (λ (s : Bool). HasValue x s (steps binary32 (to_bits binary32 x % 2 ^ 31)) (2 ^ 149)) (le-leb (2 ^ 31) (to_bits binary32 x) (omega arith)) (value binary32 x X (omega arith))))
    ]
  where
    go : (x ≡ nan) ⊎ ((s : Bool) × (x ≡ inf s)) → x ≡ sqrt binary32 x
    go (inl e) = e ∙ ap (sqrt binary32) (sym e)
    go (inr (false, e)) = e ∙ ap (sqrt binary32) (sym e)
    go (inr (true, e)) = absurd (true≢false (sym h ∙ ap (lt (of_bits binary32 0)) e ∙ ap (λ (y : Float). lt y (inf true)) zero_is))

quotient : (a d v : ℕ) → 0 < d → a * 2 ^ 172 ≡ v * d → a * 2 ^ 4542 / d ≡ v * 2 ^ 4370
quotient a d v D e =
    ap (λ (k : ℕ). k / d) (sym (mul_assoc a (2 ^ 172) (2 ^ 4370)) ∙ ap (λ (k : ℕ). k * 2 ^ 4370) e ∙ mul_right_comm v d (2 ^ 4370)) ∙ mul-div_cancel (v * 2 ^ 4370) D

none : (a v d : ℕ) → 0 < v → 0 < d → 0 * a * 2 ^ 172 ≡ v * d → ⊥
none a v d V D e = omega (arith, mul-pos V D)

of_positive : (x : Float) (v : ℕ) → 0 < v → HasValue x false v (2 ^ 172) → round binary32 false (root_twice (v * 2 ^ 4370)) (2 ^ 2272) ≡ sqrt binary32 x
unfolding sqrt
of_positive nan v V h = absurd h
of_positive (inf s) v V h = absurd h
of_positive (fin true m e) v V h = absurd (true≢false h.0)
of_positive (fin false zero e) v V h = absurd (none (up e) v (down e) V (down_pos e) h.1)
of_positive (fin false (suc m) e) v V h = grind (arith, root_twice, quotient, down_pos)

-- ---- the radicand m 2^(24 - k % 2), of 47 or 48 digits

pub radicand-in : (m k : ℕ) → 2 ^ 23 ≤ m → m < 2 ^ 24 → (2 ^ 46 ≤ m * 2 ^ (24 - k % 2)) × (m * 2 ^ (24 - k % 2) < 2 ^ 48)
radicand-in m k a b =
    elim (eq-zero-or-pos (k % 2)) [
      | inl z ↦ omega (arith, ap (λ (n : ℕ). m * 2 ^ (24 - n)) z)
      | inr p ↦ let o : k % 2 ≡ 1 = omega arith in omega (arith, ap (λ (n : ℕ). m * 2 ^ (24 - n)) o)
    ]

pub shifted : (n m k : ℕ) → n ≡ m → 2 ^ 23 ≤ m → m < 2 ^ 24 → (n * 2 ^ (24 - k % 2)) % 2 ^ 64 ≡ m * 2 ^ (24 - k % 2)
shifted n m k e a b = grind (arith, radicand-in)

half-exponent : (k : ℕ) → 24 - k % 2 + ((k + 103) / 2 + 2122 + ((k + 103) / 2 + 2122)) ≡ k + 4370
half-exponent k = omega arith

powers : (m a h k : ℕ) → a + (h + h) ≡ k + 4370 → m * 2 ^ a * (2 ^ h * 2 ^ h) ≡ m * 2 ^ k * 2 ^ 4370
powers m a h k e =
    mul_assoc m (2 ^ a) (2 ^ h * 2 ^ h)
    ∙ ap (λ (n : ℕ). m * n) (ap (λ (n : ℕ). 2 ^ a * n) (sym (pow-add 2 h h)) ∙ sym (pow-add 2 a (h + h)) ∙ ap (λ (n : ℕ). 2 ^ n) e ∙ pow-add 2 k 4370)
    ∙ sym (mul_assoc m (2 ^ k) (2 ^ 4370))

twice : (j : ℕ) → 2 * 2 ^ (j + 2121) ≡ 2 ^ (j + 2122)
twice j = omega (arith, pow-add)

regroup : (a y b c : ℕ) → a * (y * b) * c ≡ a * b * c * y
regroup a y b c = omega arith

unit : (j : ℕ) → 4 * 2 ^ (j + 2121) * 2 ^ 149 ≡ 2 ^ 2272 * 2 ^ j
unit j = omega (arith, pow-add, regroup)

pub root_is : (x : Float) (m k q : ℕ) → HasValue x false (m * 2 ^ k) (2 ^ 172) → 2 ^ 23 ≤ m → m < 2 ^ 24 → NearestRoot (m * 2 ^ (24 - k % 2)) q
    → units binary32 false q ((k + 103) / 2) ≡ sqrt binary32 x
root_is x m k q v a b h =
    let j = (k + 103) / 2 in
    let n = m * 2 ^ (24 - k % 2) in
    let i = radicand-in m k a b in
    let e : n * (2 * 2 ^ (j + 2121) * (2 * 2 ^ (j + 2121))) ≡ m * 2 ^ k * 2 ^ 4370 = grind (arith, twice, powers, half-exponent) in
    sym (root-rounds binary32 n q (2 ^ (j + 2121)) (2 ^ 2272) j (pow_pos (j + 2121)) (pow_pos 2272) (unit j) i.0 i.1 h)
    ∙ ap (λ (t : ℕ). round binary32 false (root_twice t) (2 ^ 2272)) e
    ∙ of_positive x (m * 2 ^ k) (mul-pos (omega arith) (pow_pos k)) v

-- ---- the result's pattern

pub root_in : (m k q : ℕ) → 2 ^ 23 ≤ m → m < 2 ^ 24 → NearestRoot (m * 2 ^ (24 - k % 2)) q → (2 ^ 23 ≤ q) × (q ≤ 2 ^ 24)
root_in m k q a b h = grind (arith, radicand-in, root-at-least, root-at-most)

pub pattern-is : (k q : ℕ) → 2 ^ 23 ≤ q → q ≤ 2 ^ 24 → k < 277 → of_bits binary32 ((k + 103) / 2 * 2 ^ 23 + q) ≡ units binary32 false q ((k + 103) / 2)
pattern-is k q a b K = ap (of_bits binary32) (sym (zero-add ((k + 103) / 2 * 2 ^ 23 + q))) ∙ packed binary32 false q ((k + 103) / 2) b (λ _. a) (omega arith)
