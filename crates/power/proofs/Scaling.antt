-- The count of a whole number 64 j, and the power of two that it stands for. Assumes nothing.
use Rattle.std.proofs.Common.{◌≡◌, ℕ, suc, ◌+◌, ◌-◌, ◌*◌, ◌/◌, ◌%◌, ◌^◌, ◌<◌, ◌≤◌, min, Bool, true, false, cond, ltb, ◌⊎◌, ℤ, pos, negsuc, nat_abs, sym, refl, ap, ◌∙◌, inl, inr, ⊎_elim, le_trans, le_of_eq, lt_of_lt_of_le, le_of_lt, eq-zero-or-pos, lt_of_mul-lt-mul_right, mul-pos, mul-one, le_of_mul-le-mul_right, mul-div_cancel, arith, ltb-false, ltb-true, le-ltb, lt-ltb}
use native.Mathlib.Nat.{min-eq_left, min-eq_right, min-le_right, suc-min-suc}
use lib.Bits.{bit_and, and_mask}
use lib.Ieee as Ieee
use lib.Ieee.{Float, nan, inf, fin, up, down}
use lib.Ieee.Fits.{down_pos}
use Rattle.std.specs.Float.{float_with_sign}
use Rattle.power.specs.Rules.{Is}
use Rattle.power.specs.Lookup.{f64, exp2_mid}
use Rattle.power.specs.Fast.{clamped, count, hi_bits, scale}
use Rattle.power.proofs.Multiples.{negative}

-- ---- the count

-- 2^16 - n or 2^16 + n
abbrev moved : Bool → ℕ → ℕ
moved s n = cond s (65536 - n) (65536 + n)

-- the count of a number within the clamp's ends
abbrev counted : Float → ℕ
counted c = moved (Ieee.lt c (f64 0)) (Ieee.to_unsigned 32 (float_with_sign false c))

-- the side of nothing is free
side : (s t : Bool) (n : ℕ) → (n ≡ 0) ⊎ (s ≡ t) → moved s n ≡ moved t n
side s t n (inr e) = ap (λ (b : Bool). moved b n) e
side s t n (inl z) = ap (moved s) z ∙ both s t ∙ ap (moved t) (sym z)
  where
    both : (s t : Bool) → moved s 0 ≡ moved t 0
    both true true = refl
    both true false = refl
    both false true = refl
    both false false = refl

-- the cast of a whole number c
pub cast : (n d c : ℕ) → 0 < d → n * 1 ≡ c * d → c ≤ 32768 → min (n / d) (2 ^ 32 - 1) ≡ c
cast n d c D e h =
    let q : n / d ≡ c = ap (λ (x : ℕ). x / d) (sym (mul-one n) ∙ e) ∙ mul-div_cancel c D in
    ap (λ (x : ℕ). min x (2 ^ 32 - 1)) q ∙ min-eq_left (omega arith)

inside : (n d c : ℕ) → 0 < d → n * 1 ≡ c * d → ltb (32768 * d) (n * 1) ≡ false → c ≤ 32768
inside n d c D e q = le_of_mul-le-mul_right (le_trans (le_of_eq (sym e)) (ltb-false (32768 * d) (n * 1) q)) D

outside : (n d c : ℕ) → n * 1 ≡ c * d → ltb (32768 * d) (n * 1) ≡ true → 32768 < c
outside n d c e q = lt_of_mul-lt-mul_right d (lt_of_lt_of_le (ltb-true (32768 * d) (n * 1) q) (le_of_eq e))

clamped-is : (u : Bool) (m : ℕ) (e : ℤ) → clamped (fin u m e) ≡ cond (ltb (32768 * down e) (m * up e * 1)) (fin u 1 (pos 15)) (fin u m e)
unfolding Ieee.lt Ieee.neg Ieee.of_bits
clamped-is true m e = refl
clamped-is false m e = refl

counted-end : (u : Bool) → counted (fin u 1 (pos 15)) ≡ moved u 32768
unfolding Ieee.lt Ieee.of_bits Ieee.to_unsigned float_with_sign
counted-end true = refl
counted-end false = refl

counted_is : (u : Bool) (m : ℕ) (e : ℤ) (c : ℕ) → m * up e * 1 ≡ c * down e → c ≤ 32768 → counted (fin u m e) ≡ moved u c
unfolding Ieee.lt Ieee.of_bits Ieee.to_unsigned float_with_sign
counted_is true m e c w h =
    let b = ltb 0 (m * up e * 1 + 0 * down e) in
    let below : (c ≡ 0) ⊎ (b ≡ true) =
    ⊎_elim inl (λ p. inr (lt-ltb 0 (m * up e * 1 + 0 * down e) (let g : 0 < c * down e = mul-pos p (down_pos e) in omega (arith, w, g)))) (eq-zero-or-pos c) in
    ap (moved b) (cast (m * up e) (down e) c (down_pos e) w h) ∙ side b true c below
counted_is false m e c w h =
    let low : ltb (m * up e * 1) (0 * down e) ≡ false = le-ltb (m * up e * 1) (0 * down e) (omega arith) in
    λ i. moved (low i) (cast (m * up e) (down e) c (down_pos e) w h i)

-- of a whole number c, held within 2^15
count-whole : (h : Float) (s : Bool) (c : ℕ) → Is h s c 1 → count h ≡ moved s (min c 32768)
count-whole nan s c w = absurd w
count-whole (inf t) s c w = absurd w
count-whole (fin u m e) s c w =
    ap counted (clamped-is u m e) ∙ go (ltb (32768 * down e) (m * up e * 1)) refl ∙ side u s (min c 32768) (⊎_elim (λ z. inl (ap (λ (x : ℕ). min x 32768) z)) inr w.2)
  where
    go : (q : Bool) → ltb (32768 * down e) (m * up e * 1) ≡ q → counted (cond q (fin u 1 (pos 15)) (fin u m e)) ≡ moved u (min c 32768)
    go true q = counted-end u ∙ ap (moved u) (sym (min-eq_right {n = 32768} {m = c} (le_of_lt (outside (m * up e) (down e) c w.1 q))))
    go false q = let h = inside (m * up e) (down e) c (down_pos e) w.1 q in counted_is u m e c w.1 h ∙ ap (moved u) (sym (min-eq_left h))

-- ---- the exponent field

-- the exponent field of 2^j, for a j that is held within -512 and 512
abbrev pub field : ℤ → ℕ
field (pos a) = 1023 + min a 512
field (negsuc a) = 1022 - min a 511

pub field-range : (j : ℤ) → (511 ≤ field j) × (field j ≤ 1535)
field-range (pos a) = let h = min-le_right a 512 in (omega arith, omega arith)
field-range (negsuc a) = let h = min-le_right a 511 in (omega arith, omega arith)

-- 64 is taken out of a minimum
min-times : (a b : ℕ) → min (a * 64) (b * 64) ≡ min a b * 64
min-times a b = go (eq-zero-or-pos (a - b))
  where
    go : (a - b ≡ 0) ⊎ (0 < a - b) → min (a * 64) (b * 64) ≡ min a b * 64
    go (inl z) = min-eq_left {n = a * 64} {m = b * 64} (omega arith) ∙ ap (λ (x : ℕ). x * 64) (sym (min-eq_left {n = a} {m = b} (omega arith)))
    go (inr p) = min-eq_right {n = b * 64} {m = a * 64} (omega arith) ∙ ap (λ (x : ℕ). x * 64) (sym (min-eq_right {n = b} {m = a} (omega arith)))

pub count-is : (h : Float) (j : ℤ) → Is h (negative j) (nat_abs j * 64) 1 → count h ≡ suc (field j) * 64
count-is h (pos a) w =
    let q : min (a * 64) 32768 ≡ min a 512 * 64 = min-times a 512 in
    count-whole h false (a * 64) w ∙ ap (λ (x : ℕ). 65536 + x) q ∙ omega arith
count-is h (negsuc a) w =
    let q : min (suc a * 64) 32768 ≡ min (suc a) 512 * 64 = min-times (suc a) 512 in
    let r : min (suc a) 512 ≡ suc (min a 511) = suc-min-suc a 511 in
    count-whole h true (suc a * 64) w ∙ ap (λ (x : ℕ). 65536 - x) (q ∙ ap (λ (x : ℕ). x * 64) r) ∙ (let l = min-le_right a 511 in omega arith)

-- ---- the scale

added : (c : ℕ) → 511 ≤ c → c ≤ 1535 → (hi_bits (suc c * 64) + 0x3ff0_0000_0000_0000) % 2 ^ 64 ≡ c * 2 ^ 52
added c l h =
    let q : suc c * 64 / 2 ^ 6 ≡ suc c = omega arith in
    let r : (hi_bits (suc c * 64) + 0x3ff0_0000_0000_0000) % 2 ^ 64 ≡ ((suc c + 2 ^ 64 - 1024) % 2 ^ 64 * 2 ^ 52 % 2 ^ 64 + 0x3ff0_0000_0000_0000) % 2 ^ 64 =
    ap (λ (x : ℕ). ((x + 2 ^ 64 - 1024) % 2 ^ 64 * 2 ^ 52 % 2 ^ 64 + 0x3ff0_0000_0000_0000) % 2 ^ 64) q in
    r ∙ omega arith

pub scale-is : (c : ℕ) → 511 ≤ c → c ≤ 1535 → scale (suc c * 64) ≡ f64 (c * 2 ^ 52)
unfolding exp2_mid
scale-is c l h =
    let z : bit_and (suc c * 64) 0x3f ≡ 0 = and_mask (suc c * 64) 6 ∙ omega arith in
    ap (λ (i : ℕ). f64 ((hi_bits (suc c * 64) + (exp2_mid i).1) % 2 ^ 64)) z ∙ ap f64 (added c l h)
