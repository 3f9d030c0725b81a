-- The f64 2^j for a j held within -512 and 512, and the f32 nearest to it, which is that of 2^j for every j. Assumes nothing.
use Rattle.std.proofs.Common.{◌≡◌, ℕ, suc, ◌+◌, ◌-◌, ◌*◌, ◌/◌, ◌%◌, ◌^◌, ◌<◌, ◌≤◌, min, Bool, false, cond, T, leb, ◌⊎◌, ℤ, pos, negsuc, sym, refl, ap, ◌∙◌, subst, inl, inr, eq-zero-or-pos, arith, lit≤, ne_eqb, le-leb}
use native.Mathlib.Nat.{min-eq_left, min-eq_right, min-le_right}
use borrow.Author.Tests.{lt-leb}
use lib.Ieee as Ieee
use lib.Ieee.{Float, inf, fin, binary32, binary64, up, down, minus, odd, round, of_fields, of_bits}
use lib.Ieee.Bits.{of_bits-fits}
use Rattle.std.specs.Float.{round_to_format}
use Rattle.power.specs.Rules.{Number}
use Rattle.power.specs.Lookup.{f64}
use Rattle.power.proofs.Ends.{pow-over, pow-under}
use Rattle.power.proofs.Scaling.{field}

abbrev held : ℤ → ℤ
held (pos a) = pos (min a 512)
held (negsuc a) = negsuc (min a 511)

-- ---- the f64

-- a clear fraction
clear : (c : ℕ) → c < 2046 → f64 (suc c * 2 ^ 52) ≡ fin false 1 (minus (c + 52) 1074)
unfolding of_bits of_fields odd
clear c h =
    let n = suc c * 2 ^ 52 in
    let a : leb (2 ^ 63) n ≡ false = lt-leb (2 ^ 63) n (omega arith) in
    let b : n % 2 ^ 63 / 2 ^ 52 ≡ suc c = omega arith in
    let t : n % 2 ^ 52 ≡ 0 = omega arith in
    (λ i. of_fields binary64 (a i) (b i) (t i)) ∙ ap (λ (z : Bool). cond z (inf false) (fin false 1 (minus (c + 52) 1074))) (ne_eqb (suc c) 2047 (λ e. absurd (omega arith)))

minus-up : (c a : ℕ) → c ≡ 1022 + a → minus (c + 52) 1074 ≡ pos a
minus-up c a e =
    ap (λ (z : Bool). cond z (pos (c + 52 - 1074)) (negsuc (1074 - suc (c + 52)))) (le-leb 1074 (c + 52) (omega arith)) ∙ ap pos (omega arith)

minus-down : (c a : ℕ) → c + suc a ≡ 1022 → minus (c + 52) 1074 ≡ negsuc a
minus-down c a e =
    ap (λ (z : Bool). cond z (pos (c + 52 - 1074)) (negsuc (1074 - suc (c + 52)))) (lt-leb 1074 (c + 52) (omega arith)) ∙ ap negsuc (omega arith)

pub field-value : (j : ℤ) → f64 (field j * 2 ^ 52) ≡ fin false 1 (held j)
field-value (pos a) =
    let b = min a 512 in
    let h : b ≤ 512 = min-le_right a 512 in
    ap (λ (c : ℕ). f64 (c * 2 ^ 52)) {x = 1023 + b} {y = suc (1022 + b)} (omega arith) ∙ clear (1022 + b) (omega arith) ∙ ap (fin false 1) (minus-up (1022 + b) b refl)
field-value (negsuc a) =
    let b = min a 511 in
    let h : b ≤ 511 = min-le_right a 511 in
    ap (λ (c : ℕ). f64 (c * 2 ^ 52)) {x = 1022 - b} {y = suc (1021 - b)} (omega arith) ∙ clear (1021 - b) (omega arith) ∙ ap (fin false 1) (minus-down (1021 - b) b (omega arith))

pub field-number : (j : ℤ) → Number (f64 (field j * 2 ^ 52))
field-number j = subst Number (sym e) (subst (λ (x : Float). T (Ieee.fits binary64 x)) e (of_bits-fits binary64 (field j * 2 ^ 52)))
  where
    e : f64 (field j * 2 ^ 52) ≡ fin false 1 (held j)
    e = field-value j

-- ---- the f32

-- the power that is held rounds as the power itself
pub held-rounded : (j : ℤ) → round_to_format binary32 (fin false 1 (held j)) ≡ round binary32 false (1 * up j) (down j)
unfolding round_to_format
held-rounded (pos a) = go (eq-zero-or-pos (a - 512))
  where
    go : (a - 512 ≡ 0) ⊎ (0 < a - 512) → round binary32 false (1 * 2 ^ min a 512) 1 ≡ round binary32 false (1 * 2 ^ a) 1
    go (inl z) = ap (λ (b : ℕ). round binary32 false (1 * 2 ^ b) 1) (min-eq_left {n = a} {m = 512} (omega arith))
    go (inr p) =
        ap (λ (b : ℕ). round binary32 false (1 * 2 ^ b) 1) (min-eq_right {n = 512} {m = a} (omega arith))
        ∙ pow-over 512 (lit≤ tt) ∙ sym (pow-over a (omega arith))
held-rounded (negsuc a) = go (eq-zero-or-pos (a - 511))
  where
    go : (a - 511 ≡ 0) ⊎ (0 < a - 511) → round binary32 false (1 * 1) (2 ^ suc (min a 511)) ≡ round binary32 false (1 * 1) (2 ^ suc a)
    go (inl z) = ap (λ (b : ℕ). round binary32 false (1 * 1) (2 ^ suc b)) (min-eq_left {n = a} {m = 511} (omega arith))
    go (inr p) =
        ap (λ (b : ℕ). round binary32 false (1 * 1) (2 ^ suc b)) (min-eq_right {n = 511} {m = a} (omega arith))
        ∙ pow-under 511 (lit≤ tt) ∙ sym (pow-under a (omega arith))
