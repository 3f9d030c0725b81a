-- The f32 nearest to a power of two and to the f64 beside it: the rounding test at a power of two. Assumes nothing.
use Rattle.std.proofs.Common.{◌≡◌, ℕ, ◌+◌, ◌-◌, ◌*◌, ◌/◌, ◌%◌, ◌^◌, ◌<◌, ◌≤◌, Bool, true, false, cond, not, T, ◌⊎◌, sym, refl, ap, ◌∙◌, subst, inl, inr, eq-zero-or-pos, zero-add, arith, pow_mono, pow-add, le-ltb}
use native.Mathlib.Nat.{div-eq_of_lt-le}
use borrow.Author.Tests.{not-false}
use lib.Arith.{lt_of_le-ne}
use lib.Ieee as Ieee
use lib.Ieee.{Float, Format, nan, binary32, binary64, hid, ones, top, of_bits, to_bits, is_nan, ne}
use lib.Dec.{not_T}
use lib.Ieee.Bits.{is_false, to_bits-of_bits, nan_bits_is, nan_bits_above}
use lib.Ieee.Compare.{differs_from_itself}
use lib.Ieee.Nearest.{closest}
use Rattle.std.specs.Float.{round_to_format}
use Rattle.pairs.specs.Narrowing.{Narrowed}
use Rattle.pairs.proofs.narrowing.Laws.{half-even, normal, subnormal, tiny, huge}
use Rattle.power.specs.Lookup.{f64}
use Rattle.power.specs.Fast.{upper, lower, tested}
use Rattle.power.specs.declared.fast.Doubt.{Doubt}
use Rattle.std.specs.Prelude.{Ok, Err}

-- ---- the nearest whole number

-- a fraction less than a half away from q
near : (t k q : ℕ) → 0 < k → q * 2 ^ k < t + 2 ^ (k - 1) → t < q * 2 ^ k + 2 ^ (k - 1) → closest t (2 ^ k) ≡ q
near t k q K l u = sym (half-even t k K) ∙ whole (2 ^ k) (2 ^ (k - 1)) (t / 2 ^ k % 2) halves (omega arith) l u
  where
    halves : 2 ^ k ≡ 2 * 2 ^ (k - 1)
    halves = ap (λ (x : ℕ). 2 ^ x) {x = k} {y = 1 + (k - 1)} (omega arith) ∙ pow-add 2 1 (k - 1)

    whole : (w h p : ℕ) → w ≡ 2 * h → p ≤ 1 → q * w < t + h → t < q * w + h → (t + (h - 1) + p) / w ≡ q
    whole w h p e P l u = div-eq_of_lt-le {k = q} w (omega arith) (omega arith)

-- ---- f64 patterns beside that of a power of two

-- the pattern b is at most 128 from that of an exponent field c and a clear fraction
abbrev Beside : ℕ → ℕ → Type 0
Beside c b = (c * 2 ^ 52 ≤ b + 128) × (b ≤ c * 2 ^ 52 + 128)

-- from 2^-126 on
beside-normal : (c b : ℕ) → Beside c b → 897 * 2 ^ 52 ≤ b → b < 1151 * 2 ^ 52 → Narrowed b ((c - 896) * 2 ^ 23)
beside-normal c b (l, u) lo hi = normal b ((c - 896) * 2 ^ 23) lo hi (sym (near (b - 896 * 2 ^ 52) 29 ((c - 896) * 2 ^ 23) (omega arith) (omega arith) (omega arith)))

-- 2^a / 2^k in a sum that is 2^j
whole-power : (a k j : ℕ) → a + k ≡ j → 2 ^ a * 2 ^ k ≡ 2 ^ j
whole-power a k j e = sym (pow-add 2 a k) ∙ ap (λ (x : ℕ). 2 ^ x) e

-- below it, to a multiple of 2^-149
beside-subnormal : (c b : ℕ) → Beside c b → 874 ≤ c → c ≤ 897 → 873 * 2 ^ 52 ≤ b → b < 897 * 2 ^ 52 → Narrowed b (2 ^ (c - 874))
beside-subnormal c b (l, u) cl cu lo hi = subnormal b (2 ^ (c - 874)) lo hi (sym (go (eq-zero-or-pos (c * 2 ^ 52 - b))))
  where
    half : (k : ℕ) → 30 ≤ k → 2 ^ 29 ≤ 2 ^ (k - 1)
    half k h = pow_mono {i = 29} {j = k - 1} (omega arith)

    go : (c * 2 ^ 52 - b ≡ 0) ⊎ (0 < c * 2 ^ 52 - b) → closest (2 ^ 52 + b % 2 ^ 52) (2 ^ (926 - b / 2 ^ 52)) ≡ 2 ^ (c - 874)
    go (inl z) =
        let f : b / 2 ^ 52 ≡ c = omega arith in
        let k = 926 - c in
        let p : 2 ^ (c - 874) * 2 ^ k ≡ 2 ^ 52 = whole-power (c - 874) k 52 (omega arith) in
        let r : b % 2 ^ 52 ≤ 128 = omega arith in
        let h = half k (omega arith) in
        ap (λ (x : ℕ). closest (2 ^ 52 + b % 2 ^ 52) (2 ^ (926 - x))) f ∙ near (2 ^ 52 + b % 2 ^ 52) k (2 ^ (c - 874)) (omega arith) (omega (arith, p, h, r)) (omega (arith, p, h, r))
    go (inr g) =
        let f : b / 2 ^ 52 ≡ c - 1 = omega arith in
        let k = 926 - (c - 1) in
        let p : 2 ^ (c - 874) * 2 ^ k ≡ 2 ^ 53 = whole-power (c - 874) k 53 (omega arith) in
        let r : 2 ^ 52 ≤ b % 2 ^ 52 + 128 = omega arith in
        let s : b % 2 ^ 52 < 2 ^ 52 = omega arith in
        let h = half k (omega arith) in
        ap (λ (x : ℕ). closest (2 ^ 52 + b % 2 ^ 52) (2 ^ (926 - x))) f ∙ near (2 ^ 52 + b % 2 ^ 52) k (2 ^ (c - 874)) (omega arith) (omega (arith, p, h, r)) (omega (arith, p, h, s))

-- all of them have one nearest f32, unless the power is 2^-150
alike : (c : ℕ) → 511 ≤ c → c ≤ 1535 → (c ≡ 873 → ⊥) → (r : ℕ) × ((b : ℕ) → Beside c b → Narrowed b r)
alike c lo hi away = go (eq-zero-or-pos (873 - c)) (eq-zero-or-pos (c - 896)) (eq-zero-or-pos (c - 1150))
  where
    by-normal : 0 < c - 896 → c ≤ 1150 → (b : ℕ) → Beside c b → Narrowed b ((c - 896) * 2 ^ 23)
    by-normal p h b w = at (eq-zero-or-pos (897 * 2 ^ 52 - b))
      where
        at : (897 * 2 ^ 52 - b ≡ 0) ⊎ (0 < 897 * 2 ^ 52 - b) → Narrowed b ((c - 896) * 2 ^ 23)
        at (inl z) = beside-normal c b w (omega arith) (let u = w.1 in omega arith)
        at (inr g) =
            let l = w.0 in
            let e : c ≡ 897 = omega arith in
            let same : 2 ^ (c - 874) ≡ (c - 896) * 2 ^ 23 = ap (λ (x : ℕ). 2 ^ (x - 874)) e ∙ ap (λ (x : ℕ). (x - 896) * 2 ^ 23) (sym e) in
            subst (Narrowed b) same (beside-subnormal c b w (omega arith) (omega arith) (omega arith) (omega arith))

    by-huge : 0 < c - 1150 → (b : ℕ) → Beside c b → Narrowed b (255 * 2 ^ 23)
    by-huge p b w = at (eq-zero-or-pos (1151 * 2 ^ 52 - b))
      where
        at : (1151 * 2 ^ 52 - b ≡ 0) ⊎ (0 < 1151 * 2 ^ 52 - b) → Narrowed b (255 * 2 ^ 23)
        at (inl z) = huge b (omega arith) (let u = w.1 in omega arith)
        at (inr g) =
            let l = w.0 in
            let e : c ≡ 1151 = omega arith in
            subst (λ (x : ℕ). Narrowed b ((x - 896) * 2 ^ 23)) e (beside-normal c b w (omega arith) (omega arith))

    go : (873 - c ≡ 0) ⊎ (0 < 873 - c) → (c - 896 ≡ 0) ⊎ (0 < c - 896) → (c - 1150 ≡ 0) ⊎ (0 < c - 1150) → (r : ℕ) × ((b : ℕ) → Beside c b → Narrowed b r)
    go (inr p) x y = (0, λ b w. tiny b (let u = w.1 in omega arith))
    go (inl p) (inl q) y =
        let n : 873 < c = lt_of_le-ne {i = 873} {k = c} (omega arith) (λ e. away (sym e)) in
        (2 ^ (c - 874), λ b w. let l = w.0 in let u = w.1 in beside-subnormal c b w (omega arith) (omega arith) (omega arith) (omega arith))
    go (inl p) (inr q) (inl r) = ((c - 896) * 2 ^ 23, by-normal q (omega arith))
    go (inl p) (inr q) (inr r) = (255 * 2 ^ 23, by-huge r)

-- at 2^-150 those above it have 2^-149, and those below it 0
above-tie : (b : ℕ) → 873 * 2 ^ 52 < b → b ≤ 873 * 2 ^ 52 + 128 → Narrowed b 1
above-tie b l u =
    let f : b / 2 ^ 52 ≡ 873 = omega arith in
    subnormal b 1 (omega arith) (omega arith)
    (sym (ap (λ (x : ℕ). closest (2 ^ 52 + b % 2 ^ 52) (2 ^ (926 - x))) f ∙ near (2 ^ 52 + b % 2 ^ 52) 53 1 (omega arith) (omega arith) (omega arith)))

-- ---- the rounding test

abbrev power : ℕ → Float
power c = f64 (c * 2 ^ 52)

-- a pattern up to infinity's is no NaN
no_nan : (f : Format) (b : ℕ) → b % top f ≤ ones f * hid f → T (not (is_nan (of_bits f b)))
no_nan f b h = subst (λ (z : Bool). T (not z)) (sym (sym (nan_bits_is f b) ∙ nan_bits_above f b ∙ le-ltb (ones f * hid f) (b % top f) h)) tt

power-no-nan : (c : ℕ) → c ≤ 1535 → T (not (is_nan (power c)))
power-no-nan c h = no_nan binary64 (c * 2 ^ 52) (omega arith)

bits : (c : ℕ) → c ≤ 1535 → to_bits binary64 (power c) ≡ c * 2 ^ 52
bits c h = to_bits-of_bits binary64 (c * 2 ^ 52) (omega arith) (power-no-nan c h)

narrows : (b r : ℕ) → Narrowed b r → round_to_format binary32 (f64 b) ≡ of_bits binary32 r
narrows b r N = ap (λ (x : ℕ). round_to_format binary32 (f64 x)) (sym (zero-add b)) ∙ sym (N.nearest false) ∙ ap (of_bits binary32) (zero-add r)

-- the f32 nearest to the f64 whose pattern is g of that of a power
moved-is : (g : ℕ → ℕ) (c b r : ℕ) → c ≤ 1535 → g (c * 2 ^ 52) % 2 ^ 64 ≡ b → Narrowed b r → round_to_format binary32 (f64 (g (to_bits binary64 (power c)) % 2 ^ 64)) ≡ of_bits binary32 r
moved-is g c b r h e N = ap (λ (x : ℕ). round_to_format binary32 (f64 (g x % 2 ^ 64))) (bits c h) ∙ ap (λ (x : ℕ). round_to_format binary32 (f64 x)) e ∙ narrows b r N

upper_is : (e c r : ℕ) → e ≤ 128 → c ≤ 1535 → Narrowed (c * 2 ^ 52 + e) r → upper e (power c) ≡ of_bits binary32 r
upper_is e c r E h N = moved-is (λ x. x + e) c (c * 2 ^ 52 + e) r h (omega arith) N

lower-is : (e c r : ℕ) → e ≤ 128 → 511 ≤ c → c ≤ 1535 → Narrowed (c * 2 ^ 52 - e) r → lower e (power c) ≡ of_bits binary32 r
lower-is e c r E l h N = moved-is (λ x. x + 2 ^ 64 - e) c (c * 2 ^ 52 - e) r h (omega arith) N

-- `tested`, where both neighbours are told
decided : (e : ℕ) (x u l : Float) (d : Doubt) → is_nan x ≡ false → upper e x ≡ u → lower e x ≡ l → tested e x d ≡ cond (Ieee.eq u l) (Ok u) (Err d)
decided e x u l d n p q = λ i. cond (n i) (Ok nan) (cond (Ieee.eq (p i) (q i)) (Ok (p i)) (Err d))

-- what is no NaN equals itself
equal-self : (x : Float) → T (not (is_nan x)) → Ieee.eq x x ≡ true
unfolding is_nan ne
equal-self x h = not-false (Ieee.eq x x) (is_false (ne x x) (not_T (ne x x) (λ t. subst (λ (y : Float). T (not (is_nan y))) (differs_from_itself x t) h)))

-- a power of two other than 2^-150 is sure, and is rounded once
pub tested-sure : (e c : ℕ) (d : Doubt) → e ≤ 128 → 511 ≤ c → c ≤ 1535 → (c ≡ 873 → ⊥) → tested e (f64 (c * 2 ^ 52)) d ≡ Ok (round_to_format binary32 (f64 (c * 2 ^ 52)))
tested-sure e c d E lo hi away =
    let A = alike c lo hi away in
    let r = A.0 in
    let v = of_bits binary32 r in
    let mid = A.1 (c * 2 ^ 52) (omega arith, omega arith) in
    let same : Ieee.eq v v ≡ true = equal-self v (no_nan binary32 r (let h = mid.bound in omega arith)) in
    decided e (power c) v v d (is_false (is_nan (power c)) (power-no-nan c hi)) (upper_is e c r E hi (A.1 (c * 2 ^ 52 + e) (omega arith, omega arith)))
    (lower-is e c r E lo hi (A.1 (c * 2 ^ 52 - e) (omega arith, omega arith)))
    ∙ ap (λ (z : Bool). cond z (Ok v) (Err d)) same ∙ ap Ok (sym (narrows (c * 2 ^ 52) r mid))

-- 2^-150 is left open
pub tested-tie : (e : ℕ) (d : Doubt) → 1 ≤ e → e ≤ 128 → tested e (f64 (873 * 2 ^ 52)) d ≡ Err d
tested-tie e d l h =
    decided e (power 873) (of_bits binary32 1) (of_bits binary32 0) d (is_false (is_nan (power 873)) (power-no-nan 873 (omega arith)))
    (upper_is e 873 1 h (omega arith) (above-tie (873 * 2 ^ 52 + e) (omega arith) (omega arith)))
    (lower-is e 873 0 h (omega arith) (omega arith) (tiny (873 * 2 ^ 52 - e) (omega arith)))
    ∙ ap (λ (z : Bool). cond z (Ok (of_bits binary32 1)) (Err d)) differ
  where
    differ : Ieee.eq (of_bits binary32 1) (of_bits binary32 0) ≡ false
    differ = unfold Ieee.eq of_bits in refl
