-- What the two tests of an exponent answer, and that the bit pattern of an f32 says it. Assumes nothing.
use Rattle.std.proofs.Common.{◌≡◌, ℕ, zero, suc, ◌+◌, ◌*◌, ◌/◌, ◌%◌, ◌^◌, ◌<◌, ◌≤◌, Bool, true, false, cond, T, eqb, leb, ℤ, sym, refl, ap, ◌∙◌, subst, ap₂, mod-lt, div-lt_iff_lt-mul, pow-suc, div-one, add-one, arith, eq-eqb, ne_eqb, eqb-true, le-leb, leb-false, leb-true}
use native.Mathlib.Nat.{mod-one, div-div-eq-div-mul, pow-succ'}
use lib.Pow.{split, field, mod-mod-pow, shl-shr}
use lib.Bits.{bit_and, bit_or, and_high, or_block, or_step, or_zero_r, block_half, block_odd, shifted_even}
use lib.Count.{count_trailing_zeros, under, trailing_le}
use lib.Ieee as Ieee
use lib.Ieee.{Float, nan, inf, fin, binary32, minus, fits, of_fields, of_bits, to_bits}
use lib.Ieee.Bits.{of_bits-to_bits}
use borrow.Author.Tests.{lt-leb}
use Rattle.pairs.specs.Whole.{whole, odd, integerf, odd_integerf}

-- ---- laws of the tests

-- a number that is not 0
pub integerf-whole : (s : Bool) (m : ℕ) (e : ℤ) → integerf (fin s (suc m) e) ≡ whole (fin s (suc m) e)
unfolding integerf
integerf-whole s m e = refl

pub odd-odd : (s : Bool) (m : ℕ) (e : ℤ) → odd_integerf (fin s (suc m) e) ≡ odd (fin s (suc m) e)
unfolding odd_integerf
odd-odd s m e = refl

-- ---- m 2^(a - l) for an odd m: whole if a is at least l, and odd if it is l

odd-rem : (m k : ℕ) → m % 2 ≡ 1 → m % 2 ^ suc k ≡ 0 → ⊥
odd-rem m k o z =
    let e : m % 2 ^ suc k % 2 ≡ m % 2 = subst (λ (j : ℕ). m % 2 ^ j % 2 ≡ m % 2) (add-one k) (mod-mod-pow m k 1) in
    let c : ◌≡◌ {A = ℕ} 1 0 = sym o ∙ sym e ∙ ap (λ (r : ℕ). r % 2) z in
    omega arith

fraction : (m k : ℕ) → m % 2 ≡ 1 → eqb (m * 1 % 2 ^ suc k) 0 ≡ false
fraction m k o = omega (arith, ne_eqb, odd-rem)

no_fraction : (m k : ℕ) → eqb (m * 2 ^ k % 1) 0 ≡ true
no_fraction m k = eq-eqb _ _ (mod-one (m * 2 ^ k))

last-digit : (m k : ℕ) → m % 2 ≡ 1 → eqb (m * 2 ^ k / 1 % 2) 1 ≡ eqb k 0
last-digit m zero o = grind (arith, eq-eqb, div-one)
last-digit m (suc k) o = grind (arith, div-one, shifted_even, ne_eqb)

whole-at : (s : Bool) (m a l : ℕ) → m % 2 ≡ 1 → whole (fin s m (minus a l)) ≡ leb l a
whole-at s m a l o = grind (arith, no_fraction, fraction)

-- tests of two numbers that say the same
same-eqb : (a b c d : ℕ) → (a ≡ b → c ≡ d) → (c ≡ d → a ≡ b) → eqb a b ≡ eqb c d
same-eqb a b c d to from = grind arith

odd-at : (s : Bool) (m a l : ℕ) → m % 2 ≡ 1 → odd (fin s m (minus a l)) ≡ eqb a l
odd-at s m a l o = grind (arith, leb-true, no_fraction, last-digit, same-eqb, leb-false, fraction, ne_eqb)

-- an odd significand is not 0
tests-odd : (s : Bool) (m : ℕ) (e : ℤ) → m % 2 ≡ 1 → (integerf (fin s m e) ≡ whole (fin s m e)) × (odd_integerf (fin s m e) ≡ odd (fin s m e))
tests-odd s zero e o = let z : ◌≡◌ {A = ℕ} 0 1 = o in absurd (omega arith)
tests-odd s (suc m) e o = (integerf-whole s m e, odd-odd s m e)

-- ---- trailing zeros

-- q with its trailing zeros cut off is odd
pub cut-odd : (d q : ℕ) → 0 < q → q < 2 ^ d → q / 2 ^ count_trailing_zeros d q % 2 ≡ 1
unfolding count_trailing_zeros
cut-odd zero q h k = absurd (omega arith)
cut-odd (suc d) q h k =
    let low : q / 2 < 2 ^ d = (div-lt_iff_lt-mul (omega arith)).1 (subst (λ (x : ℕ). q < x) (pow-suc 2 d) k) in
    go (q % 2) refl (λ (p : 0 < q / 2). cut-odd d (q / 2) p low)
  where
    go : (r : ℕ) → q % 2 ≡ r → (0 < q / 2 → q / 2 / 2 ^ count_trailing_zeros d (q / 2) % 2 ≡ 1) → q / 2 ^ under r (count_trailing_zeros d (q / 2)) % 2 ≡ 1
    go zero e half =
        let t = count_trailing_zeros d (q / 2) in
        ap (λ (x : ℕ). x % 2) (ap (λ (x : ℕ). q / x) (pow-succ' 2 t) ∙ sym (div-div-eq-div-mul q 2 (2 ^ t))) ∙ half (omega arith)
    go (suc r) e half = let o : q % 2 ≡ 1 = omega arith in ap (λ (x : ℕ). x % 2) (div-one q) ∙ o

-- the trailing zeros of t below a leading bit at place k: the digits above that bit, and how many are looked at, do not matter
same-zeros : (k c d a b t : ℕ) → k < c → k < d → a % 2 ≡ 1 → b % 2 ≡ 1 → t < 2 ^ k → count_trailing_zeros c (a * 2 ^ k + t) ≡ count_trailing_zeros d (b * 2 ^ k + t)
unfolding count_trailing_zeros
same-zeros k zero d a b t p q o u h = absurd (omega arith)
same-zeros k (suc c) zero a b t p q o u h = absurd (omega arith)
same-zeros zero (suc c) (suc d) a b t p q o u h = grind (arith, count_trailing_zeros)
same-zeros (suc k) (suc c) (suc d) a b t p q o u h =
    ap₂ (λ (r n : ℕ). under r (count_trailing_zeros c n)) (block_odd a k t) (block_half a k t)
    ∙ ap (λ (z : ℕ). under (t % 2) z) (same-zeros k c d a b (t / 2) (omega arith) (omega arith) o u ((div-lt_iff_lt-mul (omega arith)).1 (subst (λ (x : ℕ). t < x) (pow-suc 2 k) h)))
    ∙ sym (ap₂ (λ (r n : ℕ). under r (count_trailing_zeros d n)) (block_odd b k t) (block_half b k t))

-- q 2^(k - l) by the trailing zeros of q
tests-canonical : (d : ℕ) (s : Bool) (q k l : ℕ) → 0 < q → q < 2 ^ d → (integerf (Ieee.odd d s q k l) ≡ leb l (k + count_trailing_zeros d q)) × (odd_integerf (Ieee.odd d s q k l) ≡ eqb (k + count_trailing_zeros d q) l)
unfolding Ieee.odd
tests-canonical d s zero k l p h = absurd (omega arith)
tests-canonical d s (suc q) k l p h =
    let t = count_trailing_zeros d (suc q) in
    let m = suc q / 2 ^ t in
    let o : m % 2 ≡ 1 = cut-odd d (suc q) p h in
    let e = tests-odd s m (minus (k + t) l) o in
    (e.0 ∙ whole-at s m (k + t) l o, e.1 ∙ odd-at s m (k + t) l o)

-- ---- a bit pattern

-- what the sum n of the exponent field and the trailing zeros says of y
abbrev pub Says : ℕ → Float → Type 0
Says n y = (leb 150 n ≡ integerf y) × (eqb n 150 ≡ odd_integerf y)

-- both tests fail of 0 and of a subnormal, which are below 1
small : (s : Bool) (t : ℕ) → t < 2 ^ 23 → (integerf (Ieee.odd 24 s t 0 149) ≡ false) × (odd_integerf (Ieee.odd 24 s t 0 149) ≡ false)
small s zero h = unfold Ieee.odd in unfold integerf in unfold odd_integerf in (refl, refl)
small s (suc t) h =
    let e = tests-canonical 24 s (suc t) 0 149 (omega arith) (omega arith) in
    let z = trailing_le 24 (suc t) in
    (e.0 ∙ lt-leb 149 (0 + count_trailing_zeros 24 (suc t)) (omega arith), e.1 ∙ ne_eqb (0 + count_trailing_zeros 24 (suc t)) 149 (λ n. omega arith))

-- an infinity or a NaN
large : (s b : Bool) → (integerf (cond b (inf s) nan) ≡ true) × (odd_integerf (cond b (inf s) nan) ≡ false)
unfolding integerf odd_integerf
large s true = (refl, refl)
large s false = (refl, refl)

same-leb : (n x : ℕ) → n ≡ suc x → leb 150 n ≡ leb 149 x
same-leb n x e = grind arith

-- the sign s, the exponent field x and the fraction t
of-fields : (s : Bool) (x t z : ℕ) → t < 2 ^ 23 → z ≡ count_trailing_zeros 24 (2 ^ 23 + t) → Says (x + z) (of_fields binary32 s x t)
unfolding of_fields
of-fields s zero t z h e =
    let le : z ≤ 24 = subst (λ (a : ℕ). a ≤ 24) (sym e) (trailing_le 24 (2 ^ 23 + t)) in
    (lt-leb 150 (0 + z) (omega arith) ∙ sym (small s t h).0, ne_eqb (0 + z) 150 (λ n. omega arith) ∙ sym (small s t h).1)
of-fields s (suc x) t z h e = go (eqb (suc x) 255) refl
  where
    go : (b : Bool) → eqb (suc x) 255 ≡ b → Says (suc x + z) (cond b (cond (eqb t 0) (inf s) nan) (Ieee.odd 24 s (2 ^ 23 + t) x 149))
    go true i =
        let f : suc x ≡ 255 = eqb-true (suc x) 255 i in
        (le-leb 150 (suc x + z) (omega arith) ∙ sym (large s (eqb t 0)).0, ne_eqb (suc x + z) 150 (λ n. omega arith) ∙ sym (large s (eqb t 0)).1)
    go false i =
        let v = tests-canonical 24 s (2 ^ 23 + t) x 149 (omega arith) (omega arith) in
        let f : suc x + z ≡ suc (x + count_trailing_zeros 24 (2 ^ 23 + t)) = omega arith in
        (same-leb (suc x + z) _ f ∙ sym v.0, same-eqb (suc x + z) 150 _ 149 (λ n. omega arith) (λ n. omega arith) ∙ sym v.1)

-- the exponent field
field_is : (b : ℕ) → bit_and b 0x7f80_0000 / 2 ^ 23 ≡ b % 2 ^ 31 / 2 ^ 23
field_is b = ap (λ (a : ℕ). a / 2 ^ 23) (and_high b 8 23) ∙ shl-shr (b / 2 ^ 23 % 2 ^ 8) 23 ∙ sym (field b 8 23)

or-ones : (a : ℕ) → bit_or a 255 % 2 ≡ 1
or-ones a = omega (arith, or_step, mod-lt)

-- with the exponent field set to ones, the fraction t stands below a set bit
zeros-is : (b : ℕ) → count_trailing_zeros 32 (bit_or b 0x7f80_0000) ≡ count_trailing_zeros 24 (2 ^ 23 + b % 2 ^ 23)
zeros-is b =
    let t = b % 2 ^ 23 in
    let h : t < 2 ^ 23 = mod-lt b (omega arith) in
    ap (λ (n : ℕ). count_trailing_zeros 32 (bit_or n 0x7f80_0000)) (sym (split b 23))
    ∙ ap (count_trailing_zeros 32) (or_block 23 (b / 2 ^ 23) 255 t 0 h (omega arith) ∙ ap (λ (n : ℕ). bit_or (b / 2 ^ 23) 255 * 2 ^ 23 + n) (or_zero_r t))
    ∙ same-zeros 23 32 24 (bit_or (b / 2 ^ 23) 255) 1 t (omega arith) (omega arith) (or-ones (b / 2 ^ 23)) refl h

-- the sum that the code computes from a bit pattern
abbrev place : ℕ → ℕ
place b = bit_and b 0x7f80_0000 / 2 ^ 23 + count_trailing_zeros 32 (bit_or b 0x7f80_0000)

of-pattern : (b : ℕ) → Says (place b) (of_bits binary32 b)
unfolding of_bits
of-pattern b =
    let z = count_trailing_zeros 32 (bit_or b 0x7f80_0000) in
    subst (λ (x : ℕ). Says (x + z) (of_bits binary32 b)) (sym (field_is b))
    (of-fields (leb (2 ^ 31) b) (b % 2 ^ 31 / 2 ^ 23) (b % 2 ^ 23) z (mod-lt b (omega arith)) (zeros-is b))

pub says : (x : Float) (b : ℕ) → T (fits binary32 x) → b ≡ to_bits binary32 x → Says (place b) x
says x b h e = subst (λ (y : Float). Says (place b) y) (ap (of_bits binary32) e ∙ of_bits-to_bits binary32 x h) (of-pattern b)
