-- The product of n equal factors m 2^e of f32, of at most 53 digits in all, is rounded once. Assumes nothing.
use Rattle.std.proofs.Common.{◌≡◌, ℕ, zero, suc, ◌+◌, ◌-◌, ◌*◌, ◌^◌, ◌<◌, ◌≤◌, Bool, true, false, cond, T, leb, ◌⊎◌, ℤ, pos, negsuc, ◌*ℤ◌, sym, refl, ap, ◌∙◌, subst, inl, inr, ⊎_elim, le_trans, le_of_eq, lt_of_lt_of_le, lt_of_le_of_lt, le_of_lt, lt_irrefl, mul-le-mul_right, zero-lt-suc, mul_assoc, mul_comm, mul-le-mul, mul-le-mul_left, mul-lt-mul_of_pos_right, mul-pos, one-mul, pow-suc, mul-one, mul-suc, le-mul_of_pos_right, mul_left_comm, arith, pow_pos, pow_mono, pow-add, ne_eqb, leb-false, leb-true}
use native.Mathlib.Nat.{pow-zero}
use lib.Ieee.{Float, nan, inf, fin, binary32, binary64, up, down, unlike, size, round, mul, fits}
use lib.Ieee.Digits.{size-lt}
use lib.Ieee.Fits.{down_pos, round-fits, fits_widens}
use lib.Ieee.Exact.{round_exact}
use lib.Ieee.Scale.{round_same}
use Rattle.std.specs.Float.{round_to_format}
use Rattle.power.specs.Rules.{Is}
use Rattle.power.specs.Whole.{repeated, product}
use Rattle.power.specs.Lemmas.Values.{bounds, value→is}
use Rattle.power.specs.Lemmas.Uses.{dyadic, product-terms}
use Rattle.power.proofs.Multiples.{negative_power}
use Rattle.power.proofs.Ends.{Tiny, round-over, round_under, round-tiny}

either : (a b : ℕ) → (a ≤ b) ⊎ (b < a)
either a b = go (leb a b) refl
  where
    go : (t : Bool) → leb a b ≡ t → (a ≤ b) ⊎ (b < a)
    go true e = inl (leb-true a b e)
    go false e = inr (leb-false a b e)

-- ---- whole numbers of at most 53 digits times a power of two

-- q 2^a below 2^1024
large : (q a : ℕ) → q < 2 ^ 53 → q * 2 ^ a < 2 ^ 1024 → Is (round binary64 false (q * 2 ^ a) 1) false (q * 2 ^ a) 1
large q a h l =
    let e : q * 2 ^ a * 2 ^ 1074 ≡ q * 2 ^ (a + 1074) = mul_assoc q (2 ^ a) (2 ^ 1074) ∙ ap (λ (x : ℕ). q * x) (sym (pow-add 2 a 1074)) in
    let f : q * 2 ^ (a + 1074) < 2 ^ (1074 + 1024) =
    subst (λ (x : ℕ). x < 2 ^ (1074 + 1024)) e (lt_of_lt_of_le (mul-lt-mul_of_pos_right l (pow_pos 1074)) (le_of_eq (sym (pow-add 2 1024 1074)))) in
    value→is (round binary64 false (q * 2 ^ a) 1) false (q * 2 ^ a) 1 (round-fits binary64 false (q * 2 ^ a) 1)
    (round_exact binary64 false (q * 2 ^ a) 1 q (a + 1074) (omega arith) h f (e ∙ sym (mul-one (q * 2 ^ (a + 1074)))))

-- ---- products of two numbers above zero

certain : (u : Bool) (n : ℕ) → 0 < n → (n ≡ 0) ⊎ (u ≡ false) → u ≡ false
certain u n N (inl z) = absurd (lt_irrefl 0 (subst (λ (w : ℕ). 0 < w) z N))
certain u n N (inr h) = h

-- the product in lowest or other terms
mul-round : (x y : Float) (n d k e : ℕ) → 0 < d → 0 < e → 0 < n → 0 < k → Is x false n d → Is y false k e → mul binary64 x y ≡ round binary64 false (n * k) (d * e)
unfolding mul
mul-round nan y n d k e D E N K A B = absurd A
mul-round (inf u) y n d k e D E N K A B = absurd A
mul-round (fin u m g) nan n d k e D E N K A B = absurd B
mul-round (fin u m g) (inf v) n d k e D E N K A B = absurd B
mul-round (fin u m g) (fin v l h) n d k e D E N K A B =
    let x-sign = certain u n N A.2 in
    let y-sign = certain v k K B.2 in
    (λ i. round binary64 (unlike (x-sign i) (y-sign i)) (m * up g * (l * up h)) (down g * down h))
    ∙ round_same binary64 false (m * up g * (l * up h)) (down g * down h) (n * k) (d * e) (mul-pos (down_pos g) (down_pos h)) (mul-pos D E)
    (sym (product-terms n k d e (m * up g) (down g) (l * up h) (down h) A.1 B.1))

narrowed : (y : Float) (n d : ℕ) → 0 < n → 0 < d → Is y false n d → round_to_format binary32 y ≡ round binary32 false n d
unfolding round_to_format
narrowed nan n d N D w = absurd w
narrowed (inf u) n d N D w = absurd w
narrowed (fin u m e) n d N D w = ap (λ (v : Bool). round binary32 v (m * up e) (down e)) (certain u n N w.2) ∙ round_same binary32 false (m * up e) (down e) n d (down_pos e) D w.1

-- ---- powers of whole numbers

power_pos : (q k : ℕ) → 0 < q → 0 < q ^ k
power_pos q zero Q = subst (λ (x : ℕ). 0 < x) (sym (pow-zero q)) (zero-lt-suc zero)
power_pos q (suc k) Q = subst (λ (x : ℕ). 0 < x) (sym (pow-suc q k)) (mul-pos (power_pos q k Q) Q)

first-power : (q : ℕ) → q ^ suc zero ≡ q
first-power q = pow-suc q zero ∙ ap (λ (x : ℕ). x * q) (pow-zero q) ∙ one-mul q

-- one factor fewer
fewer : (q k b : ℕ) → 0 < q → q ^ suc (suc k) < b → q ^ suc k < b
fewer q k b Q h = lt_of_le_of_lt (le_trans (le-mul_of_pos_right (q ^ suc k) Q) (le_of_eq (sym (pow-suc q (suc k))))) h

-- a number of s digits has at most s k digits in its power k
digits : (q s k : ℕ) → q < 2 ^ s → q ^ suc k < 2 ^ (s * suc k)
digits q s zero h = subst (λ (x : ℕ). x < 2 ^ (s * 1)) (sym (first-power q)) (subst (λ (x : ℕ). q < 2 ^ x) (sym (mul-one s)) h)
digits q s (suc k) h =
    let e : 2 ^ (s * suc (suc k)) ≡ 2 ^ (s * suc k) * 2 ^ s = ap (λ (x : ℕ). 2 ^ x) (mul-suc s (suc k)) ∙ pow-add 2 (s * suc k) s in
    subst (λ (x : ℕ). q ^ suc (suc k) < x) (sym e)
    (lt_of_le_of_lt (le_of_eq (pow-suc q (suc k)))
    (lt_of_le_of_lt (mul-le-mul_left (q ^ suc k) (le_of_lt h)) (mul-lt-mul_of_pos_right (digits q s k h) (pow_pos s))))

-- ---- exponents from 0 up: a product is exact, or it is ∞ from 2^1024 on

next-over : (q a k : ℕ) → q ^ suc k * 2 ^ (a * suc k) * (q * 2 ^ a) ≡ q ^ suc (suc k) * 2 ^ (a * suc (suc k))
next-over q a k =
    let e : q ^ suc (suc k) ≡ q ^ suc k * q = pow-suc q (suc k) in
    let f : 2 ^ (a * suc (suc k)) ≡ 2 ^ (a * suc k) * 2 ^ a = ap (λ (x : ℕ). 2 ^ x) (mul-suc a (suc k)) ∙ pow-add 2 (a * suc k) a in
    sym ((λ i. e i * f i) ∙ simp (mul_assoc, mul_comm, mul_left_comm))

abbrev Up : ℕ → ℕ → ℕ → Float → Type 0
Up q a k y = Is y false (q ^ suc k * 2 ^ (a * suc k)) 1 ⊎ ((y ≡ inf false) × (2 ^ 1024 ≤ q ^ suc k * 2 ^ (a * suc k)))

infinite-times : (q : ℕ) (e : ℤ) → 0 < q → mul binary64 (inf false) (fin false q e) ≡ inf false
unfolding mul
infinite-times q e Q = ap (λ (b : Bool). cond b nan (inf false)) (ne_eqb q 0 (λ z. lt_irrefl 0 (subst (λ (x : ℕ). 0 < x) z Q)))

up_next : (q a k : ℕ) (y : Float) → 0 < q → T (fits binary64 (fin false q (pos a))) → q ^ suc (suc k) < 2 ^ 53 → Up q a k y → Up q a (suc k) (mul binary64 y (fin false q (pos a)))
up_next q a k y Q t few (inr h) =
    inr (
      ap (λ (x : Float). mul binary64 x (fin false q (pos a))) h.0 ∙ infinite-times q (pos a) Q,
      le_trans h.1 (le_trans (le-mul_of_pos_right (q ^ suc k * 2 ^ (a * suc k)) (mul-pos Q (pow_pos a))) (le_of_eq (next-over q a k))),
    )
up_next q a k y Q t few (inl w) =
    let n = q ^ suc (suc k) * 2 ^ (a * suc (suc k)) in
    let z = mul binary64 y (fin false q (pos a)) in
    let is : z ≡ round binary64 false n 1 =
    mul-round y (fin false q (pos a)) (q ^ suc k * 2 ^ (a * suc k)) 1 (q * 2 ^ a) 1 (omega arith) (omega arith)
    (mul-pos (power_pos q (suc k) Q) (pow_pos (a * suc k))) (mul-pos Q (pow_pos a)) w (t, refl, inr refl)
    ∙ ap (λ (x : ℕ). round binary64 false x 1) (next-over q a k) in
    let over : 2 ^ 1024 ≤ n → Up q a (suc k) z = λ h. inr (is ∙ round-over binary64 n 1 (omega arith) (le_trans (le_of_eq (mul-one (2 ^ 1024))) h), h) in
    let under : n < 2 ^ 1024 → Up q a (suc k) z = λ h. inl (subst (λ (x : Float). Is x false n 1) (sym is) (large (q ^ suc (suc k)) (a * suc (suc k)) few h)) in
    ⊎_elim over under (either (2 ^ 1024) n)

up-all : (q a : ℕ) → 0 < q → T (fits binary64 (fin false q (pos a))) → (k : ℕ) → q ^ suc k < 2 ^ 53 → Up q a k (repeated (fin false q (pos a)) k)
up-all q a Q t zero few = inl (t, (λ i. sym (first-power q) i * 2 ^ (sym (mul-one a) i) * 1), inr refl)
up-all q a Q t (suc k) few = up_next q a k (repeated (fin false q (pos a)) k) Q t few (up-all q a Q t k (fewer q k (2 ^ 53) Q few))

beyond : (n : ℕ) → 2 ^ 1024 ≤ n → 2 ^ 128 * 1 ≤ n
beyond n h = le_trans (le_of_eq (mul-one (2 ^ 128))) (le_trans (pow_mono {i = 128} {j = 1024} (omega arith)) h)

up-narrowed : (q a k : ℕ) (y : Float) → 0 < q → Up q a k y → round_to_format binary32 y ≡ round binary32 false (q ^ suc k * 2 ^ (a * suc k)) 1
unfolding round_to_format
up-narrowed q a k y Q (inl w) = narrowed y (q ^ suc k * 2 ^ (a * suc k)) 1 (mul-pos (power_pos q (suc k) Q) (pow_pos (a * suc k))) (omega arith) w
up-narrowed q a k y Q (inr h) =
    ap (round_to_format binary32) h.0 ∙ sym (round-over binary32 (q ^ suc k * 2 ^ (a * suc k)) 1 (omega arith) (beyond (q ^ suc k * 2 ^ (a * suc k)) h.1))

-- ---- exponents below 0: a product is exact, or, from 2^-1075 down, at most 2^-1000

next_under : (b k : ℕ) → 2 ^ (b * suc k) * 2 ^ b ≡ 2 ^ (b * suc (suc k))
next_under b k = sym (ap (λ (x : ℕ). 2 ^ x) (mul-suc b (suc k)) ∙ pow-add 2 (b * suc k) b)

abbrev Down : ℕ → ℕ → ℕ → Float → Type 0
Down q b k y = Is y false (q ^ suc k) (2 ^ (b * suc k)) ⊎ (Tiny y × (1074 < b * suc k))

-- n below 2^53 over 2^c is below 2^-j
far-below : (n c j : ℕ) → n < 2 ^ 53 → 53 + j ≤ c → n * 2 ^ j ≤ 2 ^ c
far-below n c j h l = le_trans (mul-le-mul_right (2 ^ j) (le_of_lt h)) (le_trans (le_of_eq (sym (pow-add 2 53 j))) (pow_mono l))

tiny-times : (q c : ℕ) (y : Float) → q ≤ 2 ^ suc c → Tiny y → Tiny (mul binary64 y (fin false q (negsuc c)))
unfolding mul
tiny-times q c nan h w = absurd w
tiny-times q c (inf s) h w = absurd w
tiny-times q c (fin s n g) h w =
    let d = down g * 2 ^ suc c in
    let le : n * up g * (q * 1) * 2 ^ 1000 ≤ d =
    le_trans (le_of_eq (shuffle (n * up g) q (2 ^ 1000))) (mul-le-mul w.1 h) in
    subst (λ (u : Bool). Tiny (round binary64 (unlike u false) (n * up g * (q * 1)) d)) (sym w.0) (round-tiny (n * up g * (q * 1)) d (mul-pos (down_pos g) (pow_pos (suc c))) le)
  where
    shuffle : (a q t : ℕ) → a * (q * 1) * t ≡ a * t * q
    shuffle a q t = ap (λ (x : ℕ). a * x * t) (mul-one q) ∙ mul_assoc a q t ∙ ap (λ (x : ℕ). a * x) (mul_comm q t) ∙ sym (mul_assoc a t q)

steep : (b k : ℕ) → suc k ≤ 24 → 1074 < b * suc k → 24 ≤ b
steep b k h l = let g : b * suc k ≤ b * 24 = mul-le-mul_left b h in omega arith

further : (b k : ℕ) → 1074 < b * suc k → 1074 < b * suc (suc k)
further b k h = let e = mul-suc b (suc k) in omega arith

down-next : (q c k : ℕ) (y : Float) → 0 < q → q < 2 ^ 24 → suc (suc k) ≤ 24 → T (fits binary64 (fin false q (negsuc c))) → q ^ suc (suc k) < 2 ^ 53
    → Down q (suc c) k y → Down q (suc c) (suc k) (mul binary64 y (fin false q (negsuc c)))
down-next q c k y Q narrow less t few (inr h) =
    let b-le : 24 ≤ suc c = steep (suc c) k (le_trans (omega arith) less) h.1 in
    inr (tiny-times q c y (le_trans (le_of_lt narrow) (pow_mono b-le)) h.0, further (suc c) k h.1)
down-next q c k y Q narrow less t few (inl w) =
    let n = q ^ suc (suc k) in
    let l = suc c * suc (suc k) in
    let z = mul binary64 y (fin false q (negsuc c)) in
    let top : q ^ suc k * (q * 1) ≡ n = ap (λ (x : ℕ). q ^ suc k * x) (mul-one q) ∙ sym (pow-suc q (suc k)) in
    let is : z ≡ round binary64 false n (2 ^ l) =
    mul-round y (fin false q (negsuc c)) (q ^ suc k) (2 ^ (suc c * suc k)) (q * 1) (2 ^ suc c) (pow_pos (suc c * suc k)) (pow_pos (suc c))
    (power_pos q (suc k) Q) (mul-pos Q (omega arith)) w (t, refl, inr refl)
    ∙ (λ i. round binary64 false (top i) (next_under (suc c) k i)) in
    let exact : l ≤ 1074 → Down q (suc c) (suc k) z = λ h. inl (subst (λ (x : Float). Is x false n (2 ^ l)) (sym is) (dyadic false n l few h)) in
    let tiny : 1074 < l → Down q (suc c) (suc k) z = λ h. inr (subst Tiny (sym is) (round-tiny n (2 ^ l) (pow_pos l) (far-below n l 1000 few (le_trans (omega arith) h))), h) in
    ⊎_elim exact tiny (either l 1074)

down-all : (q c : ℕ) → 0 < q → q < 2 ^ 24 → T (fits binary64 (fin false q (negsuc c))) → (k : ℕ) → suc k ≤ 24 → q ^ suc k < 2 ^ 53
    → Down q (suc c) k (repeated (fin false q (negsuc c)) k)
down-all q c Q narrow t zero less few = inl (t, (λ i. (mul-one q ∙ sym (first-power q)) i * 2 ^ mul-one (suc c) i), inr refl)
down-all q c Q narrow t (suc k) less few = down-next q c k (repeated (fin false q (negsuc c)) k) Q narrow less t few (down-all q c Q narrow t k (le_trans (omega arith) less) (fewer q k (2 ^ 53) Q few))

tiny-narrowed : (y : Float) → Tiny y → round_to_format binary32 y ≡ fin false 0 (pos 0)
unfolding round_to_format
tiny-narrowed nan w = absurd w
tiny-narrowed (inf s) w = absurd w
tiny-narrowed (fin s m e) w =
    ap (λ (u : Bool). round binary32 u (m * up e) (down e)) w.0
    ∙ round_under binary32 (m * up e) (down e) (down_pos e) (le_trans (mul-le-mul_left (m * up e) (pow_mono {i = 150} {j = 1000} (omega arith))) w.1)

down-narrowed : (q b k : ℕ) (y : Float) → 0 < q → q ^ suc k < 2 ^ 53 → Down q b k y → round_to_format binary32 y ≡ round binary32 false (q ^ suc k) (2 ^ (b * suc k))
down-narrowed q b k y Q few (inl w) = narrowed y (q ^ suc k) (2 ^ (b * suc k)) (power_pos q (suc k) Q) (pow_pos (b * suc k)) w
down-narrowed q b k y Q few (inr h) =
    tiny-narrowed y h.0 ∙ sym (round_under binary32 (q ^ suc k) (2 ^ (b * suc k)) (pow_pos (b * suc k)) (far-below (q ^ suc k) (b * suc k) 150 few (le_trans (omega arith) h.1)))

-- ---- both

rounded : (q : ℕ) (e : ℤ) (k : ℕ) → 0 < q → T (fits binary32 (fin false q e)) → suc k ≤ 24 → q ^ suc k < 2 ^ 53
    → round_to_format binary32 (repeated (fin false q e) k) ≡ round binary32 false (q ^ suc k * up (e *ℤ pos (suc k))) (down (e *ℤ pos (suc k)))
rounded q (pos a) k Q t less few = up-narrowed q a k (repeated (fin false q (pos a)) k) Q (up-all q a Q (fits_widens (fin false q (pos a)) t) k few)
rounded q (negsuc c) k Q t less few =
    let p = negative_power (suc c * suc k) (mul-pos {m = suc c} {n = suc k} (omega arith) (omega arith)) in
    down-narrowed q (suc c) k (repeated (fin false q (negsuc c)) k) Q few (down-all q c Q (bounds binary32 false q (negsuc c) t).few (fits_widens (fin false q (negsuc c)) t) k less few)
    ∙ (λ i. round binary32 false ((sym (mul-one (q ^ suc k)) ∙ ap (λ (x : ℕ). q ^ suc k * x) (sym p.0)) i) (sym p.1 i))

-- the product of n factors m 2^e, for size m * n up to 53, is rounded once
pub product-rounded : (m : ℕ) (e : ℤ) (n : ℕ) → 0 < m → T (fits binary32 (fin false m e)) → 1 ≤ n → n ≤ 24 → size m * n ≤ 53
    → product (fin false m e) n ≡ round binary32 false (m ^ n * up (e *ℤ pos n)) (down (e *ℤ pos n))
unfolding product
product-rounded m e zero M t least most h = absurd (lt_irrefl 0 least)
product-rounded m e (suc k) M t least most h =
    ap (λ (j : ℕ). round_to_format binary32 (repeated (fin false m e) j)) (less_one k)
    ∙ rounded m e k M t most (lt_of_lt_of_le (digits m (size m) k (size-lt m)) (pow_mono h))
  where
    less_one : (k : ℕ) → suc k - 1 ≡ k
    less_one k = omega arith
