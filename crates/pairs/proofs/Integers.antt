-- Integers: the laws of a ring, bounds on a size, the sign and the size of an integer, and multiples of a power of two.
use Rattle.std.proofs.Common.{◌≡◌, ℕ, suc, ◌+◌, ◌-◌, ◌*◌, ◌^◌, ◌<◌, ◌≤◌, Bool, true, false, not, ℤ, pos, negsuc, ◌+ℤ◌, ◌-ℤ◌, ◌*ℤ◌, neg_ℤ, nat_abs, sym, refl, ap, ◌∙◌, mul-le-mul, arith, pow-add}
use native.Mathlib.Nat.{eq_of_mul-eq-mul_right}
use lib.IntN.{+ℤ_assoc, +ℤ_comm, *ℤ_comm, neg_ℤ-neg_ℤ}
use lib.Ieee.{unlike}
use lib.Ieee.Digits.{back}
use borrow.Author.Differences.{up, down, ints, same_in, sum_is_lem, product_is, abs_is}
use Rattle.pairs.specs.Value.{signed}

-- ---- a ring

-- a product distributes over a sum, from the right
pub distr : (a b c : ℤ) → (a +ℤ b) *ℤ c ≡ a *ℤ c +ℤ b *ℤ c
distr a b c = same_in ((a +ℤ b) *ℤ c) (a *ℤ c +ℤ b *ℤ c) (omega (arith, product_is (a +ℤ b) c, product_is a c, product_is b c, sum_is_lem (a *ℤ c) (b *ℤ c), ap (λ (n : ℕ). n * up c) (sum_is_lem a b), ap (λ (n : ℕ). n * down c) (sum_is_lem a b)))

-- and from the left
distl : (a b c : ℤ) → a *ℤ (b +ℤ c) ≡ a *ℤ b +ℤ a *ℤ c
distl a b c = grind (arith, *ℤ_comm, distr)

-- products associate
pub mul-assocℤ : (a b c : ℤ) → (a *ℤ b) *ℤ c ≡ a *ℤ (b *ℤ c)
mul-assocℤ a b c = same_in ((a *ℤ b) *ℤ c) (a *ℤ (b *ℤ c)) (omega (arith, product_is (a *ℤ b) c, product_is a (b *ℤ c), ap (λ (n : ℕ). n * up c) (product_is a b).0, ap (λ (n : ℕ). n * down c) (product_is a b).0, ap (λ (n : ℕ). n * up c) (product_is a b).1, ap (λ (n : ℕ). n * down c) (product_is a b).1, ap (λ (n : ℕ). up a * n) (product_is b c).0, ap (λ (n : ℕ). down a * n) (product_is b c).0, ap (λ (n : ℕ). up a * n) (product_is b c).1, ap (λ (n : ℕ). down a * n) (product_is b c).1))

-- the first two of three factors change places
mul-left-commℤ : (a b c : ℤ) → a *ℤ (b *ℤ c) ≡ b *ℤ (a *ℤ c)
mul-left-commℤ a b c = grind (arith, mul-assocℤ, *ℤ_comm)

-- the last two of three factors change places
pub mul-right-commℤ : (a b c : ℤ) → a *ℤ b *ℤ c ≡ a *ℤ c *ℤ b
mul-right-commℤ a b c = grind (arith, mul-assocℤ, *ℤ_comm)

-- the two middle factors change places
pub mul-swapℤ : (a b c d : ℤ) → a *ℤ b *ℤ (c *ℤ d) ≡ a *ℤ c *ℤ (b *ℤ d)
mul-swapℤ a b c d = grind (arith, mul-assocℤ, mul-left-commℤ)

-- the first two of three terms change places
add-left-commℤ : (a b c : ℤ) → a +ℤ (b +ℤ c) ≡ b +ℤ (a +ℤ c)
add-left-commℤ a b c = omega (arith, ints)

-- a sign comes out of the first factor
pub neg-mul : (a b : ℤ) → neg_ℤ a *ℤ b ≡ neg_ℤ (a *ℤ b)
neg-mul a b = grind arith

-- and out of the second
mul-neg : (a b : ℤ) → a *ℤ neg_ℤ b ≡ neg_ℤ (a *ℤ b)
mul-neg a b = grind arith

-- a product distributes over a difference
pub sub-mul : (a b c : ℤ) → (a -ℤ b) *ℤ c ≡ a *ℤ c -ℤ b *ℤ c
sub-mul a b c = grind (arith, distr, neg-mul)

-- a positive factor cancels
pub mul-cancel : (a b : ℤ) (n : ℕ) → 0 < n → a *ℤ pos n ≡ b *ℤ pos n → a ≡ b
mul-cancel a b n N e = grind (arith, product_is, same_in, eq_of_mul-eq-mul_right)

-- sums of products in one form
ruleset ring = (distr, distl, mul-assocℤ, *ℤ_comm, mul-left-commℤ, +ℤ_assoc, +ℤ_comm, add-left-commℤ, neg-mul, mul-neg)

-- the product of two numbers that are split in two
pub expand : (a l b m e : ℤ) → (a *ℤ e +ℤ l) *ℤ (b *ℤ e +ℤ m) ≡ a *ℤ b *ℤ (e *ℤ e) +ℤ (a *ℤ m +ℤ l *ℤ b) *ℤ e +ℤ l *ℤ m
expand a l b m e = simp ring

-- ---- small equations

-- a number is itself times one
pub times-one : (z : ℤ) → z ≡ z *ℤ pos (2 ^ 0)
times-one z = omega (arith, ints)

-- a number is a part of it and the rest
pub rejoin : (w h : ℤ) → h +ℤ (w -ℤ h) ≡ w
rejoin w h = omega (arith, ints)

-- a sum less one term is the other
pub sub-of-sum : (x y s : ℤ) → s ≡ x +ℤ y → s -ℤ x ≡ y
sub-of-sum x y s e = omega (arith, ints)

-- ---- the size

-- |z| ≤ n, in a form that `omega` reads
abbrev pub Abs : ℤ → ℕ → Type 0
Abs z n = (up z ≤ down z + n) × (down z ≤ up z + n)

-- from that form
pub abs-out : (z : ℤ) (n : ℕ) → Abs z n → nat_abs z ≤ n
abs-out z n h = omega (arith, abs_is z)

-- into that form
pub abs-in : (z : ℤ) (n : ℕ) → nat_abs z ≤ n → Abs z n
abs-in z n h = omega (arith, abs_is z)

-- the size of the negative
pub abs_neg : (z : ℤ) → nat_abs (neg_ℤ z) ≡ nat_abs z
abs_neg z = omega (arith, ints)

-- the size of a product
pub nat_abs_mul : (a b : ℤ) → nat_abs (a *ℤ b) ≡ nat_abs a * nat_abs b
nat_abs_mul (pos a) (pos b) = refl
nat_abs_mul (pos a) (negsuc b) = abs_neg (pos (a * suc b))
nat_abs_mul (negsuc a) (pos b) = abs_neg (pos (suc a * b))
nat_abs_mul (negsuc a) (negsuc b) = refl

-- a bound on a product
pub abs-mul : (a b : ℤ) (m n : ℕ) → Abs a m → Abs b n → Abs (a *ℤ b) (m * n)
abs-mul a b m n p q = grind (arith, abs-in, nat_abs_mul, mul-le-mul, abs-out)

-- the size of a sum
pub sum-le : (x y : ℤ) (n : ℕ) → nat_abs x ≤ n → nat_abs y ≤ n → nat_abs (x +ℤ y) ≤ n * 2
sum-le x y n h k = omega (arith, ints)

-- the size of a difference
pub sub-le : (x y : ℤ) (n : ℕ) → nat_abs x ≤ n → nat_abs y ≤ n → nat_abs (x -ℤ y) ≤ n * 2
sub-le x y n h k = omega (arith, ints)

-- the size of one term of a sum
pub rest_le : (s e w : ℤ) (n : ℕ) → s +ℤ e ≡ w → nat_abs w ≤ n → nat_abs s ≤ n → nat_abs e ≤ n * 2
rest_le s e w n h a b = omega (arith, ints)

-- ---- the sign

-- whether an integer is negative
unfoldable pub is_neg : ℤ → Bool
is_neg (pos n) = false
is_neg (negsuc n) = true

-- an integer is its sign and its size
pub signed-own : (z : ℤ) → z ≡ signed (is_neg z) (nat_abs z)
unfolding is_neg
signed-own (pos n) = refl
signed-own (negsuc n) = refl

-- the size of a signed number
pub signed-abs : (s : Bool) (n : ℕ) → nat_abs (signed s n) ≡ n
signed-abs false n = refl
signed-abs true n = abs_neg (pos n)

-- zero has no sign
pub signed-zero : (s : Bool) → signed s 0 ≡ pos 0
signed-zero false = refl
signed-zero true = refl

-- the negative of a signed number
pub signed-neg : (s : Bool) (n : ℕ) → neg_ℤ (signed s n) ≡ signed (not s) n
signed-neg false n = refl
signed-neg true n = neg_ℤ-neg_ℤ (pos n)

-- the product of signed numbers
pub signed_mul : (s t : Bool) (m n : ℕ) → signed s m *ℤ signed t n ≡ signed (unlike s t) (m * n)
signed_mul false false m n = refl
signed_mul false true m n = mul-neg (pos m) (pos n)
signed_mul true false m n = neg-mul (pos m) (pos n)
signed_mul true true m n = grind (arith, neg-mul, mul-neg, neg_ℤ-neg_ℤ)

-- a positive factor comes out of a signed number
pub signed-mul-pos : (s : Bool) (a b : ℕ) → signed s (a * b) ≡ signed s a *ℤ pos b
signed-mul-pos false a b = refl
signed-mul-pos true a b = sym (neg-mul (pos a) (pos b))

-- a number that is not 0 has one sign and one size
pub signed_same : (s t : Bool) (m n : ℕ) → 0 < m → signed s m ≡ signed t n → (s ≡ t) × (m ≡ n)
signed_same false false m n h e = (refl, omega (arith, ints))
signed_same false true m n h e = absurd (omega (arith, ints))
signed_same true false m n h e = absurd (omega (arith, ints))
signed_same true true m n h e = (refl, omega (arith, ints))

-- ---- multiples of a power of two

-- z is a multiple of 2^e
abbrev pub Multiple : ℤ → ℕ → Type 0
Multiple z e = (q : ℤ) × (z ≡ q *ℤ pos (2 ^ e))

-- a factor of 2^(e + j) is one of 2^e and one of 2^j
pub scale-add : (z : ℤ) (e j : ℕ) → z *ℤ pos (2 ^ (e + j)) ≡ z *ℤ pos (2 ^ e) *ℤ pos (2 ^ j)
scale-add z e j = grind (arith, pow-add, mul-assocℤ)

-- the size of a multiple
pub scale-abs : (z : ℤ) (j : ℕ) → nat_abs (z *ℤ pos (2 ^ j)) ≡ nat_abs z * 2 ^ j
scale-abs z j = nat_abs_mul z (pos (2 ^ j))

-- a multiple of a power is one of a lower power
pub multiple-down : (z : ℤ) (e d : ℕ) → d ≤ e → Multiple z e → Multiple z d
multiple-down z e d h m = (m.0 *ℤ pos (2 ^ (e - d)), m.1 ∙ ap (λ (n : ℕ). m.0 *ℤ pos (2 ^ n)) (sym (back e d h)) ∙ scale-add m.0 (e - d) d)

-- a sum of multiples is one
pub multiple-add : (x y : ℤ) (e : ℕ) → Multiple x e → Multiple y e → Multiple (x +ℤ y) e
multiple-add x y e m n = (m.0 +ℤ n.0, ap (λ (z : ℤ). z +ℤ y) m.1 ∙ ap (λ (z : ℤ). m.0 *ℤ pos (2 ^ e) +ℤ z) n.1 ∙ sym (distr m.0 n.0 (pos (2 ^ e))))

-- a difference of multiples is one
pub multiple-sub : (x y : ℤ) (e : ℕ) → Multiple x e → Multiple y e → Multiple (x -ℤ y) e
multiple-sub x y e m n = multiple-add x (neg_ℤ y) e m (neg_ℤ n.0, ap neg_ℤ n.1 ∙ sym (neg-mul n.0 (pos (2 ^ e))))
