-- Rounding to odd, and that a rounding to nearest after it is as if it were the only one.
use Rattle.std.proofs.Common.{◌≡◌, ℕ, suc, ◌+◌, ◌-◌, ◌*◌, ◌^◌, ◌<◌, ◌≤◌, ℤ, pos, negsuc, ◌+ℤ◌, ◌-ℤ◌, ◌*ℤ◌, neg_ℤ, nat_abs, sym, ap, ◌∙◌, subst, le_trans, le_of_eq, lt_of_lt_of_le, le_of_lt, mul-le-mul_right, mul_assoc, mul_comm, lt_of_mul-lt-mul_right, one-mul, arith, pow_pos}
use borrow.Author.Differences.{up, down, ints}
use lib.Ieee.{size}
use lib.Ieee.Digits.{size-lt, size-le, size_reaches}
use lib.Ieee.Nearest.{closest}
use Rattle.pairs.specs.Value.{dropped, roundℕ, roundℤ, place}
use Rattle.pairs.specs.Fused.{RoundedOdd, itself, neighbour}
use Rattle.pairs.proofs.Powers.{double, size-gt, pow-split}
use Rattle.pairs.proofs.Integers.{distr, mul-assocℤ, Multiple}
use Rattle.pairs.proofs.Digits.{Near, closest-near, closest-is}

-- ---- between two neighbouring multiples of 2^h all numbers are rounded alike

-- n lies strictly between c w and the next multiple of w
abbrev Inside : ℕ → ℕ → ℕ → Type 0
Inside n c w = (c * w < n) × (n < suc c * w)

-- a multiple of w that is above one such number is above every other
above-all : (c m n n' w : ℕ) → Inside n c w → Inside n' c w → n ≤ m * w → n' < m * w
above-all c m n n' w i j h = grind (arith, mul-le-mul_right, lt_of_mul-lt-mul_right)

-- and one below is below
below_all : (c m n n' w : ℕ) → Inside n c w → Inside n' c w → m * w ≤ n → m * w < n'
below_all c m n n' w i j h = grind (arith, mul-le-mul_right, lt_of_mul-lt-mul_right)

-- 2^h taken out of 2^d
pow-over : (d h : ℕ) → h ≤ d → 2 ^ d ≡ 2 ^ (d - h) * 2 ^ h
pow-over d h l = sym (one-mul (2 ^ d)) ∙ pow-split 1 d h l ∙ ap (λ (x : ℕ). x * 2 ^ h) (one-mul (2 ^ (d - h)))

-- they have one size
size-alike : (c n n' h : ℕ) → h ≤ size n → Inside n c (2 ^ h) → Inside n' c (2 ^ h) → size n' ≤ size n
size-alike c n n' h l i j =
    let e = pow-over (size n) h l in
    size-le n' (size n) (lt_of_lt_of_le (above-all c (2 ^ (size n - h)) n n' (2 ^ h) i j (le_of_lt (lt_of_lt_of_le (size-lt n) (le_of_eq e)))) (le_of_eq (sym e)))

-- n is nearest to r u, and u is an even multiple of w: so n' is nearest to r u too
same-closest : (r V w u c n n' : ℕ) → u ≡ V * 2 * w → Inside n c w → Inside n' c w → Near (r * u) n u → (n' * 2 < r * u * 2 + u) × (r * u * 2 < n' * 2 + u)
same-closest r V w u c n n' e i j h =
    let m : r * u ≡ r * (V * 2 * w) = ap (λ (x : ℕ). r * x) e in
    let a : n ≤ (r * V * 2 + V) * w = omega arith in
    let b : n' < (r * V * 2 + V) * w = above-all c (r * V * 2 + V) n n' w i j a in
    let d : r * V * 2 * w ≤ n + V * w = omega arith in
    let f : r * V * 2 * w < n' + V * w = past (r * V * 2) d in
    (omega arith, omega arith)
  where
    past : (A : ℕ) → A * w ≤ n + V * w → A * w < n' + V * w
    past A h =
        let a : A * w < (suc c + V) * w = omega arith in
        let b : A < suc c + V = lt_of_mul-lt-mul_right w a in
        let d : A ≤ c + V = omega arith in
        let f : A * w ≤ (c + V) * w = mul-le-mul_right w d in
        omega arith

-- so they are rounded alike
round-alike : (p n n' c h : ℕ) → h < dropped p n → Inside n c (2 ^ h) → Inside n' c (2 ^ h) → roundℕ p n ≡ roundℕ p n'
unfolding roundℕ
round-alike p n n' c h l i j =
    let w = 2 ^ h in
    let at : 2 ^ h ≤ n = size_reaches n h (below (size n) p h l) in
    let at' : 2 ^ h ≤ n' = le_trans (le_of_eq (sym (one-mul w))) (le_of_lt (below_all c 1 n n' w i j (le_trans (le_of_eq (one-mul w)) at))) in
    let sz : size n' ≡ size n = grind (arith, size-alike, size-gt) in
    let d = dropped p n in
    let r = closest n (2 ^ d) in
    let V = 2 ^ (d - suc h) in
    let u : 2 ^ d ≡ V * 2 * w = pow-over d (suc h) l ∙ ap (λ (x : ℕ). V * x) (double h ∙ mul_comm w 2) ∙ sym (mul_assoc V 2 w) in
    let k = same-closest r V w (2 ^ d) c n n' u i j (closest-near n (2 ^ d) (pow_pos d)) in
    ap (λ (x : ℕ). x * 2 ^ d) (sym (closest-is n' (2 ^ d) r (pow_pos d) (omega arith) (omega arith))) ∙ ap (λ (x : ℕ). closest n' (2 ^ (x - p)) * 2 ^ (x - p)) (sym sz)
  where
    below : (s p h : ℕ) → h < s - p → h < s
    below s p h l = omega arith

-- ---- the same of integers

-- a < b, in a form that `omega` reads
abbrev LtZ : ℤ → ℤ → Type 0
LtZ a b = up a + down b < up b + down a

-- z lies strictly between c w and the next multiple of w
abbrev Insideℤ : ℤ → ℤ → ℕ → Type 0
Insideℤ z c w = LtZ (c *ℤ pos w) z × LtZ z (c *ℤ pos w +ℤ pos w)

-- such integers are rounded alike
round-alikeℤ : (p : ℕ) (z z' c : ℤ) (h : ℕ) → h < place p z → Insideℤ z c (2 ^ h) → Insideℤ z' c (2 ^ h) → roundℤ p z ≡ roundℤ p z'
unfolding roundℤ
round-alikeℤ p (pos n) (pos n') (pos m) h l i j = ap pos (round-alike p n n' m h l (omega arith) (omega arith))
round-alikeℤ p (negsuc n) (negsuc n') (negsuc m) h l i j = ap (λ (x : ℕ). neg_ℤ (pos x)) (round-alike p (suc n) (suc n') m h l (omega (arith, ints)) (omega (arith, ints)))
round-alikeℤ p (pos n) (negsuc n') (pos m) h l i j = absurd (omega (arith, ints))
round-alikeℤ p (negsuc n) z' (pos m) h l i j = absurd (omega (arith, ints))
round-alikeℤ p (pos n) z' (negsuc m) h l i j = absurd (omega (arith, ints))
round-alikeℤ p (negsuc n) (pos n') (negsuc m) h l i j = absurd (omega (arith, ints))

-- ---- rounding to odd first

-- an even multiple of w and an odd one add up to an odd one
middle : (V k y r : ℤ) (w : ℕ) → y ≡ V *ℤ pos (w * 2) → r ≡ (k *ℤ pos 2 +ℤ pos 1) *ℤ pos w → y +ℤ r ≡ (V +ℤ k) *ℤ pos (w * 2) +ℤ pos w
middle V k y r w a b =
    let e1 : (k *ℤ pos 2 +ℤ pos 1) *ℤ pos w ≡ k *ℤ pos (w * 2) +ℤ pos w = distr (k *ℤ pos 2) (pos 1) (pos w) ∙ ap (λ (z : ℤ). z +ℤ pos (1 * w)) (mul-assocℤ k (pos 2) (pos w) ∙ ap (λ (n : ℕ). k *ℤ pos n) (mul_comm 2 w)) ∙ ap (λ (n : ℕ). k *ℤ pos (w * 2) +ℤ pos n) (one-mul w) in
    let e2 : (V +ℤ k) *ℤ pos (w * 2) ≡ V *ℤ pos (w * 2) +ℤ k *ℤ pos (w * 2) = distr V k (pos (w * 2)) in
    join y r (V *ℤ pos (w * 2)) (k *ℤ pos (w * 2)) ((V +ℤ k) *ℤ pos (w * 2)) (pos w) a (b ∙ e1) e2
  where
    join : (y r a b c d : ℤ) → y ≡ a → r ≡ b +ℤ d → c ≡ a +ℤ b → y +ℤ r ≡ c +ℤ d
    join y r a b c d e f g = omega (arith, ints)

-- y is an even multiple of z's last place, and that of y + z is two or more above it: z may be rounded to odd before it is added
pub odd-then-nearest : (p : ℕ) (y z r : ℤ) → RoundedOdd p z r → Multiple y (suc (place p z)) → suc (place p z) < place p (y +ℤ z) → roundℤ p (y +ℤ r) ≡ roundℤ p (y +ℤ z)
odd-then-nearest p y z r (itself e) m l = ap (λ (x : ℤ). roundℤ p (y +ℤ x)) e
odd-then-nearest p y z r (neighbour k e n) m l =
    let w = 2 ^ place p z in
    let d : 2 ^ suc (place p z) ≡ w * 2 = double (place p z) in
    let V = m.0 in
    let C = (V +ℤ k) *ℤ pos (w * 2) in
    let c : y +ℤ r ≡ C +ℤ pos w = middle V k y r w (m.1 ∙ ap (λ (x : ℕ). V *ℤ pos x) d) e in
    let i : Insideℤ (y +ℤ z) (V +ℤ k) (w * 2) = between y z r C w c n in
    let j : Insideℤ (y +ℤ r) (V +ℤ k) (w * 2) = centre (y +ℤ r) C w c (pow_pos (place p z)) in
    sym (round-alikeℤ p (y +ℤ z) (y +ℤ r) (V +ℤ k) (suc (place p z)) l (subst (Insideℤ (y +ℤ z) (V +ℤ k)) (sym d) i) (subst (Insideℤ (y +ℤ r) (V +ℤ k)) (sym d) j))
  where
    between : (y z r C : ℤ) (w : ℕ) → y +ℤ r ≡ C +ℤ pos w → nat_abs (r -ℤ z) < w → LtZ C (y +ℤ z) × LtZ (y +ℤ z) (C +ℤ pos (w * 2))
    between y z r C w e h = omega (arith, ints)

    centre : (x C : ℤ) (w : ℕ) → x ≡ C +ℤ pos w → 0 < w → LtZ C x × LtZ x (C +ℤ pos (w * 2))
    centre x C w e h = omega (arith, ints)
