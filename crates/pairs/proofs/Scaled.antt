-- Values at a scale: x is z 2^j units. An operation is then a step on the integers z, and the scale stands apart.
-- What a rounding does at a scale is told by four facts, which do not mention the scale.
use Rattle.std.proofs.Common.{rules, ◌≡◌, ℕ, zero, suc, ◌+◌, ◌-◌, ◌*◌, ◌^◌, ◌<◌, ◌≤◌, T, ℤ, pos, ◌+ℤ◌, ◌-ℤ◌, ◌*ℤ◌, nat_abs, sym, refl, ap, ◌∙◌, subst, le_trans, le_of_eq, lt_of_lt_of_le, lt_of_le_of_lt, add_assoc, mul-le-mul_right, zero-lt-suc, mul-lt-mul_of_pos_right, mul_right_comm, le_of_mul-le-mul_right, arith, pow_pos, pow-add}
use borrow.Author.Differences.{up, down, product_is}
use lib.Ieee.{Float, Format, prec, emax, low, size, add, sub, mul, fits}
use lib.Ieee.Digits.{size-lt, size-le, size_reaches}
use Rattle.pairs.specs.Value.{signed, Value, roundℤ}
use Rattle.pairs.proofs.Powers.{pow-le-inv, pow-lt-inv}
use Rattle.pairs.proofs.Integers.{Abs, abs-out, abs-in, distr, sub-mul, mul-swapℤ, mul-cancel, Multiple, scale-add, scale-abs}
use Rattle.pairs.proofs.Nearest.{Close, round-exactℤ, round-errorℤ, round-multipleℤ, round-keepsℤ}
use Rattle.pairs.proofs.Units.{prec-pos, InRange, in-range, add-value, sub-value, mul-value, Shape, nothing, something, shape}

-- x is z 2^j units
abbrev pub Scaled : Format → Float → ℤ → ℕ → Type 0
Scaled f x z j = Value f x (z *ℤ pos (2 ^ j))

-- ---- rounding at a scale

-- r is z rounded to p digits, at every scale
pub record Rounded (p : ℕ) (z r : ℤ) : Type 0 where
  pub exact : (k : ℤ) (t : ℕ) → z ≡ k *ℤ pos (2 ^ t) → Abs k (2 ^ p) → r ≡ z
  pub error : (e : ℕ) → Abs z (2 ^ (p + e)) → Close r z (2 ^ e)
  pub multiple : (e : ℕ) → 2 ^ (p + e) ≤ nat_abs z * 2 → Multiple r e

-- a multiple, with the scale taken off
cancel-multiple : (r : ℤ) (e j : ℕ) → Multiple (r *ℤ pos (2 ^ j)) (e + j) → Multiple r e
cancel-multiple r e j m = grind (arith, mul-cancel, pow_pos, scale-add)

-- a bound on the error, with the scale taken off
cancel-close : (r z : ℤ) (u n : ℕ) → 0 < n → Close (r *ℤ pos n) (z *ℤ pos n) (u * n) → Close r z u
cancel-close r z u n N c =
    let a : ((up r + down z) * 2) * n ≤ ((up z + down r) * 2 + u) * n = omega (arith, product_is r (pos n), product_is z (pos n)) in
    let b : ((up z + down r) * 2) * n ≤ ((up r + down z) * 2 + u) * n = omega (arith, product_is r (pos n), product_is z (pos n)) in
    (le_of_mul-le-mul_right a N, le_of_mul-le-mul_right b N)

-- a bound on z is one on z 2^j
scale-below : (z : ℤ) (p e j : ℕ) → nat_abs z ≤ 2 ^ (p + e) → nat_abs (z *ℤ pos (2 ^ j)) ≤ 2 ^ (p + (e + j))
scale-below z p e j h = le_trans (le_of_eq (scale-abs z j)) (le_trans (mul-le-mul_right (2 ^ j) h) (le_of_eq (sym (pow-add 2 (p + e) j) ∙ ap (λ (n : ℕ). 2 ^ n) (add_assoc p e j))))

-- and from below
scale-above : (z : ℤ) (p e j : ℕ) → 2 ^ (p + e) ≤ nat_abs z * 2 → 2 ^ (p + (e + j)) ≤ nat_abs (z *ℤ pos (2 ^ j)) * 2
scale-above z p e j h =
    le_trans (le_of_eq (ap (λ (n : ℕ). 2 ^ n) (sym (add_assoc p e j)) ∙ pow-add 2 (p + e) j))
    (le_trans (mul-le-mul_right (2 ^ j) h) (le_of_eq (mul_right_comm (nat_abs z) 2 (2 ^ j) ∙ ap (λ (n : ℕ). n * 2) (sym (scale-abs z j)))))

-- z 2^j is rounded to some r 2^j
round-scaled : (p : ℕ) (z : ℤ) (j : ℕ) → 0 < p → (r : ℤ) × (roundℤ p (z *ℤ pos (2 ^ j)) ≡ r *ℤ pos (2 ^ j)) × Rounded p z r
round-scaled p z j P =
    let Z = z *ℤ pos (2 ^ j) in
    let m : Multiple (roundℤ p Z) j = round-keepsℤ p Z j P (z, refl) in
    let r = m.0 in (
      r,
      m.1,
      record {
        exact = λ k t e h. mul-cancel r z (2 ^ j) (pow_pos j) (sym m.1 ∙ round-exactℤ p Z k (t + j) P (ap (λ (x : ℤ). x *ℤ pos (2 ^ j)) e ∙ sym (scale-add k t j)) (abs-out k (2 ^ p) h));
        error = λ e h. cancel-close r z (2 ^ e) (2 ^ j) (pow_pos j) (subst (λ (u : ℕ). Close (r *ℤ pos (2 ^ j)) Z u) (pow-add 2 e j) (subst (λ (x : ℤ). Close x Z (2 ^ (e + j))) m.1 (round-errorℤ p Z (e + j) P (scale-below z p e j (abs-out z (2 ^ (p + e)) h)))));
        multiple = λ e h. cancel-multiple r e j (subst (λ (x : ℤ). Multiple x (e + j)) m.1 (round-multipleℤ p Z (e + j) P (scale-above z p e j h)));
      },
    )

-- ---- the operations

-- x is z rounded, at the scale j
pub record Result (f : Format) (x : Float) (z : ℤ) (j : ℕ) : Type 0 where
  pub r : ℤ
  pub at : Scaled f x r j
  pub rounded : Rounded (prec f) z r
  pub nearest : roundℤ (prec f) (z *ℤ pos (2 ^ j)) ≡ r *ℤ pos (2 ^ j)

-- from a value that is some Z units rounded, where Z is z 2^j
result : (f : Format) (x : Float) (z Z : ℤ) (j : ℕ) → z *ℤ pos (2 ^ j) ≡ Z → Value f x (roundℤ (prec f) Z) → Result f x z j
result f x z Z j e v =
    let s = round-scaled (prec f) z j (prec-pos f) in
    record { r = s.0; at = subst (Value f x) (ap (roundℤ (prec f)) (sym e) ∙ s.1) v; rounded = s.2; nearest = s.1 }

-- z 2^j is in range
inside : (f : Format) (z Z : ℤ) (e j : ℕ) → z *ℤ pos (2 ^ j) ≡ Z → Abs z (2 ^ (prec f + e)) → prec f + (e + j) < low f + suc (emax f) → InRange f (roundℤ (prec f) Z)
inside f z Z e j q h b = subst (λ (x : ℤ). InRange f (roundℤ (prec f) x)) q (in-range f (z *ℤ pos (2 ^ j)) (e + j) (scale-below z (prec f) e j (abs-out z (2 ^ (prec f + e)) h)) b)

-- the sum at a scale
add-scaled : (f : Format) (x y : Float) (a b : ℤ) (j e : ℕ) → Scaled f x a j → Scaled f y b j → Abs (a +ℤ b) (2 ^ (prec f + e)) → prec f + (e + j) < low f + suc (emax f) → Result f (add f x y) (a +ℤ b) j
add-scaled f x y a b j e v w h k =
    let A = a *ℤ pos (2 ^ j) in
    let B = b *ℤ pos (2 ^ j) in
    let d : (a +ℤ b) *ℤ pos (2 ^ j) ≡ A +ℤ B = distr a b (pos (2 ^ j)) in
    result f (add f x y) (a +ℤ b) (A +ℤ B) j d (add-value f x y A B v w (inside f (a +ℤ b) (A +ℤ B) e j d h k))

-- the difference at a scale
pub sub-scaled : (f : Format) (x y : Float) (a b : ℤ) (j e : ℕ) → Scaled f x a j → Scaled f y b j → Abs (a -ℤ b) (2 ^ (prec f + e)) → prec f + (e + j) < low f + suc (emax f) → Result f (sub f x y) (a -ℤ b) j
sub-scaled f x y a b j e v w h k = search (rules, sub-mul, result, sub-value, inside)

-- the product of scales i and j is at the scale i + j - low
pub mul-scaled : (f : Format) (x y : Float) (a b : ℤ) (i j l e : ℕ) → Scaled f x a i → Scaled f y b j → i + j ≡ l + low f → Abs (a *ℤ b) (2 ^ (prec f + e)) → prec f + (e + l) < low f + suc (emax f) → Result f (mul f x y) (a *ℤ b) l
mul-scaled f x y a b i j l e v w t h k =
    let Z = a *ℤ b *ℤ pos (2 ^ l) in
    let d : a *ℤ pos (2 ^ i) *ℤ (b *ℤ pos (2 ^ j)) ≡ Z *ℤ pos (2 ^ low f) =
    mul-swapℤ a (pos (2 ^ i)) b (pos (2 ^ j)) ∙ ap (λ (n : ℕ). a *ℤ b *ℤ pos n) (sym (pow-add 2 i j) ∙ ap (λ (n : ℕ). 2 ^ n) t) ∙ scale-add (a *ℤ b) l (low f) in
    result f (mul f x y) (a *ℤ b) Z l refl (mul-value f x y (a *ℤ pos (2 ^ i)) (b *ℤ pos (2 ^ j)) Z v w d (inside f (a *ℤ b) Z e l refl h k))

-- ---- where the exact result is k 2^t with a short k, nothing is rounded

-- k 2^t is bounded
short-below : (p : ℕ) (z k : ℤ) (t : ℕ) → z ≡ k *ℤ pos (2 ^ t) → Abs k (2 ^ p) → Abs z (2 ^ (p + t))
short-below p z k t e h = grind (arith, abs-in, scale-abs, mul-le-mul_right, abs-out, pow-add)

-- then the result is the exact one
unrounded : (f : Format) (x : Float) (z k : ℤ) (t j : ℕ) → Result f x z j → z ≡ k *ℤ pos (2 ^ t) → Abs k (2 ^ prec f) → Scaled f x z j
unrounded f x z k t j r e h = grind arith

-- for a sum
pub add-exact : (f : Format) (x y : Float) (a b k : ℤ) (t j : ℕ) → Scaled f x a j → Scaled f y b j → a +ℤ b ≡ k *ℤ pos (2 ^ t) → Abs k (2 ^ prec f) → prec f + (t + j) < low f + suc (emax f) → Scaled f (add f x y) (a +ℤ b) j
add-exact f x y a b k t j v w e h l = search (rules, unrounded, add-scaled, short-below)

-- for a difference
pub sub-exact : (f : Format) (x y : Float) (a b k : ℤ) (t j : ℕ) → Scaled f x a j → Scaled f y b j → a -ℤ b ≡ k *ℤ pos (2 ^ t) → Abs k (2 ^ prec f) → prec f + (t + j) < low f + suc (emax f) → Scaled f (sub f x y) (a -ℤ b) j
sub-exact f x y a b k t j v w e h l = search (rules, unrounded, sub-scaled, short-below)

-- for a product
pub mul-exact : (f : Format) (x y : Float) (a b k : ℤ) (t i j l : ℕ) → Scaled f x a i → Scaled f y b j → i + j ≡ l + low f → a *ℤ b ≡ k *ℤ pos (2 ^ t) → Abs k (2 ^ prec f) → prec f + (t + l) < low f + suc (emax f) → Scaled f (mul f x y) (a *ℤ b) l
mul-exact f x y a b k t i j l v w s e h b' = search (rules, unrounded, mul-scaled, short-below)

-- ---- a value that is not too small has a scale at which its integer has all p digits

-- m shifted to p + 1 digits
filled : (p m : ℕ) → 0 < m → m < 2 ^ suc p → (2 ^ p ≤ m * 2 ^ (suc p - size m)) × (m * 2 ^ (suc p - size m) < 2 ^ suc p)
filled p m M h =
    let z = size m in
    let k : z ≤ suc p = size-le m (suc p) h in
    let zp : 0 < z = some z m M (size-lt m) in
    let lo : 2 ^ (z - 1) ≤ m = size_reaches m (z - 1) (less z zp) in (
      le_trans (le_of_eq (ap (λ (n : ℕ). 2 ^ n) (one z p zp k) ∙ pow-add 2 (z - 1) (suc p - z))) (mul-le-mul_right (2 ^ (suc p - z)) lo),
      lt_of_lt_of_le (mul-lt-mul_of_pos_right (size-lt m) (pow_pos (suc p - z))) (le_of_eq (sym (pow-add 2 z (suc p - z)) ∙ ap (λ (n : ℕ). 2 ^ n) (two z p k))),
    )
  where
    some : (z m : ℕ) → 0 < m → m < 2 ^ z → 0 < z
    some zero m a b = absurd (omega arith)
    some (suc z) m a b = zero-lt-suc z

    less : (z : ℕ) → 0 < z → z - 1 < z
    less z h = omega arith

    one : (z p : ℕ) → 0 < z → z ≤ suc p → p ≡ z - 1 + (suc p - z)
    one z p h k = omega arith

    two : (z p : ℕ) → z ≤ suc p → z + (suc p - z) ≡ suc p
    two z p k = omega arith

-- z is M 2^i units, with an M of p + 1 digits
pub record Normal (p : ℕ) (z : ℤ) (A B : ℕ) : Type 0 where
  pub M : ℤ
  pub i : ℕ
  pub is : z ≡ M *ℤ pos (2 ^ i)
  pub least : 2 ^ p ≤ nat_abs M
  pub most : nat_abs M < 2 ^ suc p
  pub above : A < suc p + i
  pub below : p + i ≤ B

-- from such an M, the bounds on its scale
normal-at : (p : ℕ) (z M : ℤ) (i A B : ℕ) → z ≡ M *ℤ pos (2 ^ i) → 2 ^ p ≤ nat_abs M → nat_abs M < 2 ^ suc p → 2 ^ A ≤ nat_abs z → nat_abs z ≤ 2 ^ B → Normal p z A B
normal-at p z M i A B e l m lo hi =
    let n : nat_abs z ≡ nat_abs M * 2 ^ i = ap nat_abs e ∙ scale-abs M i in
    record {
      M = M;
      i = i;
      is = e;
      least = l;
      most = m;
      above = pow-lt-inv A (suc p + i) (lt_of_le_of_lt lo (lt_of_le_of_lt (le_of_eq n) (lt_of_lt_of_le (mul-lt-mul_of_pos_right m (pow_pos i)) (le_of_eq (sym (pow-add 2 (suc p) i))))));
      below = pow-le-inv (p + i) B (le_trans (le_of_eq (pow-add 2 p i)) (le_trans (mul-le-mul_right (2 ^ i) l) (le_trans (le_of_eq (sym n)) hi)));
    }

-- a value from 2^A to 2^B units, where A leaves room for the shift
pub normal : (f : Format) (p : ℕ) (x : Float) (z : ℤ) (A B : ℕ) → prec f ≡ suc p → T (fits f x) → Value f x z → p + p < A → 2 ^ A ≤ nat_abs z → nat_abs z ≤ 2 ^ B → Normal p z A B
normal f p x z A B P t v a lo hi = go (shape f x z t v)
  where
    absent : (n a : ℕ) → 0 < a → a ≤ n → n ≡ 0 → ⊥
    absent n a p q e = omega arith

    room : (p q z A : ℕ) → p + p < A → A < suc p + q → suc p - z ≤ q
    room p q z A a b = omega arith

    split : (q d : ℕ) → d ≤ q → d + (q - d) ≡ q
    split q d h = omega arith

    go : Shape f x z → Normal p z A B
    go (nothing e) = absurd (absent (nat_abs z) (2 ^ A) (pow_pos A) lo (ap nat_abs e))
    go (something c) =
        let m = suc c.m in
        let q = c.q in
        let short : m < 2 ^ suc p = subst (λ (n : ℕ). m < 2 ^ n) P c.short in
        let n : nat_abs z ≡ m * 2 ^ q = grind arith in
        let big : A < suc p + q = pow-lt-inv A (suc p + q) (lt_of_le_of_lt lo (lt_of_le_of_lt (le_of_eq n) (lt_of_lt_of_le (mul-lt-mul_of_pos_right short (pow_pos q)) (le_of_eq (sym (pow-add 2 (suc p) q)))))) in
        let d = suc p - size m in
        let h : d ≤ q = room p q (size m) A a big in
        let F = filled p m (zero-lt-suc c.m) short in
        let M = signed c.s m *ℤ pos (2 ^ d) in
        let N : nat_abs M ≡ m * 2 ^ d = grind arith in
        normal-at p z M (q - d) A B (c.is ∙ ap (λ (k : ℕ). signed c.s m *ℤ pos (2 ^ k)) (sym (split q d h)) ∙ scale-add (signed c.s m) d (q - d)) (le_trans F.0 (le_of_eq (sym N))) (lt_of_le_of_lt (le_of_eq N) F.1) lo hi
