-- Values in units of the format's smallest value: each operation is the exact integer, rounded to the format's digits.
use Rattle.std.proofs.Common.{rules, ◌≡◌, ℕ, zero, suc, ◌+◌, ◌-◌, ◌*◌, ◌^◌, ◌<◌, ◌≤◌, Bool, true, false, cond, not, T, ltb, ℤ, pos, negsuc, ◌+ℤ◌, ◌-ℤ◌, ◌*ℤ◌, neg_ℤ, nat_abs, sym, refl, ap, ◌∙◌, subst, le_trans, le_of_eq, le_of_lt, mul_assoc, mul-pos, mul-one, mul_right_comm, mul-div_cancel, arith, ltb→lt, nltb→le, pow_pos, pow-add}
use native.Mathlib.Nat.{mul-mul-mul_comm, eq_of_mul-eq-mul_right}
use borrow.Author.Differences.{ints}
use lib.IntN.{zero-*ℤ, *ℤ-zero}
use lib.Pow.{pow-lt}
use lib.Ieee.{Float, nan, inf, fin, Format, prec, emax, low, up, down, unlike, round, sum, add, sub, mul, neg, fits}
use lib.Ieee.Digits.{back}
use lib.Ieee.Fits.{down_pos, two, two-le_pos, round_is}
use lib.Ieee.Exact.{HasValue, units_val}
use lib.Ieee.Nearest.{closest_same}
use lib.Ieee.Scale.{round_same}
use Rattle.std.specs.Float.{float_is_finite}
use Rattle.pairs.specs.Value.{signed, Value, roundℕ, roundℤ, HasDigits}
use Rattle.pairs.proofs.Powers.{pow-le-inv}
use Rattle.pairs.proofs.Integers.{nat_abs_mul, mul-cancel, signed-abs, signed-zero, signed-neg, signed_mul, signed-mul-pos}
use Rattle.pairs.proofs.Nearest.{roundℤ-signed, round-below, digits-stay, digits-zero}

-- a format has digits
pub prec-pos : (f : Format) → 0 < prec f
prec-pos f = two-le_pos (prec f) (two f)

-- ---- one value, one number

-- x is one number of units
pub value-unique : (f : Format) (x : Float) (y z : ℤ) → Value f x y → Value f x z → y ≡ z
value-unique f nan y z v w = absurd v.has
value-unique f (inf s) y z v w = absurd v.has
value-unique f (fin s m e) y z v w = grind (arith, eq_of_mul-eq-mul_right, down_pos)

-- what has a value is finite
pub value-finite : (f : Format) (x : Float) (z : ℤ) → Value f x z → float_is_finite x ≡ true
unfolding float_is_finite
value-finite f nan z v = absurd v.has
value-finite f (inf s) z v = absurd v.has
value-finite f (fin s m e) z v = refl

-- ---- what a format holds

-- the significand is short, and the exponent is not below the smallest value's
record Parts (f : Format) (m : ℕ) (e : ℤ) : Type 0 where
  short : m < 2 ^ prec f
  fine : down e ≤ 2 ^ low f

-- the tests of `fits`, as facts
parts : (f : Format) (s : Bool) (m : ℕ) (e : ℤ) → T (fits f (fin s (suc m) e)) → Parts f (suc m) e
unfolding fits
parts f s m e t = grind arith

-- m 2^e is m 2^q units
units_of : (f : Format) (s : Bool) (m : ℕ) (e : ℤ) → down e ≤ 2 ^ low f → (q : ℕ) × Value f (fin s m e) (signed s m *ℤ pos (2 ^ q))
units_of f s m (pos k) h = (
  k + low f,
  record {
    sign = s;
    count = m * 2 ^ (k + low f);
    is = sym (signed-mul-pos s m (2 ^ (k + low f)));
    has = (refl, mul_assoc m (2 ^ k) (2 ^ low f) ∙ ap (λ (x : ℕ). m * x) (sym (pow-add 2 k (low f))) ∙ sym (mul-one (m * 2 ^ (k + low f))));
  },
)
units_of f s m (negsuc k) h =
    let l : suc k ≤ low f = pow-le-inv (suc k) (low f) h in
    let q = low f - suc k in (
      q,
      record {
        sign = s;
        count = m * 2 ^ q;
        is = sym (signed-mul-pos s m (2 ^ q));
        has = (refl, ap (λ (x : ℕ). x * 2 ^ low f) (mul-one m) ∙ ap (λ (x : ℕ). m * 2 ^ x) (sym (back (low f) (suc k) l)) ∙ ap (λ (x : ℕ). m * x) (pow-add 2 q (suc k)) ∙ sym (mul_assoc m (2 ^ q) (2 ^ suc k)));
      },
    )

-- a zero is no units
zero-units : (f : Format) (s : Bool) (e : ℤ) (z : ℤ) → Value f (fin s 0 e) z → z ≡ pos 0
zero-units f s e z v = grind (arith, down_pos, signed-zero, eq_of_mul-eq-mul_right)

-- another finite value that fits is ±m 2^q units with a short m
pub record Significand (f : Format) (x : Float) (z : ℤ) : Type 0 where
  pub s : Bool
  pub m : ℕ
  pub q : ℕ
  pub is : z ≡ signed s (suc m) *ℤ pos (2 ^ q)
  pub short : suc m < 2 ^ prec f

-- no units, or such a number of them
pub data Shape (f : Format) (x : Float) (z : ℤ) : Type 0 where
  nothing : z ≡ pos 0 → Shape f x z
  something : Significand f x z → Shape f x z

-- the shape of a value that fits
pub shape : (f : Format) (x : Float) (z : ℤ) → T (fits f x) → Value f x z → Shape f x z
shape f nan z t v = absurd v.has
shape f (inf s) z t v = absurd v.has
shape f (fin s zero e) z t v = nothing (zero-units f s e z v)
shape f (fin s (suc m) e) z t v =
    let c = parts f s m e t in
    let u = units_of f s (suc m) e c.fine in
    something (record { s = s; m = m; q = u.0; is = value-unique f (fin s (suc m) e) z (signed s (suc m) *ℤ pos (2 ^ u.0)) v u.1; short = c.short })

-- the format's digits hold its values
pub value-digits : (f : Format) (x : Float) (z : ℤ) → T (fits f x) → Value f x z → HasDigits (prec f) z
value-digits f x z t v = go (shape f x z t v)
  where
    go : Shape f x z → HasDigits (prec f) z
    go (nothing e) = digits-zero (prec f) z e
    go (something c) = record { k = signed c.s (suc c.m); t = c.q; is = c.is; small = le_trans (le_of_eq (signed-abs c.s (suc c.m))) (le_of_lt c.short) }

-- ---- rounding

-- no overflow
abbrev pub InRange : Format → ℤ → Type 0
InRange f z = nat_abs z < 2 ^ (low f + suc (emax f))

-- a bound on z keeps z rounded in range
pub in-range : (f : Format) (z : ℤ) (e : ℕ) → nat_abs z ≤ 2 ^ (prec f + e) → prec f + e < low f + suc (emax f) → InRange f (roundℤ (prec f) z)
in-range f z e h b = grind (arith, round-below, prec-pos, pow-lt)

-- a fraction that is n units is rounded to n rounded
round-units : (f : Format) (s : Bool) (num den n : ℕ) → 0 < den → num * 2 ^ low f ≡ n * den → roundℕ (prec f) n < 2 ^ (low f + suc (emax f))
    → HasValue (round f s num den) s (roundℕ (prec f) n) (2 ^ low f)
unfolding roundℕ
round-units f s num den n D e h = grind (arith, pow_pos, mul-div_cancel, round_same, round_is, closest_same, mul-pos, mul_assoc, units_val)

-- the same with a sign
round-value : (f : Format) (s : Bool) (num den n : ℕ) (z : ℤ) → 0 < den → num * 2 ^ low f ≡ n * den → z ≡ signed s n → InRange f (roundℤ (prec f) z) → Value f (round f s num den) (roundℤ (prec f) z)
round-value f s num den n z D e q h = grind (arith, roundℤ-signed, prec-pos, signed-abs, round-units)

-- ---- negation

-- the negative has the same size
neg-has : (f : Format) (x : Float) (s : Bool) (n : ℕ) → HasValue x s n (2 ^ low f) → HasValue (neg x) (not s) n (2 ^ low f)
unfolding neg
neg-has f nan s n h = h
neg-has f (inf t) s n h = h
neg-has f (fin t m e) s n h = (ap not h.0, h.1)

-- the negative is the negative number of units
neg_value : (f : Format) (x : Float) (z : ℤ) → Value f x z → Value f (neg x) (neg_ℤ z)
neg_value f x z v = grind (arith, signed-neg, neg-has)

-- ---- the product

-- the product of two fractions, in units
cross : (x y l a b n c d : ℕ) → 0 < l → x * l ≡ a * c → y * l ≡ b * d → a * b ≡ n * l → x * y * l ≡ n * (c * d)
cross x y l a b n c d L h k e =
    eq_of_mul-eq-mul_right l L (x * y * l) (n * (c * d))
    (mul_assoc (x * y) l l
    ∙ mul-mul-mul_comm x y l l
    ∙ ap (λ (z : ℕ). z * (y * l)) h
    ∙ ap (λ (z : ℕ). a * c * z) k
    ∙ mul-mul-mul_comm a c b d
    ∙ ap (λ (z : ℕ). z * (c * d)) e
    ∙ mul_right_comm n l (c * d))

-- the product, by signs and sizes
mul_at : (f : Format) (x y : Float) (s t : Bool) (a b n : ℕ) (z : ℤ) → HasValue x s a (2 ^ low f) → HasValue y t b (2 ^ low f) → a * b ≡ n * 2 ^ low f → z ≡ signed (unlike s t) n → InRange f (roundℤ (prec f) z) → Value f (mul f x y) (roundℤ (prec f) z)
unfolding mul
mul_at f nan y s t a b n z h k e q u = absurd h
mul_at f (inf r) y s t a b n z h k e q u = absurd h
mul_at f (fin r m d) nan s t a b n z h k e q u = absurd k
mul_at f (fin r m d) (inf r') s t a b n z h k e q u = absurd k
mul_at f (fin r m d) (fin r' m' d') s t a b n z h k e q u =
    let l = 2 ^ low f in
    let w : m * up d * (m' * up d') * l ≡ n * (down d * down d') = cross (m * up d) (m' * up d') l a b n (down d) (down d') (pow_pos (low f)) h.1 k.1 e in
    round-value f (unlike r r') (m * up d * (m' * up d')) (down d * down d') n z (mul-pos (down_pos d) (down_pos d')) w (q ∙ ap (λ (b : Bool). signed (unlike b t) n) (sym h.0) ∙ ap (λ (b : Bool). signed (unlike r b) n) (sym k.0)) u

-- where X Y is Z 2^low, the product is Z rounded
pub mul-value : (f : Format) (x y : Float) (X Y Z : ℤ) → Value f x X → Value f y Y → X *ℤ Y ≡ Z *ℤ pos (2 ^ low f) → InRange f (roundℤ (prec f) Z) → Value f (mul f x y) (roundℤ (prec f) Z)
mul-value f x y X Y Z v w e u = mul_at f x y v.sign w.sign v.count w.count (nat_abs Z) Z v.has w.has sizes signs u
  where
    t : Bool
    t = unlike v.sign w.sign

    both : signed t (v.count * w.count) ≡ Z *ℤ pos (2 ^ low f)
    both = sym (signed_mul v.sign w.sign v.count w.count) ∙ ap (λ (z : ℤ). z *ℤ signed w.sign w.count) (sym v.is) ∙ ap (λ (z : ℤ). X *ℤ z) (sym w.is) ∙ e

    sizes : v.count * w.count ≡ nat_abs Z * 2 ^ low f
    sizes = sym (signed-abs t (v.count * w.count)) ∙ ap nat_abs both ∙ nat_abs_mul Z (pos (2 ^ low f))

    signs : Z ≡ signed t (nat_abs Z)
    signs = mul-cancel Z (signed t (nat_abs Z)) (2 ^ low f) (pow_pos (low f)) (sym both ∙ ap (signed t) sizes ∙ signed-mul-pos t (nat_abs Z) (2 ^ low f))

-- ---- the sum

-- the sum of two numbers of one sign
pub alike-sum : (s : Bool) (a b : ℕ) → signed s a +ℤ signed s b ≡ signed s (a + b)
alike-sum false a b = refl
alike-sum true a b = omega (arith, ints)

-- of two signs, where the second is not smaller
pub unlike-sum : (s : Bool) (a b : ℕ) → a ≤ b → signed s a +ℤ signed (not s) b ≡ signed (not s) (b - a)
unlike-sum false a b h = omega (arith, ints)
unlike-sum true a b h = omega (arith, ints)

-- and where the first is not
pub unlike-sum' : (s : Bool) (a b : ℕ) → b ≤ a → signed s a +ℤ signed (not s) b ≡ signed s (a - b)
unlike-sum' false a b h = omega (arith, ints)
unlike-sum' true a b h = omega (arith, ints)

-- where A / c is a units and B / c is b units, so is the difference
difference : (A B a b l c : ℕ) → A ≤ B → a ≤ b → A * l ≡ a * c → B * l ≡ b * c → (B - A) * l ≡ (b - a) * c
difference A B a b l c h k p q = grind arith

-- and they are in one order
order : (A B a b l c : ℕ) → 0 < c → A ≤ B → A * l ≡ a * c → B * l ≡ b * c → a ≤ b
order A B a b l c C h p q = grind arith

module _ (f : Format) (A B c a b : ℕ) (C : 0 < c) (p : A * 2 ^ low f ≡ a * c) (q : B * 2 ^ low f ≡ b * c) where
  -- numbers of one sign
  alike : (s : Bool) → InRange f (roundℤ (prec f) (signed s a +ℤ signed s b)) → Value f (round f s (A + B) c) (roundℤ (prec f) (signed s a +ℤ signed s b))
  alike s u = round-value f s (A + B) c (a + b) (signed s a +ℤ signed s b) C (omega arith) (alike-sum s a b) u

  -- of two signs, the second not smaller
  up_to : (s : Bool) → A ≤ B → InRange f (roundℤ (prec f) (signed s a +ℤ signed (not s) b)) → Value f (round f (not s) (B - A) c) (roundℤ (prec f) (signed s a +ℤ signed (not s) b))
  up_to s h u = let k : a ≤ b = order A B a b (2 ^ low f) c C h p q in round-value f (not s) (B - A) c (b - a) (signed s a +ℤ signed (not s) b) C (difference A B a b (2 ^ low f) c h k p q) (unlike-sum s a b k) u

  -- the first not smaller
  down-from : (s : Bool) → B ≤ A → InRange f (roundℤ (prec f) (signed s a +ℤ signed (not s) b)) → Value f (round f s (A - B) c) (roundℤ (prec f) (signed s a +ℤ signed (not s) b))
  down-from s h u = let k : b ≤ a = order B A b a (2 ^ low f) c C h q p in round-value f s (A - B) c (a - b) (signed s a +ℤ signed (not s) b) C (difference B A b a (2 ^ low f) c h k q p) (unlike-sum' s a b k) u

  -- an exact zero is +0
  level : B ≤ A → A ≤ B → InRange f (roundℤ (prec f) (signed true a +ℤ signed false b)) → Value f (round f false (A - B) c) (roundℤ (prec f) (signed true a +ℤ signed false b))
  level h h' u =
      let k : b ≤ a = order B A b a (2 ^ low f) c C h q p in
      let k' : a ≤ b = order A B a b (2 ^ low f) c C h' p q in
      let z : a - b ≡ 0 = omega arith in
      round-value f false (A - B) c (a - b) (signed true a +ℤ signed false b) C (difference B A b a (2 ^ low f) c h k q p) (unlike-sum' true a b k ∙ ap (signed true) z ∙ ap pos (sym z)) u

  -- the sum of two fractions
  sum-value : (s t : Bool) → InRange f (roundℤ (prec f) (signed s a +ℤ signed t b)) → Value f (sum f s A t B c) (roundℤ (prec f) (signed s a +ℤ signed t b))
  unfolding sum
  sum-value false false u = alike false u
  sum-value true true u = alike true u
  sum-value false true u = go (ltb A B) (ltb→lt A B) (nltb→le A B)
    where
      go : (t : Bool) → (T t → A < B) → (T (not t) → B ≤ A) → Value f (cond t (round f true (B - A) c) (round f false (A - B) c)) (roundℤ (prec f) (signed false a +ℤ signed true b))
      go true h k = up_to false (le_of_lt (h tt)) u
      go false h k = down-from false (k tt) u
  sum-value true false u = go (ltb A B) (ltb B A) (ltb→lt A B) (nltb→le A B) (nltb→le B A)
    where
      go : (t r : Bool) → (T t → A < B) → (T (not t) → B ≤ A) → (T (not r) → A ≤ B) → Value f (cond t (round f false (B - A) c) (round f r (A - B) c)) (roundℤ (prec f) (signed true a +ℤ signed false b))
      go true r h k j = up_to true (le_of_lt (h tt)) u
      go false true h k j = down-from true (k tt) u
      go false false h k j = level (k tt) (j tt) u

-- the sum, by signs and sizes
add_at : (f : Format) (x y : Float) (s t : Bool) (a b : ℕ) → HasValue x s a (2 ^ low f) → HasValue y t b (2 ^ low f) → InRange f (roundℤ (prec f) (signed s a +ℤ signed t b)) → Value f (add f x y) (roundℤ (prec f) (signed s a +ℤ signed t b))
unfolding add
add_at f nan y s t a b h k u = absurd h
add_at f (inf r) y s t a b h k u = absurd h
add_at f (fin r m d) nan s t a b h k u = absurd k
add_at f (fin r m d) (inf r') s t a b h k u = absurd k
add_at f (fin r m d) (fin r' m' d') s t a b h k u = grind (arith, sum-value, mul-pos, down_pos, mul_right_comm)

-- the sum is X + Y rounded
pub add-value : (f : Format) (x y : Float) (X Y : ℤ) → Value f x X → Value f y Y → InRange f (roundℤ (prec f) (X +ℤ Y)) → Value f (add f x y) (roundℤ (prec f) (X +ℤ Y))
add-value f x y X Y v w u = grind (arith, add_at)

-- and the difference X - Y rounded
pub sub-value : (f : Format) (x y : Float) (X Y : ℤ) → Value f x X → Value f y Y → InRange f (roundℤ (prec f) (X -ℤ Y)) → Value f (sub f x y) (roundℤ (prec f) (X -ℤ Y))
unfolding sub
sub-value f x y X Y v w u = search (rules, add-value, neg_value)

-- ---- zeros

-- no units stay none
round-none : (f : Format) → roundℤ (prec f) (pos 0) ≡ pos 0
round-none f = grind (arith, digits-stay, prec-pos, digits-zero)

-- and are in range
none-in-range : (f : Format) → InRange f (roundℤ (prec f) (pos 0))
none-in-range f = grind (arith, round-none, pow_pos)

module _ (f : Format) (x y : Float) where
  pub add-zeros : Value f x (pos 0) → Value f y (pos 0) → Value f (add f x y) (pos 0)
  add-zeros v w = subst (Value f (add f x y)) (round-none f) (add-value f x y (pos 0) (pos 0) v w (none-in-range f))

  pub sub-zeros : Value f x (pos 0) → Value f y (pos 0) → Value f (sub f x y) (pos 0)
  sub-zeros v w = subst (Value f (sub f x y)) (round-none f) (sub-value f x y (pos 0) (pos 0) v w (none-in-range f))

  pub zero-times : (Y : ℤ) → Value f x (pos 0) → Value f y Y → Value f (mul f x y) (pos 0)
  zero-times Y v w = subst (Value f (mul f x y)) (round-none f) (mul-value f x y (pos 0) Y (pos 0) v w (zero-*ℤ Y ∙ sym (zero-*ℤ (pos (2 ^ low f)))) (none-in-range f))

  pub times_zero : (X : ℤ) → Value f x X → Value f y (pos 0) → Value f (mul f x y) (pos 0)
  times_zero X v w = subst (Value f (mul f x y)) (round-none f) (mul-value f x y X (pos 0) (pos 0) v w (*ℤ-zero X ∙ sym (zero-*ℤ (pos (2 ^ low f)))) (none-in-range f))
