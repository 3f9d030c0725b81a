-- Products and sums with zeros and with 1, and differences taken the other way round. Assumes nothing.
use Rattle.std.specs.Prelude.{◌≡◌, ℕ, zero, suc, ◌+◌, ◌-◌, ◌*◌, ◌/◌, ◌%◌, ◌^◌, ◌<◌, Bool, true, false, cond, not, ◌&&◌, pos, ◌==◌, nat_lt, Float}
use Rattle.std.proofs.Math.Path.{refl}
use Rattle.std.proofs.Common.{sym, ap, ◌∙◌, subst, inl, inr, add_comm, zero-add, mul_assoc, mul_comm, mul-one, zero-mul, mul-pos, arith, ltb-true, ltb-false}
use Rattle.std.specs.Bool.{beq}
use Prim.Native.Nat.{compare}
use Rattle.std.specs.Float.Ieee.{prec, emax, low, up, down, unlike, size, nearest, odd, units, round, neg, sum, add, sub, mul, fits}
use Rattle.std.specs.Float.Ieee.Fits.{down_pos, round-fits, round_is, neg-fits, add-fits, mul-fits}
use Rattle.std.specs.Float.{float_one as unit, Format, nan, inf, fin, binary64}
use Rattle.power.specs.Rules.{Is, IsSum, Number, Zero, Alike}
use Rattle.power.specs.Lemmas.Values.{rounds, round-is-same, own_is, scale-is, resign}
use Rattle.power.specs.Lemmas.Exact.{sum-is-same}
use Rattle.power.specs.Lemmas.Unique.{value-unique, is_zero, is-alike, zero_number, alike-number}
use Rattle.power.specs.Lemmas.Alike.{IsZero, Same, zero_is}

abbrev pub plus : Float → Float → Float
plus = add binary64

abbrev pub minus : Float → Float → Float
minus = sub binary64

abbrev pub times : Float → Float → Float
times = mul binary64

-- ---- zeros

pub nought-zero : (s : Bool) → IsZero (fin s 0 (pos 0))
unfolding fits
nought-zero s = (tt, refl)

round-zero : (s : Bool) (n d : ℕ) → 0 < d → n ≡ 0 → Zero (round binary64 s n d)
round-zero s n d D z = is_zero (round binary64 s n d) s n d D z (round-is-same (fin s 0 (pos 0)) s n d D (zero_is (fin s 0 (pos 0)) s n d (nought-zero s) z))

no-product : (m u k : ℕ) → m ≡ 0 → m * u * k ≡ 0
no-product m u k z = ap (λ (x : ℕ). x * u * k) z ∙ ap (λ (x : ℕ). x * k) (zero-mul u) ∙ zero-mul k

mul_left : (x y : Float) → Zero x → Number y → Zero (times x y)
unfolding mul
mul_left nan y Z N = Z
mul_left (inf s) y Z N = absurd Z
mul_left (fin s m e) nan Z N = N
mul_left (fin s m e) (inf t) Z N = absurd N
mul_left (fin s m e) (fin t n d) Z N = round-zero (unlike s t) (m * up e * (n * up d)) (down e * down d) (mul-pos (down_pos e) (down_pos d)) (no-product m (up e) (n * up d) Z)

pub unlike-comm : (s t : Bool) → unlike s t ≡ unlike t s
unlike-comm true true = refl
unlike-comm true false = refl
unlike-comm false true = refl
unlike-comm false false = refl

pub unlike-false : (s : Bool) → unlike s false ≡ s
unlike-false true = refl
unlike-false false = refl

mul-swap : (x y : Float) → times x y ≡ times y x
unfolding mul
mul-swap nan nan = refl
mul-swap nan (inf t) = refl
mul-swap nan (fin t n d) = refl
mul-swap (inf s) nan = refl
mul-swap (inf s) (inf t) = ap inf (unlike-comm s t)
mul-swap (inf s) (fin t n d) = ap (λ (u : Bool). cond (n == 0) nan (inf u)) (unlike-comm s t)
mul-swap (fin s m e) nan = refl
mul-swap (fin s m e) (inf t) = ap (λ (u : Bool). cond (m == 0) nan (inf u)) (unlike-comm s t)
mul-swap (fin s m e) (fin t n d) = λ i. round binary64 (unlike-comm s t i) (mul_comm (m * up e) (n * up d) i) (mul_comm (down e) (down d) i)

pub mul-zero-left : (x y : Float) → IsZero x → Number y → IsZero (times x y)
mul-zero-left x y Z N = let z = mul_left x y Z.1 N in (zero_number (times x y) (mul-fits binary64 x y) z, z)

pub mul-zero-right : (x y : Float) → Number x → IsZero y → IsZero (times x y)
mul-zero-right x y N Z = subst IsZero (mul-swap y x) (mul-zero-left y x Z N)

sum_zeros : (s t : Bool) (a b c : ℕ) → 0 < c → a ≡ 0 → b ≡ 0 → Zero (sum binary64 s a t b c)
unfolding sum
sum_zeros s t a b c C p q = go (beq s t) (nat_lt a b)
  where
    go : (u v : Bool) → Zero (cond u (round binary64 s (a + b) c) (cond v (round binary64 t (b - a) c) (round binary64 (s && nat_lt b a) (a - b) c)))
    go true v = round-zero s (a + b) c C (omega arith)
    go false true = round-zero t (b - a) c C (omega arith)
    go false false = round-zero (s && nat_lt b a) (a - b) c C (omega arith)

add-both : (x y : Float) → Zero x → Zero y → Zero (plus x y)
unfolding add
add-both nan y Z W = Z
add-both (inf s) y Z W = absurd Z
add-both (fin s m e) nan Z W = W
add-both (fin s m e) (inf t) Z W = absurd W
add-both (fin s m e) (fin t n d) Z W =
    sum_zeros s t (m * up e * down d) (n * up d * down e) (down e * down d) (mul-pos (down_pos e) (down_pos d)) (no-product m (up e) (down d) Z) (no-product n (up d) (down e) W)

pub add-zeros : (x y : Float) → Zero x → Zero y → IsZero (plus x y)
add-zeros x y Z W = let z = add-both x y Z W in (zero_number (plus x y) (add-fits binary64 x y) z, z)

pub neg-zero : (x : Float) → Zero x → Zero (neg x)
unfolding neg
neg-zero nan Z = Z
neg-zero (inf s) Z = Z
neg-zero (fin s m e) Z = Z

pub neg-number : (x : Float) → Number x → Number (neg x)
unfolding neg
neg-number nan N = N
neg-number (inf s) N = N
neg-number (fin s m e) N = neg-fits binary64 (fin s m e) N

pub sub-zeros : (x y : Float) → Zero x → Zero y → IsZero (minus x y)
unfolding sub
sub-zeros x y Z W = add-zeros x (neg y) Z (neg-zero y W)

-- ---- a zero added, and a product with 1

-- a sum whose first term is 0
pub with_none : (x : Float) (t : Bool) (a b d : ℕ) → a ≡ 0 → Is x t b d → IsSum x t a t b d
with_none x true a b d z w = subst (λ (n : ℕ). Is x true n d) (sym (ap (λ (k : ℕ). k + b) z ∙ zero-add b)) w
with_none x false a b d z w = subst (λ (n : ℕ). Is x false n d) (sym (ap (λ (k : ℕ). k + b) z ∙ zero-add b)) w

pub of_none : (x : Float) (t : Bool) (a b d : ℕ) → a ≡ 0 → IsSum x t a t b d → Is x t b d
of_none x true a b d z w = subst (λ (n : ℕ). Is x true n d) (ap (λ (k : ℕ). k + b) z ∙ zero-add b) w
of_none x false a b d z w = subst (λ (n : ℕ). Is x false n d) (ap (λ (k : ℕ). k + b) z ∙ zero-add b) w

sum-none : (y : Float) (s t : Bool) (a b d : ℕ) → 0 < d → a ≡ 0 → Is y t b d → Alike (sum binary64 s a t b d) y
sum-none y s t a b d D z w =
    let x = sum binary64 s a t b d in
    let got : IsSum x s a t b d = sum-is-same y s t a b d D (resign y t s t a b d (inl z) (with_none y t a b d z w)) in
    is-alike x y t b d D (of_none x t a b d z (resign x s t t a b d (inl z) got)) w

add_left : (x y : Float) → Zero x → Number y → Alike (plus x y) y
unfolding add
add_left nan y Z N = absurd Z
add_left (inf s) y Z N = absurd Z
add_left (fin s m e) nan Z N = absurd N
add_left (fin s m e) (inf t) Z N = absurd N
add_left (fin s m e) (fin t n d) Z N =
    let y = fin t n d in
    let is : Is y t (n * up d * down e) (down e * down d) =
    scale-is y t (n * up d) (down d) (n * up d * down e) (down e * down d) (down_pos d) (sym (mul_assoc (n * up d) (down e) (down d))) (own_is y N) in
    sum-none y s t (m * up e * down d) (n * up d * down e) (down e * down d) (mul-pos (down_pos e) (down_pos d)) (no-product m (up e) (down d) Z) is

pub zero-plus : (x y : Float) → Zero x → Number y → Same (plus x y) y
zero-plus x y Z N = let h = add_left x y Z N in (alike-number (plus x y) y (add-fits binary64 x y) N h, h)

-- a - b and -b + a
differences : (a b c : ℕ) (p q : Bool) → nat_lt a b ≡ p → nat_lt b a ≡ q
    → cond p (round binary64 false (b - a) c) (round binary64 q (a - b) c) ≡ cond q (round binary64 true (a - b) c) (round binary64 false (b - a) c)
differences a b c true true e h = let l = ltb-true a b e in let g = ltb-true b a h in absurd (omega arith)
differences a b c true false e h = refl
differences a b c false true e h = refl
differences a b c false false e h = let l = ltb-false a b e in let g = ltb-false b a h in ap (λ (n : ℕ). round binary64 false n c) {x = a - b} {y = b - a} (omega arith)

sum-swap : (s t : Bool) (a b c : ℕ) → sum binary64 s a t b c ≡ sum binary64 t b s a c
unfolding sum
sum-swap true true a b c = ap (λ (n : ℕ). round binary64 true n c) (add_comm a b)
sum-swap false false a b c = ap (λ (n : ℕ). round binary64 false n c) (add_comm a b)
sum-swap true false a b c = differences a b c (nat_lt a b) (nat_lt b a) refl refl
sum-swap false true a b c = sym (differences b a c (nat_lt b a) (nat_lt a b) refl refl)

add-swap : (x y : Float) → plus x y ≡ plus y x
unfolding add
add-swap nan nan = refl
add-swap nan (inf t) = refl
add-swap nan (fin t n d) = refl
add-swap (inf s) nan = refl
add-swap (inf true) (inf true) = refl
add-swap (inf true) (inf false) = refl
add-swap (inf false) (inf true) = refl
add-swap (inf false) (inf false) = refl
add-swap (inf s) (fin t n d) = refl
add-swap (fin s m e) nan = refl
add-swap (fin s m e) (inf t) = refl
add-swap (fin s m e) (fin t n d) =
    sum-swap s t (m * up e * down d) (n * up d * down e) (down e * down d)
    ∙ ap (λ (c : ℕ). sum binary64 t (n * up d * down e) s (m * up e * down d) c) (mul_comm (down e) (down d))

pub plus-zero : (x y : Float) → Number x → Zero y → Same (plus x y) x
plus-zero x y N Z = subst (λ (z : Float). Same z x) (add-swap y x) (zero-plus y x Z N)

pub mul-one-right : (x : Float) → Number x → times x unit ≡ x
unfolding mul
mul-one-right nan N = absurd N
mul-one-right (inf s) N = absurd N
mul-one-right (fin s m e) N =
    let n = m * up e * 1 in
    let d = down e * 1 in
    let D : 0 < d = mul-pos (down_pos e) (omega arith) in
    let same : m * up e * d ≡ n * down e = ap (λ (x : ℕ). m * up e * x) (mul-one (down e)) ∙ ap (λ (x : ℕ). x * down e) (sym (mul-one (m * up e))) in
    ap (λ (u : Bool). round binary64 u n d) (unlike-false s)
    ∙ value-unique binary64 (round binary64 s n d) (fin s m e) s n d D (round-fits binary64 s n d) N (rounds binary64 s s n d m e D N same) (refl, same)

pub mul-one-left : (x : Float) → Number x → times unit x ≡ x
mul-one-left x N = mul-swap unit x ∙ mul-one-right x N

-- ---- differences

odd-neg : (d : ℕ) (s : Bool) (q k l : ℕ) → odd d (not s) q k l ≡ neg (odd d s q k l)
unfolding odd neg
odd-neg d s zero k l = refl
odd-neg d s (suc q) k l = refl

units-neg : (f : Format) (s : Bool) (q k : ℕ) → units f (not s) q k ≡ neg (units f s q k)
unfolding units
units-neg f s q k = go (nat_lt (q * 2 ^ k) (2 ^ (low f + suc (emax f))))
  where
    go : (b : Bool) → cond b (odd (suc (prec f)) (not s) q k (low f)) (inf (not s)) ≡ neg (cond b (odd (suc (prec f)) s q k (low f)) (inf s))
    go true = odd-neg (suc (prec f)) s q k (low f)
    go false = unfold neg in refl

round-neg : (f : Format) (s : Bool) (n d : ℕ) → round f (not s) n d ≡ neg (round f s n d)
round-neg f s n d =
    let l = n * 2 ^ low f in
    let k = size (l / d) - prec f in
    let u = d * 2 ^ k in
    round_is f (not s) n d ∙ units-neg f s (nearest (l / u) (compare (l % u * 2) u)) k ∙ ap neg (sym (round_is f s n d))

-- a - b and b - a
swapped : (s : Bool) (a b c : ℕ) → 0 < c → (p q : Bool) → nat_lt a b ≡ p → nat_lt b a ≡ q
    → Alike (cond p (round binary64 (not s) (b - a) c) (round binary64 (s && q) (a - b) c)) (neg (cond q (round binary64 (not s) (a - b) c) (round binary64 (s && p) (b - a) c)))
swapped s a b c C true true e h = let l = ltb-true a b e in let g = ltb-true b a h in absurd (omega arith)
swapped true a b c C true false e h = inl (round-neg binary64 true (b - a) c)
swapped false a b c C true false e h = inl (round-neg binary64 false (b - a) c)
swapped true a b c C false true e h = inl (round-neg binary64 false (a - b) c)
swapped false a b c C false true e h = inl (round-neg binary64 true (a - b) c)
swapped s a b c C false false e h =
    let l = ltb-false a b e in
    let g = ltb-false b a h in
    inr (round-zero (s && false) (a - b) c C (omega arith), neg-zero (round binary64 (s && false) (b - a) c) (round-zero (s && false) (b - a) c C (omega arith)))

sum-swapped : (s t : Bool) (a b c : ℕ) → 0 < c → Alike (sum binary64 s a (not t) b c) (neg (sum binary64 t b (not s) a c))
unfolding sum
sum-swapped true true a b c C = swapped true a b c C (nat_lt a b) (nat_lt b a) refl refl
sum-swapped false false a b c C = swapped false a b c C (nat_lt a b) (nat_lt b a) refl refl
sum-swapped true false a b c C = inl (ap (λ (n : ℕ). round binary64 true n c) (add_comm a b) ∙ round-neg binary64 false (b + a) c)
sum-swapped false true a b c C = inl (ap (λ (n : ℕ). round binary64 false n c) (add_comm a b) ∙ round-neg binary64 true (b + a) c)

-- x - y is -(y - x)
pub sub_anti : (x y : Float) → Number x → Number y → Alike (minus x y) (neg (minus y x))
unfolding sub add neg
sub_anti nan y M N = absurd M
sub_anti (inf s) y M N = absurd M
sub_anti (fin s m e) nan M N = absurd N
sub_anti (fin s m e) (inf t) M N = absurd N
sub_anti (fin s m e) (fin t n d) M N =
    let a = m * up e * down d in
    let b = n * up d * down e in
    subst (λ (c : ℕ). Alike (sum binary64 s a (not t) b (down e * down d)) (neg (sum binary64 t b (not s) a c))) (mul_comm (down e) (down d))
    (sum-swapped s t a b (down e * down d) (mul-pos (down_pos e) (down_pos d)))

sum-cancels : (s : Bool) (a c : ℕ) → 0 < c → Zero (sum binary64 s a (not s) a c)
unfolding sum
sum-cancels s a c C = go s (nat_lt a a) refl
  where
    go : (s q : Bool) → nat_lt a a ≡ q → Zero (cond (beq s (not s)) (round binary64 s (a + a) c) (cond q (round binary64 (not s) (a - a) c) (round binary64 (s && q) (a - a) c)))
    go true true e = round-zero false (a - a) c C (omega arith)
    go true false e = round-zero false (a - a) c C (omega arith)
    go false true e = round-zero true (a - a) c C (omega arith)
    go false false e = round-zero false (a - a) c C (omega arith)

add-neg : (x : Float) → Number x → Zero (plus x (neg x))
unfolding add neg
add-neg nan N = N
add-neg (inf s) N = absurd N
add-neg (fin s m e) N = sum-cancels s (m * up e * down e) (down e * down e) (mul-pos (down_pos e) (down_pos e))

un-neg : (x : Float) → Zero (neg x) → Zero x
unfolding neg
un-neg nan Z = Z
un-neg (inf s) Z = Z
un-neg (fin s m e) Z = Z

-- x + y is zero for y = -x
pub cancels : (x y : Float) → Number x → Alike y (neg x) → IsZero (plus x y)
cancels x y N h = let z = zero h in (zero_number (plus x y) (add-fits binary64 x y) z, z)
  where
    zero : Alike y (neg x) → Zero (plus x y)
    zero (inl e) = subst (λ (w : Float). Zero (plus x w)) (sym e) (add-neg x N)
    zero (inr Z) = add-both x y (un-neg x Z.1) Z.0
