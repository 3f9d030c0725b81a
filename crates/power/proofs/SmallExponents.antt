-- Whole exponents from 3 to 24, and the tests that tell them. Assumes nothing.
use Rattle.std.proofs.Common.{◌≡◌, ℕ, ◌+◌, ◌*◌, ◌/◌, ◌%◌, ◌<◌, ◌≤◌, Bool, true, false, ◌&&◌, ◌||◌, T, eqb, ltb, ℤ, sym, refl, ap, ◌∙◌, subst, le_trans, le_of_eq, add-zero, mul-le-mul_right, lt_of_mul-lt-mul_right, div-add-mod', mul-one, le_of_mul-le-mul_right, arith, eqb→eq, ltb→lt, ltb-false, lt-ltb, eq-eqb, le-leb}
use native.Mathlib.Nat.{mul-mod_left}
use lib.Ieee.{Float, fin, up, down, of_bits, eq, lt, le, to_unsigned, size}
use lib.Ieee.Fits.{down_pos, and_l, and_r}
use Rattle.pairs.specs.Bits.{significant_bits}
use Rattle.pairs.specs.Whole.{whole}
use Rattle.power.specs.Backend.{Scalar}
use Rattle.power.specs.Rules.{ScalarRules, Exponent}
use Rattle.power.specs.Whole.{multiplies, short}
use Rattle.power.proofs.Ends.{le_split}
use Rattle.power.proofs.FloatTests.{two, twenty-four}
use Rattle.power.proofs.Scaling.{cast}

-- 2 < y ≤ 24
range-tells : (s : Bool) (p : ℕ) (g : ℤ) → T (lt two (fin s p g)) → T (le (fin s p g) twenty-four) → (s ≡ false) × (2 * down g < p * up g) × (p * up g ≤ 24 * down g)
unfolding lt le eq
range-tells true p g t u = absurd t
range-tells false p g t u =
    let n = p * up g in
    let d = down g in
    (refl, subst (λ (x : ℕ). 2 * d < x) (mul-one n) (ltb→lt (2 * d) (n * 1) t), subst (λ (x : ℕ). x ≤ 24 * d) (mul-one n) (le_split (n * 1) (24 * d) (ltb (n * 1) (24 * d)) (eqb (n * 1) (24 * d)) refl refl u))

-- y = n, from 3 to 24
pub record Factors (s : Bool) (p : ℕ) (g : ℤ) : Type 0 where
  pub count : ℕ
  pub sign : s ≡ false
  pub is : p * up g ≡ count * down g
  pub least : 3 ≤ count
  pub most : count ≤ 24

pub whole_part : (n d : ℕ) → n % d ≡ 0 → n ≡ n / d * d
whole_part n d z = sym (div-add-mod' n d) ∙ ap (λ (r : ℕ). n / d * d + r) z ∙ add-zero (n / d * d)

pub multiplies-tells : (m : Scalar) → ScalarRules m → (x : Float) (s : Bool) (p : ℕ) (g : ℤ) → Exponent (fin s p g) → multiplies m x (fin s p g) ≡ true → Factors s p g
unfolding of_bits
multiplies-tells m R x s p g E e =
    let y = fin s p g in
    let a = lt two y in
    let b = le y twenty-four in
    let c = m.integerf y in
    let d = short x (to_unsigned 32 y) in
    let n = p * up g / down g in
    let t : T (a && b && c && d) = subst T (sym e) tt in
    let small : T (a && b && c) = and_l (a && b && c) d t in
    let range = range-tells s p g (and_l a b (and_l (a && b) c small)) (and_r a b (and_l (a && b) c small)) in
    let w : p * up g ≡ n * down g = whole_part (p * up g) (down g) (eqb→eq (p * up g % down g) 0 (subst T (R.whole_told y E) (and_r (a && b) c small))) in
    record {
      count = n;
      sign = range.0;
      is = w;
      least = lt_of_mul-lt-mul_right (down g) (subst (λ (z : ℕ). 2 * down g < z) w range.1);
      most = le_of_mul-le-mul_right (subst (λ (z : ℕ). z ≤ 24 * down g) w range.2) (down_pos g);
    }

-- y as a count
pub count-is : (p : ℕ) (g : ℤ) (n : ℕ) → p * up g ≡ n * down g → n ≤ 24 → to_unsigned 32 (fin false p g) ≡ n
unfolding to_unsigned
count-is p g n w h = cast (p * up g) (down g) n (down_pos g) (mul-one (p * up g) ∙ w) (le_trans h (omega arith))

-- N / D = n is above 2 from 3 on
pub above-two : (n N D : ℕ) → 0 < D → N ≡ n * D → 3 ≤ n → 2 * D < N
above-two n N D D-pos w h = let g : 3 * D ≤ n * D = mul-le-mul_right D h in omega arith

pub lt-two : (p : ℕ) (g : ℤ) (n : ℕ) → p * up g ≡ n * down g → 3 ≤ n → lt two (fin false p g) ≡ true
unfolding lt
lt-two p g n w h = let l = above-two n (p * up g) (down g) (down_pos g) w h in lt-ltb (2 * down g) (p * up g * 1) (omega arith)

test-le : (a b : ℕ) → a ≤ b → (ltb a b || (eqb a b && true)) ≡ true
test-le a b h = go (ltb a b) refl
  where
    go : (t : Bool) → ltb a b ≡ t → (t || (eqb a b && true)) ≡ true
    go true e = refl
    go false e = let g = ltb-false a b e in ap (λ (u : Bool). u && true) (eq-eqb a b (omega arith))

le-twenty-four : (p : ℕ) (g : ℤ) (n : ℕ) → p * up g ≡ n * down g → n ≤ 24 → le (fin false p g) twenty-four ≡ true
unfolding le lt eq
le-twenty-four p g n w h = test-le (p * up g * 1) (24 * down g) (le_trans (le_of_eq (mul-one (p * up g) ∙ w)) (mul-le-mul_right (down g) h))

whole_is : (p : ℕ) (g : ℤ) (n : ℕ) → p * up g ≡ n * down g → whole (fin false p g) ≡ true
whole_is p g n w = eq-eqb (p * up g % down g) 0 (ap (λ (x : ℕ). x % down g) w ∙ mul-mod_left n (down g))

short-is : (q : ℕ) (e : ℤ) (n : ℕ) → size q * n ≤ 25 + 2 * n → short (fin false q e) n ≡ true
unfolding significant_bits
short-is q e n h = le-leb (size q * n) (25 + 2 * n) h

-- such a y is worked out by products, if x has twenty-four digits
pub takes-product : (m : Scalar) → ScalarRules m → (q : ℕ) (e : ℤ) (p : ℕ) (g : ℤ) (n : ℕ) → Exponent (fin false p g) → p * up g ≡ n * down g → 3 ≤ n → n ≤ 24
    → size q * n ≤ 25 + 2 * n → multiplies m (fin false q e) (fin false p g) ≡ true
unfolding of_bits
takes-product m R q e p g n E w least most h =
    let y = fin false p g in
    let a = lt-two p g n w least in
    let b = le-twenty-four p g n w most in
    let c = R.whole_told y E ∙ whole_is p g n w in
    let d = ap (short (fin false q e)) (count-is p g n w most) ∙ short-is q e n h in
    λ i. a i && b i && c i && d i
