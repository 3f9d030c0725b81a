-- The root that `sqrt` rounds: where it lies, by whole numbers, and which number it is rounded to. Assumes nothing.
use Rattle.std.proofs.Common.{◌≡◌, ℕ, zero, suc, ◌+◌, ◌-◌, ◌*◌, ◌/◌, ◌^◌, ◌<◌, ◌≤◌, Bool, true, false, cond, eqb, leb, sym, refl, ap, ◌∙◌, subst, mul-le-mul_right, mul_assoc, mul_comm, div-lt_iff_lt-mul, mul-lt-mul_of_pos_right, mul-pos, le-div_iff_mul-le, mul_right_comm, arith, pow_pos, pow-add, eq-eqb, eqb-true, leb-false, leb-true}
use lib.Ieee.{Format, prec, low, hid, size, units, round}
use lib.Ieee.Digits.{size-lt, size-le}
use lib.Ieee.Fits.{round_is, two}
use lib.Ieee.Nearest.{closest, closest_same}
use lib.Ieee.{root_below, root_twice}
use Rattle.pairs.specs.Root.{NearestRoot}
use Rattle.pairs.proofs.Powers.{size-gt}
use Rattle.pairs.proofs.Digits.{closest-is}

-- ---- the whole part of a root

abbrev Root : ℕ → ℕ → Type 0
Root s n = (s * s ≤ n) × (n < (s + 1) * (s + 1))

digit : (r n : ℕ) (b : Bool) → Root r (n / 4) → leb ((2 * r + 1) * (2 * r + 1)) n ≡ b → Root (cond b (2 * r + 1) (2 * r)) n
digit r n true h e = (leb-true _ _ e, omega (arith, h.1))
digit r n false h e = (omega (arith, h.0), leb-false _ _ e)

below : (k n : ℕ) → n < 2 ^ k → Root (root_below k n) n
unfolding root_below
below zero n h = omega arith
below (suc k) n h = digit (root_below k (n / 4)) n _ (below k (n / 4) (omega arith)) refl

lt-of-squares : (a b : ℕ) → a * a < b * b → a < b
lt-of-squares a b h = grind arith

-- ---- `root_twice n` and 2 h compare as n and h^2

twice-lt : (n h : ℕ) → n < h * h → root_twice n < 2 * h
unfolding root_twice
twice-lt n h l = grind (arith, below, size-lt, lt-of-squares)

twice-le : (n h : ℕ) → h * h ≤ n → 2 * h ≤ root_twice n
unfolding root_twice
twice-le n h l = grind (arith, below, size-lt, lt-of-squares)

twice-gt : (n h : ℕ) → h * h < n → 2 * h < root_twice n
unfolding root_twice
twice-gt n h l = grind (arith, below, size-lt, eqb-true, lt-of-squares)

-- and at a square it is 2 h
pub twice-square : (h : ℕ) → root_twice (h * h) ≡ 2 * h
unfolding root_twice
twice-square h = go (root_below (size (h * h)) (h * h)) (below (size (h * h)) (h * h) (size-lt (h * h)))
  where
    go : (s : ℕ) → Root s (h * h) → 2 * s + cond (eqb (s * s) (h * h)) 0 1 ≡ 2 * h
    go s r =
        let e : s ≡ h = omega (arith, lt-of-squares s (h + 1) (omega (arith, r.0)), lt-of-squares h (s + 1) (omega (arith, r.1))) in
        let w : 2 * s + 0 ≡ 2 * h = omega arith in
        ap (λ (b : Bool). 2 * s + cond b 0 1) (eq-eqb (s * s) (h * h) (ap (λ (x : ℕ). x * x) e)) ∙ w

-- ---- the root of n (2 w)^2, from n and the whole number q nearest to its root

module _ (n q w : ℕ) (W : 0 < w) where
  abbrev scaled : ℕ
  scaled = n * (2 * w * (2 * w))

  pub root-from : (a : ℕ) → a * a ≤ n → a * (4 * w) ≤ root_twice scaled
  root-from a h = omega (arith, twice-le scaled (a * (2 * w)) (omega (arith, mul-le-mul_right (w * w) h)))

  pub root-upto : (a : ℕ) → n < a * a → root_twice scaled < a * (4 * w)
  root-upto a h = omega (arith, twice-lt scaled (a * (2 * w)) (omega (arith, mul-lt-mul_of_pos_right h (mul-pos W W))))

  pub root-below-half : n ≤ q * q + q → root_twice scaled < q * (4 * w) + 2 * w
  root-below-half h = omega (arith, twice-lt scaled (2 * q * w + w) (omega (arith, mul-le-mul_right (w * w) h, mul-pos W W)))

  pub root-above-half : 0 < q → q * q < n + q → q * (4 * w) < root_twice scaled + 2 * w
  root-above-half Q h = go (q - 1) (omega arith)
    where
      go : (p : ℕ) → q ≡ p + 1 → q * (4 * w) < root_twice scaled + 2 * w
      go p e =
          let l : p * p + p + 1 ≤ n = omega (arith, ap (λ (x : ℕ). x * x) e) in
          let t : 2 * (2 * p * w + w) < root_twice scaled = twice-gt scaled (2 * p * w + w) (omega (arith, mul-le-mul_right (w * w) l, mul-pos W W)) in
          omega (arith, ap (λ (k : ℕ). k * (4 * w)) e)

-- ---- the size of q

pub root-at-least : (n q a : ℕ) → NearestRoot n q → a * a ≤ n → a ≤ q
root-at-least n q a h l = omega (arith, lt-of-squares a (q + 1) (omega (arith, h.below)))

pub root-at-most : (n q a : ℕ) → NearestRoot n q → n < a * a → q ≤ a
root-at-most n q a h l = grind arith

-- ---- rounding

-- how many digits `round` drops
dropped : (p n den k : ℕ) → 0 < p → 0 < den → 2 ^ (p - 1 + k) * den ≤ n → n < 2 ^ (p + k) * den → size (n / den) - p ≡ k
dropped p n den k P D lo hi = grind (arith, size-le, div-lt_iff_lt-mul, size-gt, le-div_iff_mul-le)

-- t / den is less than half a unit off q 2^k of the smallest values, and has all digits that f keeps
pub round-near : (f : Format) (t den u q k : ℕ) → 0 < den → 0 < u → 2 * u * 2 ^ low f ≡ den * 2 ^ k → hid f * (2 * u) ≤ t → t < 2 * hid f * (2 * u)
    → q * (2 * u) < t + u → t < q * (2 * u) + u → round f false t den ≡ units f false q k
round-near f t den u q k D U e from upto lo hi =
    let n = t * 2 ^ low f in
    let p = prec f in
    let v : hid f * (2 * u) * 2 ^ low f ≡ 2 ^ (p - 1 + k) * den = mul_assoc (hid f) (2 * u) (2 ^ low f) ∙ ap (λ (x : ℕ). hid f * x) e ∙ regroup (hid f) den (2 ^ k) ∙ ap (λ (x : ℕ). x * den) (sym (pow-add 2 (p - 1) k)) in
    let d : 2 ^ (p + k) * den ≡ 2 * (2 ^ (p - 1 + k) * den) = doubled p k den (two f) in
    let drop : size (n / den) - p ≡ k =
    dropped p n den k (omega (arith, two f)) D (omega (arith, mul-le-mul_right (2 ^ low f) from)) (omega (arith, mul-lt-mul_of_pos_right upto (pow_pos (low f)))) in
    round_is f false t den
    ∙ ap (λ (z : ℕ). units f false (closest n (den * 2 ^ z)) z) drop
    ∙ ap (λ (z : ℕ). units f false z k)
    (closest_same n (den * 2 ^ k) t (2 * u) (mul-pos D (pow_pos k)) (omega arith) (mul_assoc t (2 ^ low f) (2 * u) ∙ ap (λ (x : ℕ). t * x) (mul_comm (2 ^ low f) (2 * u) ∙ e))
    ∙ closest-is t (2 * u) q (omega arith) (omega arith) (omega arith))
  where
    regroup : (a b c : ℕ) → a * (b * c) ≡ a * c * b
    regroup a b c = sym (mul_assoc a b c) ∙ mul_right_comm a b c

    doubled : (p k d : ℕ) → 2 ≤ p → 2 ^ (p + k) * d ≡ 2 * (2 ^ (p - 1 + k) * d)
    doubled p k d h = ap (λ (x : ℕ). 2 ^ x * d) {y = 1 + (p - 1 + k)} (omega arith) ∙ ap (λ (x : ℕ). x * d) (pow-add 2 1 (p - 1 + k)) ∙ mul_assoc 2 (2 ^ (p - 1 + k)) d

-- the root of n (2 w)^2, of as many whole digits as f keeps, is rounded to q
pub root-rounds : (f : Format) (n q w den k : ℕ) → 0 < w → 0 < den → 4 * w * 2 ^ low f ≡ den * 2 ^ k → hid f * hid f ≤ n → n < 2 * hid f * (2 * hid f) → NearestRoot n q
    → round f false (root_twice (n * (2 * w * (2 * w)))) den ≡ units f false q k
root-rounds f n q w den k W D e from upto h =
    let Q : 0 < q = grind arith in
    let u : 2 * (2 * w) ≡ 4 * w = omega arith in
    round-near f (root_twice (n * (2 * w * (2 * w)))) den (2 * w) q k D (omega arith) (ap (λ (x : ℕ). x * 2 ^ low f) u ∙ e)
    (subst (λ (x : ℕ). hid f * x ≤ root_twice (n * (2 * w * (2 * w)))) (sym u) (root-from n q w W (hid f) from))
    (subst (λ (x : ℕ). root_twice (n * (2 * w * (2 * w))) < 2 * hid f * x) (sym u) (root-upto n q w W (2 * hid f) upto))
    (subst (λ (x : ℕ). q * x < root_twice (n * (2 * w * (2 * w))) + 2 * w) (sym u) (root-above-half n q w W Q h.above))
    (subst (λ (x : ℕ). root_twice (n * (2 * w * (2 * w))) < q * x + 2 * w) (sym u) (root-below-half n q w W h.below))
