-- The neighbours of an f64 by its bit pattern, and a value rounded to odd by the pattern of the value rounded to nearest.
use Rattle.std.proofs.Common.{◌≡◌, ℕ, zero, suc, ◌+◌, ◌-◌, ◌*◌, ◌/◌, ◌%◌, ◌^◌, ◌<◌, ◌≤◌, Bool, true, false, cond, not, T, ℤ, pos, negsuc, ◌+ℤ◌, ◌-ℤ◌, ◌*ℤ◌, neg_ℤ, nat_abs, sym, refl, ap, ◌∙◌, subst, le_trans, le_of_eq, le_refl, lt_of_lt_of_le, lt_of_le_of_lt, le_of_lt, mul-le-mul_right, mul-pos, lt_of_not-le, le_of_mul-le-mul_right, arith, pow_pos, pow_mono, pow-add}
use borrow.Author.Differences.{ints}
use lib.Pow.{pow-lt}
use lib.Ieee.{Float, nan, inf, fin, binary64, size, hid, top, to_bits, of_bits, is_nan, fits}
use lib.Ieee.Digits.{size-lt, size_reaches}
use lib.Ieee.Bits.{of_bits-fits, to_bits-of_bits}
use lib.Ieee.Exact.{HasValue, units_val}
use Rattle.pairs.specs.Value.{signed, Value, dropped, roundℕ, roundℤ, place}
use Rattle.pairs.specs.Fused.{RoundedOdd, neighbour, Odd}
use Rattle.pairs.proofs.Patterns.{same-value, packed}
use Rattle.pairs.proofs.Integers.{is_neg, signed-own, signed-abs, signed_same, signed-mul-pos, times-one}
use Rattle.pairs.proofs.Digits.{Near, round-near, round-coarse, round-nearest}
use Rattle.pairs.proofs.Nearest.{roundℤ-own, roundℤ-abs, round-wholeℤ}

-- ---- patterns

-- what has a value is no NaN
pub has-no-nan : (x : Float) (s : Bool) (n c : ℕ) → HasValue x s n c → T (not (is_nan x))
unfolding is_nan
has-no-nan nan s n c h = absurd h
has-no-nan (inf t) s n c h = tt
has-no-nan (fin t m e) s n c h = tt

-- the pattern of ±m 2^d units, where m has 53 digits or is 2^53
abbrev pattern : Bool → ℕ → ℕ → ℕ
pattern s m d = cond s (top binary64) 0 + (d * hid binary64 + m)

-- what it stands for
pattern-value : (s : Bool) (m d : ℕ) → 2 ^ 52 ≤ m → m ≤ 2 ^ 53 → 53 + d < 2098 → HasValue (of_bits binary64 (pattern s m d)) s (m * 2 ^ d) (2 ^ 1074)
pattern-value s m d l h b =
    let u : m * 2 ^ d < 2 ^ 2098 = lt_of_le_of_lt (le_trans (mul-le-mul_right (2 ^ d) h) (le_of_eq (sym (pow-add 2 53 d)))) (pow-lt b) in
    subst (λ (x : Float). HasValue x s (m * 2 ^ d) (2 ^ 1074)) (sym (packed binary64 s m d h (λ k. l) (omega arith))) (units_val binary64 s m d u)

-- and that no other pattern does
pattern-is : (x : Float) (s : Bool) (m d : ℕ) → T (fits binary64 x) → HasValue x s (m * 2 ^ d) (2 ^ 1074) → 2 ^ 52 ≤ m → m ≤ 2 ^ 53 → 53 + d < 2098 → to_bits binary64 x ≡ pattern s m d
pattern-is x s m d t v l h b =
    let n = pattern s m d in
    let w : HasValue (of_bits binary64 n) s (m * 2 ^ d) (2 ^ 1074) = pattern-value s m d l h b in
    ap (to_bits binary64) (same-value binary64 x (of_bits binary64 n) s (m * 2 ^ d) t (of_bits-fits binary64 n) v w)
    ∙ to_bits-of_bits binary64 n (below s) (has-no-nan (of_bits binary64 n) s (m * 2 ^ d) (2 ^ 1074) w)
  where
    below : (s : Bool) → pattern s m d < 2 * top binary64
    below true = omega arith
    below false = omega arith

-- its last bit is that of m
pattern-odd : (s : Bool) (m d : ℕ) → pattern s m d % 2 ≡ m % 2
pattern-odd true m d = omega arith
pattern-odd false m d = omega arith

-- ---- the significand of a number that is rounded

-- n rounded to p + 1 digits is c 2^d
record Kept (p n : ℕ) : Type 0 where
  c : ℕ
  is : roundℕ (suc p) n ≡ c * 2 ^ dropped (suc p) n
  least : 2 ^ p ≤ c
  most : c ≤ 2 ^ suc p
  lower : 2 ^ p * 2 ^ dropped (suc p) n ≤ n
  upper : n < 2 ^ suc p * 2 ^ dropped (suc p) n

-- the significand of what drops a digit
kept : (p n : ℕ) → 0 < dropped (suc p) n → Kept p n
kept p n D =
    let d = dropped (suc p) n in
    let m = round-coarse (suc p) n d (le_refl d) in
    let lo : 2 ^ p * 2 ^ d ≤ n = le_trans (le_of_eq (sym (pow-add 2 p d))) (size_reaches n (p + d) (reach (size n) p D)) in
    let hi : n < 2 ^ suc p * 2 ^ d = lt_of_lt_of_le (size-lt n) (le_trans (pow_mono (cover (size n) p)) (le_of_eq (pow-add 2 (suc p) d))) in
    let a = ((round-nearest (suc p) n (2 ^ p) d (some p) (le_of_lt (pow-lt (le_refl (suc p))))).0 lo).0 in
    let b = ((round-nearest (suc p) n (2 ^ suc p) d (some p) (le_refl (2 ^ suc p))).1 (le_of_lt hi)).0 in
    record { c = m.0; is = m.1; least = le_of_mul-le-mul_right (le_trans a (le_of_eq m.1)) (pow_pos d); most = le_of_mul-le-mul_right (le_trans (le_of_eq (sym m.1)) b) (pow_pos d); lower = lo; upper = hi }
  where
    reach : (z p : ℕ) → 0 < z - suc p → p + (z - suc p) < z
    reach z p h = omega arith

    cover : (z p : ℕ) → z ≤ suc p + (z - suc p)
    cover z p = omega arith

    some : (p : ℕ) → 0 < suc p
    some p = omega arith

-- ---- rounding to odd

-- an odd multiple of the last place that is less than a step off
signed_odd : (s : Bool) (p n m : ℕ) → m % 2 ≡ 1 → n < m * 2 ^ dropped p n + 2 ^ dropped p n → m * 2 ^ dropped p n < n + 2 ^ dropped p n → RoundedOdd p (signed s n) (signed s (m * 2 ^ dropped p n))
signed_odd s p n m o h k =
    subst (λ (d : ℕ). m * 2 ^ d < n + 2 ^ d → n < m * 2 ^ d + 2 ^ d → RoundedOdd p (signed s n) (signed s (m * 2 ^ d))) (ap (dropped p) (signed-abs s n))
    (λ a b. neighbour (half s) (signed-mul-pos s m (2 ^ place p (signed s n)) ∙ ap (λ (z : ℤ). z *ℤ pos (2 ^ place p (signed s n))) (odd s)) (near s (m * 2 ^ place p (signed s n)) (2 ^ place p (signed s n)) b a)) k h
  where
    half : Bool → ℤ
    half false = pos (m / 2)
    half true = negsuc (m / 2)

    odd : (s : Bool) → signed s m ≡ half s *ℤ pos 2 +ℤ pos 1
    odd false = ap pos (halves m o)
      where
        halves : (m : ℕ) → m % 2 ≡ 1 → m ≡ m / 2 * 2 + 1
        halves m h = omega arith
    odd true = let e : m ≡ m / 2 * 2 + 1 = omega arith in ap (λ (k : ℕ). neg_ℤ (pos k)) e ∙ below (m / 2)
      where
        below : (j : ℕ) → neg_ℤ (pos (j * 2 + 1)) ≡ negsuc j *ℤ pos 2 +ℤ pos 1
        below j = omega (arith, ints)

    near : (s : Bool) (r w : ℕ) → n < r + w → r < n + w → nat_abs (signed s r -ℤ signed s n) < w
    near false r w h k = omega (arith, ints)
    near true r w h k = omega (arith, ints)

-- what is not exact drops a digit
inexact-place : (z : ℤ) → ¬ (roundℤ 53 z ≡ z) → 0 < place 53 z
inexact-place z h = lt_of_not-le (λ (l : place 53 z ≤ 0). h (round-wholeℤ 53 z 0 (omega arith) l (z, times-one z)))

-- x is z rounded to nearest, and that is not z
module _ (x : Float) (z : ℤ) (t : T (fits binary64 x)) (v : Value binary64 x (roundℤ 53 z)) (b : 53 + place 53 z < 2098) (h : ¬ (roundℤ 53 z ≡ z)) where
  -- the size of z, the exponent of its last place, and that place
  abbrev n : ℕ
  n = nat_abs z

  abbrev d : ℕ
  d = dropped 53 (nat_abs z)

  abbrev w : ℕ
  w = 2 ^ dropped 53 (nat_abs z)

  -- the rounded significand
  K : Kept 52 n
  K = kept 52 n (inexact-place z h)

  -- it is not 0
  pub rounded-pos : 0 < roundℕ 53 n
  rounded-pos = grind (arith, mul-pos, pow_pos, K)

  -- x by its significand, and its pattern
  at : HasValue x (is_neg z) (K.c * w) (2 ^ 1074)
  at = grind (arith, signed_same, rounded-pos, roundℤ-own, K)

  bits : to_bits binary64 x ≡ pattern (is_neg z) K.c d
  bits = grind (arith, pattern-is, K, at)

  -- the last bit is that of the significand
  last_bit : to_bits binary64 x % 2 ≡ K.c % 2
  last_bit = grind (arith, bits, pattern-odd, K)

  -- within half a step
  near : Near (K.c * w) n w
  near = grind (arith, round-near)

  -- an odd multiple of the last place
  found : (y : Float) (m : ℕ) → HasValue y (is_neg z) (m * w) (2 ^ 1074) → m % 2 ≡ 1 → n < m * w + w → m * w < n + w → Odd z y
  found y m a o l k = record {
    units = signed (is_neg z) (m * w);
    is = record { sign = is_neg z; count = m * w; is = refl; has = a };
    odd = subst (λ (q : ℤ). RoundedOdd 53 q (signed (is_neg z) (m * w))) (sym (signed-own z)) (signed_odd (is_neg z) 53 n m o l k);
  }

  -- an odd significand stays
  pub odd-stays : to_bits binary64 x % 2 ≡ 1 → Odd z x
  odd-stays e = grind (arith, K, near, pow_pos, found, at, last_bit)

  -- an even one goes up, where it is below z
  pub odd-above : to_bits binary64 x % 2 ≡ 0 → nat_abs (roundℤ 53 z) < n → Odd z (of_bits binary64 (to_bits binary64 x + 1))
  odd-above e l =
      let l' : K.c * w < n = grind (arith, roundℤ-abs, K) in
      let s : suc K.c ≤ 2 ^ 53 = grind arith in
      let c = go K.c n w near (pow_pos d) l' in
      found (of_bits binary64 (to_bits binary64 x + 1)) (suc K.c)
      (subst (λ (m : ℕ). HasValue (of_bits binary64 m) (is_neg z) (suc K.c * w) (2 ^ 1074)) (sym (ap (λ (m : ℕ). m + 1) bits ∙ next (is_neg z) K.c d)) (pattern-value (is_neg z) (suc K.c) d (le_trans K.least (le-suc K.c)) s b))
      (even K.c (sym last_bit ∙ e)) c.0 c.1
    where
      le-suc : (c : ℕ) → c ≤ suc c
      le-suc c = omega arith

      even : (c : ℕ) → c % 2 ≡ 0 → suc c % 2 ≡ 1
      even c h = omega arith

      next : (s : Bool) (m d : ℕ) → pattern s m d + 1 ≡ pattern s (suc m) d
      next true m d = omega arith
      next false m d = omega arith

      go : (c n w : ℕ) → Near (c * w) n w → 0 < w → c * w < n → (n < suc c * w + w) × (suc c * w < n + w)
      go c n w h k l = omega arith

  -- and down, where it is above z
  pub odd-below : to_bits binary64 x % 2 ≡ 0 → n < nat_abs (roundℤ 53 z) → Odd z (of_bits binary64 (to_bits binary64 x - 1))
  odd-below e l =
      let l' : n < K.c * w = grind (arith, roundℤ-abs, K) in
      let s : 2 ^ 52 < K.c = grind arith in
      below K.c refl s l'
    where
      even : (c : ℕ) → suc c % 2 ≡ 0 → c % 2 ≡ 1
      even c h = omega arith

      least : (c : ℕ) → 2 ^ 52 < suc c → 2 ^ 52 ≤ c
      least c h = omega arith

      most : (c : ℕ) → suc c ≤ 2 ^ 53 → c ≤ 2 ^ 53
      most c h = omega arith

      next : (s : Bool) (m d : ℕ) → pattern s (suc m) d - 1 ≡ pattern s m d
      next true m d = omega arith
      next false m d = omega arith

      go : (c n w : ℕ) → Near (suc c * w) n w → 0 < w → n < suc c * w → (n < c * w + w) × (c * w < n + w)
      go c n w h k l = omega arith

      below : (c : ℕ) → K.c ≡ c → 2 ^ 52 < c → n < c * w → Odd z (of_bits binary64 (to_bits binary64 x - 1))
      below zero q s l = absurd (omega arith)
      below (suc c) q s l =
          let k = go c n w (subst (λ (m : ℕ). Near (m * w) n w) q near) (pow_pos d) l in
          found (of_bits binary64 (to_bits binary64 x - 1)) c
          (subst (λ (m : ℕ). HasValue (of_bits binary64 m) (is_neg z) (c * w) (2 ^ 1074)) (sym (ap (λ (m : ℕ). m - 1) (bits ∙ ap (λ (m : ℕ). pattern (is_neg z) m d) q) ∙ next (is_neg z) c d)) (pattern-value (is_neg z) c d (least c s) (most c (subst (λ (m : ℕ). m ≤ 2 ^ 53) q K.most)) b))
          (even c (ap (λ (m : ℕ). m % 2) (sym q) ∙ sym last_bit ∙ e)) k.0 k.1
