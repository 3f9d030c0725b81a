-- Rounding a natural number to p binary digits: when it changes nothing, by how much it errs, what it is a multiple of, and that nothing is nearer.
-- In units of the format's smallest value this is all that rounding does, for subnormal values too.
use Rattle.std.proofs.Common.{rules, ◌≡◌, ℕ, suc, ◌+◌, ◌-◌, ◌*◌, ◌^◌, ◌<◌, ◌≤◌, sym, ap, ◌∙◌, subst, inl, inr, le_trans, le_of_eq, le_of_suc-le-suc, le_of_lt, mul-le-mul_right, le_antisymm, eq-or-lt_of_le, one-mul, lt_of_not-le, zero-mul, lt_of_mul-lt-mul_right, arith, pow_pos, pow_mono, pow-add, shl_lt}
use native.Mathlib.Decide.{dec_le}
use lib.Pow.{pow-lt}
use lib.Ieee.{size}
use lib.Ieee.Digits.{size-lt, size-le, size_reaches}
use lib.Ieee.Nearest.{closest}
use Rattle.pairs.specs.Value.{dropped, roundℕ}
use Rattle.pairs.proofs.Powers.{pow-split}

-- ---- the nearest multiple of u

-- x and y are at most u/2 apart
abbrev pub Near : ℕ → ℕ → ℕ → Type 0
Near x y u = (y * 2 ≤ x * 2 + u) × (x * 2 ≤ y * 2 + u)

-- the nearest multiple is at most half a step off
pub closest-near : (a u : ℕ) → 0 < u → Near (closest a u * u) a u
closest-near a u U = grind arith

-- and it is the multiple that is less than half a step off
pub closest-is : (a u q : ℕ) → 0 < u → 2 * q * u < 2 * a + u → 2 * a < 2 * q * u + u → closest a u ≡ q
closest-is a u q U lo hi = let n = closest-near a u U in le_antisymm (no_more (closest a u) q (omega arith)) (no_more q (closest a u) (omega arith))
  where
    no_more : (x y : ℕ) → x * u < suc y * u → x ≤ y
    no_more x y h = le_of_suc-le-suc (lt_of_mul-lt-mul_right u h)

-- ---- how many digits are dropped

-- a bound on n from above
pub dropped-le : (p n e : ℕ) → n < 2 ^ (p + e) → dropped p n ≤ e
dropped-le p n e h = grind (arith, size-le)

-- a bound on n from below
pub dropped-ge : (p n e : ℕ) → 2 ^ (p + e) ≤ n * 2 → e ≤ dropped p n
dropped-ge p n e h =
    le_of_suc-le-suc (lt_of_not-le (λ (l : suc (dropped p n) ≤ e).
    let a : suc (size n) ≤ p + e = omega arith in
    let b : 2 ^ suc (size n) ≤ 2 ^ (p + e) = pow_mono a in
    let c : n < 2 ^ size n = size-lt n in
    omega arith))

-- ---- what stays

-- the error is at most half of the last place
pub round-near : (p n : ℕ) → Near (roundℕ p n) n (2 ^ dropped p n)
unfolding roundℕ
round-near p n = grind (arith, closest-near, pow_pos)

-- a multiple of the last place stays
pub round_whole : (p n r : ℕ) → n ≡ r * 2 ^ dropped p n → roundℕ p n ≡ n
unfolding roundℕ
round_whole p n r e = grind (arith, pow_pos, closest-is)

-- k 2^j stays where k has at most p digits
pub round_exact : (p n k j : ℕ) → 0 < p → n ≡ k * 2 ^ j → k ≤ 2 ^ p → roundℕ p n ≡ n
round_exact p n k j P e h =
    elim (eq-or-lt_of_le h) [
      | inl q ↦ below 1 (p + j) (e ∙ ap (λ (x : ℕ). x * 2 ^ j) q ∙ sym (pow-add 2 p j) ∙ sym (one-mul (2 ^ (p + j)))) (pow-lt P)
      | inr l ↦ below k j e l
    ]
  where
    below : (k j : ℕ) → n ≡ k * 2 ^ j → k < 2 ^ p → roundℕ p n ≡ n
    below k j e h =
        let d : dropped p n ≤ j = grind (arith, dropped-le, shl_lt) in
        round_whole p n (k * 2 ^ (j - dropped p n)) (e ∙ pow-split k j (dropped p n) d)

-- zero stays
pub round-zero : (p : ℕ) → 0 < p → roundℕ p 0 ≡ 0
round-zero p P = round_exact p 0 0 0 P (sym (zero-mul (2 ^ 0))) (le_of_lt (pow_pos p))

-- a bound on n bounds the error
pub round-error : (p n e : ℕ) → 0 < p → n ≤ 2 ^ (p + e) → Near (roundℕ p n) n (2 ^ e)
round-error p n e P h = grind (arith, round_exact, pow-add, round-near, pow_mono, dropped-le)

-- ---- multiples

-- n is a multiple of 2^e
abbrev pub Multipleℕ : ℕ → ℕ → Type 0
Multipleℕ n e = (r : ℕ) × (n ≡ r * 2 ^ e)

-- the result is a multiple of the last place
pub round-coarse : (p n e : ℕ) → e ≤ dropped p n → Multipleℕ (roundℕ p n) e
unfolding roundℕ
round-coarse p n e h = (closest n (2 ^ dropped p n) * 2 ^ (dropped p n - e), pow-split (closest n (2 ^ dropped p n)) (dropped p n) e h)

-- a multiple of a power of two is rounded to one
pub round_keeps : (p n e : ℕ) → Multipleℕ n e → Multipleℕ (roundℕ p n) e
round_keeps p n e m = elim (dec_le e (dropped p n)) [
  | yes h ↦ round-coarse p n e h
  | no h ↦ let l : dropped p n ≤ e = le_of_lt (lt_of_not-le h) in (m.0, round_whole p n (m.0 * 2 ^ (e - dropped p n)) (m.1 ∙ pow-split m.0 e (dropped p n) l) ∙ m.1)
]

-- ---- nothing is nearer

-- g is at least as near to n as w, and on no other side of w
abbrev pub Nearer : ℕ → ℕ → ℕ → Type 0
Nearer g n w = (w ≤ n → (w ≤ g) × (g + w ≤ n * 2)) × (n ≤ w → (g ≤ w) × (n * 2 ≤ g + w))

-- no multiple of u is nearer to n than the nearest one
among-multiples : (c r u n : ℕ) → Near (c * u) n u → 0 < u → Nearer (c * u) n (r * u)
among-multiples c r u n h U = search (rules, mul-le-mul_right)

-- no number of p digits and zeros after them is nearer to n than n rounded
pub round-nearest : (p n k j : ℕ) → 0 < p → k ≤ 2 ^ p → Nearer (roundℕ p n) n (k * 2 ^ j)
unfolding roundℕ
round-nearest p n k j P h = elim (dec_le d j) [
  | yes l ↦ subst (Nearer (closest n u * u) n) (sym (pow-split k j d l)) (among-multiples (closest n u) (k * 2 ^ (j - d)) u n (closest-near n u (pow_pos d)) (pow_pos d))
  | no l ↦
      let b : suc j ≤ d = lt_of_not-le l in
      let least = 2 ^ (p - 1) * u in
      let A : Nearer (closest n u * u) n least = among-multiples (closest n u) (2 ^ (p - 1)) u n (closest-near n u (pow_pos d)) (pow_pos d) in
      let e : least ≡ 2 ^ (p - 1 + d) = sym (pow-add 2 (p - 1) d) in
      let r : 2 ^ (p - 1 + d) ≤ n = grind (arith, size_reaches) in
      let s : k * 2 ^ j ≤ 2 ^ (p + j) = grind (arith, mul-le-mul_right, pow-add) in
      let t : 2 ^ (p + j) ≤ 2 ^ (p - 1 + d) = pow_mono (order p j d P b) in
      far (closest n u * u) n least (k * 2 ^ j) A (le_trans s (le_trans t (le_of_eq (sym e)))) (le_trans (le_of_eq e) r)
]
  where
    d : ℕ
    d = dropped p n

    u : ℕ
    u = 2 ^ dropped p n

    order : (p j d : ℕ) → 0 < p → j < d → p + j ≤ p - 1 + d
    order p j d P h = omega arith

    far : (g n w' w : ℕ) → Nearer g n w' → w ≤ w' → w' ≤ n → Nearer g n w
    far g n w' w A a b = (λ c. let x = A.0 b in omega arith, λ c. let x = A.0 b in let y = A.1 (le_trans c a) in omega arith)
