-- What a bit pattern stands for, and which pattern a value has, in either format. Assumes nothing.
use Rattle.std.proofs.Common.{◌≡◌, ℕ, zero, suc, ◌+◌, ◌-◌, ◌*◌, ◌/◌, ◌%◌, ◌^◌, ◌<◌, ◌≤◌, Bool, true, false, cond, T, eqb, ltb, leb, ◌⊎◌, sym, refl, ap, ◌∙◌, subst, inl, inr, le_trans, lt_of_lt_of_le, mul-le-mul_right, mod-lt, mod-eq_of_lt, mul_comm, div-lt_iff_lt-mul, eq-zero-or-pos, eq-or-lt_of_le, mul-pos, zero-add, mul-div_cancel, arith, pow_pos, pow_mono, pow-add, shl_lt, le-ltb, lt-ltb, ne_eqb, le-leb}
use native.Mathlib.Nat.{add-mod_left, pow-succ'}
use borrow.Author.Tests.{lt-leb}
use lib.Ieee.{Float, Format, nan, inf, fin, binary32, binary64, prec, emax, low, hid, ones, top, size, odd, units, fits, of_fields, of_bits, to_bits}
use lib.Ieee.Fits.{two, down_pos, odd-fits}
use lib.Ieee.Bits.{of_bits-fits, of_bits-to_bits}
use lib.Ieee.Exact.{HasValue, odd_sign, units_val}

-- ---- what a pattern says

-- how many of the format's smallest values the pattern b is, for a b below infinity's
unfoldable pub steps : Format → ℕ → ℕ
steps f b = cond (ltb b (hid f)) b ((hid f + b % hid f) * 2 ^ (b / hid f - 1))

pub steps_low : (f : Format) (b : ℕ) → b < hid f → steps f b ≡ b
unfolding steps
steps_low f b h = rw (lt-ltb b (hid f) h) refl

pub steps_high : (f : Format) (b : ℕ) → hid f ≤ b → steps f b ≡ (hid f + b % hid f) * 2 ^ (b / hid f - 1)
unfolding steps
steps_high f b h = rw (le-ltb b (hid f) h) refl

-- an f64 whose exponent field is x at most
pub steps-lt : (b x : ℕ) → b < suc x * 2 ^ 52 → steps binary64 b < 2 ^ (52 + x)
steps-lt b x h =
    elim (eq-zero-or-pos (2 ^ 52 - b)) [
      | inl z ↦
          let j = b / 2 ^ 52 - 1 in
          let m : (2 ^ 52 + b % 2 ^ 52) * 2 ^ j < 2 ^ (53 + j) = shl_lt 53 j (omega arith) in
          let p : 53 + j ≤ 52 + x = omega arith in
          subst (λ (n : ℕ). n < 2 ^ (52 + x)) (sym (steps_high binary64 b (omega arith))) (lt_of_lt_of_le m (pow_mono p))
      | inr p ↦
          let m : 2 ^ 52 ≤ 2 ^ (52 + x) = pow_mono {i = 52} {j = 52 + x} (omega arith) in
          omega (arith, steps_low binary64 b (omega arith))
    ]

-- the exponent field and the fraction of k h + m, for an m with h as its leading digit
split : (h k m : ℕ) → h ≤ m → m < 2 * h → (h + (k * h + m) % h ≡ m) × ((k * h + m) / h - 1 ≡ k)
split h k m l u = grind arith

steps-normal : (f : Format) (m k : ℕ) → hid f ≤ m → m < 2 * hid f → steps f (k * hid f + m) ≡ m * 2 ^ k
steps-normal f m k h l = grind (arith, split, steps_high)

carried : (h m p : ℕ) → m ≡ 2 * h → h * (2 * p) ≡ m * p
carried h m p e = omega (arith, ap (λ (x : ℕ). x * p) e)

pub steps-packed : (f : Format) (m k : ℕ) → hid f ≤ m → m ≤ 2 * hid f → steps f (k * hid f + m) ≡ m * 2 ^ k
steps-packed f m k h l = go (eq-or-lt_of_le l)
  where
    go : (m ≡ 2 * hid f) ⊎ (m < 2 * hid f) → steps f (k * hid f + m) ≡ m * 2 ^ k
    go (inl e) =
        let H : 0 < hid f = pow_pos (prec f - 1) in
        let b : k * hid f + m ≡ suc k * hid f + hid f = omega arith in
        ap (steps f) b ∙ steps-normal f (hid f) (suc k) (omega arith) (omega arith) ∙ ap (λ (p : ℕ). hid f * p) (pow-succ' 2 k) ∙ carried (hid f) m (2 ^ k) e
    go (inr u) = steps-normal f m k h u

bits_of_value : (f : Format) (x : Float) (s : Bool) (n : ℕ) → HasValue x s n (2 ^ low f) → to_bits f x ≡ cond s (top f) 0 + (size n - prec f) * hid f + n / 2 ^ (size n - prec f)
unfolding to_bits
bits_of_value f nan s n v = absurd v
bits_of_value f (inf t) s n v = absurd v
bits_of_value f (fin t m e) s n v = grind (arith, mul-div_cancel, down_pos)

-- two values of a format that are the same multiple of its smallest one, with the same sign
pub same-value : (f : Format) (x y : Float) (s : Bool) (n : ℕ) → T (fits f x) → T (fits f y) → HasValue x s n (2 ^ low f) → HasValue y s n (2 ^ low f) → x ≡ y
same-value f x y s n X Y v w = grind (arith, of_bits-to_bits, bits_of_value)

-- the fields of a pattern
fields : (f : Format) (s : Bool) (x t b : ℕ) → x < ones f → t < hid f → x * hid f + t ≡ b → HasValue (of_fields f s x t) s (steps f b) (2 ^ low f)
unfolding of_fields
fields f s zero t b X H e =
    let q : b ≡ t = omega arith in
    let v : t * 2 ^ 0 ≡ steps f b = omega (arith, steps_low f b (omega arith)) in
    subst (λ (a : ℕ). HasValue (odd (prec f) s t 0 (low f)) s a (2 ^ low f)) v (odd_sign (prec f) s t 0 (low f))
fields f s (suc j) t b X H e =
    let q : j * hid f + (hid f + t) ≡ b = omega arith in
    let v : (hid f + t) * 2 ^ j ≡ steps f b = sym (steps-normal f (hid f + t) j (omega arith) (omega arith)) ∙ ap (steps f) q in
    subst (λ (k : Bool). HasValue (cond k (cond (eqb t 0) (inf s) nan) (odd (prec f) s (hid f + t) j (low f))) s (steps f b) (2 ^ low f)) (sym (ne_eqb (suc j) (ones f) (omega arith)))
    (subst (λ (a : ℕ). HasValue (odd (prec f) s (hid f + t) j (low f)) s a (2 ^ low f)) v (odd_sign (prec f) s (hid f + t) j (low f)))

-- the pattern without its sign is its exponent field and its fraction
two_fields : (f : Format) (b : ℕ) → b % top f / hid f * hid f + b % hid f ≡ b % top f
two_fields f b = grind arith

pub read : (f : Format) (b : ℕ) → b % top f < ones f * hid f → HasValue (of_bits f b) (leb (top f) b) (steps f (b % top f)) (2 ^ low f)
unfolding of_bits
read f b h = grind (arith, fields, div-lt_iff_lt-mul, pow_pos, mod-lt, two_fields)

pub value : (f : Format) (x : Float) → T (fits f x) → to_bits f x % top f < ones f * hid f → HasValue x (leb (top f) (to_bits f x)) (steps f (to_bits f x % top f)) (2 ^ low f)
value f x X h = grind (arith, of_bits-to_bits, read)

signed-mod : (s : Bool) (c b : ℕ) → b < c → (cond s c 0 + b) % c ≡ b
signed-mod true c b h = add-mod_left c b ∙ mod-eq_of_lt h
signed-mod false c b h = ap (λ (x : ℕ). x % c) (zero-add b) ∙ mod-eq_of_lt h

signed-leb : (s : Bool) (c b : ℕ) → b < c → leb c (cond s c 0 + b) ≡ s
signed-leb true c b h = le-leb c (c + b) (omega arith)
signed-leb false c b h = lt-leb c (0 + b) (omega arith)

below_top : (h o b : ℕ) → b < o * h → b < h * suc o
below_top h o b l = omega (arith, mul_comm o h)

-- the same of a sign and the rest of a pattern
pub read-signed : (f : Format) (s : Bool) (b : ℕ) → b < ones f * hid f → HasValue (of_bits f (cond s (top f) 0 + b)) s (steps f b) (2 ^ low f)
read-signed f s b h =
    let c = cond s (top f) 0 + b in
    let u : b < top f = below_top (hid f) (ones f) b h in
    let p : c % top f ≡ b = signed-mod s (top f) b u in
    subst (λ (a : ℕ). HasValue (of_bits f c) s (steps f a) (2 ^ low f)) p
    (subst (λ (t : Bool). HasValue (of_bits f c) t (steps f (c % top f)) (2 ^ low f)) (signed-leb s (top f) b u)
    (read f c (subst (λ (a : ℕ). a < ones f * hid f) (sym p) h)))

of_bits-ones : (f : Format) (b : ℕ) → b % top f / hid f ≡ ones f → of_bits f b ≡ cond (eqb (b % hid f) 0) (inf (leb (top f) b)) nan
unfolding of_bits
of_bits-ones f b e = grind arith

all_ones : (h o b : ℕ) → o * h ≤ b → b < h * suc o → b / h ≡ o
all_ones h o b l u = grind arith

-- an exponent field of ones
pub no_number : (f : Format) (x : Float) → T (fits f x) → ones f * hid f ≤ to_bits f x % top f → (x ≡ nan) ⊎ ((s : Bool) × (x ≡ inf s))
no_number f x X h = grind (arith, of_bits-to_bits, of_bits-ones, mod-lt, mul-pos, pow_pos, all_ones)

-- ---- the pattern of a value

twice : (f : Format) → 2 ^ prec f ≡ 2 * hid f
twice binary32 = refl
twice binary64 = refl

below-ones : (h o m k j : ℕ) → m < j * h → k + j ≤ o → k * h + m < o * h
below-ones h o m k j u l = omega (arith, mul-le-mul_right h l)

units-fits : (f : Format) (s : Bool) (m k : ℕ) → m ≤ 2 * hid f → m * 2 ^ k < 2 ^ (low f + suc (emax f)) → T (fits f (units f s m k))
unfolding units
units-fits f s m k h l = grind (arith, lt-ltb, odd-fits, twice, pow_pos, pow-add)

finite : (f : Format) (s : Bool) (b m k : ℕ) → b < ones f * hid f → m ≤ 2 * hid f → steps f b ≡ m * 2 ^ k → m * 2 ^ k < 2 ^ (low f + suc (emax f)) → of_bits f (cond s (top f) 0 + b) ≡ units f s m k
finite f s b m k B M e l =
    let c = cond s (top f) 0 + b in
    same-value f (of_bits f c) (units f s m k) s (m * 2 ^ k) (of_bits-fits f c) (units-fits f s m k M l)
    (subst (λ (a : ℕ). HasValue (of_bits f c) s a (2 ^ low f)) e (read-signed f s b B))
    (units_val f s m k l)

-- m 2^k smallest values are finite
in-range : (f : Format) (m k j : ℕ) → m < 2 ^ j → j + k ≤ low f + suc (emax f) → m * 2 ^ k < 2 ^ (low f + suc (emax f))
in-range f m k j h l = lt_of_lt_of_le (shl_lt {a = m} j k h) (pow_mono l)

too_large : (f : Format) (s : Bool) (m k j : ℕ) → 2 ^ j ≤ m → low f + suc (emax f) ≤ j + k → units f s m k ≡ inf s
unfolding units
too_large f s m k j h l =
    let g : 2 ^ (low f + suc (emax f)) ≤ m * 2 ^ k = le_trans (pow_mono l) (subst (λ (x : ℕ). x ≤ m * 2 ^ k) (sym (pow-add 2 j k)) (mul-le-mul_right (2 ^ k) h)) in
    ap (λ (b : Bool). cond b (odd (suc (prec f)) s m k (low f)) (inf s)) (le-ltb (m * 2 ^ k) (2 ^ (low f + suc (emax f))) g)

pub infinite : (f : Format) (s : Bool) → of_bits f (cond s (top f) 0 + ones f * hid f) ≡ inf s
unfolding of_bits
infinite binary32 true = refl
infinite binary32 false = refl
infinite binary64 true = refl
infinite binary64 false = refl

pub overflows : (f : Format) (s : Bool) (m k : ℕ) → hid f ≤ m → ones f ≤ k + 1 → units f s m k ≡ inf s
overflows f s m k h K = grind (arith, too_large, two)

packed-finite : (f : Format) (s : Bool) (m k : ℕ) → m ≤ 2 * hid f → (0 < k → hid f ≤ m) → k * hid f + m < ones f * hid f → m * 2 ^ k < 2 ^ (low f + suc (emax f)) → of_bits f (cond s (top f) 0 + (k * hid f + m)) ≡ units f s m k
packed-finite f s m k h l B u = grind (arith, finite, steps-packed, steps_low)

-- ±m 2^k of the smallest values: m's top bit, and a carry past it, go into the exponent
pub packed : (f : Format) (s : Bool) (m k : ℕ) → m ≤ 2 * hid f → (0 < k → hid f ≤ m) → k + 2 ≤ ones f → of_bits f (cond s (top f) 0 + (k * hid f + m)) ≡ units f s m k
packed f s m k h l K = go (eq-or-lt_of_le h)
  where
    H : 0 < hid f
    H = pow_pos (prec f - 1)

    full : m ≡ 2 * hid f → (k + 2 ≡ ones f) ⊎ (k + 2 < ones f) → of_bits f (cond s (top f) 0 + (k * hid f + m)) ≡ units f s m k
    full e (inl o) =
        let b : k * hid f + m ≡ ones f * hid f = omega (arith, ap (λ (x : ℕ). x * hid f) o) in
        ap (λ (x : ℕ). of_bits f (cond s (top f) 0 + x)) b ∙ infinite f s ∙ sym (too_large f s m k (prec f) (omega (arith, twice f)) (omega (arith, two f)))
    full e (inr o) =
        packed-finite f s m k h l (below-ones (hid f) (ones f) m k 3 (omega (arith, H)) (omega arith))
        (in-range f m k (suc (prec f)) (omega (arith, H, twice f, pow-add 2 1 (prec f))) (omega (arith, two f)))

    go : (m ≡ 2 * hid f) ⊎ (m < 2 * hid f) → of_bits f (cond s (top f) 0 + (k * hid f + m)) ≡ units f s m k
    go (inl e) = full e (eq-or-lt_of_le K)
    go (inr u) = packed-finite f s m k h l (below-ones (hid f) (ones f) m k 2 u K) (in-range f m k (prec f) (omega (arith, twice f)) (omega (arith, two f)))
