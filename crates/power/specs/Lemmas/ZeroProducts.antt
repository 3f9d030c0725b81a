-- fma where the product is zero, or where the sum is: what the rule of fma gives there.
use Rattle.std.specs.Prelude.{◌≡◌, ℕ, ◌+◌, ◌-◌, ◌*◌, ◌^◌, ◌<◌, Bool, true, false, cond, not, ◌⊎◌, pos, nat_lt, refl, Float}
use Rattle.std.proofs.Common.{sym, ap, ◌∙◌, subst, inl, inr, ⊎_elim, mul_assoc, mul_right_comm, mul-one, zero-mul, mul-zero, mul-pos, arith, lit≤}
use Rattle.std.specs.Bool.{beq}
use Rattle.std.specs.Float.{nan, inf, fin, binary64}
use Rattle.std.specs.Float.Ieee.{up, down, unlike, round, mul}
use Rattle.std.specs.Float.Ieee.Fits.{down_pos}
use Rattle.power.specs.Rules.{FmaExact, Is, IsSum, Product, MulAdd, Number, Within, sign, num, den}
use Rattle.power.specs.Lemmas.Values.{den_pos, cross, number, signs, own_is, scale-is, resign, round-is-same}
use Rattle.power.specs.Lemmas.Unique.{is_zero, is-alike}
use Rattle.power.specs.Lemmas.Uses.{dyadic}
use Rattle.power.specs.Lemmas.Alike.{IsZero, Same, zero-num, zero-within, zero_is}
use Rattle.power.specs.Lemmas.Zeros.{nought-zero, with_none, of_none}

-- ---- a product that is zero

fma-none : (fma : Float → Float → Float → Float) → FmaExact fma → (a b c : Float) → Within 400 a → Within 400 b → Within 512 c → num a * num b ≡ 0 → Same (fma a b c) c
fma-none fma R a b c A B C z =
    let v = unlike (sign a) (sign b) in
    let t = sign c in
    let M = den a * den b in
    let n = num a * num b * den c in
    let k = num c * M in
    let d = M * den c in
    let x = fma a b c in
    let none : n ≡ 0 = ap (λ (i : ℕ). i * den c) z ∙ zero-mul (den c) in
    let d-pos : 0 < d = mul-pos (mul-pos (den_pos a) (den_pos b)) (den_pos c) in
    let is : Is c t k d = scale-is c t (num c) (den c) k d (den_pos c) (sym (mul_assoc (num c) M (den c))) (own_is c C.0) in
    let there : MulAdd a b c c = resign c t v t n k d (inl none) (with_none c t n k d none is) in
    let got : MulAdd a b c x = R a b c (fin v 0 (pos 0)) c A B C (zero_is (fin v 0 (pos 0)) v (num a * num b) M (nought-zero v) z) there in
    let w : Is x t k d = of_none x t n k d none (resign x v t t n k d (inl none) got) in
    (number x t k d w, is-alike x c t k d d-pos w is)

pub fma-zero-left : (fma : Float → Float → Float → Float) → FmaExact fma → (a b c : Float) → IsZero a → Within 400 b → Within 512 c → Same (fma a b c) c
fma-zero-left fma R a b c A B C = fma-none fma R a b c (zero-within 400 a A) B C (ap (λ (i : ℕ). i * num b) (zero-num a A.1) ∙ zero-mul (num b))

pub fma-zero-right : (fma : Float → Float → Float → Float) → FmaExact fma → (a b c : Float) → Within 400 a → IsZero b → Within 512 c → Same (fma a b c) c
fma-zero-right fma R a b c A B C = fma-none fma R a b c A (zero-within 400 b B) C (ap (λ (i : ℕ). num a * i) (zero-num b B.1) ∙ mul-zero (num a))

-- ---- a product that is a whole number

-- a b = N
abbrev pub IsProduct : Float → Float → ℕ → Type 0
IsProduct a b N = num a * num b ≡ N * (den a * den b)

product_value : (a b : Float) (N : ℕ) → N < 2 ^ 53 → IsProduct a b N → Product a b (round binary64 (unlike (sign a) (sign b)) N 1)
product_value a b N h e =
    let v = unlike (sign a) (sign b) in
    scale-is (round binary64 v N 1) v N 1 (num a * num b) (den a * den b) (lit≤ tt) (sym e ∙ sym (mul-one (num a * num b))) (dyadic v N 0 h (lit≤ tt))

round-product : (s : Bool) (n d N : ℕ) → 0 < d → N < 2 ^ 53 → n ≡ N * d → Is (round binary64 s n d) s N 1
round-product s n d N D h e =
    let same : N * d ≡ n * 1 = sym e ∙ sym (mul-one n) in
    scale-is (round binary64 s n d) s n d N 1 D (sym same) (round-is-same (round binary64 s N 1) s n d D (scale-is (round binary64 s N 1) s N 1 n d (lit≤ tt) same (dyadic s N 0 h (lit≤ tt))))

pub times-whole : (a b : Float) (N : ℕ) → Number a → Number b → N < 2 ^ 53 → IsProduct a b N → Is (mul binary64 a b) (unlike (sign a) (sign b)) N 1
unfolding mul
times-whole nan b N A B h e = absurd A
times-whole (inf s) b N A B h e = absurd A
times-whole (fin s m e) nan N A B h p = absurd B
times-whole (fin s m e) (inf t) N A B h p = absurd B
times-whole (fin s m e) (fin t n d) N A B h p =
    round-product (unlike s t) (m * up e * (n * up d)) (down e * down d) N (mul-pos (down_pos e) (down_pos d)) h p

-- ---- a sum that is zero

-- n / d - n / d
zero-sum : (x : Float) (s t : Bool) (a b d : ℕ) → IsZero x → a ≡ b → (a ≡ 0) ⊎ (t ≡ not s) → IsSum x s a t b d
zero-sum x s t a b d Z e (inl z) = go (beq s t) (nat_lt a b)
  where
    go : (p q : Bool) → cond p (Is x s (a + b) d) (cond q (Is x t (b - a) d) (Is x s (a - b) d))
    go true q = zero_is x s (a + b) d Z (omega arith)
    go false true = zero_is x t (b - a) d Z (omega arith)
    go false false = zero_is x s (a - b) d Z (omega arith)
zero-sum x true t a b d Z e (inr h) = subst (λ (u : Bool). IsSum x true a u b d) (sym h) (go (nat_lt a b))
  where
    go : (q : Bool) → cond q (Is x false (b - a) d) (Is x true (a - b) d)
    go true = zero_is x false (b - a) d Z (omega arith)
    go false = zero_is x true (a - b) d Z (omega arith)
zero-sum x false t a b d Z e (inr h) = subst (λ (u : Bool). IsSum x false a u b d) (sym h) (go (nat_lt a b))
  where
    go : (q : Bool) → cond q (Is x true (b - a) d) (Is x false (a - b) d)
    go true = zero_is x true (b - a) d Z (omega arith)
    go false = zero_is x false (a - b) d Z (omega arith)

sum-zero : (x : Float) (s t : Bool) (a b d : ℕ) → 0 < d → a ≡ b → (a ≡ 0) ⊎ (t ≡ not s) → IsSum x s a t b d → IsZero x
sum-zero x s t a b d D e h w = go (beq s t) (nat_lt a b) refl w h
  where
    as-zero : (u : Bool) (n : ℕ) → n ≡ 0 → Is x u n d → IsZero x
    as-zero u n z v = (number x u n d v, is_zero x u n d D z v)

    never : (s t : Bool) → beq s t ≡ true → t ≡ not s → ◌≡◌ {A = Bool} true false
    never true t e h = sym e ∙ ap (beq true) h
    never false t e h = sym e ∙ ap (beq false) h

    go : (p q : Bool) → beq s t ≡ p → cond p (Is x s (a + b) d) (cond q (Is x t (b - a) d) (Is x s (a - b) d)) → (a ≡ 0) ⊎ (t ≡ not s) → IsZero x
    go true q g v (inl z) = as-zero s (a + b) (omega arith) v
    go true q g v (inr k) = let bad = never s t g k in absurd (subst (λ (u : Bool). cond u (Unit {0}) ⊥) bad tt)
    go false true g v k = as-zero t (b - a) (omega arith) v
    go false false g v k = as-zero s (a - b) (omega arith) v

-- a b + c, where a b is a value and c is -a b
pub fma-opposite : (fma : Float → Float → Float → Float) → FmaExact fma → (a b c p : Float) → Within 400 a → Within 400 b → Within 512 c → Product a b p
    → num a * num b * den c ≡ num c * (den a * den b) → (num a * num b * den c ≡ 0) ⊎ (sign c ≡ not (unlike (sign a) (sign b))) → IsZero (fma a b c)
fma-opposite fma R a b c p A B C P same opposite =
    let v = unlike (sign a) (sign b) in
    let n = num a * num b * den c in
    let k = num c * (den a * den b) in
    let d = den a * den b * den c in
    let r = fin false 0 (pos 0) in
    let there : MulAdd a b c r = zero-sum r v (sign c) n k d (nought-zero false) same opposite in
    sum-zero (fma a b c) v (sign c) n k d (mul-pos (mul-pos (den_pos a) (den_pos b)) (den_pos c)) same opposite (R a b c p r A B C P there)

-- a b + c, where a b is the whole number N and c is -N
pub fma-cancels : (fma : Float → Float → Float → Float) → FmaExact fma → (a b c : Float) (N : ℕ) → Within 400 a → Within 400 b → Within 512 c → N < 2 ^ 53
    → IsProduct a b N → Is c (not (unlike (sign a) (sign b))) N 1 → IsZero (fma a b c)
fma-cancels fma R a b c N A B C h p w =
    let v = unlike (sign a) (sign b) in
    let M = den a * den b in
    let c-is : num c ≡ N * den c = sym (mul-one (num c)) ∙ cross c (not v) N 1 w in
    let same : num a * num b * den c ≡ num c * M = ap (λ (i : ℕ). i * den c) p ∙ mul_right_comm N M (den c) ∙ ap (λ (i : ℕ). i * M) (sym c-is) in
    let none : N ≡ 0 → num a * num b * den c ≡ 0 = λ z. same ∙ ap (λ (i : ℕ). i * M) (c-is ∙ ap (λ (i : ℕ). i * den c) z ∙ zero-mul (den c)) ∙ zero-mul M in
    fma-opposite fma R a b c (round binary64 v N 1) A B C (product_value a b N h p) same (⊎_elim (λ z. inl (none z)) inr (signs c (not v) N 1 w))
