-- Roundings beyond the ends of a format: ∞ from 2^(emax + 1) up, +0 up to half the smallest value. Assumes nothing.
use Rattle.std.proofs.Common.{◌≡◌, ℕ, suc, ◌+◌, ◌*◌, ◌^◌, ◌<◌, ◌≤◌, Bool, true, false, cond, ◌&&◌, ◌||◌, T, eqb, ltb, pos, negsuc, sym, refl, ap, ◌∙◌, subst, true≢false, le_trans, le_of_eq, mul_assoc, mul-pos, one-mul, pow-suc, zero-mul, mul-one, le-mul_of_pos_right, arith, eqb→eq, ltb→lt, pow_pos, pow_mono, lt-ltb}
use lib.Ieee.{Float, Format, nan, inf, fin, binary32, binary64, prec, emax, low, up, down, odd, units, round, le}
use lib.Ieee.Fits.{round_is}
use lib.Ieee.Exact.{HasValue, odd_sign}
use lib.Ieee.Nearest.{closest_mono}
use lib.Ieee.Order.{drop, kept, round_mono}

-- ---- ∞

top-infinite : (f : Format) → round f false (2 ^ suc (emax f)) 1 ≡ inf false
unfolding round
top-infinite binary32 = refl
top-infinite binary64 = refl

above-infinite : (x : Float) → T (le (inf false) x) → x ≡ inf false
unfolding le
above-infinite nan t = absurd t
above-infinite (inf true) t = absurd t
above-infinite (inf false) t = refl
above-infinite (fin s m e) t = absurd t

pub round-over : (f : Format) (n d : ℕ) → 0 < d → 2 ^ suc (emax f) * d ≤ n → round f false n d ≡ inf false
round-over f n d D h =
    above-infinite (round f false n d)
    (subst (λ (x : Float). T (le x (round f false n d))) (top-infinite f)
    (round_mono f (2 ^ suc (emax f)) 1 n d (omega arith) D (le_trans h (le_of_eq (sym (mul-one n))))))

-- ---- +0

none_kept : (f : Format) (k : ℕ) → units f false 0 k ≡ fin false 0 (pos 0)
unfolding units odd
none_kept f k = ap (λ (b : Bool). cond b (odd (suc (prec f)) false 0 k (low f)) (inf false)) (lt-ltb (0 * 2 ^ k) (2 ^ (low f + suc (emax f))) (subst (λ (x : ℕ). x < 2 ^ (low f + suc (emax f))) (sym (zero-mul (2 ^ k))) (pow_pos (low f + suc (emax f)))))

no_more : (q : ℕ) → q ≤ 0 → q ≡ 0
no_more q h = omega arith

pub round_under : (f : Format) (n d : ℕ) → 0 < d → n * 2 ^ suc (low f) ≤ d → round f false n d ≡ fin false 0 (pos 0)
round_under f n d D h =
    let l = n * 2 ^ low f in
    let k = drop (prec f) l d in
    let twice : l * 2 ≤ 1 * (d * 2 ^ k) =
    le_trans (le_of_eq (mul_assoc n (2 ^ low f) 2 ∙ ap (λ (x : ℕ). n * x) (sym (pow-suc 2 (low f)))))
    (le_trans h (le_trans (le-mul_of_pos_right d (pow_pos k)) (le_of_eq (sym (one-mul (d * 2 ^ k)))))) in
    let none : kept (prec f) l d ≡ 0 = no_more (kept (prec f) l d) (closest_mono l (d * 2 ^ k) 1 2 (mul-pos D (pow_pos k)) (omega arith) twice) in
    round_is f false n d ∙ ap (λ (q : ℕ). units f false q k) none ∙ none_kept f k

-- ---- powers of two

pub pow-over : (j : ℕ) → 128 ≤ j → round binary32 false (1 * up (pos j)) (down (pos j)) ≡ inf false
pow-over j h = round-over binary32 (1 * 2 ^ j) 1 (omega arith) (le_trans (le_of_eq (mul-one (2 ^ 128))) (le_trans (pow_mono h) (le_of_eq (sym (one-mul (2 ^ j))))))

pub pow-under : (j : ℕ) → 149 ≤ j → round binary32 false (1 * up (negsuc j)) (down (negsuc j)) ≡ fin false 0 (pos 0)
pow-under j h = let more : 150 ≤ suc j = omega arith in round_under binary32 (1 * 1) (2 ^ suc j) (pow_pos (suc j)) (le_trans (le_of_eq (one-mul (2 ^ 150))) (pow_mono more))

-- ---- values of f64 of at most 2^-1000

abbrev pub Tiny : Float → Type 0
Tiny nan = ⊥
Tiny (inf s) = ⊥
Tiny (fin s m e) = (s ≡ false) × (m * up e * 2 ^ 1000 ≤ down e)

-- no result of `round` with the sign + is negative
abbrev Plus : Float → Type 0
Plus nan = ⊥
Plus (inf s) = s ≡ false
Plus (fin s m e) = s ≡ false

has-plus : (x : Float) (a c : ℕ) → HasValue x false a c → Plus x
has-plus nan a c v = v
has-plus (inf s) a c v = absurd v
has-plus (fin s m e) a c v = v.0

round-plus : (f : Format) (n d : ℕ) → Plus (round f false n d)
round-plus f n d = subst Plus (sym (round_is f false n d)) (one (kept (prec f) (n * 2 ^ low f) d) (drop (prec f) (n * 2 ^ low f) d))
  where
    pick : (q k : ℕ) (b : Bool) → Plus (cond b (odd (suc (prec f)) false q k (low f)) (inf false))
    pick q k true = has-plus (odd (suc (prec f)) false q k (low f)) (q * 2 ^ k) (2 ^ low f) (odd_sign (suc (prec f)) false q k (low f))
    pick q k false = refl

    one : (q k : ℕ) → Plus (units f false q k)
    one q k = unfold units in pick q k (ltb (q * 2 ^ k) (2 ^ (low f + suc (emax f))))

small_one : round binary64 false 1 (2 ^ 1000) ≡ fin false 1 (negsuc 999)
unfolding round
small_one = refl

pub le_split : (a b : ℕ) (p q : Bool) → ltb a b ≡ p → eqb a b ≡ q → T (p || (q && true)) → a ≤ b
le_split a b true q e g t = let h = ltb→lt a b (subst T (sym e) tt) in omega arith
le_split a b false true e g t = le_of_eq (eqb→eq a b (subst T (sym g) tt))
le_split a b false false e g t = absurd t

below-small : (x : Float) → Plus x → T (le x (fin false 1 (negsuc 999))) → Tiny x
unfolding le
below-small nan p t = p
below-small (inf true) p t = absurd (true≢false p)
below-small (inf false) p t = absurd t
below-small (fin s m e) p t =
    let t' = subst (λ (s : Bool). T (le (fin s m e) (fin false 1 (negsuc 999)))) p t in
    let a = m * up e * 2 ^ 1000 in
    let b = 1 * 1 * down e in
    (p, le_trans (le_split a b (ltb a b) (eqb a b) refl refl t') (le_of_eq (one-mul (down e))))

pub round-tiny : (n d : ℕ) → 0 < d → n * 2 ^ 1000 ≤ d → Tiny (round binary64 false n d)
round-tiny n d D h =
    below-small (round binary64 false n d) (round-plus binary64 n d)
    (subst (λ (x : Float). T (le (round binary64 false n d) x)) small_one
    (round_mono binary64 n d 1 (2 ^ 1000) D (pow_pos 1000) (le_trans h (le_of_eq (sym (one-mul d))))))
