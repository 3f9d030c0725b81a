-- The power of negative zero: the sign is kept at 1 and at odd exponents from 3 to 23. Assumes nothing.
use Rattle.std.proofs.Common.{◌≡◌, ℕ, ◌*◌, ◌/◌, ◌%◌, ◌<◌, Bool, true, false, cond, not, ◌&&◌, ◌||◌, T, eqb, ◌⊎◌, pos, sym, refl, ap, ◌∙◌, subst, inl, inr, true≢false, mul-one, arith, eqb→eq, ltb-true, lt-ltb, eqb-true}
use borrow.Author.Tests.{eqb-false}
use lib.Ieee.{Float, nan, inf, fin, binary32, up, down, neg, lt, eq, fits, of_bits, to_bits}
use lib.Ieee.Bits.{is_true}
use lib.Ieee.Fits.{and_l, and_r}
use Rattle.std.specs.Float.{float_zero, float_one}
use Rattle.pairs.specs.Whole.{odd}
use Rattle.power.specs.Backend.{Arithmetic, Scalar}
use Rattle.power.specs.Rules.{Rules, num, den}
use Rattle.power.specs.Special.{signed, keeps_sign}
use Rattle.power.specs.SpecialCases.{Not, Finite, Positive, Negative, minus_zero, KeepsSign, NegativeZero}
use Rattle.power.specs.Powf.{power}
use Rattle.power.proofs.FloatTests as tests
use Rattle.power.proofs.Branches as branches
use Rattle.power.proofs.FloatTests.{two, twenty-four, Side}
use Rattle.power.proofs.SmallExponents.{whole_part, lt-two}
use Rattle.power.proofs.Standard.{zero-infinite}

-- ---- the test of the exponent

test : (m : Scalar) (y : Float) (a b c d : Bool) → eq y float_one ≡ a → lt two y ≡ b → lt y twenty-four ≡ c → m.odd_integerf y ≡ d
    → keeps_sign m y ≡ (a || (b && c && d))
unfolding of_bits
test m y a b c d p q r s = λ i. p i || (q i && r i && s i)

keeps-branch : (a b c : Bool) → (a ≡ true) ⊎ ((b ≡ true) × (c ≡ true)) → (a || (b && c && true)) ≡ true
keeps-branch a b c (inl p) = ap (λ (v : Bool). v || (b && c && true)) p
keeps-branch a b c (inr (p, q)) = tests.second a (b && c && true) (λ i. p i && q i && true)

-- a number that keeps the sign is 1 or above 2, and below 24
limits : (y : Float) → KeepsSign y → (eq y float_one ≡ true) ⊎ ((lt two y ≡ true) × (lt y twenty-four ≡ true))
limits nan (O, P, L) = absurd O
limits (inf s) (O, P, L) = absurd O
limits (fin true k e) (O, P, L) = absurd (true≢false P.0)
limits (fin false k e) (O, P, L) = go (eqb q 1) refl
  where
    n : ℕ
    n = k * up e

    d : ℕ
    d = down e

    q : ℕ
    q = n / d

    is : n ≡ q * d
    is = whole_part n d (eqb→eq (n % d) 0 (and_l (eqb (n % d) 0) (eqb (q % 2) 1) O))

    is_odd : q % 2 ≡ 1
    is_odd = eqb→eq (q % 2) 1 (and_r (eqb (n % d) 0) (eqb (q % 2) 1) O)

    below : lt (fin false k e) twenty-four ≡ true
    below = unfold lt in lt-ltb (n * 1) (24 * d) (omega arith)

    go : (b : Bool) → eqb q 1 ≡ b → (eq (fin false k e) float_one ≡ true) ⊎ ((lt two (fin false k e) ≡ true) × (lt (fin false k e) twenty-four ≡ true))
    go true h = inl (tests.eq-same k e 1 (pos 0) (mul-one n ∙ is ∙ ap (λ (x : ℕ). x * d) (eqb-true q 1 h)))
    go false h = inr (lt-two k e q is (omega (arith, is_odd, eqb-false q 1 h)), below)

kept : (m : Arithmetic) → Rules m → (y : Float) → T (fits binary32 y) → Finite y → KeepsSign y → keeps_sign m.scalar y ≡ true
kept m R y Y F K =
    let odd_is : m.scalar.odd_integerf y ≡ true = R.scalar.odd_told y (branches.exponent y Y F (tests.not-zero true y K.1)) ∙ is_true (odd y) K.0 in
    test m.scalar y (eq y float_one) (lt two y) (lt y twenty-four) true refl refl refl odd_is ∙ keeps-branch (eq y float_one) (lt two y) (lt y twenty-four) (limits y K)

loses-branch : (a b c d : Bool) → Not (a ≡ true) → (c ≡ true → d ≡ true → ⊥) → (a || (b && c && d)) ≡ false
loses-branch true b c d p q = absurd (p refl)
loses-branch false false c d p q = refl
loses-branch false true false d p q = refl
loses-branch false true true false p q = refl
loses-branch false true true true p q = absurd (q refl refl)

below-24 : (y : Float) → Positive y → Finite y → lt y twenty-four ≡ true → num y < 24 * den y
unfolding lt
below-24 nan P F h = absurd P
below-24 (inf s) P F h = absurd F
below-24 (fin true k e) P F h = absurd (true≢false P.0)
below-24 (fin false k e) P F h = let l = ltb-true (k * up e * 1) (24 * down e) h in omega arith

lost : (m : Arithmetic) → Rules m → (y : Float) → T (fits binary32 y) → Finite y → Positive y → Not (KeepsSign y) → keeps_sign m.scalar y ≡ false
lost m R y Y F P N =
    test m.scalar y (eq y float_one) (lt two y) (lt y twenty-four) (odd y) refl refl refl (R.scalar.odd_told y (branches.exponent y Y F (tests.not-zero true y P)))
    ∙ loses-branch (eq y float_one) (lt two y) (lt y twenty-four) (odd y)
    (λ h. N (subst KeepsSign (sym (tests.eq-one-is y Y h)) (tt, (refl, omega arith), omega arith)))
    (λ h o. N (subst T (sym o) tt, P, below-24 y P F h))

-- ---- the power

at-minus-zero : (m : Arithmetic) (y : Float) (p b : Bool) → Finite y → Side p y → keeps_sign m.scalar y ≡ b → power m minus_zero y ≡ cond (not p) (inf false) (signed b float_zero)
unfolding to_bits
at-minus-zero m y p b F P q = branches.at-zero-base m minus_zero y p b refl tt F P q

keeps : (m : Arithmetic) → Rules m → (y : Float) → T (fits binary32 y) → Finite y → KeepsSign y → power m minus_zero y ≡ minus_zero
unfolding neg
keeps m R y Y F K = at-minus-zero m y true true F K.1 (kept m R y Y F K)

loses : (m : Arithmetic) → Rules m → (y : Float) → T (fits binary32 y) → Positive y → Not (KeepsSign y) → power m minus_zero y ≡ float_zero
loses m R nan Y P N = absurd P
loses m R (inf s) Y P N = zero-infinite m true true s P
loses m R (fin s k e) Y P N = at-minus-zero m (fin s k e) true false tt P (lost m R (fin s k e) Y tt P N)

overflows : (m : Arithmetic) (y : Float) → Negative y → power m minus_zero y ≡ inf false
overflows m nan P = absurd P
overflows m (inf s) P = zero-infinite m true false s P
overflows m (fin s k e) P = at-minus-zero m (fin s k e) false (keeps_sign m.scalar (fin s k e)) tt P refl

pub negative-zero : (m : Arithmetic) → Rules m → (x y : Float) → T (fits binary32 x) → T (fits binary32 y) → NegativeZero x y (power m x y)
negative-zero m R x y X Y =
    let base : x ≡ minus_zero → power m x y ≡ power m minus_zero y = λ e. ap (λ (v : Float). power m v y) e in
    record {
      keeps = λ e F K. base e ∙ keeps m R y Y F K;
      loses = λ e P N. base e ∙ loses m R y Y P N;
      overflows = λ e P. base e ∙ overflows m y P;
    }
