-- The power keeps to the standard's special cases. Assumes nothing.
use Rattle.std.proofs.Common.{◌≡◌, Bool, true, false, cond, not, T, pos, sym, refl, ap, ◌∙◌, subst, arith}
use mathlib.Core.Bool.{beq}
use lib.Dec.{not_T}
use lib.Ieee.{Float, nan, inf, fin, binary32, neg, lt, eq, fits, to_bits}
use lib.Ieee.Bits.{is_true, is_false}
use lib.Ieee.Fits.{inf-fits}
use Rattle.std.specs.Float.{float_zero, float_one, float_with_sign}
use Rattle.pairs.specs.Whole.{odd}
use Rattle.power.specs.Backend.{Arithmetic}
use Rattle.power.specs.Rules.{Rules, Zero}
use Rattle.power.specs.Special.{signed}
use Rattle.power.specs.SpecialCases.{Not, Finite, At1, Negative, Whole, Special}
use Rattle.power.specs.Powf.{power}
use Rattle.power.proofs.FloatTests as tests
use Rattle.power.proofs.FloatTests.{Side, Away1}
use Rattle.power.proofs.Branches as branches

-- an infinite exponent, by how the base compares with 1 in magnitude
infinite-exponent : (m : Arithmetic) (x : Float) (s a b : Bool) → T (fits binary32 x) → Not (x ≡ nan)
    → eq (float_with_sign false x) float_one ≡ a → lt float_one (float_with_sign false x) ≡ b → power m x (inf s) ≡ cond a float_one (cond (beq b (not s)) (inf false) float_zero)
infinite-exponent m x s a b X N p q =
    branches.at-infinite-exponent m x s X N ∙ branches.infinite-exponent-branch x (inf s) a b (not s) p q (unfold lt in refl)

at_one : (m : Arithmetic) (x : Float) (s : Bool) → T (fits binary32 x) → At1 x → power m x (inf s) ≡ float_one
at_one m x s X h = infinite-exponent m x s true (lt float_one (float_with_sign false x)) X (tests.not-nan At1 (λ z. z) x h) (tests.size-at-one x h) refl

agree : (b p s : Bool) → Side p (inf s) → beq b (not s) ≡ cond b p (not p)
agree true true s P = ap (λ (t : Bool). beq true (not t)) P
agree true false s P = ap (λ (t : Bool). beq true (not t)) P
agree false true s P = ap (λ (t : Bool). beq false (not t)) P
agree false false s P = ap (λ (t : Bool). beq false (not t)) P

-- ∞ for a base above 1 and a positive exponent, and for one below 1 and a negative exponent; else 0
away-from-one : (m : Arithmetic) (x : Float) (b p s : Bool) → T (fits binary32 x) → Away1 b x → Side p (inf s) → power m x (inf s) ≡ cond (cond b p (not p)) (inf false) float_zero
away-from-one m x b p s X h P =
    let t = tests.size-away b x h in
    infinite-exponent m x s false b X (tests.not-nan (Away1 b) (none b) x h) t.0 t.1 ∙ ap (λ (c : Bool). cond c (inf false) float_zero) (agree b p s P)
  where
    none : (b : Bool) → Not (Away1 b nan)
    none true h = h
    none false h = h

-- the base +∞
infinity : (m : Arithmetic) → Rules m → (p : Bool) (y : Float) → T (fits binary32 y) → Side p y → power m (inf false) y ≡ cond p (inf false) float_zero
infinity m R true nan Y P = absurd P
infinity m R false nan Y P = absurd P
infinity m R p (inf s) Y P = away-from-one m (inf false) true p s (inf-fits binary32 false) tt P
infinity m R p (fin s k e) Y P =
    let y = fin s k e in
    branches.at-infinite-base m R false y Y tt (tests.not-zero p y P) ∙ ap (λ (b : Bool). cond b (inf false) float_zero) (tests.zero-lt p y P)

-- the base -∞, by the exponent's parity and sign
minus-infinity : (m : Arithmetic) → Rules m → (p o : Bool) (y : Float) → T (fits binary32 y) → Finite y → Side p y → odd y ≡ o → power m (inf true) y ≡ signed o (cond p (inf false) float_zero)
minus-infinity m R p o y Y F P h = branches.at-infinite-base m R true y Y F (tests.not-zero p y P) ∙ (λ i. signed (h i) (cond (tests.zero-lt p y P i) (inf false) float_zero))

-- a zero base and an infinite exponent
pub zero-infinite : (m : Arithmetic) (t p s : Bool) → Side p (inf s) → power m (fin t 0 (pos 0)) (inf s) ≡ cond (not p) (inf false) float_zero
unfolding fits
zero-infinite m t p s P = away-from-one m (fin t 0 (pos 0)) false p s tt (omega arith) P

-- the base +0
plus-zero : (m : Arithmetic) (p : Bool) (y : Float) → Side p y → power m float_zero y ≡ cond (not p) (inf false) float_zero
unfolding to_bits
plus-zero m true nan P = absurd P
plus-zero m false nan P = absurd P
plus-zero m p (inf s) P = zero-infinite m false p s P
plus-zero m p (fin s k e) P = branches.at-zero-base m float_zero (fin s k e) p false refl tt tt P refl

-- a negative base and a fractional exponent
fractional : (m : Arithmetic) → Rules m → (x y : Float) → T (fits binary32 x) → T (fits binary32 y) → Finite x → Negative x → Finite y → Not (Whole y) → power m x y ≡ nan
fractional m R x y X Y F P G W =
    let N : Not (Zero y) = λ z. W (subst T (sym (tests.zero-whole y z).0) tt) in
    branches.at-ordinary m x y F (tests.not-zero false x P) (tests.negative-not-one x X P) G N
    ∙ branches.ordinary-fractional m R x y P (branches.exponent y Y G N) W

-- ---- the standard, line by line

pub special : (m : Arithmetic) → Rules m → (x y : Float) → T (fits binary32 x) → T (fits binary32 y) → Special x y (power m x y)
unfolding neg
special m R x y X Y =
    let base : (v : Float) → x ≡ v → power m x y ≡ power m v y = λ v e. ap (λ (u : Float). power m u y) e in
    let raised : (v : Float) → y ≡ v → power m x y ≡ power m x v = λ v e. ap (λ (u : Float). power m x u) e in
    record {
      zero_exponent = branches.at-zero-exponent m x y;
      unit_base = branches.at-unit-base m x y;
      nan_base = λ e N. base nan e ∙ branches.at-nan-base m y N;
      nan_exponent = λ e N. raised nan e ∙ branches.at-nan-exponent m x X N;
      infinite_at_one = λ s e h. raised (inf s) e ∙ at_one m x s X h;
      plus_infinity_below = λ e h. raised (inf false) e ∙ away-from-one m x false true false X h refl;
      plus_infinity_above = λ e h. raised (inf false) e ∙ away-from-one m x true true false X h refl;
      minus_infinity_below = λ e h. raised (inf true) e ∙ away-from-one m x false false true X h refl;
      minus_infinity_above = λ e h. raised (inf true) e ∙ away-from-one m x true false true X h refl;
      infinity_up = λ e P. base (inf false) e ∙ infinity m R true y Y P;
      infinity_down = λ e P. base (inf false) e ∙ infinity m R false y Y P;
      minus_infinity_odd_up = λ e F P O. base (inf true) e ∙ minus-infinity m R true true y Y F P (is_true (odd y) O);
      minus_infinity_up = λ e F P O. base (inf true) e ∙ minus-infinity m R true false y Y F P (is_false (odd y) (not_T (odd y) O));
      minus_infinity_odd_down = λ e F P O. base (inf true) e ∙ minus-infinity m R false true y Y F P (is_true (odd y) O);
      minus_infinity_down = λ e F P O. base (inf true) e ∙ minus-infinity m R false false y Y F P (is_false (odd y) (not_T (odd y) O));
      fractional = fractional m R x y X Y;
      zero_up = λ e P. base float_zero e ∙ plus-zero m true y P;
      zero_down = λ e P. base float_zero e ∙ plus-zero m false y P;
    }
