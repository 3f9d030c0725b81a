-- `float_round` of a number is the nearest whole number, halves away from zero. Assumes nothing.
use Rattle.std.specs.Prelude.{◌≡◌, ℕ, suc, ◌*◌, ◌^◌, ◌<◌, ◌≤◌, Bool, true, false, T, ℤ, pos, negsuc, refl, Float}
use Rattle.std.proofs.Common.{subst, arith, pow_pos}
use Rattle.std.proofs.Math.Nat.{div-le_of_le-mul}
use Rattle.std.specs.Float.Ieee.{up, down, round, fits}
use Rattle.std.specs.Float.Ieee.Fits.{round-fits}
use Rattle.std.specs.Float.Ieee.Exact.{HasValue}
use Rattle.std.specs.Float.Ieee.Back.{round_whole}
use Rattle.std.specs.Float.{ratio_round_half_up, round_with, float_round, nan, inf, fin, binary64}
use Rattle.power.specs.Rules.{Is, Number, sign, num, den}
use Rattle.power.specs.Lemmas.Values.{bounds, rounds, value→is}

whole-stays : (n : ℕ) → n ≡ ratio_round_half_up n 1
whole-stays n = omega arith

few-halves : (m d : ℕ) → 0 < d → m < 2 ^ 53 → ratio_round_half_up (m * 1) d ≤ 2 ^ 53
few-halves m d D h = div-le_of_le-mul (2 * d) (omega arith)

-- the nearest whole number is a value of f64
halves : (s : Bool) (m : ℕ) (e : ℤ) → T (fits binary64 (fin s m e)) → HasValue (round binary64 s (ratio_round_half_up (m * up e) (down e)) 1) s (ratio_round_half_up (m * up e) (down e)) 1
halves s m (pos k) t = subst (λ (n : ℕ). HasValue (round binary64 s n 1) s n 1) (whole-stays (m * 2 ^ k)) (rounds binary64 s s (m * 2 ^ k) 1 m (pos k) (omega arith) t refl)
halves s m (negsuc k) t = round_whole binary64 s (ratio_round_half_up (m * 1) (2 ^ suc k)) (few-halves m (2 ^ suc k) (pow_pos (suc k)) (bounds binary64 s m (negsuc k) t).few)

-- so `round` answers it
halves-is : (s : Bool) (m : ℕ) (e : ℤ) → T (fits binary64 (fin s m e)) → Is (round binary64 s (ratio_round_half_up (m * up e) (down e)) 1) s (ratio_round_half_up (m * up e) (down e)) 1
halves-is s m e t =
    let h = ratio_round_half_up (m * up e) (down e) in
    value→is (round binary64 s h 1) s h 1 (round-fits binary64 s h 1) (halves s m e t)

pub away : (x : Float) → Number x → Is (float_round binary64 x) (sign x) (ratio_round_half_up (num x) (den x)) 1
unfolding round_with
away nan N = absurd N
away (inf s) N = absurd N
away (fin true m e) N = halves-is true m e N
away (fin false m e) N = halves-is false m e N
