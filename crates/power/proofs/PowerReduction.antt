-- The first reduction of a power of two: the fraction is clear, the exponent is told, and dx is zero.
use Rattle.std.proofs.Common.{◌≡◌, ℕ, suc, ◌*◌, ◌/◌, ◌^◌, ◌<◌, ◌≤◌, Bool, true, false, ◌&&◌, T, eqb, replicate, ℤ, pos, negsuc, nat_abs, sym, refl, ap, subst, inr, arith, lit≤, eqb→eq, pow_pos}
use mathlib.Core.Bool.{beq}
use lib.Bits.{bit_and, bit_or}
use lib.Ieee as Ieee
use lib.Ieee.{Float, nan, inf, fin, binary32, binary64, up, down, fits}
use lib.Ieee.Fits.{and_l, and_r, sub-fits}
use Rattle.std.specs.Float.{float_one as unit}
use Rattle.power.specs.Backend.{Scalar}
use Rattle.power.specs.Rules.{ScalarRules, Is, Within, one}
use Rattle.power.specs.Lookup.{f64, range_reduction}
use Rattle.power.specs.Reduction as Reduction
use Rattle.power.specs.Reduction.{normalize, exponent, reduce, log_poly, negative_one}
use Rattle.power.specs.declared.reduction.Reduced.{Reduced}
use Rattle.power.specs.declared.reduction.Scaled.{Scaled}
use Rattle.pairs.proofs.Powers.{pow-le-inv, pow-lt-inv}
use Rattle.power.specs.Lemmas.Values.{bounds}
use Rattle.power.proofs.TableTest.{every, at}
use Rattle.power.specs.Lemmas.Alike.{IsZero, same-within}
use Rattle.power.proofs.Multiples.{negative}
use Rattle.power.specs.Lemmas.ZeroProducts.{fma-cancels}
use Rattle.power.proofs.ZeroPolynomials.{ranged-within, six-zero, f64-at-zero}

-- ---- the fraction and the exponent of 2^k, by one computed test

-- x = k
is_whole : Float → ℤ → Bool
is_whole nan k = false
is_whole (inf s) k = false
is_whole (fin s m e) k = eqb (m * up e * 1) (nat_abs k * down e) && beq s (negative k)

same_bool : (s t : Bool) → T (beq s t) → s ≡ t
same_bool true true h = refl
same_bool false false h = refl
same_bool true false h = absurd h
same_bool false true h = absurd h

whole_is : (x : Float) (k : ℤ) → T (fits binary64 x) → T (is_whole x k) → Is x (negative k) (nat_abs k) 1
unfolding is_whole
whole_is nan k t h = absurd h
whole_is (inf s) k t h = absurd h
whole_is (fin s m e) k t h =
    let a = eqb (m * up e * 1) (nat_abs k * down e) in
    let b = beq s (negative k) in
    (t, eqb→eq (m * up e * 1) (nat_abs k * down e) (and_l a b h), inr (same_bool s (negative k) (and_r a b h)))

tells : ℤ → Bool
unfolding is_whole normalize
tells k = let b = normalize (fin false 1 k) in eqb (bit_and b.bits 0x7f_ffff) 0 && is_whole (exponent b) k

all-positive : T (every (λ a b. tells (pos a)) 0 (replicate 128 0))
unfolding tells is_whole normalize Ieee.lt Ieee.mul Ieee.to_bits Ieee.of_bits Ieee.sub Ieee.of_int
all-positive = tt

all-negative : T (every (λ a b. tells (negsuc a)) 0 (replicate 149 0))
unfolding tells is_whole normalize Ieee.lt Ieee.mul Ieee.to_bits Ieee.of_bits Ieee.sub Ieee.of_int
all-negative = tt

-- the exponents of f32
in-range : (k : ℤ) → T (fits binary32 (fin false 1 k)) → nat_abs k ≤ 149
in-range (pos a) t = let h : 1 * 2 ^ a < 2 ^ 128 * 1 = (bounds binary32 false 1 (pos a) t).small in omega (arith, pow-lt-inv a 128 (omega (arith, h)))
in-range (negsuc a) t = pow-le-inv (suc a) 149 (bounds binary32 false 1 (negsuc a) t).fine

told : (k : ℤ) → T (fits binary32 (fin false 1 k)) → T (tells k)
told (pos a) t =
    let h : 1 * 2 ^ a < 2 ^ 128 * 1 = (bounds binary32 false 1 (pos a) t).small in
    at (λ a b. tells (pos a)) (replicate 128 0) all-positive a (pow-lt-inv a 128 (omega (arith, h)))
told (negsuc a) t = at (λ a b. tells (negsuc a)) (replicate 149 0) all-negative a (in-range (negsuc a) t)

-- ---- dx

-- 1 1 - 1
pub one-less-one : (m : Scalar) → ScalarRules m → IsZero (m.fma one one negative_one)
unfolding Ieee.of_bits Ieee.neg fits
one-less-one m K =
    let within : (s : Bool) (k : ℕ) → Within k (fin s 1 (pos 0)) = λ s k. (tt, inr (omega (arith, pow_pos k), omega (arith, pow_pos k))) in
    fma-cancels m.fma K.fma_exact unit unit (fin true 1 (pos 0)) 1 (within false 400) (within false 400) (within true 512) (lit≤ tt) refl (tt, refl, inr refl)

-- a significand of 1 is reduced to nothing
dx-zero : (m : Scalar) → ScalarRules m → (b : ℕ) → bit_and b 0x7f_ffff ≡ 0 → IsZero (Reduction.dx m b)
unfolding Reduction.dx range_reduction
dx-zero m K b e =
    subst (λ (t : ℕ). IsZero (m.fma (f64 (bit_or (t * 2 ^ 29) 0x3ff0_0000_0000_0000)) (range_reduction (t / 2 ^ 16)) negative_one)) (sym e) (one-less-one m K)

-- the polynomial is its first coefficient there
log-poly-zero : (m : Scalar) → ScalarRules m → (x : Float) → IsZero x → Within 400 (log_poly m x)
unfolding log_poly Ieee.of_bits fits
log-poly-zero m K x Z =
    same-within 400 (log_poly m x) (f64 0x3ff7_1547_652b_82fe) (six-zero (f64-at-zero m K) x _ _ _ _ _ _ Z tt tt tt tt tt tt) (ranged-within (f64 0x3ff7_1547_652b_82fe) tt)

-- ---- all of it

-- r is the reduction of 2^k
pub record At (k : ℤ) (r : Reduced) : Type 0 where
  pub index : r.index ≡ 0
  pub exponent : Is r.exponent (negative k) (nat_abs k) 1
  pub few : nat_abs k ≤ 149
  pub dx : IsZero r.dx
  pub p : Within 400 r.p

reduced : (m : Scalar) → ScalarRules m → (k : ℤ) (b : Scaled) → nat_abs k ≤ 149 → bit_and b.bits 0x7f_ffff ≡ 0 → T (is_whole (exponent b) k) → At k (reduce m b)
unfolding reduce
reduced m K k b h e w =
    let d = dx-zero m K b.bits e in
    record {
      index = ap (λ (t : ℕ). t / 2 ^ 16) e;
      exponent = whole_is (exponent b) k (sub-fits binary64 (Ieee.of_int binary64 (pos (bit_and (b.bits / 2 ^ 23) 0xff))) b.bias) w;
      few = h;
      dx = d;
      p = log-poly-zero m K (Reduction.dx m b.bits) d;
    }

pub power-reduced : (m : Scalar) → ScalarRules m → (k : ℤ) → T (fits binary32 (fin false 1 k)) → At k (reduce m (normalize (fin false 1 k)))
unfolding tells
power-reduced m K k t =
    let b = normalize (fin false 1 k) in
    let clear = eqb (bit_and b.bits 0x7f_ffff) 0 in
    let is = is_whole (exponent b) k in
    reduced m K k b (in-range k t) (eqb→eq (bit_and b.bits 0x7f_ffff) 0 (and_l clear is (told k t))) (and_r clear is (told k t))
