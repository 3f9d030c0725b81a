-- The root of an even power of two is the power of half the exponent. Assumes nothing.
use Rattle.std.proofs.Common.{◌≡◌, ℕ, suc, ◌+◌, ◌-◌, ◌*◌, ◌/◌, ◌^◌, ◌<◌, ◌≤◌, false, T, ℤ, pos, negsuc, ◌+ℤ◌, sym, refl, ap, ◌∙◌, subst, one-mul, mul-one, div-one, mul-div_cancel, arith, pow_pos, pow-add}
use lib.Ieee.{fin, binary32, up, down, round, fits}
use lib.Ieee.Scale.{round_same}
use lib.Ieee.{root_twice, sqrt}
use Rattle.pairs.proofs.root.Laws.{twice-square}
use Rattle.pairs.proofs.Powers.{pow-le-inv}
use Rattle.power.specs.Lemmas.Values.{bounds}

-- where n is the square of 2^h, and 2^(h + 1) / 2^2272 is a / b
halved : (n h a b : ℕ) → 0 < b → n ≡ 2 ^ h * 2 ^ h → 2 * 2 ^ h * b ≡ a * 2 ^ 2272 → round binary32 false (root_twice n) (2 ^ 2272) ≡ round binary32 false a b
halved n h a b B e s =
    ap (λ (x : ℕ). round binary32 false (root_twice x) (2 ^ 2272)) e ∙ ap (λ (x : ℕ). round binary32 false x (2 ^ 2272)) (twice-square (2 ^ h))
    ∙ round_same binary32 false (2 * 2 ^ h) (2 ^ 2272) a b (pow_pos 2272) B s

-- 2^(2 i), taken to 4542 binary places
square-up : (i p q : ℕ) → q ≡ p + p → 1 * 2 ^ (i + i) * 2 ^ q / 1 ≡ 2 ^ (i + p) * 2 ^ (i + p)
square-up i p q e =
    div-one (1 * 2 ^ (i + i) * 2 ^ q) ∙ ap (λ (x : ℕ). x * 2 ^ q) (one-mul (2 ^ (i + i))) ∙ sym (pow-add 2 (i + i) q)
    ∙ ap (λ (x : ℕ). 2 ^ x) {x = i + i + q} {y = i + p + (i + p)} (omega arith) ∙ pow-add 2 (i + p) (i + p)

value-up : (i p q : ℕ) → q ≡ suc p → 2 * 2 ^ (i + p) * 1 ≡ 1 * 2 ^ i * 2 ^ q
value-up i p q e =
    mul-one (2 * 2 ^ (i + p)) ∙ sym (pow-add 2 1 (i + p)) ∙ ap (λ (x : ℕ). 2 ^ x) {x = 1 + (i + p)} {y = i + q} (omega arith) ∙ pow-add 2 i q
    ∙ ap (λ (x : ℕ). x * 2 ^ q) (sym (one-mul (2 ^ i)))

-- and 2^-(2 i)
square-down : (i p q : ℕ) → q ≡ p + p → i ≤ p → 1 * 1 * 2 ^ q / 2 ^ (i + i) ≡ 2 ^ (p - i) * 2 ^ (p - i)
square-down i p q e h =
    ap (λ (x : ℕ). x / 2 ^ (i + i)) (one-mul (2 ^ q) ∙ ap (λ (x : ℕ). 2 ^ x) {x = q} {y = p - i + (p - i) + (i + i)} (omega arith) ∙ pow-add 2 (p - i + (p - i)) (i + i))
    ∙ mul-div_cancel (2 ^ (p - i + (p - i))) (pow_pos (i + i)) ∙ pow-add 2 (p - i) (p - i)

value-down : (i p q : ℕ) → q ≡ suc p → i ≤ p → 2 * 2 ^ (p - i) * 2 ^ i ≡ 1 * 1 * 2 ^ q
value-down i p q e h =
    ap (λ (x : ℕ). x * 2 ^ i) (sym (pow-add 2 1 (p - i))) ∙ sym (pow-add 2 (1 + (p - i)) i) ∙ ap (λ (x : ℕ). 2 ^ x) {x = 1 + (p - i) + i} {y = q} (omega arith)
    ∙ sym (one-mul (2 ^ q))

few : (i : ℕ) → i + i ≤ 149 → i ≤ 2271
few i h = omega arith

twice : (j : ℤ) → T (fits binary32 (fin false 1 (j +ℤ j))) → sqrt binary32 (fin false 1 (j +ℤ j)) ≡ round binary32 false (1 * up j) (down j)
unfolding sqrt
twice (pos i) t = halved (1 * 2 ^ (i + i) * 2 ^ 4542 / 1) (i + 2271) (1 * 2 ^ i) 1 (omega arith) (square-up i 2271 4542 refl) (value-up i 2271 2272 refl)
twice (negsuc b) t =
    let i = suc b in
    let e : suc (suc (b + b)) ≡ i + i = omega arith in
    let h : i ≤ 2271 = few i (subst (λ (x : ℕ). x ≤ 149) e (pow-le-inv (suc (suc (b + b))) 149 (bounds binary32 false 1 (negsuc (suc (b + b))) t).fine)) in
    ap (λ (x : ℕ). round binary32 false (root_twice (1 * 1 * 2 ^ 4542 / 2 ^ x)) (2 ^ 2272)) e
    ∙ halved (1 * 1 * 2 ^ 4542 / 2 ^ (i + i)) (2271 - i) (1 * 1) (2 ^ i) (pow_pos i) (square-down i 2271 4542 refl h) (value-down i 2271 2272 refl h)

pub root-exact : (k j : ℤ) → T (fits binary32 (fin false 1 k)) → k ≡ j +ℤ j → sqrt binary32 (fin false 1 k) ≡ round binary32 false (1 * up j) (down j)
root-exact k j t e = ap (λ (x : ℤ). sqrt binary32 (fin false 1 x)) e ∙ twice j (subst (λ (x : ℤ). T (fits binary32 (fin false 1 x))) e t)
