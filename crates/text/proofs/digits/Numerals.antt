-- How large the number is that digits write. Assumes nothing.
use Rattle.std.proofs.Common.{ℕ, ◌+◌, ◌*◌, ◌^◌, ◌<◌, ◌≤◌, le_trans, mul-le-mul_right, pow-suc, add-one, arith}
use native.Mathlib.Nat.{pow-le-pow_right}

-- after fewer digits than fit 32 bits there is room for one more
pub room : (base most n i : ℕ) → 0 < base → base ^ most ≤ 2 ^ 32 → n < base ^ i → i < most → n * base + base ≤ 2 ^ 32
room base most n i some fits h l =
    let more : n * base + base ≤ base ^ (i + 1) = rw (add-one i, pow-suc base i) (omega (arith, mul-le-mul_right base h)) in
    le_trans more (le_trans (pow-le-pow_right some (omega arith)) fits)
