-- What the functions under the square root answer.
use Rattle.std.specs.Prelude.{ℕ, ◌+◌, ◌*◌, ◌^◌, ◌<◌, ◌≤◌, false, from_bits}
use Rattle.std.specs.Float.{binary32}
use Rattle.std.specs.Float.Ieee.Exact.{HasValue}

-- the f32 of pattern b is m 2^(k - 172), and m has 24 binary digits
pub record Parts (b m k : ℕ) : Type 0 where
  pub from : 2 ^ 23 ≤ m
  pub upto : m < 2 ^ 24
  pub exponent : k < 277
  pub value : HasValue (from_bits binary32 b) false (m * 2 ^ k) (2 ^ 172)

-- q is less than 1/2 off the root of n: (q - 1/2)^2 < n < (q + 1/2)^2
pub record NearestRoot (n q : ℕ) : Type 0 where
  pub above : q * q < n + q
  pub below : n ≤ q * q + q
