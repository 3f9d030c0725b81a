-- What narrowing does to a pattern without its sign.
use Rattle.std.specs.Prelude.{◌≡◌, ℕ, ◌+◌, ◌*◌, ◌≤◌, Bool, cond, from_bits}
use Rattle.std.specs.Float.Ieee.{hid, ones, top}
use Rattle.std.specs.Float.{round_to_format, binary32, binary64}

-- r is the pattern of the f32 that is nearest to the f64 of pattern b, and so with either sign
pub record Narrowed (b r : ℕ) : Type 0 where
  pub bound : r ≤ ones binary32 * hid binary32
  pub nearest : (s : Bool) → from_bits binary32 (cond s (top binary32) 0 + r) ≡ round_to_format binary32 (from_bits binary64 (cond s (top binary64) 0 + b))
