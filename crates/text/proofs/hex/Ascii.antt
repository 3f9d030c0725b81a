-- The digits that a pattern is written with are ASCII, so they are text. Assumes nothing.
use Rattle.std.proofs.Common.{ℕ, zero, suc, ◌/◌, ◌%◌, ◌^◌, ◌<◌, arith}
use Rattle.std.proofs.lemmas.Bool.Decides.{nat_tests}
use Rattle.std.proofs.lemmas.List.Elements.{All-cons}
use Rattle.std.proofs.lemmas.Str.{IsUtf8-from_ascii}
use Rattle.std.proofs.lemmas.Str.Ascii.{IsAscii-from_all}
use Rattle.std.specs.List.{All}
use Rattle.std.specs.Str.{IsUtf8}
use Rattle.text.specs.Hex.{hexadecimal, places, hex8}

ascii : (d : ℕ) → d < 16 → hexadecimal d < 128
ascii d h = grind (arith, nat_tests)

ascii_places : (k n : ℕ) → All (λ b. b < 128) (places k n)
unfolding places
ascii_places zero n = λ i d h. absurd (omega arith)
ascii_places (suc k) n = All-cons (λ b. b < 128) _ _ (ascii (n / 16 ^ k % 16) (omega arith)) (ascii_places k n)

pub text_hex8 : (n : ℕ) → IsUtf8 (hex8 n)
text_hex8 n = IsUtf8-from_ascii (hex8 n) (IsAscii-from_all (hex8 n) (ascii_places 8 n))
