use Rattle.std.proofs.Common.{rules, ◌≡◌, ◌/◌, subst, sym, arith}
use Rattle.std.specs.Str.{IsUtf8}
use Rattle.text.specs.Hex.{places}
use Rattle.text.proofs.hex.Ascii.{text_hex8}
use Rattle.text.proofs.hex.hex8.Goals as goal

pub returns : goal.returns
unfolding places
returns c =
    let last : c.args.bits / 1 ≡ c.args.bits = omega arith in
    let digits : _ ≡ _ = search rules in
    record {
      digits = digits;
      text = subst IsUtf8 (sym digits) (text_hex8 c.args.bits);
    }
