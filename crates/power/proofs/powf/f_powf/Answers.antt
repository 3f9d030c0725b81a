use Rattle.std.proofs.Common.{◌≡◌, T, sym, ◌∙◌, subst}
use lib.Ieee.{Float, binary32, fits, neg}
use Rattle.power.specs.SpecialCases.{Special, NegativeZero}
use Rattle.power.specs.Opposites.{Opposite}
use Rattle.power.specs.Powf.{power}
use Rattle.power.proofs.Standard.{special}
use Rattle.power.proofs.NegativeZeros.{negative-zero}
use Rattle.power.proofs.ExactPowers.{exact}
use Rattle.power.proofs.Turning.{opposite}
use Rattle.power.proofs.powf.f_powf.Goals as goal

pub returns : goal.returns
returns g c =
    let b = c.args.backend.now in
    let m = g.B.PowfBackend.meaning b in
    let R = g.met.B.PowfBackend.rules b in
    let x = c.args.x in
    let y = c.args.y in
    let X : T (fits binary32 x) = subst T (sym c.well_formed.0.1) tt in
    let Y : T (fits binary32 y) = subst T (sym c.well_formed.1.0.1) tt in
    let value : c.powf_gen.result ≡ power m x y = c.powf_gen.ensures in
    record {
      value = value;
      special = subst (λ (r : Float). Special x y r) (sym value) (special m R x y X Y);
      negative_zero = subst (λ (r : Float). NegativeZero x y r) (sym value) (negative-zero m R x y X Y);
      exact = λ e. value ∙ exact m R x y X Y e;
      opposite = subst (λ (r : Float). Opposite x y r (power m (neg x) y)) (sym value) (opposite m R x y X Y);
    }
