-- Lemmas, proved here, by which the backends show the rules: what a law cites has to stand in specs/.
-- No clause names one, and no definition beside this file rests on one.
pub mod Values
pub mod Unique
pub mod Alike
pub mod Zeros
pub mod Exact
pub mod Uses
pub mod Bounded
pub mod InUnits
pub mod ExponentTests
pub mod Away
pub mod ZeroProducts
pub mod FusedRule
pub mod FmaProducts
pub mod PairProducts
