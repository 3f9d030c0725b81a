pub mod Decimal
pub mod Digits
pub mod Filter
pub mod Float
pub mod Hex
pub mod Input
pub mod Pieces
