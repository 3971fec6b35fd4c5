pub mod Num
pub mod Sign
pub mod Numeral
pub mod NumberText
pub mod Place
pub mod Arithmetic
