pub mod Digits
pub mod Numerals
pub mod Numbers
pub mod IdTexts
pub mod KeyTexts
pub mod Cuts
pub mod Truths
