pub mod Answer
pub mod RunTexts
pub mod Texts
