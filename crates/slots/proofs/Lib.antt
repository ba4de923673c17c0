pub mod Seeking
pub mod Moving
pub mod Shifting
