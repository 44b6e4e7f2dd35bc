-- what is answered of a text says what was read
pub mod Answered
