-- features of tag, length and value
pub mod Features
-- the signature zone
pub mod Signature
