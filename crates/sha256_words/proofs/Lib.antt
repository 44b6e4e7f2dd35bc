-- bitwise formulas that agree on single bits; Ch and Maj
pub mod BitLaws
-- rotations of words of any width
pub mod RotationLaws
