-- whether EF.COM and the security object agree
pub mod Versions
-- stage 5: each group file
pub mod Files
-- all stages, and the file of a group
pub mod Presentation
-- no words of the paper: what the code answers on its way
pub mod Inner
