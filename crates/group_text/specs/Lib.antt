-- a part of stage 6: the text of group 1
pub mod Text
