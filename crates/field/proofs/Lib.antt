pub mod Characters  -- what keeps a field rule holds only characters of the alphabet
pub mod Known  -- which two characters of a date are digits
