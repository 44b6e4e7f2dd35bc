-- demand 2: what it is to be a presentation, said with encoders
pub mod Presented
-- where a presentation's text stands, and that the digit of a refusal 9 is that text's
pub mod Expected
-- the first failing check: the checks of EF.COM, a row for each sentence that can refuse
pub mod EfComChecks
-- those of the security object
pub mod ObjectChecks
-- those of the whole presentation
pub mod PresentationChecks
