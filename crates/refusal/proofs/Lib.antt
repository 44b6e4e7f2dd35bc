-- `or_else`: what stands in what order decides
pub mod Outcomes
-- why and where tell the refusal (`why-tells`, `outcome-tells`, `length-tells`)
pub mod Numbers
-- what every refusal of checks in their order has (`Each`)
pub mod Each
-- what a call that writes answers and leaves (`write-answers`)
pub mod Output
-- the numbers of a call: one that tells more (`tells-within`), one that it does not tell (`never-told`)
pub mod Calls
