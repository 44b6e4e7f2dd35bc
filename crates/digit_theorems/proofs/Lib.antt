pub mod Joined  -- fields joined: `joined`, `after-threes`, `fillers-behind`, of any number of fields and of the written digit
pub mod Slips  -- which slips are found: `one_place`, `neighbours`
pub mod Pairs  -- the undetected pairs: `complete`, `rising`, `once`
pub mod Undetected  -- the lists have exactly the undetected slips: `lists-one-place`, `lists-neighbours`
pub mod Printed  -- the lists in characters, and how many pairs they have
