-- the walk over the features: any number of steps that is enough gives the same
pub mod FeaturesPassed
-- no two answers are told alike (`features_tell`)
pub mod Told
