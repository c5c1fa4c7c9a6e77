pub mod Written
pub mod OneSet
pub mod TwoSets
pub mod Taken
pub mod Next
pub mod Fronts
pub mod Changes
pub mod Listed
