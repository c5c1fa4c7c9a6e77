pub mod Makes
pub mod Places
pub mod Rising
pub mod Order
pub mod Change
pub mod Fitting
