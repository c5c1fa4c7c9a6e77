pub mod AsTold
pub mod Options
