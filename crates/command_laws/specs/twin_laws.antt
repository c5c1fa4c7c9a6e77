pub mod AsTold
