pub mod Sets
pub mod Trees
