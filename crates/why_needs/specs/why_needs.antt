pub mod Met
pub mod Lacking
pub mod Ready
pub mod Members
