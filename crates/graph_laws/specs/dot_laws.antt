pub mod Texts
pub mod Tokens
pub mod Statements
pub mod Drawings
pub mod Forms
