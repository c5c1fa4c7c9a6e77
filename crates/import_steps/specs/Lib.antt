pub mod Current
pub mod Encoding
pub mod Left
pub mod Made
pub mod Marks
pub mod Verdict
pub mod Views
