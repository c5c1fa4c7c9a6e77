pub mod Called
pub mod Alike
pub mod Backwards
pub mod Parted
