pub mod Asks
pub mod Changed
pub mod Committed
pub mod Exported
pub mod Exports
pub mod ImportLines
pub mod Imported
pub mod Imports
