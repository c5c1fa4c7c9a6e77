-- What is found in a session's tree: the words of a hive as its cells. (This project's own.)
pub use Rattle.hive_edit.specs.Found.{found_names, FitsBelow}
pub use Rattle.hive_look.specs.Places.{found_dword}
