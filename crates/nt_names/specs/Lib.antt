pub mod name_places
pub mod startup_names
pub mod written_name
