pub mod free_index
pub mod saved_pages
