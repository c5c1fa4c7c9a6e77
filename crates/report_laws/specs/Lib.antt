pub mod key_laws
pub mod report_json_laws
pub mod command_json_laws
