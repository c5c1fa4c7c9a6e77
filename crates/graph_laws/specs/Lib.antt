pub mod dot_laws
pub mod graph_laws
pub mod node_laws
