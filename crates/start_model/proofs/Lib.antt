pub mod HeldLemmas
