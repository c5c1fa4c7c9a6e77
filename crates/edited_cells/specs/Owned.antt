-- Which cell belongs to which key: the book's words for it, and which of them are of security.
pub use Rattle.hive_model.specs.Owned.{Role, node, class, security, value_list, value, lists, In, first_or_empty, node_name, value_name}
unfoldable pub use Rattle.hive_model.specs.Owned.{value_places, value_list_at, class_cell_at}
pub use Rattle.hive_model.specs.Owned.{HasValue, HasRole, Reaches, Owns, Folds, Extends, Matches, IsMatched}

-- it is a security descriptor
abbrev pub IsSecurity : Role → Type 0
IsSecurity node = ⊥
IsSecurity class = ⊥
IsSecurity security = Unit {0}
IsSecurity value_list = ⊥
IsSecurity (value n) = ⊥
IsSecurity lists = ⊥
