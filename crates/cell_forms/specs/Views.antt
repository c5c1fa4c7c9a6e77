-- The forms of the code as those of the book.
use Rattle.std.specs.Prelude.{ℕ, List}
use Rattle.hive_model.specs.StoredNames.{stored_name}
use Rattle.hive_model.specs.KeyNode.{KeyNode}
use Rattle.hive_model.specs.KeyValue.{KeyValue}
use Rattle.hive_model.specs.BigData.{BigData}
use Rattle.hive_model.specs.Security.{SecurityCell}
use Rattle.hive_model.specs.Lists.{SubkeyList, Li, Lf, Lh, Ri}
use Rattle.hive_model.specs.Lists.{ListKind as BookKind}
use Rattle.cell_forms.specs.declared.key_node.NkForm.{NkForm}
use Rattle.cell_forms.specs.declared.key_node.NkSlice.{NkSlice}
use Rattle.cell_forms.specs.declared.key_value.VkForm.{VkForm}
use Rattle.cell_forms.specs.declared.key_value.VkSlice.{VkSlice}
use Rattle.cell_forms.specs.declared.stored.StoredName.{StoredName}
use Rattle.cell_forms.specs.declared.security.SkForm.{SkForm}
use Rattle.cell_forms.specs.declared.big_data.DbForm.{DbForm}
use Rattle.cell_forms.specs.declared.lists.ListForm.{ListForm}
use Rattle.cell_forms.specs.declared.lists.ListKind.{ListKind}
use Rattle.cell_forms.specs.declared.lists.ListKind.TheVariants as kinds

-- the name that stands there
abbrev pub name_of : StoredName → List ℕ
name_of n = stored_name n.is_narrow n.bytes.now

abbrev pub key_node_of : NkForm → KeyNode
key_node_of f = record {
  flags = f.flags;
  stamp = f.stamp;
  parent = f.parent;
  child_count = f.child_count;
  volatile_count = f.volatile_count;
  child_list = f.child_list;
  volatile_list = f.volatile_list;
  value_count = f.value_count;
  value_list = f.value_list;
  security = f.security;
  class = f.class;
  greatest_child_name = f.greatest_child_name;
  greatest_child_class = f.greatest_child_class;
  greatest_value_name = f.greatest_value_name;
  greatest_value_size = f.greatest_value_size;
  class_length = f.class_length;
  name = f.name;
}

abbrev pub node_seen : NkSlice → KeyNode
node_seen s = record {
  flags = s.flags;
  stamp = s.stamp;
  parent = s.parent;
  child_count = s.child_count;
  volatile_count = s.volatile_count;
  child_list = s.child_list;
  volatile_list = s.volatile_list;
  value_count = s.value_count;
  value_list = s.value_list;
  security = s.security;
  class = s.class;
  greatest_child_name = s.greatest_child_name;
  greatest_child_class = s.greatest_child_class;
  greatest_value_name = s.greatest_value_name;
  greatest_value_size = s.greatest_value_size;
  class_length = s.class_length;
  name = name_of s.name;
}

abbrev pub key_value_of : VkForm → KeyValue
key_value_of f = record { size = f.size; offset = f.offset; kind = f.kind; flags = f.flags; name = f.name }

abbrev pub value_seen : VkSlice → KeyValue
value_seen s = record { size = s.size; offset = s.offset; kind = s.kind; flags = s.flags; name = name_of s.name }

abbrev pub big_data_of : DbForm → BigData
big_data_of f = record { segments = f.segments; list = f.list }

abbrev pub security_of : SkForm → SecurityCell
security_of f = record { forward = f.forward; backward = f.backward; uses = f.uses; descriptor = f.descriptor }

abbrev pub kind_of : ListKind → BookKind
kind_of kinds.Li = Li
kind_of kinds.Lf = Lf
kind_of kinds.Lh = Lh
kind_of kinds.Ri = Ri

abbrev pub subkey_list_of : ListForm → SubkeyList
subkey_list_of f = record { kind = kind_of f.kind; offsets = f.offsets }
