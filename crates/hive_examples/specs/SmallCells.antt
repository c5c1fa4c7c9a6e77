-- Cells of a few keys, for the walk and for the forms.
use Rattle.std.specs.Prelude.{ℕ, ◌+◌, ◌%◌, ◌==◌, if◌then◌else◌, false, List, [], ◌∷◌, codes, replicate, Option, Ok, Err}
use Rattle.nt_bytes.specs.declared.version.HiveVersion.{HiveVersion}
use Rattle.nt_bytes.specs.declared.fault.HiveFault.{HiveFault}
use Rattle.nt_bytes.specs.declared.fault.HiveFaultKind.TheVariants.{OutOfRange}
use Rattle.hive_model.specs.Bins.{Bin, Cells}
use Rattle.hive_model.specs.KeyNode.{KeyNode, key_node_text}
use Rattle.hive_model.specs.KeyValue.{KeyValue}
use Rattle.hive_model.specs.BigData.{big_data_text}
use Rattle.hive_model.specs.Security.{SecurityCell, security_text}
use Rattle.hive_model.specs.Lists.{offsets_text, li_text, lf_text}
use Rattle.hive_model.specs.Packed.{allocated_cell}
use Rattle.hive_model.specs.Walk.{nowhere, data_checks, first_among}

-- a key node with these flags and this name, with that many children in the list at an offset, and nothing else
abbrev pub plain_node : ℕ → List ℕ → ℕ → ℕ → KeyNode
plain_node flags name child_count child_list = record {
  flags = flags;
  stamp = 0;
  parent = nowhere;
  child_count = child_count;
  volatile_count = 0;
  child_list = child_list;
  volatile_list = nowhere;
  value_count = 0;
  value_list = nowhere;
  security = nowhere;
  class = nowhere;
  greatest_child_name = 0;
  greatest_child_class = 0;
  greatest_value_name = 0;
  greatest_value_size = 0;
  class_length = 0;
  name = name;
}

-- a value of type 4 that says this size, with a name of one byte a unit
abbrev pub plain_value : ℕ → List ℕ → KeyValue
plain_value size name = record { size = size; offset = 0; kind = 4; flags = 1; name = name }

-- a descriptor that one key uses, alone in its ring
abbrev pub plain_security : List ℕ → SecurityCell
plain_security descriptor = record { forward = 32; backward = 32; uses = 1; descriptor = descriptor }

-- One bin. At 32 a root `R` that says that it has that many children; at 120 its list, which names these two offsets; at 144
-- a key `A`; at 232 a key of this name, of one unit; at 320 a free cell.
unfoldable pub family : ℕ → ℕ → ℕ → List ℕ → List Bin
family child_count first second name = record {
  ignored = replicate 20 0;
  cells =
      allocated_cell (key_node_text (plain_node 32 (codes "R") child_count 120))
      ∷ allocated_cell (lf_text (first ∷ second ∷ []) ((0 ∷ 0 ∷ 0 ∷ 0 ∷ []) ∷ (0 ∷ 0 ∷ 0 ∷ 0 ∷ []) ∷ []))
      ∷ allocated_cell (key_node_text (plain_node 32 (codes "A") 0 nowhere))
      ∷ allocated_cell (key_node_text (plain_node 32 name 0 nowhere))
      ∷ record { allocated = false; payload = replicate 3772 0 }
      ∷ [];
} ∷ []

-- One bin. At 32 a root `R` with a descriptor at this offset; at 120 its list; at 136 a child `A` with a descriptor, and a class
-- of two bytes, at these offsets; at 224 a security cell with this count; at 256 a cell of bytes; at 272 a free cell.
unfoldable pub kin_used : ℕ → ℕ → ℕ → ℕ → List Bin
kin_used uses root_security security class = record {
  ignored = replicate 20 0;
  cells =
      allocated_cell (key_node_text (record (plain_node 32 (codes "R") 1 120) { security = root_security }))
      ∷ allocated_cell (li_text (136 ∷ []))
      ∷ allocated_cell (key_node_text (record (plain_node 32 (codes "A") 0 nowhere) { security = security; class = class; class_length = 2 }))
      ∷ allocated_cell (security_text (record (plain_security (1 ∷ 2 ∷ [])) { uses = uses }))
      ∷ allocated_cell (0x41 ∷ 0 ∷ [])
      ∷ record { allocated = false; payload = replicate 3820 0 }
      ∷ [];
} ∷ []

-- the same where the count is one
abbrev pub kin : ℕ → ℕ → ℕ → List Bin
kin root_security security class = kin_used 1 root_security security class

-- cells without end: at each place of a step of 16 a key `K`, whose list stands 8 further and names the next place
unfoldable pub endless : HiveVersion → Cells
endless version = record {
  version = version;
  payload = λ at. Ok (if at % 16 == 0 then key_node_text (plain_node 32 (codes "K") 1 (at + 8)) else li_text ((at + 8) ∷ []));
}

-- a value of 16,345 bytes, whose data are at 0
abbrev pub long_value : KeyValue
long_value = record { size = 16345; offset = 0; kind = 3; flags = 1; name = [] }

-- At 0 a cell of big data that says this number of segments; at 16 their list, which names these; at 32 and at 48 cells with these
-- bytes; no other cell.
abbrev pub segmented : HiveVersion → ℕ → List ℕ → List ℕ → List ℕ → Cells
segmented version number offsets one two = record {
  version = version;
  payload = λ at.
      if at == 0 then Ok (big_data_text (record { segments = number; list = 16 }))
      else if at == 16 then Ok (offsets_text offsets)
      else if at == 32 then Ok one
      else if at == 48 then Ok two
      else Err OutOfRange;
}

-- the first fault of that value's data in cells
abbrev pub data_fault : Cells → Option HiveFault
data_fault cells = first_among cells [] (data_checks cells long_value)
