-- What is read of cells on the way?
use Rattle.std.specs.Prelude.{◌≡◌, ℕ, zero, suc, ◌==◌, if◌then◌else◌, List, [], ◌∷◌, Option, Some, None, Result, Ok, Err}
use Rattle.nt_bytes.specs.declared.fault.HiveFaultKind.{HiveFaultKind}
use Rattle.nt_bytes.specs.declared.fault.ReadStop.{ReadStop}
use Rattle.nt_bytes.specs.declared.fault.ReadStop.TheVariants as stops
use Rattle.nt_bytes.specs.Folding.{folds_same}
use Rattle.nt_bytes.specs.Reading.{◌>>=◌}
use Rattle.hive_model.specs.Forms.{bytes_in}
use Rattle.hive_model.specs.KeyNode.{KeyNode, key_node_at}
use Rattle.hive_model.specs.Size.{is_big}
use Rattle.hive_model.specs.Bins.{Cells}
use Rattle.hive_model.specs.Tree.{Tree, key, none, trees}
use Rattle.hive_model.specs.Walk.{reading, entries_at}
use Rattle.hive_model.specs.Stands.{tree_flags, big_bytes_at, class_of, security_of, values_of}
use Rattle.key_command.specs.hive_levels.Cut.{bare}

-- it stopped at a fault of what it read, or for lack of memory
abbrev pub Stops : {F : Type 0} → Result F HiveFaultKind → ReadStop → Type 0
Stops read stops.Memory = Unit {0}
Stops read (stops.Fault f) = read ≡ Err f.kind

-- it answered what it read, seen by view, or stopped
abbrev pub Answers : {X F : Type 0} → (X → F) → Result F HiveFaultKind → Result X ReadStop → Type 0
Answers view read (Ok x) = read ≡ Ok (view x)
Answers view read (Err e) = Stops read e

-- n bytes of data whose cell is at an offset
abbrev pub celled_bytes : Cells → ℕ → ℕ → Result (List ℕ) HiveFaultKind
celled_bytes cells n at = if is_big cells.version n then big_bytes_at cells n at else reading (bytes_in n) cells at

-- where the children of a node are
abbrev pub children_of : Cells → KeyNode → Result (List ℕ) HiveFaultKind
children_of cells node = if node.child_count == 0 then Ok [] else entries_at cells node.child_list

-- the key of a node with these children
abbrev pub key_of : Cells → KeyNode → List Tree → Result Tree HiveFaultKind
key_of cells node ts =
    class_of cells node >>= λ class. security_of cells node >>= λ security. values_of cells node >>= λ values.
    Ok (key (record {
      name = node.name;
      flags = tree_flags node.flags;
      stamp = node.stamp;
      class = class;
      security = security;
      values = values;
    }) (trees ts))

-- what is read at each of these offsets, in order
abbrev pub in_turn : {X : Type 0} → (ℕ → Result X HiveFaultKind) → List ℕ → Result (List X) HiveFaultKind
in_turn read [] = Ok []
in_turn read (at ∷ rest) = read at >>= λ x. in_turn read rest >>= λ xs. Ok (x ∷ xs)

-- the key of a node, its children as this reads them
abbrev pub below_node : (ℕ → Result Tree HiveFaultKind) → Cells → KeyNode → Result Tree HiveFaultKind
below_node read cells node = children_of cells node >>= in_turn read >>= key_of cells node

-- the first n levels of the key at an offset
abbrev pub cut_at : ℕ → Cells → ℕ → Result Tree HiveFaultKind
cut_at zero cells at = reading key_node_at cells at >>= λ node. Ok (key (bare node.name) none)
cut_at (suc n) cells at = reading key_node_at cells at >>= below_node (cut_at n cells) cells

-- the first of these offsets at which the key has this name
abbrev pub first_named : Cells → List ℕ → List ℕ → Result (Option ℕ) HiveFaultKind
first_named cells name [] = Ok None
first_named cells name (at ∷ rest) =
    reading key_node_at cells at >>= λ node. if folds_same name node.name then Ok (Some at) else first_named cells name rest

-- what is read at an offset, if there is one
abbrev pub place_at : {X : Type 0} → (ℕ → Result X HiveFaultKind) → Option ℕ → Result (List X) HiveFaultKind
place_at read None = Ok []
place_at read (Some at) = read at >>= λ x. Ok (x ∷ [])

-- the keys that a path leads along from the key at an offset, by their names, and n levels of the key at its end
abbrev pub along_at : List (List ℕ) → ℕ → Cells → ℕ → Result Tree HiveFaultKind
along_at [] n cells at = cut_at n cells at
along_at (name ∷ path) n cells at =
    reading key_node_at cells at >>= λ node. children_of cells node >>= first_named cells name >>= place_at (along_at path n cells) >>= λ ts.
    Ok (key (bare node.name) (trees ts))
