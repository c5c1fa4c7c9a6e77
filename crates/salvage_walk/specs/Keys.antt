-- The walk from the root: the tree that is salvaged, and a line for each fault (this project's own).
use Rattle.std.specs.Prelude.{ℕ, zero, suc, ◌+◌, ◌/◌, ◌%◌, ◌==◌, Bool, true, false, if◌then◌else◌, List, [], ◌∷◌, ◌++◌, map, Option, Some, None, Result, Ok, Err}
use Rattle.nt_bytes.specs.declared.fault.HiveFaultKind.{HiveFaultKind}
use Rattle.nt_bytes.specs.declared.fault.HiveFaultKind.TheVariants.{TooDeep}
use Rattle.nt_bytes.specs.declared.fault.HiveFault.{HiveFault}
use Rattle.hive_model.specs.Base.{fault_at}
use Rattle.hive_model.specs.KeyNode.{KeyNode, key_node_at}
use Rattle.hive_model.specs.Stands.{tree_flags}
use Rattle.hive_model.specs.Tree.{Item, Head, Tree, key, trees, head}
use Rattle.hive_model.specs.Walk.{reading}
use Rattle.salvage_bins.specs.Ground.{Ground}
use Rattle.salvage_walk.specs.declared.claims.Claim.{Claim}
use Rattle.salvage_walk.specs.declared.lines.WalkLine.{WalkLine}
use Rattle.salvage_walk.specs.declared.lines.WalkLine.TheVariants as lines
use Rattle.salvage_walk.specs.Parts.{part, node_form, node_long}
use Rattle.salvage_walk.specs.Walked.{Walked, say, using}
use Rattle.salvage_walk.specs.Steps.{class_step, security_step, values_step, entries_step}

-- how a child is judged: under a key with this descriptor, at this path, beside children of these names, the Ith, at an offset
abbrev pub Judge : Type 0
Judge = List ℕ → List (List ℕ) → List (List ℕ) → ℕ → ℕ → Walked → Option Tree × Walked

-- the line of a child with this fault, the Ith that is read of the key at a path
abbrev pub key_line : List (List ℕ) → ℕ → HiveFault → Result KeyNode HiveFaultKind → WalkLine
key_line path i fault (Ok node) = lines.Key fault (path ++ node.name ∷ [])
key_line path i fault (Err kind) = lines.KeyAt fault i path

abbrev pub key_names : List Tree → List (List ℕ)
key_names keys = map (λ t. (head t).name) keys

abbrev pub with_child : List Tree → Option Tree × Walked → List Tree × Walked
with_child keys (Some t, w) = (keys ++ t ∷ [], w)
with_child keys (None, w) = (keys, w)

-- these children and those at these offsets, of which the first is the Ith
unfoldable pub keys_next : Judge → List ℕ → List (List ℕ) → ℕ → List ℕ → List Tree → Walked → List Tree × Walked
keys_next judge above path i [] keys w = (keys, w)
keys_next judge above path i (at ∷ more) keys w =
    let next = with_child keys (judge above path (key_names keys) i at w) in keys_next judge above path (i + 1) more next.0 next.1

-- what a key has but its children
abbrev pub head_of : KeyNode → List ℕ → List ℕ → List Item → Head
head_of node class security values = record {
  name = node.name;
  flags = tree_flags node.flags;
  stamp = node.stamp;
  class = class;
  security = security;
  values = values;
}

-- the key of a node at an offset, under a key with this descriptor, itself at this path, with all below it
unfoldable pub key_below : Judge → Ground → List ℕ → List (List ℕ) → KeyNode → ℕ → Walked → Tree × Walked
key_below judge hive above path node at w =
    let class = class_step hive path node w in
    let security = security_step hive above path node class.1 in
    let values = values_step hive path node security.1 in
    let entries = entries_step hive path node at values.1 in
    let children = keys_next judge security.0 path 1 entries.0 [] entries.1 in
    (key (head_of node class.0 security.0 values.0) (trees children.0), children.1)

abbrev pub found_key : Tree × Walked → Option Tree × Walked
found_key t = (Some t.0, t.1)

abbrev pub key_done : Judge → Ground → List ℕ → List (List ℕ) → ℕ → ℕ → Walked → Result (KeyNode × List Claim) HiveFaultKind → Option Tree × Walked
key_done judge hive above path i at w (Ok r) = found_key (key_below judge hive above (path ++ r.0.name ∷ []) r.0 at (using w r.1))
key_done judge hive above path i at w (Err kind) = (None, say w (key_line path i (fault_at kind at) (reading key_node_at hive.cells at)))

-- a child with all below it, where that many levels are left; or none, and its fault
unfoldable pub judged_key : ℕ → Ground → Judge
judged_key zero hive above path names i at w = (None, say w (key_line path i (fault_at TooDeep at) (reading key_node_at hive.cells at)))
judged_key (suc left) hive above path names i at w =
    key_done (judged_key left hive) hive above path i at w (part (node_form false names) node_long false hive w.claims at)

-- ---- the root

-- the flag 0x0004, which a root has
abbrev pub has_root_flag : Result KeyNode HiveFaultKind → Bool
has_root_flag (Ok node) = node.flags / 4 % 2 == 1
has_root_flag (Err kind) = false

-- of that many places of eight bytes from here on, the first where an allocated cell begins that has the form of a root
unfoldable pub least_root : Ground → ℕ → ℕ → Option ℕ
least_root hive zero at = None
least_root hive (suc n) at = if has_root_flag (reading key_node_at hive.cells at) then Some at else least_root hive n (at + 8)

-- the root of a node, at an offset, with all below it
abbrev pub root_below : Ground → ℕ → Walked → KeyNode × List Claim → Option Tree × Walked
root_below hive at w r = found_key (key_below (judged_key 511 hive) hive [] [] r.0 at (using w r.1))

-- the root at an offset, where it has the form of one, which it has
abbrev pub other_done : Ground → ℕ → Walked → Result (KeyNode × List Claim) HiveFaultKind → Option Tree × Walked
other_done hive at w (Ok r) = root_below hive at (say w (lines.RootAt at)) r
other_done hive at w (Err kind) = (None, say w lines.NoRoot)

-- the cell at an offset as that of the root
abbrev pub root_part : Ground → List Claim → ℕ → Result (KeyNode × List Claim) HiveFaultKind
root_part hive claims at = part (node_form true []) node_long false hive claims at

-- the root at an offset, with all below it, in place of another
abbrev pub other_at : Ground → ℕ → Walked → Option Tree × Walked
other_at hive at w = other_done hive at w (root_part hive w.claims at)

abbrev pub other_root : Ground → Walked → Option ℕ → Option Tree × Walked
other_root hive w (Some at) = other_at hive at w
other_root hive w None = (None, say w lines.NoRoot)

abbrev pub root_done : Ground → ℕ → Walked → Result (KeyNode × List Claim) HiveFaultKind → Option Tree × Walked
root_done hive at w (Ok r) = root_below hive at w r
root_done hive at w (Err kind) = other_root hive (say w (lines.Root (fault_at kind at))) (least_root hive hive.slots 0)

-- the tree at a root, or at another where there is none, after what was used and said
abbrev pub walked_from : Ground → ℕ → Walked → Option Tree × Walked
walked_from hive root w = root_done hive root w (root_part hive w.claims root)

-- the tree at a root, or at another where there is none, and what is used and said
unfoldable pub salvaged : Ground → ℕ → Option Tree × Walked
salvaged hive root = walked_from hive root (record { claims = []; lines = [] })

-- the tree and the lines
abbrev pub answer_of : Option Tree × Walked → Option Tree × List WalkLine
answer_of s = (s.0, s.1.lines)
