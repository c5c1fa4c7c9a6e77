-- What of a key but its children is salvaged, and what is reported of the rest (this project's own).
use Rattle.std.specs.Prelude.{ℕ, ◌+◌, ◌==◌, ◌&&◌, Bool, true, false, not, if◌then◌else◌, List, [], ◌∷◌, ◌++◌, map, length, Result, Ok, Err}
use Rattle.nt_bytes.specs.declared.fault.HiveFaultKind.{HiveFaultKind}
use Rattle.nt_bytes.specs.declared.fault.HiveFaultKind.TheVariants.{FormShort}
use Rattle.nt_bytes.specs.declared.fault.HiveFault.{HiveFault}
use Rattle.hive_model.specs.Base.{fault_at}
use Rattle.hive_model.specs.KeyNode.{KeyNode}
use Rattle.hive_model.specs.KeyValue.{KeyValue, key_value_at}
use Rattle.hive_model.specs.Security.{SecurityCell, security_at}
use Rattle.hive_model.specs.Tree.{Item}
use Rattle.hive_model.specs.Walk.{reading, nowhere, is_list_of_lists}
use Rattle.salvage_bins.specs.Ground.{Ground}
use Rattle.salvage_walk.specs.declared.claims.Claim.{Claim}
use Rattle.salvage_walk.specs.declared.lines.WalkLine.{WalkLine}
use Rattle.salvage_walk.specs.declared.lines.WalkLine.TheVariants as lines
use Rattle.salvage_walk.specs.declared.lines.KeyPart.{KeyPart}
use Rattle.salvage_walk.specs.declared.lines.KeyPart.TheVariants as parts
use Rattle.salvage_walk.specs.Parts.{part, security_long}
use Rattle.salvage_walk.specs.Fronts.{Front, front_part, values_front, list_front, leaf_front}
use Rattle.salvage_walk.specs.Values.{bytes_part, value_part}
use Rattle.salvage_walk.specs.Walked.{Walked, say, using}

-- this fault of a part of the key at a path
abbrev pub part_line : KeyPart → List (List ℕ) → HiveFault → WalkLine
part_line of path fault = lines.Part fault of path

-- ---- class

abbrev pub class_done : List (List ℕ) → Walked → Result (List ℕ × List Claim) HiveFault → List ℕ × Walked
class_done path w (Ok r) = (r.0, using w r.1)
class_done path w (Err fault) = ([], say w (part_line parts.Class path fault))

-- a key's class; empty where a check of it fails
unfoldable pub class_step : Ground → List (List ℕ) → KeyNode → Walked → List ℕ × Walked
class_step hive path node w =
    if node.class_length == 0 then ([], w)
    else class_done path w (bytes_part node.class_length hive w.claims node.class)

-- ---- security

abbrev pub security_done : List ℕ → List (List ℕ) → ℕ → Walked → Result (SecurityCell × List Claim) HiveFaultKind → List ℕ × Walked
security_done above path at w (Ok r) = (r.0.descriptor, using w r.1)
security_done above path at w (Err kind) = (above, say w (part_line parts.Security path (fault_at kind at)))

-- a key's descriptor; that of the key above where a check of it fails
unfoldable pub security_step : Ground → List ℕ → List (List ℕ) → KeyNode → Walked → List ℕ × Walked
security_step hive above path node w =
    if node.security == nowhere then ([], w)
    else security_done above path node.security w (part security_at security_long true hive w.claims node.security)

-- ---- values

-- the line of a value with this fault, the Ith that is read of the key at a path
abbrev pub value_line : List (List ℕ) → ℕ → HiveFault → Result KeyValue HiveFaultKind → WalkLine
value_line path i fault (Ok value) = lines.Value fault value.name path
value_line path i fault (Err kind) = lines.ValueAt fault i path

abbrev pub item_names : List Item → List (List ℕ)
item_names items = map (λ (v : Item). v.name) items

abbrev pub value_done : Ground → List (List ℕ) → ℕ → ℕ → List Item → Walked → Result (Item × List Claim) HiveFault → List Item × Walked
value_done hive path i at values w (Ok r) = (values ++ r.0 ∷ [], using w r.1)
value_done hive path i at values w (Err fault) = (values, say w (value_line path i fault (reading key_value_at hive.cells at)))

-- these values and the Ith, at an offset, if none of its checks fails
unfoldable pub value_next : Ground → List (List ℕ) → ℕ → ℕ → List Item → Walked → List Item × Walked
value_next hive path i at values w = value_done hive path i at values w (value_part (item_names values) hive w.claims at)

-- these values and those at these offsets, of which the first is the Ith
unfoldable pub values_next : Ground → List (List ℕ) → ℕ → List ℕ → List Item → Walked → List Item × Walked
values_next hive path i [] values w = (values, w)
values_next hive path i (at ∷ more) values w =
    let next = value_next hive path i at values w in values_next hive path (i + 1) more next.0 next.1

-- a list that is too short has a line
abbrev pub said_short : Bool → KeyPart → List (List ℕ) → ℕ → Walked → Walked
said_short short of path at w = if short then say w (part_line of path (fault_at FormShort at)) else w

abbrev pub values_done : Ground → List (List ℕ) → ℕ → Walked → Result (Front × List Claim) HiveFaultKind → List Item × Walked
values_done hive path at w (Ok r) =
    values_next hive path 1 r.0.offsets [] (said_short r.0.short parts.Values path at (using w r.1))
values_done hive path at w (Err kind) = ([], say w (part_line parts.Values path (fault_at kind at)))

-- a key's values
unfoldable pub values_step : Ground → List (List ℕ) → KeyNode → Walked → List Item × Walked
values_step hive path node w =
    if node.value_count == 0 then ([], w)
    else values_done hive path node.value_list w (front_part (values_front node.value_count) hive w.claims node.value_list)

-- ---- lists of children

-- the offsets that lists name, and whether no list had a fault
pub record Entries : Type 0 where
  pub offsets : List ℕ
  pub sound : Bool

-- these entries and those of a list
abbrev pub more_entries : Entries → Front → Entries
more_entries e f = record { offsets = e.offsets ++ f.offsets; sound = e.sound && not f.short }

-- these entries, and a list that is left out
abbrev pub fewer_entries : Entries → Entries
fewer_entries e = record { offsets = e.offsets; sound = false }

abbrev pub list_done : List (List ℕ) → ℕ → Entries → Walked → Result (Front × List Claim) HiveFaultKind → Entries × Walked
list_done path at e w (Ok r) = (more_entries e r.0, said_short r.0.short parts.Keys path at (using w r.1))
list_done path at e w (Err kind) = (fewer_entries e, say w (part_line parts.Keys path (fault_at kind at)))

-- these entries and those of the list at an offset, which a list of lists names
unfoldable pub leaf_next : Ground → List (List ℕ) → ℕ → Entries → Walked → Entries × Walked
leaf_next hive path at e w = list_done path at e w (front_part leaf_front hive w.claims at)

-- these entries and those of the lists at these offsets
unfoldable pub leaves_next : Ground → List (List ℕ) → List ℕ → Entries → Walked → Entries × Walked
leaves_next hive path [] e w = (e, w)
leaves_next hive path (at ∷ more) e w = let next = leaf_next hive path at e w in leaves_next hive path more next.0 next.1

abbrev pub no_entries : Bool → Entries
no_entries sound = record { offsets = []; sound = sound }

-- the entries of a list, or of its lists
abbrev pub entries_below : Ground → List (List ℕ) → Front → Walked → Entries × Walked
entries_below hive path list w =
    if is_list_of_lists list.kind then leaves_next hive path list.offsets (no_entries (not list.short)) w
    else (record { offsets = list.offsets; sound = not list.short }, w)

abbrev pub lists_done : Ground → List (List ℕ) → ℕ → Walked → Result (Front × List Claim) HiveFaultKind → Entries × Walked
lists_done hive path at w (Ok r) = entries_below hive path r.0 (said_short r.0.short parts.Keys path at (using w r.1))
lists_done hive path at w (Err kind) = (no_entries false, say w (part_line parts.Keys path (fault_at kind at)))

-- the entries of the list at an offset, or of its lists
unfoldable pub lists_step : Ground → List (List ℕ) → ℕ → Walked → Entries × Walked
lists_step hive path at w = lists_done hive path at w (front_part list_front hive w.claims at)

-- lists without a fault name another number of children than the node of the key at an offset says
abbrev pub counted : List (List ℕ) → KeyNode → ℕ → Entries × Walked → List ℕ × Walked
counted path node at e =
    if e.0.sound && not (length e.0.offsets == node.child_count) then (e.0.offsets, say e.1 (lines.Nothing at path))
    else (e.0.offsets, e.1)

-- the offsets of a key's children
unfoldable pub entries_step : Ground → List (List ℕ) → KeyNode → ℕ → Walked → List ℕ × Walked
entries_step hive path node at w =
    if node.child_count == 0 then ([], w) else counted path node at (lists_step hive path node.child_list w)
