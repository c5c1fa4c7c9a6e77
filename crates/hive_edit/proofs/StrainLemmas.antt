-- A value that is there, and has no room for other data: the strain of the step is over the limit.
use Rattle.std.proofs.Common.{◌≡◌, ◌<◌, ◌≤◌, ◌^◌, ℕ, ◌+◌, Bool, true, false, cond, List, [], ◌∷◌, ◌++◌, length, map, Option, Some, refl, sym, ap, subst, ◌∙◌, arith}
use Rattle.std.specs.Prelude.{nat_lt, find, is_some}
use Rattle.std.proofs.lemmas.Bool.{ltb-true}
use Rattle.nt_bytes.specs.declared.version.HiveVersion.{HiveVersion}
use Rattle.hive_model.specs.Bins.{Cells, bins_size, look_up, spelled}
use Rattle.hive_model.specs.Size.{cell, name_bytes, data_sizes, data_size, bulk_of}
use Rattle.hive_model.specs.Tree.{Tree, Item, head, is_item, find_key, find_item}
use Rattle.hive_model.specs.Tree.{key as tree_key}
use Rattle.hive_model.specs.Edit.{set_value, at_first, with_item, of_items}
use Rattle.hive_model.specs.Packed.{rounded}
use Rattle.hive_model.specs.Footprint.{value_list_sizes, item_sizes, needed_sizes, room_of}
use Rattle.hive_cells.specs.Opened.{Opened}
use Rattle.hive_cells.specs.Holes.{new_bin_size}
use Rattle.hive_read.proofs.FormFacts.{IsBytes}
use Rattle.edited_cells.specs.Sizes.{total, AreSome}
use Rattle.edited_cells.proofs.RoomLemmas.{some_all, some_right, room_some, room_for, found_changed, set_needs, item_total}
use Rattle.hive_edit.specs.Given.{place_in, IsGiven}
use Rattle.hive_edit.specs.Hive.{HiveCells, cells_in, hive_of, IsHive}
use Rattle.hive_edit.specs.NewValue.{set_tree}
use Rattle.hive_look.specs.Places.{data_places}
use Rattle.hive_edit.specs.Standing.{tree_of}
use Rattle.hive_edit.specs.Stepped.{LacksStepRoom}
use Rattle.hive_look.proofs.ResultLemmas.{some, some_same}
use Rattle.hive_pack.proofs.Rows.{space_data}
use Rattle.hive_edit.proofs.GiveLemmas.{some_size}
use Rattle.hive_edit.proofs.SteppedLemmas.{IsStepMade, IsWithinRoom, stepped, lacks_room}
use Rattle.hive_edit.proofs.ThereLemmas.{ThereIs, there_in, edit_there, there_done}
use Rattle.hive_edit.proofs.NewValueLemmas.{kept_name}
use Rattle.hive_edit.proofs.SecuredLemmas.{none_counted, set_counts_none}
use Rattle.hive_edit.proofs.GivenUpLemmas.{replaced_there}
use Rattle.edited_cells.specs.Owned.{In}
use Rattle.edited_cells.proofs.Ins.{contains_from}

abbrev become : ℕ → List ℕ → Item → Item
become kind bytes v = record v { kind = kind; bytes = bytes }

-- the value is found with its data
first_found : (name : List ℕ) (kind : ℕ) (bytes : List ℕ) (vs : List Item) (one : Item)
    → find (is_item name) vs ≡ some one
    → find (is_item name) (at_first (is_item name) (become kind bytes) vs) ≡ some (become kind bytes one)
first_found name kind bytes [] one e = absurd cc
first_found name kind bytes (v ∷ vs) one e = go (is_item name v) refl e (λ f. first_found name kind bytes vs one f)
  where
    go : (t : Bool) → is_item name v ≡ t → cond t (Some v) (find (is_item name) vs) ≡ some one
        → (find (is_item name) vs ≡ some one
        → find (is_item name) (at_first (is_item name) (become kind bytes) vs) ≡ some (become kind bytes one))
        → find (is_item name) (cond t (become kind bytes v ∷ vs) (v ∷ at_first (is_item name) (become kind bytes) vs))
        ≡ some (become kind bytes one)
    go true is f deep =
        ap (λ (t : Bool). cond t (Some (become kind bytes v)) (find (is_item name) vs)) is
        ∙ ap (λ (i : Item). some (become kind bytes i)) (some_same v one f)
    go false is f deep =
        ap (λ (t : Bool). cond t (Some v) (find (is_item name) (at_first (is_item name) (become kind bytes) vs))) is
        ∙ deep f

item_then : (name : List ℕ) (kind : ℕ) (bytes : List ℕ) (k : Tree) (one : Item) → find_item name k ≡ some one
    → find_item name (of_items (with_item name kind bytes) k) ≡ some (become kind bytes one)
item_then name kind bytes (tree_key h ts) one e =
    ap (λ (o : Option Item). find (is_item name)
    (cond (is_some o) (at_first (is_item name) (become kind bytes) h.values)
    (h.values ++ record { name = name; kind = kind; bytes = bytes } ∷ []))) e
    ∙ first_found name kind bytes h.values one e

data_total : (version : HiveVersion) (v : Item)
    → total (map cell (data_sizes version (length v.bytes))) ≡ data_size version v.bytes
data_total version v = cancel (cell (20 + name_bytes v.name)) (total (map cell (data_sizes version (length v.bytes))))
    (data_size version v.bytes) (item_total version v)
  where
    cancel : (a b c : ℕ) → a + b ≡ a + c → b ≡ c
    cancel a b c e = omega (arith, e)

-- a new bin for the data is within the room for the cells that the step may need
data_within : (version : HiveVersion) (b : Cells) (root : ℕ) (t : Tree) (path : List (List ℕ)) (name : List ℕ)
    (kind : ℕ) (bytes : List ℕ) (v : ℕ) → ThereIs b t root path name v
    → length bytes ≤ 1048576 → 4 < length bytes
    → rounded (data_size version bytes + 32) ≤ room_of
    (needed_sizes version t (set_value path name kind bytes) (set_tree path name kind bytes t))
data_within version b root t path name kind bytes v i few long =
    let some_data : 0 < data_size version bytes =
    omega (arith, some_size version 0 bytes long, space_data version 0 bytes) in
    let u = set_tree path name kind bytes t in
    let k = of_items (with_item name kind bytes) i.tree in
    let one = become kind bytes i.one in
    let found : find_key path u ≡ Some k =
    found_changed (of_items (with_item name kind bytes)) path t i.tree (kept_name name kind bytes) i.found in
    let needs = set_needs version t u k path name kind bytes one found
    (item_then name kind bytes i.tree i.one i.there) in
    let asked = map cell (data_sizes version (length bytes)) in
    let lists = value_list_sizes (length (head k).values) in
    let among : AreSome asked (lists ++ item_sizes version one) =
    some_right asked lists (item_sizes version one)
    (some_right asked (cell (20 + name_bytes one.name) ∷ []) asked (some_all asked)) in
    let all : total asked ≡ data_size version bytes = data_total version one in
    let all_some : 0 < total asked = subst (λ (n : ℕ). 0 < n) (sym all) some_data in
    let r = room_for asked all_some in
    let s = room_some asked (needed_sizes version t (set_value path name kind bytes) u)
    (subst (AreSome asked) (sym needs) among) in
    let e : rounded (total asked + 32) ≡ rounded (data_size version bytes + 32) =
    ap (λ (n : ℕ). rounded (n + 32)) all in
    omega (arith, r, s, e)

-- where a new bin for the data is not to be had
pub there_lacks : (bins : Opened) (root : ℕ) (version : HiveVersion) (bulk : ℕ) (h : HiveCells) (path : List (List ℕ))
    (name : List ℕ) (kind : ℕ) (bytes : List ℕ) (v : ℕ)
    → IsHive bins.bins root version bulk → hive_of bins root version ≡ h → place_in (cells_in h) path name h.root ≡ some v
    → length bytes ≤ 1048576
    → 4 < length bytes → 16777216 < bins_size bins.bins + rounded (data_size version bytes + 32)
    → LacksStepRoom h (set_value path name kind bytes)
there_lacks bins root version bulk h path name kind bytes v is view e few long over =
    let b = look_up version bins.bins in
    let t = tree_of b root in
    let i = there_in bins root version bulk h path name v is view e in
    let d = data_within version b root t path name kind bytes v i few long in
    lacks_room bins root version h (set_tree path name kind bytes t) (set_value path name kind bytes) view
    (edit_there b root t path name kind bytes v i few) (omega (arith, over, d))

-- the value was given them
pub there_set : (old new : Opened) (root : ℕ) (version : HiveVersion) (bulk after : ℕ) (h : HiveCells)
    (path : List (List ℕ)) (name : List ℕ) (kind : ℕ) (bytes : List ℕ) (v : ℕ)
    → IsHive old.bins root version bulk → hive_of old root version ≡ h → place_in (cells_in h) path name h.root ≡ some v
    → length bytes ≤ 1048576 → kind < 2 ^ 32
    → after ≡ bulk_of h.version (set_tree path name kind bytes h.tree) → IsBytes (spelled 0 new.bins)
    → IsGiven version v kind bytes (data_places (look_up version old.bins) v) old.bins new.bins
    → IsStepMade h new root version after (set_value path name kind bytes)
there_set old new root version bulk after h path name kind bytes v is view e few kind_fits counted small g =
    let b = look_up version old.bins in
    let t = tree_of b root in
    let u = set_tree path name kind bytes t in
    let i = there_in old root version bulk h path name v is view e in
    let told : after ≡ bulk_of version u =
    subst (λ (z : HiveCells). after ≡ bulk_of z.version (set_tree path name kind bytes z.tree)) (sym view)
    counted in
    stepped old new root version bulk after h u (set_value path name kind bytes) is view
    (edit_there b root t path name kind bytes v i few)
    (there_done old new.bins root version bulk h path name kind bytes v is view e few kind_fits g) small told g.least
    (by_length (nat_lt 4 (length bytes)) refl g.long
    (λ long. data_within version b root t path name kind bytes v i few long))
    (none_counted b (look_up version new.bins) root t u (set_value path name kind bytes) is.stands
    (there_done old new.bins root version bulk h path name kind bytes v is view e few kind_fits g)
    (set_counts_none t path name kind bytes))
    (λ key among. absurd among)
    (λ o given. g.freed o (contains_from (data_places b v) o
    (subst (λ (l : List ℕ). In l o) (replaced_there b path name root v
    (subst (λ (z : HiveCells). place_in (cells_in z) path name z.root ≡ some v) (sym view) e)) given)))
    (λ run j. absurd j)
  where
    by_length : (q : Bool) → nat_lt 4 (length bytes) ≡ q
        → bins_size new.bins ≤ bins_size old.bins + cond q (new_bin_size (data_size version bytes)) 0
        → (4 < length bytes → rounded (data_size version bytes + 32)
        ≤ room_of (needed_sizes version (tree_of (look_up version old.bins) root) (set_value path name kind bytes)
        (set_tree path name kind bytes (tree_of (look_up version old.bins) root))))
        → IsWithinRoom version old.bins new.bins root (set_value path name kind bytes)
        (set_tree path name kind bytes (tree_of (look_up version old.bins) root))
    by_length true q l within = let w = within (ltb-true 4 (length bytes) q) in omega (arith, l, w)
    by_length false q l within = omega (arith, l)
