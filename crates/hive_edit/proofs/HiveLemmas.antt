-- What a hive keeps of its cells, and what lookups in them find of its tree.
use Rattle.std.proofs.Common.{◌≡◌, ℕ, List, [], map, Option, Some, None, sym, ap, subst, ◌∙◌}
use Rattle.std.specs.Prelude.{option_and_then}
use Rattle.std.specs.Option.{is_some, option_map_or}
use Rattle.nt_bytes.specs.declared.version.HiveVersion.{HiveVersion}
use Rattle.nt_bytes.specs.declared.fault.HiveFault.{HiveFault}
use Rattle.hive_model.specs.Bins.{Bin, look_up, spelled}
use Rattle.hive_model.specs.Size.{bulk_of}
use Rattle.hive_model.specs.Tree.{Tree, head, children, find_key}
use Rattle.hive_model.specs.Valid.{IsValid}
use Rattle.hive_model.specs.Walk.{first_fault}
use Rattle.hive_model.specs.Footprint.{child_places, key_place}
use Rattle.hive_model.specs.Stands.{IsWellFormed}
use Rattle.hive_read.proofs.One.{one_stands}
use Rattle.hive_read.proofs.Wellformed.{well-formed-passes}
use Rattle.key_index.specs.Lists.{name_in}
use Rattle.hive_edit.specs.Found.{found_names, FitsBelow}
use Rattle.hive_look.specs.Places.{found_dword}
use Rattle.hive_edit.specs.Hive.{HiveCells, hive_of, IsHive, IsTaken}
use Rattle.hive_look.specs.Places.{IsKeyAt, value_place, dword_at}
use Rattle.hive_edit.specs.Standing.{tree_of}
use Rattle.hive_edit.proofs.StandingLemmas.{tree_is}
use Rattle.hive_look.proofs.PlaceLemmas.{place_tells, no_place, key_there, child_names_stand, dword_found}
use Rattle.hive_look.proofs.NodeLemmas.{node_stands}
use Rattle.hive_edit.proofs.FoundLemmas.{found_fits}
use Rattle.hive_cells.specs.Opened.{Opened}

-- ---- a hive taken

pub hive_opened : (cells heap : List Bin) (root : ℕ) (version : HiveVersion) (bulk : ℕ) (t : Tree) → heap ≡ cells
    → IsWellFormed (look_up version cells) root t → IsValid t
    → bulk ≡ bulk_of version t → IsHive heap root version bulk
hive_opened cells heap root version bulk t e w v b =
    let here : IsWellFormed (look_up version heap) root t =
    subst (λ (bins : List Bin). IsWellFormed (look_up version bins) root t) (sym e) w in
    let same : t ≡ tree_of (look_up version heap) root = sym (tree_is (look_up version heap) root t here) in
    record {
      stands = subst (λ (u : Tree). IsWellFormed (look_up version heap) root u) same here;
      valid = subst IsValid same v;
      counted = subst (λ (u : Tree). bulk ≡ bulk_of version u) same b;
    }

pub hive_taken : (cells : List Bin) (heap : Opened) (root : ℕ) (version : HiveVersion) (t : Tree) → heap.bins ≡ cells
    → heap.base ≡ spelled 0 cells → IsWellFormed (look_up version cells) root t
    → first_fault (look_up version cells) root ≡ None → IsTaken cells root version (hive_of heap root version)
hive_taken cells heap root version t e b w none =
    let same : t ≡ tree_of (look_up version heap.bins) root =
    sym (tree_is (look_up version cells) root t w)
    ∙ ap (λ (bins : List Bin). tree_of (look_up version bins) root) (sym e) in
    record {
      hive = λ i. hive_of (record { bins = e i; base = b i }) root version;
      stands = subst (λ (u : Tree). IsWellFormed (look_up version cells) root u) same w;
      passes = none;
    }

pub taken_valid : (cells heap : List Bin) (root : ℕ) (version : HiveVersion) (t : Tree) → heap ≡ cells
    → IsWellFormed (look_up version cells) root t → IsValid t
    → IsValid (tree_of (look_up version heap) root)
taken_valid cells heap root version t e w v =
    subst IsValid (sym (tree_is (look_up version cells) root t w)
    ∙ ap (λ (bins : List Bin). tree_of (look_up version bins) root) (sym e)) v

-- ---- lookups

pub root_there : (bins heap : List Bin) (root : ℕ) (version : HiveVersion) (bulk : ℕ) → IsHive bins root version bulk
    → heap ≡ bins → IsKeyAt (look_up version heap) root
root_there bins heap root version bulk h e =
    subst (λ (b : List Bin). IsKeyAt (look_up version b) root) (sym e) (tree_of (look_up version bins) root, h.stands)

-- the tree of the hive is in its cells
pub stands_there : (bins : Opened) (heap : List Bin) (root : ℕ) (version : HiveVersion) (bulk : ℕ) (h : HiveCells)
    → IsHive bins.bins root version bulk → heap ≡ bins.bins → hive_of bins root version ≡ h
    → IsWellFormed (look_up version heap) root h.tree
stands_there bins heap root version bulk h is e view =
    subst (λ (t : Tree). IsWellFormed (look_up version heap) root t) (ap (λ (v : HiveCells). v.tree) view)
    (subst (λ (b : List Bin). IsWellFormed (look_up version b) root (tree_of (look_up version bins.bins) root)) (sym e)
    is.stands)

pub has_there : (bins : Opened) (heap : List Bin) (root : ℕ) (version : HiveVersion) (bulk : ℕ) (h : HiveCells)
    (path : List (List ℕ)) → IsHive bins.bins root version bulk → heap ≡ bins.bins
    → hive_of bins root version ≡ h
    → is_some (key_place (look_up version heap) path root) ≡ is_some (find_key path h.tree)
has_there bins heap root version bulk h path is e view =
    place_tells (look_up version heap) path root h.tree (stands_there bins heap root version bulk h is e view)

abbrev nowhere : Option ℕ
nowhere = None

abbrev somewhere : ℕ → Option ℕ
somewhere at = Some at

pub dword_there : (bins : Opened) (heap : List Bin) (root : ℕ) (version : HiveVersion) (bulk : ℕ) (h : HiveCells)
    (path : List (List ℕ)) (name : List ℕ) (at : ℕ) → IsHive bins.bins root version bulk
    → heap ≡ bins.bins → hive_of bins root version ≡ h → somewhere at ≡ key_place (look_up version heap) path root
    → option_and_then (dword_at (look_up version heap)) (value_place (look_up version heap) name at)
    ≡ found_dword path name h.tree
dword_there bins heap root version bulk h path name at is e view p =
    ap (option_and_then (λ (b : ℕ). option_and_then (dword_at (look_up version heap))
    (value_place (look_up version heap) name b))) p
    ∙ dword_found (look_up version heap) path name root h.tree (stands_there bins heap root version bulk h is e view)

pub dword_nowhere : (bins : Opened) (heap : List Bin) (root : ℕ) (version : HiveVersion) (bulk : ℕ) (h : HiveCells)
    (path : List (List ℕ)) (name : List ℕ) → IsHive bins.bins root version bulk
    → heap ≡ bins.bins → hive_of bins root version ≡ h → nowhere ≡ key_place (look_up version heap) path root
    → nowhere ≡ found_dword path name h.tree
dword_nowhere bins heap root version bulk h path name is e view p =
    ap (option_and_then (λ (b : ℕ). option_and_then (dword_at (look_up version heap))
    (value_place (look_up version heap) name b))) p
    ∙ dword_found (look_up version heap) path name root h.tree (stands_there bins heap root version bulk h is e view)

pub names_there : (bins : Opened) (heap : List Bin) (root : ℕ) (version : HiveVersion) (bulk : ℕ) (h : HiveCells)
    (path : List (List ℕ)) (at : ℕ) → IsHive bins.bins root version bulk
    → heap ≡ bins.bins → hive_of bins root version ≡ h → somewhere at ≡ key_place (look_up version heap) path root
    → map (name_in (look_up version heap)) (child_places (look_up version heap) at) ≡ found_names path h.tree
names_there bins heap root version bulk h path at is e view p =
    let cells = look_up version heap in
    let k = key_there cells path root h.tree at (stands_there bins heap root version bulk h is e view) (sym p) in
    child_names_stand cells (name_in cells) at k.there (λ b u s. (node_stands cells b u s).1) k.well
    ∙ ap (λ (o : Option Tree). option_map_or (λ key. map (λ child. (head child).name) (children key)) o [])
    (sym k.found)

pub names_nowhere : (bins : Opened) (heap : List Bin) (root : ℕ) (version : HiveVersion) (bulk : ℕ) (h : HiveCells)
    (path : List (List ℕ)) → IsHive bins.bins root version bulk
    → heap ≡ bins.bins → hive_of bins root version ≡ h → nowhere ≡ key_place (look_up version heap) path root
    → [] ≡ found_names path h.tree
names_nowhere bins heap root version bulk h path is e view p =
    ap (λ (o : Option Tree). option_map_or (λ key. map (λ child. (head child).name) (children key)) o [])
    (sym (no_place (look_up version heap) path root h.tree (stands_there bins heap root version bulk h is e view)
    (sym p)))

abbrev no_tree : Option Tree
no_tree = None

abbrev a_tree : Tree → Option Tree
a_tree t = Some t

-- the tree has a key where the cells have a place of one
pub found_there : (bins : Opened) (heap : List Bin) (root : ℕ) (version : HiveVersion) (bulk : ℕ) (h : HiveCells)
    (path : List (List ℕ)) (at : ℕ) → IsHive bins.bins root version bulk
    → heap ≡ bins.bins → hive_of bins root version ≡ h → somewhere at ≡ key_place (look_up version heap) path root
    → find_key path h.tree ≡ None → ⊥
found_there bins heap root version bulk h path at is e view p none =
    let there = key_there (look_up version heap) path root h.tree at
    (stands_there bins heap root version bulk h is e view) (sym p) in
    let both : no_tree ≡ a_tree there.there = sym none ∙ there.found in cc

pub subtree_there : (bins : Opened) (heap : List Bin) (root : ℕ) (version : HiveVersion) (bulk : ℕ) (h : HiveCells)
    (path : List (List ℕ)) (at : ℕ) (k : Tree) → IsHive bins.bins root version bulk
    → heap ≡ bins.bins → hive_of bins root version ≡ h → somewhere at ≡ key_place (look_up version heap) path root
    → IsWellFormed (look_up version heap) at k
    → a_tree k ≡ find_key path h.tree
subtree_there bins heap root version bulk h path at k is e view p w =
    let there = key_there (look_up version heap) path root h.tree at
    (stands_there bins heap root version bulk h is e view) (sym p) in
    ap a_tree (one_stands (look_up version heap) at k there.there w.stands there.well.stands) ∙ sym there.found

pub subtree_nowhere : (bins : Opened) (heap : List Bin) (root : ℕ) (version : HiveVersion) (bulk : ℕ) (h : HiveCells)
    (path : List (List ℕ)) → IsHive bins.bins root version bulk
    → heap ≡ bins.bins → hive_of bins root version ≡ h → nowhere ≡ key_place (look_up version heap) path root
    → no_tree ≡ find_key path h.tree
subtree_nowhere bins heap root version bulk h path is e view p =
    sym (no_place (look_up version heap) path root h.tree (stands_there bins heap root version bulk h is e view)
    (sym p))

-- a key of the hive has no fault
pub no_fault_there : (cells : Rattle.hive_model.specs.Bins.Cells) (at : ℕ) (f : HiveFault) → IsKeyAt cells at
    → first_fault cells at ≡ Some f → ⊥
no_fault_there cells at f k e = let none = well-formed-passes cells at k.0 k.1 in cc

pub subtree_fits : (bins : Opened) (root : ℕ) (version : HiveVersion) (bulk : ℕ) (h : HiveCells)
    (path : List (List ℕ)) (t : Tree) → IsHive bins.bins root version bulk
    → hive_of bins root version ≡ h → find_key path h.tree ≡ Some t → FitsBelow path t
subtree_fits bins root version bulk h path t is view e =
    found_fits path h.tree t (subst IsValid (ap (λ (v : HiveCells). v.tree) view) is.valid) e

-- the tree that is read again is the hive's
pub read_again : (bins : Opened) (heap : List Bin) (root : ℕ) (version : HiveVersion) (bulk : ℕ) (h : HiveCells) (t : Tree)
    → IsHive bins.bins root version bulk → heap ≡ bins.bins → hive_of bins root version ≡ h
    → IsWellFormed (look_up version heap) root t → t ≡ h.tree
read_again bins heap root version bulk h t is e view w =
    one_stands (look_up version heap) root t h.tree w.stands
    (stands_there bins heap root version bulk h is e view).stands
