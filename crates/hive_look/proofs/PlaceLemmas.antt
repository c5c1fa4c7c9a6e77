-- The keys and values that names lead to, in cells and in the tree that is in them.
use Rattle.std.proofs.Common.{◌≡◌, ◌<◌, ℕ, Bool, true, false, eqb, cond, List, [], ◌∷◌, length, map, Option, Some, None, Result, Ok, Err, refl, sym, ap, subst, ◌∙◌, arith}
use Rattle.std.specs.Prelude.{find, option_and_then}
use Rattle.std.specs.Option.{IfSome, is_some}
use Rattle.std.specs.List.{list_any}
use Rattle.nt_bytes.specs.declared.fault.HiveFaultKind.{HiveFaultKind}
use Rattle.nt_bytes.specs.Folding.{folds_same}
use Rattle.nt_bytes.specs.Reading.{◌>>=◌}
use Rattle.hive_model.specs.Bins.{Cells}
use Rattle.hive_model.specs.KeyNode.{KeyNode, key_node_at}
use Rattle.hive_model.specs.KeyValue.{KeyValue, key_value_at}
use Rattle.hive_model.specs.Lists.{offsets_in}
use Rattle.hive_model.specs.Tree.{Head, Item, Tree, Trees, key, none, more, listed, head, children, is_named, is_item, find_key, find_item, find_dword, dword_in}
use Rattle.hive_model.specs.Walk.{reading, names_of}
use Rattle.hive_model.specs.Footprint.{of_read, child_places, is_node_named, is_value_named, key_place}
use Rattle.hive_model.specs.Stands.{KeyStands, Stands, AllStand, IsWellFormed, data_of, item_at, items_at, values_of}
use Rattle.hive_look.specs.Places.{IsKeyAt, value_places, value_place, item_read, dword_at, found_dword}
use Rattle.hive_look.proofs.ResultLemmas.{done, some, ok_same}
use Rattle.hive_look.proofs.OnceLemmas.{AllWellFormed, children_well_formed}
use Rattle.std.proofs.Math.Bool.{or-false}
use Rattle.edited_cells.specs.Owned.{value_places as owned_places}
use Rattle.edited_cells.proofs.Wellformed.{places_are}
use Rattle.hive_read.proofs.FormFacts.{then-so}

-- ---- keys

-- a key is there where the tree has one, in well-formed cells
abbrev pub IsPlaceOf : Cells → Option ℕ → Option Tree → Type 0
IsPlaceOf cells None None = Unit {0}
IsPlaceOf cells None (Some t) = ⊥
IsPlaceOf cells (Some at) None = ⊥
IsPlaceOf cells (Some at) (Some t) = IsWellFormed cells at t

-- a key node gives its name
node_named : (cells : Cells) (at : ℕ) (t : Tree) (name : List ℕ) → Stands cells at t
    → is_node_named cells name at ≡ is_named name t
node_named cells at (key h ts) name s =
    ap (λ (r : Result KeyNode HiveFaultKind). list_any (folds_same name) (names_of (λ node. node.name) r)) s.1.read
    ∙ or-false (folds_same name s.1.node.name) ∙ ap (folds_same name) (sym s.1.name)

child_found : (cells : Cells) (name offsets : List ℕ) (ts : Trees) → AllWellFormed cells offsets ts
    → IsPlaceOf cells (find (is_node_named cells name) offsets) (find (is_named name) (listed ts))
child_found cells name offsets none w =
    subst (λ (os : List ℕ). IsPlaceOf cells (find (is_node_named cells name) os) None) (sym w) tt
child_found cells name offsets (more t ts) w =
    subst (λ (os : List ℕ). IsPlaceOf cells (find (is_node_named cells name) os) (find (is_named name) (t ∷ listed ts)))
    (sym w.2)
    (subst (λ (b : Bool). IsPlaceOf cells (cond b (Some w.0) (find (is_node_named cells name) w.1))
    (find (is_named name) (t ∷ listed ts)))
    (sym (node_named cells w.0 t name w.3.stands)) (go (is_named name t) (child_found cells name w.1 ts w.4)))
  where
    go : (b : Bool) → IsPlaceOf cells (find (is_node_named cells name) w.1) (find (is_named name) (listed ts))
        → IsPlaceOf cells (cond b (Some w.0) (find (is_node_named cells name) w.1))
        (cond b (Some t) (find (is_named name) (listed ts)))
    go true later = w.3
    go false later = later

-- a child with a name is in the cells where it is in the tree
pub child_place : (cells : Cells) (name : List ℕ) (at : ℕ) (t : Tree) → IsWellFormed cells at t
    → IsPlaceOf cells (find (is_node_named cells name) (child_places cells at)) (find (is_named name) (children t))
child_place cells name at (key h ts) w =
    subst (λ (os : List ℕ). IsPlaceOf cells (find (is_node_named cells name) os) (find (is_named name) (listed ts)))
    (sym (places_are cells at h w.stands.0 w.stands.1))
    (child_found cells name w.stands.0 ts (children_well_formed cells at h ts w))

-- the key at a path is in the cells where it is in the tree
pub place_of_key : (cells : Cells) (path : List (List ℕ)) (at : ℕ) (t : Tree) → IsWellFormed cells at t
    → IsPlaceOf cells (key_place cells path at) (find_key path t)
place_of_key cells [] at t w = w
place_of_key cells (name ∷ path) at t w =
    go (find (is_node_named cells name) (child_places cells at)) (find (is_named name) (children t))
    (child_place cells name at t w)
    (λ b u v. place_of_key cells path b u v)
  where
    go : (o : Option ℕ) (u : Option Tree) → IsPlaceOf cells o u
        → ((b : ℕ) (v : Tree) → IsWellFormed cells b v → IsPlaceOf cells (key_place cells path b) (find_key path v))
        → IsPlaceOf cells (option_and_then (key_place cells path) o) (option_and_then (find_key path) u)
    go None None p deep = tt
    go None (Some v) p deep = absurd p
    go (Some b) None p deep = absurd p
    go (Some b) (Some v) p deep = deep b v p

-- a child that is found is in well-formed cells
pub found_stands : (cells : Cells) (name : List ℕ) (at : ℕ) (r : Option ℕ) → IsKeyAt cells at
    → r ≡ find (is_node_named cells name) (child_places cells at)
    → IfSome r (IsKeyAt cells)
found_stands cells name at r k e =
    go r (find (is_named name) (children k.0))
    (subst (λ (o : Option ℕ). IsPlaceOf cells o (find (is_named name) (children k.0))) (sym e)
    (child_place cells name at k.0 k.1))
  where
    go : (o : Option ℕ) (u : Option Tree) → IsPlaceOf cells o u → IfSome o (IsKeyAt cells)
    go None u p = tt
    go (Some b) None p = absurd p
    go (Some b) (Some v) p = (v, p)

-- whether a key is there
pub place_tells : (cells : Cells) (path : List (List ℕ)) (root : ℕ) (t : Tree) → IsWellFormed cells root t
    → is_some (key_place cells path root) ≡ is_some (find_key path t)
place_tells cells path root t w = go (key_place cells path root) (find_key path t) (place_of_key cells path root t w)
  where
    go : (o : Option ℕ) (u : Option Tree) → IsPlaceOf cells o u → is_some o ≡ is_some u
    go None None p = refl
    go None (Some v) p = absurd p
    go (Some b) None p = absurd p
    go (Some b) (Some v) p = refl

-- where no key is in the cells, none is in the tree
pub no_place : (cells : Cells) (path : List (List ℕ)) (root : ℕ) (t : Tree) → IsWellFormed cells root t
    → key_place cells path root ≡ None → find_key path t ≡ None
no_place cells path root t w e =
    go (find_key path t) (subst (λ (o : Option ℕ). IsPlaceOf cells o (find_key path t)) e
    (place_of_key cells path root t w))
  where
    go : (u : Option Tree) → IsPlaceOf cells None u → u ≡ None
    go None p = refl
    go (Some v) p = absurd p

-- the key that the tree has where one is in the cells
pub record KeyThere (cells : Cells) (path : List (List ℕ)) (t : Tree) (at : ℕ) : Type 0 where
  pub there : Tree
  pub found : find_key path t ≡ Some there
  pub well : IsWellFormed cells at there

pub key_there : (cells : Cells) (path : List (List ℕ)) (root : ℕ) (t : Tree) (at : ℕ) → IsWellFormed cells root t
    → key_place cells path root ≡ some at → KeyThere cells path t at
key_there cells path root t at w e =
    go (find_key path t) refl
    (subst (λ (o : Option ℕ). IsPlaceOf cells o (find_key path t)) e (place_of_key cells path root t w))
  where
    go : (u : Option Tree) → find_key path t ≡ u → IsPlaceOf cells (Some at) u → KeyThere cells path t at
    go None f p = absurd p
    go (Some v) f p = record { there = v; found = f; well = p }

-- ---- names of children

names_stand : (cells : Cells) (name_at : ℕ → List ℕ) (offsets : List ℕ) (ts : Trees)
    → ((at : ℕ) (t : Tree) → Stands cells at t → name_at at ≡ (head t).name)
    → AllStand cells offsets ts → map name_at offsets ≡ map (λ t. (head t).name) (listed ts)
names_stand cells name_at offsets none n s = ap (map name_at) s
names_stand cells name_at offsets (more t ts) n s =
    let first : name_at s.0 ≡ (head t).name = n s.0 t s.3 in
    let rest : map name_at s.1 ≡ map (λ t. (head t).name) (listed ts) = names_stand cells name_at s.1 ts n s.4 in
    ap (map name_at) s.2 ∙ (λ i. first i ∷ rest i)

-- the names at the children of a key are those of its children
pub child_names_stand : (cells : Cells) (name_at : ℕ → List ℕ) (at : ℕ) (t : Tree)
    → ((b : ℕ) (u : Tree) → Stands cells b u → name_at b ≡ (head u).name)
    → IsWellFormed cells at t → map name_at (child_places cells at) ≡ map (λ u. (head u).name) (children t)
child_names_stand cells name_at at (key h ts) n w =
    ap (map name_at) (places_are cells at h w.stands.0 w.stands.1)
    ∙ names_stand cells name_at w.stands.0 ts n w.stands.2

-- ---- values

-- the values of a key are at the places that its node names
values_stand : (cells : Cells) (at : ℕ) (h : Head) (offsets : List ℕ) → KeyStands cells at h offsets
    → items_at cells (value_places cells at) ≡ done h.values
unfolding value_places values_of
values_stand cells at h offsets s =
    ap (λ (r : Result KeyNode HiveFaultKind). items_at cells
    (of_read r (λ node. cond (eqb node.value_count 0) []
    (of_read (reading (offsets_in node.value_count) cells node.value_list) (λ os. os))))) s.read
    ∙ go (eqb s.node.value_count 0) s.values
  where
    listed_values : (r : Result (List ℕ) HiveFaultKind) → (r >>= items_at cells) ≡ done h.values
        → items_at cells (of_read r (λ os. os)) ≡ done h.values
    listed_values (Ok os) e = e
    listed_values (Err k) e = absurd cc

    go : (b : Bool) → cond b (Ok [])
        (reading (offsets_in s.node.value_count) cells s.node.value_list >>= items_at cells) ≡ done h.values
        → items_at cells (cond b []
        (of_read (reading (offsets_in s.node.value_count) cells s.node.value_list) (λ os. os))) ≡ done h.values
    go true e = e
    go false e = listed_values (reading (offsets_in s.node.value_count) cells s.node.value_list) e

pub items_stand : (cells : Cells) (at : ℕ) (t : Tree) → IsWellFormed cells at t
    → items_at cells (value_places cells at) ≡ done (head t).values
items_stand cells at (key h ts) w = values_stand cells at h w.stands.0 w.stands.1

-- a value is there where the list has one
abbrev pub IsItemAt : Cells → Option ℕ → Option Item → Type 0
IsItemAt cells None None = Unit {0}
IsItemAt cells None (Some v) = ⊥
IsItemAt cells (Some at) None = ⊥
IsItemAt cells (Some at) (Some v) = item_at cells at ≡ done v

abbrev item_with : KeyValue → List ℕ → Item
item_with value bytes = record { name = value.name; kind = value.kind; bytes = bytes }

-- a value gives its name
value_named : (cells : Cells) (at : ℕ) (v : Item) (name : List ℕ) → item_at cells at ≡ done v
    → is_value_named cells name at ≡ is_item name v
unfolding item_at
value_named cells at v name e =
    let read = then-so (reading key_value_at cells at)
    (λ value. data_of cells value >>= λ bytes. Ok (item_with value bytes)) v e in
    let bytes = then-so (data_of cells read.0) (λ bytes. Ok (item_with read.0 bytes)) v read.2 in
    let same : read.0.name ≡ v.name = ap (λ (i : Item). i.name) (ok_same (item_with read.0 bytes.0) v bytes.2) in
    ap (λ (r : Result KeyValue HiveFaultKind). list_any (folds_same name) (names_of (λ value. value.name) r)) read.1
    ∙ or-false (folds_same name read.0.name) ∙ ap (folds_same name) same

item_found : (cells : Cells) (name offsets : List ℕ) (items : List Item) → items_at cells offsets ≡ done items
    → IsItemAt cells (find (is_value_named cells name) offsets) (find (is_item name) items)
item_found cells name [] items e =
    subst (λ (vs : List Item). IsItemAt cells None (find (is_item name) vs)) (ok_same [] items e) tt
item_found cells name (at ∷ offsets) items e =
    let one = then-so (item_at cells at) (λ v. items_at cells offsets >>= λ vs. Ok (v ∷ vs)) items e in
    let others = then-so (items_at cells offsets) (λ vs. Ok (one.0 ∷ vs)) items one.2 in
    subst (λ (vs : List Item). IsItemAt cells (find (is_value_named cells name) (at ∷ offsets))
    (find (is_item name) vs)) (ok_same (one.0 ∷ others.0) items others.2)
    (subst (λ (b : Bool). IsItemAt cells (cond b (Some at) (find (is_value_named cells name) offsets))
    (find (is_item name) (one.0 ∷ others.0)))
    (sym (value_named cells at one.0 name one.1))
    (go one.0 others.0 (is_item name one.0) one.1 (item_found cells name offsets others.0 others.1)))
  where
    go : (v : Item) (vs : List Item) (b : Bool) → item_at cells at ≡ done v
        → IsItemAt cells (find (is_value_named cells name) offsets) (find (is_item name) vs)
        → IsItemAt cells (cond b (Some at) (find (is_value_named cells name) offsets))
        (cond b (Some v) (find (is_item name) vs))
    go v vs true here later = here
    go v vs false here later = later

-- a value of a key with a name is in the cells where it is in the tree
pub place_of_item : (cells : Cells) (name : List ℕ) (at : ℕ) (t : Tree) → IsWellFormed cells at t
    → IsItemAt cells (value_place cells name at) (find_item name t)
place_of_item cells name at t w =
    item_found cells name (value_places cells at) (head t).values (items_stand cells at t w)

-- the number of the value that is found is the one that the tree has
dword_there : (cells : Cells) (name : List ℕ) (at : ℕ) (t : Tree) → IsWellFormed cells at t
    → option_and_then (dword_at cells) (value_place cells name at) ≡ find_dword name t
dword_there cells name at t w = go (value_place cells name at) (find_item name t) (place_of_item cells name at t w)
  where
    go : (o : Option ℕ) (v : Option Item) → IsItemAt cells o v
        → option_and_then (dword_at cells) o ≡ option_and_then dword_in v
    go None None p = refl
    go None (Some v) p = absurd p
    go (Some b) None p = absurd p
    go (Some b) (Some v) p = ap (λ (r : Result Item HiveFaultKind). option_and_then dword_in (item_read r)) p

-- the number under a name in the key at a path
pub dword_found : (cells : Cells) (path : List (List ℕ)) (name : List ℕ) (root : ℕ) (t : Tree)
    → IsWellFormed cells root t
    → option_and_then (λ at. option_and_then (dword_at cells) (value_place cells name at)) (key_place cells path root)
    ≡ found_dword path name t
dword_found cells path name root t w =
    go (key_place cells path root) (find_key path t) (place_of_key cells path root t w)
  where
    go : (o : Option ℕ) (u : Option Tree) → IsPlaceOf cells o u
        → option_and_then (λ at. option_and_then (dword_at cells) (value_place cells name at)) o
        ≡ option_and_then (find_dword name) u
    go None None p = refl
    go None (Some v) p = absurd p
    go (Some b) None p = absurd p
    go (Some b) (Some v) p = dword_there cells name b v p

-- ---- along a path

-- the end of a path
pub place_end : (cells : Cells) (rest : List (List ℕ)) (at : ℕ) → length rest < 1 → some at ≡ key_place cells rest at
place_end cells [] at l = refl
place_end cells (name ∷ rest) at l = absurd (omega arith)

-- ---- the values of a key

pub places_same : (cells : Cells) (at : ℕ) → owned_places cells at ≡ value_places cells at
unfolding owned_places value_places
places_same cells at = refl

pub places_at_node : (cells : Cells) (x : ℕ) (node : KeyNode) → reading key_node_at cells x ≡ done node
    → value_places cells x ≡ cond (eqb node.value_count 0) []
    (of_read (reading (offsets_in node.value_count) cells node.value_list) (λ os. os))
unfolding value_places
places_at_node cells x node r =
    ap (λ (q : Result KeyNode HiveFaultKind). of_read q
    (λ n. cond (eqb n.value_count 0) []
    (of_read (reading (offsets_in n.value_count) cells n.value_list) (λ os. os)))) r
