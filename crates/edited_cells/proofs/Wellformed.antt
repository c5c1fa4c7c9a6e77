-- Well-formed cells are sound.
use Rattle.std.proofs.Common.{◌≡◌, ℕ, suc, ◌+◌, ◌<◌, ◌≤◌, Bool, true, false, not, ◌&&◌, cond, List, [], ◌∷◌, length, Result, Ok, Err, refl, sym, ap, subst, ◌∙◌, arith, inl, inr}
use Rattle.std.specs.Prelude.{MatchBool, ◌==◌, if◌then◌else◌, max}
use Rattle.std.specs.List.{All}
use Rattle.std.proofs.lemmas.Bool.{eqb-true, eq-eqb, and_parts, and_from}
use Rattle.nt_bytes.specs.Folding.{folded_unit, folds_same}
use Rattle.nt_bytes.specs.declared.fault.HiveFaultKind.{HiveFaultKind}
use Rattle.nt_bytes.specs.declared.fault.HiveFaultKind.TheVariants.{FormName}
use Rattle.nt_bytes.specs.Reading.{◌>>=◌}
use Rattle.hive_model.specs.KeyNode.{KeyNode, key_node_at}
use Rattle.hive_model.specs.KeyValue.{KeyValue, key_value_at}
use Rattle.hive_model.specs.Lists.{offsets_in}
use Rattle.hive_model.specs.Bins.{Cells}
use Rattle.hive_model.specs.Tree.{Tree, Trees, key, none, more, listed, Head, head, Item}
use Rattle.hive_model.specs.Walk.{reading, node_at, entries_at, names_of}
use Rattle.hive_model.specs.Footprint.{of_read, child_places}
use Rattle.hive_model.specs.Valid.{levels, most_levels, KeysDiffer, ItemsDiffer}
use Rattle.hive_model.specs.Stands.{data_of, item_at, items_at, values_of, KeyStands, Stands, AllStand, HasApartNames, HaveApartNames, IsWellFormed}
use Rattle.edited_cells.specs.Owned.{In, first_or_empty, node_name, value_name, value_places, Reaches}
use Rattle.edited_cells.specs.Sound.{IsNamedNode, IsSound, AllSound, IsSoundHive}
use Rattle.edited_cells.proofs.Out.{of_node_is}

-- ---- names

-- two names that one folds to fold to one
pub both_fold : (name a b : List ℕ) → folds_same name a ≡ true → folds_same name b ≡ true → folds_same a b ≡ true
both_fold [] [] [] e f = refl
both_fold [] [] (y ∷ b) e f = absurd cc
both_fold [] (x ∷ a) b e f = absurd cc
both_fold (n ∷ name) [] b e f = absurd cc
both_fold (n ∷ name) (x ∷ a) [] e f = absurd cc
both_fold (n ∷ name) (x ∷ a) (y ∷ b) e f =
    let p = and_parts (folded_unit n == folded_unit x) (folds_same name a) e in
    let q = and_parts (folded_unit n == folded_unit y) (folds_same name b) f in
    and_from (folded_unit x == folded_unit y) (folds_same a b)
    (eq-eqb (folded_unit x) (folded_unit y)
    (sym (eqb-true (folded_unit n) (folded_unit x) p.0) ∙ eqb-true (folded_unit n) (folded_unit y) q.0))
    (both_fold name a b p.1 q.1)

-- a name that folds to one of two that differ does not fold to the other
pub not_named : (name a b : List ℕ) → folds_same b a ≡ false → folds_same name b ≡ true → folds_same name a ≡ false
not_named name a b apart e = go (folds_same name a) refl
  where
    go : (v : Bool) → folds_same name a ≡ v → folds_same name a ≡ false
    go false f = f
    go true f = absurd (let g = both_fold name b a e f in cc)

-- offsets whose names differ by fold
abbrev pub Distinct : (ℕ → List ℕ) → List ℕ → Type 0
Distinct name [] = Unit {0}
Distinct name (o ∷ rest) = ((z : ℕ) → In rest z → folds_same (name z) (name o) ≡ false) × Distinct name rest

apart_no : (name n : List ℕ) (m : List ℕ) → folds_same m n ≡ false → folds_same name m ≡ true
    → folds_same name n ≡ true → ⊥
apart_no name n m d e f = let g = both_fold name m n e f in cc

one_of : (view : ℕ → List ℕ) (offsets : List ℕ) (name : List ℕ) (y z : ℕ) → Distinct view offsets → In offsets y
    → In offsets z → folds_same name (view y) ≡ true → folds_same name (view z) ≡ true → y ≡ z
one_of view [] name y z d h i e f = absurd h
one_of view (o ∷ rest) name y z d (inl h) (inl i) e f = sym h ∙ i
one_of view (o ∷ rest) name y z d (inl h) (inr i) e f =
    absurd (apart_no name (view y) (view z) (subst (λ (w : ℕ). folds_same (view z) (view w) ≡ false) h (d.0 z i)) f e)
one_of view (o ∷ rest) name y z d (inr h) (inl i) e f =
    absurd (apart_no name (view z) (view y) (subst (λ (w : ℕ). folds_same (view y) (view w) ≡ false) i (d.0 y h)) e f)
one_of view (o ∷ rest) name y z d (inr h) (inr i) e f = one_of view rest name y z d.1 h i e f

-- ---- what a key that stands lists

pub places_are : (cells : Cells) (at : ℕ) (h : Head) (offsets : List ℕ) → KeyStands cells at h offsets
    → child_places cells at ≡ offsets
unfolding child_places
places_are cells at h offsets k =
    of_node_is cells at k.node
    (λ m. if m.child_count == 0 then [] else of_read (entries_at cells m.child_list) (λ os. os)) k.read
    ∙ go (k.node.child_count == 0) k.children
  where
    go : (b : Bool)
        → MatchBool b (offsets ≡ [])
        ((entries_at cells k.node.child_list ≡ Ok offsets) × (length offsets ≡ k.node.child_count))
        → cond b [] (of_read (entries_at cells k.node.child_list) (λ os. os)) ≡ offsets
    go true e = sym e
    go false e = ap (λ (r : Result (List ℕ) HiveFaultKind). of_read r (λ os. os)) e.0

pub name_is : (cells : Cells) (at : ℕ) (h : Head) (offsets : List ℕ) → KeyStands cells at h offsets
    → node_name cells at ≡ h.name
name_is cells at h offsets k =
    ap (λ (r : Result KeyNode HiveFaultKind). first_or_empty (names_of (λ (n : KeyNode). n.name) r)) k.read ∙ sym k.name

pub tree_name : (cells : Cells) (at : ℕ) (t : Tree) → Stands cells at t → node_name cells at ≡ (head t).name
tree_name cells at (key h ts) s = name_is cells at h s.0 s.1

pub first_part : {A B : Type 0} (r : Result A HiveFaultKind) (f : A → Result B HiveFaultKind) (y : B) → (r >>= f) ≡ Ok y
    → (x : A) × (r ≡ Ok x) × (f x ≡ Ok y)
first_part (Ok x) f y e = (x, refl, e)
first_part (Err k) f y e = absurd cc

-- a node with a name reads as such
named_reads : (cells : Cells) (at : ℕ) (n : KeyNode) → reading key_node_at cells at ≡ Ok n → 0 < length n.name
    → reading (node_at false) cells at ≡ Ok n
unfolding node_at
named_reads cells at n read some =
    let p = first_part (cells.payload at) key_node_at n read in
    ap (λ q. q >>= λ bytes. key_node_at bytes >>= λ m. if (length m.name == 0) && not false then Err FormName else Ok m)
    p.1
    ∙ ap (λ q. q >>= λ m. if (length m.name == 0) && not false then Err FormName else Ok m) p.2
    ∙ go (length n.name == 0) refl
  where
    go : (b : Bool) → (length n.name == 0) ≡ b → cond (b && true) (Err FormName) (Ok n) ≡ Ok n
    go true e = absurd (let z : length n.name ≡ 0 = eqb-true (length n.name) 0 e in omega arith)
    go false e = refl

tree_named : (cells : Cells) (at : ℕ) (t : Tree) → Stands cells at t → 0 < length (head t).name → IsNamedNode cells at
tree_named cells at (key h ts) s some =
    record {
      node = s.1.node;
      read = named_reads cells at s.1.node s.1.read
          (let e : length h.name ≡ length s.1.node.name = ap length s.1.name in omega arith);
    }

-- a child's tree
pub record HasTree (cells : Cells) (y most : ℕ) (ts : Trees) : Type 0 where
  pub tree : Tree
  pub stands : Stands cells y tree
  pub names : HasApartNames tree
  pub low : levels tree ≤ most
  pub listed_there : In (listed ts) tree

pub tree_of : (cells : Cells) (offsets : List ℕ) (ts : Trees) (y : ℕ) → AllStand cells offsets ts → HaveApartNames ts
    → In offsets y → HasTree cells y (most_levels ts) ts
tree_of cells offsets none y e n h = absurd (subst (λ (xs : List ℕ). In xs y) e h)
tree_of cells offsets (more t ts) y a n h =
    go (tree_of cells a.1 ts y a.4 n.1) (subst (λ (xs : List ℕ). In xs y) a.2 h)
  where
    go : (In a.1 y → HasTree cells y (most_levels ts) ts) → In (a.0 ∷ a.1) y
        → HasTree cells y (max (levels t) (most_levels ts)) (more t ts)
    go deep (inl e) =
        record {
          tree = t;
          stands = subst (λ (z : ℕ). Stands cells z t) e a.3;
          names = n.0;
          low = omega arith;
          listed_there = inl refl;
        }
    go deep (inr h) =
        let d = deep h in record {
          tree = d.tree;
          stands = d.stands;
          names = d.names;
          low = (let l = d.low in omega arith);
          listed_there = inr d.listed_there;
        }

all_in : (P : Tree → Type 0) (xs : List Tree) (x : Tree) → All P xs → In xs x → P x
all_in P [] x a h = absurd h
all_in P (y ∷ xs) x a (inl e) = subst P e (a 0 y (omega arith))
all_in P (y ∷ xs) x a (inr h) = all_in P xs x (λ k d within. a (suc k) d (omega arith)) h

pub keys_distinct : (cells : Cells) (offsets : List ℕ) (ts : Trees) → AllStand cells offsets ts → HaveApartNames ts
    → KeysDiffer (listed ts) → Distinct (node_name cells) offsets
keys_distinct cells offsets none e n d = subst (Distinct (node_name cells)) (sym e) tt
keys_distinct cells offsets (more t ts) a n d =
    subst (Distinct (node_name cells)) (sym a.2) (
      λ z h.
          let other = tree_of cells a.1 ts z a.4 n.1 h in
          ap (λ (m : List ℕ). folds_same m (node_name cells a.0)) (tree_name cells z other.tree other.stands)
          ∙ ap (folds_same (head other.tree).name) (tree_name cells a.0 t a.3)
          ∙ all_in (λ s. folds_same (head s).name (head t).name ≡ false) (listed ts) other.tree
          (λ k e within. d 0 (suc k) e (omega arith) (omega arith)) other.listed_there,
      keys_distinct cells a.1 ts a.4 n.1 (λ i j e lt within. d (suc i) (suc j) e (omega arith) (omega arith)),
    )

-- ---- values

-- a value's item
pub record HasItem (cells : Cells) (v : ℕ) (items : List Item) : Type 0 where
  pub item : Item
  pub there : KeyValue
  pub read : reading key_value_at cells v ≡ Ok there
  pub name : there.name ≡ item.name
  pub listed_there : In items item

abbrev pub item_from : KeyValue → List ℕ → Item
item_from v bytes = record { name = v.name; kind = v.kind; bytes = bytes }

abbrev done : {A : Type 0} → A → Result A HiveFaultKind
done x = Ok x

ok_item : (x y : Item) → done x ≡ done y → x ≡ y
ok_item x y e = cc

pub ok_items : (x y : List Item) → done x ≡ done y → x ≡ y
ok_items x y e = cc

pub item_value : (cells : Cells) (v : ℕ) (item : Item) → item_at cells v ≡ Ok item
    → (k : KeyValue) × (reading key_value_at cells v ≡ Ok k) × (k.name ≡ item.name)
unfolding item_at
item_value cells v item e =
    let p = first_part (reading key_value_at cells v)
    (λ value. data_of cells value >>= λ bytes. Ok (item_from value bytes)) item e in
    let d = first_part (data_of cells p.0) (λ bytes. Ok (item_from p.0 bytes)) item p.2 in
    (p.0, p.1, ap (λ i. i.name) (ok_item (item_from p.0 d.0) item d.2))

pub item_of : (cells : Cells) (offsets : List ℕ) (items : List Item) (v : ℕ) → items_at cells offsets ≡ Ok items
    → In offsets v → HasItem cells v items
item_of cells [] items v e h = absurd h
item_of cells (at ∷ rest) items v e h = go (item_of cells rest others.0 v others.1) h
  where
    one : (item : Item) × (item_at cells at ≡ Ok item) × ((items_at cells rest >>= λ o. Ok (item ∷ o)) ≡ Ok items)
    one = first_part (item_at cells at) (λ item. items_at cells rest >>= λ o. Ok (item ∷ o)) items e

    others : (o : List Item) × (items_at cells rest ≡ Ok o) × (done (one.0 ∷ o) ≡ Ok items)
    others = first_part (items_at cells rest) (λ o. Ok (one.0 ∷ o)) items one.2

    same : one.0 ∷ others.0 ≡ items
    same = ok_items (one.0 ∷ others.0) items others.2

    go : (In rest v → HasItem cells v others.0) → In (at ∷ rest) v → HasItem cells v items
    go deep (inl w) =
        let k = item_value cells at one.0 one.1 in
        record {
          item = one.0;
          there = k.0;
          read = subst (λ (z : ℕ). reading key_value_at cells z ≡ Ok k.0) w k.1;
          name = k.2;
          listed_there = subst (λ (l : List Item). In l one.0) same (inl refl);
        }
    go deep (inr h) =
        let d = deep h in
        record {
          item = d.item;
          there = d.there;
          read = d.read;
          name = d.name;
          listed_there = subst (λ (l : List Item). In l d.item) same (inr d.listed_there);
        }

value_named : (cells : Cells) (v : ℕ) (items : List Item) (i : HasItem cells v items)
    → value_name cells v ≡ i.item.name
value_named cells v items i =
    ap (λ (r : Result KeyValue HiveFaultKind). first_or_empty (names_of (λ (k : KeyValue). k.name) r)) i.read ∙ i.name

items_in : (P : Item → Type 0) (xs : List Item) (x : Item) → All P xs → In xs x → P x
items_in P [] x a h = absurd h
items_in P (y ∷ xs) x a (inl e) = subst P e (a 0 y (omega arith))
items_in P (y ∷ xs) x a (inr h) = items_in P xs x (λ k d within. a (suc k) d (omega arith)) h

items_distinct : (cells : Cells) (offsets : List ℕ) (items : List Item) → items_at cells offsets ≡ Ok items
    → ItemsDiffer items → Distinct (value_name cells) offsets
items_distinct cells [] items e d = tt
items_distinct cells (at ∷ rest) items e d =
    let one = first_part (item_at cells at) (λ item. items_at cells rest >>= λ o. Ok (item ∷ o)) items e in
    let others = first_part (items_at cells rest) (λ o. Ok (one.0 ∷ o)) items one.2 in
    let same = ok_items (one.0 ∷ others.0) items others.2 in
    let k = item_value cells at one.0 one.1 in
    let p = subst ItemsDiffer (sym same) d in (
      λ z h.
          let other = item_of cells rest others.0 z others.1 h in
          ap (λ (m : List ℕ). folds_same m (value_name cells at)) (value_named cells z others.0 other)
          ∙ ap (folds_same other.item.name)
          (ap (λ (r : Result KeyValue HiveFaultKind). first_or_empty (names_of (λ (w : KeyValue). w.name) r)) k.1 ∙ k.2)
          ∙ items_in (λ i. folds_same i.name one.0.name ≡ false) others.0 other.item
          (λ j w within. p 0 (suc j) w (omega arith) (omega arith)) other.listed_there,
      items_distinct cells rest others.0 others.1 (λ i j w lt within. p (suc i) (suc j) w (omega arith) (omega arith)),
    )

-- the offsets of the values of a key that stands
pub record HasItems (cells : Cells) (at : ℕ) (items : List Item) : Type 0 where
  pub offsets : List ℕ
  pub places : value_places cells at ≡ offsets
  pub read : items_at cells offsets ≡ Ok items

pub record HasOffsets (cells : Cells) (items : List Item) (listing : List ℕ) : Type 0 where
  pub offsets : List ℕ
  pub places : listing ≡ offsets
  pub read : items_at cells offsets ≡ Ok items

pub items_are : (cells : Cells) (at : ℕ) (h : Head) (offsets : List ℕ) → KeyStands cells at h offsets
    → HasItems cells at h.values
unfolding value_places values_of
items_are cells at h offsets k =
    let r = go (k.node.value_count == 0) k.values in
    record {
      offsets = r.offsets;
      places = of_node_is cells at k.node
          (λ n. if n.value_count == 0 then [] else of_read (reading (offsets_in n.value_count) cells n.value_list)
          (λ os. os)) k.read ∙ r.places;
      read = r.read;
    }
  where
    go : (b : Bool)
        → cond b (Ok []) (reading (offsets_in k.node.value_count) cells k.node.value_list >>= items_at cells)
        ≡ Ok h.values
        → HasOffsets cells h.values
        (cond b [] (of_read (reading (offsets_in k.node.value_count) cells k.node.value_list) (λ os. os)))
    go true e = record { offsets = []; places = refl; read = e }
    go false e =
        let p = first_part (reading (offsets_in k.node.value_count) cells k.node.value_list) (items_at cells)
        h.values e in
        record {
          offsets = p.0;
          places = ap (λ (r : Result (List ℕ) HiveFaultKind). of_read r (λ os. os)) p.1;
          read = p.2;
        }

-- ---- the whole

pub sound_at : (cells : Cells) (x : ℕ) (t : Tree) → Stands cells x t → HasApartNames t → IsSound cells x
sound_at cells x (key h ts) s n =
    let places = places_are cells x h s.0 s.1 in
    let v = items_are cells x h s.0 s.1 in
    record {
      child = λ y i. let c = tree_of cells s.0 ts y s.2 n.3 (subst (λ (xs : List ℕ). In xs y) places i) in
          tree_named cells y c.tree c.stands
          (all_in (λ u. 0 < length (head u).name) (listed ts) c.tree n.1 c.listed_there);
      one_child = λ name y z i j. one_of (node_name cells) s.0 name y z (keys_distinct cells s.0 ts s.2 n.3 n.2)
          (subst (λ (xs : List ℕ). In xs y) places i) (subst (λ (xs : List ℕ). In xs z) places j);
      value = λ w i. let c = item_of cells v.offsets h.values w v.read (subst (λ (xs : List ℕ). In xs w) v.places i) in
          record { value = c.there; read = c.read };
      one_value = λ name y z i j. one_of (value_name cells) v.offsets name y z
          (items_distinct cells v.offsets h.values v.read n.0)
          (subst (λ (xs : List ℕ). In xs y) v.places i) (subst (λ (xs : List ℕ). In xs z) v.places j);
    }

-- what stands where a path leads
pub record StandsThere (cells : Cells) (x depth most : ℕ) : Type 0 where
  pub tree : Tree
  pub stands : Stands cells x tree
  pub names : HasApartNames tree
  pub low : depth + levels tree ≤ most

pub standing : (cells : Cells) (path : List (List ℕ)) (at x : ℕ) (t : Tree) → Stands cells at t → HasApartNames t
    → Reaches cells at path x → StandsThere cells x (length path) (levels t)
standing cells [] at x t s n r =
    record { tree = t; stands = subst (λ (z : ℕ). Stands cells z t) r s; names = n; low = omega arith }
standing cells (m ∷ path) at x (key h ts) s n r =
    let c = tree_of cells s.0 ts r.0 s.2 n.3 (subst (λ (xs : List ℕ). In xs r.0) (places_are cells at h s.0 s.1) r.1) in
    let d = standing cells path r.0 x c.tree c.stands c.names r.3 in
    record { tree = d.tree; stands = d.stands; names = d.names; low = (let a = d.low in let b = c.low in omega arith) }

some_levels : (t : Tree) → 0 < levels t
some_levels (key h ts) = omega arith

-- each key of a tree that stands, with names apart, is sound
pub sound_tree : (cells : Cells) (root : ℕ) (t : Tree) → Stands cells root t → HasApartNames t → AllSound cells root
sound_tree cells root t s n =
    record { each = λ path x r. let d = standing cells path root x t s n r in sound_at cells x d.tree d.stands d.names }

pub sound_hive : (cells : Cells) (root : ℕ) (t : Tree) → IsWellFormed cells root t → IsSoundHive cells root
sound_hive cells root t w = record {
  all = record {
    each = λ path x r. let d = standing cells path root x t w.stands w.names r in
        sound_at cells x d.tree d.stands d.names;
  };
  shallow = λ path x r. let d = standing cells path root x t w.stands w.names r in let a = d.low in let b = w.levels in
      let c = some_levels d.tree in omega arith;
}
