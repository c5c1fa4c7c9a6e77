-- How much of the strain steps take at the least, by the lists that each writes again.
use Rattle.std.proofs.Common.{◌≡◌, ◌≤◌, ◌<◌, ℕ, ◌+◌, ◌*◌, ◌/◌, ◌%◌, Bool, true, false, cond, List, [], ◌∷◌, ◌++◌, length, replicate, Option, Some, None, Ok, Err, inl, inr, refl, sym, ap, subst, ◌∙◌, arith}
use Rattle.std.specs.Prelude.{◌==◌, nat_lt, min, find, is_some}
use Rattle.std.specs.Option.{is_none, option_map_or}
use Rattle.std.proofs.lemmas.List.Sums.{sum_by-cons}
use Rattle.std.proofs.lemmas.Bool.{cases_Bool, cases_lt, both_ways, le-ltb, lt-ltb, ne_eqb}
use Rattle.nt_bytes.specs.declared.version.HiveVersion.{HiveVersion}
use Rattle.hive_model.specs.Bins.{Bin, bins_size, look_up}
use Rattle.hive_model.specs.Edit.{Step, Refusal, no_key, name_too_long, data_too_long, too_deep, name_tests, has_child, at_first, of_items, unless, with_item, set_value, delete_value, make_key, delete_key, copy_child, add_child, after_step, after_steps}
use Rattle.hive_model.specs.Valid.{deepest_level}
use Rattle.hive_model.specs.Footprint.{has_key, key_place, value_list_sizes, value_list_sizes_in, named_value_sizes_in, list_sizes, list_sizes_in, key_sizes_in, added_sizes_in, needed_sizes, room_of, strain_of}
use Rattle.hive_model.specs.KeyNode.{KeyNode, key_node_at}
use Rattle.hive_model.specs.Packed.{rounded}
use Rattle.hive_model.specs.Size.{bulk_of, cell, part_count}
use Rattle.hive_model.specs.Tree.{Item, Tree, head, children, find_key, is_item}
use Rattle.hive_model.specs.Tree.{key as tree_key}
use Rattle.hive_model.specs.Walk.{reading}
use Rattle.edited_cells.specs.Sizes.{AreGrown}
use Rattle.edited_cells.proofs.Grown.{strain_behind}
use Rattle.edited_cells.proofs.Out.{placed_at}
use Rattle.edited_cells.proofs.RoomLemmas.{found_changed, room_some, some_all, some_left, strain_least, strain_one, room_cons}
use Rattle.hive_edit.specs.Hive.{HiveCells, hive_of, IsHive}
use Rattle.hive_edit.specs.Making.{made_tree}
use Rattle.hive_edit.specs.NewValue.{set_tree}
use Rattle.hive_edit.specs.Standing.{tree_of}
use Rattle.hive_edit.specs.Stepped.{IsStepped}
use Rattle.hive_edit.specs.Steps.{AreStepped, AreStrained, IsLeastRoom, values_in, children_in, sets_value, values_set}
use Rattle.hive_edit.proofs.EditLemmas.{the_tree}
use Rattle.hive_edit.proofs.JudgeLemmas.{counted_children, nothing_made, room_both, room_alike}
use Rattle.hive_edit.proofs.KeyLemmas.{node_read}
use Rattle.hive_edit.proofs.NewValueLemmas.{can_add, kept_name, values_many}
use Rattle.hive_look.proofs.ParentLemmas.{IsParent}
use Rattle.hive_look.proofs.PlaceLemmas.{IsPlaceOf, key_there, place_of_key}
use Rattle.hive_look.proofs.ResultLemmas.{some}
use Rattle.hive_edit.proofs.SteppedLemmas.{same_version, steps_made, then_ok}
use Rattle.hive_cells.specs.Opened.{Opened}

-- ---- counts by the node

-- the place of a hive's key
abbrev place_in_hive : List Bin → HiveVersion → List (List ℕ) → ℕ → Option ℕ
place_in_hive bins version path root = key_place (look_up version bins) path root

pub no_count : (f : Tree → ℕ) (bins : Opened) (root : ℕ) (version : HiveVersion) (bulk : ℕ) (h : HiveCells)
    (path : List (List ℕ))
    → IsHive bins.bins root version bulk → hive_of bins root version ≡ h → place_in_hive bins.bins version path root ≡ None
    → option_map_or f (find_key path h.tree) 0 ≡ 0
no_count f bins root version bulk h path is view e =
    subst (λ (g : HiveCells). option_map_or f (find_key path g.tree) 0 ≡ 0) view
    (go (find_key path t) (subst (λ (o : Option ℕ). IsPlaceOf (look_up version bins.bins) o (find_key path t)) e
    (place_of_key (look_up version bins.bins) path root t is.stands)))
  where
    t : Tree
    t = tree_of (look_up version bins.bins) root

    go : (u : Option Tree) → IsPlaceOf (look_up version bins.bins) None u → option_map_or f u 0 ≡ 0
    go None p = refl
    go (Some v) p = absurd p

pub values_seen : (bins : Opened) (root : ℕ) (version : HiveVersion) (bulk : ℕ) (h : HiveCells) (path : List (List ℕ))
    (x n : ℕ)
    → IsHive bins.bins root version bulk → hive_of bins root version ≡ h → place_in_hive bins.bins version path root ≡ some x
    → ((m : KeyNode) → reading key_node_at (look_up version bins.bins) x ≡ Ok m → n ≡ m.value_count)
    → n ≡ values_in path h.tree
values_seen bins root version bulk h path x n is view e read =
    let b = look_up version bins.bins in
    let t = tree_of b root in
    let there = key_there b path root t x is.stands e in
    let can = can_add version bins.bins root t path x is.stands e in
    let many = read can.node can.read ∙ values_many version bins.bins x there.there there.well can in
    subst (λ (g : HiveCells). n ≡ values_in path g.tree) view
    (many ∙ sym (ap (λ (o : Option Tree). option_map_or (λ (k : Tree). length (head k).values) o 0) there.found))

pub children_seen : (bins : Opened) (root : ℕ) (version : HiveVersion) (bulk : ℕ) (h : HiveCells)
    (path : List (List ℕ)) (x n : ℕ)
    → IsHive bins.bins root version bulk → hive_of bins root version ≡ h → place_in_hive bins.bins version path root ≡ some x
    → ((m : KeyNode) → reading key_node_at (look_up version bins.bins) x ≡ Ok m → n ≡ m.child_count)
    → n ≡ children_in path h.tree
children_seen bins root version bulk h path x n is view e read =
    let b = look_up version bins.bins in
    let t = tree_of b root in
    let there = key_there b path root t x is.stands e in
    let placed = placed_at b path root x e in
    let node = node_read b x there.there there.well.stands in
    let parent : IsParent b root t placed.stored x there.there node.0 =
    record { well = is.stands; reached = placed.reached; below = there.well; read = node.1 } in
    let many = read node.0 node.1 ∙ counted_children b root t placed.stored x there.there node.0 parent in
    subst (λ (g : HiveCells). n ≡ children_in path g.tree) view
    (many ∙ sym (ap (λ (o : Option Tree). option_map_or (λ (k : Tree). length (children k)) o 0) there.found))

-- ---- room of lists

room_front : (xs ys : List ℕ) → room_of xs ≤ room_of (xs ++ ys)
room_front xs ys = room_some xs (xs ++ ys) (some_left xs ys)

-- a cell has a page of room at the least
page : (size : ℕ) → 4096 ≤ rounded (cell size + 32)
page size = omega arith

-- the room of a list is at least a page, and at least so much
pub record HasRoom (size room : ℕ) : Type 0 where
  pub page : 4096 ≤ room
  pub least : size ≤ room

values_least : (n : ℕ) → (n ≡ 0 → ⊥) → HasRoom (4 * n) (room_of (value_list_sizes n))
values_least n some_values =
    subst (λ (l : List ℕ). HasRoom (4 * n) (room_of l)) (sym (one_list (ne_eqb n 0 some_values)))
    (let one = room_cons (cell (4 * n)) [] in
    let p = page (4 * n) in
    record { page = omega (arith, one, p); least = long (room_of (cell (4 * n) ∷ [])) one })
  where
    one_list : (n == 0) ≡ false → value_list_sizes n ≡ cell (4 * n) ∷ []
    one_list a = λ i. cond (a i) [] (cell (4 * n) ∷ [])

    long : (w : ℕ) → w ≡ rounded (cell (4 * n) + 32) + 0 → 4 * n ≤ w
    long w e = omega (arith, e)

lists_least : (n : ℕ) → (n ≡ 0 → ⊥) → HasRoom (n / 500 * 4096) (room_of (list_sizes n))
unfolding list_sizes
lists_least n some_children = elim (cases_lt n 501) [
  | inl few ↦ subst (λ (l : List ℕ). HasRoom (n / 500 * 4096) (room_of l))
      (sym (one_list (ne_eqb n 0 some_children) (lt-ltb n 501 few)))
      (let one = room_cons (cell (4 + 8 * n)) [] in
      let p = page (4 + 8 * n) in
      record { page = omega (arith, one, p); least = short (room_of (cell (4 + 8 * n) ∷ [])) one few })
  | inr many ↦ subst (λ (l : List ℕ). HasRoom (n / 500 * 4096) (room_of l))
      (sym (lists (ne_eqb n 0 some_children) (le-ltb n 501 many)))
      (let one = room_cons (cell (4 + 4 * part_count n)) (full ++ rest) in
      let two = room_both full rest in
      let three = room_alike (n / 500) in
      let p = page (4 + 4 * part_count n) in
      record {
        page = omega (arith, one, p);
        least = long (room_of (cell (4 + 4 * part_count n) ∷ (full ++ rest)))
            (rounded (cell (4 + 4 * part_count n) + 32))
            (room_of (full ++ rest)) (room_of full) (room_of rest) one two three;
      })
]
  where
    full : List ℕ
    full = replicate (n / 500) (cell 4004)

    rest : List ℕ
    rest = cond (n % 500 == 0) [] (cell (4 + 8 * (n % 500)) ∷ [])

    one_list : (n == 0) ≡ false → nat_lt n 501 ≡ true → list_sizes n ≡ cell (4 + 8 * n) ∷ []
    one_list a b = λ i. cond (a i) []
        (cond (b i) (cell (4 + 8 * n) ∷ []) (cell (4 + 4 * part_count n) ∷ (full ++ rest)))

    lists : (n == 0) ≡ false → nat_lt n 501 ≡ false → list_sizes n ≡ cell (4 + 4 * part_count n) ∷ (full ++ rest)
    lists a b = λ i. cond (a i) [] (cond (b i) (cell (4 + 8 * n) ∷ []) (cell (4 + 4 * part_count n) ∷ (full ++ rest)))

    short : (w : ℕ) → w ≡ rounded (cell (4 + 8 * n) + 32) + 0 → n < 501 → n / 500 * 4096 ≤ w
    short w e few = omega (arith, e, few)

    long : (w x y f r : ℕ) → w ≡ x + y → y ≡ f + r → f ≡ 4096 * (n / 500) → n / 500 * 4096 ≤ w
    long w x y f r a b c = omega (arith, a, b, c)

-- ---- what a step needs at the least

some_count : (a b : ℕ) → a ≡ b → (a ≡ 0 → ⊥) → b ≡ 0 → ⊥
some_count a b e none z = none (e ∙ z)

pub values_found : (path : List (List ℕ)) (t : Tree) (n : ℕ) → n ≡ values_in path t → (n ≡ 0 → ⊥)
    → HasRoom (4 * n) (room_of (value_list_sizes_in path t))
values_found path t n e none = go (find_key path t) e
  where
    go : (o : Option Tree) → n ≡ option_map_or (λ (k : Tree). length (head k).values) o 0
        → HasRoom (4 * n) (room_of (option_map_or (λ (k : Tree). value_list_sizes (length (head k).values)) o []))
    go None h = absurd (none h)
    go (Some k) h = subst (λ (m : ℕ). HasRoom (4 * m) (room_of (value_list_sizes (length (head k).values)))) (sym h)
        (values_least (length (head k).values) (some_count n (length (head k).values) h none))

pub lists_found : (path : List (List ℕ)) (t : Tree) (n : ℕ) → n ≡ children_in path t → (n ≡ 0 → ⊥)
    → HasRoom (n / 500 * 4096) (room_of (list_sizes_in path t))
lists_found path t n e none = go (find_key path t) e
  where
    go : (o : Option Tree) → n ≡ option_map_or (λ (k : Tree). length (children k)) o 0
        → HasRoom (n / 500 * 4096) (room_of (option_map_or (λ (k : Tree). list_sizes (length (children k))) o []))
    go None h = absurd (none h)
    go (Some k) h = subst (λ (m : ℕ). HasRoom (m / 500 * 4096) (room_of (list_sizes (length (children k))))) (sym h)
        (lists_least (length (children k)) (some_count n (length (children k)) h none))

pub set_least : (h g : HiveCells) (path : List (List ℕ)) (name : List ℕ) (kind : ℕ) (bytes : List ℕ) (room : ℕ)
    → room ≤ room_of (value_list_sizes_in path g.tree) → IsLeastRoom h (set_value path name kind bytes) g room
set_least h g path name kind bytes room least =
    let front = room_front (value_list_sizes_in path g.tree) (named_value_sizes_in h.version path name g.tree) in
    omega (arith, front, least)

-- where the tests pass, the result is the tree that they guard
made_is : (tests : List (Bool × Refusal)) (x u : Tree) → unless tests x ≡ the_tree u → x ≡ u
made_is [] x u e = let same : x ≡ u = cc in same
made_is (test ∷ tests) x u e = go test.0 (made_is tests x u) e
  where
    go : (b : Bool) → (unless tests x ≡ the_tree u → x ≡ u) → cond b (Err test.1) (unless tests x) ≡ the_tree u → x ≡ u
    go true deep h = absurd cc
    go false deep h = deep h

-- a key that was there is not made again
made_again : (parent : List (List ℕ)) (name : List ℕ) (t u : Tree) → has_key parent name t ≡ true
    → after_step (make_key parent name) t ≡ the_tree u → u ≡ t
made_again parent name t u has e =
    sym (made_is (tests parent name t) (made_tree parent name t) u e) ∙ go (find_key parent t) refl
  where
    tests : List (List ℕ) → List ℕ → Tree → List (Bool × Refusal)
    tests parent name t =
        (is_none (find_key parent t), no_key) ∷ name_tests name ++ (nat_lt deepest_level (length parent + 2), too_deep)
        ∷ []

    go : (o : Option Tree) → find_key parent t ≡ o → made_tree parent name t ≡ t
    go (Some k) f = nothing_made parent name t k f has
    go None f = absurd (both_ways (has_key parent name t)
        (ap (λ (o : Option Tree). option_map_or (has_child name) o false) f) has)

pub made_least : (h g : HiveCells) (parent : List (List ℕ)) (name : List ℕ) (before room : ℕ)
    → IsStepped h (make_key parent name) g
    → before ≡ bulk_of h.version h.tree → (before ≡ bulk_of g.version g.tree → room ≡ 0)
    → room ≤ room_of (list_sizes_in parent g.tree)
    → IsLeastRoom h (make_key parent name) g room
made_least h g parent name before room s bulk none most = elim (cases_Bool (has_key parent name h.tree)) [
  | inl has ↦
      let same = made_again parent name h.tree g.tree has s.tree in
      let z : room ≡ 0 = none (bulk ∙ (λ i. bulk_of (sym s.version i) (sym same i))) in
      omega (arith, z)
  | inr new ↦
      let all = added_sizes_in h.version parent name g.tree in
      let needs : needed_sizes h.version h.tree (make_key parent name) g.tree ≡ all =
      ap (λ (b : Bool). cond b [] all) new in
      let front = room_front (list_sizes_in parent g.tree) (key_sizes_in h.version parent name g.tree) in
      subst (λ (l : List ℕ). room ≤ room_of l) (sym needs)
      (below room (room_of (list_sizes_in parent g.tree)) (room_of all) most front)
]
  where
    below : (a b c : ℕ) → a ≤ b → b ≤ c → a ≤ c
    below a b c x y = omega (arith, x, y)

-- ---- the strain of all

-- one step more, which takes at most its room
pub grown_more : (version : HiveVersion) (bytes now later : ℕ) (t u w : Tree) (steps : List Step) (step : Step)
    → AreGrown version bytes t steps now u
    → after_step step u ≡ the_tree w → later ≤ now + room_of (needed_sizes version u step w)
    → AreGrown version bytes t (steps ++ step ∷ []) later w
grown_more version bytes now later t u w [] step g ok most =
    let start = g.0 in
    let whole : later ≤ bytes + room_of (needed_sizes version t step w) =
    subst (λ (z : Tree). later ≤ bytes + room_of (needed_sizes version z step w)) (sym g.1)
    (omega (arith, most, start)) in
    let ready : after_step step t ≡ the_tree w = subst (λ (z : Tree). after_step step z ≡ the_tree w) (sym g.1) ok in (
      w,
      later,
      needed_sizes version t step w,
      ready,
      some_all (needed_sizes version t step w),
      whole,
      (omega arith, refl),
    )
grown_more version bytes now later t u w (first ∷ steps) step g ok most =
    (g.0, g.1, g.2, g.3, g.4, g.5, grown_more version g.1 now later g.0 u w steps step g.6 ok most)

-- steps that have taken more than the greatest size of bins data are strained, with all after them
pub taken_strained : (version : HiveVersion) (bytes room : ℕ) (t u : Tree) (steps further : List Step)
    → AreGrown version bytes t steps (bytes + room) u → 16777216 < room
    → 16777216 < strain_of version bytes t (steps ++ further)
taken_strained version bytes room t u steps further g over =
    let b = strain_behind version bytes (bytes + room) t u steps further g in
    let l = strain_least version (bytes + room) u further in
    omega (arith, b, l, over)

-- the steps so far and one more, which has taken at least so much
pub step_grown : (h mid g : HiveCells) (front : List Step) (step : Step) (room more sum : ℕ) → AreStepped h front mid
    → AreGrown h.version (bins_size h.bins) h.tree front (bins_size h.bins + room) mid.tree → IsStepped mid step g
    → IsLeastRoom mid step g more
    → sum ≡ min (room + more) 18446744073709551615
    → AreGrown h.version (bins_size h.bins) h.tree (front ++ step ∷ []) (bins_size h.bins + sum) g.tree
step_grown h mid g front step room more sum stepped grown made least capped =
    let needs = room_of (needed_sizes h.version mid.tree step g.tree) in
    let within : more ≤ needs =
    subst (λ (v : HiveVersion). more ≤ room_of (needed_sizes v mid.tree step g.tree))
    (same_version front h mid stepped) least in
    grown_more h.version (bins_size h.bins) (bins_size h.bins + room) (bins_size h.bins + sum)
    h.tree mid.tree g.tree front step grown made.tree
    (bound (bins_size h.bins) needs within)
  where
    bound : (bytes needs : ℕ) → more ≤ needs → bytes + sum ≤ bytes + room + needs
    bound bytes needs within = omega (arith, within, capped)

joined : (front back : List Step) (step : Step) → (front ++ step ∷ []) ++ back ≡ front ++ step ∷ back
joined [] back step = refl
joined (first ∷ front) back step = ap (λ (l : List Step). first ∷ l) (joined front back step)

-- once they have taken more than the greatest size of bins data, all are strained
pub all_taken : (h g : HiveCells) (front back : List Step) (step : Step) (sum : ℕ)
    → AreGrown h.version (bins_size h.bins) h.tree (front ++ step ∷ []) (bins_size h.bins + sum) g.tree
    → 16777216 < sum → AreStrained h (front ++ step ∷ back)
all_taken h g front back step sum grown over = λ u e.
    subst (λ (l : List Step). 16777216 < strain_of h.version (bins_size h.bins) h.tree l) (joined front back step)
    (taken_strained h.version (bins_size h.bins) sum h.tree g.tree (front ++ step ∷ []) back grown over)

-- ---- values that are set

-- a key that gets a value has one
some_item : (name : List ℕ) (kind : ℕ) (bytes : List ℕ) (vs : List Item) → 0 < length (with_item name kind bytes vs)
some_item name kind bytes [] = omega arith
some_item name kind bytes (v ∷ vs) = go (is_some (find (is_item name) (v ∷ vs)))
  where
    other : Item → Item
    other w = record w { kind = kind; bytes = bytes }

    first : (b : Bool) → 0 < length (cond b (other v ∷ vs) (v ∷ at_first (is_item name) other vs))
    first true = omega arith
    first false = omega arith

    go : (b : Bool) → 0 < length (cond b (at_first (is_item name) other (v ∷ vs))
        ((v ∷ vs) ++ record { name = name; kind = kind; bytes = bytes } ∷ []))
    go true = first (is_item name v)
    go false = omega arith

-- so its list is rewritten
some_value : (path : List (List ℕ)) (name : List ℕ) (kind : ℕ) (bytes : List ℕ) (t u : Tree)
    → after_step (set_value path name kind bytes) t ≡ the_tree u → values_in path u ≡ 0 → ⊥
some_value path name kind bytes t u e z = go (find_key path t) refl
  where
    further : List (Bool × Refusal)
    further = (nat_lt 16383 (length name), name_too_long) ∷ (nat_lt 1048576 (length bytes), data_too_long) ∷ []

    refused : (b : Bool) → b ≡ true → unless ((b, no_key) ∷ further) (set_tree path name kind bytes t) ≡ the_tree u → ⊥
    refused true is h = absurd cc
    refused false is h = absurd cc

    same : set_tree path name kind bytes t ≡ u
    same = made_is ((is_none (find_key path t), no_key) ∷ further) (set_tree path name kind bytes t) u e

    go : (o : Option Tree) → find_key path t ≡ o → ⊥
    go None f = absurd (refused (is_none (find_key path t)) (ap is_none f) e)
    go (Some (tree_key h ts)) f =
        let k = tree_key h ts in
        let found = found_changed (of_items (with_item name kind bytes)) path t k (kept_name name kind bytes) f in
        let many : values_in path u ≡ length (with_item name kind bytes h.values) =
        ap (values_in path) (sym same)
        ∙ ap (λ (o : Option Tree). option_map_or (λ (w : Tree). length (head w).values) o 0) found in
        let some = some_item name kind bytes h.values in
        absurd (omega (arith, some, many, z))

-- a step that sets a value takes a page of the strain at the least
step_page : (version : HiveVersion) (t u : Tree) (step : Step) → after_step step t ≡ the_tree u
    → 4096 * sets_value step ≤ room_of (needed_sizes version t step u)
step_page version t u (set_value path name kind bytes) e =
    let least = (values_found path u (values_in path u) refl (some_value path name kind bytes t u e)).page in
    let front = room_front (value_list_sizes_in path u) (named_value_sizes_in version path name u) in
    omega (arith, least, front)
step_page version t u (delete_value path name) e = omega arith
step_page version t u (make_key parent name) e = omega arith
step_page version t u (delete_key path) e = omega arith
step_page version t u (copy_child from to) e = omega arith
step_page version t u (add_child name k) e = omega arith

-- and so do all
steps_pages : (version : HiveVersion) (bytes : ℕ) (t u : Tree) (steps : List Step) → after_steps t steps ≡ the_tree u
    → bytes + 4096 * values_set steps ≤ strain_of version bytes t steps
steps_pages version bytes t u [] e = omega arith
steps_pages version bytes t u (step ∷ steps) e =
    let v = then_ok (after_step step t) (λ w. after_steps w steps) u e in
    let room = room_of (needed_sizes version t step v.0) in
    let deep = steps_pages version (bytes + room) v.0 u steps v.2 in
    let one = strain_one version bytes t v.0 step steps v.1 in
    let page = step_page version t v.0 step v.1 in
    let count = sum_by-cons sets_value step steps in
    omega (arith, deep, one, page, count)

-- steps that set more values than bins data may have pages are strained
pub sets_strained : (h : HiveCells) (steps : List Step) → 4096 < values_set steps → AreStrained h steps
sets_strained h steps many = λ u e.
    let v = steps_made h.version h.tree u steps e in
    let all = steps_pages h.version (bins_size h.bins) h.tree v.0 steps v.1 in
    omega (arith, all, many)
