-- The checks of well-formed cells find nothing.
use Rattle.std.proofs.Common.{◌≡◌, ℕ, zero, suc, ◌-◌, ◌<◌, ◌≤◌, Bool, true, false, not, ◌&&◌, cond, List, [], ◌∷◌, ◌++◌, length, Option, Some, None, Result, Ok, Err, refl, sym, ap, subst, ◌∙◌, arith, eq-eqb}
use Rattle.std.specs.Prelude.{MatchBool, ◌==◌, is_some, if◌then◌else◌}
use Rattle.std.specs.List.{All, list_any}
use Rattle.std.proofs.lemmas.Bool.{eqb-true}
use Rattle.nt_bytes.specs.Folding.{folds_same}
use Rattle.nt_bytes.specs.declared.fault.HiveFaultKind.{HiveFaultKind}
use Rattle.nt_bytes.specs.declared.fault.HiveFaultKind.TheVariants.{FormName, Count}
use Rattle.nt_bytes.specs.Reading.{◌>>=◌}
use Rattle.hive_model.specs.Forms.{bytes_in}
use Rattle.hive_model.specs.KeyNode.{KeyNode, key_node_at}
use Rattle.hive_model.specs.KeyValue.{KeyValue, key_value_at, data_inside}
use Rattle.hive_model.specs.Security.{security_at}
use Rattle.hive_model.specs.Lists.{SubkeyList, list_at, offsets_in}
use Rattle.hive_model.specs.Bins.{Cells}
use Rattle.hive_model.specs.Tree.{Tree, Trees, key, none, more, listed, Item}
use Rattle.hive_model.specs.Walk.{Check, tests, reading, nowhere, node_at, leaf_at, is_list_of_lists, joined_at, entries_of, entries_at, below_of, use_as, failing, name_check, names_of, class_checks, security_checks, big_data_of, segments_checks, big_checks, data_checks, value_checks, values_in_turn, values_checks, leaves_checks, entries_checks, keys_in_turn, children_checks, below_node, key_checks, all_checks, first_fault}
use Rattle.hive_model.specs.Valid.{levels, most_levels}
use Rattle.hive_model.specs.Stands.{class_of, security_of, data_or, joined_segments, big_bytes_at, data_of, item_at, items_at, values_of, ListsChildren, Stands, AllStand, HasApartNames, HaveApartNames, IsWellFormed}
use Rattle.hive_model.specs.Size.{segment_bytes, is_big, segment_part}
use Rattle.hive_model.proofs.UsedOnce.{once_from_pairs}
use Rattle.hive_read.specs.Celled.{celled_checks, celled_bytes}
use Rattle.hive_read.proofs.BigWalks.{listed_segments}
use Rattle.hive_read.proofs.Apart.{Apart, differ-apart}
use Rattle.hive_read.proofs.ValueWalks.{item_of, item-named, ok_one}
use Rattle.hive_read.proofs.KeyWalks.{key_name}
use Rattle.hive_read.proofs.Making.{item_name}
use Rattle.hive_read.proofs.Passing.{AllPass, pass-append, use-passes, below-passes, choice-passes, none-fails}

abbrev done : {A : Type 0} → A → Result A HiveFaultKind
done x = Ok x

ok_items : (x y : List Item) → done x ≡ done y → x ≡ y
ok_items x y e = cc

-- the parts of a reading that came about
pub first-part : {A B : Type 0} (r : Result A HiveFaultKind) (f : A → Result B HiveFaultKind) (y : B) → (r >>= f) ≡ Ok y
    → (x : A) × (r ≡ Ok x) × (f x ≡ Ok y)
first-part (Ok x) f y e = (x, refl, e)
first-part (Err k) f y e = absurd cc

-- a part that can be read passes its checks: the class, the descriptor, the data
class-passes : (cells : Cells) (node : KeyNode) (b : List ℕ) → class_of cells node ≡ Ok b
    → AllPass cells (class_checks cells node)
unfolding class_checks class_of
class-passes cells node b r =
    choice-passes (node.class_length == 0) false (bytes_in node.class_length) cells node.class [] b r

security-passes : (cells : Cells) (node : KeyNode) (b : List ℕ) → security_of cells node ≡ Ok b
    → AllPass cells (security_checks cells node)
unfolding security_checks security_of
security-passes cells node b r = go (node.security == nowhere) r
  where
    go : (t : Bool) → cond t (Ok []) (reading security_at cells node.security >>= λ s. Ok s.descriptor) ≡ Ok b
        → AllPass cells (cond t [] (use_as true security_at cells node.security))
    go true r = tt
    go false r = let p = first-part (reading security_at cells node.security) (λ s. Ok s.descriptor) b r in
        use-passes true security_at cells node.security p.0 p.1

segments-passes : (cells : Cells) (n : ℕ) (offsets b : List ℕ) → joined_segments cells n offsets ≡ Ok b
    → AllPass cells (segments_checks cells n offsets)
segments-passes cells n [] b r = tt
segments-passes cells n (at ∷ tail) b r =
    let part = first-part (reading (bytes_in (segment_part n)) cells at)
    (λ xs. joined_segments cells (n - segment_bytes) tail >>= λ ys. Ok (xs ++ ys)) b r in
    let others = first-part (joined_segments cells (n - segment_bytes) tail) (λ ys. Ok (part.0 ++ ys)) b part.2 in
    pass-append cells (use_as false (bytes_in (segment_part n)) cells at)
    (segments_checks cells (n - segment_bytes) tail)
    (use-passes false (bytes_in (segment_part n)) cells at part.0 part.1)
    (segments-passes cells (n - segment_bytes) tail others.0 others.1)

big-passes : (cells : Cells) (n at : ℕ) (b : List ℕ) → big_bytes_at cells n at ≡ Ok b
    → AllPass cells (big_checks cells n at)
unfolding big_checks big_bytes_at
big-passes cells n at b r =
    let big = first-part (reading (big_data_of n) cells at)
    (λ big. reading (offsets_in big.segments) cells big.list >>= joined_segments cells n) b r in
    let list = first-part (reading (offsets_in big.0.segments) cells big.0.list) (joined_segments cells n) b big.2 in
    pass-append cells (use_as false (big_data_of n) cells at)
    (below_of (reading (big_data_of n) cells at) (listed_segments cells n))
    (use-passes false (big_data_of n) cells at big.0 big.1)
    (below-passes cells (reading (big_data_of n) cells at) (listed_segments cells n) big.0 big.1
    (pass-append cells (use_as false (offsets_in big.0.segments) cells big.0.list)
    (below_of (reading (offsets_in big.0.segments) cells big.0.list) (segments_checks cells n))
    (use-passes false (offsets_in big.0.segments) cells big.0.list list.0 list.1)
    (below-passes cells (reading (offsets_in big.0.segments) cells big.0.list) (segments_checks cells n) list.0 list.1
    (segments-passes cells n list.0 b list.2))))

celled-passes : (cells : Cells) (n at : ℕ) (b : List ℕ) → celled_bytes cells n at ≡ Ok b
    → AllPass cells (celled_checks cells n at)
celled-passes cells n at b r = go (is_big cells.version n) r
  where
    go : (big : Bool) → cond big (big_bytes_at cells n at) (reading (bytes_in n) cells at) ≡ Ok b
        → AllPass cells (cond big (big_checks cells n at) (use_as false (bytes_in n) cells at))
    go true r = big-passes cells n at b r
    go false r = use-passes false (bytes_in n) cells at b r

data-passes : (cells : Cells) (value : KeyValue) (b : List ℕ) → data_of cells value ≡ Ok b
    → AllPass cells (data_checks cells value)
unfolding data_checks data_of
data-passes cells value b r = go (data_inside value) r
  where
    go : (o : Option (List ℕ)) → data_or o (celled_bytes cells value.size value.offset) ≡ Ok b
        → AllPass cells (if is_some o then [] else celled_checks cells value.size value.offset)
    go (Some d) r = tt
    go None r = celled-passes cells value.size value.offset b r

-- a name unlike those before it passes the check of names
fresh-passes : (cells : Cells) (names : List (List ℕ)) (at : ℕ) (name : List ℕ) (rest : List Check)
    → list_any (folds_same name) names ≡ false → AllPass cells rest → AllPass cells (name_check names at name ∷ rest)
fresh-passes cells names at name rest e p = (rw e refl, p)

value-passes : (cells : Cells) (names : List (List ℕ)) (at : ℕ) (item : Item) → item_at cells at ≡ Ok item
    → list_any (folds_same item.name) names ≡ false → AllPass cells (value_checks cells names at)
unfolding value_checks item_at
value-passes cells names at item r e =
    let v = first-part (reading key_value_at cells at)
    (λ value. data_of cells value >>= λ bytes. Ok (item_of value bytes)) item r in
    let d = first-part (data_of cells v.0) (λ bytes. Ok (item_of v.0 bytes)) item v.2 in
    let same : v.0.name ≡ item.name = ap (λ i. i.name) (ok_one (item_of v.0 d.0) item d.2) in
    pass-append cells (use_as false key_value_at cells at)
    (below_of (reading key_value_at cells at) (λ value. name_check names at value.name ∷ data_checks cells value))
    (use-passes false key_value_at cells at v.0 v.1)
    (below-passes cells (reading key_value_at cells at)
    (λ value. name_check names at value.name ∷ data_checks cells value) v.0 v.1
    (fresh-passes cells names at v.0.name (data_checks cells v.0) (ap (λ n. list_any (folds_same n) names) same ∙ e)
    (data-passes cells v.0 d.0 d.1)))

-- values that can be read in turn pass in turn, where their names are apart
items-passes : (cells : Cells) (names : List (List ℕ)) (offsets : List ℕ) (items : List Item)
    → items_at cells offsets ≡ Ok items → Apart item_name names items
    → AllPass cells (values_in_turn cells names offsets)
items-passes cells names [] items r a = tt
items-passes cells names (at ∷ rest) items r a =
    let one = first-part (item_at cells at) (λ item. items_at cells rest >>= λ others. Ok (item ∷ others)) items r in
    let others = first-part (items_at cells rest) (λ others. Ok (one.0 ∷ others)) items one.2 in
    let same : items ≡ one.0 ∷ others.0 = sym (ok_items (one.0 ∷ others.0) items others.2) in
    let b = subst (λ (vs : List Item). Apart item_name names vs) same a in
    pass-append cells (value_checks cells names at)
    (values_in_turn cells (names ++ names_of (λ (value : KeyValue). value.name) (reading key_value_at cells at))
    rest)
    (value-passes cells names at one.0 one.1 b.0)
    (subst (λ (n : List (List ℕ)). AllPass cells (values_in_turn cells (names ++ n) rest))
    (sym (item-named cells at one.0 one.1))
    (items-passes cells (names ++ one.0.name ∷ []) rest others.0 others.1 b.1))

values-passes : (cells : Cells) (node : KeyNode) (items : List Item) → values_of cells node ≡ Ok items
    → Apart item_name [] items → AllPass cells (values_checks cells node)
unfolding values_checks values_of
values-passes cells node items r a = go (node.value_count == 0) r
  where
    go : (b : Bool) → cond b (Ok []) (reading (offsets_in node.value_count) cells node.value_list >>= items_at cells)
        ≡ Ok items
        → AllPass cells (cond b []
        (use_as false (offsets_in node.value_count) cells node.value_list
        ++ below_of (reading (offsets_in node.value_count) cells node.value_list) (values_in_turn cells [])))
    go true r = tt
    go false r =
        let l = first-part (reading (offsets_in node.value_count) cells node.value_list) (items_at cells) items r in
        pass-append cells (use_as false (offsets_in node.value_count) cells node.value_list)
        (below_of (reading (offsets_in node.value_count) cells node.value_list) (values_in_turn cells []))
        (use-passes false (offsets_in node.value_count) cells node.value_list l.0 l.1)
        (below-passes cells (reading (offsets_in node.value_count) cells node.value_list) (values_in_turn cells [])
        l.0 l.1 (items-passes cells [] l.0 items l.2 a))

-- lists that can be read pass, of either form
leaves-passes : (cells : Cells) (lists offsets : List ℕ) → joined_at cells lists ≡ Ok offsets
    → AllPass cells (leaves_checks cells lists)
leaves-passes cells [] offsets r = tt
leaves-passes cells (at ∷ tail) offsets r =
    let leaf = first-part (reading leaf_at cells at) (λ xs. joined_at cells tail >>= λ ys. Ok (xs ++ ys)) offsets r in
    let others = first-part (joined_at cells tail) (λ ys. Ok (leaf.0 ++ ys)) offsets leaf.2 in
    pass-append cells (use_as false leaf_at cells at) (leaves_checks cells tail)
    (use-passes false leaf_at cells at leaf.0 leaf.1) (leaves-passes cells tail others.0 others.1)

abbrev leaves_of : Cells → SubkeyList → List Check
leaves_of cells list = if is_list_of_lists list.kind then leaves_checks cells list.offsets else []

entries-passes : (cells : Cells) (at : ℕ) (offsets : List ℕ) → entries_at cells at ≡ Ok offsets
    → AllPass cells (entries_checks cells at)
unfolding entries_checks entries_at
entries-passes cells at offsets r =
    let l = first-part (reading list_at cells at) (entries_of cells) offsets r in
    pass-append cells (use_as false list_at cells at) (below_of (reading list_at cells at) (leaves_of cells))
    (use-passes false list_at cells at l.0 l.1)
    (below-passes cells (reading list_at cells at) (leaves_of cells) l.0 l.1 (go l.0 (is_list_of_lists l.0.kind) l.2))
  where
    go : (list : SubkeyList) (b : Bool) → cond b (joined_at cells list.offsets) (Ok list.offsets) ≡ Ok offsets
        → AllPass cells (cond b (leaves_checks cells list.offsets) [])
    go list true r = leaves-passes cells list.offsets offsets r
    go list false r = tt

-- a node under a name, and the root's under any, may stand where it does
node-may : (root : Bool) (cells : Cells) (at : ℕ) (node : KeyNode) → reading key_node_at cells at ≡ Ok node
    → (root ≡ false → 0 < length node.name) → reading (node_at root) cells at ≡ Ok node
unfolding node_at
node-may root cells at node r h =
    let p = first-part (cells.payload at) key_node_at node r in
    ap (λ q. q >>= λ bytes. key_node_at bytes >>= λ n. if (length n.name == 0) && not root then Err FormName else Ok n)
    p.1
    ∙ ap (λ q. q >>= λ n. if (length n.name == 0) && not root then Err FormName else Ok n) p.2
    ∙ go root (length node.name == 0) h refl
  where
    go : (t b : Bool) → (t ≡ false → 0 < length node.name) → (length node.name == 0) ≡ b
        → cond (b && not t) (Err FormName) (Ok node) ≡ Ok node
    go true true h e = refl
    go true false h e = refl
    go false true h e = absurd
        (let z : length node.name ≡ 0 = eqb-true (length node.name) 0 e in let p : 0 < length node.name = h refl in
        omega arith)
    go false false h e = refl

abbrev counted : (List (List ℕ) → ℕ → List Check) → Cells → KeyNode → ℕ → List ℕ → List Check
counted checks cells node at offsets =
    tests at (failing (not (length offsets == node.child_count)) Count) ∷ keys_in_turn checks cells [] offsets

-- a node's children pass where its list is right and the keys in it pass
children-passes : (checks : List (List ℕ) → ℕ → List Check) (cells : Cells) (node : KeyNode) (at : ℕ) (offsets : List ℕ)
    → ListsChildren cells node offsets → AllPass cells (keys_in_turn checks cells [] offsets)
    → AllPass cells (children_checks checks cells node at)
unfolding children_checks
children-passes checks cells node at offsets l p = go (node.child_count == 0) l
  where
    go : (b : Bool) → MatchBool b (offsets ≡ [])
        ((entries_at cells node.child_list ≡ Ok offsets) × (length offsets ≡ node.child_count))
        → AllPass cells (cond b []
        (entries_checks cells node.child_list
        ++ below_of (entries_at cells node.child_list) (counted checks cells node at)))
    go true l = tt
    go false l =
        let same : (length offsets == node.child_count) ≡ true = eq-eqb _ _ l.1 in
        pass-append cells (entries_checks cells node.child_list)
        (below_of (entries_at cells node.child_list) (counted checks cells node at))
        (entries-passes cells node.child_list offsets l.0)
        (below-passes cells (entries_at cells node.child_list) (counted checks cells node at) offsets l.0
        (rw same refl, p))

named-first : (t : Tree) (ts : Trees) → All (λ u. 0 < length (key_name u)) (listed (more t ts))
    → 0 < length (key_name t)
named-first t ts n = n 0 t (omega arith)

named-rest : (t : Tree) (ts : Trees) → All (λ u. 0 < length (key_name u)) (listed (more t ts))
    → All (λ u. 0 < length (key_name u)) (listed ts)
named-rest t ts n = λ k d within. n (suc k) d (omega arith)

-- the node of a key that stands
node-of : (cells : Cells) (at : ℕ) (t : Tree) → Stands cells at t
    → (node : KeyNode) × (reading key_node_at cells at ≡ Ok node) × (key_name t ≡ node.name)
node-of cells at (key h ts) s = (s.1.node, s.1.read, s.1.name)

mutual
  unfolding key_checks

  key-passes : (left : ℕ) (cells : Cells) (root : Bool) (names : List (List ℕ)) (at : ℕ) (t : Tree) → Stands cells at t
      → levels t ≤ left → HasApartNames t → list_any (folds_same (key_name t)) names ≡ false
      → (root ≡ false → 0 < length (key_name t)) → AllPass cells (key_checks left cells root names at)
  key-passes zero cells root names at (key h ts) s l n a f = absurd (omega arith)
  key-passes (suc left) cells root names at (key h ts) s l n a f =
      let k = s.1 in
      let node = k.node in
      let checks = key_checks left cells false in
      let read = node-may root cells at node k.read (λ e. subst (λ (m : List ℕ). 0 < length m) k.name (f e)) in
      let new : list_any (folds_same node.name) names ≡ false =
      ap (λ (m : List ℕ). list_any (folds_same m) names) (sym k.name) ∙ a in
      let kids = keys-pass left cells [] s.0 ts s.2 (omega arith) n.3 n.1 (differ-apart key_name (listed ts) n.2) in
      pass-append cells (use_as false (node_at root) cells at)
      (below_of (reading (node_at root) cells at)
      (λ node. name_check names at node.name ∷ below_node checks cells node at))
      (use-passes false (node_at root) cells at node read)
      (below-passes cells (reading (node_at root) cells at)
      (λ node. name_check names at node.name ∷ below_node checks cells node at) node read
      (fresh-passes cells names at node.name (below_node checks cells node at) new
      (pass-append cells (class_checks cells node)
      (security_checks cells node ++ (values_checks cells node ++ children_checks checks cells node at))
      (class-passes cells node h.class k.class)
      (pass-append cells (security_checks cells node) (values_checks cells node ++ children_checks checks cells node at)
      (security-passes cells node h.security k.security)
      (pass-append cells (values_checks cells node) (children_checks checks cells node at)
      (values-passes cells node h.values k.values (differ-apart item_name h.values n.0))
      (children-passes checks cells node at s.0 k.children kids))))))

  keys-pass : (left : ℕ) (cells : Cells) (names : List (List ℕ)) (offsets : List ℕ) (ts : Trees)
      → AllStand cells offsets ts → most_levels ts ≤ left → HaveApartNames ts
      → All (λ u. 0 < length (key_name u)) (listed ts) → Apart key_name names (listed ts)
      → AllPass cells (keys_in_turn (key_checks left cells false) cells names offsets)
  keys-pass left cells names offsets none s l n f a = rw s tt
  keys-pass left cells names offsets (more t ts) s l n f a =
      let named = named-first t ts f in
      let k = node-of cells s.0 t s.3 in
      let read = node-may false cells s.0 k.0 k.1 (λ e. subst (λ (m : List ℕ). 0 < length m) k.2 named) in
      let name = ap (names_of (λ (node : KeyNode). node.name)) read ∙ ap (λ (m : List ℕ). m ∷ []) (sym k.2) in
      rw s.2
      (pass-append cells (key_checks left cells false names s.0)
      (keys_in_turn (key_checks left cells false) cells
      (names ++ names_of (λ (node : KeyNode). node.name) (reading (node_at false) cells s.0)) s.1)
      (key-passes left cells false names s.0 t s.3 (omega arith) n.0 a.0 (λ e. named))
      (subst (λ (ns : List (List ℕ)). AllPass cells
      (keys_in_turn (key_checks left cells false) cells (names ++ ns) s.1)) (sym name)
      (keys-pass left cells (names ++ key_name t ∷ []) s.1 ts s.4 (omega arith) n.1 (named-rest t ts f) a.1)))

-- well-formed cells have no first fault
pub well-formed-passes : (cells : Cells) (root : ℕ) (t : Tree) → IsWellFormed cells root t
    → first_fault cells root ≡ None
unfolding all_checks
well-formed-passes cells root t w =
    let checks = key_checks 512 cells true [] root in
    none-fails cells [] checks (key-passes 512 cells true [] root t w.stands w.levels w.names refl (λ e. absurd cc))
    (once_from_pairs [] checks w.once)
