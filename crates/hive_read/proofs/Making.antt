-- Where all checks pass, a tree stands, with names apart and not too many levels.
use Rattle.std.proofs.Common.{◌≡◌, ℕ, zero, suc, ◌-◌, ◌<◌, ◌≤◌, Bool, true, false, not, ◌&&◌, eqb, cond, List, [], ◌∷◌, ◌++◌, length, Option, Some, None, Result, Ok, Err, refl, ap, subst, ◌∙◌, arith}
use Rattle.std.specs.Prelude.{MatchBool, ◌==◌, is_some, if◌then◌else◌}
use Rattle.std.specs.List.{All, AllPairs, list_any}
use Rattle.std.proofs.lemmas.List.Elements.{All-cons, All-nil}
use Rattle.std.proofs.lemmas.Bool.{eqb-true}
use Rattle.nt_bytes.specs.Folding.{folds_same}
use Rattle.nt_bytes.specs.declared.fault.HiveFaultKind.{HiveFaultKind}
use Rattle.nt_bytes.specs.declared.fault.HiveFaultKind.TheVariants.{FormName, DoubleName, Count}
use Rattle.nt_bytes.specs.Reading.{◌>>=◌}
use Rattle.hive_model.specs.Forms.{bytes_in}
use Rattle.hive_model.specs.KeyNode.{KeyNode, key_node_at}
use Rattle.hive_model.specs.KeyValue.{KeyValue, key_value_at, data_inside}
use Rattle.hive_model.specs.Security.{security_at}
use Rattle.hive_model.specs.Lists.{SubkeyList, list_at, offsets_in}
use Rattle.hive_model.specs.Bins.{Cells}
use Rattle.hive_model.specs.Tree.{Tree, key, trees, listed, Item}
use Rattle.hive_model.specs.Walk.{Check, tests, reading, nowhere, node_at, leaf_at, is_list_of_lists, joined_at, entries_of, entries_at, below_of, use_as, failing, name_check, names_of, class_checks, security_checks, big_data_of, segments_checks, big_checks, data_checks, value_checks, values_in_turn, values_checks, leaves_checks, entries_checks, keys_in_turn, children_checks, below_node, key_checks}
use Rattle.hive_model.specs.Valid.{levels, most_levels}
use Rattle.hive_model.specs.Stands.{tree_flags, class_of, security_of, data_or, joined_segments, big_bytes_at, data_of, item_at, items_at, values_of, ListsChildren, AllStand, HasApartNames, HaveApartNames}
use Rattle.hive_model.specs.Size.{segment_bytes, is_big, segment_part}
use Rattle.hive_read.specs.Celled.{celled_checks, celled_bytes}
use Rattle.hive_read.specs.Walked.{KeyRead}
use Rattle.hive_read.proofs.Apart.{Apart, Differ, apart-pairs}
use Rattle.hive_read.proofs.BigWalks.{listed_segments}
use Rattle.hive_read.proofs.ValueWalks.{item_of, item-stands, item-named}
use Rattle.hive_read.proofs.KeyWalks.{key_name, node-plain}
use Rattle.hive_read.proofs.Passing.{AllPass, pass-split, use-made, below-made, not-failing, choice-made}

-- where the checks of a part pass, that part can be read: the class, the descriptor, the data
class-made : (cells : Cells) (node : KeyNode) → AllPass cells (class_checks cells node)
    → (b : List ℕ) × (class_of cells node ≡ Ok b)
unfolding class_checks class_of
class-made cells node p = choice-made (node.class_length == 0) false (bytes_in node.class_length) cells node.class [] p

security-made : (cells : Cells) (node : KeyNode) → AllPass cells (security_checks cells node)
    → (b : List ℕ) × (security_of cells node ≡ Ok b)
unfolding security_checks security_of
security-made cells node p = go (node.security == nowhere) p
  where
    go : (b : Bool) → AllPass cells (cond b [] (use_as true security_at cells node.security))
        → (s : List ℕ) × (cond b (Ok []) (reading security_at cells node.security >>= λ s. Ok s.descriptor) ≡ Ok s)
    go true p = ([], refl)
    go false p = let r = use-made true security_at cells node.security p in
        (r.0.descriptor, ap (λ q. q >>= λ s. Ok s.descriptor) r.1)

-- a segment and those after it are read together
segments-both : (cells : Cells) (n at : ℕ) (more part others : List ℕ)
    → reading (bytes_in (segment_part n)) cells at ≡ Ok part
    → joined_segments cells (n - segment_bytes) more ≡ Ok others
    → joined_segments cells n (at ∷ more) ≡ Ok (part ++ others)
segments-both cells n at more part others r s = rw (r, s) refl

segments-made : (cells : Cells) (n : ℕ) (offsets : List ℕ) → AllPass cells (segments_checks cells n offsets)
    → (b : List ℕ) × (joined_segments cells n offsets ≡ Ok b)
segments-made cells n [] p = ([], refl)
segments-made cells n (at ∷ more) p =
    let halves = pass-split cells (use_as false (bytes_in (segment_part n)) cells at)
    (segments_checks cells (n - segment_bytes) more) p in
    let part = use-made false (bytes_in (segment_part n)) cells at halves.0 in
    let others = segments-made cells (n - segment_bytes) more halves.1 in
    (part.0 ++ others.0, segments-both cells n at more part.0 others.0 part.1 others.1)

big-made : (cells : Cells) (n at : ℕ) → AllPass cells (big_checks cells n at)
    → (b : List ℕ) × (big_bytes_at cells n at ≡ Ok b)
unfolding big_checks big_bytes_at
big-made cells n at p =
    let halves = pass-split cells (use_as false (big_data_of n) cells at)
    (below_of (reading (big_data_of n) cells at) (listed_segments cells n)) p in
    let big = use-made false (big_data_of n) cells at halves.0 in
    let below = below-made cells (reading (big_data_of n) cells at) (listed_segments cells n) big.0 big.1 halves.1 in
    let parts = pass-split cells (use_as false (offsets_in big.0.segments) cells big.0.list)
    (below_of (reading (offsets_in big.0.segments) cells big.0.list) (segments_checks cells n)) below in
    let list = use-made false (offsets_in big.0.segments) cells big.0.list parts.0 in
    let bytes = segments-made cells n list.0
    (below-made cells (reading (offsets_in big.0.segments) cells big.0.list) (segments_checks cells n)
    list.0 list.1 parts.1) in (
      bytes.0,
      ap (λ q. q >>= λ big. reading (offsets_in big.segments) cells big.list >>= joined_segments cells n) big.1
          ∙ ap (λ q. q >>= joined_segments cells n) list.1 ∙ bytes.1,
    )

celled-made : (cells : Cells) (n at : ℕ) → AllPass cells (celled_checks cells n at)
    → (b : List ℕ) × (celled_bytes cells n at ≡ Ok b)
celled-made cells n at p = go (is_big cells.version n) p
  where
    go : (big : Bool) → AllPass cells (cond big (big_checks cells n at) (use_as false (bytes_in n) cells at))
        → (b : List ℕ) × (cond big (big_bytes_at cells n at) (reading (bytes_in n) cells at) ≡ Ok b)
    go true p = big-made cells n at p
    go false p = use-made false (bytes_in n) cells at p

data-made : (cells : Cells) (value : KeyValue) → AllPass cells (data_checks cells value)
    → (b : List ℕ) × (data_of cells value ≡ Ok b)
unfolding data_checks data_of
data-made cells value p = go (data_inside value) p
  where
    go : (o : Option (List ℕ)) → AllPass cells (if is_some o then [] else celled_checks cells value.size value.offset)
        → (b : List ℕ) × (data_or o (celled_bytes cells value.size value.offset) ≡ Ok b)
    go (Some b) p = (b, refl)
    go None p = celled-made cells value.size value.offset p

-- ---- values

-- a value that passes has a name unlike those before it
value-made : (cells : Cells) (names : List (List ℕ)) (at : ℕ) → AllPass cells (value_checks cells names at)
    → (item : Item) × (item_at cells at ≡ Ok item) × (list_any (folds_same item.name) names ≡ false)
unfolding value_checks
value-made cells names at p =
    let halves = pass-split cells (use_as false key_value_at cells at)
    (below_of (reading key_value_at cells at) (λ value. name_check names at value.name ∷ data_checks cells value))
    p in
    let v = use-made false key_value_at cells at halves.0 in
    let below = below-made cells (reading key_value_at cells at)
    (λ value. name_check names at value.name ∷ data_checks cells value) v.0 v.1 halves.1 in
    let d = data-made cells v.0 below.1 in (
      item_of v.0 d.0,
      item-stands cells at v.0 d.0 v.1 d.1,
      not-failing (list_any (folds_same v.0.name) names) DoubleName below.0,
    )

abbrev pub item_name : Item → List ℕ
item_name v = v.name

items-both : (cells : Cells) (at : ℕ) (rest : List ℕ) (item : Item) (items : List Item) → item_at cells at ≡ Ok item
    → items_at cells rest ≡ Ok items → items_at cells (at ∷ rest) ≡ Ok (item ∷ items)
items-both cells at rest item items r s = rw (r, s) refl

-- values that pass in turn are read in turn, with names apart
items-made : (cells : Cells) (names : List (List ℕ)) (offsets : List ℕ)
    → AllPass cells (values_in_turn cells names offsets)
    → (items : List Item) × (items_at cells offsets ≡ Ok items) × Apart item_name names items
items-made cells names [] p = ([], refl, tt)
items-made cells names (at ∷ rest) p =
    let halves = pass-split cells (value_checks cells names at)
    (values_in_turn cells (names ++ names_of (λ (value : KeyValue). value.name) (reading key_value_at cells at))
    rest) p in
    let one = value-made cells names at halves.0 in
    let named = item-named cells at one.0 one.1 in
    let others = items-made cells (names ++ one.0.name ∷ []) rest
    (subst (λ (n : List (List ℕ)). AllPass cells (values_in_turn cells (names ++ n) rest)) named halves.1) in
    (one.0 ∷ others.0, items-both cells at rest one.0 others.0 one.1 others.1, (one.2, others.2))

values-made : (cells : Cells) (node : KeyNode) → AllPass cells (values_checks cells node)
    → (items : List Item) × (values_of cells node ≡ Ok items) × Apart item_name [] items
unfolding values_checks values_of
values-made cells node p = go (node.value_count == 0) p
  where
    go : (b : Bool) → AllPass cells
        (cond b [] (use_as false (offsets_in node.value_count) cells node.value_list
        ++ below_of (reading (offsets_in node.value_count) cells node.value_list) (values_in_turn cells [])))
        → (items : List Item) × (cond b (Ok [])
        (reading (offsets_in node.value_count) cells node.value_list >>= items_at cells) ≡ Ok items)
        × Apart item_name [] items
    go true p = ([], refl, tt)
    go false p =
        let halves = pass-split cells (use_as false (offsets_in node.value_count) cells node.value_list)
        (below_of (reading (offsets_in node.value_count) cells node.value_list) (values_in_turn cells [])) p in
        let l = use-made false (offsets_in node.value_count) cells node.value_list halves.0 in
        let items = items-made cells [] l.0
        (below-made cells (reading (offsets_in node.value_count) cells node.value_list) (values_in_turn cells [])
        l.0 l.1 halves.1) in
        (items.0, ap (λ q. q >>= items_at cells) l.1 ∙ items.1, items.2)

-- ---- lists

joined-both : (cells : Cells) (at : ℕ) (more leaf others : List ℕ) → reading leaf_at cells at ≡ Ok leaf
    → joined_at cells more ≡ Ok others → joined_at cells (at ∷ more) ≡ Ok (leaf ++ others)
joined-both cells at more leaf others r s = rw (r, s) refl

leaves-made : (cells : Cells) (lists : List ℕ) → AllPass cells (leaves_checks cells lists)
    → (offsets : List ℕ) × (joined_at cells lists ≡ Ok offsets)
leaves-made cells [] p = ([], refl)
leaves-made cells (at ∷ more) p =
    let halves = pass-split cells (use_as false leaf_at cells at) (leaves_checks cells more) p in
    let leaf = use-made false leaf_at cells at halves.0 in
    let others = leaves-made cells more halves.1 in
    (leaf.0 ++ others.0, joined-both cells at more leaf.0 others.0 leaf.1 others.1)

abbrev leaves_of : Cells → SubkeyList → List Check
leaves_of cells list = if is_list_of_lists list.kind then leaves_checks cells list.offsets else []

-- a list whose checks pass gives its offsets, of either form
entries-made : (cells : Cells) (at : ℕ) → AllPass cells (entries_checks cells at)
    → (offsets : List ℕ) × (entries_at cells at ≡ Ok offsets)
unfolding entries_checks entries_at
entries-made cells at p =
    let halves = pass-split cells (use_as false list_at cells at)
    (below_of (reading list_at cells at) (leaves_of cells)) p in
    let l = use-made false list_at cells at halves.0 in
    let e = go l.0 (is_list_of_lists l.0.kind)
    (below-made cells (reading list_at cells at) (leaves_of cells) l.0 l.1 halves.1) in
    (e.0, ap (λ q. q >>= entries_of cells) l.1 ∙ e.1)
  where
    go : (list : SubkeyList) (b : Bool) → AllPass cells (cond b (leaves_checks cells list.offsets) [])
        → (offsets : List ℕ) × (cond b (joined_at cells list.offsets) (Ok list.offsets) ≡ Ok offsets)
    go list true p = leaves-made cells list.offsets p
    go list false p = (list.offsets, refl)

-- ---- keys

-- a key stands here that has its place among siblings of these names
pub record Made (left : ℕ) (cells : Cells) (root : Bool) (names : List (List ℕ)) (at : ℕ) : Type 0 where
  pub tree : Tree
  pub read : KeyRead cells root at tree
  pub levels : levels tree ≤ left
  pub apart : HasApartNames tree
  pub new : list_any (folds_same (key_name tree)) names ≡ false
  pub named : root ≡ false → 0 < length (key_name tree)

-- keys are at these offsets after siblings of these names
pub record AllMade (left : ℕ) (cells : Cells) (names : List (List ℕ)) (offsets : List ℕ) : Type 0 where
  pub siblings : List Tree
  pub stand : AllStand cells offsets (trees siblings)
  pub levels : most_levels (trees siblings) ≤ left
  pub apart : HaveApartNames (trees siblings)
  pub differ : Apart key_name names siblings
  pub named : All (λ t. 0 < length (key_name t)) siblings

-- keys that pass in turn are in turn, if each that passes stands
keys-made : (left : ℕ) (cells : Cells)
    → ((names : List (List ℕ)) (at : ℕ) → AllPass cells (key_checks left cells false names at)
    → Made left cells false names at)
    → (names : List (List ℕ)) (offsets : List ℕ)
    → AllPass cells (keys_in_turn (key_checks left cells false) cells names offsets)
    → AllMade left cells names offsets
keys-made left cells h names [] p =
    record {
      siblings = [];
      stand = refl;
      levels = omega arith;
      apart = tt;
      differ = tt;
      named = All-nil (λ t. 0 < length (key_name t));
    }
keys-made left cells h names (at ∷ rest) p =
    let halves = pass-split cells (key_checks left cells false names at)
    (keys_in_turn (key_checks left cells false) cells
    (names ++ names_of (λ (node : KeyNode). node.name) (reading (node_at false) cells at)) rest) p in
    let one = h names at halves.0 in
    let others = keys-made left cells h (names ++ key_name one.tree ∷ []) rest
    (subst (λ (n : List (List ℕ)). AllPass cells
    (keys_in_turn (key_checks left cells false) cells (names ++ n) rest)) one.read.1 halves.1) in
    record {
      siblings = one.tree ∷ others.siblings;
      stand = (at, rest, refl, one.read.0, others.stand);
      levels = omega (arith, one.levels, others.levels);
      apart = (one.apart, others.apart);
      differ = (one.new, others.differ);
      named = All-cons (λ t. 0 < length (key_name t)) one.tree others.siblings (one.named refl) others.named;
    }

not-not : (t : Bool) → not t ≡ false → t ≡ true
not-not true e = refl
not-not false e = absurd cc

-- the children of a node are listed and stand, with names apart
pub record ChildrenMade (left : ℕ) (cells : Cells) (node : KeyNode) : Type 0 where
  pub offsets : List ℕ
  pub lists : ListsChildren cells node offsets
  pub made : AllMade left cells [] offsets

abbrev counted : ℕ → Cells → KeyNode → ℕ → List ℕ → List Check
counted left cells node at offsets =
    tests at (failing (not (length offsets == node.child_count)) Count)
    ∷ keys_in_turn (key_checks left cells false) cells [] offsets

-- they do where their checks pass
children-made : (left : ℕ) (cells : Cells) (node : KeyNode) (at : ℕ)
    → ((names : List (List ℕ)) (at : ℕ) → AllPass cells (key_checks left cells false names at)
    → Made left cells false names at)
    → AllPass cells (children_checks (key_checks left cells false) cells node at) → ChildrenMade left cells node
unfolding children_checks
children-made left cells node at h p =
    let m = go (node.child_count == 0) p in
    record { offsets = m.0; lists = m.1; made = m.2 }
  where
    go : (b : Bool) → AllPass cells
        (cond b [] (entries_checks cells node.child_list
        ++ below_of (entries_at cells node.child_list) (counted left cells node at)))
        → (offsets : List ℕ) × MatchBool b (offsets ≡ [])
        ((entries_at cells node.child_list ≡ Ok offsets) × (length offsets ≡ node.child_count))
        × AllMade left cells [] offsets
    go true p = ([], refl, keys-made left cells h [] [] tt)
    go false p =
        let halves = pass-split cells (entries_checks cells node.child_list)
        (below_of (entries_at cells node.child_list) (counted left cells node at)) p in
        let e = entries-made cells node.child_list halves.0 in
        let below = below-made cells (entries_at cells node.child_list) (counted left cells node at) e.0 e.1 halves.1 in
        let count = not-not (length e.0 == node.child_count)
        (not-failing (not (length e.0 == node.child_count)) Count below.0) in
        (e.0, (e.1, eqb-true (length e.0) node.child_count count), keys-made left cells h [] e.0 below.1)

abbrev done : KeyNode → Result KeyNode HiveFaultKind
done n = Ok n

above : (n : ℕ) → eqb n 0 ≡ false → 0 < n
above zero e = absurd cc
above (suc n) e = omega arith

-- the root's name, or one that is not empty
node-named : (root : Bool) (cells : Cells) (at : ℕ) (node : KeyNode) → reading (node_at root) cells at ≡ Ok node
    → root ≡ false → 0 < length node.name
unfolding node_at
node-named root cells at node e r = payload (cells.payload at) e
  where
    filled : (n : KeyNode) (b : Bool) → (length n.name == 0) ≡ b
        → cond (b && not root) (Err FormName) (Ok n) ≡ done node → 0 < length node.name
    filled n true z e = absurd
        (let f : cond (not root) (Err FormName) (Ok n) ≡ done node = e in
        let g : cond (not false) (Err FormName) (Ok n) ≡ done node =
        subst (λ (t : Bool). cond (not t) (Err FormName) (Ok n) ≡ done node) r f in cc)
    filled n false z e = let same : n ≡ node = cc in
        subst (λ (m : KeyNode). 0 < length m.name) same (above (length n.name) z)

    formed : (r : Result KeyNode HiveFaultKind)
        → (r >>= λ n. if (length n.name == 0) && not root then Err FormName else Ok n) ≡ Ok node → 0 < length node.name
    formed (Ok n) e = filled n (length n.name == 0) refl e
    formed (Err k) e = absurd cc

    payload : (p : Result (List ℕ) HiveFaultKind)
        → (p >>= λ bytes. key_node_at bytes >>= λ n. if (length n.name == 0) && not root then Err FormName else Ok n)
        ≡ Ok node → 0 < length node.name
    payload (Ok bytes) e = formed (key_node_at bytes) e
    payload (Err k) e = absurd cc

listed-trees : (ts : List Tree) → ts ≡ listed (trees ts)
listed-trees [] = refl
listed-trees (t ∷ ts) = ap (λ us. t ∷ us) (listed-trees ts)

all-listed : (ts : List Tree) → All (λ t. 0 < length (key_name t)) ts
    → All (λ t. 0 < length (key_name t)) (listed (trees ts))
all-listed ts a = subst (λ (us : List Tree). All (λ t. 0 < length (key_name t)) us) (listed-trees ts) a

pairs-listed : (ts : List Tree) → Apart key_name [] ts → AllPairs (Differ key_name) (listed (trees ts))
pairs-listed ts a = subst (λ (us : List Tree). AllPairs (Differ key_name) us) (listed-trees ts)
    (apart-pairs key_name [] ts a)

-- one key, if those a level below can be made
key-made-of : (left : ℕ) (cells : Cells) (root : Bool) (names : List (List ℕ)) (at : ℕ)
    → ((names : List (List ℕ)) (at : ℕ) → AllPass cells (key_checks left cells false names at)
    → Made left cells false names at)
    → AllPass cells (use_as false (node_at root) cells at
    ++ below_of (reading (node_at root) cells at)
    (λ node. name_check names at node.name ∷ below_node (key_checks left cells false) cells node at))
    → Made (suc left) cells root names at
key-made-of left cells root names at h p =
    let checks = key_checks left cells false in
    let halves = pass-split cells (use_as false (node_at root) cells at)
    (below_of (reading (node_at root) cells at)
    (λ node. name_check names at node.name ∷ below_node checks cells node at)) p in
    let n = use-made false (node_at root) cells at halves.0 in
    let node = n.0 in
    let below = below-made cells (reading (node_at root) cells at)
    (λ node. name_check names at node.name ∷ below_node checks cells node at) node n.1 halves.1 in
    let one = pass-split cells (class_checks cells node)
    (security_checks cells node ++ (values_checks cells node ++ children_checks checks cells node at)) below.1 in
    let two = pass-split cells (security_checks cells node)
    (values_checks cells node ++ children_checks checks cells node at) one.1 in
    let three = pass-split cells (values_checks cells node) (children_checks checks cells node at) two.1 in
    let class = class-made cells node one.0 in
    let security = security-made cells node two.0 in
    let values = values-made cells node three.0 in
    let kids = children-made left cells node at h three.1 in
    let ts = kids.made.siblings in
    record {
      tree = key (record {
        name = node.name;
        flags = tree_flags node.flags;
        stamp = node.stamp;
        class = class.0;
        security = security.0;
        values = values.0;
      }) (trees ts);
      read = (
        (
          kids.offsets,
          record {
            node = node;
            read = node-plain root cells at node n.1;
            name = refl;
            flags = refl;
            stamp = refl;
            class = class.1;
            security = security.1;
            values = values.1;
            children = kids.lists;
          },
          kids.made.stand,
        ),
        ap (names_of (λ (n : KeyNode). n.name)) n.1,
      );
      levels = omega (arith, kids.made.levels);
      apart = (
        apart-pairs item_name [] values.0 values.2,
        all-listed ts kids.made.named,
        pairs-listed ts kids.made.differ,
        kids.made.apart,
      );
      new = not-failing (list_any (folds_same node.name) names) DoubleName below.0;
      named = node-named root cells at node n.1;
    }

-- each key whose checks pass stands, by the number of levels left
pub key-made : (left : ℕ) (cells : Cells) (root : Bool) (names : List (List ℕ)) (at : ℕ)
    → AllPass cells (key_checks left cells root names at) → Made left cells root names at
unfolding key_checks
key-made zero cells root names at p = absurd (let e = p.0 in cc)
key-made (suc left) cells root names at p = key-made-of left cells root names at (key-made left cells false) p
