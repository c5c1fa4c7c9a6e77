-- A start of the hive in which the Start of an entry was edited to 4 takes the same set, with that entry off.
use Rattle.std.proofs.Common.{◌≡◌, ◌⊎◌, inl, inr, ℕ, ◌+◌, ◌*◌, ◌≤◌, Bool, true, false, cond, List, [], ◌∷◌, length, Option, Some, None, Result, Ok, Err, refl, sym, ap, ◌∙◌, subst, arith}
use Rattle.std.specs.Prelude.{find, unwrap_or, codes, option_and_then, nat_lt}
use Rattle.std.specs.Option.{is_none, is_some, option_map}
use Rattle.std.specs.Int.{w32, to_le_bytes}
use Rattle.std.proofs.lemmas.Bool.{false≢true}
use Rattle.nt_bytes.specs.Folding.{folds_same}
use Rattle.nt_bytes.specs.declared.version.HiveVersion.{HiveVersion}
use Rattle.nt_bytes.specs.declared.version.HiveVersion.TheVariants.{V3, V5}
use Rattle.hive_model.specs.Tree.{Item, Tree, Trees, key, trees, listed, head, children, is_named, is_item, find_key}
use Rattle.hive_model.specs.Size.{cell, name_bytes, data_size, item_size, items_sum, items_size, node_size, class_size, security_size, list_size, count, size, size_of_all}
use Rattle.hive_model.specs.Edit.{no_key, name_too_long, data_too_long, at_first, of_items, of_children, at_key, with_item}
use Rattle.hive_model.specs.Valid.{HoldsKeys, longest_value_name, longest_data}
use Rattle.hive_model.proofs.HeldLemmas.{held_key}
use Rattle.start_model.specs.Boot.{Choice, EntryTaken}
use Rattle.start_model.specs.Possible.{Woken}
use Rattle.start_model.specs.Sets as sets
use Rattle.start_model.specs.Sets.{SetChange, ChangeStop, NoPlan, NoControlSet, NoLastKnownGood, NoFreeNumber, set_name, set_of, begin_of}
use Rattle.start_model.specs.Starter.{no_set}
use Rattle.start_laws.proofs.BeginLemmas.{some_tree, begin_of-begins}
use Rattle.start_laws.proofs.FindLemmas.{find-at_first}
use Rattle.start_laws.proofs.NameLemmas.{apart, select_is_no_set}
use Rattle.start_laws.proofs.UsableLemmas.{usable_parts}
use Rattle.start_laws.proofs.StepLemmas.{unless_ok, children-of_children}
use Rattle.reg_tree.proofs.Trees.{listed_trees, trees_listed}
use Rattle.failure_effects.specs.declared.opening.Opening.TheVariants.{Begun}
use Rattle.failure_effects.specs.declared.opening.Taken.{Taken}
use Rattle.failure_effects.specs.Opening.{taken_set, taken_of, opened}
use Rattle.failure_effects.specs.Switching.{as_four, off_key, off_set}
use Rattle.whatif_laws.specs.Reports.{Opens, IsSwitchedOff, IsRoomy, TakenIsHeld, TakesEditedSet, EditIsNoLarger, TellsEditedAsRun}
use Rattle.whatif_laws.proofs.LighterLemmas.{AreLighter, IsLighterTree, themselves, itself, key_size, bulk_lighter}
use Rattle.whatif_laws.proofs.BeginningLemmas.{same_good, begins_so}
use Rattle.whatif_laws.proofs.OffLemmas.{below, edited}
use Rattle.whatif_laws.proofs.ReportLemmas.{same_taken, begins, set_same, tells_off_as_run}
use Rattle.whatif_laws.proofs.SwitchedLemmas.{head_name, last_step}

-- ---- an entry that is off is no larger

first_length : {X : Type 0} (p : X → Bool) (f : X → X) (xs : List X) → length (at_first p f xs) ≡ length xs
first_length p f [] = refl
first_length {X} p f (x ∷ xs) = by (p x) (first_length p f xs)
  where
    by : (b : Bool) → length (at_first p f xs) ≡ length xs → length (cond b (f x ∷ xs) (x ∷ at_first p f xs)) ≡ length (x ∷ xs)
    by true deep = refl
    by false deep = omega (arith, deep)

-- four bytes are in the value itself
item_off : (version : HiveVersion) (v : Item) → item_size version (as_four v) ≤ item_size version v
item_off V3 v = more (cell (20 + name_bytes v.name)) (data_size V3 v.bytes)
  where
    more : (a b : ℕ) → a + 0 ≤ a + b
    more a b = omega arith
item_off V5 v = more (cell (20 + name_bytes v.name)) (data_size V5 v.bytes)
  where
    more : (a b : ℕ) → a + 0 ≤ a + b
    more a b = omega arith

sum_off : (version : HiveVersion) (vs : List Item) → items_sum version (at_first (is_item (codes "Start")) as_four vs) ≤ items_sum version vs
sum_off version [] = omega arith
sum_off version (v ∷ vs) = by (is_item (codes "Start") v) (sum_off version vs)
  where
    both : (a b c d : ℕ) → a ≤ b → c ≤ d → a + c ≤ b + d
    both a b c d e f = omega (arith, e, f)

    by : (b : Bool) → items_sum version (at_first (is_item (codes "Start")) as_four vs) ≤ items_sum version vs
        → items_sum version (cond b (as_four v ∷ vs) (v ∷ at_first (is_item (codes "Start")) as_four vs)) ≤ items_sum version (v ∷ vs)
    by true deep = both (item_size version (as_four v)) (item_size version v) (items_sum version vs) (items_sum version vs) (item_off version v) (omega arith)
    by false deep =
        both (item_size version v) (item_size version v) (items_sum version (at_first (is_item (codes "Start")) as_four vs))
        (items_sum version vs) (omega arith) deep

-- as many values, which take no more
items_less : (version : HiveVersion) (vs ws : List Item) → length ws ≡ length vs → items_sum version ws ≤ items_sum version vs
    → items_size version ws ≤ items_size version vs
items_less version [] [] same less = omega arith
items_less version [] (w ∷ ws) same less = absurd (omega (arith, same))
items_less version (v ∷ vs) [] same less = absurd (omega (arith, same))
items_less version (v ∷ vs) (w ∷ ws) same less =
    both (cell (4 * length (v ∷ vs))) (cell (4 * length (w ∷ ws))) (items_sum version (v ∷ vs)) (items_sum version (w ∷ ws))
    (ap (λ (n : ℕ). cell (4 * n)) same) less
  where
    both : (a b c d : ℕ) → b ≡ a → d ≤ c → b + d ≤ a + c
    both a b c d e f = omega (arith, e, f)

abbrev IsNoLarger : (Tree → Tree) → Type 0
IsNoLarger f = (version : HiveVersion) (shared : List ℕ) (t : Tree) → size version shared (f t) ≤ size version shared t

key_off : IsNoLarger off_key
key_off version shared (key h ts) =
    less (node_size h) (class_size h.class) (security_size shared h.security) (items_size version h.values)
    (items_size version (at_first (is_item (codes "Start")) as_four h.values)) (list_size (count ts)) (size_of_all version h.security ts)
    (items_less version h.values (at_first (is_item (codes "Start")) as_four h.values)
    (first_length (is_item (codes "Start")) as_four h.values) (sum_off version h.values))
  where
    less : (n c s i j l r : ℕ) → j ≤ i → n + c + s + j + l + r ≤ n + c + s + i + l + r
    less n c s i j l r h = omega (arith, h)

all_off : (p : Tree → Bool) (f : Tree → Tree) → IsNoLarger f → (version : HiveVersion) (shared : List ℕ) (ts : List Tree)
    → size_of_all version shared (trees (at_first p f ts)) ≤ size_of_all version shared (trees ts)
all_off p f less version shared [] = omega arith
all_off p f less version shared (t ∷ ts) = by (p t) (all_off p f less version shared ts)
  where
    both : (a b c d : ℕ) → a ≤ b → c ≤ d → a + c ≤ b + d
    both a b c d e f = omega (arith, e, f)

    by : (b : Bool) → size_of_all version shared (trees (at_first p f ts)) ≤ size_of_all version shared (trees ts)
        → size_of_all version shared (trees (cond b (f t ∷ ts) (t ∷ at_first p f ts))) ≤ size_of_all version shared (trees (t ∷ ts))
    by true deep =
        both (size version shared (f t)) (size version shared t) (size_of_all version shared (trees ts)) (size_of_all version shared (trees ts))
        (less version shared t) (omega arith)
    by false deep =
        both (size version shared t) (size version shared t) (size_of_all version shared (trees (at_first p f ts)))
        (size_of_all version shared (trees ts)) (omega arith) deep

at_off : (path : List (List ℕ)) (f : Tree → Tree) → IsNoLarger f → IsNoLarger (at_key path f)
at_off [] f less version shared t = less version shared t
at_off (name ∷ path) f less version shared (key h ts) =
    let us : List Tree = at_first (is_named name) (at_key path f) (listed ts) in
    key_size version shared h ts (trees us)
    (ap (λ (l : List Tree). length l) (listed_trees us) ∙ first_length (is_named name) (at_key path f) (listed ts))
    (subst (λ (vs : Trees). size_of_all version h.security (trees us) ≤ size_of_all version h.security vs) (trees_listed ts)
    (all_off (is_named name) (at_key path f) (at_off path f less) version h.security (listed ts)))

-- ---- the edited tree

-- the set of a number off, in the whole tree
abbrev switched : ℕ → List ℕ → Tree → Tree
switched n name t = of_children (at_first (is_named (set_name n)) (off_set name)) t

off_head : (name : List ℕ) (t : Tree) → (head (off_set name t)).name ≡ (head t).name
off_head name t = head_name (at_first (is_named (codes "Services")) (at_key (name ∷ []) off_key)) t

switched_set : (n : ℕ) (name : List ℕ) (t : Tree) → set_of (switched n name t) n ≡ option_map (off_set name) (set_of t n)
switched_set n name t =
    last_step (find (is_named (set_name n)) (children (switched n name t)))
    ∙ ap (find (is_named (set_name n))) (children-of_children (at_first (is_named (set_name n)) (off_set name)) t)
    ∙ find-at_first (is_named (set_name n)) (off_set name) (λ x h. ap (folds_same (set_name n)) (off_head name x) ∙ h) (children t)
    ∙ ap (option_map (off_set name)) (sym (last_step (find (is_named (set_name n)) (children t))))

-- the set is no larger, and Select is no set
set_lighter : (n : ℕ) (name : List ℕ) (ts : List Tree) → AreLighter ts (at_first (is_named (set_name n)) (off_set name) ts)
set_lighter n name [] = tt
set_lighter n name (t ∷ ts) = by (is_named (set_name n) t) refl (set_lighter n name ts)
  where
    by : (b : Bool) → is_named (set_name n) t ≡ b → AreLighter ts (at_first (is_named (set_name n)) (off_set name) ts)
        → AreLighter (t ∷ ts) (cond b (off_set name t ∷ ts) (t ∷ at_first (is_named (set_name n)) (off_set name) ts))
    by true is deep = (
      record {
        name = sym (off_head name t);
        weight = λ version shared. at_off (codes "Services" ∷ name ∷ []) off_key key_off version shared t;
        select = λ h. absurd (false≢true (sym (apart (codes "Select") (set_name n) (head t).name (select_is_no_set n) is) ∙ h));
      },
      themselves ts,
    )
    by false is deep = (itself t, deep)

switched_lighter : (n : ℕ) (name : List ℕ) (t : Tree) → IsLighterTree t (switched n name t)
switched_lighter n name (key h ts) = record {
  root = refl;
  below = subst (AreLighter (listed ts)) (sym (listed_trees (at_first (is_named (set_name n)) (off_set name) (listed ts))))
      (set_lighter n name (listed ts));
}

-- where an entry stands in a set of the tree
record IsIn (n : ℕ) (name : List ℕ) (k t : Tree) : Type 0 where
  set : Tree
  found : find (is_named (set_name n)) (children t) ≡ Some set
  there : find_key (codes "Services" ∷ name ∷ []) set ≡ Some k

in_set : (n : ℕ) (name : List ℕ) (k t : Tree) (o : Option Tree) → find (is_named (set_name n)) (children t) ≡ o
    → option_and_then (find_key (codes "Services" ∷ name ∷ [])) o ≡ Some k → IsIn n name k t
in_set n name k t None is h = absurd cc
in_set n name k t (Some set) is h = record { set = set; found = is; there = h }

-- the edit switches the set
edit_switches : (n : ℕ) (name : List ℕ) (t u : Tree) → IsSwitchedOff n name t u → u ≡ switched n name t
edit_switches n name t u o =
    let path : List (List ℕ) = set_name n ∷ codes "Services" ∷ name ∷ [] in
    let i = in_set n name o.entry t (find (is_named (set_name n)) (children t)) refl o.there in
    let change : Tree → Tree = of_items (with_item (codes "Start") 4 (to_le_bytes w32 4)) in
    sym (unless_ok ((is_none (find_key path t), no_key) ∷ (nat_lt longest_value_name (length (codes "Start")), name_too_long)
    ∷ (nat_lt longest_data (length (to_le_bytes w32 4)), data_too_long) ∷ []) (at_key path change t) u o.made)
    ∙ below (set_name n) (at_key (codes "Services" ∷ name ∷ []) change) (off_set name) t i.set i.found
    (edited i.set name o.entry o.start i.there o.has_start)

pub edit_is_no_larger : EditIsNoLarger
edit_is_no_larger version number name t u o =
    bulk_lighter version t u (subst (IsLighterTree t) (sym (edit_switches number name t u o)) (switched_lighter number name t))

-- ---- what a start takes

-- the start begins, and takes that
record IsOpened (version : HiveVersion) (t : Tree) (on_good : Bool) (taken : Taken) : Type 0 where
  change : SetChange
  begun : begin_of version t on_good ≡ Ok change
  takes : taken_of on_good change.chosen change.tree ≡ taken

opened_by : (version : HiveVersion) (t : Tree) (on_good : Bool) (taken : Taken) (r : Result SetChange ChangeStop)
    → begin_of version t on_good ≡ r → opened on_good t r ≡ Begun taken → IsOpened version t on_good taken
opened_by version t on_good taken (Ok change) is h = record {
  change = change;
  begun = is;
  takes = same_taken (taken_of on_good change.chosen change.tree) taken h;
}
opened_by version t on_good taken (Err (NoPlan NoControlSet)) is h = absurd cc
opened_by version t on_good taken (Err (NoPlan NoLastKnownGood)) is h = absurd cc
opened_by version t on_good taken (Err (NoPlan NoFreeNumber)) is h = absurd cc
opened_by version t on_good taken (Err sets.Full) is h = absurd cc

opens : (choice : Option ℕ → Choice) (placed : Woken) (taken : Taken) (o : Opens choice placed taken)
    → IsOpened placed.state.version placed.state.tree o.on_good taken
opens choice placed taken o =
    opened_by placed.state.version placed.state.tree o.on_good taken (begin_of placed.state.version placed.state.tree o.on_good) refl o.begun

-- its set is that of the tree before the beginning
set_taken : (version : HiveVersion) (t : Tree) (on_good : Bool) (change : SetChange) → begin_of version t on_good ≡ Ok change
    → taken_set change.tree change.chosen ≡ unwrap_or (set_of t change.chosen) no_set
set_taken version t on_good change is =
    sym (set_same t change.tree change.chosen (begins version t on_good change is).usable)
    ∙ ap (λ (o : Option Tree). unwrap_or o no_set) (begin_of-begins version t on_good change is).set

-- it is a key of that tree, and so it can be held where the tree can
held_by : (version : HiveVersion) (t : Tree) (on_good : Bool) (taken : Taken) → IsOpened version t on_good taken → HoldsKeys t → HoldsKeys taken.set
held_by version t on_good taken o h =
    let n : ℕ = o.change.chosen in
    let k = some_tree (set_of t n) (usable_parts t n (begins version t on_good o.change o.begun).usable).there in
    let is : k.0 ≡ taken.set =
    ap (λ (x : Option Tree). unwrap_or x no_set) (sym k.1) ∙ sym (set_taken version t on_good o.change o.begun)
    ∙ ap (λ (x : Taken). x.set) o.takes in
    subst HoldsKeys is (held_key (set_name n ∷ []) t k.0 h k.1)

pub taken_is_held : TakenIsHeld
taken_is_held choice placed taken o h = held_by placed.state.version placed.state.tree o.on_good taken (opens choice placed taken o) h

off_one : (name : List ℕ) (o : Option Tree) → is_some o ≡ true → unwrap_or (option_map (off_set name) o) no_set ≡ off_set name (unwrap_or o no_set)
off_one name None h = absurd (false≢true h)
off_one name (Some s) h = refl

-- the start of the switched tree takes the same set, which is off
switched_takes : (version other : HiveVersion) (t : Tree) (on_good : Bool) (change : SetChange) (name : List ℕ)
    → begin_of version t on_good ≡ Ok change
    → (other ≡ version) ⊎ ((c : SetChange) × (begin_of other (switched change.chosen name t) on_good ≡ Ok c))
    → opened on_good (switched change.chosen name t) (begin_of other (switched change.chosen name t) on_good)
    ≡ Begun (record (taken_of on_good change.chosen change.tree) { set = off_set name (taken_set change.tree change.chosen) })
switched_takes version other t on_good change name is room =
    let n : ℕ = change.chosen in
    let u : Tree = switched n name t in
    let b = begins_so version other t u on_good change (switched_lighter n name t) is room in
    let set : taken_set b.other.tree b.other.chosen ≡ off_set name (taken_set change.tree n) =
    set_taken other u on_good b.other b.made
    ∙ ap (λ (m : ℕ). unwrap_or (set_of u m) no_set) b.chosen
    ∙ ap (λ (o : Option Tree). unwrap_or o no_set) (switched_set n name t)
    ∙ off_one name (set_of t n) (usable_parts t n (begins version t on_good change is).usable).there
    ∙ ap (off_set name) (sym (set_taken version t on_good change is)) in
    ap (opened on_good u) b.made
    ∙ λ i. Begun (record {
      number = b.chosen i;
      on_good = on_good;
      usable = sym (same_good change.tree b.other.tree b.lighter) i;
      set = set i;
    })

takes_by : (version other : HiveVersion) (t u : Tree) (on_good : Bool) (taken : Taken) (name : List ℕ) → IsOpened version t on_good taken
    → u ≡ switched taken.number name t → (other ≡ version) ⊎ ((c : SetChange) × (begin_of other u on_good ≡ Ok c))
    → opened on_good u (begin_of other u on_good) ≡ Begun (record taken { set = off_set name taken.set })
takes_by version other t u on_good taken name o is room =
    let n : ℕ = o.change.chosen in
    let same : u ≡ switched n name t = is ∙ ap (λ (x : Taken). switched x.number name t) (sym o.takes) in
    ap (λ (v : Tree). opened on_good v (begin_of other v on_good)) same
    ∙ switched_takes version other t on_good o.change name o.begun
    (subst (λ (v : Tree). (other ≡ version) ⊎ ((c : SetChange) × (begin_of other v on_good ≡ Ok c))) same room)
    ∙ ap (λ (x : Taken). Begun (record x { set = off_set name x.set })) o.takes

abbrev good_of : Choice → Bool
good_of (EntryTaken number path on_good) = on_good
good_of choice = false

-- the edited hive begins a start, if its version is another one
room_by : (choice : Option ℕ → Choice) (placed edited : Woken) (taken : Taken) (o : Opens choice placed taken) → IsRoomy choice placed edited
    → (edited.state.version ≡ placed.state.version)
    ⊎ ((c : SetChange) × (begin_of edited.state.version edited.state.tree o.on_good ≡ Ok c))
room_by choice placed edited taken o (inl same) = inl same
room_by choice placed edited taken o (inr p) =
    let i = opens choice edited p.0 p.1 in
    inr (
      i.change,
      ap (begin_of edited.state.version edited.state.tree) (ap good_of (sym o.entry ∙ p.1.entry)) ∙ i.begun,
    )

pub takes_edited_set : TakesEditedSet
takes_edited_set choice placed edited taken name o off room = record {
  number = o.number;
  path = o.path;
  on_good = o.on_good;
  entry = o.entry;
  begun = takes_by placed.state.version edited.state.version placed.state.tree edited.state.tree o.on_good taken name (opens choice placed taken o)
      (edit_switches taken.number name placed.state.tree edited.state.tree off) (room_by choice placed edited taken o room);
}

-- so its report is that of a start on such a tree
pub tells_edited_as_run : TellsEditedAsRun
tells_edited_as_run choice placed edited taken name o off room =
    tells_off_as_run choice edited taken name (takes_edited_set choice placed edited taken name o off room)
