-- The lists of a set with an entry off.
use Rattle.std.proofs.Common.{◌≡◌, ℕ, zero, suc, Bool, true, false, nat_eq, cond, map, List, arith, [], ◌∷◌, Option, Some, None, refl, sym, ap, ◌∙◌}
use Rattle.std.specs.Prelude.{Result, Ok, Err, IfOk, find, nat_le, slice_get, codes, if◌then◌else◌, option_map, option_and_then}
use Rattle.std.specs.Option.{option_map_or}
use Rattle.std.specs.List.{filter_map, cons_option}
use Rattle.std.proofs.lemmas.Bool.{false≢true}
use Rattle.std.proofs.lemmas.Bool.Decides.{nat_tests}
use Rattle.std.proofs.lemmas.Option.{same_Some}
use Rattle.nt_bytes.specs.Folding.{folds_same}
use Rattle.nt_names.proofs.FoldLemmas.{alike}
use Rattle.hive_model.specs.Tree.{Item, Tree, key, head, children, is_named, is_item, find_item, find_dword, find_string, find_strings, find_key, dword_in, string_in, strings_in}
use Rattle.hive_model.specs.Edit.{at_first, of_children}
use Rattle.hive_model.specs.Valid.{HoldsKeys}
use Rattle.reg_tree.proofs.Trees.{listed_trees}
use Rattle.reg_tree.proofs.Unlike.{Each, Unlike, unlike_from, folds_swap}
use Rattle.start_model.specs.Entries.{Entry, control_in, named_group, entry_of, entry_with, entries_of, services_of}
use Rattle.start_model.specs.Order.{orders_of, order_of, tag_lists, first_names, listed_groups}
use Rattle.start_model.proofs.HeldLemmas.{services_differ}
use Rattle.boot_phases.specs.service_entries.Named.{IsOnlyPlace, is_named_at}
use Rattle.boot_phases.specs.service_entries.Started.{with_start, with_start_at}
use Rattle.boot_phases.proofs.StartedLemmas.{kept_start, start_restored}
use Rattle.boot_phases.specs.boot_phases.Lists.{Lists, lists_of}
use Rattle.failure_effects.specs.declared.opening.Taken.{Taken}
use Rattle.failure_effects.specs.declared.told.Told.{Told}
use Rattle.failure_effects.specs.Played.{played}
use Rattle.failure_effects.specs.Switching.{as_four, off_key, off_set}

-- ---- the first that passes, changed

-- it is found changed
found_changed : {X : Type 0} (p : X → Bool) (change : X → X) → ((x : X) → p (change x) ≡ p x) → (xs : List X)
    → find p (at_first p change xs) ≡ option_map change (find p xs)
found_changed p change same [] = refl
found_changed {X} p change same (x ∷ xs) = by_case (p x) refl (found_changed p change same xs)
  where
    by_case : (b : Bool) → p x ≡ b → find p (at_first p change xs) ≡ option_map change (find p xs)
        → find p (cond b (change x ∷ xs) (x ∷ at_first p change xs)) ≡ option_map change (cond b (Some x) (find p xs))
    by_case true is rest = rw (same x, is) refl
    by_case false is rest = rw is rest

-- what passes another test is found as it was
found_still : {X : Type 0} (p q : X → Bool) (change : X → X) → ((x : X) → q x ≡ true → p x ≡ false)
    → ((x : X) → p (change x) ≡ p x) → (xs : List X) → find p (at_first q change xs) ≡ find p xs
found_still p q change other same [] = refl
found_still {X} p q change other same (x ∷ xs) = by_case (q x) refl (found_still p q change other same xs)
  where
    by_case : (b : Bool) → q x ≡ b → find p (at_first q change xs) ≡ find p xs
        → find p (cond b (change x ∷ xs) (x ∷ at_first q change xs)) ≡ find p (x ∷ xs)
    by_case true is rest = rw (same x, other x is) refl
    by_case false is rest = ap (cond (p x) (Some x)) rest

-- a name that folds to one folds to no other
unlike_name : (a b n : List ℕ) → folds_same a b ≡ false → folds_same a n ≡ true → folds_same b n ≡ false
unlike_name a b n off is = folds_swap b n ∙ sym (alike a n is b) ∙ off

-- ---- a key that is off

changed_children : (change : List Tree → List Tree) (t : Tree) → children (of_children change t) ≡ change (children t)
changed_children change (key h ts) = listed_trees (change (children (key h ts)))

same_name : (change : List Tree → List Tree) (t : Tree) → (head (of_children change t)).name ≡ (head t).name
same_name change (key h ts) = refl

off_name : (t : Tree) → (head (off_key t)).name ≡ (head t).name
off_name (key h ts) = refl

other_item : (name : List ℕ) (t : Tree) → folds_same (codes "Start") name ≡ false
    → find_item name (off_key t) ≡ find_item name t
other_item name (key h ts) off =
    found_still (is_item name) (is_item (codes "Start")) as_four
    (λ v is. unlike_name (codes "Start") name v.name off is) (λ v. refl) h.values

start_item : (t : Tree) → find_item (codes "Start") (off_key t) ≡ option_map as_four (find_item (codes "Start") t)
start_item (key h ts) = found_changed (is_item (codes "Start")) as_four (λ v. refl) h.values

four_by : (o : Option Item) (start : ℕ) → option_and_then dword_in o ≡ Some start
    → option_and_then dword_in (option_map as_four o) ≡ Some 4
four_by None start h = absurd cc
four_by (Some v) start h = refl

off_start : (t : Tree) (start : ℕ) → find_dword (codes "Start") t ≡ Some start
    → find_dword (codes "Start") (off_key t) ≡ Some 4
off_start t start is =
    ap (option_and_then dword_in) (start_item t) ∙ four_by (find_item (codes "Start") t) start is

-- the entry of this Start and Type
abbrev entry_at : Tree → ℕ → ℕ → Entry
entry_at t start kind = record {
  name = (head t).name;
  start = start;
  kind = kind;
  control = control_in t;
  group = named_group (find_string (codes "Group") t);
  tag = find_dword (codes "Tag") t;
  services = find_strings (codes "DependOnService") t;
  groups = find_strings (codes "DependOnGroup") t;
}

-- what an entry has by a value
abbrev control_by : Option Item → ℕ
control_by o = option_map_or (λ c. if nat_le c 3 then c else 1) (option_and_then dword_in o) 1

abbrev group_by : Option Item → Option (List ℕ)
group_by o = named_group (option_and_then string_in o)

abbrev names_by : Option Item → List (List ℕ)
names_by o = option_map_or strings_in o []

same_entry : (t : Tree) (start kind : ℕ) → entry_at (off_key t) 4 kind ≡ with_start 4 (entry_at t start kind)
same_entry t start kind =
    let control = ap control_by (other_item (codes "ErrorControl") t refl) in
    let group = ap group_by (other_item (codes "Group") t refl) in
    let tag = ap (option_and_then dword_in) (other_item (codes "Tag") t refl) in
    let services = ap names_by (other_item (codes "DependOnService") t refl) in
    let groups = ap names_by (other_item (codes "DependOnGroup") t refl) in
    λ i. record {
      name = off_name t i;
      start = 4;
      kind = kind;
      control = control i;
      group = group i;
      tag = tag i;
      services = services i;
      groups = groups i;
    }

off_entry_by : (t : Tree) (e : Entry) (start kind : Option ℕ) → find_dword (codes "Start") t ≡ start
    → find_dword (codes "Type") t ≡ kind → entry_with t start kind ≡ Some e
    → entry_of (off_key t) ≡ Some (with_start 4 e)
off_entry_by t e None kind s k h = absurd cc
off_entry_by t e (Some start) None s k h = absurd cc
off_entry_by t e (Some start) (Some kind) s k h =
    let kind_is : find_dword (codes "Type") (off_key t) ≡ Some kind =
    ap (option_and_then dword_in) (other_item (codes "Type") t refl) ∙ k in
    (λ i. entry_with (off_key t) (off_start t start s i) (kind_is i))
    ∙ ap (λ (x : Entry). Some x) (same_entry t start kind) ∙ ap (option_map (with_start 4)) h

-- an entry that is off is the entry with Start 4
off_entry : (t : Tree) (e : Entry) → entry_of t ≡ Some e → entry_of (off_key t) ≡ Some (with_start 4 e)
off_entry t e h = off_entry_by t e (find_dword (codes "Start") t) (find_dword (codes "Type") t) refl refl h

-- ---- the entries of keys of which one is off

named_by : (t : Tree) (e : Entry) (start kind : Option ℕ) → entry_with t start kind ≡ Some e → e.name ≡ (head t).name
named_by t e None kind h = absurd cc
named_by t e (Some start) None h = absurd cc
named_by t e (Some start) (Some kind) h = ap (λ (o : Option Entry). option_map_or (λ (x : Entry). x.name) o []) (sym h)

named : (t : Tree) (e : Entry) → entry_of t ≡ Some e → e.name ≡ (head t).name
named t e h = named_by t e (find_dword (codes "Start") t) (find_dword (codes "Type") t) h

abbrev key_name : Tree → List ℕ
key_name t = (head t).name

-- no entry of keys of other names has this name
none_named : (name n : List ℕ) → folds_same name n ≡ true → (ts : List Tree)
    → Each (λ (t : Tree). folds_same (key_name t) n ≡ false) ts
    → (q : ℕ) → is_named_at name (filter_map entry_of ts) q ≡ false
none_named name n is [] h q = refl
none_named name n is (t ∷ ts) h q = by_case (entry_of t) refl q (λ p. none_named name n is ts h.1 p)
  where
    by_case : (o : Option Entry) → entry_of t ≡ o → (q : ℕ)
        → ((p : ℕ) → is_named_at name (filter_map entry_of ts) p ≡ false)
        → is_named_at name (cons_option o (filter_map entry_of ts)) q ≡ false
    by_case None e q rest = rest q
    by_case (Some x) e (suc q) rest = rest q
    by_case (Some x) e zero rest =
        ap (folds_same name) (named t x e) ∙ alike name n is (key_name t) ∙ folds_swap n (key_name t) ∙ h.0

is_itself : (n : ℕ) → nat_eq n n ≡ true
is_itself n = grind (arith, nat_tests)

none_before : (n : ℕ) → nat_eq zero (suc n) ≡ false
none_before n = grind (arith, nat_tests)

both_later : (n m : ℕ) → nat_eq (suc n) (suc m) ≡ nat_eq n m
both_later n m = grind (arith, nat_tests)

-- the entry of the name stands at this place, and none other has it
abbrev OnlyAt : List ℕ → List Entry → ℕ → Type 0
OnlyAt name entries place = (q : ℕ) → is_named_at name entries q ≡ nat_eq q place

one_off : (name : List ℕ) (ts : List Tree) (place : ℕ) → Unlike key_name ts → OnlyAt name (filter_map entry_of ts) place
    → filter_map entry_of (at_first (is_named name) off_key ts) ≡ with_start_at (filter_map entry_of ts) place 4
one_off name [] place differ only = refl
one_off name (t ∷ ts) place differ only =
    by_case (is_named name t) refl (entry_of t) refl place only (λ p h. one_off name ts p differ.1 h)
  where
    by_case : (b : Bool) → is_named name t ≡ b → (o : Option Entry) → entry_of t ≡ o → (place : ℕ)
        → OnlyAt name (cons_option o (filter_map entry_of ts)) place
        → ((p : ℕ) → OnlyAt name (filter_map entry_of ts) p
        → filter_map entry_of (at_first (is_named name) off_key ts) ≡ with_start_at (filter_map entry_of ts) p 4)
        → filter_map entry_of (cond b (off_key t ∷ ts) (t ∷ at_first (is_named name) off_key ts))
        ≡ with_start_at (cons_option o (filter_map entry_of ts)) place 4
    by_case true is (Some e) here zero only rest =
        ap (λ (o : Option Entry). cons_option o (filter_map entry_of ts)) (off_entry t e here)
    by_case true is (Some e) here (suc p) only rest =
        absurd (false≢true (sym (none_before p) ∙ sym (only zero) ∙ ap (folds_same name) (named t e here) ∙ is))
    by_case true is None here place only rest =
        absurd (false≢true (sym (none_named name (key_name t) is ts differ.0 place) ∙ only place ∙ is_itself place))
    by_case false is (Some e) here zero only rest =
        absurd (false≢true (sym is ∙ sym (ap (folds_same name) (named t e here)) ∙ only zero ∙ is_itself zero))
    by_case false is (Some e) here (suc p) only rest =
        ap (λ (o : Option Entry). cons_option o (filter_map entry_of (at_first (is_named name) off_key ts))) here
        ∙ ap (λ es. e ∷ es) (rest p (λ q. only (suc q) ∙ both_later q p))
    by_case false is None here place only rest =
        ap (λ (o : Option Entry). cons_option o (filter_map entry_of (at_first (is_named name) off_key ts))) here
        ∙ rest place only

-- ---- the lists

-- the services with one off
abbrev off_services : List ℕ → Tree → Tree
off_services name t = of_children (at_first (is_named name) off_key) t

abbrev children_by : Option Tree → List Tree
children_by o = option_map_or children (option_and_then (find_key []) o) []

services_off : (name : List ℕ) (set : Tree)
    → services_of (off_set name set) ≡ at_first (is_named name) off_key (services_of set)
services_off name set =
    ap (λ (ts : List Tree). children_by (find (is_named (codes "Services")) ts))
    (changed_children (at_first (is_named (codes "Services")) (off_services name)) set)
    ∙ ap children_by
    (found_changed (is_named (codes "Services")) (off_services name)
    (λ t. ap (folds_same (codes "Services")) (same_name (at_first (is_named name) off_key) t)) (children set))
    ∙ by_case (find (is_named (codes "Services")) (children set))
  where
    by_case : (o : Option Tree)
        → children_by (option_map (off_services name) o) ≡ at_first (is_named name) off_key (children_by o)
    by_case None = refl
    by_case (Some t) = changed_children (at_first (is_named name) off_key) t

-- what is below `Control` stays
control_stays : (name : List ℕ) (path : List (List ℕ)) (set : Tree)
    → find_key (codes "Control" ∷ path) (off_set name set) ≡ find_key (codes "Control" ∷ path) set
control_stays name path set =
    ap (λ (ts : List Tree). option_and_then (find_key path) (find (is_named (codes "Control")) ts))
    (changed_children (at_first (is_named (codes "Services")) (off_services name)) set)
    ∙ ap (option_and_then (find_key path))
    (found_still (is_named (codes "Control")) (is_named (codes "Services")) (off_services name)
    (λ t is. unlike_name (codes "Services") (codes "Control") (head t).name refl is)
    (λ t. ap (folds_same (codes "Control")) (same_name (at_first (is_named name) off_key) t)) (children set))

orders_stay : (name : List ℕ) (set : Tree) → orders_of (off_set name set) ≡ orders_of set
orders_stay name set =
    let lists : tag_lists (off_set name set) ≡ tag_lists set = control_stays name (codes "GroupOrderList" ∷ []) set in
    let groups : listed_groups (off_set name set) ≡ listed_groups set =
    ap (λ (o : Option Tree). option_map_or (find_strings (codes "List")) o [])
    (control_stays name (codes "ServiceGroupOrder" ∷ []) set) in
    λ i. map (order_of (lists i)) (first_names (groups i))

-- the lists of the set with an entry off are those of the set with Start 4 at its place
pub lists_off : (name : List ℕ) (set : Tree) (place : ℕ) → HoldsKeys set
    → IsOnlyPlace name (entries_of set) (Some place)
    → record (lists_of set) { entries = with_start_at (entries_of set) place 4 } ≡ lists_of (off_set name set)
lists_off name set place held only =
    let entries : entries_of (off_set name set) ≡ with_start_at (entries_of set) place 4 =
    ap (filter_map entry_of) (services_off name set)
    ∙ one_off name (services_of set) place (unlike_from key_name (services_of set) (services_differ set held)) only in
    λ i. record { entries = sym entries i; orders = sym (orders_stay name set) i }

-- ---- an entry that is off for one start

-- the lists with this Start of the entry at a place
abbrev pub lists_with : Lists → ℕ → ℕ → Lists
lists_with l place start = record l { entries = with_start_at l.entries place start }

-- its own Start is restored
pub put_back_some : (l old new : Lists) (place start : ℕ)
    → Some start ≡ option_map (λ (e : Entry). e.start) (slice_get l.entries place)
    → old ≡ lists_with l place 4 → new ≡ lists_with old place start → new ≡ l
put_back_some l old new place start before off back = by_case (slice_get l.entries place) refl before
  where
    by_case : (o : Option Entry) → slice_get l.entries place ≡ o → Some start ≡ option_map (λ (e : Entry). e.start) o
        → new ≡ l
    by_case None is before = absurd cc
    by_case (Some e) is before =
        let same : start ≡ e.start = same_Some start e.start before in
        back ∙ (λ i. lists_with (off i) place (same i))
        ∙ ap (λ (es : List Entry). record l { entries = es }) (start_restored l.entries place 4 e is)

-- where none stands nothing was done
pub put_back_none : (l old : Lists) (place : ℕ) → None ≡ option_map (λ (e : Entry). e.start) (slice_get l.entries place)
    → old ≡ lists_with l place 4 → old ≡ l
put_back_none l old place before off = by_case (slice_get l.entries place) refl before
  where
    by_case : (o : Option Entry) → slice_get l.entries place ≡ o → None ≡ option_map (λ (e : Entry). e.start) o
        → old ≡ l
    by_case None is before = off ∙ ap (λ (es : List Entry). record l { entries = es }) (kept_start l.entries place 4 is)
    by_case (Some e) is before = absurd cc

-- what is reported on the lists with the entry off is reported on the set with it off
pub off_told : {E : Type 0} (r : Result (List Told) E) (taken whole : Taken) (lists : Lists) (name : List ℕ)
    (found : Option ℕ) (place : ℕ) → taken ≡ whole → HoldsKeys taken.set → lists ≡ lists_of taken.set
    → IsOnlyPlace name lists.entries found
    → found ≡ Some place
    → IfOk r (λ told. (set : Tree) → lists_with lists place 4 ≡ lists_of set → told ≡ played taken set None)
    → IfOk r (λ told. told ≡ played whole (off_set name whole.set) None)
off_told (Ok told) taken whole lists name found place view held same only here h =
    let at : IsOnlyPlace name (entries_of taken.set) (Some place) = λ q.
    ap (λ (l : Lists). is_named_at name l.entries q) (sym same) ∙ only q
    ∙ ap (λ (o : Option ℕ). option_map_or (nat_eq q) o false) here in
    h (off_set name taken.set) (ap (λ (l : Lists). lists_with l place 4) same ∙ lists_off name taken.set place held at)
    ∙ ap (λ (t : Taken). played t (off_set name t.set) None) view
off_told (Err e) taken whole lists name found place view held same only here h = tt
