-- The services of a set have names that differ.
use Rattle.std.proofs.Common.{◌≡◌, ℕ, zero, suc, ◌<◌, Bool, true, false, cond, List, [], ◌∷◌, get_or, map, Option, Some, None, refl, sym, ap, ◌∙◌, subst, arith}
use Rattle.std.specs.Prelude.{Contains, slice_get, codes}
use Rattle.std.specs.List.{filter_map}
use Rattle.std.specs.Option.{option_map_or}
use Rattle.std.proofs.lemmas.Bool.{false≢true}
use Rattle.std.proofs.lemmas.List.{get_or_default}
use Rattle.std.proofs.lemmas.Option.{slice_get_within, get_or_from_slice_get, same_Some}
use Rattle.nt_bytes.specs.Folding.{folds_same}
use Rattle.hive_model.specs.Tree.{Tree, head, find_dword}
use Rattle.hive_model.specs.Valid.{HoldsKeys, KeysDiffer}
use Rattle.reg_tree.proofs.Unlike.{folds_swap}
use Rattle.start_model.specs.Demand.{Need}
use Rattle.start_model.specs.Entries.{Entry, entry_of, entry_with, entries_of, services_of, need_of}
use Rattle.start_model.specs.Order.{Rank, orders_of, ordered_of}
use Rattle.start_model.specs.Sets.{select_numbers_of, set_of, set_name, is_usable}
use Rattle.start_model.proofs.HeldLemmas.{services_differ}
use Rattle.service_control.specs.State.{ControlState}
use Rattle.service_control.specs.First.{is_controlled, controlled, table_of, ranks_of, by_group_of, control_of}
use Rattle.service_control.specs.Calls.{start_refusal, stop_refusal, off_refusal, after_start, after_stop, after_stop_all}
use Rattle.service_control.specs.Laws.{Call, start, stop, stop_all, after_call, after_calls, NamesDiffer, IsLeast}
use Rattle.service_control.specs.declared.stop.ControlStop.{ControlStop}
use Rattle.service_control.proofs.LeastLemmas.{a_least_start, from}
use Rattle.control_command.specs.declared.command.ControlCommand.{ControlCommand}
use Rattle.control_command.specs.Report.{default_set}
use Rattle.command_laws.specs.control_laws.Called.{all_calls_by, control_behind}
use Rattle.hive_model.proofs.HeldLemmas.{held_key}

-- a service of the table, by group, is one of the table
of_table : (table : List Need) (places : List ℕ) (n : Need) → Contains (filter_map (slice_get table) places) n
    → Contains table n
of_table table places n c =
    let f = from (slice_get table) places n c in
    (f.item, slice_get_within table f.item n f.is, get_or_from_slice_get table f.item n n f.is)

-- the key of a service
record HasKey (set : Tree) (n : Need) : Type 0 where
  key : Tree
  entry : Entry
  there : Contains (services_of set) key
  read : entry_of key ≡ Some entry
  need : controlled entry ≡ Some n

has_key : (set : Tree) (n : Need) → Contains (table_of set) n → HasKey set n
has_key set n c =
    let e = from controlled (entries_of set) n c in
    let t = from entry_of (services_of set) e.item e.there in
    record { key = t.item; entry = e.item; there = t.there; read = t.is; need = e.is }

-- ---- its name

need_name : (b : Bool) (e : Entry) (n : Need) → cond b (Some (need_of e)) None ≡ Some n → n.name ≡ e.name
need_name true e n h = ap (λ (o : Option Need). option_map_or (λ (m : Need). m.name) o []) (sym h)
need_name false e n h = absurd cc

entry_name : (t : Tree) (start kind : Option ℕ) (e : Entry) → entry_with t start kind ≡ Some e → e.name ≡ (head t).name
entry_name t (Some s) (Some k) e h = ap (λ (o : Option Entry). option_map_or (λ (x : Entry). x.name) o []) (sym h)
entry_name t (Some s) None e h = absurd cc
entry_name t None kind e h = absurd cc

key_name : (set : Tree) (n : Need) (k : HasKey set n) → n.name ≡ (head k.key).name
key_name set n k =
    need_name (is_controlled k.entry.kind) k.entry n k.need
    ∙ entry_name k.key (find_dword (codes "Start") k.key) (find_dword (codes "Type") k.key) k.entry k.read

-- ---- two of one name

data Order (i j : ℕ) : Type 0 where
  is_less : i < j → Order i j
  is_same : i ≡ j → Order i j
  is_more : j < i → Order i j

compared : (i j : ℕ) → Order i j
compared zero zero = is_same refl
compared zero (suc j) = is_less (omega arith)
compared (suc i) zero = is_more (omega arith)
compared (suc i) (suc j) = by (compared i j)
  where
    by : Order i j → Order (suc i) (suc j)
    by (is_less h) = is_less (omega (arith, h))
    by (is_same h) = is_same (ap suc h)
    by (is_more h) = is_more (omega (arith, h))

-- two keys of a list whose names differ, of one name, are one
one_key : (keys : List Tree) (t u : Tree) → KeysDiffer keys → Contains keys t → Contains keys u
    → folds_same (head t).name (head u).name ≡ true → t ≡ u
one_key keys t u differ a b one = by (compared a.0 b.0)
  where
    here : get_or keys a.0 t ≡ t
    here = a.2

    there : get_or keys b.0 t ≡ u
    there = get_or_default keys b.0 t u b.1 ∙ b.2

    by : Order a.0 b.0 → t ≡ u
    by (is_less h) =
        absurd (false≢true (sym (differ a.0 b.0 t h b.1)
        ∙ (λ i. folds_same (head (there i)).name (head (here i)).name) ∙ folds_swap (head u).name (head t).name ∙ one))
    by (is_same h) = sym here ∙ ap (λ k. get_or keys k t) h ∙ there
    by (is_more h) =
        absurd (false≢true (sym (differ b.0 a.0 t h a.1) ∙ (λ i. folds_same (head (here i)).name (head (there i)).name)
        ∙ one))

one_need : (set : Tree) (n m : Need) (a : HasKey set n) (b : HasKey set m) → a.key ≡ b.key → n ≡ m
one_need set n m a b same =
    same_Some n m (sym a.need ∙ ap controlled (same_Some a.entry b.entry (sym a.read ∙ ap entry_of same ∙ b.read))
    ∙ b.need)

table_differs : (set : Tree) → HoldsKeys set → NamesDiffer (table_of set)
table_differs set holds n m there other one =
    let a = has_key set n there in
    let b = has_key set m other in
    let names : folds_same (head a.key).name (head b.key).name ≡ true =
    (let x = key_name set n a in let y = key_name set m b in λ i. folds_same (sym x i) (sym y i)) ∙ one in
    one_need set n m a b (one_key (services_of set) a.key b.key (services_differ set holds) a.there b.there names)

by_group_differs : (set : Tree) → HoldsKeys set → NamesDiffer (by_group_of (orders_of set) (table_of set))
by_group_differs set holds n m there other one =
    let places : List ℕ = map (λ (r : Rank). r.place) (ordered_of (ranks_of (orders_of set) (table_of set))) in
    table_differs set holds n m (of_table (table_of set) places n there) (of_table (table_of set) places m other) one

-- ---- no call changes which services there are

kept_unless : (why : Option ControlStop) (c d : ControlState) → d.by_group ≡ c.by_group
    → (option_map_or (λ _. c) why d).by_group ≡ c.by_group
kept_unless None c d h = h
kept_unless (Some reason) c d h = refl

kept_by : (c : ControlState) (call : Call) → (after_call c call).by_group ≡ c.by_group
kept_by c (start name) = kept_unless (start_refusal c name) c (after_start c name) refl
kept_by c (stop name) = kept_unless (stop_refusal c name) c (after_stop c name) refl
kept_by c (stop_all name) = kept_unless (off_refusal c name) c (after_stop_all c name) refl

kept : (c : ControlState) (calls : List Call) → (after_calls c calls).by_group ≡ c.by_group
kept c [] = refl
kept c (call ∷ more) = kept (after_call c call) more ∙ kept_by c call

pub names_differ : (set : Tree) (commands : List ControlCommand) → HoldsKeys set
    → NamesDiffer (control_behind set commands).by_group
names_differ set commands holds =
    subst NamesDiffer (sym (kept (control_of set) (all_calls_by commands))) (by_group_differs set holds)

-- ---- the set of a report

usable_is : (b : Bool) (o : Option Tree) (set : Tree) → cond b o None ≡ Some set → o ≡ Some set
usable_is true o set h = h
usable_is false o set h = absurd cc

pub default_holds : (tree set : Tree) → HoldsKeys tree → default_set tree ≡ Some set → HoldsKeys set
default_holds tree set holds is =
    let n : ℕ = (select_numbers_of tree).default in
    held_key (set_name n ∷ []) tree set holds (usable_is (is_usable tree n) (set_of tree n) set is)

pub least : (tree set : Tree) (commands : List ControlCommand) (name : List ℕ) → HoldsKeys tree
    → default_set tree ≡ Some set
    → IsLeast (control_behind set commands) name
least tree set commands name holds is =
    a_least_start (control_behind set commands) name (names_differ set commands (default_holds tree set holds is))
