-- Sets whose services and groups agree have alike entries and orders.
use Rattle.std.proofs.Common.{◌≡◌, ℕ, Bool, true, false, not, ◌&&◌, cond, nat_eq, List, [], ◌∷◌, map, filter, Option, Some, None, refl, sym, ap, ◌∙◌}
use Rattle.std.specs.Prelude.{position, slice_get, option_and_then}
use Rattle.std.specs.Option.{option_map, option_map_or}
use Rattle.std.specs.List.{filter_map, cons_option, list_all}
use Rattle.std.proofs.lemmas.Bool.{false≢true, and_parts, eqb-true}
use Rattle.nt_bytes.specs.Folding.{folded, folds_same}
use Rattle.hive_model.specs.Tree.{Tree}
use Rattle.hive_model.specs.Valid.{HoldsKeys}
use Rattle.start_model.specs.Entries.{Entry, entry_of, services_of, entries_of}
use Rattle.start_model.specs.Order.{GroupOrder, first_names, listed_groups, order_of, orders_of, tag_lists}
use Rattle.reg_tree.proofs.Unlike.{Each}
use Rattle.answer_lines.specs.declared.diff_lines.lines.DiffField.{DiffField}
use Rattle.answer_lines.specs.declared.diff_lines.lines.DiffField.TheVariants as fields
use Rattle.set_diff.specs.declared.service.Service.{Service}
use Rattle.set_diff.specs.Services.{service_at, service_of, services_in, service_names, service_named}
use Rattle.set_diff.specs.Sets.{compared_of, group_names, group_named}
use Rattle.set_diff.specs.Shown.{names_same, numbers_same, shown_same, number_shown, text_shown}
use Rattle.diff_laws.specs.diff_laws.Laws.{field_agrees, service_agrees, service_agrees_in, services_agree, same_names, group_agrees_in, groups_agree}
use Rattle.diff_laws.proofs.OwnLemmas.{own_named}
use Rattle.diff_laws.proofs.FoldLemmas.{one_folded, same_first, both_folded, names_alike, same_names_of}
use Rattle.diff_laws.proofs.PlainLemmas.{plain, plain_order}
use Rattle.diff_laws.proofs.ApartLemmas.{services_apart, orders_apart}

-- ---- two services

text_alike : (g h : Option (List ℕ)) → shown_same (text_shown g) (text_shown h) ≡ true
    → option_map folded g ≡ option_map folded h
text_alike None None e = refl
text_alike None (Some h) e = absurd (false≢true e)
text_alike (Some g) None e = absurd (false≢true e)
text_alike (Some g) (Some h) e = ap Some (one_folded g h e)

number_alike : (g h : Option ℕ) → shown_same (number_shown g) (number_shown h) ≡ true → g ≡ h
number_alike None None e = refl
number_alike None (Some h) e = absurd (false≢true e)
number_alike (Some g) None e = absurd (false≢true e)
number_alike (Some g) (Some h) e = ap Some (eqb-true g h e)

first_of : (a b : Service) (field : DiffField) (rest : List DiffField)
    → list_all (field_agrees a b) (field ∷ rest) ≡ true
    → (field_agrees a b field ≡ true) × (list_all (field_agrees a b) rest ≡ true)
first_of a b field rest e = and_parts (field_agrees a b field) (list_all (field_agrees a b) rest) e

abbrev tail_3 : List DiffField
tail_3 =
    fields.Group ∷ fields.Tag ∷ fields.DependOnService ∷ fields.DependOnGroup ∷ fields.ImagePath ∷ fields.ObjectName
    ∷ []

entries_alike : (a b : Service) → folds_same a.entry.name b.entry.name ≡ true → service_agrees a b ≡ true
    → plain a.entry ≡ plain b.entry
entries_alike a b same agree =
    let p0 = first_of a b fields.Start (fields.Type ∷ fields.ErrorControl ∷ tail_3) agree in
    let p1 = first_of a b fields.Type (fields.ErrorControl ∷ tail_3) p0.1 in
    let p2 = first_of a b fields.ErrorControl tail_3 p1.1 in
    let p3 = first_of a b fields.Group
    (fields.Tag ∷ fields.DependOnService ∷ fields.DependOnGroup ∷ fields.ImagePath ∷ fields.ObjectName ∷ []) p2.1 in
    let p4 = first_of a b fields.Tag
    (fields.DependOnService ∷ fields.DependOnGroup ∷ fields.ImagePath ∷ fields.ObjectName ∷ []) p3.1 in
    let p5 = first_of a b fields.DependOnService
    (fields.DependOnGroup ∷ fields.ImagePath ∷ fields.ObjectName ∷ []) p4.1 in
    let p6 = first_of a b fields.DependOnGroup (fields.ImagePath ∷ fields.ObjectName ∷ []) p5.1 in
    let name = one_folded a.entry.name b.entry.name same in
    let start = eqb-true a.entry.start b.entry.start p0.0 in
    let kind = eqb-true a.entry.kind b.entry.kind p1.0 in
    let group = text_alike a.entry.group b.entry.group p3.0 in
    let tag = number_alike a.entry.tag b.entry.tag p4.0 in
    let services = names_alike a.entry.services b.entry.services p5.0 in
    let groups = names_alike a.entry.groups b.entry.groups p6.0 in
    λ i. record {
      name = name i;
      start = start i;
      kind = kind i;
      control = 0;
      group = group i;
      tag = tag i;
      services = services i;
      groups = groups i;
    }

-- ---- all services

-- what is found by a name is found by one that folds to it
service_by : (all : List Service) (n m : List ℕ) → folds_same n m ≡ true → service_named all n ≡ service_named all m
service_by all n m same =
    λ i. option_and_then (slice_get all) (position (λ name. same_first n m name same i) (service_names all))

abbrev plain_entries : List Service → List Entry
plain_entries xs = map (λ (s : Service). plain s.entry) xs

services_alike : (all xs ys : List Service) → Each (λ (y : Service). service_named all y.entry.name ≡ Some y) ys
    → names_same (service_names xs) (service_names ys) ≡ true → list_all (service_agrees_in all) xs ≡ true
    → plain_entries xs ≡ plain_entries ys
services_alike all [] [] found same agree = refl
services_alike all [] (y ∷ ys) found same agree = absurd (false≢true same)
services_alike all (x ∷ xs) [] found same agree = absurd (false≢true same)
services_alike all (x ∷ xs) (y ∷ ys) found same agree =
    let names = and_parts (folds_same x.entry.name y.entry.name)
    (names_same (service_names xs) (service_names ys)) same in
    let fields = and_parts (service_agrees_in all x) (list_all (service_agrees_in all) xs) agree in
    let it = sym (ap (λ (o : Option Service). option_map_or (service_agrees x) o true)
    (service_by all x.entry.name y.entry.name names.0 ∙ found.0)) ∙ fields.0 in
    let first = entries_alike x y names.0 it in
    let rest = services_alike all xs ys found.1 names.1 fields.1 in
    λ i. first i ∷ rest i

entries_plain : (ts : List Tree) → map plain (filter_map entry_of ts) ≡ plain_entries (filter_map service_of ts)
entries_plain [] = refl
entries_plain (t ∷ ts) = by (entry_of t) (entries_plain ts)
  where
    by : (o : Option Entry) → map plain (filter_map entry_of ts) ≡ plain_entries (filter_map service_of ts)
        → map plain (cons_option o (filter_map entry_of ts))
        ≡ plain_entries (cons_option (option_map (service_at t) o) (filter_map service_of ts))
    by None rest = rest
    by (Some e) rest = λ i. plain e ∷ rest i

pub sets_entries : (first second : Tree) → HoldsKeys second
    → services_agree (services_in first) (services_in second) ≡ true
    → map plain (entries_of first) ≡ map plain (entries_of second)
sets_entries first second holds agree =
    let xs : List Service = services_in first in
    let ys : List Service = services_in second in
    let parts = and_parts (names_same (service_names xs) (service_names ys))
    (list_all (service_agrees_in ys) xs) agree in
    entries_plain (services_of first)
    ∙ services_alike ys xs ys
    (own_named (λ (s : Service). s.entry.name) ys (services_apart second holds)) parts.0 parts.1
    ∙ sym (entries_plain (services_of second))

-- ---- groups

filtered : (b : Bool) (m : List ℕ) (ms : List (List ℕ))
    → map folded (cond b (m ∷ ms) ms) ≡ cond b (folded m ∷ map folded ms) (map folded ms)
filtered true m ms = refl
filtered false m ms = refl

filter_plain : (n : List ℕ) (ms : List (List ℕ))
    → map folded (filter (λ m. not (folds_same n m)) ms) ≡ filter (λ m. not (folds_same (folded n) m)) (map folded ms)
filter_plain n [] = refl
filter_plain n (m ∷ ms) =
    filtered (not (folds_same n m)) m (filter (λ m. not (folds_same n m)) ms)
    ∙ (λ i. cond (not (sym (both_folded n m) i)) (folded m ∷ filter_plain n ms i) (filter_plain n ms i))

first_plain : (ns : List (List ℕ)) → map folded (first_names ns) ≡ first_names (map folded ns)
first_plain [] = refl
first_plain (n ∷ ns) =
    ap (λ (ms : List (List ℕ)). folded n ∷ ms)
    (filter_plain n (first_names ns) ∙ ap (filter (λ m. not (folds_same (folded n) m))) (first_plain ns))

order_names : (lists : Option Tree) (ns : List (List ℕ)) → group_names (map (order_of lists) ns) ≡ ns
order_names lists [] = refl
order_names lists (n ∷ ns) = λ i. n ∷ order_names lists ns i

group_by : (all : List GroupOrder) (n m : List ℕ) → folds_same n m ≡ true → group_named all n ≡ group_named all m
group_by all n m same =
    λ i. option_and_then (slice_get all) (position (λ name. same_first n m name same i) (group_names all))

numbers_alike : (ns ms : List ℕ) → numbers_same ns ms ≡ true → ns ≡ ms
numbers_alike [] [] h = refl
numbers_alike [] (m ∷ ms) h = absurd (false≢true h)
numbers_alike (n ∷ ns) [] h = absurd (false≢true h)
numbers_alike (n ∷ ns) (m ∷ ms) h =
    let both = and_parts (nat_eq n m) (numbers_same ns ms) h in
    let one = eqb-true n m both.0 in
    let rest = numbers_alike ns ms both.1 in
    λ i. one i ∷ rest i

orders_alike : (all xs ys : List GroupOrder) → Each (λ (y : GroupOrder). group_named all y.name ≡ Some y) ys
    → names_same (group_names xs) (group_names ys) ≡ true → list_all (group_agrees_in all) xs ≡ true
    → map plain_order xs ≡ map plain_order ys
orders_alike all [] [] found same agree = refl
orders_alike all [] (y ∷ ys) found same agree = absurd (false≢true same)
orders_alike all (x ∷ xs) [] found same agree = absurd (false≢true same)
orders_alike all (x ∷ xs) (y ∷ ys) found same agree =
    let names = and_parts (folds_same x.name y.name) (names_same (group_names xs) (group_names ys)) same in
    let tags = and_parts (group_agrees_in all x) (list_all (group_agrees_in all) xs) agree in
    let it = sym (ap (λ (o : Option GroupOrder). option_map_or (λ (b : GroupOrder). numbers_same x.tags b.tags) o true)
    (group_by all x.name y.name names.0 ∙ found.0)) ∙ tags.0 in
    let name = one_folded x.name y.name names.0 in
    let numbers = numbers_alike x.tags y.tags it in
    let rest = orders_alike all xs ys found.1 names.1 tags.1 in
    λ i. record { name = name i; tags = numbers i } ∷ rest i

pub sets_orders : (first second : Tree) → groups_agree (compared_of first) (compared_of second) ≡ true
    → map plain_order (orders_of first) ≡ map plain_order (orders_of second)
sets_orders first second agree =
    let xs : List GroupOrder = orders_of first in
    let ys : List GroupOrder = orders_of second in
    let ns : List (List ℕ) = listed_groups first in
    let ms : List (List ℕ) = listed_groups second in
    let one = and_parts (same_names (group_names xs) (group_names ys))
    (names_same ns ms && list_all (group_agrees_in ys) xs) agree in
    let two = and_parts (names_same ns ms) (list_all (group_agrees_in ys) xs) one.1 in
    let names : map folded (group_names xs) ≡ map folded (group_names ys) =
    ap (map folded) (order_names (tag_lists first) (first_names ns)) ∙ first_plain ns
    ∙ ap first_names (names_alike ns ms two.0)
    ∙ sym (first_plain ms) ∙ sym (ap (map folded) (order_names (tag_lists second) (first_names ms))) in
    orders_alike ys xs ys (own_named (λ (g : GroupOrder). g.name) ys (orders_apart second))
    (same_names_of (group_names xs) (group_names ys) names) two.1
