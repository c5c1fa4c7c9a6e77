-- The services and groups of a set have no line against themselves.
use Rattle.std.proofs.Common.{◌≡◌, ℕ, Bool, true, false, not, ◌&&◌, cond, List, [], ◌∷◌, map, filter, refl, sym, ap, ◌∙◌}
use Rattle.std.specs.Prelude.{Option, Some, None}
use Rattle.std.specs.List.{filter_map, cons_option, list_all}
use Rattle.std.specs.Option.{option_map, option_map_or}
use Rattle.std.proofs.lemmas.Bool.{eq-eqb}
use Rattle.nt_bytes.specs.Folding.{folds_same}
use Rattle.hive_model.specs.Tree.{Tree, head}
use Rattle.start_model.specs.Entries.{entry_with, services_of}
use Rattle.start_model.specs.Order.{GroupOrder, first_names, listed_groups, order_of, tag_lists}
use Rattle.start_model.proofs.HeldLemmas.{services_differ}
use Rattle.dependencies.proofs.MeetLemmas.{names_flip}
use Rattle.reg_tree.proofs.Unlike.{Lacks, Unlike, unlike_from}
use Rattle.answer_lines.specs.declared.diff_lines.lines.Shown.{Shown}
use Rattle.answer_lines.specs.declared.diff_lines.lines.Shown.TheVariants.{Nothing, Number, Text, Texts, Numbers}
use Rattle.set_diff.specs.declared.service.Service.{Service}
use Rattle.set_diff.specs.Services.{all_fields, field_shown, service_at, service_of, service_named, services_in, service_names, services_lines}
use Rattle.set_diff.specs.Sets.{Compared, compared_of, group_names, group_named, groups_lines}
use Rattle.set_diff.specs.Shown.{names_same, numbers_same, shown_same}
use Rattle.diff_laws.specs.diff_laws.Laws.{has_all, field_agrees, service_agrees, service_agrees_in, services_agree, group_agrees_in, groups_agree}
use Rattle.diff_laws.specs.diff_laws.Own.{OwnServices, OwnGroups}
use Rattle.diff_laws.proofs.AgreeLemmas.{and_of, nil_of, services_agree_so, groups_agree_so}
use Rattle.diff_laws.proofs.OwnLemmas.{folds_self, names_self, numbers_self, has_self, each_more, all_each, each_of, own_named}

-- ---- services

shown_self : (s : Shown) → shown_same s s ≡ true
shown_self Nothing = refl
shown_self (Number n) = eq-eqb n n refl
shown_self (Text t) = folds_self t
shown_self (Texts ts) = names_self ts
shown_self (Numbers ns) = numbers_self ns

service_self : (s : Service) → service_agrees s s ≡ true
service_self s =
    all_each (field_agrees s s) all_fields (each_of (λ f. field_agrees s s f ≡ true) all_fields (λ f. shown_self (field_shown f s)))

services_self : (xs : List Service) → Unlike (λ s. s.entry.name) xs → services_agree xs xs ≡ true
services_self xs apart =
    and_of (names_same (service_names xs) (service_names xs)) (list_all (service_agrees_in xs) xs) (names_self (service_names xs))
    (all_each (service_agrees_in xs) xs
    (each_more (λ s. service_named xs s.entry.name ≡ Some s) (λ s. service_agrees_in xs s ≡ true) xs
    (λ s found. ap (λ (o : Option Service). option_map_or (service_agrees s) o true) found ∙ service_self s)
    (own_named (λ s. s.entry.name) xs apart)))

-- the name of a service is that of its key
named_with : (t : Tree) (a b : Option ℕ) (s : Service) → option_map (service_at t) (entry_with t a b) ≡ Some s → s.entry.name ≡ (head t).name
named_with t (Some a) (Some b) s is = sym (ap (λ (o : Option Service). option_map_or (λ (x : Service). x.entry.name) o []) is)
named_with t (Some a) None s is = absurd cc
named_with t None b s is = absurd cc

lacks_services : (n : List ℕ) (ts : List Tree) → Lacks (λ t. (head t).name) n ts → Lacks (λ s. s.entry.name) n (filter_map service_of ts)
lacks_services n [] lacks = tt
lacks_services n (t ∷ ts) lacks = by (service_of t) refl (lacks_services n ts lacks.1)
  where
    by : (o : Option Service) → service_of t ≡ o → Lacks (λ s. s.entry.name) n (filter_map service_of ts)
        → Lacks (λ s. s.entry.name) n (cons_option o (filter_map service_of ts))
    by None is rest = rest
    by (Some s) is rest = (ap (λ (m : List ℕ). folds_same m n) (named_with t _ _ s is) ∙ lacks.0, rest)

unlike_services : (ts : List Tree) → Unlike (λ t. (head t).name) ts → Unlike (λ s. s.entry.name) (filter_map service_of ts)
unlike_services [] apart = tt
unlike_services (t ∷ ts) apart = by (service_of t) refl (unlike_services ts apart.1)
  where
    by : (o : Option Service) → service_of t ≡ o → Unlike (λ s. s.entry.name) (filter_map service_of ts)
        → Unlike (λ s. s.entry.name) (cons_option o (filter_map service_of ts))
    by None is rest = rest
    by (Some s) is rest = (
      lacks_services s.entry.name ts
          (each_more (λ u. folds_same (head u).name (head t).name ≡ false) (λ u. folds_same (head u).name s.entry.name ≡ false) ts
          (λ u off. ap (folds_same (head u).name) (named_with t _ _ s is) ∙ off) apart.0),
      rest,
    )

pub own_services : OwnServices
own_services set holds =
    nil_of (services_lines (services_in set) (services_in set))
    (services_agree_so (services_in set) (services_in set)
    ∙ services_self (services_in set)
    (unlike_services (services_of set) (unlike_from (λ t. (head t).name) (services_of set) (services_differ set holds))))

-- ---- groups

lacks_filter : (n : List ℕ) (p : List ℕ → Bool) (ns : List (List ℕ)) → Lacks (λ m. m) n ns → Lacks (λ m. m) n (filter p ns)
lacks_filter n p [] lacks = tt
lacks_filter n p (m ∷ ms) lacks = by (p m) (lacks_filter n p ms lacks.1)
  where
    by : (b : Bool) → Lacks (λ m. m) n (filter p ms) → Lacks (λ m. m) n (cond b (m ∷ filter p ms) (filter p ms))
    by true rest = (lacks.0, rest)
    by false rest = rest

unlike_filter : (p : List ℕ → Bool) (ns : List (List ℕ)) → Unlike (λ m. m) ns → Unlike (λ m. m) (filter p ns)
unlike_filter p [] apart = tt
unlike_filter p (m ∷ ms) apart = by (p m) (unlike_filter p ms apart.1)
  where
    by : (b : Bool) → Unlike (λ m. m) (filter p ms) → Unlike (λ m. m) (cond b (m ∷ filter p ms) (filter p ms))
    by true rest = (lacks_filter m p ms apart.0, rest)
    by false rest = rest

-- the names that are left don't fold as this one
lacks_left : (n : List ℕ) (ns : List (List ℕ)) → Lacks (λ m. m) n (filter (λ m. not (folds_same n m)) ns)
lacks_left n [] = tt
lacks_left n (m ∷ ms) = by (folds_same n m) refl (lacks_left n ms)
  where
    by : (b : Bool) → folds_same n m ≡ b → Lacks (λ m. m) n (filter (λ m. not (folds_same n m)) ms)
        → Lacks (λ m. m) n (cond (not b) (m ∷ filter (λ m. not (folds_same n m)) ms) (filter (λ m. not (folds_same n m)) ms))
    by true is rest = rest
    by false is rest = (names_flip m n ∙ is, rest)

unlike_first_names : (ns : List (List ℕ)) → Unlike (λ m. m) (first_names ns)
unlike_first_names [] = tt
unlike_first_names (n ∷ ns) = (lacks_left n (first_names ns), unlike_filter (λ m. not (folds_same n m)) (first_names ns) (unlike_first_names ns))

lacks_orders : (lists : Option Tree) (n : List ℕ) (ns : List (List ℕ)) → Lacks (λ m. m) n ns
    → Lacks (λ (g : GroupOrder). g.name) n (map (order_of lists) ns)
lacks_orders lists n [] lacks = tt
lacks_orders lists n (m ∷ ms) lacks = (lacks.0, lacks_orders lists n ms lacks.1)

unlike_orders : (lists : Option Tree) (ns : List (List ℕ)) → Unlike (λ m. m) ns → Unlike (λ (g : GroupOrder). g.name) (map (order_of lists) ns)
unlike_orders lists [] apart = tt
unlike_orders lists (n ∷ ns) apart = (lacks_orders lists n ns apart.0, unlike_orders lists ns apart.1)

groups_self : (c : Compared) → Unlike (λ (g : GroupOrder). g.name) c.groups → groups_agree c c ≡ true
groups_self c apart =
    let ns : List (List ℕ) = group_names c.groups in
    and_of (has_all ns ns && has_all ns ns) (names_same c.listed c.listed && list_all (group_agrees_in c.groups) c.groups)
    (and_of (has_all ns ns) (has_all ns ns) (has_self ns) (has_self ns))
    (and_of (names_same c.listed c.listed) (list_all (group_agrees_in c.groups) c.groups) (names_self c.listed)
    (all_each (group_agrees_in c.groups) c.groups
    (each_more (λ g. group_named c.groups g.name ≡ Some g) (λ g. group_agrees_in c.groups g ≡ true) c.groups
    (λ g found. ap (λ (o : Option GroupOrder). option_map_or (λ (b : GroupOrder). numbers_same g.tags b.tags) o true) found ∙ numbers_self g.tags)
    (own_named (λ g. g.name) c.groups apart))))

pub own_groups : OwnGroups
own_groups set =
    nil_of (groups_lines (compared_of set) (compared_of set))
    (groups_agree_so (compared_of set) (compared_of set)
    ∙ groups_self (compared_of set) (unlike_orders (tag_lists set) (first_names (listed_groups set)) (unlike_first_names (listed_groups set))))
