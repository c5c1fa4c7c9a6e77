-- The services and the groups of a set have names unlike each other.
use Rattle.std.proofs.Common.{◌≡◌, ℕ, Bool, true, false, not, cond, List, [], ◌∷◌, map, filter, Option, Some, None, refl, sym, ap, ◌∙◌}
use Rattle.std.specs.Option.{option_map, option_map_or}
use Rattle.std.specs.List.{filter_map, cons_option}
use Rattle.nt_bytes.specs.Folding.{folds_same}
use Rattle.hive_model.specs.Tree.{Tree, head}
use Rattle.hive_model.specs.Valid.{HoldsKeys}
use Rattle.start_model.specs.Entries.{entry_with, services_of}
use Rattle.start_model.specs.Order.{GroupOrder, first_names, listed_groups, order_of, orders_of, tag_lists}
use Rattle.start_model.proofs.HeldLemmas.{services_differ}
use Rattle.dependencies.proofs.MeetLemmas.{names_flip}
use Rattle.reg_tree.proofs.Unlike.{Lacks, Unlike, unlike_from}
use Rattle.set_diff.specs.declared.service.Service.{Service}
use Rattle.set_diff.specs.Services.{service_at, service_of, services_in}
use Rattle.diff_laws.proofs.OwnLemmas.{each_more}

-- ---- services

-- the name of a service is that of its key
named_with : (t : Tree) (a b : Option ℕ) (s : Service) → option_map (service_at t) (entry_with t a b) ≡ Some s
    → s.entry.name ≡ (head t).name
named_with t (Some a) (Some b) s is =
    sym (ap (λ (o : Option Service). option_map_or (λ (x : Service). x.entry.name) o []) is)
named_with t (Some a) None s is = absurd cc
named_with t None b s is = absurd cc

lacks_services : (n : List ℕ) (ts : List Tree) → Lacks (λ t. (head t).name) n ts
    → Lacks (λ s. s.entry.name) n (filter_map service_of ts)
lacks_services n [] lacks = tt
lacks_services n (t ∷ ts) lacks = by (service_of t) refl (lacks_services n ts lacks.1)
  where
    by : (o : Option Service) → service_of t ≡ o → Lacks (λ s. s.entry.name) n (filter_map service_of ts)
        → Lacks (λ s. s.entry.name) n (cons_option o (filter_map service_of ts))
    by None is rest = rest
    by (Some s) is rest = (ap (λ (m : List ℕ). folds_same m n) (named_with t _ _ s is) ∙ lacks.0, rest)

unlike_services : (ts : List Tree) → Unlike (λ t. (head t).name) ts
    → Unlike (λ s. s.entry.name) (filter_map service_of ts)
unlike_services [] apart = tt
unlike_services (t ∷ ts) apart = by (service_of t) refl (unlike_services ts apart.1)
  where
    by : (o : Option Service) → service_of t ≡ o → Unlike (λ s. s.entry.name) (filter_map service_of ts)
        → Unlike (λ s. s.entry.name) (cons_option o (filter_map service_of ts))
    by None is rest = rest
    by (Some s) is rest = (
      lacks_services s.entry.name ts
          (each_more (λ u. folds_same (head u).name (head t).name ≡ false)
          (λ u. folds_same (head u).name s.entry.name ≡ false) ts
          (λ u off. ap (folds_same (head u).name) (named_with t _ _ s is) ∙ off) apart.0),
      rest,
    )

pub services_apart : (set : Tree) → HoldsKeys set → Unlike (λ s. s.entry.name) (services_in set)
services_apart set holds =
    unlike_services (services_of set) (unlike_from (λ t. (head t).name) (services_of set) (services_differ set holds))

-- ---- groups

lacks_filter : (n : List ℕ) (p : List ℕ → Bool) (ns : List (List ℕ)) → Lacks (λ m. m) n ns
    → Lacks (λ m. m) n (filter p ns)
lacks_filter n p [] lacks = tt
lacks_filter n p (m ∷ ms) lacks = by (p m) (lacks_filter n p ms lacks.1)
  where
    by : (b : Bool) → Lacks (λ m. m) n (filter p ms) → Lacks (λ m. m) n (cond b (m ∷ filter p ms) (filter p ms))
    by true rest = (lacks.0, rest)
    by false rest = rest

unlike_filter : (p : List ℕ → Bool) (ns : List (List ℕ)) → Unlike (λ m. m) ns → Unlike (λ m. m) (filter p ns)
unlike_filter p [] apart = tt
unlike_filter p (m ∷ ms) apart = by (p m) (unlike_filter p ms apart.1)
  where
    by : (b : Bool) → Unlike (λ m. m) (filter p ms) → Unlike (λ m. m) (cond b (m ∷ filter p ms) (filter p ms))
    by true rest = (lacks_filter m p ms apart.0, rest)
    by false rest = rest

-- the names that are left don't fold as this one
lacks_left : (n : List ℕ) (ns : List (List ℕ)) → Lacks (λ m. m) n (filter (λ m. not (folds_same n m)) ns)
lacks_left n [] = tt
lacks_left n (m ∷ ms) = by (folds_same n m) refl (lacks_left n ms)
  where
    by : (b : Bool) → folds_same n m ≡ b → Lacks (λ m. m) n (filter (λ m. not (folds_same n m)) ms)
        → Lacks (λ m. m) n (cond (not b) (m ∷ filter (λ m. not (folds_same n m)) ms)
        (filter (λ m. not (folds_same n m)) ms))
    by true is rest = rest
    by false is rest = (names_flip m n ∙ is, rest)

unlike_first_names : (ns : List (List ℕ)) → Unlike (λ m. m) (first_names ns)
unlike_first_names [] = tt
unlike_first_names (n ∷ ns) =
    (lacks_left n (first_names ns), unlike_filter (λ m. not (folds_same n m)) (first_names ns) (unlike_first_names ns))

lacks_orders : (lists : Option Tree) (n : List ℕ) (ns : List (List ℕ)) → Lacks (λ m. m) n ns
    → Lacks (λ (g : GroupOrder). g.name) n (map (order_of lists) ns)
lacks_orders lists n [] lacks = tt
lacks_orders lists n (m ∷ ms) lacks = (lacks.0, lacks_orders lists n ms lacks.1)

unlike_orders : (lists : Option Tree) (ns : List (List ℕ)) → Unlike (λ m. m) ns
    → Unlike (λ (g : GroupOrder). g.name) (map (order_of lists) ns)
unlike_orders lists [] apart = tt
unlike_orders lists (n ∷ ns) apart = (lacks_orders lists n ns apart.0, unlike_orders lists ns apart.1)

pub orders_apart : (set : Tree) → Unlike (λ (g : GroupOrder). g.name) (orders_of set)
orders_apart set =
    unlike_orders (tag_lists set) (first_names (listed_groups set)) (unlike_first_names (listed_groups set))
