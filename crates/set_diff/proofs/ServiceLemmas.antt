-- The services of a set, by their entries and their texts.
use Rattle.std.proofs.Common.{◌≡◌, List, [], ◌∷◌, cond, map, filter, refl, ap}
use Rattle.std.specs.Prelude.{Option, Some, None, zip}
use Rattle.std.specs.List.{filter_map, cons_option}
use Rattle.std.specs.Option.{option_map, is_some}
use Rattle.hive_model.specs.Tree.{Tree}
use Rattle.start_model.specs.Entries.{Entry, entry_of}
use Rattle.set_diff.specs.declared.service.Service.{Service}
use Rattle.set_diff.specs.Services.{service_at, service_of}
use Rattle.set_diff.specs.Texts.{texts_of, is_entry, with_texts}

-- one more key, by the entry that it is
more : (t : Tree) (o : Option Entry) (entries : List Entry) (keys : List Tree) (services : List Service)
    → map with_texts (zip entries (map texts_of keys)) ≡ services
    → map with_texts (zip (cons_option o entries) (map texts_of (cond (is_some o) (t ∷ keys) keys)))
    ≡ cons_option (option_map (service_at t) o) services
more t None entries keys services before = before
more t (Some e) entries keys services before = ap (λ (ss : List Service). service_at t e ∷ ss) before

pub joined_services : (keys : List Tree)
    → map with_texts (zip (filter_map entry_of keys) (map texts_of (filter is_entry keys))) ≡ filter_map service_of keys
joined_services [] = refl
joined_services (t ∷ ts) =
    more t (entry_of t) (filter_map entry_of ts) (filter is_entry ts) (filter_map service_of ts) (joined_services ts)
