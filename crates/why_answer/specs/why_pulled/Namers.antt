-- Who names whom in a plan, in the order of the registry? (this project's own)
--
-- Entries are places in the plan.
use Rattle.std.specs.Prelude.{ℕ, List, [], length, replicate, slice_get}
use Rattle.std.specs.Option.{option_map_or}
use Rattle.std.specs.List.{filter_map, flat_map}
use Rattle.nt_names.specs.name_places.Places.{places_named}
use Rattle.start_model.specs.Entries.{Entry}
use Rattle.why_needs.specs.declared.why_state.views.PhaseView.{PhaseView}
use Rattle.why_needs.specs.why_state.States.{place_in}
use Rattle.why_answer.specs.declared.why_place.orders.SetOrder.{SetOrder}
use Rattle.why_answer.specs.declared.why_pulled.namers.Namers.{Namers}

-- the entries of the plan, in registry order
abbrev pub registry_places : SetOrder → PhaseView → List ℕ
registry_places o v = filter_map (place_in v.names) o.names

-- the names of DependOnService of the entry at a place
abbrev pub services_at : List Entry → ℕ → List (List ℕ)
services_at plan p = option_map_or (λ (e : Entry). e.services) (slice_get plan p) []

-- the place, once for each of these names
abbrev pub owners_at : List Entry → ℕ → List ℕ
owners_at plan p = replicate (length (services_at plan p)) p

-- all names that entries of the plan name, in registry order, and beside each who names it
abbrev pub namers_of : SetOrder → PhaseView → Namers
namers_of o v = record {
  names = flat_map (services_at v.plan) (registry_places o v);
  places = flat_map (owners_at v.plan) (registry_places o v);
}

-- who names it, in registry order
abbrev pub who_names : Namers → List ℕ → List ℕ
who_names n name = filter_map (slice_get n.places) (places_named name n.names)
