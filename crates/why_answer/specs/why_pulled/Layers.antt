-- In which layer is an entry of a plan? (this project's own)
--
-- Layer 0 has the entries of Start 2. Layer i + 1 has those of Start 3 that one of layer i names, and that are in no earlier layer. They
-- are found breadth first: what an entry names and was not found before is in the layer after its own.
use Rattle.std.specs.Prelude.{ℕ, zero, suc, ◌+◌, ◌-◌, ◌==◌, nat_eq, List, [], ◌++◌, length, slice_get, replicate, position, Option, None, Some, if◌then◌else◌}
use Rattle.std.specs.Option.{option_map_or, option_and_then}
use Rattle.std.specs.List.{filter_map, range_with_len}
use Rattle.indexmap.specs.IndexSet.{insert_all}
use Rattle.start_model.specs.Entries.{Entry}
use Rattle.why_needs.specs.declared.why_state.views.PhaseView.{PhaseView}
use Rattle.why_needs.specs.why_state.States.{place_in}
use Rattle.why_answer.specs.why_pulled.Namers.{services_at}

-- the place, where its entry has this Start
abbrev pub start_at : List Entry → ℕ → ℕ → Option ℕ
start_at plan start p = option_and_then (λ (e : Entry). if e.start == start then Some p else None) (slice_get plan p)

-- the entry of Start 3 that has the name
abbrev pub demand_place : PhaseView → List ℕ → Option ℕ
demand_place v name = option_and_then (start_at v.plan 3) (place_in v.names name)

-- those that the entry at a place names
abbrev pub next_of : PhaseView → ℕ → List ℕ
next_of v p = filter_map (demand_place v) (services_at v.plan p)

-- the entries of Start 2
abbrev pub first_layer : PhaseView → List ℕ
first_layer v = filter_map (start_at v.plan 2) (range_with_len 0 (length v.plan))

-- the places that are found, in the order of their layers, and beside each the number of its layer
pub record Found : Type 0 where
  pub places : List ℕ
  pub layers : List ℕ

-- those of these places that are new are in this layer
abbrev pub widened : List ℕ → ℕ → Found → Found
widened next layer f = record {
  places = insert_all nat_eq f.places next;
  layers = f.layers ++ replicate (length (insert_all nat_eq f.places next) - length f.places) layer;
}

-- the layer of the place found as the one of this number
abbrev pub layer_at : Found → ℕ → ℕ
layer_at f at = option_map_or (λ k. k) (slice_get f.layers at) 0

-- the one after it
abbrev pub next_layer : Found → ℕ → ℕ
next_layer f at = layer_at f at + 1

-- that many places more are looked at, from the one at a place of the found on
unfoldable pub layered : (ℕ → List ℕ) → ℕ → ℕ → Found → Found
layered next zero at f = f
layered next (suc n) at f = option_map_or (λ p. layered next n (at + 1) (widened (next p) (next_layer f at) f)) (slice_get f.places at) f

-- the entries that are found, with their layers
abbrev pub layers_of : PhaseView → Found
layers_of v = layered (next_of v) (length v.plan) 0 (widened (first_layer v) 0 (record { places = []; layers = [] }))

-- the layer of a place
abbrev pub layer_of : Found → ℕ → Option ℕ
layer_of f p = option_and_then (slice_get f.layers) (position (nat_eq p) f.places)
