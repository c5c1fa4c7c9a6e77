-- Who pulls an entry of Start 3, who that one, up to one of Start 2? (this project's own)
--
-- An entry of layer i + 1 is pulled by the first of layer i, in registry order, that names it.
use Rattle.std.specs.Prelude.{ℕ, zero, suc, ◌+◌, ◌==◌, Bool, false, List, [], ◌∷◌, length, find, slice_get, Option, if◌then◌else◌}
use Rattle.std.specs.Option.{option_map, option_map_or, option_and_then}
use Rattle.std.specs.List.{filter_map}
use Rattle.start_model.specs.Entries.{Entry}
use Rattle.answer_lines.specs.declared.why_lines.lines.WhyLine.{WhyLine}
use Rattle.answer_lines.specs.declared.why_lines.lines.WhyLine.TheVariants as lines
use Rattle.why_needs.specs.declared.why_state.views.PhaseView.{PhaseView}
use Rattle.why_answer.specs.declared.why_place.orders.SetOrder.{SetOrder}
use Rattle.why_answer.specs.declared.why_pulled.namers.Namers.{Namers}
use Rattle.why_answer.specs.why_pulled.Namers.{namers_of, who_names}
use Rattle.why_answer.specs.why_pulled.Layers.{Found, layers_of, layer_of}

-- the place is in the layer before this one
abbrev pub is_before : Found → ℕ → ℕ → Bool
is_before f layer p = option_map_or (λ k. k + 1 == layer) (layer_of f p) false

-- the first of the layer before this one that names the entry at a place
abbrev pub puller_in : PhaseView → Namers → Found → ℕ → ℕ → Option ℕ
puller_in v n f q layer = option_and_then (λ (e : Entry). find (is_before f layer) (who_names n e.name)) (slice_get v.plan q)

-- who pulls the entry at a place; none of layer 0
abbrev pub puller_of : PhaseView → Namers → Found → ℕ → Option ℕ
puller_of v n f q = option_and_then (puller_in v n f q) (layer_of f q)

-- who pulls it, who that one, up to one of layer 0; that many at most
unfoldable pub pullers : (ℕ → Option ℕ) → ℕ → ℕ → List ℕ
pullers pull zero q = []
pullers pull (suc k) q = option_map_or (λ p. p ∷ pullers pull k p) (pull q) []

-- the line of a place
abbrev pub puller_line : PhaseView → ℕ → Option WhyLine
puller_line v p = option_map (λ (e : Entry). lines.Pulled e.name) (slice_get v.plan p)

-- the lines of all that pull the entry at a place
abbrev pub chain_lines : SetOrder → PhaseView → ℕ → List WhyLine
chain_lines o v q = filter_map (puller_line v) (pullers (puller_of v (namers_of o v) (layers_of v)) (length v.plan) q)

-- the same of an entry of Start 3; none pulls another
abbrev pub pulled_lines : SetOrder → PhaseView → ℕ → Entry → List WhyLine
pulled_lines o v q e = if e.start == 3 then chain_lines o v q else []
