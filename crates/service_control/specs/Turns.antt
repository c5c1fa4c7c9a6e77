-- Which of some entries start, and in which order, where each attempt goes well?
--
-- Over and over the first of those that wait which is ready (this project's own, as the phases of a start).
use Rattle.std.specs.Prelude.{ℕ, zero, suc, true, List, [], ◌∷◌, length, slice_get}
use Rattle.std.specs.Option.{option_map_or}
use Rattle.std.specs.List.{filter_map}
use Rattle.start_model.specs.Demand.{Need}
use Rattle.start_model.specs.Ready.{Label}
use Rattle.dependencies.specs.Waiting.{WaitingState, next_place_in, after_trying}
use Rattle.dependencies.specs.Attempts.{all_waiting}

-- the places of the next ones, that many at most: each is the first that is ready once those before it are started
unfoldable pub turns : ℕ → WaitingState → List ℕ
turns zero w = []
turns (suc n) w = option_map_or (λ at. at ∷ turns n (after_trying w at true)) (next_place_in w) []

-- those that start where these were started before, each one as its turn comes
abbrev pub starts_of : List Need → List Label → List Need
starts_of needs started = filter_map (slice_get needs) (turns (length needs) (all_waiting needs started))
