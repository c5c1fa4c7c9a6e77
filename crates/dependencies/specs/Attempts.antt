-- Which entries of a phase are attempted in sequence, asked in two ways? (this project's own)
use Rattle.std.specs.Prelude.{Bool, true, List, [], ◌∷◌, ◌++◌, length, replicate, remove, slice_get, if◌then◌else◌}
use Rattle.std.specs.Option.{option_map_or, option_to_list}
use Rattle.start_model.specs.Demand.{Need}
use Rattle.start_model.specs.Ready.{Label, next_of}
use Rattle.dependencies.specs.Waiting.{WaitingState, next_place_in, labels_at, after_trying}

-- all entries of a phase wait
abbrev pub all_waiting : List Need → List Label → WaitingState
all_waiting needs started = record { needs = needs; waits = replicate (length needs) true; started = started }

-- the next one by its place in the phase, where the attempts end in these ways, as long as one is ready
abbrev pub tried_by_place : List Bool → WaitingState → List Need
tried_by_place [] w = []
tried_by_place (ok ∷ oks) w =
    option_map_or (λ place. option_to_list (slice_get w.needs place) ++ tried_by_place oks (after_trying w place ok)) (next_place_in w) []

-- the first that is ready of a list, which is then taken out of it
abbrev pub tried_plainly : List Bool → List Label → List Need → List Need
tried_plainly [] started waiting = []
tried_plainly (ok ∷ oks) started waiting =
    option_map_or
    (λ k. option_to_list (slice_get waiting k) ++ tried_plainly oks (if ok then started ++ labels_at waiting k else started) (remove waiting k))
    (next_of started waiting) []
