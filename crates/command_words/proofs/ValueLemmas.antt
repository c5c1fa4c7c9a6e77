-- The values by their places, as texts.
use Rattle.std.proofs.Common.{◌≡◌, ℕ, List, Option, Some, option_map, set, Bor}
use Rattle.std.proofs.lemmas.List.{map-set}
use Rattle.command_words.specs.Views.{values_seen}

pub set-seen : (values : List (Option (Bor (List ℕ)))) (place : ℕ) (value : Bor (List ℕ))
    → values_seen (set values place (Some value)) ≡ set (values_seen values) place (Some value.now)
set-seen values place value = map-set (option_map (λ t. t.now)) values place (Some value)
