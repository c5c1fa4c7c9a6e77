-- Which entries does the automatic phase choose among, and how is one found?
use Rattle.std.specs.Prelude.{◌≡◌, ◌<◌, ◌^◌, ℕ, nat_eq, All, List, length, filter, slice_index_or}
use Rattle.std.specs.List.{range_with_len}
use Rattle.start_model.specs.Entries.{Entry}

-- entries, and the places of some of them
pub record Chosen : Type 0 where
  pub entries : List Entry
  pub places : List ℕ

-- for each place of an entry stands an index; that of a chosen place is its own among the chosen ones
pub record AreLedTo (entries : List Entry) (places indices : List ℕ) : Type 0 where
  pub few : length places < 2 ^ 32
  pub within : All (λ p. p < length entries) places
  pub len : length indices ≡ length entries
  pub leads : (k : ℕ) → k < length places → slice_index_or indices (slice_index_or places k 0) 0 ≡ k

-- the indices at which a place stands
abbrev pub indices_of : List ℕ → ℕ → List ℕ
indices_of places place = filter (λ k. nat_eq (slice_index_or places k 0) place) (range_with_len 0 (length places))
