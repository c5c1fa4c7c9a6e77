-- How far has a list of work come?
use Rattle.std.specs.Prelude.{◌≡◌, ℕ, ◌+◌, ◌*◌, ◌<◌, Bool, true, not, nat_eq, ◌&&◌, List, length, take, slice_index, count_by, sum_by, Contains}
use Rattle.std.specs.List.{list_any, list_all}
use Rattle.start_model.specs.Demand.{member}
use Rattle.wait_cycles.specs.Graph.{row_at, is_ripe, IsMetBy}

-- it is marked, and was worked on
abbrev pub is_done : List Bool → List ℕ → ℕ → Bool
is_done marks work k = member marks k && not (list_any (nat_eq k) work)

-- what is marked has to be, and what is met by all that was worked on is marked
pub record IsSettling (rows : List (List ℕ)) (places : ℕ) (marks : List Bool) (work : List ℕ) : Type 0 where
  pub len : length marks ≡ length rows
  pub honest : (k : ℕ) → Contains work k → member marks k ≡ true
  pub settled : (u : ℕ) → u < length rows → is_ripe rows places (is_done marks work) u ≡ true → member marks u ≡ true
  pub least : (set : ℕ → Bool) → IsMetBy rows places set → (k : ℕ) → member marks k ≡ true → set k ≡ true

-- that many at the front of each list are marked
pub record AreFirsts (rows : List (List ℕ)) (marks : List Bool) (firsts : List ℕ) : Type 0 where
  pub len : length firsts ≡ length rows
  pub marked : (u : ℕ) → list_all (member marks) (take (slice_index firsts u) (row_at rows u)) ≡ true

-- what a walk in depth has left: vertices to see, edges to go along (lists of some form, by their lengths) and a path to go back
abbrev pub to_do : {X : Type 0} → (X → ℕ) → List X → List Bool → List ℕ → ℕ
to_do size rest seen path = 2 * count_by not seen + sum_by size rest + length path
