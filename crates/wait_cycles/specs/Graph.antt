-- Places and needs as the vertices of one graph: first the places, then the needs.
use Rattle.std.specs.Prelude.{◌≡◌, ◌⊎◌, ℕ, ◌+◌, ◌*◌, ◌<◌, ◌≤◌, Bool, true, not, nat_lt, List, map, take, filter, length, count_by, Contains, if◌then◌else◌}
use Rattle.std.specs.List.{list_any, list_all}
pub use Rattle.least_set.specs.Edges.{row_at, HasEdge, AreEdges}
use Rattle.least_set.specs.Edges.{IsClosed, IsLeast}
use Rattle.start_model.specs.Demand.{member}
use Rattle.wait_cycles.specs.Waits.{leads}

-- The first vertices are places, and the others needs. Edges lead from a place to its needs and from a need to its ways.
pub record AreWaits (places : ℕ) (rows : List (List ℕ)) : Type 0 where
  pub fits : places ≤ length rows
  pub needs : (u v : ℕ) → u < places → HasEdge rows u v → (places ≤ v) × (v < length rows)
  pub ways : (u v : ℕ) → places ≤ u → HasEdge rows u v → v < places

-- the needs of each place, each by its ways
abbrev pub waits_in : ℕ → List (List ℕ) → List (List (List ℕ))
waits_in places rows = map (λ needs. map (row_at rows) needs) (take places rows)

-- ---- edges turned round

-- the same edges, each the other way
pub record IsInverse (rows back : List (List ℕ)) : Type 0 where
  pub len : length back ≡ length rows
  pub turned : (u v : ℕ) → HasEdge rows u v → HasEdge back v u
  pub only : (u v : ℕ) → HasEdge back v u → HasEdge rows u v

-- edges from these vertices to `end` came to the others
pub record PutsEdges (row : List ℕ) (end : ℕ) (old new : List (List ℕ)) : Type 0 where
  pub len : length new ≡ length old
  pub kept : (u v : ℕ) → HasEdge old u v → HasEdge new u v
  pub put : (u : ℕ) → Contains row u → HasEdge new u end
  pub only : (u v : ℕ) → HasEdge new u v → HasEdge old u v ⊎ (Contains row u × (v ≡ end))

-- ---- what edges lead to

-- the set has each vertex to which an edge leads from the start or from one of its own
abbrev pub IsClosedFrom : List (List ℕ) → ℕ → (ℕ → Bool) → Type 0
IsClosedFrom rows start = IsClosed rows (row_at rows start)

-- the marks are the least such set
abbrev pub IsReach : List (List ℕ) → ℕ → List Bool → Type 0
IsReach rows start = IsLeast rows (row_at rows start)

-- ---- what is met

-- a place is met where all its needs are, and a need where one of its ways is
abbrev pub is_ripe : List (List ℕ) → ℕ → (ℕ → Bool) → ℕ → Bool
is_ripe rows places set u = if nat_lt u places then list_all set (row_at rows u) else list_any set (row_at rows u)

-- the set has each vertex that is met by it
abbrev pub IsMetBy : List (List ℕ) → ℕ → (ℕ → Bool) → Type 0
IsMetBy rows places set = (u : ℕ) → u < length rows → is_ripe rows places set u ≡ true → set u ≡ true

-- the marks are the least such set
pub record IsMet (rows : List (List ℕ)) (places : ℕ) (marks : List Bool) : Type 0 where
  pub len : length marks ≡ length rows
  pub closed : IsMetBy rows places (member marks)
  pub least : (set : ℕ → Bool) → IsMetBy rows places set → (u : ℕ) → member marks u ≡ true → set u ≡ true

-- those of these vertices that are met are marked, and are work where they were not marked before
pub record Settles (rows : List (List ℕ)) (places : ℕ) (us : List ℕ)
    (marks : List Bool) (work : List ℕ) (marks' : List Bool) (work' : List ℕ) : Type 0 where
  pub len : length marks' ≡ length marks
  pub settled : (u : ℕ) → Contains us u → is_ripe rows places (member marks) u ≡ true → member marks' u ≡ true
  pub kept_marks : (k : ℕ) → member marks k ≡ true → member marks' k ≡ true
  pub only : (k : ℕ) → member marks' k ≡ true → (member marks k ≡ true) ⊎ Contains work' k
  pub kept : (k : ℕ) → Contains work k → Contains work' k
  pub noted : (k : ℕ) → Contains work' k → Contains work k ⊎ (member marks' k ≡ true)
  pub least : (set : ℕ → Bool) → IsMetBy rows places set → ((k : ℕ) → member marks k ≡ true → set k ≡ true)
      → (k : ℕ) → member marks' k ≡ true → set k ≡ true
  pub nearer : 2 * count_by not marks' + length work' ≤ 2 * count_by not marks + length work

-- ---- what is left

-- the edges to what isn't marked
abbrev pub left_rows : List Bool → List (List ℕ) → List (List ℕ)
left_rows marks rows = map (filter (λ v. not (member marks v))) rows

-- ---- from place to place

-- there is a step from one place to another where two edges lead there
pub record IsTwoEdges (rows : List (List ℕ)) (places : ℕ) (step : ℕ → ℕ → Bool) : Type 0 where
  pub made : (p q : ℕ) → p < places → q < places → step p q ≡ true → (v : ℕ) × HasEdge rows p v × HasEdge rows v q
  pub only : (p v q : ℕ) → p < places → HasEdge rows p v → HasEdge rows v q → step p q ≡ true

-- as many places, each of which leads to where two edges lead
pub record AreLeads (waits : List (List (List ℕ))) (places : ℕ) (rows : List (List ℕ)) : Type 0 where
  pub count : length waits ≡ places
  pub edges : IsTwoEdges rows places (leads waits)
