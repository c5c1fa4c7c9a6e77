-- Which set is the least that has some vertices and, with a vertex, all that it leads to? (this project's own)
--
-- A vertex stands for its number. For each there is the row of those to which an edge leads from it.
use Rattle.std.specs.Prelude.{◌≡◌, ℕ, ◌<◌, Bool, true, false, List, [], length, slice_index_or, Contains}

-- the list at a vertex
abbrev pub row_at : List (List ℕ) → ℕ → List ℕ
row_at rows u = slice_index_or rows u []

-- an edge leads from u to v
abbrev pub HasEdge : List (List ℕ) → ℕ → ℕ → Type 0
HasEdge rows u v = Contains (row_at rows u) v

-- edges lead to vertices
abbrev pub AreEdges : List (List ℕ) → Type 0
AreEdges rows = (u v : ℕ) → HasEdge rows u v → v < length rows

-- the vertex is in the set that these marks say
abbrev pub is_marked : List Bool → ℕ → Bool
is_marked marks k = slice_index_or marks k false

-- the set has the first vertices, and each to which an edge leads from one of its own
pub record IsClosed (rows : List (List ℕ)) (firsts : List ℕ) (set : ℕ → Bool) : Type 0 where
  pub begun : (v : ℕ) → Contains firsts v → set v ≡ true
  pub closed : (u v : ℕ) → set u ≡ true → HasEdge rows u v → set v ≡ true

-- the marks are the least such set
pub record IsLeast (rows : List (List ℕ)) (firsts : List ℕ) (marks : List Bool) : Type 0 where
  pub len : length marks ≡ length rows
  pub closed : IsClosed rows firsts (is_marked marks)
  pub least : (set : ℕ → Bool) → IsClosed rows firsts set → (v : ℕ) → is_marked marks v ≡ true → set v ≡ true
