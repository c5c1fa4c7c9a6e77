-- How does a list of work lead to the least set?
use Rattle.std.specs.Prelude.{◌≡◌, ◌⊎◌, ℕ, ◌+◌, ◌*◌, ◌≤◌, Bool, true, not, List, length, count_by, Contains}
use Rattle.least_set.specs.Edges.{HasEdge, IsClosed, is_marked}

-- these vertices are marked, and are work where they were not marked before
pub record Marks (row : List ℕ) (marks : List Bool) (work : List ℕ) (marks' : List Bool) (work' : List ℕ) : Type 0 where
  pub len : length marks' ≡ length marks
  pub marked : (k : ℕ) → Contains row k → is_marked marks' k ≡ true
  pub kept_marks : (k : ℕ) → is_marked marks k ≡ true → is_marked marks' k ≡ true
  pub only : (k : ℕ) → is_marked marks' k ≡ true → (is_marked marks k ≡ true) ⊎ (Contains row k × Contains work' k)
  pub kept : (k : ℕ) → Contains work k → Contains work' k
  pub noted : (k : ℕ) → Contains work' k → Contains work k ⊎ (is_marked marks' k ≡ true)
  pub nearer : 2 * count_by not marks' + length work' ≤ 2 * count_by not marks + length work

-- what is marked has to be, and leads to what is marked or is still work
pub record IsReaching (rows : List (List ℕ)) (firsts : List ℕ) (marks : List Bool) (work : List ℕ) : Type 0 where
  pub len : length marks ≡ length rows
  pub honest : (k : ℕ) → Contains work k → is_marked marks k ≡ true
  pub begun : (v : ℕ) → Contains firsts v → is_marked marks v ≡ true
  pub closed : (u : ℕ) → is_marked marks u ≡ true
      → Contains work u ⊎ ((v : ℕ) → HasEdge rows u v → is_marked marks v ≡ true)
  pub least : (set : ℕ → Bool) → IsClosed rows firsts set → (v : ℕ) → is_marked marks v ≡ true → set v ≡ true
