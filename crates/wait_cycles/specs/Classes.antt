-- Which vertices lead to one another?
use Rattle.std.specs.Prelude.{◌≡◌, ◌≢◌, ◌⊎◌, ℕ, ◌<◌, Bool, true, nat_eq, nat_lt, ◌&&◌, List, [], ◌∷◌, map, filter, length, slice_index, if◌then◌else◌}
use Rattle.std.specs.List.{list_any, range_with_len}
use Rattle.start_model.specs.Demand.{member}
use Rattle.wait_cycles.specs.Waits.{comes_to, begins_with}
use Rattle.least_set.specs.Work.{Marks}
use Rattle.wait_cycles.specs.Graph.{row_at, IsReach}

-- an edge leads from u to v
abbrev pub has_edge : List (List ℕ) → ℕ → ℕ → Bool
has_edge rows u v = list_any (nat_eq v) (row_at rows u)

-- one or more edges lead from u to v
abbrev pub leads_on : List (List ℕ) → ℕ → ℕ → Bool
leads_on rows u v = comes_to (has_edge rows) (length rows) u v

-- each of the two leads to the other
abbrev pub are_mutual : List (List ℕ) → ℕ → ℕ → Bool
are_mutual rows u v = leads_on rows u v && leads_on rows v u

-- ---- numbers of vertices

-- which of the numbers are k
abbrev pub which : ℕ → List ℕ → List Bool
which k numbers = map (nat_eq k) numbers

-- k came in place of some numbers
abbrev pub OnlyPuts : ℕ → List ℕ → List ℕ → Type 0
OnlyPuts k old new = (v : ℕ) → (slice_index new v ≡ k) ⊎ (slice_index new v ≡ slice_index old v)

-- these vertices have the number k, and are work where they had another before
pub record Numbers (k : ℕ) (row old work new work' : List ℕ) : Type 0 where
  pub len : length new ≡ length old
  pub marks : Marks row (which k old) work (which k new) work'
  pub puts : OnlyPuts k old new

-- the edges to what is marked
abbrev pub kept_rows : List Bool → List (List ℕ) → List (List ℕ)
kept_rows marks rows = map (filter (member marks)) rows

-- what edges lead to from k over marked vertices alone has the number k
pub record IsWalked (rows : List (List ℕ)) (k : ℕ) (among : List Bool) (old new : List ℕ) : Type 0 where
  pub reach : IsReach (kept_rows among rows) k (which k new)
  pub puts : OnlyPuts k old new

-- ---- classes of vertices

-- Each vertex has the number of its class, or as many as there are vertices where it was not looked at yet, or more where it is on no
-- cycle. A number of a class, and one of what leads to a vertex, is that of a vertex that was looked at.
pub record AreClasses (rows : List (List ℕ)) (before classes : List ℕ) : Type 0 where
  pub len_before : length before ≡ length rows
  pub len : length classes ≡ length rows
  pub linked : (u v : ℕ) → u < length rows → v < length rows → slice_index classes u < length rows
      → slice_index classes u ≡ slice_index classes v → are_mutual rows u v ≡ true
  pub same : (u v : ℕ) → u < length rows → v < length rows → slice_index classes u ≢ length rows → are_mutual rows u v ≡ true
      → (slice_index classes u < length rows) × (slice_index classes u ≡ slice_index classes v)
  pub rooted : (u : ℕ) → u < length rows → slice_index classes u < length rows
      → slice_index classes (slice_index classes u) ≢ length rows
  pub rooted_before : (u : ℕ) → u < length rows → slice_index before u < length rows
      → slice_index classes (slice_index before u) ≢ length rows

-- the class of one vertex more is known
pub record AddsClass (rows : List (List ℕ)) (root : ℕ) (old before new : List ℕ) : Type 0 where
  pub classes : AreClasses rows before new
  pub kept : (u : ℕ) → u < length rows → slice_index old u ≢ length rows → slice_index new u ≢ length rows
  pub done : root < length rows → slice_index new root ≢ length rows

-- two vertices have one class exactly where each leads to the other
pub record SayMutual (rows : List (List ℕ)) (classes : List ℕ) : Type 0 where
  pub len : length classes ≡ length rows
  pub together : (u v : ℕ) → u < length rows → v < length rows
      → (nat_lt (slice_index classes u) (length classes) && nat_eq (slice_index classes u) (slice_index classes v)) ≡ are_mutual rows u v

-- ---- the members of classes

-- the places of a class, rising
abbrev pub members_of : List ℕ → ℕ → ℕ → List ℕ
members_of classes places c = filter (λ q. nat_lt c (length classes) && nat_eq c (slice_index classes q)) (range_with_len 0 places)

-- for each class its places
pub record AreMembers (classes : List ℕ) (places : ℕ) (members : List (List ℕ)) : Type 0 where
  pub len : length members ≡ length classes
  pub each : (c : ℕ) → row_at members c ≡ members_of classes places c

-- the list alone, if the place is its first
abbrev pub first_from : ℕ → List ℕ → List (List ℕ)
first_from p cycle = if begins_with p cycle then cycle ∷ [] else []
