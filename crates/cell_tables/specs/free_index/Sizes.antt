-- Sizes: for each slot of eight bytes the size of the free cell that begins there, or 0. And their tops: for each page of
-- 512 slots the greatest of its sizes.
use Rattle.std.specs.Prelude.{◌≡◌, ℕ, ◌+◌, ◌*◌, ◌<◌, ◌≤◌, List, length, Option, slice_index, MatchOption}

-- the numbers from here to there are at most this
abbrev pub AreUpTo : ℕ → List ℕ → ℕ → ℕ → Type 0
AreUpTo n xs from to = (j : ℕ) → from ≤ j → j < to → slice_index xs j ≤ n

-- the greatest of them, or 0 where there is none
pub record IsTop (xs : List ℕ) (from to top : ℕ) : Type 0 where
  pub bounds : AreUpTo top xs from to
  pub least : (n : ℕ) → AreUpTo n xs from to → top ≤ n

-- for each page the greatest of its sizes, in 16 MiB at most
pub record AreTops (sizes tops : List ℕ) : Type 0 where
  pub whole : length sizes ≡ 512 * length tops
  pub few : length tops ≤ 4096
  pub each : (p : ℕ) → p < length tops → IsTop sizes (512 * p) (512 * p + 512) (slice_index tops p)

-- the numbers from here to there are smaller than this
abbrev pub AreUnder : ℕ → List ℕ → ℕ → ℕ → Type 0
AreUnder size xs from to = (j : ℕ) → from ≤ j → j < to → slice_index xs j < size

-- the first place from here to there whose number is at least this size
pub record IsLowestFit (size : ℕ) (xs : List ℕ) (from to k : ℕ) : Type 0 where
  pub from_here : from ≤ k
  pub below : k < to
  pub fits : size ≤ slice_index xs k
  pub lowest : AreUnder size xs from k

-- that place, or none where each number is smaller
abbrev pub FindsLowest : ℕ → List ℕ → ℕ → ℕ → Option ℕ → Type 0
FindsLowest size xs from to r = MatchOption r (AreUnder size xs from to) (IsLowestFit size xs from to)

-- the last place from here to there whose number is not 0
pub record IsLastSome (xs : List ℕ) (from to k : ℕ) : Type 0 where
  pub from_here : from ≤ k
  pub below : k < to
  pub some : 0 < slice_index xs k
  pub last : AreUpTo 0 xs (k + 1) to

-- that place, or none where each number is 0
abbrev pub FindsLast : List ℕ → ℕ → ℕ → Option ℕ → Type 0
FindsLast xs from to r = MatchOption r (AreUpTo 0 xs from to) (IsLastSome xs from to)
