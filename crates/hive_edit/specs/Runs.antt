-- Where is a run of new cells put, and what does that leave? (This project's own.)
use Rattle.std.specs.Prelude.{◌≡◌, ◌⊎◌, ℕ, ◌+◌, ◌<◌, ◌≤◌, List, None}
use Rattle.hive_model.specs.Limits.{most_bins}
use Rattle.hive_model.specs.Bins.{Cell, Bin, bins_size, or_else}
use Rattle.hive_cells.specs.Held.{held_at, held_among}
use Rattle.hive_cells.specs.Holes.{new_bin_size, IsLowestHole, NoneFits}

-- a new bin for a run of that many bytes would begin right before here, after all others
pub record IsNewPlace (size : ℕ) (bins : List Bin) (at : ℕ) : Type 0 where
  pub none : NoneFits size bins
  pub fits : bins_size bins + new_bin_size size ≤ most_bins
  pub place : at ≡ bins_size bins + 32

-- a run of that many bytes is to be put here: into the lowest free cell that has room for it, else into a new bin
pub record IsPlace (size : ℕ) (bins : List Bin) (at : ℕ) : Type 0 where
  pub inside : at + size ≤ most_bins
  pub room : IsLowestHole size bins at ⊎ IsNewPlace size bins at

-- each free cell is smaller, and the bins data would be longer than 16,777,216 bytes by a new bin
abbrev pub LacksPlace : ℕ → List Bin → Type 0
LacksPlace size bins = NoneFits size bins × (most_bins < bins_size bins + new_bin_size size)

-- A run of that many bytes was put here: its cells are held, where nothing was, and each other one as before. The bins data are as
-- long as before, or longer by a new bin for the run.
pub record IsRunPutAt (size at : ℕ) (run : List Cell) (old new : List Bin) : Type 0 where
  pub held : (o : ℕ) → held_at new o ≡ or_else (held_among o at run) (held_at old o)
  pub fresh : (o : ℕ) → at ≤ o → o < at + size → held_at old o ≡ None
  pub least : bins_size old ≤ bins_size new
  pub long : bins_size new ≤ bins_size old + new_bin_size size
