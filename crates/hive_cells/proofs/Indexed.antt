-- What a heap that can change keeps.
use Rattle.std.proofs.Common.{◌≡◌, ℕ, Bool, List, refl, sym, ap, ◌∙◌}
use Rattle.hive_model.specs.Bins.{Bin}
use Rattle.hive_cells.specs.Reading.{bins_of, IsKept}
use Rattle.hive_cells.specs.Holes.{free_sizes}

-- the bytes, the table and the index are those of some bins
pub record IsIndexed (text : List ℕ) (starts : List Bool) (rooms : List ℕ) : Type 0 where
  pub kept : IsKept text starts
  pub index : rooms ≡ free_sizes (bins_of text)

pub indexed : {text : List ℕ} {starts : List Bool} {rooms : List ℕ} {bins : List Bin} → IsKept text starts
    → bins_of text ≡ bins → rooms ≡ free_sizes bins → IsIndexed text starts rooms
indexed kept seen index = record { kept = kept; index = index ∙ ap free_sizes (sym seen) }

-- what needs no index
pub alone : {text : List ℕ} {starts : List Bool} → IsKept text starts
    → IsIndexed text starts (free_sizes (bins_of text))
alone kept = record { kept = kept; index = refl }
