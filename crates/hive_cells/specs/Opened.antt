-- What is seen of cells that can change? (This project's own.)
use Rattle.std.specs.Prelude.{◌≤◌, ◌*◌, ◌⊎◌, ℕ, List, length, refl}
use Rattle.std.specs.Coded.{Coded, code_by, coded×, coded_ℕ, coded_list}
use Rattle.hive_model.specs.Bins.{Bin, spelled}
use Rattle.hive_model.specs.Codes.{coded_bin}
use Rattle.cell_tables.specs.saved_pages.Overlay.{before}

-- the bins, and the bins data as they were when they were settled last
pub record Opened : Type 0 where
  pub bins : List Bin
  pub base : List ℕ

-- these bins, and by the pages that were kept what they were
abbrev pub opened_of : List (List ℕ) → List Bin → Opened
opened_of pages bins = record { bins = bins; base = before pages (spelled 0 bins) }

-- both as the logic codes them
abbrev pub coded_opened : Coded Opened
coded_opened =
    code_by (List Bin × List ℕ) (coded× (coded_list coded_bin) (coded_list coded_ℕ)) (λ o. (o.bins, o.base))
    (λ p. record { bins = p.0; base = p.1 }) (λ _. refl)

-- one of the two has as many pages as that many bytes, or more
abbrev pub HaveRoom : List (List ℕ) → List (List ℕ) → ℕ → Type 0
HaveRoom pages spare long = (long ≤ 4096 * length pages) ⊎ (long ≤ 4096 * length spare)
