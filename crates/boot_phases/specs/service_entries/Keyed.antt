-- What a table of entries keeps.
use Rattle.std.specs.Prelude.{◌≡◌, ◌<◌, ◌^◌, ℕ, List, Vec, All, length, map}
use Rattle.std.specs.declared.alloc.Global.{Global}
use Rattle.nt_bytes.specs.Folding.{folded}
use Rattle.start_model.specs.Entries.{Entry}
use Rattle.boot_phases.specs.service_entries.Named.{NamesDiffer}

-- each entry stands under its folded name, no two have one name, and places fit 32 bits
pub record AreKeyed (entries : List (Vec ℕ Global × Entry)) : Type 0 where
  pub keyed : All (λ e. e.0.items ≡ folded e.1.name) entries
  pub differ : NamesDiffer (map (λ e. e.1) entries)
  pub few : length entries < 2 ^ 32
