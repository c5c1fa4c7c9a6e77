use Rattle.salvage_bins.specs.Layout.{layout_of}
use Rattle.salvage_file.specs.Salvage.{ground_in}
use Rattle.salvage_laws.proofs.BytesApart.{bytes-apart}
use Rattle.found_laws.specs.found_laws.Searched.{uses_by_parents}
use Rattle.found_laws.proofs.Ending.{all-apart, all-lie}
use Rattle.found_laws.proofs.found_laws.laws.no_byte_is_used_twice_for_what_is_found.Goals as goal

pub returns-clause-cells : goal.returns-clause-cells
returns-clause-cells c = all-lie

pub returns-clause-bytes : goal.returns-clause-bytes
returns-clause-bytes c = λ version bytes root fits whole.
    let hive = ground_in version bytes (layout_of bytes).marks in
    bytes-apart version bytes fits whole (uses_by_parents hive root) (all-lie hive root) (all-apart hive root)
