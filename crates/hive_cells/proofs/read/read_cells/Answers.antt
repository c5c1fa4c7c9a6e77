use Rattle.hive_cells.proofs.Steps.{kept_seen}
use Rattle.hive_cells.proofs.read.read_cells.Goals as goal

pub returns : goal.returns
returns c =
    let s = kept_seen c.as_slice-all.result.now c.mark_bins.new.starts.items c.in_ok-mark_bins.ensures in
    rw (← c.into_vec-bytes.ensures, ← c.as_slice-all.ensures.value) (s.0, s.1)
