-- Two files as a disk: it is on, holds their first 65,536 sectors, and every write to it lacks memory.
-- (This project's own.)
use Rattle.std.specs.Prelude.{true, List, []}
use Rattle.std.proofs.Common.{lit≤}
use Rattle.hive_model.specs.Image.{image_of}
use Rattle.nt_edge.specs.Calls.{Made}
use Rattle.nt_edge.specs.Disk.{DiskState, IsBounded}
use Rattle.hive_log.specs.declared.files.TwoFiles.{TwoFiles}

abbrev pub files_state : TwoFiles → DiskState
files_state files = record {
  held = image_of files.primary.now files.log.now;
  flight = [];
  on = true;
  cuts = 0;
  faults = 0;
  lacks = 18446744073709551615;
  history = record { wakes = []; cut_calls = 0; placings = 0; takings = 0; armings = [] };
}

pub files_bounded : (files : TwoFiles) → IsBounded (files_state files)
files_bounded files = record { cuts = lit≤ tt; faults = lit≤ tt; lacks = lit≤ tt; cut_calls = lit≤ tt; placings = lit≤ tt; takings = lit≤ tt }

-- no call is remembered, so each list is said
pub files_said : (files : TwoFiles) → List Made × Unit {0}
files_said files = ([], tt)
