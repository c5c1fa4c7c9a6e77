-- What the calls of a bench make of a disk. (This project's own.)
use Rattle.std.specs.Prelude.{◌≤◌, ◌+◌, true, false, ℕ, List, [], ◌∷◌, ◌++◌}
use Rattle.hive_model.specs.Image.{File, Image, Arming, with_file, cut_orders, fault_orders}
use Rattle.nt_edge.specs.Disk.{DiskState, next}

-- a file was placed
abbrev pub placed : File → List ℕ → DiskState → DiskState
placed file bytes s = record s {
  held = with_file file bytes s.held;
  history = record s.history { placings = next s.history.placings };
}

-- the disk woke up with this image, which is marked by the counts as they stand
abbrev pub woken : Image → DiskState → DiskState
woken image s = record s {
  held = image;
  flight = [];
  on = true;
  history = record s.history { wakes = s.history.wakes ++ record { image = image; cuts = s.cuts; faults = s.faults } ∷ [] };
}

-- a file was taken, and this image is what the disk settled to
abbrev pub taken : Image → DiskState → DiskState
taken image s = record s {
  held = image;
  flight = [];
  history = record s.history { takings = next s.history.takings };
}

-- the power was turned off
abbrev pub turned_off : DiskState → DiskState
turned_off s = record s { on = false }

-- the power was cut
abbrev pub cut_off : DiskState → DiskState
cut_off s = record s {
  on = false;
  cuts = next s.cuts;
  history = record s.history { cut_calls = next s.history.cut_calls };
}

-- a stop was ordered
abbrev pub armed : Arming → DiskState → DiskState
armed arming s = record s { history = record s.history { armings = s.history.armings ++ arming ∷ [] } }

-- no more cuts came than were made or ordered, and no more faults than were ordered
pub record KeepsOrders (s : DiskState) : Type 0 where
  pub cuts : s.cuts ≤ s.history.cut_calls + cut_orders s.history.armings
  pub faults : s.faults ≤ fault_orders s.history.armings
