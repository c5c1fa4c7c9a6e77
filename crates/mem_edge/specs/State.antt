-- The state that a disk in memory stands for.
use Rattle.std.specs.Prelude.{ℕ, map}
use Rattle.nt_edge.specs.Disk.{DiskState, Wake}
use Rattle.nt_edge.specs.declared.disk.DiskCall.{DiskCall}
use Rattle.nt_edge.specs.declared.disk.DiskCall.TheVariants.{Read, Write, Sync}
use Rattle.mem_edge.specs.declared.store.MemDisk.{MemDisk}
use Rattle.mem_edge.specs.declared.store.Woke.{Woke}
use Rattle.mem_edge.specs.Orders.{arming_of}
use Rattle.mem_edge.specs.Views.{held_of, writes_of}

-- a wake with its mark
abbrev pub wake_of : Woke → Wake
wake_of w = record { image = held_of w.image; cuts = w.cuts; faults = w.faults }

abbrev pub state_of : MemDisk → DiskState
state_of d = record {
  held = held_of d.image;
  flight = writes_of d.flight.writes.items;
  on = d.on;
  cuts = d.cuts;
  faults = d.faults;
  lacks = d.lacks;
  history = record {
    wakes = map wake_of d.wakes.items;
    cut_calls = d.cut_calls;
    placings = d.placings;
    takings = d.takings;
    armings = map arming_of d.armings.items;
  };
}

-- how many calls of this kind there were since the disk was made
abbrev pub calls_of : MemDisk → DiskCall → ℕ
calls_of d Read = d.reads
calls_of d Write = d.writes
calls_of d Sync = d.syncs
