-- What is a disk in memory seen as, and what do its calls make of that? (This project's own.)
--
-- It is a disk of which two more things are known: the stops that are still to come, and what it leaves of the
-- writes in flight when it next settles. So what each call does to it is printed whole.
use Rattle.std.specs.Prelude.{◌≡◌, ◌++◌, ◌&&◌, not, if◌then◌else◌, [], ◌∷◌, ℕ, Option, Some, None, Result, Ok, Err}
use Rattle.hive_model.specs.Image.{Image, Write}
use Rattle.nt_edge.specs.Disk.{DiskState, now_of, next}
use Rattle.nt_edge.specs.Bench.{woken, cut_off, armed}
use Rattle.nt_edge.specs.Book.{call_of, keep_of}
use Rattle.hive_model.specs.Image.{ArmedCut, ArmedFault}
use Rattle.nt_edge.specs.declared.disk.DiskCall.{DiskCall}
use Rattle.nt_edge.specs.declared.disk.DiskStop.{DiskStop}
use Rattle.nt_edge.specs.declared.disk.DiskStop.TheVariants.{PowerLost, Failed, Memory}
use Rattle.nt_edge.specs.declared.disk.Keep.{Keep}
use Rattle.nt_edge.specs.declared.disk.Keep.TheVariants.{Nothing, Everything}
use Rattle.mem_edge.specs.declared.orders.Armed.{Armed}
use Rattle.mem_edge.specs.declared.store.MemDisk.{MemDisk}
use Rattle.mem_edge.specs.Orders.{is_due, counted_down, keep_at}
use Rattle.mem_edge.specs.State.{state_of}
use Rattle.mem_edge.specs.Views.{left}

-- the disk, the cut and the fault that are still to come, and what it leaves of the writes in flight
pub record Seen : Type 0 where
  pub disk : DiskState
  pub cut : Option Armed
  pub fault : Option Armed
  pub keep : Keep

abbrev pub seen_of : MemDisk → Seen
seen_of d = record { disk = state_of d; cut = d.armed_cut; fault = d.armed_fault; keep = d.keep }

-- the stop that comes in this call: where a cut and a fault are due, the power is lost
abbrev pub stop_of : Seen → DiskCall → Option DiskStop
stop_of s call = if is_due s.cut call then Some PowerLost else (if is_due s.fault call then Some Failed else None)

-- a call was counted, and a stop that is due in it came
abbrev pub called : DiskCall → Seen → Seen
called call s = record {
  disk = record s.disk {
    on = s.disk.on && not (is_due s.cut call);
    cuts = if is_due s.cut call then next s.disk.cuts else s.disk.cuts;
    faults = if is_due s.fault call then next s.disk.faults else s.disk.faults;
  };
  cut = counted_down s.cut call;
  fault = counted_down s.fault call;
  keep = keep_at s.cut call s.keep;
}

-- the call did this to the disk
abbrev pub doing : (DiskState → DiskState) → Seen → Seen
doing deed s = record s { disk = deed s.disk }

-- memory was lacking
abbrev pub lacking : DiskState → DiskState
lacking s = record s { lacks = next s.lacks }

-- a write is in flight
abbrev pub written : Write → DiskState → DiskState
written w s = record s { flight = s.flight ++ w ∷ [] }

-- the writes in flight are held
abbrev pub synced : DiskState → DiskState
synced s = record s { held = now_of s; flight = [] }

-- nothing
abbrev pub nothing : DiskState → DiskState
nothing s = s

-- A call of the disk with this deed: it is refused with the stop that comes in it, and else only where memory is lacking.
abbrev pub Does : {T : Type 0} → DiskCall → (DiskState → DiskState) → Seen → Seen → Result T DiskStop → Type 0
Does call deed old new (Ok x) = (stop_of old call ≡ None) × (new ≡ doing deed (called call old))
Does call deed old new (Err PowerLost) = (stop_of old call ≡ Some PowerLost) × (new ≡ called call old)
Does call deed old new (Err Failed) = (stop_of old call ≡ Some Failed) × (new ≡ called call old)
Does call deed old new (Err Memory) = (stop_of old call ≡ None) × (new ≡ doing lacking (called call old))

-- what it leaves of the writes in flight when it settles
abbrev pub settled : Seen → Image
settled s = left s.keep s.disk.held s.disk.flight

-- it woke up; without a cut it keeps all that will be in flight
abbrev pub woken_up : Seen → Seen
woken_up s = record s { disk = woken (settled s) s.disk; keep = Everything }

-- the power was cut
abbrev pub cut_with : Keep → Seen → Seen
cut_with keep s = record s { disk = cut_off s.disk; keep = keep }

-- a cut was ordered
abbrev pub cut_armed : DiskCall → ℕ → Keep → Seen → Seen
cut_armed call n keep s = record s {
  disk = armed (ArmedCut (call_of call) n (keep_of keep)) s.disk;
  cut = Some (record { call = call; left = n; keep = keep });
}

-- a fault was ordered; what it keeps is never asked
abbrev pub fault_armed : DiskCall → ℕ → Seen → Seen
fault_armed call n s = record s {
  disk = armed (ArmedFault (call_of call) n) s.disk;
  fault = Some (record { call = call; left = n; keep = Nothing });
}
