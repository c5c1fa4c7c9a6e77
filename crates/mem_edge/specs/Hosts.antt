-- What the hosts in memory hold, and where they fail. (This project's own.)
use Rattle.std.specs.Prelude.{◌≡◌, ◌==◌, ◌&&◌, ◌↔◌, ◌-◌, true, option_map, Result, IsErrOf}
use Rattle.std.specs.BTreeMap.{get_by_text}
use Rattle.nt_edge.specs.Host.{HostState, Files, IsWithinEnds}
use Rattle.nt_edge.specs.declared.host.HostStop.{HostStop}
use Rattle.nt_edge.specs.declared.host.HostStop.TheVariants.{Read, Write}
use Rattle.mem_edge.specs.declared.mem_host.MemHost.{MemHost}
use Rattle.mem_edge.specs.declared.quiet_host.QuietHost.{QuietHost}

-- the files of a host in memory
abbrev pub files_of : MemHost → Files
files_of h = λ q. option_map (λ v. v.items) (get_by_text h.files q)

-- a host in memory reports all; it is quiet where no call is to fail
abbrev pub host_of : MemHost → HostState
host_of h = record {
  tells = true;
  quiet = (h.fail_read == 0) && (h.fail_write == 0);
  files = files_of h;
  said = h.said.items;
  errors = h.errors.items;
  warned = h.warned;
  gets = h.gets;
  reads = h.reads;
  writes = h.writes;
  lacks = h.lacks;
}

-- the `get` failed exactly where it was the one that was to fail, and counts as one that was made
pub record FailsRead {A : Type 0} (result : Result A HostStop) (old new : MemHost) : Type 0 where
  pub due : IsErrOf result Read ↔ (old.fail_read ≡ 1)
  pub counted : new.fail_read ≡ old.fail_read - 1
  pub other : new.fail_write ≡ old.fail_write

-- the `put` or `say` failed exactly where it was the one that was to fail, and counts as one that was made
pub record FailsWrite {A : Type 0} (result : Result A HostStop) (old new : MemHost) : Type 0 where
  pub due : IsErrOf result Write ↔ (old.fail_write ≡ 1)
  pub counted : new.fail_write ≡ old.fail_write - 1
  pub other : new.fail_read ≡ old.fail_read

-- no count of a host in memory is past its end
abbrev pub ends_law : (h : MemHost) → IsWithinEnds h.reads h.writes h.lacks
ends_law h = h.ends

-- the files of a host without failures
abbrev pub quiet_files_of : QuietHost → Files
quiet_files_of h = λ q. option_map (λ v. v.items) (get_by_text h.files q)

-- a host without failures reports all, and has counts of faults of zero
abbrev pub quiet_host_of : QuietHost → HostState
quiet_host_of h = record {
  tells = true;
  quiet = true;
  files = quiet_files_of h;
  said = h.said.items;
  errors = h.errors.items;
  warned = h.warned;
  gets = h.gets;
  reads = 0;
  writes = 0;
  lacks = h.lacks;
}

-- no count of a host without failures is past its end
abbrev pub quiet_law : (h : QuietHost) → IsWithinEnds 0 0 h.lacks
quiet_law h = h.ends
