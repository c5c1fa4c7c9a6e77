-- By how much do the counts that a disk keeps of its own calls rise? (This project's own.)
use Rattle.std.specs.Prelude.{◌≡◌, ◌≤◌, ◌+◌, ℕ, List, ◌++◌, length}
use Rattle.nt_edge.specs.Calls.{Made, Makes}
use Rattle.nt_edge.specs.declared.disk.DiskCall.TheVariants.{Write, Sync}
use Rattle.mem_edge.specs.declared.store.MemDisk.{MemDisk}
use Rattle.mem_edge.specs.Calls.{counts_calls}
use Rattle.mem_edge.specs.State.{calls_of}

-- the writes and syncs that a disk in memory counted
abbrev pub written_and_synced : MemDisk → ℕ
written_and_synced disk = calls_of disk Write + calls_of disk Sync

-- these calls were made of a disk in memory after those that it counted before, and no count came to its end
pub record WereMade (first last : MemDisk) (earlier calls : List Made) : Type 0 where
  pub counted : counts_calls first earlier
  pub made : Makes (counts_calls first) (counts_calls last) calls
  pub below_end : length (earlier ++ calls) ≤ 18446744073709551615

-- the disk counted that many more writes and syncs
abbrev pub CountsMore : MemDisk → MemDisk → ℕ → Type 0
CountsMore first last count = written_and_synced last ≡ written_and_synced first + count
