-- A disk that counted one more call made that call.
use Rattle.std.proofs.Common.{◌≡◌, ◌+◌, cond, List, [], ◌∷◌, ◌++◌, count_by, arith}
use Rattle.std.proofs.lemmas.List.Sums.{sum_by_push}
use Rattle.nt_edge.specs.Calls.{Made, ReadAt, Wrote, Synced, Makes}
use Rattle.nt_edge.specs.declared.disk.DiskCall.{DiskCall}
use Rattle.nt_edge.specs.declared.disk.DiskCall.TheVariants.{Read, Write, Sync}
use Rattle.mem_edge.specs.declared.store.MemDisk.{MemDisk}
use Rattle.mem_edge.specs.Calls.{is_of, counts_calls, CountsOne}

-- the kind of a call
abbrev pub kind_of : Made → DiskCall
kind_of (ReadAt sector) = Read
kind_of (Wrote write) = Write
kind_of Synced = Sync

-- one more call in a list
count_push : (call : DiskCall) (earlier : List Made) (made : Made)
    → count_by (is_of call) (earlier ++ made ∷ []) ≡ count_by (is_of call) earlier + cond (is_of call made) 1 0
count_push call earlier made = sum_by_push (λ m. cond (is_of call m) 1 0) earlier made

pub makes_one : (old new : MemDisk) (made : Made) → CountsOne old new (kind_of made)
    → Makes (counts_calls old) (counts_calls new) (made ∷ [])
makes_one old new (ReadAt sector) one earlier h Read =
    omega (arith, one.rose, h Read, count_push Read earlier (ReadAt sector))
makes_one old new (ReadAt sector) one earlier h Write =
    omega (arith, one.others Write (λ e. cc), h Write, count_push Write earlier (ReadAt sector))
makes_one old new (ReadAt sector) one earlier h Sync =
    omega (arith, one.others Sync (λ e. cc), h Sync, count_push Sync earlier (ReadAt sector))
makes_one old new (Wrote write) one earlier h Read =
    omega (arith, one.others Read (λ e. cc), h Read, count_push Read earlier (Wrote write))
makes_one old new (Wrote write) one earlier h Write =
    omega (arith, one.rose, h Write, count_push Write earlier (Wrote write))
makes_one old new (Wrote write) one earlier h Sync =
    omega (arith, one.others Sync (λ e. cc), h Sync, count_push Sync earlier (Wrote write))
makes_one old new Synced one earlier h Read =
    omega (arith, one.others Read (λ e. cc), h Read, count_push Read earlier Synced)
makes_one old new Synced one earlier h Write =
    omega (arith, one.others Write (λ e. cc), h Write, count_push Write earlier Synced)
makes_one old new Synced one earlier h Sync = omega (arith, one.rose, h Sync, count_push Sync earlier Synced)
