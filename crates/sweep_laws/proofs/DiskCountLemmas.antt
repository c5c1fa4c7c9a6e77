-- The calls of a table are those that the disk counts.
use Rattle.std.proofs.Common.{◌≡◌, ◌<◌, ◌+◌, ◌^◌, ℕ, Bool, true, false, cond, List, [], ◌∷◌, ◌++◌, length, refl, sym, ap, ◌∙◌, arith, length-append}
use Rattle.std.specs.List.{count_by}
use Rattle.std.proofs.lemmas.List.Sums.{sum_by-append, sum_by-cons, count_by-le-length}
use Rattle.hive_model.specs.Base.{Base, is_bins_size}
use Rattle.hive_model.specs.Image.{Image, Address, Write, Log, IsFileOf}
use Rattle.hive_model.specs.Log.{dirty}
use Rattle.hive_model.specs.Recovery.{bit}
use Rattle.nt_edge.specs.Calls.{Made, ReadAt, Wrote, Synced, writes_of, reads_of}
use Rattle.nt_edge.specs.Disk.{DiskState}
use Rattle.nt_edge.specs.declared.disk.DiskCall.{DiskCall}
use Rattle.nt_edge.specs.declared.disk.DiskCall.TheVariants as kinds
use Rattle.mem_edge.specs.declared.store.MemDisk.{MemDisk}
use Rattle.mem_edge.specs.Calls.{is_of}
use Rattle.mem_edge.specs.State as state
use Rattle.hive_log.specs.Found.{Found}
use Rattle.regf_base.specs.Fitting.{NumbersFit, TextsFit}
use Rattle.hive_commit.specs.Calls.{change_calls, closing_calls}
use Rattle.hive_commit.specs.Cuts.{IsChange}
use Rattle.sweep_text.specs.declared.sweep_text.logged.Logged.{Logged}
use Rattle.sweep_text.specs.sweep_text.Logged.{logged_of}
use Rattle.sweep_text.specs.sweep_text.Report.{stages_by}
use Rattle.sweep_text.specs.sweep_text.Stages.{Stage, calls_in}
use Rattle.sweep_laws.specs.Columns.{after_calls}
use Rattle.sweep_laws.specs.Counting.{WereMade, CountsMore}
use Rattle.sweep_laws.specs.Leaving.{commit_writes, recovery_writes, calls_of}
use Rattle.sweep_laws.specs.Listing.{listed_in, written_in}
use Rattle.sweep_laws.specs.Truth.{IsTrueOf}
use Rattle.sweep_laws.proofs.ColumnLemmas.{commit_calls, both_calls, commit_table, both_table, as_many, tails}
use Rattle.sweep_laws.proofs.TruthLemmas.{recovery_true}

-- ---- writes and syncs among calls

-- 1 for a call of the kind
abbrev one : DiskCall → Made → ℕ
one kind call = cond (is_of kind call) 1 0

abbrev of : DiskCall → List Made → ℕ
of kind calls = count_by (is_of kind) calls

abbrev both_of : List Made → ℕ
both_of calls = of kinds.Write calls + of kinds.Sync calls

of-append : (kind : DiskCall) (a b : List Made) → of kind (a ++ b) ≡ of kind a + of kind b
of-append kind a b = sum_by-append (one kind) a b

both-append : (a b : List Made) → both_of (a ++ b) ≡ both_of a + both_of b
both-append a b = omega (arith, of-append kinds.Write a b, of-append kinds.Sync a b)

both-cons : (call : Made) (calls : List Made)
    → both_of (call ∷ calls) ≡ (one kinds.Write call + one kinds.Sync call) + both_of calls
both-cons call calls =
    omega (arith, sum_by-cons (one kinds.Write) call calls, sum_by-cons (one kinds.Sync) call calls)

both_of_reads : (sectors : List Address) → both_of (reads_of sectors) ≡ 0
both_of_reads [] = omega arith
both_of_reads (at ∷ more) = omega (arith, both-cons (ReadAt at) (reads_of more), both_of_reads more)

both_of_writes : (writes : List Write) → both_of (writes_of writes) ≡ length writes
both_of_writes [] = omega arith
both_of_writes (w ∷ more) = omega (arith, both-cons (Wrote w) (writes_of more), both_of_writes more)

-- ---- the calls of a table

both_of_stages : (stages : List Stage) (writes : List (List Write)) → listed_in stages ≡ written_in writes
    → calls_in stages ≡ both_of (calls_of writes)
both_of_stages [] [] same = omega arith
both_of_stages [] (writes ∷ more) same = absurd (omega (arith, ap (λ (l : List (List Address)). length l) same))
both_of_stages (s ∷ stages) [] same = absurd (omega (arith, ap (λ (l : List (List Address)). length l) same))
both_of_stages (s ∷ stages) (writes ∷ more) same =
    omega (
      arith,
      (as_many (s ∷ stages) (writes ∷ more) same).0,
      both-append (writes_of writes) (Synced ∷ calls_of more),
      both-cons Synced (calls_of more),
      both_of_writes writes,
      both_of_stages stages more (tails _ _ (listed_in stages) (written_in more) same),
    )

-- ---- the disk's own counts

module _ (first last : MemDisk) (earlier calls : List Made) (are : WereMade first last earlier calls) where
  -- no count is cut off at its end
  was : (kind : DiskCall) → state.calls_of first kind ≡ of kind earlier
  was kind =
      omega (
        arith,
        are.counted kind,
        count_by-le-length (is_of kind) earlier,
        length-append earlier calls,
        are.below_end,
      )

  is_now : (kind : DiskCall) → state.calls_of last kind ≡ of kind (earlier ++ calls)
  is_now kind =
      omega (
        arith,
        are.made earlier are.counted kind,
        count_by-le-length (is_of kind) (earlier ++ calls),
        are.below_end,
      )

  pub counts_more : CountsMore first last (both_of calls)
  counts_more =
      omega (
        arith,
        was kinds.Write,
        was kinds.Sync,
        is_now kinds.Write,
        is_now kinds.Sync,
        of-append kinds.Write earlier calls,
        of-append kinds.Sync earlier calls,
      )

-- ---- the events of a report

-- the calls of a true table, after reads
by_table : (P : Bool → Image → Type 0) (held : Image) (stages : List Stage) (writes : List (List Write))
    (sectors : List Address) (first last : MemDisk) (earlier calls : List Made) → IsTrueOf P held stages writes
    → calls ≡ calls_of writes → WereMade first last earlier (reads_of sectors ++ calls)
    → CountsMore first last (calls_in stages)
by_table P held stages writes sectors first last earlier calls table same are =
    let counted : both_of calls ≡ calls_in stages =
    ap both_of same ∙ sym (both_of_stages stages writes table.lists) in
    omega (
      arith,
      counts_more first last earlier (reads_of sectors ++ calls) are,
      both-append (reads_of sectors) calls,
      both_of_reads sectors,
      counted,
    )

pub commit_counts : (disk : DiskState) (base : Base) (old new log : List ℕ) (root : ℕ) (given : Logged)
    (sectors : List Address) (first last : MemDisk) (earlier : List Made) → disk.flight ≡ []
    → IsChange disk.held base old new root (dirty old new)
    → IsFileOf (after_calls disk (change_calls base old new root)).held Log log
    → WereMade first last earlier (reads_of sectors ++ change_calls base old new root)
    → CountsMore first last (calls_in (stages_by false true given (logged_of log)))
commit_counts disk base old new log root given sectors first last earlier still is file are =
    by_table _ disk.held (stages_by false true given (logged_of log)) (commit_writes base (dirty old new) new root)
    sectors first last earlier (change_calls base old new root)
    (commit_table disk base old new log root given still is file) (commit_calls base old new root) are

pub recovery_counts : (disk : DiskState) (base : Base) (bitmap bins log : List ℕ) (written : Logged)
    (sectors : List Address) (first last : MemDisk) (earlier : List Made) → Found disk.held base bitmap bins
    → NumbersFit base → TextsFit base → IsFileOf disk.held Log log
    → WereMade first last earlier (reads_of sectors ++ closing_calls base (bit bitmap) bins)
    → CountsMore first last (calls_in (stages_by true false (logged_of log) written))
recovery_counts disk base bitmap bins log written sectors first last earlier found numbers texts file are =
    by_table _ disk.held (stages_by true false (logged_of log) written) (recovery_writes base (bit bitmap) bins) sectors
    first last earlier (closing_calls base (bit bitmap) bins) (recovery_true found numbers texts file written) refl are

pub both_counts : (disk : DiskState) (base : Base) (bitmap old new log left : List ℕ) (root : ℕ)
    (sectors : List Address) (first last : MemDisk) (earlier : List Made) → disk.flight ≡ []
    → Found disk.held base bitmap old → NumbersFit base → TextsFit base → is_bins_size (length new) ≡ true
    → root < 2 ^ 32 → IsFileOf disk.held Log log
    → IsFileOf (after_calls disk (closing_calls base (bit bitmap) old ++ change_calls base old new root)).held Log left
    → WereMade first last earlier
    (reads_of sectors ++ (closing_calls base (bit bitmap) old ++ change_calls base old new root))
    → CountsMore first last (calls_in (stages_by true true (logged_of log) (logged_of left)))
both_counts disk base bitmap old new log left root sectors first last earlier still found numbers texts sized fits file
    is are =
    by_table _ disk.held (stages_by true true (logged_of log) (logged_of left))
    (recovery_writes base (bit bitmap) old ++ commit_writes base (dirty old new) new root) sectors first last earlier
    (closing_calls base (bit bitmap) old ++ change_calls base old new root)
    (both_table disk base bitmap old new log left root still found numbers texts sized fits file is)
    (both_calls base bitmap old new root) are
