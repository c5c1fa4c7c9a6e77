-- Each column's words, call by call.
use Rattle.std.proofs.Common.{◌≡◌, ◌<◌, ◌≤◌, ◌+◌, ◌-◌, ◌*◌, ◌^◌, ℕ, zero, suc, Bool, true, false, cond, List, [], ◌∷◌, ◌++◌, length, take, replicate, get_or, refl, sym, ◌∙◌, ap, subst, arith, ⊎_elim, append_assoc, append-nil, length-append}
use Rattle.std.proofs.Math.Seq.{take-append-add}
use Rattle.std.proofs.lemmas.Bool.{lt-ltb, le-ltb, cases_lt}
use Rattle.std.proofs.lemmas.List.{length-map, length-replicate, take-append-le, take-map, get_or-append-add}
use Rattle.hive_model.specs.Base.{Base, is_bins_size}
use Rattle.hive_model.specs.Image.{Image, Log, Write, Address, IsFileOf, overlaid}
use Rattle.hive_model.specs.Log.{dirty, log_of}
use Rattle.hive_model.specs.Recovery.{bit, sector}
use Rattle.nt_edge.specs.Calls.{Made, Wrote, Synced, writes_of}
use Rattle.nt_edge.specs.Disk.{DiskState}
use Rattle.nt_edge.specs.declared.disk.Keep.{Keep}
use Rattle.mem_edge.specs.Seen.{written, synced}
use Rattle.mem_edge.specs.Views.{left}
use Rattle.hive_log.specs.Found.{Found}
use Rattle.hive_log.proofs.Same.{off_same}
use Rattle.regf_base.specs.Fitting.{NumbersFit, TextsFit}
use Rattle.hive_commit.specs.Calls.{change_calls, closing_calls, block_calls, log_writes}
use Rattle.hive_commit.specs.Cuts.{IsChange}
use Rattle.hive_commit.specs.Stages.{opened_of, closed_of}
use Rattle.sweep_text.specs.declared.sweep_text.logged.Logged.{Logged}
use Rattle.sweep_text.specs.sweep_text.Logged.{logged_of}
use Rattle.sweep_text.specs.sweep_text.Report.{stages_by}
use Rattle.sweep_text.specs.sweep_text.Stages.{Stage, calls_in}
use Rattle.sweep_laws.specs.Columns.{column, made, after_calls, left_of, EachWordIsTrue}
use Rattle.sweep_laws.specs.Leaving.{sync_word, word_at, commit_writes, recovery_writes, calls_of, held_after, EachCallLeaves, IsRecoveredBy, IsRecoveredBefore}
use Rattle.sweep_laws.specs.Listing.{listed_in, written_in}
use Rattle.sweep_laws.specs.Truth.{IsTrueOf}
use Rattle.sweep_laws.proofs.TruthLemmas.{commit_true, recovery_true, both_true}

-- ---- columns

-- that number of words, and one more
module _ (word last : Bool) (rest : List Bool) where
  below : (count n : ℕ) → n < count → get_or (replicate count word ++ last ∷ rest) n false ≡ word
  below zero n small = absurd (omega (arith, small))
  below (suc count) zero small = refl
  below (suc count) (suc n) small = below count n (omega (arith, small))

  at_end : (count : ℕ) → get_or (replicate count word ++ last ∷ rest) count false ≡ last
  at_end zero = refl
  at_end (suc count) = at_end count

  past : (count m : ℕ) → get_or (replicate count word ++ last ∷ rest) (count + suc m) false ≡ get_or rest m false
  past count m =
      let place : count + suc m ≡ length (replicate count word) + suc m = omega (arith, length-replicate count word) in
      ap (λ k. get_or (replicate count word ++ last ∷ rest) k false) place
      ∙ get_or-append-add (replicate count word) (last ∷ rest) (suc m) false

pub column_long : (keep : Keep) (stages : List Stage) → length (column keep stages) ≡ calls_in stages
column_long keep [] = refl
column_long keep (s ∷ more) =
    let tail = sync_word s.leaves keep ∷ column keep more in
    omega (
      arith,
      length-append (replicate (length s.sectors) s.leaves.written) tail,
      length-replicate (length s.sectors) s.leaves.written,
      column_long keep more,
    )

-- ---- the disk

after_append : (disk : DiskState) (first then : List Made) → after_calls disk (first ++ then) ≡ after_calls (after_calls disk first) then
after_append disk [] then = refl
after_append disk (call ∷ more) then = after_append (made call disk) more then

writes_held : (disk : DiskState) (writes : List Write) → (after_calls disk (writes_of writes)).held ≡ disk.held
writes_held disk [] = refl
writes_held disk (w ∷ more) = writes_held (written w disk) more

writes_fly : (disk : DiskState) (writes : List Write) → (after_calls disk (writes_of writes)).flight ≡ disk.flight ++ writes
writes_fly disk [] = sym (append-nil disk.flight)
writes_fly disk (w ∷ more) = writes_fly (written w disk) more ∙ append_assoc disk.flight (w ∷ []) more

module _ (disk : DiskState) (still : disk.flight ≡ []) (writes : List Write) where
  fly_alone : (n : ℕ) → (after_calls disk (writes_of (take n writes))).flight ≡ take n writes
  fly_alone n = writes_fly disk (take n writes) ∙ ap (λ (f : List Write). f ++ take n writes) still

  -- the power is cut in the stage
  left_within : (keep : Keep) (n : ℕ) (rest : List Made) → n ≤ length writes
      → left_of keep (after_calls disk (take n (writes_of writes ++ Synced ∷ rest))) ≡ left keep disk.held (take n writes)
  left_within keep n rest within =
      ap (λ l. left_of keep (after_calls disk l))
      (take-append-le n (writes_of writes) (Synced ∷ rest) (omega (arith, within, length-map writes Wrote))
      ∙ take-map Wrote n writes)
      ∙ (λ i. left keep (writes_held disk (take n writes) i) (fly_alone n i))

  -- the disk once the stage is done
  abbrev done : DiskState
  done = synced (after_calls disk (writes_of writes))

  done_held : done.held ≡ overlaid disk.held writes
  done_held = λ i. overlaid (writes_held disk writes i) ((writes_fly disk writes ∙ ap (λ (f : List Write). f ++ writes) still) i)

  -- it is cut later
  after_stage : (m : ℕ) (rest : List Made)
      → after_calls disk (take (length writes + suc m) (writes_of writes ++ Synced ∷ rest)) ≡ after_calls done (take m rest)
  after_stage m rest =
      let place : length writes + suc m ≡ length (writes_of writes) + suc m = omega (arith, length-map writes Wrote) in
      ap (λ k. after_calls disk (take k (writes_of writes ++ Synced ∷ rest))) place
      ∙ ap (after_calls disk) (take-append-add (writes_of writes) (Synced ∷ rest) (suc m))
      ∙ after_append disk (writes_of writes) (Synced ∷ take m rest)

-- ---- stages

-- the table has a sector for each write, in each stage
abbrev pub AsMany : List Stage → List (List Write) → Type 0
AsMany [] writes = Unit {0}
AsMany (s ∷ stages) [] = Unit {0}
AsMany (s ∷ stages) (writes ∷ more) = (length s.sectors ≡ length writes) × AsMany stages more

heads : (x y : List Address) (xs ys : List (List Address)) → x ∷ xs ≡ y ∷ ys → x ≡ y
heads x y xs ys e = cc

pub tails : (x y : List Address) (xs ys : List (List Address)) → x ∷ xs ≡ y ∷ ys → xs ≡ ys
tails x y xs ys e = cc

pub as_many : (stages : List Stage) (writes : List (List Write)) → listed_in stages ≡ written_in writes → AsMany stages writes
as_many [] writes same = tt
as_many (s ∷ stages) [] same = tt
as_many (s ∷ stages) (writes ∷ more) same = (
  sym (length-map s.sectors _) ∙ ap length (heads _ _ (listed_in stages) (written_in more) same) ∙ length-map writes _,
  as_many stages more (tails _ _ (listed_in stages) (written_in more) same),
)

module _ (P : Bool → Image → Type 0) (keep : Keep) where
  -- a word of one stage
  one_word : (s : Stage) (count n : ℕ) (rest : List Bool) → length s.sectors ≡ count → n ≤ count
      → word_at s.leaves keep count n
      ≡ get_or (replicate (length s.sectors) s.leaves.written ++ sync_word s.leaves keep ∷ rest) n false
  one_word s count n rest long within = ⊎_elim
      (λ less. ap (λ t. cond t s.leaves.written (sync_word s.leaves keep)) (lt-ltb n count less)
      ∙ sym (below s.leaves.written (sync_word s.leaves keep) rest (length s.sectors) n (omega (arith, less, long))))
      (λ far. let same : length s.sectors ≡ n = omega (arith, far, within, long) in
      ap (λ t. cond t s.leaves.written (sync_word s.leaves keep)) (le-ltb n count far)
      ∙ sym (ap (λ k. get_or (replicate (length s.sectors) s.leaves.written ++ sync_word s.leaves keep ∷ rest) k false) (sym same)
      ∙ at_end s.leaves.written (sync_word s.leaves keep) rest (length s.sectors)))
      (cases_lt n count)

  words_true : (disk : DiskState) (held : Image) (stages : List Stage) (writes : List (List Write)) → disk.held ≡ held
      → disk.flight ≡ [] → AsMany stages writes → EachCallLeaves P held stages writes
      → (n : ℕ) → n < length (calls_of writes)
      → P (get_or (column keep stages) n false) (left_of keep (after_calls disk (take n (calls_of writes))))
  words_true disk held [] [] is still many each n small = absurd (omega (arith, small))
  words_true disk held [] (writes ∷ more) is still many each n small = absurd each
  words_true disk held (s ∷ stages) [] is still many each n small = absurd each
  words_true disk held (s ∷ stages) (writes ∷ more) is still many each n small = ⊎_elim
      (λ later.
      let m = n - suc (length writes) in
      let place : n ≡ length writes + suc m = omega (arith, later) in
      let long = length-append (writes_of writes) (Synced ∷ calls_of more) in
      let fewer : m < length (calls_of more) = omega (arith, later, small, long, length-map writes Wrote) in
      let next = words_true (done disk still writes) (overlaid held writes) stages more
      (done_held disk still writes ∙ ap (λ (h : Image). overlaid h writes) is) refl many.1 each.1 m fewer in
      let word : get_or (column keep stages) m false ≡ get_or (column keep (s ∷ stages)) n false =
      sym (ap (λ k. get_or (column keep (s ∷ stages)) k false) place
      ∙ ap (λ k. get_or (column keep (s ∷ stages)) (k + suc m) false) (sym many.0)
      ∙ past s.leaves.written (sync_word s.leaves keep) (column keep stages) (length s.sectors) m) in
      let image : left_of keep (after_calls (done disk still writes) (take m (calls_of more)))
      ≡ left_of keep (after_calls disk (take n (calls_of (writes ∷ more)))) =
      sym (ap (λ k. left_of keep (after_calls disk (take k (calls_of (writes ∷ more))))) place
      ∙ ap (left_of keep) (after_stage disk still writes m (calls_of more))) in
      subst (λ (b : Bool). P b (left_of keep (after_calls disk (take n (calls_of (writes ∷ more)))))) word
      (subst (P (get_or (column keep stages) m false)) image next))
      (λ within.
      let here = each.0 n keep within in
      let word = one_word s (length writes) n (column keep stages) many.0 within in
      let image : left keep held (take n writes) ≡ left_of keep (after_calls disk (take n (calls_of (writes ∷ more)))) =
      sym (left_within disk still writes keep n (calls_of more) within ∙ ap (λ (h : Image). left keep h (take n writes)) is) in
      subst (λ (b : Bool). P b (left_of keep (after_calls disk (take n (calls_of (writes ∷ more)))))) word
      (subst (P (word_at s.leaves keep (length writes) n)) image here))
      (cases_lt (length writes) n)

each_word : (P : Bool → Image → Type 0) (disk : DiskState) (stages : List Stage) (writes : List (List Write))
    → listed_in stages ≡ written_in writes → EachCallLeaves P disk.held stages writes → disk.flight ≡ []
    → EachWordIsTrue P disk stages (calls_of writes)
each_word P disk stages writes lists leaves still keep n small =
    words_true P keep disk disk.held stages writes refl still (as_many stages writes lists) leaves n small

-- ---- all calls

all_held : (disk : DiskState) (held : Image) (writes : List (List Write)) → disk.held ≡ held → disk.flight ≡ []
    → (after_calls disk (calls_of writes)).held ≡ held_after held writes
all_held disk held [] is still = is
all_held disk held (writes ∷ more) is still =
    ap (λ (d : DiskState). d.held) (after_append disk (writes_of writes) (Synced ∷ calls_of more))
    ∙ all_held (done disk still writes) (overlaid held writes) more
    (done_held disk still writes ∙ ap (λ (h : Image). overlaid h writes) is) refl

-- those of a commit
pub commit_calls : (base : Base) (old new : List ℕ) (root : ℕ)
    → change_calls base old new root ≡ calls_of (commit_writes base (dirty old new) new root)
commit_calls base old new root =
    append_assoc (writes_of (log_writes (log_of (dirty old new) new (closed_of base new root))))
    (Synced ∷ block_calls (opened_of base)) (closing_calls (closed_of base new root) (dirty old new) new)

-- the table of a commit that a disk with nothing in flight does
pub commit_table : (disk : DiskState) (base : Base) (old new log : List ℕ) (root : ℕ) (given : Logged) → disk.flight ≡ []
    → IsChange disk.held base old new root (dirty old new)
    → IsFileOf (after_calls disk (change_calls base old new root)).held Log log
    → IsTrueOf (IsRecoveredBy base old (closed_of base new root) new) disk.held (stages_by false true given (logged_of log))
    (commit_writes base (dirty old new) new root)
commit_table disk base old new log root given still is file =
    let writes = commit_writes base (dirty old new) new root in
    let held : (after_calls disk (change_calls base old new root)).held ≡ held_after disk.held writes =
    ap (λ l. (after_calls disk l).held) (commit_calls base old new root) ∙ all_held disk disk.held writes refl still in
    commit_true given is (subst (λ (h : Image). IsFileOf h Log log) held file)

pub commit_column : (disk : DiskState) (base : Base) (old new log : List ℕ) (root : ℕ) (given : Logged) → disk.flight ≡ []
    → IsChange disk.held base old new root (dirty old new)
    → IsFileOf (after_calls disk (change_calls base old new root)).held Log log
    → EachWordIsTrue (IsRecoveredBy base old (closed_of base new root) new) disk (stages_by false true given (logged_of log))
    (change_calls base old new root)
commit_column disk base old new log root given still is file =
    let writes = commit_writes base (dirty old new) new root in
    let P = IsRecoveredBy base old (closed_of base new root) new in
    let stages = stages_by false true given (logged_of log) in
    let table = commit_table disk base old new log root given still is file in
    subst (λ (l : List Made). EachWordIsTrue P disk stages l) (sym (commit_calls base old new root))
    (each_word P disk stages writes table.lists table.leaves still)

pub recovery_column : (disk : DiskState) (base : Base) (bitmap bins log : List ℕ) (written : Logged) → disk.flight ≡ []
    → Found disk.held base bitmap bins → NumbersFit base → TextsFit base → IsFileOf disk.held Log log
    → EachWordIsTrue (IsRecoveredBefore base bins) disk (stages_by true false (logged_of log) written)
    (closing_calls base (bit bitmap) bins)
recovery_column disk base bitmap bins log written still found numbers texts file =
    let P = IsRecoveredBefore base bins in
    let stages = stages_by true false (logged_of log) written in
    let writes = recovery_writes base (bit bitmap) bins in
    let table : IsTrueOf P disk.held stages writes = recovery_true found numbers texts file written in
    each_word P disk stages writes table.lists table.leaves still

-- those of a recovery and a commit
calls_append : (first then : List (List Write)) → calls_of first ++ calls_of then ≡ calls_of (first ++ then)
calls_append [] then = refl
calls_append (writes ∷ more) then = append_assoc (writes_of writes) (Synced ∷ calls_of more) (calls_of then)
    ∙ ap (λ l. writes_of writes ++ Synced ∷ l) (calls_append more then)

pub both_calls : (base : Base) (bitmap old new : List ℕ) (root : ℕ)
    → closing_calls base (bit bitmap) old ++ change_calls base old new root
    ≡ calls_of (recovery_writes base (bit bitmap) old ++ commit_writes base (dirty old new) new root)
both_calls base bitmap old new root =
    ap (λ l. closing_calls base (bit bitmap) old ++ l) (commit_calls base old new root)
    ∙ calls_append (recovery_writes base (bit bitmap) old) (commit_writes base (dirty old new) new root)

pub both_table : (disk : DiskState) (base : Base) (bitmap old new log last : List ℕ) (root : ℕ) → disk.flight ≡ []
    → Found disk.held base bitmap old → NumbersFit base → TextsFit base → is_bins_size (length new) ≡ true → root < 2 ^ 32
    → IsFileOf disk.held Log log
    → IsFileOf (after_calls disk (closing_calls base (bit bitmap) old ++ change_calls base old new root)).held Log last
    → IsTrueOf (IsRecoveredBy base old (closed_of base new root) new) disk.held
    (stages_by true true (logged_of log) (logged_of last))
    (recovery_writes base (bit bitmap) old ++ commit_writes base (dirty old new) new root)
both_table disk base bitmap old new log last root still found numbers texts sized fits file left =
    let writes = recovery_writes base (bit bitmap) old ++ commit_writes base (dirty old new) new root in
    let held : (after_calls disk (closing_calls base (bit bitmap) old ++ change_calls base old new root)).held
    ≡ held_after disk.held writes =
    ap (λ l. (after_calls disk l).held) (both_calls base bitmap old new root) ∙ all_held disk disk.held writes refl still in
    let stays : (i : ℕ) → 512 * i < length new → dirty old new i ≡ false
    → (512 * i < length old) × (sector new i ≡ sector old i) =
    λ i small off. let same = off_same old new i off in (omega (arith, same.0), sym same.1) in
    both_true found numbers texts file sized fits stays (subst (λ (h : Image). IsFileOf h Log last) held left)

pub both_column : (disk : DiskState) (base : Base) (bitmap old new log last : List ℕ) (root : ℕ) → disk.flight ≡ []
    → Found disk.held base bitmap old → NumbersFit base → TextsFit base → is_bins_size (length new) ≡ true → root < 2 ^ 32
    → IsFileOf disk.held Log log
    → IsFileOf (after_calls disk (closing_calls base (bit bitmap) old ++ change_calls base old new root)).held Log last
    → EachWordIsTrue (IsRecoveredBy base old (closed_of base new root) new) disk
    (stages_by true true (logged_of log) (logged_of last)) (closing_calls base (bit bitmap) old ++ change_calls base old new root)
both_column disk base bitmap old new log last root still found numbers texts sized fits file left =
    let writes = recovery_writes base (bit bitmap) old ++ commit_writes base (dirty old new) new root in
    let P = IsRecoveredBy base old (closed_of base new root) new in
    let stages = stages_by true true (logged_of log) (logged_of last) in
    let table = both_table disk base bitmap old new log last root still found numbers texts sized fits file left in
    subst (λ (l : List Made). EachWordIsTrue P disk stages l) (sym (both_calls base bitmap old new root))
    (each_word P disk stages writes table.lists table.leaves still)
