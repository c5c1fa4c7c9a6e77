-- What a commit of a session leaves.
use Rattle.std.proofs.Common.{◌≡◌, ℕ, Bool, true, false, List, [], length, Err, refl, sym, ap, subst, ◌∙◌}
use Rattle.std.specs.Prelude.{IsErrOf}
use Rattle.hive_model.specs.Base.{Base, is_bins_size, version_of}
use Rattle.hive_model.specs.Image.{Image}
use Rattle.hive_model.specs.Carries.{Carries}
use Rattle.hive_model.specs.State.{HiveState}
use Rattle.hive_model.specs.Load.{Loads, Holds, state_of}
use Rattle.hive_model.specs.Tree.{Tree}
use Rattle.nt_bytes.specs.declared.version.HiveVersion.{HiveVersion}
use Rattle.hive_model.specs.Bins.{Bin, IsHeap, spelled}
use Rattle.hive_model.specs.Stands.{IsWellFormed}
use Rattle.hive_edit.specs.Hive.{HiveCells, cells_in, settled_as}
use Rattle.nt_edge.specs.Disk.{DiskState}
use Rattle.nt_edge.specs.Crash.{EachCrash}
use Rattle.hive_commit.specs.Stages.{closed_of, IsBeforeOrAfter, LoadsAsEither}
use Rattle.hive_commit.specs.Stops.{IsCommitOn, EndsCommit}
use Rattle.hive_commit.specs.declared.stops.CommitStop.{CommitStop}
use Rattle.hive_commit.specs.declared.stops.CommitStop.TheVariants as commit
use Rattle.cell_tables.specs.saved_pages.Overlay.{before}
use Rattle.hive_store.specs.Session.{Session, HasTree, IsSession, session_of, next_bins, next_root}
use Rattle.hive_store.specs.Commits.{next_base, committed, committed_state}
use Rattle.hive_store.specs.Changes.{IsEdited}
use Rattle.hive_store.proofs.SizedLemmas.{has_bytes}
use Rattle.hive_store.proofs.Holding.{clean, held_by, carried, tree_holds, tree_loads, either_loads}

-- what a session's disk loads as before
pub stood : (s : Session) (tree : Tree) → HasTree (version_of s.base.minor) s.bins s.base.root tree → (held : Image)
    → Carries held s.base s.bins
    → (before : HiveState) × Loads held before false
stood s tree has held carries =
    (state_of tree s.base.first (version_of s.base.minor), tree_loads s.base s.bins tree has held carries)

-- the next commit writes data in which the session's tree stands
abbrev pub IsReady : Session → Type 0
IsReady s = HasTree (version_of s.base.minor) (next_bins s) (next_root s) s.tree

-- the bytes of the cells are data in which the session's tree stands
pub is_ready : (base : Base) (bins : List ℕ) (cells : HiveCells) (changed : Bool) → IsSession base bins cells changed
    → IsHeap cells.bins
    → IsWellFormed (cells_in cells) cells.root cells.tree → IsReady (session_of base bins cells changed)
is_ready base bins cells changed is heap stands =
    subst (λ (v : HiveVersion). HasTree v (spelled 0 cells.bins) cells.root cells.tree) is.version
    (has_bytes cells.version cells.bins cells.root cells.tree heap stands)

-- and the cells were made by edits of those that the disk carries
pub is_edited : (base : Base) (bins : List ℕ) (cells : HiveCells) (changed : Bool) (is : IsSession base bins cells changed)
    → IsReady (session_of base bins cells changed) → IsEdited (session_of base bins cells changed)
is_edited base bins cells changed is ready =
    let s = session_of base bins cells changed in (
      is.edits,
      record {
        read = is.read;
        written = cells;
        read_of = record { carried = is.read_is; version = is.read_in; holds = tree_holds base bins is.read.tree is.carried };
        edits_made = is.made;
        written_of = record {
          carried = record { bytes = refl; root = refl };
          version = is.version;
          holds = tree_holds (next_base s) (next_bins s) cells.tree ready;
        };
        tree_is = refl;
        closed = refl;
      },
    )

-- the base block that closes the commit, with these data, has the tree under the next number
pub commit_loads : (s : Session) → IsReady s → (held : Image) → Carries held (next_base s) (next_bins s)
    → Loads held (committed_state s) false
commit_loads s has held carries = tree_loads (next_base s) (next_bins s) s.tree has held carries

pub commit_crash : (s : Session) → IsReady s → is_bins_size (length s.bins) ≡ true → (held : Image) (state : DiskState)
    → Carries held s.base s.bins
    → EachCrash state (IsBeforeOrAfter s.base s.bins (next_base s) (next_bins s))
    → (before : HiveState) (dirty : Bool) → Loads held before dirty
    → EachCrash state (LoadsAsEither before (committed_state s))
commit_crash s has size held state carries each before dirty loads c crash =
    let was = clean s.base s.bins in
    let holds : Holds was before = held_by held before dirty was loads (carried held s.base s.bins size carries) in
    either_loads s.base s.bins before holds (next_base s) (next_bins s) (committed_state s)
    (tree_holds (next_base s) (next_bins s) s.tree has) state each c crash

-- ---- the session after the commit

-- the base block that closes the commit, by the data and the root that were written
closed_as : (s : Session) (closed : Base) (new : List ℕ) (root : ℕ) → closed ≡ closed_of s.base new root → new ≡ next_bins s
    → root ≡ next_root s → closed ≡ next_base s
closed_as s closed new root closed_is written at =
    closed_is ∙ ap (λ (b : List ℕ). closed_of s.base b root) written
    ∙ ap (λ (n : ℕ). closed_of s.base (next_bins s) n) at

-- the cells are what the next session's disk carries, and the tree is in them
pub next_session : (s : Session) → s.tree ≡ s.cells.tree → IsReady s → s.cells.version ≡ version_of s.base.minor
    → (closed : Base) (after : HiveCells) (new : List ℕ) (root : ℕ) → closed ≡ closed_of s.base new root
    → after ≡ settled_as (next_bins s) s.cells → new ≡ next_bins s → root ≡ next_root s
    → IsSession closed after.base after false
next_session s tree has version closed after new root closed_is settled written at =
    subst (λ (b : Base). IsSession b after.base after false) (sym (closed_as s closed new root closed_is written at))
    (subst (λ (h : HiveCells). IsSession (next_base s) h.base h false) (sym settled)
    (record {
      read = settled_as (next_bins s) s.cells;
      edits = [];
      read_is = record { bytes = refl; root = refl };
      read_in = version;
      carried = subst (λ (t : Tree). HasTree (version_of s.base.minor) (next_bins s) (next_root s) t) tree has;
      made = refl;
      version = version;
      kept = λ e. record { bytes = refl; root = refl };
    }))

-- it is the session that the book of hives says
pub next_is : (s : Session) → s.tree ≡ s.cells.tree → (closed : Base) (after : HiveCells) (new : List ℕ) (root : ℕ)
    → closed ≡ closed_of s.base new root → after ≡ settled_as (next_bins s) s.cells → new ≡ next_bins s
    → root ≡ next_root s → session_of closed after.base after false ≡ committed s
next_is s tree closed after new root closed_is settled written at =
    ap (λ (b : Base). session_of b after.base after false) (closed_as s closed new root closed_is written at)
    ∙ ap (λ (h : HiveCells). session_of (next_base s) h.base h false) settled
    ∙ ap (λ (t : Tree). record {
      base = next_base s;
      bins = next_bins s;
      cells = settled_as (next_bins s) s.cells;
      tree = t;
      changed = false;
    }) (sym tree)

-- the old data are those to which the cells were settled, by the pages that were kept
pub old_is : (pages : List (List ℕ)) (bins : List Bin) {new base : List ℕ} → new ≡ spelled 0 bins
    → before pages (spelled 0 bins) ≡ base → before pages new ≡ base
old_is pages bins written kept = ap (before pages) written ∙ kept

-- what is said of the data and the root that were written is said of those that were given
pub as_written : (P : List ℕ → List ℕ → ℕ → Type 0) {old bins written new : List ℕ} {root at : ℕ} → old ≡ bins
    → written ≡ new → root ≡ at
    → P old written root → P bins new at
as_written P {bins = bins} {written = written} {new = new} {root = root} old_is written_is root_is is =
    subst (λ (n : ℕ). P bins new n) root_is
    (subst (λ (b : List ℕ). P bins b root) written_is (subst (λ (b : List ℕ). P b written root) old_is is))

-- ---- refusals

same_stop : (T U : Type 0) (stop other : CommitStop) → IsErrOf {T = U} (Err stop) other
    → IsErrOf {T = T} (Err stop) other
same_stop T U stop other e = let same : stop ≡ other = cc in ap Err same

-- a refusal leaves the disk the same whatever the answer would have been
pub goes_again : (T U : Type 0) (old new : DiskState) (stop : CommitStop) → IsCommitOn {T = T} old new (Err stop)
    → IsCommitOn {T = U} old new (Err stop)
goes_again T U old new stop was =
    let to : (other : CommitStop) → IsErrOf {T = T} (Err stop) other → IsErrOf {T = U} (Err stop) other =
    λ other. same_stop U T stop other in
    let back : (other : CommitStop) → IsErrOf {T = U} (Err stop) other → IsErrOf {T = T} (Err stop) other =
    λ other. same_stop T U stop other in
    let on = was.goes_on in
    record {
      goes_on = record {
        history = on.history;
        counts = on.counts;
        cut = λ e. on.cut (back commit.PowerLost e);
        fault = λ e. on.fault (back commit.Device e);
        no_cut = λ other. on.no_cut (λ e. other (to commit.PowerLost e));
        no_fault = λ other more. on.no_fault (λ e. other (to commit.PowerLost e)) (λ e. more (to commit.Device e));
        no_lack = λ other. on.no_lack (λ e. other (to commit.Memory e));
        off = λ e. on.off (back commit.PowerLost e);
        on = λ other. on.on (λ e. other (to commit.PowerLost e));
      };
      lack = λ e. was.lack (back commit.Memory e);
    }

pub ends_again : (T U : Type 0) (old new : DiskState) (stop : CommitStop) → EndsCommit {T = T} old new (Err stop)
    → EndsCommit {T = U} old new (Err stop)
ends_again T U old new stop was = record { goes = goes_again T U old new stop was.goes; done = was.done }
