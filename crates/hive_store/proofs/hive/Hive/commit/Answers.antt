use Rattle.std.proofs.Common.{◌≡◌, Bool, List, ℕ, true, false, refl, ap, sym, subst, ◌∙◌}
use Rattle.std.proofs.lemmas.Result.{err_from_is_err_and}
use Rattle.hive_model.specs.Base.{Base, version_of}
use Rattle.hive_model.specs.State.{HiveState}
use Rattle.hive_model.specs.Load.{Loads}
use Rattle.nt_edge.specs.Calls.{Makes, MakesFront}
use Rattle.nt_edge.specs.Crash.{EachCrash}
use Rattle.hive_commit.specs.Calls.{change_calls}
use Rattle.hive_commit.specs.Commits.{IsCleanWith, IsCommitted}
use Rattle.hive_commit.specs.Cuts.{IsCutOfCommit}
use Rattle.hive_commit.specs.Stages.{closed_of, LoadsAsEither}
use Rattle.cell_tables.specs.saved_pages.Overlay.{before}
use Rattle.hive_store.specs.Session.{Session, HasTree, session_of, next_bins, next_root}
use Rattle.hive_store.specs.Commits.{committed, committed_state}
use Rattle.hive_store.specs.Changes.{IsEdited}
use Rattle.hive_store.proofs.CommittingLemmas.{IsReady, is_ready, is_edited, stood, commit_loads, commit_crash, next_session, next_is, old_is, as_written, ends_again}
use Rattle.hive_store.proofs.SizedLemmas.{sized_bytes}
use Rattle.hive_store.proofs.hive.Hive.commit.Given.{Over}
use Rattle.hive_store.proofs.hive.Hive.commit.Goals as goal
use Rattle.hive_store.proofs.hive.Hive.commit.Goals.{After-self, After-root, After-commit_kept}

-- the session by its parts, and that its tree is in what it writes
abbrev session : (g : Over) → After-root g → Session
session g c = let i = c.self.inside in session_of i.base i.cells.base i.cells i.changed

ready : (g : Over) (c : After-root g) → IsReady (session g c)
ready g c =
    let i = c.self.inside in
    is_ready i.base i.cells.base i.cells i.changed c.self.invariant c.bytes-new.ensures.sound c.root.ensures.stands

-- its cells were made of those that the disk carries
edited : (g : Over) (c : After-root g) → IsEdited c.args.self
edited g c =
    let i = c.self.inside in
    subst (λ (s : Session). IsEdited s) c.self.view_is
    (is_edited i.base i.cells.base i.cells i.changed c.self.invariant (ready g c))

-- a tree is in the data from before
has : (g : Over) (c : After-self g) → let s = c.args.self in
    HasTree (version_of s.base.minor) s.bins s.base.root c.self.invariant.read.tree
has g c = subst (λ (s : Session). HasTree (version_of s.base.minor) s.bins s.base.root c.self.invariant.read.tree)
    c.self.view_is c.self.invariant.carried

loads_before : (g : Over) (c : After-self g) → g.D.Disk.tells ≡ true
    → (state : HiveState) × Loads (g.D.Disk.state c.args.disk.now).held state false
loads_before g c tells =
    stood c.args.self _ (has g c) (g.D.Disk.state c.args.disk.now).held (c.requires.clean.carries tells)

-- what is said of the data and the root that the commit was given is said of the session's
of_session : (g : Over) (c : After-commit_kept g) (P : Base → List ℕ → List ℕ → ℕ → Type 0)
    → P c.self.inside.base (before c.pages.result.now c.bytes-new.result.now) c.bytes-new.result.now c.root.result
    → let s = c.args.self in P s.base s.bins (next_bins s) (next_root s)
of_session g c P is = subst (λ (s : Session). P s.base s.bins (next_bins s) (next_root s)) c.self.view_is
    (as_written (P c.self.inside.base) (old_is _ _ c.bytes-new.ensures.exact c.pages.ensures.base)
    c.bytes-new.ensures.exact c.root.ensures.root is)

cut : (g : Over) (c : After-commit_kept g) → g.D.Disk.tells ≡ true → let s = c.args.self in
    EachCrash (g.D.Disk.state c.commit_kept.new.disk)
    (IsCutOfCommit (g.D.Disk.state c.args.disk.now).held s.base s.bins (next_bins s) (next_root s))
cut g c tells =
    let held = (g.D.Disk.state c.args.disk.now).held in
    of_session g c
    (λ base old new root. EachCrash (g.D.Disk.state c.commit_kept.new.disk) (IsCutOfCommit held base old new root))
    (c.commit_kept.ensures.cut tells)

crash : (g : Over) (c : After-commit_kept g) → g.D.Disk.tells ≡ true → (state : HiveState) (dirty : Bool)
    → Loads (g.D.Disk.state c.args.disk.now).held state dirty
    → EachCrash (g.D.Disk.state c.commit_kept.new.disk) (LoadsAsEither state (committed_state c.args.self))
crash g c tells =
    let state = g.D.Disk.state c.commit_kept.new.disk in
    commit_crash c.args.self (subst IsReady c.self.view_is (ready g (goal.at.After-commit_kept g c).After-root))
    (has g (goal.at.After-commit_kept g c).After-self).sized (g.D.Disk.state c.args.disk.now).held state
    (c.requires.clean.carries tells) (λ image left. (cut g c tells image left).either)

pub commit_kept-requires-clause-sized : goal.commit_kept-requires-clause-sized
commit_kept-requires-clause-sized g c =
    let cells = c.self.inside.cells in
    sized_bytes cells.version cells.bins cells.root cells.tree c.bytes-new.result.now c.bytes-new.ensures.sound
    c.root.ensures.stands c.bytes-new.ensures.exact

pub commit_kept-requires-clause-clean : goal.commit_kept-requires-clause-clean
commit_kept-requires-clause-clean g c =
    let disk = g.D.Disk.state c.args.disk.now in
    subst (λ (old : List ℕ). IsCleanWith g.D.Disk.tells disk c.self.inside.base old)
    (sym (old_is _ _ c.bytes-new.ensures.exact c.pages.ensures.base))
    (subst (λ (v : Session). IsCleanWith g.D.Disk.tells disk v.base v.bins) (sym c.self.view_is) c.requires.clean)

pub invariant_of-hive : goal.invariant_of-hive
invariant_of-hive g c =
    let here = (goal.at.invariant_of-hive g c).After-root in
    next_session (session g here) refl (ready g here) c.self.invariant.version _ _ _ _ c.in_ok-closed.ensures.committed.answered
    c.settle.ensures c.bytes-new.ensures.exact c.root.ensures.root

pub returns-clause-committed : goal.returns-clause-committed
returns-clause-committed g c =
    let here = goal.at.returns-clause-committed g c in
    let disk = g.D.Disk.state c.commit_kept.new.disk in
    let done = of_session g here.After-commit_kept
    (λ base old new root. IsCommitted g.D.Disk.tells disk old new (closed_of base new root) c.in_ok-closed.closed)
    c.in_ok-closed.ensures.committed in
    record {
      answered = next_is (session g here.After-root) refl _ _ _ _ c.in_ok-closed.ensures.committed.answered
          c.settle.ensures c.bytes-new.ensures.exact c.root.ensures.root ∙ ap committed c.self.view_is;
      number = ap (λ (b : Base). b.first) (c.closed.view_is ∙ done.answered);
      clean = done.clean;
      loads = λ tells. commit_loads c.args.self (subst IsReady c.self.view_is (ready g here.After-root)) disk.held
          (done.clean.carries tells);
      logged = done.logged;
    }

pub returns-clause-made : goal.returns-clause-made
returns-clause-made g c =
    of_session g (goal.at.returns-clause-made g c).After-commit_kept
    (λ base old new root. Makes (g.D.Disk.calls c.args.disk.now) (g.D.Disk.calls c.commit_kept.new.disk)
    (change_calls base old new root)) c.in_ok-closed.ensures.made

pub returns-in_err-closed-clause-made : goal.returns-in_err-closed-clause-made
returns-in_err-closed-clause-made g c =
    let p = err_from_is_err_and c.from_residual.result c.from_residual.ensures.1 in
    rw p.1
    (of_session g (goal.at.returns-in_err-closed-clause-made g c).After-commit_kept
    (λ base old new root. MakesFront (g.D.Disk.calls c.args.disk.now) (g.D.Disk.calls c.commit_kept.new.disk)
    (change_calls base old new root)) c.in_err-closed.ensures.made)

pub returns-clause-change : goal.returns-clause-change
returns-clause-change g c = edited g (goal.at.returns-clause-change g c).After-root

pub returns-in_err-closed-clause-change : goal.returns-in_err-closed-clause-change
returns-in_err-closed-clause-change g c = edited g (goal.at.returns-in_err-closed-clause-change g c).After-root

pub returns-clause-cut : goal.returns-clause-cut
returns-clause-cut g c = cut g (goal.at.returns-clause-cut g c).After-commit_kept

pub returns-in_err-closed-clause-cut : goal.returns-in_err-closed-clause-cut
returns-in_err-closed-clause-cut g c = cut g (goal.at.returns-in_err-closed-clause-cut g c).After-commit_kept

pub returns-clause-crash : goal.returns-clause-crash
returns-clause-crash g c = crash g (goal.at.returns-clause-crash g c).After-commit_kept

pub returns-in_err-closed-clause-crash : goal.returns-in_err-closed-clause-crash
returns-in_err-closed-clause-crash g c = crash g (goal.at.returns-in_err-closed-clause-crash g c).After-commit_kept

pub returns-in_err-closed-clause-ends : goal.returns-in_err-closed-clause-ends
returns-in_err-closed-clause-ends g c =
    let p = err_from_is_err_and c.from_residual.result c.from_residual.ensures.1 in
    rw (p.1, p.2) (ends_again _ _ (g.D.Disk.state c.args.disk.now) (g.D.Disk.state c.commit_kept.new.disk)
    c.in_err-closed.field-0.0 c.in_err-closed.ensures.ends)

pub returns-in_err-closed-clause-before : goal.returns-in_err-closed-clause-before
returns-in_err-closed-clause-before g c = loads_before g (goal.at.returns-in_err-closed-clause-before g c).After-self

pub returns-clause-before : goal.returns-clause-before
returns-clause-before g c = loads_before g (goal.at.returns-clause-before g c).After-self
