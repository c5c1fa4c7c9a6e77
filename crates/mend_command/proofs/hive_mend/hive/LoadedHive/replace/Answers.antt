use Rattle.std.proofs.Common.{◌≡◌, ◌∙◌, true, refl, ap, sym, subst}
use Rattle.std.proofs.lemmas.Result.{err_from_is_err_and}
use Rattle.hive_model.specs.Base.{Base, version_of}
use Rattle.nt_edge.specs.Crash.{EachCrash}
use Rattle.hive_commit.specs.Commits.{IsCleanWith}
use Rattle.hive_commit.specs.Stages.{closed_of, IsBeforeOrAfter}
use Rattle.hive_store.specs.Session.{HasTree}
use Rattle.hive_store.proofs.Holding.{tree_loads}
use Rattle.hive_store.proofs.CommittingLemmas.{as_written, goes_again}
use Rattle.mend_command.specs.hive_mend.Loaded.{Loaded, loaded_state}
use Rattle.mend_command.specs.hive_mend.Loading.{StandsAs}
use Rattle.mend_command.specs.hive_mend.Mending.{LoadsAsOrNext}
use Rattle.mend_command.proofs.MendingLemmas.{HasItsTree, replaced_crash}
use Rattle.mend_command.proofs.hive_mend.hive.LoadedHive.replace.Given.{Over}
use Rattle.mend_command.proofs.hive_mend.hive.LoadedHive.replace.Goals as goal
use Rattle.mend_command.proofs.hive_mend.hive.LoadedHive.replace.Goals.{After-commit}

-- its tree is in the new data
ready : (g : Over) (c : After-commit g) → HasTree (version_of c.self.inside.base.minor) c.args.new 32 c.self.inside.tree
ready g c = subst (λ (v : Loaded). HasItsTree v c.args.new 32) (sym c.self.view_is) c.requires.ready

-- whatever came of the commit
crash : (g : Over) (c : After-commit g) → g.D.Disk.tells ≡ true
    → EachCrash (g.D.Disk.state c.commit.new.disk) (LoadsAsOrNext (loaded_state c.args.self))
crash g c tells =
    let i = c.self.inside in
    let h : Loaded = record { base = i.base; bins = i.bins; tree = i.tree } in
    let state = g.D.Disk.state c.commit.new.disk in
    subst (λ (v : Loaded). EachCrash state (LoadsAsOrNext (loaded_state v))) c.self.view_is
    (replaced_crash h c.self.invariant.has c.args.new (ready g c) state
    (as_written (λ old new root. EachCrash state (IsBeforeOrAfter h.base old (closed_of h.base new root) new))
    c.as_slice.ensures c.as_slice-2.ensures refl
    (λ cut left. (c.commit.ensures.cut tells cut left).either)))

pub returns-in_err-closed-clause-crash : goal.returns-in_err-closed-clause-crash
returns-in_err-closed-clause-crash g c = crash g (goal.at.returns-in_err-closed-clause-crash g c).After-commit

pub returns-in_err-closed-clause-goes : goal.returns-in_err-closed-clause-goes
returns-in_err-closed-clause-goes g c =
    let p = err_from_is_err_and c.from_residual.result c.from_residual.ensures.1 in
    rw (p.1, p.2) (goes_again _ _ (g.D.Disk.state c.args.disk.now) (g.D.Disk.state c.commit.new.disk)
    c.in_err-closed.field-0.0 c.in_err-closed.ensures.ends.goes)

pub returns-clause-stands : goal.returns-clause-stands
returns-clause-stands g c =
    let i = c.self.inside in
    let disk = g.D.Disk.state c.commit.new.disk in
    let done = c.in_ok-closed.ensures.committed in
    let closed = closed_of i.base c.args.new 32 in
    let clean : IsCleanWith g.D.Disk.tells disk closed c.args.new =
    subst (λ new. IsCleanWith g.D.Disk.tells disk (closed_of i.base new 32) new) c.as_slice-2.ensures done.clean in
    subst (λ (b : Base). StandsAs g.D.Disk.tells disk (record { base = b; bins = c.args.new; tree = i.tree }))
    (sym (done.answered ∙ ap (λ new. closed_of i.base new 32) c.as_slice-2.ensures))
    (record {
      clean = clean;
      loads = λ tells. tree_loads closed c.args.new i.tree (ready g (goal.at.returns-clause-stands g c).After-commit)
          disk.held (clean.carries tells);
    })

pub returns-clause-crash : goal.returns-clause-crash
returns-clause-crash g c = crash g (goal.at.returns-clause-crash g c).After-commit
