use Rattle.std.proofs.Common.{◌≡◌, true, false, refl, ◌∙◌, ap, subst, length}
use Rattle.std.specs.Prelude.{OnOk}
use Rattle.hive_model.specs.Base.{Base, is_bins_size, version_of}
use Rattle.hive_model.specs.Recovery.{Recovered}
use Rattle.nt_edge.specs.Crash.{EachCrash}
use Rattle.hive_commit.specs.Stages.{closed_of}
use Rattle.hive_store.specs.Checks.{held_state}
use Rattle.hive_alt.specs.Changes.{Change, nothing, no_select, too_large, change_of, after_change, IsEitherOf, StandsAfter}
use Rattle.hive_alt.specs.Plans.{IsPlanOf}
use Rattle.hive_alt.specs.declared.planning.Plan.TheVariants as plans
use Rattle.hive_alt.proofs.ChangeLemmas.{IsCleanAs, on_ok_then, nothing_done, kept_crash, left_mended, change_answers, change_mended, change_crash}
use Rattle.hive_alt.proofs.KeptLemmas.{kept_still}
use Rattle.hive_alt.proofs.changing.change_loaded.Given.{Over}
use Rattle.hive_alt.proofs.changing.change_loaded.Goals as goal
use Rattle.hive_alt.proofs.changing.change_loaded.Goals.{After-settled_is_clean, In_ok-next, In-Pack, After-commit_change}

-- what was loaded stands with nothing to repair
clean_here : (g : Over) (c : After-settled_is_clean g) → g.D.Disk.tells ≡ true
    → IsCleanAs g.S.Scheme.stands c.args.loaded.now.found.base c.args.loaded.now.found.bins
    (g.D.Disk.state c.args.disk.now).held
clean_here g c tells =
    c.settled_is_clean.ensures (g.D.Disk.state c.args.disk.now).held c.args.loaded.now.found.base c.args.loaded.now.found.bins
    c.requires.sized (c.requires.settled tells)

-- where nothing more is written a cut leaves it
cut_here : (g : Over) (c : After-settled_is_clean g) → g.D.Disk.tells ≡ true
    → EachCrash (g.D.Disk.state c.args.disk.now)
    (IsEitherOf g.S.Scheme.stands c.args.loaded.now.found c.args.loaded.now.tree c.args.number)
cut_here g c tells =
    let found = c.args.loaded.now.found in
    let s = g.D.Disk.state c.args.disk.now in
    kept_crash g.S.Scheme.stands found c.args.loaded.now.tree c.args.number (c.requires.holds tells) s
    (kept_still g.S.Scheme.stands s s refl (c.requires.still tells) found.base found.bins
    (record { dirty = false; kept = clean_here g c tells }))

version_is : (g : Over) (c : In_ok-next g) → c.version.result ≡ version_of c.args.loaded.now.found.base.minor
version_is g c = c.version.ensures ∙ ap (λ (r : Recovered). version_of r.base.minor) c.found.view_is

-- and that is the tree as it is to be, where the plan leaves the tree
left_here : (g : Over) (c : In_ok-next g) → g.D.Disk.tells ≡ true → (change : Change)
    → change_of c.version.result c.args.loaded.now.tree c.args.number ≡ change
    → after_change c.args.loaded.now.found c.args.loaded.now.tree change ≡ held_state c.args.loaded.now.found c.args.loaded.now.tree
    → EachCrash (g.D.Disk.state c.args.disk.now)
    (StandsAfter g.S.Scheme.stands c.args.loaded.now.found c.args.loaded.now.tree c.args.number)
left_here g c tells change is left =
    left_mended g.S.Scheme.stands c.args.loaded.now.found c.args.loaded.now.tree c.args.number (c.requires.holds tells) change
    c.version.result (version_is g c) is left (g.D.Disk.state c.args.disk.now) (c.requires.still tells)
    (clean_here g (goal.at.In_ok-next g c).After-settled_is_clean tells)

-- what is packed holds the changed tree
packed : (g : Over) (c : In-Pack g) → IsPlanOf c.version.result
    (change_of c.version.result c.args.loaded.now.tree c.args.number) (plans.Pack c.in-Pack.new)
packed g c = subst (IsPlanOf c.version.result _) c.in-Pack.is c.in_ok-next.ensures

-- the commit is given what was loaded
given_is : (g : Over) (c : In-Pack g) → c.found.inside.base ≡ c.args.loaded.now.found.base
given_is g c = ap (λ (r : Recovered). r.base) c.found.view_is

old_is : (g : Over) (c : In-Pack g) → c.as_slice-old.result.now ≡ c.args.loaded.now.found.bins
old_is g c = c.as_slice-old.ensures ∙ ap (λ (r : Recovered). r.bins) c.found.view_is

-- what the commit leaves stands with nothing to repair
clean_after : (g : Over) (c : After-commit_change g) → g.D.Disk.tells ≡ true
    → OnOk c.commit_change.result (IsCleanAs g.S.Scheme.stands (closed_of c.found.inside.base
    c.as_slice-packed.result.now 32) c.as_slice-packed.result.now (g.D.Disk.state c.commit_change.new.disk).held)
clean_after g c tells =
    let new = c.as_slice-packed.result.now in
    let x = packed g (goal.at.After-commit_change g c).In-Pack in
    on_ok_then c.commit_change.result
    (c.settled_is_clean.ensures (g.D.Disk.state c.commit_change.new.disk).held (closed_of c.found.inside.base new 32) new
    (ap (λ l. is_bins_size (length l)) c.as_slice-packed.ensures ∙ x.2.sized)) (c.commit_change.ensures.settled tells)

pub returns-in_err-next-clause-crash : goal.returns-in_err-next-clause-crash
returns-in_err-next-clause-crash g c = cut_here g (goal.at.returns-in_err-next-clause-crash g c).After-settled_is_clean

pub returns-in-Nothing-clause-crash : goal.returns-in-Nothing-clause-crash
returns-in-Nothing-clause-crash g c = cut_here g (goal.at.returns-in-Nothing-clause-crash g c).After-settled_is_clean

pub returns-in-NoSelect-clause-crash : goal.returns-in-NoSelect-clause-crash
returns-in-NoSelect-clause-crash g c = cut_here g (goal.at.returns-in-NoSelect-clause-crash g c).After-settled_is_clean

pub returns-in-Full-clause-crash : goal.returns-in-Full-clause-crash
returns-in-Full-clause-crash g c = cut_here g (goal.at.returns-in-Full-clause-crash g c).After-settled_is_clean

pub returns-in-Nothing-clause-answers : goal.returns-in-Nothing-clause-answers
returns-in-Nothing-clause-answers g c = λ tells image read.
    let here = goal.at.returns-in-Nothing-clause-answers g c in
    let loaded_is = ap (λ (b : Base). b.first) c.base.view_is ∙ ap (λ (r : Recovered). r.base.first) c.found.view_is in
    nothing_done g.S.Scheme.stands c.args.loaded.now.found c.args.loaded.now.tree c.args.number (c.requires.holds tells)
    c.base.inside.first c.found.inside.dirty loaded_is (ap (λ (r : Recovered). r.dirty) c.found.view_is) image
    (g.D.Disk.state c.args.disk.now).held c.version.result (version_is g here.In_ok-next) read
    (subst (IsPlanOf c.version.result (change_of c.version.result c.args.loaded.now.tree c.args.number)) c.in-Nothing.is
    c.in_ok-next.ensures) (clean_here g here.After-settled_is_clean tells)

pub returns-in-Pack-clause-answers : goal.returns-in-Pack-clause-answers
returns-in-Pack-clause-answers g c = λ tells image read.
    let loaded_is = ap (λ (b : Base). b.first) c.base.view_is ∙ ap (λ (r : Recovered). r.base.first) c.found.view_is in
    let here = goal.at.returns-in-Pack-clause-answers g c in
    let x = packed g here.In-Pack in
    change_answers g.S.Scheme.stands c.args.loaded.now.found c.args.loaded.now.tree c.args.number (c.requires.holds tells) x.0
    c.in-Pack.new c.version.result (version_is g here.In_ok-next) x.1 x.2 c.found.inside.base c.as_slice-old.result.now
    c.as_slice-packed.result.now (given_is g here.In-Pack) (old_is g here.In-Pack) c.as_slice-packed.ensures
    c.base.inside.first c.found.inside.dirty loaded_is (ap (λ (r : Recovered). r.dirty) c.found.view_is) image
    (g.D.Disk.state c.commit_change.new.disk).held read c.commit_change.result c.commit_change.ensures.answered
    c.commit_change.ensures.refused (clean_after g here.After-commit_change tells)

pub returns-in-Nothing-clause-mended : goal.returns-in-Nothing-clause-mended
returns-in-Nothing-clause-mended g c = λ tells decided.
    left_here g (goal.at.returns-in-Nothing-clause-mended g c).In_ok-next tells nothing
    (subst (IsPlanOf c.version.result _) c.in-Nothing.is c.in_ok-next.ensures) refl

pub returns-in-NoSelect-clause-mended : goal.returns-in-NoSelect-clause-mended
returns-in-NoSelect-clause-mended g c = λ tells decided.
    left_here g (goal.at.returns-in-NoSelect-clause-mended g c).In_ok-next tells no_select
    (subst (IsPlanOf c.version.result _) c.in-NoSelect.is c.in_ok-next.ensures) refl

pub returns-in-Full-clause-mended : goal.returns-in-Full-clause-mended
returns-in-Full-clause-mended g c = λ tells decided.
    left_here g (goal.at.returns-in-Full-clause-mended g c).In_ok-next tells too_large
    (subst (IsPlanOf c.version.result _) c.in-Full.is c.in_ok-next.ensures) refl

pub returns-in-Pack-clause-mended : goal.returns-in-Pack-clause-mended
returns-in-Pack-clause-mended g c = λ tells.
    let here = goal.at.returns-in-Pack-clause-mended g c in
    let x = packed g here.In-Pack in
    change_mended g.S.Scheme.stands c.args.loaded.now.found c.args.loaded.now.tree c.args.number (c.requires.holds tells) x.0
    c.in-Pack.new c.version.result (version_is g here.In_ok-next) x.1 x.2 c.found.inside.base c.as_slice-old.result.now
    c.as_slice-packed.result.now (given_is g here.In-Pack) (old_is g here.In-Pack) c.as_slice-packed.ensures
    c.base.inside.first c.found.inside.dirty (g.D.Disk.state c.commit_change.new.disk) c.commit_change.result
    c.commit_change.ensures.refused (clean_after g here.After-commit_change tells) (c.commit_change.ensures.still tells)

pub returns-in-Pack-clause-crash : goal.returns-in-Pack-clause-crash
returns-in-Pack-clause-crash g c = λ tells.
    let here = goal.at.returns-in-Pack-clause-crash g c in
    let x = packed g here.In-Pack in
    change_crash g.S.Scheme.stands c.args.loaded.now.found c.args.loaded.now.tree c.args.number (c.requires.holds tells) x.0
    c.in-Pack.new c.version.result (version_is g here.In_ok-next) x.1 x.2 c.found.inside.base c.as_slice-old.result.now
    c.as_slice-packed.result.now (given_is g here.In-Pack) (old_is g here.In-Pack) c.as_slice-packed.ensures
    (g.D.Disk.state c.commit_change.new.disk) (c.commit_change.ensures.crash tells)
