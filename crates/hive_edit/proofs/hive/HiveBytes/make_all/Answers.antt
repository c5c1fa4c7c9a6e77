use Rattle.std.proofs.Common.{◌≡◌, List, ℕ, length, map, sym, ap, subst, ◌∙◌}
use Rattle.hive_model.specs.Bins.{spelled}
use Rattle.reg_tree.specs.Makes.{step_of}
use Rattle.cell_tables.specs.saved_pages.Overlay.{before, IsCovered}
use Rattle.hive_edit.specs.Hive.{HiveCells, settled_as}
use Rattle.hive_edit.specs.Steps.{AreMadeOrNone}
use Rattle.hive_edit.proofs.SettledLemmas.{all_as}
use Rattle.hive_edit.proofs.hive.HiveBytes.make_all.Goals as goal
use Rattle.hive_edit.proofs.hive.HiveBytes.make_all.Goals.{After-make_settled-made, After-rejoin}

-- what the bins data were when the steps began, they were settled as
base : (c : After-make_settled-made) → c.make_settled-made.new.self.base ≡ spelled 0 c.args.self.now.bins
base c = c.make_settled-made.ensures.base ∙ ap (λ (h : HiveCells). h.base) c.in_ok-pages.ensures.held

-- the hive is as it was made, settled last as before
same : (c : After-rejoin) → c.rejoin.new.self ≡ settled_as c.args.self.now.base c.make_settled-made.new.self
same c =
    c.rejoin.ensures
    ∙ ap (λ (text : List ℕ). settled_as text c.make_settled-made.new.self)
    (ap (before c.in_ok-pages.pages) (base (goal.at.After-rejoin c).After-make_settled-made) ∙ c.in_ok-pages.ensures.before)

pub rejoin-requires : goal.rejoin-requires
rejoin-requires c =
    subst (λ (text : List ℕ). IsCovered c.in_ok-pages.pages (length text))
    (sym (base (goal.at.rejoin-requires c).After-make_settled-made)) c.in_ok-pages.ensures.covered

pub returns-clause-all : goal.returns-clause-all
returns-clause-all c =
    let steps = map step_of c.args.steps.now in
    subst (AreMadeOrNone c.args.self.now steps c.make_settled-made.result) (sym (same (goal.at.returns-clause-all c).After-rejoin))
    (all_as (spelled 0 c.args.self.now.bins) c.args.self.now steps c.make_settled-made.result c.make_settled-made.new.self
    (subst (λ (h : HiveCells). AreMadeOrNone h steps c.make_settled-made.result c.make_settled-made.new.self) c.in_ok-pages.ensures.held
    c.make_settled-made.ensures.all))

pub returns-clause-base : goal.returns-clause-base
returns-clause-base c = ap (λ (h : HiveCells). h.base) (same (goal.at.returns-clause-base c).After-rejoin)
