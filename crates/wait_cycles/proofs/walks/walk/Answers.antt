use Rattle.std.proofs.Common.{◌<◌, ℕ, List, length, sym, subst}
use Rattle.std.specs.Prelude.{All}
use Rattle.wait_cycles.specs.Classes.{which}
use Rattle.wait_cycles.proofs.InverseLemmas.{row_within}
use Rattle.wait_cycles.proofs.WalkLemmas.{walking_begun, walking_more}
use Rattle.wait_cycles.proofs.walks.walk.Goals as goal

pub number_all-requires : goal.number_all-requires
number_all-requires c =
    subst (λ (xs : List ℕ). All (λ v. v < length c.args.numbers.now.items) xs) (sym c.row_at.ensures)
    (row_within c.args.rows.now c.args.start (length c.args.numbers.now.items) c.requires.edges c.requires.len)

pub work-init : goal.work-init
work-init c =
    walking_begun c.args.rows.now c.args.start (which c.args.key c.args.keys.now) _ _ _ _ _ c.row_at.ensures
    c.requires.len c.requires.unused c.new-work.ensures.items c.in_ok-number_all.ensures

pub number_all-requires-in-Some : goal.number_all-requires-in-Some
number_all-requires-in-Some c =
    subst (λ (xs : List ℕ). All (λ v. v < length c.work.numbers.items) xs) (sym c.row_at-in-Some.ensures)
    (row_within c.args.rows.now c.in-Some.at (length c.work.numbers.items) c.requires.edges c.work.invariant.len)

pub work-preserved : goal.work-preserved
work-preserved c =
    walking_more c.args.rows.now c.args.start (which c.args.key c.args.keys.now) _ _ _ _ _ _ _ _
    c.row_at-in-Some.ensures c.in-Some.ensures.items c.work.invariant c.in_ok-number_all-2.ensures
