use Rattle.std.proofs.Common.{◌≡◌, Bool, true, false, ℕ, Option, sym, ap, ◌∙◌}
use Rattle.std.specs.Prelude.{is_some}
use Rattle.hive_edit.proofs.AddStepLemmas.{child_there}
use Rattle.hive_edit.proofs.CopyStepLemmas.{shares_child}
use Rattle.hive_edit.proofs.hive.HiveBytes.shared_of.Goals as goal

not_both : (b : Bool) → b ≡ true → b ≡ false → ⊥
not_both b e f = let d : true ≡ false = sym e ∙ f in absurd cc

pub unreachable-requires : goal.unreachable-requires
unreachable-requires c =
    not_both _ c.requires
    (child_there c.self.inside.cells c.cells.result.now c.self.inside.root c.self.inside.version c.self.inside.bulk
    c.args.self.now c.args.from.now c.child_at.result false
    c.self.invariant c.self.view_is c.cells.ensures c.child_at.ensures.place
    (ap (λ (o : Option ℕ). is_some o) c.in-None.is))

pub returns : goal.returns
returns c =
    shares_child c.self.inside.cells c.cells.result.now c.self.inside.root c.self.inside.version c.self.inside.bulk
    c.args.self.now c.args.from.now c.in-Some.at
    c.above_at-place.result.security c.self.invariant c.self.view_is c.cells.ensures
    (sym c.in-Some.is ∙ c.child_at.ensures.place)
    (λ n e. (c.above_at-place.ensures n e).security) c.offset_fits.ensures
