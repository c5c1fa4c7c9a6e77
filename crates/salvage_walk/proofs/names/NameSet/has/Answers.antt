use Rattle.std.proofs.Common.{ap, ◌∙◌}
use Rattle.std.specs.List.{list_any}
use Rattle.nt_bytes.specs.Folding.{folds_same}
use Rattle.salvage_walk.proofs.NameLemmas.{has-key}
use Rattle.salvage_walk.proofs.names.NameSet.has.Goals as goal

pub returns : goal.returns
returns c =
    c.contains.ensures
    ∙ has-key (λ v. v.items) c.self.inside.keys.keys c.self.inside.names.items c.args.name.now c.in_ok-key.key
    c.in_ok-key.ensures c.self.invariant
    ∙ ap (list_any (folds_same c.args.name.now)) c.self.view_is
