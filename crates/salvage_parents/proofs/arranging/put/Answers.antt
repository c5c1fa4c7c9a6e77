use Rattle.std.proofs.Common.{◌∙◌, ap}
use Rattle.hive_model.specs.Tree.{Tree, head}
use Rattle.nt_bytes.specs.Folding.{folded}
use Rattle.salvage_parents.proofs.NamedLemmas.{put-values, put-named}
use Rattle.salvage_parents.proofs.arranging.put.Goals as goal

pub returns-clause-put : goal.returns-clause-put
returns-clause-put c =
    put-values c.into_vec.result c.args.key c.args.named.now.entries c.insert.new.self.entries
    (c.into_vec.ensures ∙ c.in_ok-name.ensures ∙ ap folded c.as_slice.ensures ∙ ap (λ (t : Tree). folded (head t).name) c.key.view_is) c.requires c.in_ok-insert.ensures.entries

pub returns-clause-named : goal.returns-clause-named
returns-clause-named c =
    put-named c.into_vec.result c.args.key c.args.named.now.entries c.insert.new.self.entries
    (c.into_vec.ensures ∙ c.in_ok-name.ensures ∙ ap folded c.as_slice.ensures ∙ ap (λ (t : Tree). folded (head t).name) c.key.view_is) c.requires c.in_ok-insert.ensures.entries
