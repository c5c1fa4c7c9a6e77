use Rattle.std.proofs.Common.{ap, ◌∙◌}
use Rattle.nt_bytes.specs.Folding.{folded}
use Rattle.salvage_walk.proofs.NameLemmas.{keys-step}
use Rattle.salvage_walk.proofs.names.NameSet.add.Goals as goal

pub invariant_of-self : goal.invariant_of-self
invariant_of-self c =
    keys-step (λ v. v.items) c.self.inside.keys.keys c.put.new.keys.keys c.self.inside.names.items
    c.put.new.names.items c.args.name
    c.in_ok-key.key c.put.result (c.in_ok-key.ensures ∙ ap folded c.as_slice.ensures) c.put.ensures.named
    c.put.ensures.keyed
    c.put.ensures.names_before c.put.ensures.keys_before c.self.invariant
