use Rattle.std.proofs.Common.{ap, ◌∙◌, subst, []}
use Rattle.failure_effects.specs.declared.givers.Givers.{Givers}
use Rattle.failure_effects.specs.declared.lines.NeedWord.TheVariants.{Service, Group}
use Rattle.failure_effects.specs.Givers.{givers_of, AreSeen}
use Rattle.failure_effects.proofs.givers.Needers.unseen.Goals as goal

pub returns-clause-left : goal.returns-clause-left
returns-clause-left c = record {
  len = c.requires;
  services = subst (λ (g : Givers). AreSeen g c.args.rest.items c.in_ok-none_seen.field-0.items [])
      (c.self.invariant.0 ∙ ap (givers_of Service) c.self.view_is)
      (c.in_ok-none_seen.ensures c.args.rest.items);
  groups = subst (λ (g : Givers). AreSeen g c.args.rest.items c.in_ok-none_seen-2.field-0.items [])
      (c.self.invariant.1 ∙ ap (givers_of Group) c.self.view_is)
      (c.in_ok-none_seen-2.ensures c.args.rest.items);
}
