use Rattle.std.proofs.Common.{◌≡◌, ℕ, Bool, [], ◌++◌, ◌&&◌, not, length, ap, ◌∙◌, subst}
use Rattle.start_model.specs.Demand.{member}
use Rattle.failure_effects.specs.declared.givers.Givers.{Givers}
use Rattle.failure_effects.specs.declared.lines.NeedWord.TheVariants.{Service, Group}
use Rattle.failure_effects.specs.Givers.{givers_of, all_left_givers, has_place, Adds, AreSeen}
use Rattle.failure_effects.proofs.NearLemmas.{near_made, far_is, seen_then, always_on}
use Rattle.failure_effects.proofs.givers.Needers.near.Goals as goal

pub returns-clause-near : goal.returns-clause-near
returns-clause-near c =
    let entries = c.args.self.now in
    let rest = c.args.left.now.rest.items in
    let layer = c.args.layer.now in
    let services : c.self.inside.services ≡ givers_of Service entries = c.self.invariant.0 ∙ ap (givers_of Service) c.self.view_is in
    let groups : c.self.inside.groups ≡ givers_of Group entries = c.self.invariant.1 ∙ ap (givers_of Group) c.self.view_is in
    let adds : Adds (all_left_givers (givers_of Service entries) rest layer.names ++ all_left_givers (givers_of Group entries) rest layer.groups) []
    c.in_ok-found.found.items =
    (λ p. c.in_ok-found.ensures.found p
    ∙ (λ i. has_place p (all_left_givers (services i) rest layer.names ++ all_left_givers (groups i) rest layer.groups))) in
    near_made c.entries_at.result entries layer rest c.in_ok-found.found.items c.in_ok-places.places c.as_slice-2.result.now
    c.as_slice-3.result.now c.requires.len c.in_ok-places.ensures.rises c.in_ok-places.ensures.same adds
    (c.as_slice-2.ensures ∙ c.self.view_is) c.as_slice-3.ensures c.entries_at.ensures

pub returns-clause-rest : goal.returns-clause-rest
returns-clause-rest c =
    let entries = c.args.self.now in
    let rest = c.args.left.now.rest.items in
    let layer = c.args.layer.now in
    let services : c.self.inside.services ≡ givers_of Service entries = c.self.invariant.0 ∙ ap (givers_of Service) c.self.view_is in
    let groups : c.self.inside.groups ≡ givers_of Group entries = c.self.invariant.1 ∙ ap (givers_of Group) c.self.view_is in
    let adds : Adds (all_left_givers (givers_of Service entries) rest layer.names ++ all_left_givers (givers_of Group entries) rest layer.groups) []
    c.in_ok-found.found.items =
    (λ p. c.in_ok-found.ensures.found p
    ∙ (λ i. has_place p (all_left_givers (services i) rest layer.names ++ all_left_givers (groups i) rest layer.groups))) in
    always_on c.entries_at.result
    (far_is entries layer rest c.take_out.new.rest.items c.in_ok-found.found.items c.in_ok-places.places c.in_ok-places.ensures.same adds
    (λ p. c.take_out.ensures.out p
    ∙ (λ i. member (c.in_ok-found.ensures.rest i) p && not (has_place p (c.as_slice.ensures i)))))

pub returns-clause-left : goal.returns-clause-left
returns-clause-left c =
    let entries = c.args.self.now in
    let rest = c.args.left.now.rest.items in
    let services : c.self.inside.services ≡ givers_of Service entries = c.self.invariant.0 ∙ ap (givers_of Service) c.self.view_is in
    let groups : c.self.inside.groups ≡ givers_of Group entries = c.self.invariant.1 ∙ ap (givers_of Group) c.self.view_is in
    let out : (p : ℕ) → member c.take_out.new.rest.items p ≡ (member rest p && not (has_place p c.in_ok-places.places)) =
    (λ p. c.take_out.ensures.out p
    ∙ (λ i. member (c.in_ok-found.ensures.rest i) p && not (has_place p (c.as_slice.ensures i)))) in
    always_on c.entries_at.result record {
      len = c.take_out.ensures.len ∙ ap (length {A = Bool}) c.in_ok-found.ensures.rest ∙ c.requires.len;
      services = seen_then (givers_of Service entries) rest c.take_out.new.rest.items c.found.new.left.services.items
          c.in_ok-found.found.items c.in_ok-places.places
          (subst (λ (g : Givers). AreSeen g rest c.found.new.left.services.items c.in_ok-found.found.items) services
          c.in_ok-found.ensures.services)
          c.in_ok-places.ensures.same out;
      groups = seen_then (givers_of Group entries) rest c.take_out.new.rest.items c.found.new.left.groups.items
          c.in_ok-found.found.items c.in_ok-places.places
          (subst (λ (g : Givers). AreSeen g rest c.found.new.left.groups.items c.in_ok-found.found.items) groups
          c.in_ok-found.ensures.groups)
          c.in_ok-places.ensures.same out;
    }
