use Rattle.std.proofs.Common.{◌≡◌, ◌+◌, false, replicate, length, sym, ap, ◌∙◌}
use Rattle.dependencies.specs.declared.wants.Kind.TheVariants.{Service, Group}
use Rattle.dependencies.specs.Wants.{names_given}
use Rattle.dependencies.specs.Waiting.{raised, services_in, groups_in}
use Rattle.dependencies.proofs.KeptLemmas.{raised_sum}
use Rattle.dependencies.proofs.waiting.Waiting.new.Goals as goal

pub test_all-requires : goal.test_all-requires
test_all-requires c =
    ap (λ w. w.met) c.in_ok-service_names.ensures.wants ∙ ap (λ l. replicate (length l) false) (sym c.as_slice-3.ensures)

pub test_all-requires-2 : goal.test_all-requires-2
test_all-requires-2 c =
    ap (λ w. w.met) c.in_ok-group_names.ensures.wants ∙ ap (λ l. replicate (length l) false) (sym c.as_slice-4.ensures)

pub returns-clause-tests : goal.returns-clause-tests
returns-clause-tests c =
    let all_services : length c.as_slice-3.result.now ≡ length (services_in c.args.needs) =
    ap length (c.as_slice-3.ensures ∙ c.in_ok-service_names.ensures.names ∙ ap (names_given Service) c.as_slice.ensures) in
    let all_groups : length c.as_slice-4.result.now ≡ length (groups_in c.args.needs) =
    ap length (c.as_slice-4.ensures ∙ c.in_ok-group_names.ensures.names ∙ ap (names_given Group) c.as_slice-2.ensures) in
    raised_sum c.args.tests.now c.test_all.new.tests c.test_all-2.new.tests (length c.as_slice-3.result.now)
    (length c.as_slice-4.result.now)
    c.test_all.ensures.tests c.test_all-2.ensures.tests
    ∙ (λ i. raised c.args.tests.now (all_services i + all_groups i))
