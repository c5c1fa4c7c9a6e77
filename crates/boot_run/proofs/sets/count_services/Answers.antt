use Rattle.std.proofs.Common.{◌≡◌, ◌++◌, ◌∷◌, [], ℕ, List, ap, length, ◌∙◌}
use Rattle.std.specs.Prelude.{codes}
use Rattle.hive_store.specs.Found.{found_names}
use Rattle.start_model.specs.Sets.{set_name}
use Rattle.boot_run.proofs.SetLemmas.{service_names}
use Rattle.boot_run.proofs.sets.count_services.Goals as goal

pub returns : goal.returns
returns c =
    let path : c.push.new.self ≡ set_name c.args.number ∷ codes "Services" ∷ [] =
    c.in_ok-push.ensures.ok ∙ (λ i. c.in_ok-path.ensures i ++ c.in_ok-from_slice.ensures i ∷ []) in
    c.len.ensures ∙ ap length
    (c.in_ok-names.ensures.names ∙ ap (λ (p : List (List ℕ)). found_names p c.args.hive.now.tree) path)
    ∙ service_names c.args.hive.now.tree c.args.number
