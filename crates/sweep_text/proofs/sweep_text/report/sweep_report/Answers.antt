use Rattle.std.proofs.Common.{List, ℕ, ◌++◌, map, ap, ◌∙◌}
use Rattle.std.specs.List.{flat_map, list_any}
use Rattle.sweep_text.specs.sweep_text.Words.{told_text, recovers_text, commits_text}
use Rattle.sweep_text.specs.sweep_text.Report.{report_by, stages_by}
use Rattle.sweep_text.proofs.SaidLemmas.{same_report}
use Rattle.sweep_text.proofs.sweep_text.report.sweep_report.Goals as goal

pub returns : goal.returns
returns c =
    let texts : List (List ℕ) = map (λ t. t.now) c.args.said.now in
    let text : List ℕ =
    report_by c.args.form c.args.event.now (flat_map (told_text c.args.form) texts)
    (stages_by (list_any recovers_text texts) (list_any commits_text texts) c.args.recovery.now c.args.commit.now) in
    record {
      exact = λ lines are.
          c.from_vec.ensures ∙ c.in_ok-push_report.ensures ∙ ap (λ (x : List ℕ). x ++ text) c.new-out.ensures.items
          ∙ same_report c.args.form c.args.event.now texts lines c.args.recovery.now c.args.commit.now are;
    }
