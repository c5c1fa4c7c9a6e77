use Rattle.std.proofs.Common.{◌≡◌, List, sym, ap, subst, ◌∙◌}
use Rattle.std.specs.Prelude.{Some}
use Rattle.key_command.specs.hive_levels.Cut.{Shows}
use Rattle.key_text.specs.Found.{true_path, path_lines}
use Rattle.key_text.specs.Lines.{KeyLine, printed_lines}
use Rattle.key_command.proofs.LineLemmas.{true_way}
use Rattle.key_command.proofs.key_cells.report.report_in.Goals as goal

pub returns-in-Some : goal.returns-in-Some
returns-in-Some c = record {
  exact = λ t s.
      let path = c.args.path.now in
      let way = c.in-Some.found in
      let is : true_path t path ≡ Some way = sym (c.in_ok-found.ensures t s) ∙ c.in-Some.is in
      subst (λ (ls : List KeyLine). Shows (printed_lines c.args.form ls) c.report_at.result)
      (sym (ap (path_lines c.args.security c.args.depth t) is))
      (c.report_at.ensures t s (true_way t path way is));
}
