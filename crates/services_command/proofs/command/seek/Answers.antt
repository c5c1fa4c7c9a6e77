use Rattle.std.proofs.Common.{List, ap, subst}
use Rattle.std.specs.Prelude.{Result}
use Rattle.report_text.specs.declared.line_text.form.ReportForm.TheVariants as forms
use Rattle.command_parts.specs.declared.command_parts.refusal.Obstacle.{Obstacle}
use Rattle.command_parts.specs.command_parts.Inputs.{hive_in}
use Rattle.command_parts.specs.command_parts.OnHive.{AnswersOnHive}
use Rattle.command_parts.proofs.SeekLemmas.{seeks_after}
use Rattle.service_list.specs.declared.listing.ServiceLine.{ServiceLine}
use Rattle.command_words.specs.Views.{services_seen}
use Rattle.services_command.specs.Answer.{question_by, question_on, told_result}
use Rattle.services_command.proofs.command.seek.Goals as goal

pub returns-in-Ok-clause-seeks : goal.returns-in-Ok-clause-seeks
returns-in-Ok-clause-seeks g c = λ form.
    let old = g.H.Host.state c.args.host.now in
    let asked = services_seen c.args.words in
    let wanted = hive_in old.files asked.hive asked.log in
    seeks_after wanted c.in-Ok.files (question_on form asked c.in-Ok.files)
    (question_by form asked wanted) (told_result form c.found_on.result) old
    (g.H.Host.state c.hive_in.new.host) (ap (question_by form asked)) c.in-Ok.ensures.looks (c.found_on.ensures form)

pub returns-in-Ok-clause-kept : goal.returns-in-Ok-clause-kept
returns-in-Ok-clause-kept g c = λ e.
    let asked = services_seen c.args.words in
    let found = subst (λ (r : Result (List ServiceLine) Obstacle). AnswersOnHive (question_on forms.Text asked c.in-Ok.files) (told_result forms.Text r))
    e (c.found_on.ensures forms.Text) in
    let is = found.2 in
    absurd cc
