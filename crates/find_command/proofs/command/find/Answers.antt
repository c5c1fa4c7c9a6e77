use Rattle.std.proofs.Common.{List, ℕ, ap}
use Rattle.std.specs.Prelude.{Result, Ok}
use Rattle.nt_edge.specs.Disk.{new_state}
use Rattle.command_words.specs.Views.{find_seen}
use Rattle.command_parts.specs.declared.command_parts.inputs.HiveFiles.{HiveFiles}
use Rattle.command_parts.specs.declared.command_parts.refusal.Refusal.{Refusal}
use Rattle.command_parts.specs.declared.command_parts.status.Status.{Status}
use Rattle.command_parts.specs.command_parts.Inputs.{hive_in}
use Rattle.command_parts.specs.command_parts.Leaves.{stop_in}
use Rattle.command_parts.specs.command_parts.OnHive.{EndsOnHive}
use Rattle.command_parts.specs.command_parts.Saves.{no_saves}
use Rattle.command_parts.proofs.AskLemmas.{asks_on}
use Rattle.command_parts.proofs.DecideLemmas.{found_decides, not_read}
use Rattle.find_command.specs.Answer.{question_on, question_by, question_in, asks_find}
use Rattle.find_command.proofs.EndLemmas.{seeks_obstacle, asks_obstacle}
use Rattle.find_command.proofs.command.find.Goals as goal

pub returns-in-Ok-clause-decides : goal.returns-in-Ok-clause-decides
returns-in-Ok-clause-decides g c =
    let old = g.H.Host.state c.args.host.now in
    let asked = find_seen c.args.words in
    found_decides (hive_in old.files asked.hive asked.log)
    (λ (w : Result HiveFiles Refusal) (s : Status) (o n : List ℕ). EndsOnHive (question_by c.args.form asked w) s o n) no_saves c.in-Ok.files
    (EndsOnHive (Ok (question_on c.args.form asked c.in-Ok.files))) c.find_in.result old (g.H.Host.state c.hive_in.new.host) (g.H.Host.state c.find_in.new.host)
    new_state (λ o n e. e) c.in-Ok.ensures.looks c.find_in.ensures

pub returns-in-Ok-clause-asked : goal.returns-in-Ok-clause-asked
returns-in-Ok-clause-asked g c =
    let old = g.H.Host.state c.args.host.now in
    let mid = g.H.Host.state c.hive_in.new.host in
    let new = g.H.Host.state c.find_in.new.host in
    let alone = c.find_in.ensures in
    λ tells. asks_on (asks_find (find_seen c.args.words) old.files) (stop_in c.find_in.result) old.gets mid.gets new.gets
    (λ e. alone.unread (not_read c.find_in.result e)) (c.in-Ok.ensures.asks tells) alone.unasked

pub returns-in-Ok-clause-kept : goal.returns-in-Ok-clause-kept
returns-in-Ok-clause-kept g c = c.find_in.ensures.kept

pub returns-in-Err-clause-decides : goal.returns-in-Err-clause-decides
returns-in-Err-clause-decides g c =
    let old = g.H.Host.state c.args.host.now in
    let asked = find_seen c.args.words in
    let wanted = hive_in old.files asked.hive asked.log in
    c.answer.ensures.decides (question_in c.args.form asked old.files) old
    (seeks_obstacle wanted (question_by c.args.form asked wanted) c.in-Err.obstacle old (g.H.Host.state c.hive_in.new.host)
    (λ r e. ap (question_by c.args.form asked) e) c.in-Err.ensures.looks)

pub returns-in-Err-clause-asked : goal.returns-in-Err-clause-asked
returns-in-Err-clause-asked g c =
    let old = g.H.Host.state c.args.host.now in
    let mid = g.H.Host.state c.hive_in.new.host in
    let n = asks_find (find_seen c.args.words) old.files in
    λ tells. c.answer.ensures.asked n old.gets
    (asks_obstacle HiveFiles n c.in-Err.obstacle old.gets mid.gets (c.in-Err.ensures.asks tells))
