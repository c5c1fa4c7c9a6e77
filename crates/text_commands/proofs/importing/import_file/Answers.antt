use Rattle.std.proofs.Common.{ℕ, List, ap, subst, ◌∙◌}
use Rattle.std.specs.Prelude.{Err}
use Rattle.command_parts.specs.declared.command_parts.refusal.Refusal.{Refusal}
use Rattle.command_parts.specs.declared.command_parts.refusal.Obstacle.{Obstacle}
use Rattle.command_parts.specs.declared.command_parts.refusal.Obstacle.TheVariants.{Refused}
use Rattle.command_parts.specs.command_parts.Inputs.{file_in}
use Rattle.command_parts.specs.command_parts.Leaves.{Looks}
use Rattle.command_parts.specs.command_parts.Views.{saves_seen}
use Rattle.text_commands.proofs.ImportLemmas.{found_file, absent_file}
use Rattle.text_commands.proofs.importing.import_file.Goals as goal

pub returns-in-Ok : goal.returns-in-Ok
returns-in-Ok g c =
    found_file c.args.files.now (saves_seen c.args.saves) c.args.how c.args.name.now c.in-Ok.text c.import_text.result
    (g.H.Host.state c.args.host.now)
    (g.H.Host.state c.file_in.new.host) (g.H.Host.state c.import_text.new.host) (g.B.Disk.state c.import_text.new.bench)
    c.requires.loads
    c.in-Ok.ensures.looks c.in-Ok.ensures.asks (rw c.as_slice.ensures at c.import_text.ensures)

pub returns-in-Err-Refused : goal.returns-in-Err-Refused
returns-in-Err-Refused g c =
    let old = g.H.Host.state c.args.host.now in
    let mid = g.H.Host.state c.file_in.new.host in
    let name : List ℕ = c.args.name.now in
    let looks = subst (λ (o : Obstacle). Looks {A = List ℕ} (file_in name (old.files name)) (Err o) old mid)
    c.in-Err-Refused.field-0-is c.in-Err-Refused.ensures.looks in
    absent_file c.args.files.now (saves_seen c.args.saves) c.args.how name c.in-Err-Refused.why c.refuse.result old mid
    (g.H.Host.state c.refuse.new.host)
    (g.B.Disk.state c.args.bench.now)
    c.requires.loads c.requires.fresh looks c.in-Err-Refused.ensures.asks c.refuse.ensures.unasked
    (λ e. c.in-Err-Refused.ensures.kept
    (ap (λ (o : Obstacle). Err o) (c.in-Err-Refused.field-0-is ∙ ap (λ (w : Refusal). Refused w) e)))
    (rw c.in-Err-Refused.why-is at c.refuse.ensures.leaves) c.refuse.ensures.files
    (rw c.in-Err-Refused.why-is at c.refuse.ensures.kept)
