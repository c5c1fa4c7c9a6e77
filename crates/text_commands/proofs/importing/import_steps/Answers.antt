use Rattle.std.proofs.Common.{map, ◌∙◌}
use Rattle.reg_tree.specs.Makes.{step_of}
use Rattle.command_parts.specs.command_parts.Views.{saves_seen}
use Rattle.text_commands.proofs.ImportLemmas.{finished_imports}
use Rattle.text_commands.proofs.importing.import_steps.Goals as goal

pub returns : goal.returns
returns g c =
    finished_imports c.args.files.now (saves_seen c.args.saves) c.args.how (map step_of c.args.steps)
    c.in-Ok.said c.as_slice.result.now c.finish.result
    (g.H.Host.state c.args.host.now) (g.H.Host.state c.finish.new.host) (g.B.Disk.state c.import_into.new.bench)
    (g.B.Disk.state c.finish.new.bench)
    c.in-Ok.ensures.changed c.in-Ok.ensures.off (c.as_slice.ensures.value ∙ c.in-Ok-said_lines.ensures) c.finish.ensures
