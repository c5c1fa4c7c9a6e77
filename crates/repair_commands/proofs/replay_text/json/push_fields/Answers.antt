use Rattle.std.proofs.Common.{◌≡◌, ◌++◌, sym, subst}
use Rattle.std.specs.Prelude.{OnOk}
use Rattle.report_text.specs.line_text.Objects.{fields_text}
use Rattle.log_replay.specs.declared.line.ReplayLine.{ReplayLine}
use Rattle.repair_commands.specs.replay_text.Lines.{fields_of}
use Rattle.repair_commands.proofs.replay_text.json.push_fields.Goals as goal

pub returns-in-OtherStamp : goal.returns-in-OtherStamp
returns-in-OtherStamp c =
    let P : ReplayLine → Type 0 = λ x. OnOk c.push_other.result (c.push_other.new.out.items ≡ c.args.out.now.items ++ fields_text (fields_of x)) in
    subst P (sym c.in-OtherStamp.is) c.push_other.ensures
