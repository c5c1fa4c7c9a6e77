use Rattle.std.proofs.Common.{List, sym, ◌∙◌, subst}
use Rattle.log_replay.specs.declared.reading.GivenLog.{GivenLog}
use Rattle.log_replay.specs.Reading.{AreWholeLogs}
use Rattle.log_replay.proofs.Wholes.{given_whole}
use Rattle.log_replay.proofs.replaying.of_base.Goals as goal

pub dirty-requires-clause-whole : goal.dirty-requires-clause-whole
dirty-requires-clause-whole c =
    let P : List GivenLog → Type 0 = AreWholeLogs in
    subst P (sym (c.as_slice.ensures ∙ c.in_ok-logs.ensures)) (given_whole c.args.hive.now _ c.args.files)
