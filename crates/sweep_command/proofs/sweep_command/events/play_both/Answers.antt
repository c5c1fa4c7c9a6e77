use Rattle.std.proofs.Common.{refl}
use Rattle.boot_script.specs.boot_script.Script.{HasCounts}
use Rattle.boot_run.specs.Choices.{choices}
use Rattle.boot_script.specs.sweep_script.Sweep.{IsUnordered}
use Rattle.sweep_command.proofs.EventLemmas.{all_before, all_given, both}
use Rattle.sweep_command.proofs.sweep_command.events.play_both.Goals as goal

pub play_probed-requires-clause-counts : goal.play_probed-requires-clause-counts
play_probed-requires-clause-counts c =
    all_before HasCounts c.args.script c.into_vec.result.items c.into_vec.ensures c.requires.counts

pub play_probed-requires-clause-unordered : goal.play_probed-requires-clause-unordered
play_probed-requires-clause-unordered c =
    all_before IsUnordered c.args.script c.into_vec.result.items c.into_vec.ensures c.requires.unordered

pub play_probed-requires-2-clause-counts : goal.play_probed-requires-2-clause-counts
play_probed-requires-2-clause-counts c =
    all_given HasCounts c.args.script c.into_vec.result.items c.in_ok-first.events.items c.push.new.self.items
    c.into_vec.ensures c.in_ok-first.ensures.0 c.in_ok-push.ensures.items c.requires.counts

pub play_probed-requires-2-clause-unordered : goal.play_probed-requires-2-clause-unordered
play_probed-requires-2-clause-unordered c =
    all_given IsUnordered c.args.script c.into_vec.result.items c.in_ok-first.events.items c.push.new.self.items
    c.into_vec.ensures c.in_ok-first.ensures.0 c.in_ok-push.ensures.items c.requires.unordered

pub returns : goal.returns
returns c =
    both (choices c.args.ini.now c.args.system.now) c.args.hive.now c.args.script c.into_vec.result.items c.in_ok-first.events.items
    c.push.new.self.items c.in_ok-second.field-0-1.items c.args.script.event c.in_ok-first.first c.in_ok-second.second
    c.into_vec.ensures c.in_ok-first.ensures c.in_ok-push.ensures.items refl c.in_ok-second.ensures
