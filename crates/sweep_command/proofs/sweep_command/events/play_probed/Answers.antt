use Rattle.std.proofs.Common.{◌∙◌}
use Rattle.boot_script.specs.boot_script.Script.{HasCounts}
use Rattle.boot_run.specs.Choices.{choices}
use Rattle.boot_script.specs.sweep_script.Sweep.{IsUnordered}
use Rattle.sweep_command.proofs.EventLemmas.{all_probed, order_none, given_back, played_probed}
use Rattle.sweep_command.proofs.sweep_command.events.play_probed.Goals as goal

pub play-requires-clause-counts : goal.play-requires-clause-counts
play-requires-clause-counts c =
    all_probed HasCounts c.args.events.items c.as_slice.result.now c.in_ok-probe.field-0
    (c.as_slice.ensures.value ∙ c.in_ok-push.ensures.items) c.in_ok-probe.ensures c.requires.counts tt

pub play-requires-clause-unordered : goal.play-requires-clause-unordered
play-requires-clause-unordered c =
    order_none c.as_slice.result.now
    (all_probed IsUnordered c.args.events.items c.as_slice.result.now c.in_ok-probe.field-0
    (c.as_slice.ensures.value ∙ c.in_ok-push.ensures.items) c.in_ok-probe.ensures c.requires.unordered tt)

pub returns : goal.returns
returns c = (
  given_back c.args.events.items c.push.new.self.items c.truncate.new.self.items c.len-count.result c.in_ok-probe.field-0
      (c.len-count.ensures ∙ c.args.events.ok.0) c.in_ok-push.ensures.items c.truncate.ensures.items,
  played_probed (choices c.args.ini.now c.args.system.now) c.args.hive.now c.args.events.items c.as_slice.result.now
      c.in_ok-probe.field-0 c.in_ok-played.played
      (c.as_slice.ensures.value ∙ c.in_ok-push.ensures.items) c.in_ok-probe.ensures c.in_ok-played.ensures,
)
