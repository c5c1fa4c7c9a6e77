use Rattle.std.proofs.Common.{codes}
use Rattle.std.specs.Option.{option_map}
use Rattle.boot_ini.specs.boot_ini.Ini.{timeout_text, default_path, entries_in}
use Rattle.boot_ini.proofs.IniLemmas.{value_step, entry_step}
use Rattle.boot_ini.proofs.boot_ini.reading.all_lines.Goals as goal

pub loop-rest-preserved : goal.loop-rest-preserved
loop-rest-preserved c =
    let old = c.loop-rest.draft in
    let new = c.take.new.self in
    let kept = c.loop-rest.invariant in
    let took = c.in_ok-take.ensures in
    let text = c.args.text.now in
    let rest = c.loop-rest.rest.now in
    let line = c.first_line.result.0.now in
    let after = c.first_line.result.1.now in
    record {
      timeout = value_step (option_map (λ x. x.now) old.timeout) (option_map (λ x. x.now) new.timeout) (codes "timeout")
          old.section new.section rest line after (timeout_text text)
          c.first_line.ensures.first took.splits took.timeout kept.timeout;
      default = value_step (option_map (λ x. x.now) old.default) (option_map (λ x. x.now) new.default) (codes "default")
          old.section new.section rest line after (default_path text)
          c.first_line.ensures.first took.splits took.default kept.default;
      entries = entry_step old.entries new.entries old.section new.section rest line after (entries_in text)
          c.first_line.ensures.first took.splits took.entries kept.entries;
      few = took.few;
    }
