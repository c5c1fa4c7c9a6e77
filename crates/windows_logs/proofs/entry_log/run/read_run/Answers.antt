use Rattle.std.proofs.Common.{◌≡◌, ◌+◌, ◌-◌, ◌*◌, ◌/◌, length, Some, None, arith, sym, ap, ◌∙◌}
use Rattle.windows_logs.specs.declared.entry_log.entry.Entry.{Entry}
use Rattle.windows_logs.specs.declared.entry_log.entry.Found.TheVariants.{NoEntry, Broken, Whole}
use Rattle.windows_logs.specs.entry_log.Runs.{run_from}
use Rattle.windows_logs.proofs.Going.{after, after_none, after_more, found_whole, run_step, no_more}
use Rattle.windows_logs.proofs.Steps.{known}
use Rattle.windows_logs.proofs.entry_log.run.read_run.Goals as goal

pub returns-in-NoEntry : goal.returns-in-NoEntry
returns-in-NoEntry c =
    let n = length c.args.log.now / 512 in
    sym (c.loop-done.invariant.same
    ∙ ap (after c.loop-done.entries) (run_step c.args.log.now c.loop-done.sector (n - c.loop-done.done) (n - (c.loop-done.done + 1))
    c.loop-done.before NoEntry (omega arith) c.in-NoEntry.ensures)
    ∙ after_none c.loop-done.entries None)

pub returns-in-Broken : goal.returns-in-Broken
returns-in-Broken c =
    let n = length c.args.log.now / 512 in
    sym (c.loop-done.invariant.same
    ∙ ap (after c.loop-done.entries) (run_step c.args.log.now c.loop-done.sector (n - c.loop-done.done) (n - (c.loop-done.done + 1))
    c.loop-done.before (Broken c.in-Broken.kind) (omega arith) c.in-Broken.ensures)
    ∙ after_none c.loop-done.entries (Some (record { kind = c.in-Broken.kind; at = 512 * c.loop-done.sector })))

pub loop-done-preserved : goal.loop-done-preserved
loop-done-preserved c =
    let log = c.args.log.now in
    let n = length log / 512 in
    let entry = c.in-Whole.entry in
    let found = found_whole log c.loop-done.sector c.loop-done.before entry (sym c.in-Whole.ensures) in
    let know = known log entry found.whole in
    let here : entry.sector ≡ c.loop-done.sector = ap (λ (e : Entry). e.sector) found.there in
    let rest = run_from (n - (c.loop-done.done + 1)) log (c.loop-done.sector + entry.length / 512) (Some entry.number) in
    record {
      inside = omega (arith, know.inside, know.steps, here);
      same =
          c.loop-done.invariant.same
          ∙ ap (after c.loop-done.entries) (run_step log c.loop-done.sector (n - c.loop-done.done) (n - (c.loop-done.done + 1))
          c.loop-done.before (Whole entry) (omega arith) c.in-Whole.ensures)
          ∙ after_more c.loop-done.entries entry rest
          ∙ ap (λ es. after es rest) (sym c.in_ok-push-in-Whole.ensures.ok);
    }

pub returns : goal.returns
returns c =
    sym (c.loop-done.invariant.same
    ∙ ap (after c.loop-done.entries) (no_more c.args.log.now c.loop-done.sector _ c.loop-done.before (omega arith))
    ∙ after_none c.loop-done.entries None)
