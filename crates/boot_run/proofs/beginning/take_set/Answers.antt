use Rattle.std.proofs.Common.{◌∙◌, sym, rules}
use Rattle.run_parts.proofs.ChainLemmas.{still_leaves}
use Rattle.boot_run.specs.Agrees.{LoadsAny}
use Rattle.boot_run.proofs.PlayLemmas.{plays-as, plays-err, plays-on, live_left, turns}
use Rattle.boot_run.proofs.beginning.take_set.Goals as goal

pub end_start-requires : goal.end_start-requires
end_start-requires g c = record
    { left = still_leaves (g.B.Disk.state c.args.bench.now) LoadsAny c.requires.up.still c.requires.up.loads }

pub returns-in_err-found : goal.returns-in_err-found
returns-in_err-found g c = turns (search rules) (search rules) (λ m tells counts live.
    plays-err c.from_residual.ensures.0
    (c.in_err-found.ensures.plays m (g.B.Disk.state c.args.bench.now) tells c.requires.up live))

pub returns-in-Ok : goal.returns-in-Ok
returns-in-Ok g c = turns (search rules) (search rules) (λ m tells counts live.
    plays-on (c.in_ok-found.ensures.plays m (g.B.Disk.state c.args.bench.now) tells c.requires.up live) (λ rest k.
    let h = rw c.in-Ok.is at k in
    plays-as (sym h) (c.begin_by.ensures.plays m (c.in_ok-found.ensures.host.keeps.tells ∙ tells)
    (record { machine = counts.machine; starts = counts.starts }) live)))

pub returns-in-Err : goal.returns-in-Err
returns-in-Err g c = turns (search rules) (search rules) (λ m tells counts live.
    plays-on (c.in_ok-found.ensures.plays m (g.B.Disk.state c.args.bench.now) tells c.requires.up live) (λ rest k.
    let h = rw c.in-Err.is at k in
    plays-as (sym h.0) (c.end_start.ensures.plays m (c.in_ok-found.ensures.host.keeps.tells ∙ tells)
    (record { machine = counts.machine; starts = counts.starts }) (live_left c.requires.up live) h.1)))
