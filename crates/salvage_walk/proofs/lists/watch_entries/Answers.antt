use Rattle.std.proofs.Common.{sym, arith}
use Rattle.salvage_walk.proofs.RememberedLemmas.{watch-on}
use Rattle.salvage_walk.proofs.lists.watch_entries.Goals as goal

pub entries-preserved-in_ok-insert : goal.entries-preserved-in_ok-insert
entries-preserved-in_ok-insert c =
    let i = c.entries.invariant in
    let few = i.few in
    let r = watch-on c.args.used.now c.args.list.now c.args.watches.now c.entries.watches c.insert.new.self c.args.at c.entries.number
    c.entries.least c.key_of.result c.in-Some.claim (omega (arith, c.entries-test.true)) c.key_of.ensures (omega (arith, c.ranges.at.fits))
    (sym c.in-Some.ensures) c.if-is_clear.ensures c.in_ok-insert.ensures.updates.0 i.clear i.watched i.others in
    record {
      clear = r.0;
      watched = r.1;
      others = r.2;
      few = omega (arith, few);
      least = i.least;
    }

pub returns-clause-clear : goal.returns-clause-clear
returns-clause-clear c = λ i s l e. c.entries.invariant.clear i s (omega (arith, c.entries-test.false)) l e
