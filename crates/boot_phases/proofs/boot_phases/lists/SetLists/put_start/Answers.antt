use Rattle.std.proofs.Common.{◌≡◌, length, ap, arith}
use Rattle.boot_phases.specs.service_entries.Started.{with_start_at}
use Rattle.boot_phases.proofs.StartedLemmas.{length_start_at}
use Rattle.boot_phases.proofs.boot_phases.lists.SetLists.put_start.Goals as goal

pub invariant_of-self : goal.invariant_of-self
invariant_of-self c =
    let table = c.self.inside.table in
    let count : length c.put_start.new.self ≡ length (with_start_at table c.args.place c.args.start) =
    ap length c.put_start.ensures.after in
    omega (arith, c.self.invariant, count, length_start_at table c.args.place c.args.start)
