use Rattle.std.proofs.Common.{sym, subst}
use Rattle.hive_store.specs.Session.{Session}
use Rattle.boot_run.specs.Kept.{current_set, AreRead}
use Rattle.boot_run.proofs.live.Live.keep.Goals as goal

pub invariant_of-self : goal.invariant_of-self
invariant_of-self c =
    let P : Session → Type 0 = λ s. AreRead (current_set s.tree) c.args.lists in
    record { current = subst P (sym c.self.view_is) c.requires; good = c.self.invariant.good }
