use Rattle.std.proofs.Common.{ℕ, ◌≤◌, length, sym, subst, Option, arith}
use Rattle.std.specs.Prelude.{IfSome}
use Rattle.std.specs.Option.{unwrap_or}
use Rattle.hive_store.specs.Session.{Session}
use Rattle.boot_phases.specs.boot_phases.Lists.{Lists}
use Rattle.start_model.specs.Entries.{services_of}
use Rattle.start_model.specs.Sets.{set_of}
use Rattle.start_model.specs.Starter.{no_set}
use Rattle.start_model.proofs.HeldLemmas.{services_few}
use Rattle.boot_run.specs.Begins.{IsTaken}
use Rattle.boot_run.specs.Kept.{current_set, AreRead}
use Rattle.boot_run.proofs.live.Live.most_services.Goals as goal

pub returns-in-Some : goal.returns-in-Some
returns-in-Some c =
    let tree = c.self.inside.hive.tree in
    let number = c.args.number in
    let P : Option Lists → Type 0 = λ o. IfSome o (AreRead (current_set tree)) in
    let Q : Session → Type 0 = λ s. IsTaken s.tree number in
    let R : ℕ → Type 0 = λ n. length (services_of (unwrap_or (set_of tree n) no_set)) ≤ 4294967295 in
    let S : Session → Type 0 = λ s. length (services_of (unwrap_or (set_of s.tree number) no_set)) ≤ 4294967295 in
    let read = subst P c.in-Some.is c.self.invariant.current in
    let few : length (services_of (current_set tree)) ≤ 4294967295 =
    omega (arith, services_few (current_set tree) read.held) in
    subst S c.self.view_is (subst R (subst Q (sym c.self.view_is) c.requires).current few)
