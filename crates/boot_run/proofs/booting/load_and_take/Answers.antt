use Rattle.std.proofs.Common.{◌∙◌, Option, None, sym, subst, rules}
use Rattle.hive_store.specs.Session.{Session}
use Rattle.start_model.specs.Boot.{take_set, loaded_state}
use Rattle.boot_run.specs.Agrees.{LoadsUp}
use Rattle.boot_run.proofs.PlayLemmas.{plays-as, plays-err, plays-ok, plays-on, turn_left, turns}
use Rattle.boot_run.proofs.BeginLemmas.{stays_take, load_same, load_off}
use Rattle.boot_run.proofs.booting.load_and_take.Goals as goal

pub take_set-requires-clause-up : goal.take_set-requires-clause-up
take_set-requires-clause-up g c =
    let P : Option Session → Type 0 =
    λ o. LoadsUp c.args.runner.now c.load.new.runner (g.B.Disk.state c.load.new.bench) o in
    (subst P c.in-Some.is c.in_ok-left.ensures.sound).0

pub take_set-requires-clause-off : goal.take_set-requires-clause-off
take_set-requires-clause-off g c =
    load_off c.args.runner.now c.load.new.runner (g.B.Disk.state c.load.new.bench)
    c.in_ok-left.left c.requires.off c.in_ok-left.ensures.sound

pub returns-in_err-left : goal.returns-in_err-left
returns-in_err-left g c = turns (search rules) (search rules) (λ m tells counts left.
    plays-as (load_same c.args.on_good m) (plays-err c.from_residual.ensures.0
    (c.in_err-left.ensures.plays m (take_set c.args.on_good) tells counts left (stays_take c.args.on_good))))

pub returns-in-Some : goal.returns-in-Some
returns-in-Some g c = turns (search rules) (search rules) (λ m tells counts left.
    plays-as (load_same c.args.on_good m) (plays-on
    (c.in_ok-left.ensures.plays m (take_set c.args.on_good) tells counts left (stays_take c.args.on_good)) (λ rest k.
    let h = rw c.in-Some.is at k in
    plays-as (sym h.1.0) (c.take_set.ensures.plays (loaded_state m h.0)
    (c.in_ok-left.ensures.host.keeps.tells ∙ tells) h.1.1.0 h.1.1.1))))

pub returns-in-None : goal.returns-in-None
returns-in-None g c = turns (search rules) (search rules) (λ m tells counts left.
    plays-as (load_same c.args.on_good m) (plays-ok
    (c.in_ok-left.ensures.plays m (take_set c.args.on_good) tells counts left (stays_take c.args.on_good)) (λ rest k.
    let h = rw c.in-None.is at k in turn_left None h.1)))
