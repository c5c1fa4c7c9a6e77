use Rattle.std.proofs.Common.{ℕ, sym, subst, ◌∙◌}
use Rattle.std.specs.Option.{IsSome}
use Rattle.hive_model.specs.Size.{data_size}
use Rattle.hive_edit.specs.Runs.{IsPlace, IsRunPutAt}
use Rattle.hive_edit.proofs.GiveLemmas.{IsRunOf, data_run, run_of, put_cells, put_stays, room_stays, some_of, given_run}
use Rattle.hive_edit.proofs.give.give_at.Goals as goal
use Rattle.hive_edit.proofs.give.give_at.Goals.{After-as_slice, In_ok-put_run}

run : (c : After-as_slice) → IsRunOf c.args.version c.args.place c.args.bytes.now c.as_slice.result.now
run c =
    run_of c.args.version c.args.place c.args.bytes.now c.as_slice.result.now c.requires.some c.requires.place.inside
    (c.as_slice.ensures ∙ c.in_ok-run.ensures)

put : (c : In_ok-put_run) → IsRunPutAt (data_size c.args.version c.args.bytes.now) c.args.place
    (data_run c.args.version c.args.place c.args.bytes.now) c.args.heap.now.bins c.put_run.new.heap.bins
put c =
    put_cells c.args.version c.args.place c.args.bytes.now c.as_slice.result.now _ _
    (run (goal.at.In_ok-put_run c).After-as_slice) c.in_ok-put_run.ensures.put

pub put_run-requires-clause-place : goal.put_run-requires-clause-place
put_run-requires-clause-place c =
    subst (λ (n : ℕ). IsPlace n c.args.heap.now.bins c.args.place)
    (sym (run (goal.at.put_run-requires-clause-place c).After-as_slice).long) c.requires.place

pub put_run-requires-clause-run : goal.put_run-requires-clause-run
put_run-requires-clause-run c = (run (goal.at.put_run-requires-clause-run c).After-as_slice).sound

pub refer-requires-clause-room : goal.refer-requires-clause-room
refer-requires-clause-room c =
    room_stays c.args.heap.now.bins c.put_run.new.heap.bins c.args.at
    (put_stays c.args.version c.args.place c.args.bytes.now _ _ (put (goal.at.refer-requires-clause-room c).In_ok-put_run)
    c.args.at (some_of _ _ c.requires.room)) c.requires.room

pub refer-requires-clause-held : goal.refer-requires-clause-held
refer-requires-clause-held c = λ k d lt.
    subst IsSome (sym (put_stays c.args.version c.args.place c.args.bytes.now _ _
    (put (goal.at.refer-requires-clause-held c).In_ok-put_run) _ (c.requires.held k d lt))) (c.requires.held k d lt)

pub returns-clause-given : goal.returns-clause-given
returns-clause-given c =
    given_run c.args.version c.args.at c.args.kind c.args.place c.args.bytes.now c.args.gone.now c.args.heap.now.bins
    c.put_run.new.heap.bins c.refer.new.heap.bins c.requires.some c.requires.few c.requires.place.inside
    (put (goal.at.returns-clause-given c).In_ok-put_run) (some_of _ _ c.requires.room) c.requires.held
    (rw c.fields_of-fields.ensures at c.refer.ensures.here) c.refer.ensures.freed c.refer.ensures.others
    c.refer.ensures.long
