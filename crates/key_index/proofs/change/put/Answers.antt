use Rattle.std.proofs.Common.{◌≡◌, ℕ, List, length, sym, ap, subst, ◌∙◌, arith}
use Rattle.std.specs.Option.{IsSome}
use Rattle.hive_model.specs.Size.{list_size}
use Rattle.hive_model.specs.Packed.{list_cells}
use Rattle.hive_model.specs.Bins.{Cell, or_else}
use Rattle.hive_cells.specs.Held.{held_at, held_among}
use Rattle.hive_cells.specs.Holes.{IsHole}
use Rattle.hive_pack.proofs.Rows.{length_text, space_list}
use Rattle.key_index.proofs.Runs.{run_is, some_or, put_is, list_least, are_offsets}
use Rattle.key_index.proofs.change.put.Goals as goal

pub fill-requires-clause-hole : goal.fill-requires-clause-hole
fill-requires-clause-hole c =
    let ps = list_cells c.args.version c.args.at c.args.offsets.now c.args.hints.now in
    let long = ap length c.requires.run ∙ length_text ps
    ∙ space_list c.args.version c.args.at c.args.offsets.now c.args.hints.now c.requires.same c.requires.four in
    subst (λ (n : ℕ). IsHole n c.args.heap.now.bins c.args.at) (sym long) c.requires.hole

pub fill-requires-clause-run : goal.fill-requires-clause-run
fill-requires-clause-run c =
    let ps = list_cells c.args.version c.args.at c.args.offsets.now c.args.hints.now in
    let size = space_list c.args.version c.args.at c.args.offsets.now c.args.hints.now c.requires.same
    c.requires.four in
    let least = list_least (length c.args.offsets.now) c.requires.some in
    (run_is c.args.run.now ps c.requires.run (omega (arith, size, c.requires.room))
    (omega (arith, size, least, c.requires.some))).0

pub free_all-requires-clause-held : goal.free_all-requires-clause-held
free_all-requires-clause-held c =
    λ k d lt. subst IsSome (sym (c.fill.ensures.held _)) (some_or _ _ (c.requires.held k d lt))

pub returns-clause-put : goal.returns-clause-put
returns-clause-put c =
    let ps = list_cells c.args.version c.args.at c.args.offsets.now c.args.hints.now in
    let size = space_list c.args.version c.args.at c.args.offsets.now c.args.hints.now c.requires.same
    c.requires.four in
    let long : length c.args.run.now ≡ list_size (length c.args.offsets.now) =
    ap length c.requires.run ∙ length_text ps ∙ size in
    let least = list_least (length c.args.offsets.now) c.requires.some in
    let run = (run_is c.args.run.now ps c.requires.run (omega (arith, size, c.requires.room))
    (omega (arith, size, least, c.requires.some))).1 in
    put_is c.args.version c.args.gone.now c.args.offsets.now c.args.hints.now c.args.heap.now.bins c.fill.new.self.bins
    c.free_all.new.heap.bins c.args.at
    c.requires.held (are_offsets c.args.offsets.now c.offsets_fit.ensures)
    c.requires.some c.requires.same c.requires.four c.requires.room
    (λ o. c.fill.ensures.held o
    ∙ ap (λ (cs : List Cell). or_else (held_among o c.args.at cs) (held_at c.args.heap.now.bins o)) run)
    (λ o low high. c.fill.ensures.fresh o low (omega (arith, long, high)))
    c.fill.ensures.long c.free_all.ensures.gone c.free_all.ensures.others c.free_all.ensures.long
