use Rattle.std.proofs.Common.{ℕ, List}
use Rattle.std.proofs.lemmas.Result.{err_from_is_err_and}
use Rattle.hive_model.specs.Lists.{numbers_in}
use Rattle.salvage_bins.specs.Ground.{ground_of}
use Rattle.nt_bytes.specs.declared.fault.ReadStop.TheVariants.{Fault}
use Rattle.salvage_walk.proofs.SegmentLemmas.{tries-joined, tries-unjoined}
use Rattle.salvage_walk.proofs.UseLemmas.{before-self}
use Rattle.salvage_walk.proofs.segments.try_segments.Goals as goal

pub returns-in_err-use_segments : goal.returns-in_err-use_segments
returns-in_err-use_segments c =
    let p = err_from_is_err_and c.from_residual.result c.from_residual.ensures.1 in
    rw (p.1, p.2) (tries-unjoined (λ (b : List ℕ). b) (ground_of c.args.cells.now) c.args.size
    (numbers_in 4 c.args.count c.args.entries.now) c.args.used.now c.use_segments.new.used
    c.in_err-use_segments.field-0.0 c.in_err-use_segments.ensures)

pub returns : goal.returns
returns c =
    tries-joined (λ (b : List ℕ). b) (ground_of c.args.cells.now) c.args.size
    (numbers_in 4 c.args.count c.args.entries.now) c.args.used.now c.use_segments.new.used
    c.in_ok-join_segments.field-0 c.in_ok-join_segments.ensures c.in_ok-use_segments.ensures

pub returns-in-Some : goal.returns-in-Some
returns-in-Some c =
    tries-unjoined (λ (b : List ℕ). b) (ground_of c.args.cells.now) c.args.size
    (numbers_in 4 c.args.count c.args.entries.now) c.args.used.now c.args.used.now (Fault c.in-Some.fault)
    (c.in-Some.ensures, before-self c.args.used.now)
