use Rattle.std.proofs.Common.{◌-◌, ℕ, List, [], length, take, drop, get_or, Ok, refl, sym, ap, ◌∙◌}
use Rattle.std.proofs.lemmas.List.{append-nil}
use Rattle.hive_model.specs.Walk.{segments_checks}
use Rattle.hive_model.specs.Stands.{joined_segments}
use Rattle.hive_cells.specs.Sources.{cells_of}
use Rattle.hive_read.specs.Walked.{walk}
use Rattle.hive_read.proofs.Walks.{stopped, stops-on, none-left, first-and-rest}
use Rattle.hive_read.proofs.BigWalks.{segments-off, segments-on, segments-one}
use Rattle.hive_read.proofs.data.read_segments.Goals as goal

pub segments-init : goal.segments-init
segments-init c = rw c.new-bytes.ensures (record { told = refl; stand = λ more e. e })

pub returns-in_default : goal.returns-in_default
returns-in_default c =
    let cells = cells_of c.args.cells.now in
    let z = none-left c.segments.rest.now c.in_default.len_below in (
      sym c.segments.invariant.told ∙ ap (λ r. walk cells c.segments.used (segments_checks cells c.segments.left r)) z,
      c.segments.invariant.stand [] (ap (joined_segments cells c.segments.left) z)
          ∙ ap (λ (vs : List ℕ). Ok vs) (append-nil c.segments.bytes),
    )

pub returns-in_err-part : goal.returns-in_err-part
returns-in_err-part c =
    rw (stopped c.from_residual.result c.in_err-part.field-0.0 c.from_residual.ensures.1)
    (stops-on c.in_err-part.field-0.0 _ _ (λ f e. sym c.segments.invariant.told
    ∙ segments-off (cells_of c.args.cells.now) c.segments.used c.segments.left c.segments.rest.now f
    c.in-len1-up.len_at_least e) (rw c.min.ensures at c.in_err-part.ensures))

pub segments-preserved : goal.segments-preserved
segments-preserved c =
    let i = c.segments.invariant in
    let rest = c.segments.rest.now in
    let left = c.segments.left in
    let others = take (length rest - 1) (drop 1 rest) in
    let r = first-and-rest rest c.in-len1-up.len_at_least in
    let s = rw c.min.ensures at c.in_ok-part.ensures in
    rw (c.in_ok-append.ensures.ok, c.saturating_sub-left.ensures) (record {
      told = sym (segments-on (cells_of c.args.cells.now) c.segments.used c.use_front.new.used left rest (get_or rest 0 0) others r s.0)
          ∙ i.told;
      stand = segments-one (cells_of c.args.cells.now) left c.args.size rest others c.args.offsets.now (get_or rest 0 0)
          c.segments.bytes c.in_ok-part.part.now r s.1 i.stand;
    })
