use Rattle.std.proofs.Common.{◌-◌, ℕ, List, [], map, length, take, drop, get_or, Ok, refl, sym, ap, subst, ◌∙◌}
use Rattle.std.proofs.lemmas.List.{append-nil, map_push}
use Rattle.hive_cells.specs.Sources.{cells_of}
use Rattle.hive_model.specs.Tree.{Item}
use Rattle.hive_model.specs.Walk.{values_in_turn}
use Rattle.hive_model.specs.Stands.{items_at}
use Rattle.hive_read.specs.Taken.{Knows}
use Rattle.hive_read.specs.Walked.{walk}
use Rattle.hive_read.proofs.TakenLemmas.{knows-none, knows-more}
use Rattle.hive_read.proofs.Walks.{stopped, stops-on, none-left, first-and-rest}
use Rattle.hive_read.proofs.ValueWalks.{values-off, values-on, items-one}
use Rattle.hive_read.proofs.value.read_in_turn.Goals as goal

pub returns-in_default : goal.returns-in_default
returns-in_default c =
    let cells = cells_of c.args.cells.now in
    let z = none-left c.values.rest.now c.in_default.len_below in (
      sym c.values.invariant.told ∙ ap (λ r. walk cells c.values.used
          (values_in_turn cells (map (λ (v : Item). v.name) c.values.values) r)) z,
      c.values.invariant.stand [] (ap (items_at cells) z) ∙ ap (λ (vs : List Item). Ok vs) (append-nil c.values.values),
    )

pub returns-in_err-value : goal.returns-in_err-value
returns-in_err-value c =
    rw (stopped c.from_residual.result c.in_err-value.field-0.0 c.from_residual.ensures.1)
    (stops-on c.in_err-value.field-0.0 _ _ (λ f e. sym c.values.invariant.told
    ∙ values-off (cells_of c.args.cells.now) c.values.used (map (λ (v : Item). v.name) c.values.values)
    c.values.rest.now f c.in-len1-up.len_at_least e)
    (c.in_err-value.ensures.walked (map (λ (v : Item). v.name) c.values.values) c.values.invariant.knows))

pub values-preserved : goal.values-preserved
values-preserved c =
    let i = c.values.invariant in
    let rest = c.values.rest.now in
    let r = first-and-rest rest c.in-len1-up.len_at_least in
    let s = c.in_ok-value.ensures.walked (map (λ (v : Item). v.name) c.values.values) i.knows in
    rw c.in_ok-push.ensures.ok (record {
      told = sym (values-on (cells_of c.args.cells.now) c.values.used c.read_value.new.used c.values.values rest (get_or rest 0 0)
          (take (length rest - 1) (drop 1 rest)) c.in_ok-value.value r s.0 s.1) ∙ i.told;
      stand = items-one (cells_of c.args.cells.now) rest (take (length rest - 1) (drop 1 rest)) c.args.offsets.now (get_or rest 0 0)
          c.values.values c.in_ok-value.value r s.1 i.stand;
      knows =
          subst (λ (ns : List (List ℕ)). Knows c.read_value.new.taken ns)
          (sym (map_push (λ (v : Item). v.name) c.values.values c.in_ok-value.value))
          (knows-more c.values.taken c.read_value.new.taken (map (λ (v : Item). v.name) c.values.values)
          c.in_ok-value.value.name i.knows c.in_ok-value.ensures.known);
    })

pub values-init : goal.values-init
values-init c = rw c.new-values.ensures
    (record { told = refl; stand = λ more e. e; knows = knows-none c.new-taken.result c.new-taken.ensures })
