use Rattle.std.proofs.Common.{◌≡◌, ◌/◌, ◌<◌, get_or, set, length, ap, sym, subst, ◌∙◌, arith}
use Rattle.std.proofs.lemmas.List.{length-set, get_or-set_same, set-set, set-get_or}
use Rattle.cell_tables.specs.free_index.Sizes.{AreTops}
use Rattle.cell_tables.proofs.TopLemmas.{lowered}
use Rattle.cell_tables.proofs.free_index.index.FreeIndex.lower.Goals as goal

pub number_at-top-requires : goal.number_at-top-requires
number_at-top-requires g c =
    omega (
      arith,
      c.requires.inside,
      c.requires.kept.whole,
      length-set (g.N.Numbers.numbers c.args.sizes.now) c.args.slot c.args.old,
    )

pub top_without-new-requires-clause-few : goal.top_without-new-requires-clause-few
top_without-new-requires-clause-few g c =
    omega (
      arith,
      c.requires.inside,
      c.requires.kept.whole,
      c.requires.kept.few,
      length-set (g.N.Numbers.numbers c.args.sizes.now) c.args.slot c.args.old,
    )

pub top_without-new-requires-clause-within : goal.top_without-new-requires-clause-within
top_without-new-requires-clause-within g c =
    omega (
      arith,
      c.requires.inside,
      c.requires.kept.whole,
      length-set (g.N.Numbers.numbers c.args.sizes.now) c.args.slot c.args.old,
    )

pub put-requires : goal.put-requires
put-requires g c =
    omega (
      arith,
      c.requires.inside,
      c.requires.kept.whole,
      length-set (g.N.Numbers.numbers c.args.sizes.now) c.args.slot c.args.old,
    )

pub returns : goal.returns
returns g c =
    let sizes = g.N.Numbers.numbers c.args.sizes.now in
    let was = set sizes c.args.slot c.args.old in
    let there : c.args.slot < length (set sizes c.args.slot c.args.old) =
    omega (arith, c.requires.inside, length-set sizes c.args.slot c.args.old) in
    let top : c.number_at-top.result ≡ get_or c.args.self.now (c.args.slot / 512) 0 = c.number_at-top.ensures in
    let is : sizes ≡ set was c.args.slot 0 =
    sym (set-set sizes c.args.slot c.args.old 0 ∙ ap (set sizes c.args.slot) (sym c.requires.gone)
    ∙ set-get_or sizes c.args.slot 0) in
    subst (AreTops sizes) (sym c.put.ensures)
    (lowered was c.args.self.now c.args.slot c.requires.kept there sizes c.args.old c.top_without-new.result
    (get_or-set_same sizes c.args.slot c.args.old 0 c.requires.inside) is
    (λ other. c.top_without-new.ensures.stays (λ e. other (sym top ∙ e)) ∙ top)
    (λ same. c.top_without-new.ensures.counted (top ∙ same)))
