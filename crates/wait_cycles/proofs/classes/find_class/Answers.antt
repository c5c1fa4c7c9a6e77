use Rattle.std.proofs.Common.{ℕ, ◌+◌, List, length, set, subst}
use Rattle.wait_cycles.specs.Classes.{which, IsWalked, AddsClass}
use Rattle.wait_cycles.proofs.InverseLemmas.{on_ok}
use Rattle.wait_cycles.proofs.ClassLemmas.{edges_back, before_unused, classes_unused, adds_class}
use Rattle.wait_cycles.proofs.classes.find_class.Goals as goal

pub walk-requires-clause-edges : goal.walk-requires-clause-edges
walk-requires-clause-edges c = edges_back c.args.rows.now c.args.back.now c.requires.back

pub walk-requires-clause-unused : goal.walk-requires-clause-unused
walk-requires-clause-unused c =
    before_unused c.args.rows.now c.args.back.now c.args.before.now.items c.args.classes.now.items c.args.root
    c.requires.edges c.requires.back c.requires.classes c.requires.root c.requires.open

pub walk-requires-2-clause-unused : goal.walk-requires-2-clause-unused
walk-requires-2-clause-unused c =
    classes_unused c.args.rows.now c.args.back.now c.args.before.now.items c.args.classes.now.items c.args.root
    c.requires.edges c.requires.back c.requires.classes c.requires.root c.requires.open

pub returns : goal.returns
returns c =
    let rows = c.args.rows.now in
    let back = c.args.back.now in
    let root = c.args.root in
    let old = c.args.classes.now.items in
    let open' = set old root (length rows + 1) in
    let before' = c.walk.new.numbers.items in
    let classes' = c.walk-2.new.numbers.items in
    on_ok c.walk-2.result (IsWalked rows root (which root c.as_slice-2.result.now) open' classes')
    (AddsClass rows root old before' classes')
    (λ found. adds_class rows back c.args.before.now.items old root c.requires.edges c.requires.back c.requires.classes
    c.requires.root c.requires.open before' classes'
    (subst (λ (xs : List ℕ). IsWalked back root (which (length rows) xs) c.args.before.now.items before')
    c.as_slice.ensures.value c.in_ok-walk.ensures)
    (subst (λ (xs : List ℕ). IsWalked rows root (which root xs) open' classes') c.as_slice-2.ensures.value found))
    c.walk-2.ensures
