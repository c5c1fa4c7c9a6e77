use Rattle.std.proofs.Common.{◌≡◌, ℕ, List, true, false, ◌||◌, map, sym, ap, subst, ◌∙◌}
use Rattle.std.specs.List.{list_any}
use Rattle.std.specs.Ordering.{is_gt}
use Rattle.nt_bytes.specs.Folding.{folds_same, folded_order}
use Rattle.cell_forms.specs.declared.stored.StoredName.{StoredName}
use Rattle.cell_forms.specs.Views.{name_of}
use Rattle.hive_read.specs.Taken.{folded_name, folds_to, has_name}
use Rattle.hive_read.proofs.FewLemmas.{above-unknown, above-none, fresh-so, added-so, none-pushed, not-behind-itself, not-above, known-again, is-known}
use Rattle.hive_read.proofs.few.Few.add.Goals as goal
use Rattle.hive_read.proofs.few.Few.add.Goals.{Then-is_gt, Else-is_gt, After-has_same}

-- whether the name comes after the greatest
after : (c : Then-is_gt) → is_gt (folded_order (name_of c.args.name) (name_of c.self.inside.greatest)) ≡ true
after c = sym (ap is_gt c.compare_stored.ensures) ∙ sym c.is_gt.ensures ∙ c.if-is_gt.true

not_after : (c : Else-is_gt) → is_gt (folded_order (name_of c.args.name) (name_of c.self.inside.greatest)) ≡ false
not_after c = sym (ap is_gt c.compare_stored.ensures) ∙ sym c.is_gt.ensures ∙ c.if-is_gt.false

-- the search in the names answers whether the name is known
answered : (c : After-has_same)
    → has_name (map folded_name c.self.inside.names.items) (name_of c.args.name) ≡ c.has_same.result
answered c =
    is-known (name_of c.args.name) c.self.inside.names.items c.has_same.result
    (c.has_same.ensures
    ∙ ap (λ (xs : List StoredName). list_any (folds_to (name_of c.args.name)) (map folded_name xs))
    c.as_slice.ensures.value)

pub invariant_of-self-then-is_gt : goal.invariant_of-self-then-is_gt
invariant_of-self-then-is_gt c =
    let names = c.self.inside.names.items in
    let none = above-none (name_of c.self.inside.greatest) (name_of c.args.name) (map folded_name names)
    c.self.invariant (after (goal.at.invariant_of-self-then-is_gt c).Then-is_gt) in
    rw c.in_ok-push.ensures.items
    (none-pushed (name_of c.args.name) names c.args.name none (not-behind-itself c.args.name))

pub returns-then-is_gt-clause-fresh : goal.returns-then-is_gt-clause-fresh
returns-then-is_gt-clause-fresh c =
    fresh-so false (name_of c.args.name) (above-unknown (name_of c.self.inside.greatest) (name_of c.args.name)
    (map folded_name c.self.inside.names.items) c.self.invariant
    (after (goal.at.returns-then-is_gt-clause-fresh c).Then-is_gt)) c.self.view_is

pub returns-then-is_gt-clause-added : goal.returns-then-is_gt-clause-added
returns-then-is_gt-clause-added c =
    added-so c.self.inside.names.items _ c.args.name c.in_ok-push.ensures.items c.self.view_is

pub returns-then-has_same-clause-fresh : goal.returns-then-has_same-clause-fresh
returns-then-has_same-clause-fresh c =
    fresh-so true (name_of c.args.name)
    (answered (goal.at.returns-then-has_same-clause-fresh c).After-has_same ∙ c.if-has_same.true) c.self.view_is

pub returns-then-has_same-clause-added : goal.returns-then-has_same-clause-added
returns-then-has_same-clause-added c = λ n.
    let name = name_of c.args.name in
    subst (λ (ks : List (List ℕ)). has_name ks n ≡ (has_name ks n || folds_same n name)) c.self.view_is
    (known-again name n (map folded_name c.self.inside.names.items)
    (answered (goal.at.returns-then-has_same-clause-added c).After-has_same ∙ c.if-has_same.true))

pub invariant_of-self-2 : goal.invariant_of-self-2
invariant_of-self-2 c =
    let top = name_of c.self.inside.greatest in
    rw c.in_ok-push-2.ensures.items
    (none-pushed top c.self.inside.names.items c.args.name c.self.invariant
    (not-above top c.args.name (not_after (goal.at.invariant_of-self-2 c).Else-is_gt)))

pub returns-clause-fresh : goal.returns-clause-fresh
returns-clause-fresh c =
    fresh-so false (name_of c.args.name)
    (answered (goal.at.returns-clause-fresh c).After-has_same ∙ c.if-has_same.false) c.self.view_is

pub returns-clause-added : goal.returns-clause-added
returns-clause-added c =
    added-so c.self.inside.names.items _ c.args.name c.in_ok-push-2.ensures.items c.self.view_is
