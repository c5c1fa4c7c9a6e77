use Rattle.std.proofs.Common.{◌≡◌, ℕ, List, ap, sym, subst, ◌∙◌, arith, length}
use Rattle.std.specs.List.{insert, position_or_len}
use Rattle.hive_model.specs.Tree.{Tree}
use Rattle.hive_model.specs.Edit.{placed}
use Rattle.reg_tree.specs.Places.{folds_greater}
use Rattle.reg_tree.specs.Rising.{AreRising}
use Rattle.reg_tree.proofs.Halving.{first_within, placed_first, rising_insert}
use Rattle.reg_tree.proofs.Sound.{key_name}
use Rattle.reg_tree.proofs.key.Keys.insert.Goals as goal

pub insert-requires : goal.insert-requires
insert-requires c = omega (
  arith,
  c.gap-at.ensures,
  first_within (folds_greater c.name.result.now) c.as_slice.result.now,
  ap length c.as_slice.ensures.value,
)

pub invariant_of-self-2 : goal.invariant_of-self-2
invariant_of-self-2 c =
    let keys = c.self.inside.items.items in
    let new = c.args.key in
    let at : c.gap-at.result ≡ position_or_len (folds_greater (key_name new)) keys =
    c.gap-at.ensures ∙ ap (λ (n : List ℕ). position_or_len (folds_greater n) c.as_slice.result.now) c.name.ensures
    ∙ ap (λ (ts : List Tree). position_or_len (folds_greater (key_name new)) ts) c.as_slice.ensures.value in
    λ rising. rw c.in_ok-insert.ensures.items
    (subst (λ (n : ℕ). AreRising (insert keys n new)) (sym at)
    (rising_insert key_name keys new (c.self.invariant rising)))

pub returns : goal.returns
returns c =
    let keys = c.self.inside.items.items in
    let new = c.args.key in
    let at : c.gap-at.result ≡ position_or_len (folds_greater (key_name new)) keys =
    c.gap-at.ensures ∙ ap (λ (n : List ℕ). position_or_len (folds_greater n) c.as_slice.result.now) c.name.ensures
    ∙ ap (λ (ts : List Tree). position_or_len (folds_greater (key_name new)) ts) c.as_slice.ensures.value in
    c.in_ok-insert.ensures.items ∙ ap (λ (n : ℕ). insert keys n new) at ∙ sym (placed_first new keys)
    ∙ ap (placed new) c.self.view_is
