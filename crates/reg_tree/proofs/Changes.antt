-- A change along a path is one of a child, and keeps each key's name.
use Rattle.std.proofs.Common.{◌≡◌, List, ◌∷◌, ℕ, refl, sym, ap, ◌∙◌}
use Rattle.hive_model.specs.Tree.{Head, Tree, key, trees, is_named, is_item}
use Rattle.hive_model.specs.Edit.{at_first, at_key}
use Rattle.reg_tree.specs.Change.{change_of}
use Rattle.reg_tree.specs.declared.change.Change.{Change}
use Rattle.reg_tree.specs.declared.change.Change.TheVariants.{PutValue, DropValue, PutKey, DropKey}
use Rattle.hive_model.specs.Edit.{with_item, without_first}
use Rattle.reg_tree.proofs.Trees.{listed_trees}
use Rattle.reg_tree.proofs.Sound.{key_name}
use Rattle.reg_tree.proofs.Edited.{name_kept, with_key_name, of_items_name}

pub changed_along : (h : Head) (ts us : List Tree) (t : Tree) (name : List ℕ) (more path : List (List ℕ))
    (change : Tree → Tree)
    → key h (trees ts) ≡ t → path ≡ name ∷ more → us ≡ at_first (is_named name) (at_key more change) ts
    → key h (trees us) ≡ at_key path change t
changed_along h ts us t name more path change w p e =
    ap (λ (vs : List Tree). key h (trees vs))
    (e ∙ ap (at_first (is_named name) (at_key more change)) (sym (listed_trees ts)))
    ∙ ap (at_key (name ∷ more) change) w ∙ ap (λ (q : List (List ℕ)). at_key q change t) (sym p)

change_name : (c : Change) (t : Tree) → key_name (change_of c t) ≡ key_name t
change_name (PutValue name kind bytes) t = of_items_name (with_item name kind bytes) t
change_name (DropValue name) t = of_items_name (without_first (λ v. is_item name v)) t
change_name (PutKey name) t = with_key_name name t
change_name (DropKey name) (key h ts) = refl

pub named_still : (path : List (List ℕ)) (c : Change) (t : Tree) → key_name (at_key path (change_of c) t) ≡ key_name t
named_still path c t = name_kept path (change_of c) (change_name c) t
