-- What becomes of the key that a path leads to, or why is that refused? (the edits of `hive_model`, said of one key)
use Rattle.std.specs.Prelude.{ℕ, not, nat_lt, List, [], ◌∷◌, ◌++◌, length, find, Result, Ok, Err}
use Rattle.std.specs.Option.{is_some, option_map_or}
use Rattle.hive_model.specs.Tree.{Tree, key, trees, listed, is_named, is_item, find_item}
use Rattle.hive_model.specs.Valid.{longest_value_name, longest_data}
use Rattle.hive_model.specs.Edit.{Refusal, no_key, no_value, name_too_long, too_deep, data_too_long, unless, at_first, without_first, of_items, of_children, with_item, with_key, has_child, name_tests}
use Rattle.tree_draft.specs.declared.change.Change.{Change}
use Rattle.tree_draft.specs.declared.change.Change.TheVariants.{PutValue, DropValue, PutKey, DropKey}

-- the key after the change
abbrev pub changed_here : Change → Tree → Result Tree Refusal
changed_here (PutValue name kind bytes) t = unless
    ((nat_lt longest_value_name (length name), name_too_long)
    ∷ (nat_lt longest_data (length bytes), data_too_long)
    ∷ [])
    (of_items (with_item name kind bytes) t)
changed_here (DropValue name) t = unless
    ((not (is_some (find_item name t)), no_value) ∷ [])
    (of_items (without_first (is_item name)) t)
changed_here (PutKey name deep) t = unless
    (name_tests name ++ (deep, too_deep) ∷ [])
    (with_key name t)
changed_here (DropKey name) t = unless
    ((not (has_child name t), no_key) ∷ [])
    (of_children (without_first (is_named name)) t)

-- what is made of a result, unless that is refused
abbrev pub then_be : {A B : Type 0} → (A → B) → Result A Refusal → Result B Refusal
then_be f (Ok x) = Ok (f x)
then_be f (Err e) = Err e

-- the keys with the first of this name changed
abbrev pub changed_among : List ℕ → (Tree → Result Tree Refusal) → List Tree → Result (List Tree) Refusal
changed_among name change ts = option_map_or
    (λ k. then_be (λ u. at_first (is_named name) (λ _. u) ts) (change k))
    (find (is_named name) ts)
    (Err no_key)

-- the tree with the key changed that the path leads to
abbrev pub changed_at : List (List ℕ) → (Tree → Result Tree Refusal) → Tree → Result Tree Refusal
changed_at [] change t = change t
changed_at (name ∷ path) change (key h ts) =
    then_be (λ us. key h (trees us)) (changed_among name (changed_at path change) (listed ts))
