-- The part of a set stands for the set.
use Rattle.std.proofs.Common.{◌≡◌, ℕ, List, [], ◌∷◌, ◌++◌, Option, Some, refl, ap, ◌∙◌, arith}
use Rattle.std.specs.Prelude.{find, option_and_then, codes}
use Rattle.std.specs.Option.{option_to_list}
use Rattle.hive_model.specs.Tree.{Tree, key, head, is_named, find_key}
use Rattle.hive_model.specs.Valid.{HoldsKeys}
use Rattle.start_model.specs.Order.{tag_lists}
use Rattle.reg_tree.proofs.Trees.{listed_trees}
use Rattle.set_commands.specs.hive_sets.Parts.{of_two, group_list, service_list, control_part, set_part}
use Rattle.set_commands.specs.hive_sets.Shows.{ShowsSet}
use Rattle.set_commands.proofs.NameLemmas.{one_name, is_child}
use Rattle.set_commands.proofs.TwoLemmas.{IsKeyName, AreTwo, found_first, found_second, two_hold}

-- what a path finds below one of two keys
first_below : (name a b : List ℕ) (first second : Option Tree) (path : List (List ℕ)) → AreTwo a b first second
    → find_key (a ∷ path) (of_two name first second) ≡ option_and_then (find_key path) first
first_below name a b first second path two =
    ap (λ ts. option_and_then (find_key path) (find (is_named a) ts))
    (listed_trees (option_to_list first ++ option_to_list second))
    ∙ ap (option_and_then (find_key path)) (found_first a b first second two)

second_below : (name a b : List ℕ) (first second : Option Tree) (path : List (List ℕ)) → AreTwo a b first second
    → find_key (b ∷ path) (of_two name first second) ≡ option_and_then (find_key path) second
second_below name a b first second path two =
    ap (λ ts. option_and_then (find_key path) (find (is_named b) ts))
    (listed_trees (option_to_list first ++ option_to_list second))
    ∙ ap (option_and_then (find_key path)) (found_second a b first second two)

-- ---- the key Control

lists : (set : Tree) → HoldsKeys set
    → AreTwo (codes "ServiceGroupOrder") (codes "GroupOrderList") (group_list set) (tag_lists set)
lists set held = record {
  one = is_child (codes "Control" ∷ []) (codes "ServiceGroupOrder") set held;
  other = is_child (codes "Control" ∷ []) (codes "GroupOrderList") set held;
  differ = λ e. absurd (omega (arith, e));
  some = omega arith;
  more = omega arith;
}

control_holds : (set : Tree) → HoldsKeys set → HoldsKeys (control_part set)
control_holds set held =
    two_hold (codes "Control") (codes "ServiceGroupOrder") (codes "GroupOrderList") (group_list set) (tag_lists set)
    (record { short = omega arith; no_backslash = refl }) (lists set held)

-- ---- the set

keys : (set : Tree) → HoldsKeys set → AreTwo (codes "Control") (codes "Services") (Some (control_part set)) (service_list set)
keys set held = record {
  one = (control_holds set held, refl);
  other = is_child [] (codes "Services") set held;
  differ = λ e. absurd (omega (arith, e));
  some = omega arith;
  more = omega arith;
}

pub its_name : (t : Tree) → HoldsKeys t → IsKeyName (head t).name
its_name (key h ts) held = record { short = held.0.name; no_backslash = held.0.no_backslash }

pub set_holds : (set : Tree) → HoldsKeys set → HoldsKeys (set_part set)
set_holds set held =
    two_hold (head set).name (codes "Control") (codes "Services") (Some (control_part set)) (service_list set) (its_name set held)
    (keys set held)

pub set_shown : (set : Tree) → HoldsKeys set → ShowsSet set (set_part set)
set_shown set held = record {
  services =
      second_below (head set).name (codes "Control") (codes "Services") (Some (control_part set)) (service_list set) []
      (keys set held)
      ∙ one_name (service_list set);
  groups =
      first_below (head set).name (codes "Control") (codes "Services") (Some (control_part set)) (service_list set)
      (codes "ServiceGroupOrder" ∷ []) (keys set held)
      ∙ first_below (codes "Control") (codes "ServiceGroupOrder") (codes "GroupOrderList") (group_list set) (tag_lists set) []
      (lists set held)
      ∙ one_name (group_list set);
  tags =
      first_below (head set).name (codes "Control") (codes "Services") (Some (control_part set)) (service_list set)
      (codes "GroupOrderList" ∷ []) (keys set held)
      ∙ second_below (codes "Control") (codes "ServiceGroupOrder") (codes "GroupOrderList") (group_list set) (tag_lists set) []
      (lists set held)
      ∙ one_name (tag_lists set);
}
