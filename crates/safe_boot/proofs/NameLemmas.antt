-- Names of a list, and what they leave of the services.
use Rattle.std.proofs.Common.{◌≡◌, ℕ, Bool, true, false, ◌||◌, List, [], ◌∷◌, map, Option, Some, None, refl, sym, ap, ◌∙◌}
use Rattle.std.specs.Prelude.{position}
use Rattle.std.specs.List.{list_any}
use Rattle.std.specs.Option.{is_some, option_map_or}
use Rattle.nt_bytes.specs.Folding.{folds_same}
use Rattle.hive_model.specs.Tree.{Tree, head, is_named}
use Rattle.boot_phases.proofs.TriedLemmas.{some_place}
use Rattle.safe_boot.specs.Listed.{has_name, is_among}

-- ---- a name that has a place is there

pub has_place : (names : List (List ℕ)) (name : List ℕ)
    → is_some (position (folds_same name) names) ≡ has_name names name
has_place names name = some_place (folds_same name) names

-- ---- the keys of a list, and their names

pub any_named : (name : List ℕ) (ts : List Tree)
    → list_any (is_named name) ts ≡ has_name (map (λ t. (head t).name) ts) name
any_named name [] = refl
any_named name (t ∷ ts) = ap (λ b. folds_same name (head t).name || b) (any_named name ts)

any_group : (group : Option (List ℕ)) (ts : List Tree)
    → option_map_or (λ name. list_any (is_named name) ts) group false
    ≡ option_map_or (has_name (map (λ t. (head t).name) ts)) group false
any_group None ts = refl
any_group (Some name) ts = any_named name ts

listed_by : (ts : List Tree) (name : List ℕ) (group : Option (List ℕ))
    → (list_any (is_named name) ts || option_map_or (λ name. list_any (is_named name) ts) group false)
    ≡ is_among (map (λ t. (head t).name) ts) name group
listed_by ts name group = λ i. any_named name ts i || any_group group ts i

pub listed_as : (b : Bool) (ks ts : List Tree) (n name : List ℕ) (g group : Option (List ℕ))
    → b ≡ (list_any (is_named n) ks || option_map_or (λ name. list_any (is_named name) ks) g false)
    → ks ≡ ts → n ≡ name → g ≡ group → b ≡ is_among (map (λ t. (head t).name) ts) name group
listed_as b ks ts n name g group is k m h =
    is ∙ listed_by ks n g ∙ (λ i. is_among (map (λ t. (head t).name) (k i)) (m i) (h i))

-- ---- one test, or else another

pub or_then : (r a b : Bool) → r ≡ a → r ≡ true → r ≡ (a || b)
or_then r a b e t = t ∙ sym (ap (λ x. x || b) (sym e ∙ t))

pub or_else : (r s a b : Bool) → r ≡ a → r ≡ false → s ≡ b → s ≡ (a || b)
or_else r s a b e f g = g ∙ sym (ap (λ x. x || b) (sym e ∙ f))
