-- The part of a hive's tree stands for the tree.
use Rattle.std.proofs.Common.{◌≡◌, ℕ, ◌<◌, Bool, true, false, cond, List, [], ◌∷◌, length, map, Option, Some, None, refl, sym, ap, subst, ◌∙◌, arith}
use Rattle.std.specs.Prelude.{find, option_map, option_and_then, ◌&&◌, ◌||◌, nat_le, codes, Contains}
use Rattle.std.specs.Option.{is_some}
use Rattle.std.proofs.lemmas.Bool.{and_right}
use Rattle.std.proofs.lemmas.List.{length-map}
use Rattle.std.proofs.lemmas.List.Folds.{list_any_at}
use Rattle.nt_bytes.specs.Folding.{folds_same}
use Rattle.hive_model.specs.Tree.{Tree, Trees, key, none, more, listed, children, is_named, find_key}
use Rattle.hive_model.specs.Valid.{HoldsKeys, AllHoldKeys}
use Rattle.hive_model.proofs.HeldLemmas.{held_child}
use Rattle.start_model.specs.Sets.{set_name, set_of, numbers_in}
use Rattle.select_keys.specs.Sets.{usable_set}
use Rattle.edited_cells.proofs.Ins.{found_in}
use Rattle.reg_tree.proofs.Trees.{listed_trees}
use Rattle.reg_tree.proofs.Unlike.{Each, each_from, unlike_from}
use Rattle.set_commands.specs.hive_sets.Parts.{bare, set_part, is_set, is_wanted, child_part, hive_part}
use Rattle.set_commands.specs.hive_sets.Shows.{ShowsFound, ShowsHive}
use Rattle.set_commands.proofs.NameLemmas.{name_of, apart, one_name, find_map, each_map, unlike_map}
use Rattle.set_commands.proofs.TwoLemmas.{IsHeld, bare_holds}
use Rattle.set_commands.proofs.SetLemmas.{its_name, set_holds, set_shown}

-- ---- a child of the root

pub child_name : (numbers : List ℕ) (t : Tree) → name_of (child_part numbers t) ≡ name_of t
child_name numbers t = by (is_wanted numbers (name_of t)) (folds_same (codes "Select") (name_of t))
  where
    by : (a b : Bool) → name_of (cond a (set_part t) (cond b t (bare (name_of t) []))) ≡ name_of t
    by true b = refl
    by false true = refl
    by false false = refl

child_holds : (numbers : List ℕ) (t : Tree) → HoldsKeys t → HoldsKeys (child_part numbers t)
child_holds numbers t held = by (is_wanted numbers (name_of t)) (folds_same (codes "Select") (name_of t))
  where
    by : (a b : Bool) → HoldsKeys (cond a (set_part t) (cond b t (bare (name_of t) [])))
    by true b = set_holds t held
    by false true = held
    by false false = bare_holds (name_of t) [] (its_name t held) (omega arith) tt tt

-- ---- the root

held_children : (ts : Trees) → AllHoldKeys ts → Each (λ t. 0 < length (name_of t)) (listed ts) → Each IsHeld (listed ts)
held_children none h some = tt
held_children (more t ts) h some = ((h.0, some.0), held_children ts h.1 some.1)

pub part_holds : (numbers : List ℕ) (tree : Tree) → HoldsKeys tree → HoldsKeys (hive_part numbers tree)
part_holds numbers (key h ts) held =
    bare_holds [] (map (child_part numbers) (listed ts)) (record { short = omega arith; no_backslash = refl })
    (omega (arith, length-map (listed ts) (child_part numbers), held.0.key_count))
    (each_map IsHeld IsHeld (child_part numbers)
    (λ t is. (child_holds numbers t is.0, subst (λ (n : List ℕ). 0 < length n) (sym (child_name numbers t)) is.1)) (listed ts)
    (held_children ts held.1 (each_from (λ t. 0 < length (name_of t)) (listed ts) held.0.keys_named)))
    (unlike_map (child_part numbers) (child_name numbers) (listed ts) (unlike_from name_of (listed ts) held.0.keys_differ))

-- what is found of a name is the part of what is found in the tree
found_part : (numbers : List ℕ) (tree : Tree) (name : List ℕ)
    → find (is_named name) (children (hive_part numbers tree))
    ≡ option_map (child_part numbers) (find (is_named name) (children tree))
found_part numbers tree name =
    ap (find (is_named name)) (listed_trees (map (child_part numbers) (children tree)))
    ∙ find_map (child_part numbers) (child_name numbers) name (children tree)

key_part : (numbers : List ℕ) (tree : Tree) (name : List ℕ)
    → find_key (name ∷ []) (hive_part numbers tree) ≡ option_map (child_part numbers) (find_key (name ∷ []) tree)
key_part numbers tree name =
    one_name (find (is_named name) (children (hive_part numbers tree))) ∙ found_part numbers tree name
    ∙ ap (option_map (child_part numbers)) (sym (one_name (find (is_named name) (children tree))))

-- ---- Select

no_set : (numbers : List ℕ) (name : List ℕ) → folds_same (codes "Select") name ≡ true → is_wanted numbers name ≡ false
no_set [] name select = refl
no_set (n ∷ ns) name select =
    ap (λ b. b || is_wanted ns name)
    (and_right (nat_le n 999) _ (apart (codes "Select") (set_name n) name (λ e. absurd (omega (arith, e))) select))
    ∙ no_set ns name select

select_part : (numbers : List ℕ) (t : Tree) → is_named (codes "Select") t ≡ true → child_part numbers t ≡ t
select_part numbers t select =
    ap (λ b. cond b (set_part t) (cond (folds_same (codes "Select") (name_of t)) t (bare (name_of t) [])))
    (no_set numbers (name_of t) select)
    ∙ ap (λ b. cond b t (bare (name_of t) [])) select

select_shown : (numbers : List ℕ) (tree : Tree)
    → find_key (codes "Select" ∷ []) (hive_part numbers tree) ≡ find_key (codes "Select" ∷ []) tree
select_shown numbers tree =
    one_name (find (is_named (codes "Select")) (children (hive_part numbers tree)))
    ∙ found_part numbers tree (codes "Select")
    ∙ by (find (is_named (codes "Select")) (children tree)) refl
    ∙ sym (one_name (find (is_named (codes "Select")) (children tree)))
  where
    by : (o : Option Tree) → find (is_named (codes "Select")) (children tree) ≡ o → option_map (child_part numbers) o ≡ o
    by None e = refl
    by (Some t) e = ap Some (select_part numbers t (found_in (is_named (codes "Select")) (children tree) t e).1)

-- ---- the sets

there : (f : Tree → Tree) (o : Option Tree) → is_some (option_map f o) ≡ is_some o
there f None = refl
there f (Some t) = refl

usable_part : (numbers : List ℕ) (tree : Tree) (n : ℕ)
    → usable_set (hive_part numbers tree) n ≡ option_map (child_part numbers) (usable_set tree n)
usable_part numbers tree n =
    ap (λ o. cond (nat_le 1 n && nat_le n 999 && is_some o) o None) (key_part numbers tree (set_name n))
    ∙ by (nat_le 1 n) (nat_le n 999) (set_of tree n)
  where
    by : (a b : Bool) (o : Option Tree)
        → cond (a && b && is_some (option_map (child_part numbers) o)) (option_map (child_part numbers) o) None
        ≡ option_map (child_part numbers) (cond (a && b && is_some o) o None)
    by true true None = refl
    by true true (Some t) = refl
    by true false o = refl
    by false b o = refl

usable_found : (tree : Tree) (n : ℕ) (set : Tree) → usable_set tree n ≡ Some set
    → (nat_le n 999 ≡ true) × (find (is_named (set_name n)) (children tree) ≡ Some set)
usable_found tree n set =
    by (nat_le 1 n) (nat_le n 999) (find (is_named (set_name n)) (children tree))
  where
    by : (a b : Bool) (o : Option Tree)
        → cond (a && b && is_some (option_and_then (find_key []) o)) (option_and_then (find_key []) o) None ≡ Some set
        → (b ≡ true) × (o ≡ Some set)
    by true true (Some t) e = (refl, e)
    by true true None e = absurd cc
    by true false o e = absurd cc
    by false b o e = absurd cc

wanted : (numbers : List ℕ) (n : ℕ) (name : List ℕ) → Contains numbers n → nat_le n 999 ≡ true
    → folds_same (set_name n) name ≡ true → is_wanted numbers name ≡ true
wanted numbers n name listed low named =
    list_any_at (is_set name) numbers listed.0 n listed.1 (ap (is_set name) listed.2 ∙ ap (λ b. b && folds_same (set_name n) name) low ∙ named)

sets_shown : (numbers : List ℕ) (tree : Tree) → HoldsKeys tree → (n : ℕ) → Contains numbers n
    → ShowsFound (usable_set tree n) (usable_set (hive_part numbers tree) n)
sets_shown numbers tree held n listed =
    subst (ShowsFound (usable_set tree n)) (sym (usable_part numbers tree n)) (by (usable_set tree n) refl)
  where
    by : (o : Option Tree) → usable_set tree n ≡ o → ShowsFound o (option_map (child_part numbers) o)
    by None e = tt
    by (Some set) e =
        let found = usable_found tree n set e in
        let named = (found_in (is_named (set_name n)) (children tree) set found.1).1 in
        subst (λ (p : Tree). ShowsFound (Some set) (Some p))
        (sym (ap (λ b. cond b (set_part set) (cond (folds_same (codes "Select") (name_of set)) set (bare (name_of set) [])))
        (wanted numbers n (name_of set) listed found.0 named)))
        (set_shown set (held_child (set_name n) tree set held found.1))

-- ---- the whole

pub part_shows : (numbers : List ℕ) (tree : Tree) → HoldsKeys tree → ShowsHive numbers tree (hive_part numbers tree)
part_shows numbers tree held = record {
  holds = part_holds numbers tree held;
  select = ap numbers_in (select_shown numbers tree);
  named = λ name.
      ap is_some (found_part numbers tree name) ∙ there (child_part numbers) (find (is_named name) (children tree));
  usable = λ n. ap is_some (usable_part numbers tree n) ∙ there (child_part numbers) (usable_set tree n);
  sets = sets_shown numbers tree held;
}
