-- The lines of a part of a tree.
use Rattle.std.proofs.Common.{◌≡◌, ◌+◌, ◌-◌, ℕ, zero, suc, eqb, Bool, true, false, cond, ◌&&◌, not, List, [], ◌∷◌, ◌++◌, map, refl, sym, ap, ◌∙◌, add-one, arith}
use Rattle.std.specs.Prelude.{Option, Some, None, find}
use Rattle.std.specs.Option.{is_some, option_map_or}
use Rattle.std.proofs.lemmas.Bool.{ne_eqb}
use Rattle.nt_bytes.specs.Folding.{folds_same}
use Rattle.nt_names.proofs.FoldLemmas.{alike}
use Rattle.hive_model.specs.Tree.{Head, Tree, Trees, key, none, more, listed, head, children, is_named, find_key}
use Rattle.hive_model.specs.Edit.{has_child}
use Rattle.start_model.specs.Sets.{select_numbers_of, set_name, is_usable}
use Rattle.key_command.specs.hive_levels.Cut.{each, cut, changed, along}
use Rattle.key_command.proofs.AlongLemmas.{cut_name, along_name, along_child, along_key}
use Rattle.key_text.specs.Lines.{KeyLine}
use Rattle.key_text.specs.Blocks.{title_line, head_lines, subkey_line, block_lines, key_lines, keys_lines}
use Rattle.key_text.specs.Found.{current, means_current, default_path, true_path, spelled, found_lines, path_lines, lines_of}
use Rattle.key_command.specs.key_cells.Ways.{IsTruePath}

-- ---- levels

subkeys_each : (f : Tree → Tree) → ((t : Tree) → (head (f t)).name ≡ (head t).name) → (ts : Trees)
    → map subkey_line (listed (each f ts)) ≡ map subkey_line (listed ts)
subkeys_each f keeps none = refl
subkeys_each f keeps (more t ts) = rw (keeps t, subkeys_each f keeps ts) refl

block_each : (security : Bool) (path : List (List ℕ)) (h : Head) (f : Tree → Tree)
    → ((t : Tree) → (head (f t)).name ≡ (head t).name) → (ts : Trees)
    → block_lines security path h (listed (each f ts)) ≡ block_lines security path h (listed ts)
block_each security path h f keeps ts =
    ap (λ (ls : List KeyLine). title_line path h.name ∷ head_lines security h ++ ls) (subkeys_each f keeps ts)

-- the lines of children are those of the children cut, where those of each are
keys_each : (security : Bool) (depth : ℕ) (f : Tree → Tree) → ((t : Tree) → (head (f t)).name ≡ (head t).name)
    → ((path : List (List ℕ)) (t : Tree) → key_lines security depth path (f t) ≡ key_lines security depth path t)
    → (path : List (List ℕ)) (ts : Trees)
    → keys_lines security depth path (each f ts) ≡ keys_lines security depth path ts
keys_each security depth f keeps one path none = refl
keys_each security depth f keeps one path (more t ts) =
    ap (λ (n : List ℕ). key_lines security depth (path ++ n ∷ []) (f t) ++ keys_lines security depth path (each f ts)) (keeps t)
    ∙ ap (λ (ls : List KeyLine). ls ++ keys_lines security depth path (each f ts)) (one (path ++ (head t).name ∷ []) t)
    ∙ ap (λ (ls : List KeyLine). key_lines security depth (path ++ (head t).name ∷ []) t ++ ls)
    (keys_each security depth f keeps one path ts)

cut_lines_by : (depth : ℕ) (security : Bool) (path : List (List ℕ)) (t : Tree)
    → key_lines security depth path (cut (suc depth) t) ≡ key_lines security depth path t
cut_lines_by zero security path (key h ts) =
    ap (λ (ls : List KeyLine). ls ++ []) (block_each security path h (cut zero) (cut_name zero) ts)
cut_lines_by (suc d) security path (key h ts) =
    let less : suc d - 1 ≡ d = omega arith in
    let some : eqb (suc d) 0 ≡ false = ne_eqb (suc d) 0 (λ e. omega arith) in
    let f = cut (suc d) in
    let below = keys_each security d f (cut_name (suc d)) (λ p u. cut_lines_by d security p u) path ts in
    rw (some, less)
    (ap (λ (ls : List KeyLine). ls ++ keys_lines security d path (each f ts)) (block_each security path h f (cut_name (suc d)) ts)
    ∙ ap (λ (ls : List KeyLine). block_lines security path h (listed ts) ++ ls) below)

pub cut_lines : (security : Bool) (depth : ℕ) (path : List (List ℕ)) (t : Tree)
    → key_lines security depth path (cut (depth + 1) t) ≡ key_lines security depth path t
cut_lines security depth path t = rw add-one (cut_lines_by depth security path t)

-- ---- a path

end_spelled : (path : List (List ℕ)) (n : ℕ) → ((c : Tree) → spelled path (along path n c) ≡ spelled path c)
    → (o : Option Tree)
    → option_map_or (λ (c : Tree). (head c).name ∷ spelled path c) (changed (along path n) o) []
    ≡ option_map_or (λ (c : Tree). (head c).name ∷ spelled path c) o []
end_spelled path n further None = refl
end_spelled path n further (Some c) = rw (along_name path n c, further c) refl

pub along_spelled : (path : List (List ℕ)) (n : ℕ) (t : Tree) → spelled path (along path n t) ≡ spelled path t
along_spelled [] n t = refl
along_spelled (name ∷ path) n t =
    ap (λ (o : Option Tree). option_map_or (λ (c : Tree). (head c).name ∷ spelled path c) o []) (along_child name path n t)
    ∙ end_spelled path n (λ c. along_spelled path n c) (find (is_named name) (children t))

-- children of a name are those of one that folds alike
named_alike : (a b : List ℕ) → folds_same a b ≡ true → (ts : List Tree) → find (is_named a) ts ≡ find (is_named b) ts
named_alike a b e [] = refl
named_alike a b e (t ∷ ts) =
    ap (λ (c : Bool). cond c (Some t) (find (is_named a) ts)) (alike a b e (head t).name)
    ∙ ap (λ (o : Option Tree). cond (is_named b t) (Some t) o) (named_alike a b e ts)

some_changed : (f : Tree → Tree) (o : Option Tree) → is_some (changed f o) ≡ is_some o
some_changed f None = refl
some_changed f (Some t) = refl

-- the root has a child on the way as it had it
pub along_has : (name : List ℕ) (path : List (List ℕ)) (n : ℕ) (t : Tree)
    → has_child name (along (name ∷ path) n t) ≡ has_child name t
along_has name path n t =
    ap (λ (o : Option Tree). is_some o) (along_child name path n t)
    ∙ some_changed (along path n) (find (is_named name) (children t))

-- a first name means the same on the way
means_along : (name : List ℕ) (path : List (List ℕ)) (n : ℕ) (t : Tree)
    → means_current (along (name ∷ path) n t) name ≡ means_current t name
means_along name path n t = by_test (folds_same current name) refl
  where
    by_test : (b : Bool) → folds_same current name ≡ b
        → (b && not (has_child current (along (name ∷ path) n t))) ≡ (b && not (has_child current t))
    by_test false e = refl
    by_test true e =
        let there : has_child current (along (name ∷ path) n t) ≡ has_child current t =
        ap (λ (o : Option Tree). is_some o) (named_alike current name e (children (along (name ∷ path) n t)))
        ∙ along_has name path n t
        ∙ ap (λ (o : Option Tree). is_some o) (sym (named_alike current name e (children t))) in
        ap (λ (b : Bool). not b) there

-- ---- the true path

pub true_itself : (t : Tree) (way : List (List ℕ)) → IsTruePath t way → true_path t way ≡ Some way
unfolding true_path
true_itself t [] e = refl
true_itself t (name ∷ rest) e = rw e refl

pub true_along : (way : List (List ℕ)) (n : ℕ) (t : Tree) → IsTruePath t way → IsTruePath (along way n t) way
true_along [] n t e = tt
true_along (name ∷ rest) n t e = means_along name rest n t ∙ e

through_set : (t : Tree) (rest way : List (List ℕ)) (number : ℕ) (b : Bool)
    → cond b (Some (set_name number ∷ rest)) None ≡ Some way → IsTruePath t way
through_set t rest [] number true e = tt
through_set t rest (name ∷ way) number true e = (let same : set_name number ≡ name = cc in rw (sym same) refl)
through_set t rest way number false e = absurd cc

pub true_way : (t : Tree) (path way : List (List ℕ)) → true_path t path ≡ Some way → IsTruePath t way
unfolding true_path
true_way t [] way e = (let same : [] ≡ way = cc in rw (sym same) tt)
true_way t (name ∷ rest) way e = by_test (means_current t name) refl e
  where
    by_test : (b : Bool) → means_current t name ≡ b → cond b (default_path t rest) (Some (name ∷ rest)) ≡ Some way
        → IsTruePath t way
    by_test true is e =
        through_set t rest way (select_numbers_of t).default (is_usable t (select_numbers_of t).default) e
    by_test false is e = (let same : name ∷ rest ≡ way = cc in rw (sym same) is)

-- ---- the lines at a path

found_cut : (security : Bool) (depth : ℕ) (path : List (List ℕ)) (o : Option Tree)
    → found_lines security depth path (changed (cut (depth + 1)) o) ≡ found_lines security depth path o
found_cut security depth path None = refl
found_cut security depth path (Some t) = rw (cut_lines security depth path t) refl

pub way_lines : (t : Tree) (way : List (List ℕ)) (depth : ℕ) (security : Bool) → IsTruePath t way
    → lines_of (along way (depth + 1) t) way depth security ≡ path_lines security depth t (Some way)
way_lines t way depth security is =
    let part = along way (depth + 1) t in
    ap (path_lines security depth part) (true_itself part way (true_along way (depth + 1) t is))
    ∙ ap (λ (p : List (List ℕ)). found_lines security depth p (find_key way part)) (along_spelled way (depth + 1) t)
    ∙ ap (found_lines security depth (spelled way t)) (along_key way (depth + 1) t)
    ∙ found_cut security depth (spelled way t) (find_key way t)

pub same_lines : (t : Tree) (path way : List (List ℕ)) (depth : ℕ) (security : Bool) → true_path t path ≡ Some way
    → lines_of (along way (depth + 1) t) way depth security ≡ lines_of t path depth security
same_lines t path way depth security e =
    way_lines t way depth security (true_way t path way e) ∙ sym (ap (path_lines security depth t) e)
