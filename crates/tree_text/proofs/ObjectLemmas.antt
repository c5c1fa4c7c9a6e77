-- A text to which objects are put.
use Rattle.std.proofs.Common.{◌≡◌, ℕ, ◌+◌, ◌<◌, List, [], ◌∷◌, ◌++◌, map, take, length, get_or, sym, ap, ◌∙◌, append_assoc, append-nil}
use Rattle.std.proofs.lemmas.Grind.{flat_map-append}
use Rattle.std.proofs.lemmas.List.{map-append, take_more}
use Rattle.std.specs.Prelude.{Result, Ok, Err, OnOk}
use Rattle.hive_model.specs.Tree.{Item, Head, Tree, key, trees}
use Rattle.tree_text.specs.TreeObjects.{TreeLine, KeyLine, ValueLine, line_json, lines_json, value_lines, level_below, key_lines, keys_lines}

-- lines after others
pub lines_then : (t : List ℕ) (ks ls : List TreeLine) → (t ++ lines_json ks) ++ lines_json ls ≡ t ++ lines_json (ks ++ ls)
lines_then t ks ls = append_assoc t (lines_json ks) (lines_json ls)
    ∙ ap (λ x. t ++ x) (sym (flat_map-append line_json ks ls))

last_line : (t : List ℕ) (l : TreeLine) → t ++ line_json l ≡ t ++ lines_json (l ∷ [])
last_line t l = ap (λ x. t ++ x) (sym (append-nil (line_json l)))

-- one more value of a key
pub more_values : (level : ℕ) (values : List Item) (i : ℕ) (value : Item) (t t1 t2 : List ℕ)
    → i < length values → value ≡ get_or values i value
    → t2 ≡ t1 ++ line_json (ValueLine level value)
    → t1 ≡ t ++ lines_json (value_lines level (take i values))
    → t2 ≡ t ++ lines_json (value_lines level (take (i + 1) values))
unfolding value_lines
more_values level values i value t t1 t2 lt is more so_far =
    let front = map (ValueLine level) (take i values) in
    let all : map (ValueLine level) (take (i + 1) values) ≡ front ++ ValueLine level value ∷ [] =
    ap (map (ValueLine level)) (take_more values i value lt ∙ ap (λ y. take i values ++ y ∷ []) (sym is))
    ∙ map-append (ValueLine level) (take i values) (value ∷ []) in
    more ∙ ap (λ y. y ++ line_json (ValueLine level value)) so_far
    ∙ last_line (t ++ lines_json front) (ValueLine level value)
    ∙ lines_then t front (ValueLine level value ∷ [])
    ∙ ap (λ ls. t ++ lines_json ls) (sym all)

-- a key, its values and what is below it
pub key_parts : {E : Type 0} (r : Result (Unit {0}) E) (level below : ℕ) (h : Head) (children : List Tree) (k : Tree)
    (name : List ℕ) (values : List Item) (keys : List Tree) (t t1 t2 t3 : List ℕ)
    → key h (trees children) ≡ k → name ≡ h.name → values ≡ h.values → keys ≡ children → below ≡ level_below level
    → t1 ≡ t ++ line_json (KeyLine level name) → t2 ≡ t1 ++ lines_json (value_lines level values)
    → OnOk r (t3 ≡ t2 ++ lines_json (keys_lines below (trees keys)))
    → OnOk r (t3 ≡ t ++ lines_json (key_lines level k))
key_parts (Ok u) level below h children k name values keys t t1 t2 t3 is named has are deeper one two three =
    let first = KeyLine level h.name in
    let own = value_lines level h.values in
    let under = keys_lines (level_below level) (trees children) in
    three ∙ (λ i. t2 ++ lines_json (keys_lines (deeper i) (trees (are i))))
    ∙ ap (λ (x : List ℕ). x ++ lines_json under) (two ∙ (λ i. one i ++ lines_json (value_lines level (has i)))
    ∙ ap (λ (n : List ℕ). (t ++ line_json (KeyLine level n)) ++ lines_json own) named
    ∙ ap (λ (x : List ℕ). x ++ lines_json own) (last_line t first) ∙ lines_then t (first ∷ []) own)
    ∙ lines_then t (first ∷ own) under ∙ ap (λ (x : Tree). t ++ lines_json (key_lines level x)) is
key_parts (Err e) level below h children k name values keys t t1 t2 t3 is named has are deeper one two three = tt
