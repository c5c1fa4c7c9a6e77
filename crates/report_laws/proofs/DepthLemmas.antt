-- Texts of different depths, by how many keys they name and how many they have a block of.
use Rattle.std.proofs.Common.{◌≡◌, ℕ, ◌+◌, ◌-◌, ◌≤◌, ◌&&◌, not, Bool, true, false, cond, eqb, List, [], ◌∷◌, ◌++◌, map, refl, sym, ap, ◌∙◌, arith}
use Rattle.std.specs.List.{list_all}
use Rattle.std.proofs.lemmas.Bool.{and_parts, false≢true}
use Rattle.std.proofs.lemmas.Bool.Decides.{nat_tests}
use Rattle.hive_model.specs.Tree.{Head, Tree, Trees, key, none, more, head, listed}
use Rattle.hive_model.specs.Valid.{levels, most_levels}
use Rattle.key_text.specs.Lines.{KeyLine, RootLine, KeyAtLine, SubkeyLine}
use Rattle.key_text.specs.Blocks.{title_line, head_lines, subkey_line, block_lines, key_lines, keys_lines}
use Rattle.report_laws.proofs.TreeLemmas.{Accepts, head_all, some_level}

abbrev Lines : Type 0
Lines = List KeyLine

-- ---- a depth past the last level

no_keys : (security : Bool) (depth : ℕ) (path : List (List ℕ)) (ts : Trees) → most_levels ts ≤ 0
    → keys_lines security depth path ts ≡ []
no_keys security depth path none le = refl
no_keys security depth path (more t ts) le = absurd (omega (arith, some_level t))

deeper_by : (b c : Bool) (depth deep : ℕ) (ks ls : Lines) → eqb depth 0 ≡ b → eqb deep 0 ≡ c → depth ≤ deep
    → (depth ≡ 0 → ks ≡ []) → (1 ≤ depth → ks ≡ ls) → cond c [] ks ≡ cond b [] ls
deeper_by true true depth deep ks ls e f le nothing further = refl
deeper_by true false depth deep ks ls e f le nothing further = nothing (grind (arith, nat_tests))
deeper_by false true depth deep ks ls e f le nothing further =
    absurd (let some : 1 ≤ depth = grind (arith, nat_tests) in let no : deep ≡ 0 = grind (arith, nat_tests) in omega arith)
deeper_by false false depth deep ks ls e f le nothing further = further (grind (arith, nat_tests))

mutual
  pub deeper : (security : Bool) (depth deep : ℕ) (path : List (List ℕ)) (t : Tree) → depth ≤ deep → levels t ≤ depth + 1
      → key_lines security deep path t ≡ key_lines security depth path t
  deeper security depth deep path (key h ts) le few =
      ap (λ (ls : Lines). block_lines security path h (listed ts) ++ ls)
      (deeper_by (eqb depth 0) (eqb deep 0) depth deep (keys_lines security (deep - 1) path ts)
      (keys_lines security (depth - 1) path ts) refl refl le
      (λ none_below. no_keys security (deep - 1) path ts (omega arith))
      (λ some. all_deeper security (depth - 1) (deep - 1) path ts (omega arith) (omega arith)))

  all_deeper : (security : Bool) (depth deep : ℕ) (path : List (List ℕ)) (ts : Trees) → depth ≤ deep
      → most_levels ts ≤ depth + 1 → keys_lines security deep path ts ≡ keys_lines security depth path ts
  all_deeper security depth deep path none le few = refl
  all_deeper security depth deep path (more t ts) le few =
      let first = deeper security depth deep (path ++ (head t).name ∷ []) t le (omega arith) in
      let others = all_deeper security depth deep path ts le (omega arith) in
      (λ i. first i ++ others i)

-- ---- blocks and names, counted

abbrev is_title : KeyLine → Bool
is_title (RootLine name) = true
is_title (KeyAtLine path) = true
is_title other = false

abbrev is_subkey : KeyLine → Bool
is_subkey (SubkeyLine name) = true
is_subkey other = false

abbrev is_head : KeyLine → Bool
is_head l = not (is_title l) && not (is_subkey l)

one_if : Bool → ℕ
one_if true = 1
one_if false = 0

abbrev count : (KeyLine → Bool) → Lines → ℕ
count p [] = 0
count p (l ∷ ls) = one_if (p l) + count p ls

count-append : (p : KeyLine → Bool) (a b : Lines) → count p (a ++ b) ≡ count p a + count p b
count-append p [] b = omega arith
count-append p (l ∷ a) b = let further = count-append p a b in omega arith

head_accepts : Accepts is_head
head_accepts = record {
  stamp = λ n. refl;
  flags = λ n. refl;
  class = λ u. refl;
  class_bytes = λ b. refl;
  security = λ b. refl;
  item = λ v. refl;
}

neither : (a b : Bool) → (not a && not b) ≡ true → (one_if a ≡ 0) × (one_if b ≡ 0)
unfolding one_if
neither true b e = absurd (false≢true e)
neither false true e = absurd (false≢true e)
neither false false e = (refl, refl)

none_counted : (ls : Lines) → list_all is_head ls ≡ true → (count is_title ls ≡ 0) × (count is_subkey ls ≡ 0)
none_counted [] all = (refl, refl)
none_counted (l ∷ ls) all =
    let both = and_parts (is_head l) (list_all is_head ls) all in
    let here = neither (is_title l) (is_subkey l) both.0 in
    let further = none_counted ls both.1 in
    let a = here.0 in
    let b = here.1 in
    let c = further.0 in
    let d = further.1 in
    (omega arith, omega arith)

-- how many keys there are
abbrev many : Trees → ℕ
many none = 0
many (more t ts) = 1 + many ts

subkeys_counted : (ts : Trees) → (count is_title (map subkey_line (listed ts)) ≡ 0)
    × (count is_subkey (map subkey_line (listed ts)) ≡ many ts)
unfolding one_if
subkeys_counted none = (refl, refl)
subkeys_counted (more t ts) =
    let further = subkeys_counted ts in
    let a = further.0 in
    let b = further.1 in
    (omega arith, omega arith)

title_counted : (path : List (List ℕ)) (name : List ℕ) → (one_if (is_title (title_line path name)) ≡ 1)
    × (one_if (is_subkey (title_line path name)) ≡ 0)
unfolding one_if
title_counted [] name = (refl, refl)
title_counted (first ∷ rest) name = (refl, refl)

block_counted : (security : Bool) (path : List (List ℕ)) (h : Head) (ts : Trees)
    → (count is_title (block_lines security path h (listed ts)) ≡ 1)
    × (count is_subkey (block_lines security path h (listed ts)) ≡ many ts)
block_counted security path h ts =
    let title = title_counted path h.name in
    let own = none_counted (head_lines security h) (head_all is_head head_accepts security h) in
    let keys = subkeys_counted ts in
    let a = title.0 in
    let b = title.1 in
    let c = own.0 in
    let d = own.1 in
    let f = keys.0 in
    let g = keys.1 in
    let x = count-append is_title (head_lines security h) (map subkey_line (listed ts)) in
    let y = count-append is_subkey (head_lines security h) (map subkey_line (listed ts)) in
    (omega arith, omega arith)

-- how many keys are named whose blocks are cut off
mutual
  cut : ℕ → Tree → ℕ
  cut depth (key h ts) = cond (eqb depth 0) (many ts) (all_cut (depth - 1) ts)

  all_cut : ℕ → Trees → ℕ
  all_cut depth none = 0
  all_cut depth (more t ts) = cut depth t + all_cut depth ts

-- each key that is named has a block, but for those cut off; the topmost key is not named
tally_by : (b : Bool) (named : ℕ) (ls : Lines) (deep : ℕ) → count is_subkey ls + named ≡ count is_title ls + deep
    → count is_subkey (cond b [] ls) + named ≡ count is_title (cond b [] ls) + cond b named deep
tally_by true named ls deep e = refl
tally_by false named ls deep e = e

mutual
  unfolding cut all_cut

  tally : (security : Bool) (depth : ℕ) (path : List (List ℕ)) (t : Tree)
      → count is_subkey (key_lines security depth path t) + 1 ≡ count is_title (key_lines security depth path t) + cut depth t
  tally security depth path (key h ts) =
      let ks = keys_lines security (depth - 1) path ts in
      let block = block_lines security path h (listed ts) in
      let below = cond (eqb depth 0) [] ks in
      let here = block_counted security path h ts in
      let a = here.0 in
      let b = here.1 in
      let x = count-append is_title block below in
      let y = count-append is_subkey block below in
      let further = tally_by (eqb depth 0) (many ts) ks (all_cut (depth - 1) ts) (all_tally security (depth - 1) path ts) in
      omega arith

  all_tally : (security : Bool) (depth : ℕ) (path : List (List ℕ)) (ts : Trees)
      → count is_subkey (keys_lines security depth path ts) + many ts
      ≡ count is_title (keys_lines security depth path ts) + all_cut depth ts
  all_tally security depth path none = refl
  all_tally security depth path (more t ts) =
      let ks = key_lines security depth (path ++ (head t).name ∷ []) t in
      let ls = keys_lines security depth path ts in
      let x = count-append is_title ks ls in
      let y = count-append is_subkey ks ls in
      let first = tally security depth (path ++ (head t).name ∷ []) t in
      let others = all_tally security depth path ts in
      omega arith

-- ---- where no key is cut off

uncut_by : (b : Bool) (depth : ℕ) (ts : Trees) (deep : ℕ) → eqb depth 0 ≡ b → most_levels ts ≤ depth
    → (1 ≤ depth → deep ≡ 0) → cond b (many ts) deep ≡ 0
uncut_by true depth none deep e le further = refl
uncut_by true depth (more t ts) deep e le further =
    absurd (let no : depth ≡ 0 = grind (arith, nat_tests) in omega (arith, some_level t))
uncut_by false depth ts deep e le further = further (grind (arith, nat_tests))

mutual
  unfolding cut all_cut

  uncut : (depth : ℕ) (t : Tree) → levels t ≤ depth + 1 → cut depth t ≡ 0
  uncut depth (key h ts) le =
      uncut_by (eqb depth 0) depth ts (all_cut (depth - 1) ts) refl (omega arith)
      (λ some. all_uncut (depth - 1) ts (omega arith))

  all_uncut : (depth : ℕ) (ts : Trees) → most_levels ts ≤ depth + 1 → all_cut depth ts ≡ 0
  all_uncut depth none le = refl
  all_uncut depth (more t ts) le =
      let first = uncut depth t (omega arith) in
      let others = all_uncut depth ts (omega arith) in
      omega arith

shallow_by : (b : Bool) (depth : ℕ) (ts : Trees) (deep : ℕ) → eqb depth 0 ≡ b → cond b (many ts) deep ≡ 0
    → (deep ≡ 0 → most_levels ts ≤ depth - 1 + 1) → most_levels ts ≤ depth
shallow_by true depth none deep e f further = omega arith
shallow_by true depth (more t ts) deep e f further = absurd (omega arith)
shallow_by false depth ts deep e f further =
    let some : 1 ≤ depth = grind (arith, nat_tests) in
    let le = further f in
    omega arith

mutual
  unfolding cut all_cut

  shallow : (depth : ℕ) (t : Tree) → cut depth t ≡ 0 → levels t ≤ depth + 1
  shallow depth (key h ts) e =
      let le = shallow_by (eqb depth 0) depth ts (all_cut (depth - 1) ts) refl e (λ f. all_shallow (depth - 1) ts f) in
      omega arith

  all_shallow : (depth : ℕ) (ts : Trees) → all_cut depth ts ≡ 0 → most_levels ts ≤ depth + 1
  all_shallow depth none e = omega arith
  all_shallow depth (more t ts) e =
      let first = shallow depth t (omega arith) in
      let others = all_shallow depth ts (omega arith) in
      omega arith

-- the lines of a whole key, whatever comes after both
pub same_depth : (security also : Bool) (depth deep : ℕ) (p q : List (List ℕ)) (t u : Tree) (after : Lines)
    → levels t ≤ depth + 1 → key_lines security depth p t ++ after ≡ key_lines also deep q u ++ after
    → levels u ≤ deep + 1
same_depth security also depth deep p q t u after le e =
    let ks = key_lines security depth p t in
    let ls = key_lines also deep q u in
    let titles = sym (count-append is_title ks after) ∙ ap (count is_title) e ∙ count-append is_title ls after in
    let subkeys = sym (count-append is_subkey ks after) ∙ ap (count is_subkey) e ∙ count-append is_subkey ls after in
    let a = tally security depth p t in
    let b = tally also deep q u in
    let whole = uncut depth t le in
    shallow deep u (omega arith)
