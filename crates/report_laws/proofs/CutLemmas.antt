-- Texts of different depths are equal only where neither cuts a key off.
use Rattle.std.proofs.Common.{◌≡◌, ℕ, ◌+◌, ◌-◌, ◌<◌, ◌≤◌, Bool, true, false, cond, eqb, List, [], ◌∷◌, ◌++◌, length, refl, sym, ap, ◌∙◌, append_assoc, length-append, arith}
use Rattle.std.proofs.lemmas.Bool.Decides.{nat_tests}
use Rattle.hive_model.specs.Tree.{Tree, Trees, key, none, more, head, listed}
use Rattle.hive_model.specs.Valid.{levels, most_levels}
use Rattle.key_text.specs.Lines.{KeyLine, KeyAtLine}
use Rattle.key_text.specs.Blocks.{title_line, block_lines, key_lines, keys_lines}
use Rattle.report_laws.specs.key_laws.Trees.{FitsTree, AllFit}
use Rattle.report_laws.proofs.PartLemmas.{stops, heads}
use Rattle.report_laws.proofs.TreeLemmas.{is_own, names, keys_stop, below_stops, same_block}

abbrev Lines : Type 0
Lines = List KeyLine

-- how long the path in a line is
abbrev line_length : KeyLine → ℕ
line_length (KeyAtLine path) = length path
line_length other = 0

-- and that in the first of lines
abbrev pub path_length : Lines → ℕ
path_length [] = 0
path_length (l ∷ ls) = line_length l

title_length : (path : List (List ℕ)) (name : List ℕ) → line_length (title_line (path ++ name ∷ []) name) ≡ length path + 1
title_length [] name = omega arith
title_length (first ∷ rest) name = omega (arith, length-append rest (name ∷ []))

key_length : (security : Bool) (depth : ℕ) (path : List (List ℕ)) (t : Tree) (ls after : Lines)
    → path_length (key_lines security depth (path ++ (head t).name ∷ []) t ++ ls ++ after) ≡ length path + 1
key_length security depth path (key h ts) ls after = title_length path h.name

keys_length : (security : Bool) (depth : ℕ) (path : List (List ℕ)) (ts : Trees) (after : Lines)
    → path_length after ≤ length path → path_length (keys_lines security depth path ts ++ after) ≤ length path + 1
keys_length security depth path none after le = omega arith
keys_length security depth path (more t ts) after le =
    omega (arith, key_length security depth path t (keys_lines security depth path ts) after)

-- no depth is left, so that no block comes after the names
zero_cut : (security : Bool) (depth : ℕ) (path : List (List ℕ)) (ts us : Trees) (after others : Lines)
    → names ts ≡ names us → path_length after ≤ length path → after ≡ keys_lines security depth path us ++ others
    → (most_levels ts ≤ 0) × (after ≡ others)
zero_cut security depth path none none after others n le e = (omega arith, e)
zero_cut security depth path none (more u us) after others n le e = absurd cc
zero_cut security depth path (more t ts) none after others n le e = absurd cc
zero_cut security depth path (more t ts) (more u us) after others n le e =
    let long = ap path_length e ∙ key_length security depth path u (keys_lines security depth path us) others in
    absurd (omega arith)

cut_by : (b c : Bool) (depth deep : ℕ) (ts : Trees) (ks ls after others : Lines) → eqb depth 0 ≡ b → eqb deep 0 ≡ c
    → depth < deep
    → (after ≡ ls ++ others → (most_levels ts ≤ 0) × (after ≡ others))
    → (1 ≤ depth → ks ++ after ≡ ls ++ others → (most_levels ts ≤ depth - 1 + 1) × (after ≡ others))
    → cond b [] ks ++ after ≡ cond c [] ls ++ others → (most_levels ts ≤ depth) × (after ≡ others)
cut_by true true depth deep ts ks ls after others e f lt nothing further g =
    absurd (let no : deep ≡ 0 = grind (arith, nat_tests) in omega arith)
cut_by true false depth deep ts ks ls after others e f lt nothing further g =
    let all = nothing g in
    let few = all.0 in
    (omega arith, all.1)
cut_by false true depth deep ts ks ls after others e f lt nothing further g =
    absurd (let no : deep ≡ 0 = grind (arith, nat_tests) in omega arith)
cut_by false false depth deep ts ks ls after others e f lt nothing further g =
    let some : 1 ≤ depth = grind (arith, nat_tests) in
    let all = further some g in
    let few = all.0 in
    (omega arith, all.1)

mutual
  pub cut_key : (security : Bool) (depth deep : ℕ) (p q : List (List ℕ)) (t u : Tree) (after others : Lines)
      → depth < deep → FitsTree t → FitsTree u → stops is_own after ≡ true → stops is_own others ≡ true
      → path_length after ≤ length p → key_lines security depth p t ++ after ≡ key_lines security deep q u ++ others
      → (levels t ≤ depth + 1) × (after ≡ others)
  cut_key security depth deep p q (key h ts) (key k us) after others lt fits_t fits_u stop_a stop_o le e =
      let ks = keys_lines security (depth - 1) p ts in
      let ls = keys_lines security (deep - 1) q us in
      let a : Bool = eqb depth 0 in
      let b : Bool = eqb deep 0 in
      let block = same_block security p q h k (listed ts) (listed us) (cond a [] ks ++ after) (cond b [] ls ++ others)
      fits_t.0.class fits_u.0.class (below_stops a security (depth - 1) p ts after stop_a)
      (below_stops b security (deep - 1) q us others stop_o)
      (sym (append_assoc (block_lines security p h (listed ts)) (cond a [] ks) after) ∙ e
      ∙ append_assoc (block_lines security q k (listed us)) (cond b [] ls) others) in
      let moved : cond b [] ls ++ others ≡ cond b [] (keys_lines security (deep - 1) p us) ++ others =
      ap (λ (path : List (List ℕ)). cond b [] (keys_lines security (deep - 1) path us) ++ others)
      (sym block.alike.paths) in
      let below = cut_by a b depth deep ts ks (keys_lines security (deep - 1) p us) after others refl refl lt
      (λ f. zero_cut security (deep - 1) p ts us after others block.alike.names le f)
      (λ some f. cut_keys security (depth - 1) (deep - 1) p ts us after others (omega arith) fits_t.1 fits_u.1
      block.alike.names stop_a stop_o le f)
      (block.rest ∙ moved) in
      let few = below.0 in
      (omega arith, below.1)

  cut_keys : (security : Bool) (depth deep : ℕ) (p : List (List ℕ)) (ts us : Trees) (after others : Lines)
      → depth < deep → AllFit ts → AllFit us → names ts ≡ names us → stops is_own after ≡ true
      → stops is_own others ≡ true → path_length after ≤ length p
      → keys_lines security depth p ts ++ after ≡ keys_lines security deep p us ++ others
      → (most_levels ts ≤ depth + 1) × (after ≡ others)
  cut_keys security depth deep p none none after others lt fits_t fits_u n stop_a stop_o le e = (omega arith, e)
  cut_keys security depth deep p none (more u us) after others lt fits_t fits_u n stop_a stop_o le e = absurd cc
  cut_keys security depth deep p (more t ts) none after others lt fits_t fits_u n stop_a stop_o le e = absurd cc
  cut_keys security depth deep p (more t ts) (more u us) after others lt fits_t fits_u n stop_a stop_o le e =
      let a = p ++ (head t).name ∷ [] in
      let b = p ++ (head u).name ∷ [] in
      let ks = keys_lines security depth p ts in
      let ls = keys_lines security deep p us in
      let short = keys_length security depth p ts after le in
      let longer = length-append p ((head t).name ∷ []) in
      let first = cut_key security depth deep a b t u (ks ++ after) (ls ++ others) lt fits_t.0 fits_u.0
      (keys_stop security depth p ts after stop_a) (keys_stop security deep p us others stop_o) (omega arith)
      (sym (append_assoc (key_lines security depth a t) ks after) ∙ e
      ∙ append_assoc (key_lines security deep b u) ls others) in
      let both = heads (head t).name (head u).name (names ts) (names us) n in
      let further = cut_keys security depth deep p ts us after others lt fits_t.1 fits_u.1 both.1 stop_a stop_o le first.1 in
      let few = first.0 in
      let fewer = further.0 in
      (omega arith, further.1)
