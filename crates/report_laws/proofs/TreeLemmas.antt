-- Keys, determined by the lines of their blocks.
use Rattle.std.proofs.Common.{◌≡◌, ℕ, ◌+◌, ◌-◌, ◌≤◌, ◌%◌, ◌==◌, ◌&&◌, not, Bool, true, false, cond, eqb, List, [], ◌∷◌, ◌++◌, length, map, refl, sym, ap, ◌∙◌, append_assoc, arith}
use Rattle.std.specs.List.{list_all}
use Rattle.std.proofs.lemmas.Bool.{and_from}
use Rattle.std.proofs.lemmas.Bool.Decides.{nat_tests}
use Rattle.std.proofs.lemmas.List.Folds.{list_all-append}
use Rattle.hex.specs.Hex.{IsBytes}
use Rattle.nt_bytes.specs.Text.{wide_of}
use Rattle.hive_model.specs.Tree.{Item, Head, Tree, Trees, key, none, more, head, listed}
use Rattle.hive_model.specs.Valid.{levels, most_levels}
use Rattle.key_text.specs.Lines.{KeyLine, RootLine, KeyAtLine, StampLine, FlagsLine, ClassLine, ClassBytesLine, SecurityLine, ValueLine, SubkeyLine, NoKeyLine, EndLine}
use Rattle.key_text.specs.Blocks.{title_line, flags_lines, class_lines, security_lines, head_lines, subkey_line, block_lines, key_lines, keys_lines, AreAlike}
use Rattle.key_text.proofs.BlockLemmas.{same_blocks}
use Rattle.report_laws.specs.key_laws.Trees.{FitsTree, AllFit}
use Rattle.report_laws.specs.key_laws.Shown.{shown_head, all_named, shown, all_shown, bare, all_bare}
use Rattle.report_laws.proofs.PartLemmas.{stops, heads, parted_by}

abbrev Lines : Type 0
Lines = List KeyLine

-- ---- the lines of a block after its first

abbrev pub is_own : KeyLine → Bool
is_own (RootLine name) = false
is_own (KeyAtLine path) = false
is_own (StampLine stamp) = true
is_own (FlagsLine flags) = true
is_own (ClassLine units) = true
is_own (ClassBytesLine bytes) = true
is_own (SecurityLine bytes) = true
is_own (ValueLine v) = true
is_own (SubkeyLine name) = true
is_own NoKeyLine = false
is_own EndLine = false

abbrev AllAre : (KeyLine → Bool) → Lines → Type 0
AllAre p ls = list_all p ls ≡ true

both_are : (p : KeyLine → Bool) (a b : Lines) → AllAre p a → AllAre p b → AllAre p (a ++ b)
both_are p a b e f = list_all-append p a b ∙ and_from _ _ e f

-- each line of a key's own content is of a kind
pub record Accepts (p : KeyLine → Bool) : Type 0 where
  pub stamp : (stamp : ℕ) → p (StampLine stamp) ≡ true
  pub flags : (flags : ℕ) → p (FlagsLine flags) ≡ true
  pub class : (units : List ℕ) → p (ClassLine units) ≡ true
  pub class_bytes : (bytes : List ℕ) → p (ClassBytesLine bytes) ≡ true
  pub security : (bytes : List ℕ) → p (SecurityLine bytes) ≡ true
  pub item : (v : Item) → p (ValueLine v) ≡ true

module _ (p : KeyLine → Bool) (is : Accepts p) where
  flags_are : (b : Bool) (flags : ℕ) → AllAre p (cond b [] (FlagsLine flags ∷ []))
  flags_are true flags = refl
  flags_are false flags = and_from _ _ (is.flags flags) refl

  class_is : (b even : Bool) (bytes : List ℕ)
      → AllAre p (cond b [] (cond even (ClassLine (wide_of bytes) ∷ []) (ClassBytesLine bytes ∷ [])))
  class_is true even bytes = refl
  class_is false true bytes = and_from _ _ (is.class (wide_of bytes)) refl
  class_is false false bytes = and_from _ _ (is.class_bytes bytes) refl

  security_is : (b : Bool) (bytes : List ℕ) → AllAre p (cond b (SecurityLine bytes ∷ []) [])
  security_is true bytes = and_from _ _ (is.security bytes) refl
  security_is false bytes = refl

  values_are : (vs : List Item) → AllAre p (map ValueLine vs)
  values_are [] = refl
  values_are (v ∷ vs) = and_from _ _ (is.item v) (values_are vs)

  pub head_all : (security : Bool) (h : Head) → AllAre p (head_lines security h)
  unfolding head_lines
  head_all security h =
      let flags = StampLine h.stamp ∷ flags_lines h.flags in
      both_are p (flags ++ class_lines h.class ++ security_lines security h.security) (map ValueLine h.values)
      (both_are p (flags ++ class_lines h.class) (security_lines security h.security)
      (both_are p flags (class_lines h.class)
      (and_from _ _ (is.stamp h.stamp) (flags_are (h.flags == 0) h.flags))
      (class_is (length h.class == 0) (length h.class % 2 == 0) h.class))
      (security_is (security && not (length h.security == 0)) h.security)) (values_are h.values)

own_accepts : Accepts is_own
own_accepts = record {
  stamp = λ n. refl;
  flags = λ n. refl;
  class = λ u. refl;
  class_bytes = λ b. refl;
  security = λ b. refl;
  item = λ v. refl;
}

keys_own : (ts : List Tree) → AllAre is_own (map subkey_line ts)
keys_own [] = refl
keys_own (t ∷ ts) = keys_own ts

abbrev own_lines : Bool → Head → List Tree → Lines
own_lines security h ts = head_lines security h ++ map subkey_line ts

all_own : (security : Bool) (h : Head) (ts : List Tree) → AllAre is_own (own_lines security h ts)
all_own security h ts =
    both_are is_own (head_lines security h) (map subkey_line ts) (head_all is_own own_accepts security h) (keys_own ts)

-- ---- the first line of a block

abbrev pub last_of : List ℕ → List (List ℕ) → List ℕ
last_of name [] = name
last_of name (next ∷ rest) = last_of next rest

-- the name of the key whose block a line begins
abbrev name_in : KeyLine → List ℕ
name_in (RootLine name) = name
name_in (KeyAtLine (name ∷ rest)) = last_of name rest
name_in other = []

-- the first line of a key's block has the key's name
abbrev pub Titled : List (List ℕ) → List ℕ → Type 0
Titled path name = name_in (title_line path name) ≡ name

added : (first : List ℕ) (rest : List (List ℕ)) (name : List ℕ) → last_of first (rest ++ name ∷ []) ≡ name
added first [] name = refl
added first (next ∷ rest) name = added next rest name

titled_child : (path : List (List ℕ)) (name : List ℕ) → Titled (path ++ name ∷ []) name
titled_child [] name = refl
titled_child (first ∷ rest) name = added first rest name

-- the path of a key whose last name is the key's
pub titled_last : (root : List ℕ) (path : List (List ℕ)) (name : List ℕ) → last_of root path ≡ name → Titled path name
titled_last root [] name e = refl
titled_last root (first ∷ rest) name e = e

title_stops : (path : List (List ℕ)) (name : List ℕ) → not (is_own (title_line path name)) ≡ true
title_stops [] name = refl
title_stops (first ∷ rest) name = refl

key_stops : (security : Bool) (depth : ℕ) (path : List (List ℕ)) (t : Tree) (ls after : Lines)
    → stops is_own (key_lines security depth path t ++ ls ++ after) ≡ true
key_stops security depth path (key h ts) ls after = title_stops path h.name

pub keys_stop : (security : Bool) (depth : ℕ) (path : List (List ℕ)) (ts : Trees) (after : Lines)
    → stops is_own after ≡ true → stops is_own (keys_lines security depth path ts ++ after) ≡ true
keys_stop security depth path none after stop = stop
keys_stop security depth path (more t ts) after stop =
    key_stops security depth (path ++ (head t).name ∷ []) t (keys_lines security depth path ts) after

pub below_stops : (b : Bool) (security : Bool) (depth : ℕ) (path : List (List ℕ)) (ts : Trees) (after : Lines)
    → stops is_own after ≡ true → stops is_own (cond b [] (keys_lines security depth path ts) ++ after) ≡ true
below_stops true security depth path ts after stop = stop
below_stops false security depth path ts after stop = keys_stop security depth path ts after stop

-- ---- a block

bare_block : (security : Bool) (path : List (List ℕ)) (h : Head) (ts : List Tree)
    → block_lines security path h ts ≡ block_lines true path (shown_head security h) ts
unfolding head_lines
bare_block true path h ts = refl
bare_block false path h ts = refl

small_class : (security : Bool) (h : Head) → IsBytes h.class → IsBytes (shown_head security h).class
small_class true h is = is
small_class false h is = is

pub record SameBlock (security : Bool) (p q : List (List ℕ)) (h k : Head) (ts us : List Tree) (after others : Lines) : Type 0 where
  pub names : title_line p h.name ≡ title_line q k.name
  pub alike : AreAlike p q (shown_head security h) (shown_head security k) ts us
  pub rest : after ≡ others

pub same_block : (security : Bool) (p q : List (List ℕ)) (h k : Head) (ts us : List Tree) (after others : Lines)
    → IsBytes h.class → IsBytes k.class → stops is_own after ≡ true → stops is_own others ≡ true
    → block_lines security p h ts ++ after ≡ block_lines security q k us ++ others
    → SameBlock security p q h k ts us after others
same_block security p q h k ts us after others small little stop_a stop_m e =
    let both = heads (title_line p h.name) (title_line q k.name) (own_lines security h ts ++ after)
    (own_lines security k us ++ others) e in
    let parts = parted_by is_own (own_lines security h ts) (own_lines security k us) after others
    (all_own security h ts) (all_own security k us) stop_a stop_m both.1 in
    let blocks : block_lines security p h ts ≡ block_lines security q k us = λ i. both.0 i ∷ parts.0 i in
    record {
      names = both.0;
      alike = same_blocks p q (shown_head security h) (shown_head security k) ts us (small_class security h small)
          (small_class security k little) (sym (bare_block security p h ts) ∙ blocks ∙ bare_block security q k us);
      rest = parts.1;
    }

same_name : (p q : List (List ℕ)) (a b : List ℕ) → Titled p a → Titled q b → title_line p a ≡ title_line q b → a ≡ b
same_name p q a b at_p at_q e = sym at_p ∙ ap name_in e ∙ at_q

same_head : (security : Bool) (p q : List (List ℕ)) (h k : Head) (ts us : List Tree) → h.name ≡ k.name
    → AreAlike p q (shown_head security h) (shown_head security k) ts us → shown_head security h ≡ shown_head security k
same_head true p q h k ts us n e = λ i. record {
  name = n i;
  flags = e.flags i;
  stamp = e.stamps i;
  class = e.classes i;
  security = e.descriptors i;
  values = e.values i;
}
same_head false p q h k ts us n e = λ i. record {
  name = n i;
  flags = e.flags i;
  stamp = e.stamps i;
  class = e.classes i;
  security = e.descriptors i;
  values = e.values i;
}

-- ---- keys

abbrev pub names : Trees → List (List ℕ)
names ts = map (λ (t : Tree). (head t).name) (listed ts)

same_named : (ts us : Trees) → names ts ≡ names us → all_named ts ≡ all_named us
same_named none none e = refl
same_named none (more u us) e = absurd cc
same_named (more t ts) none e = absurd cc
same_named (more t ts) (more u us) e =
    let both = heads (head t).name (head u).name (names ts) (names us) e in
    let others = same_named ts us both.1 in
    (λ i. more (key (record { name = both.0 i; flags = 0; stamp = 0; class = []; security = []; values = [] }) none)
    (others i))

-- what is below a key, where there is a depth
under : (b : Bool) (ks ls after others : Lines) (ts us deep wide : Trees) → ts ≡ us
    → (ks ++ after ≡ ls ++ others → (deep ≡ wide) × (after ≡ others))
    → cond b [] ks ++ after ≡ cond b [] ls ++ others → (cond b ts deep ≡ cond b us wide) × (after ≡ others)
under true ks ls after others ts us deep wide n further e = (n, e)
under false ks ls after others ts us deep wide n further e = further e

mutual
  pub same_key : (security : Bool) (depth : ℕ) (p q : List (List ℕ)) (t u : Tree) (after others : Lines)
      → FitsTree t → FitsTree u → Titled p (head t).name → Titled q (head u).name
      → stops is_own after ≡ true → stops is_own others ≡ true
      → key_lines security depth p t ++ after ≡ key_lines security depth q u ++ others
      → (p ≡ q) × (shown security depth t ≡ shown security depth u) × (after ≡ others)
  same_key security depth p q (key h ts) (key k us) after others fits_t fits_u at_p at_q stop_a stop_o e =
      let ks = keys_lines security (depth - 1) p ts in
      let ls = keys_lines security (depth - 1) q us in
      let is_last : Bool = eqb depth 0 in
      let block = same_block security p q h k (listed ts) (listed us) (cond is_last [] ks ++ after)
      (cond is_last [] ls ++ others) fits_t.0.class fits_u.0.class
      (below_stops is_last security (depth - 1) p ts after stop_a)
      (below_stops is_last security (depth - 1) q us others stop_o)
      (sym (append_assoc (block_lines security p h (listed ts)) (cond is_last [] ks) after) ∙ e
      ∙ append_assoc (block_lines security q k (listed us)) (cond is_last [] ls) others) in
      let name = same_name p q h.name k.name at_p at_q block.names in
      let heads_same = same_head security p q h k (listed ts) (listed us) name block.alike in
      let moved : cond is_last [] ls ++ others ≡ cond is_last [] (keys_lines security (depth - 1) p us) ++ others =
      ap (λ (path : List (List ℕ)). cond is_last [] (keys_lines security (depth - 1) path us) ++ others)
      (sym block.alike.paths) in
      let below = under is_last ks (keys_lines security (depth - 1) p us) after others (all_named ts) (all_named us)
      (all_shown security (depth - 1) ts) (all_shown security (depth - 1) us) (same_named ts us block.alike.names)
      (λ f. same_keys security (depth - 1) p ts us after others fits_t.1 fits_u.1 block.alike.names stop_a stop_o f)
      (block.rest ∙ moved) in
      (block.alike.paths, (λ i. key (heads_same i) (below.0 i)), below.1)

  same_keys : (security : Bool) (depth : ℕ) (p : List (List ℕ)) (ts us : Trees) (after others : Lines)
      → AllFit ts → AllFit us → names ts ≡ names us → stops is_own after ≡ true → stops is_own others ≡ true
      → keys_lines security depth p ts ++ after ≡ keys_lines security depth p us ++ others
      → (all_shown security depth ts ≡ all_shown security depth us) × (after ≡ others)
  same_keys security depth p none none after others fits_t fits_u n stop_a stop_o e = (refl, e)
  same_keys security depth p none (more u us) after others fits_t fits_u n stop_a stop_o e = absurd cc
  same_keys security depth p (more t ts) none after others fits_t fits_u n stop_a stop_o e = absurd cc
  same_keys security depth p (more t ts) (more u us) after others fits_t fits_u n stop_a stop_o e =
      let a = p ++ (head t).name ∷ [] in
      let b = p ++ (head u).name ∷ [] in
      let ks = keys_lines security depth p ts in
      let ls = keys_lines security depth p us in
      let first = same_key security depth a b t u (ks ++ after) (ls ++ others) fits_t.0 fits_u.0
      (titled_child p (head t).name) (titled_child p (head u).name) (keys_stop security depth p ts after stop_a)
      (keys_stop security depth p us others stop_o)
      (sym (append_assoc (key_lines security depth a t) ks after) ∙ e
      ∙ append_assoc (key_lines security depth b u) ls others) in
      let both = heads (head t).name (head u).name (names ts) (names us) n in
      let further = same_keys security depth p ts us after others fits_t.1 fits_u.1 both.1 stop_a stop_o first.2 in
      ((λ i. more (first.1 i) (further.0 i)), further.1)

-- ---- trees of no more levels than are shown

pub some_level : (t : Tree) → 1 ≤ levels t
some_level (key h ts) = omega arith

one_level : (ts : Trees) → most_levels ts ≤ 0 → all_named ts ≡ ts
one_level none le = refl
one_level (more t ts) le = absurd (omega (arith, some_level t))

bare_level : (ts : Trees) → most_levels ts ≤ 0 → all_named ts ≡ all_bare ts
bare_level none le = refl
bare_level (more t ts) le = absurd (omega (arith, some_level t))

whole_by : (b : Bool) (depth : ℕ) (ts deep target : Trees) → eqb depth 0 ≡ b → most_levels ts ≤ depth
    → (most_levels ts ≤ 0 → all_named ts ≡ target) → (most_levels ts ≤ depth - 1 + 1 → deep ≡ target)
    → cond b (all_named ts) deep ≡ target
whole_by true depth ts deep target e le wide further =
    wide (let none_below : depth ≡ 0 = grind (arith, nat_tests) in omega arith)
whole_by false depth ts deep target e le wide further =
    further (let some : 1 ≤ depth = grind (arith, nat_tests) in omega arith)

mutual
  pub whole : (depth : ℕ) (t : Tree) → levels t ≤ depth + 1 → shown true depth t ≡ t
  whole depth (key h ts) le =
      ap (key h) (whole_by (eqb depth 0) depth ts (all_shown true (depth - 1) ts) ts refl (omega arith) (one_level ts)
      (λ few. all_whole (depth - 1) ts few))

  all_whole : (depth : ℕ) (ts : Trees) → most_levels ts ≤ depth + 1 → all_shown true depth ts ≡ ts
  all_whole depth none le = refl
  all_whole depth (more t ts) le =
      let first = whole depth t (omega arith) in
      let others = all_whole depth ts (omega arith) in
      (λ i. more (first i) (others i))

-- the same without descriptors
mutual
  pub whole_bare : (depth : ℕ) (t : Tree) → levels t ≤ depth + 1 → shown false depth t ≡ bare t
  whole_bare depth (key h ts) le =
      ap (key (shown_head false h)) (whole_by (eqb depth 0) depth ts (all_shown false (depth - 1) ts) (all_bare ts) refl
      (omega arith) (bare_level ts) (λ few. all_whole_bare (depth - 1) ts few))

  all_whole_bare : (depth : ℕ) (ts : Trees) → most_levels ts ≤ depth + 1 → all_shown false depth ts ≡ all_bare ts
  all_whole_bare depth none le = refl
  all_whole_bare depth (more t ts) le =
      let first = whole_bare depth t (omega arith) in
      let others = all_whole_bare depth ts (omega arith) in
      (λ i. more (first i) (others i))
