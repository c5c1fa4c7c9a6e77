-- The key that a path means, determined by the lines.
use Rattle.std.proofs.Common.{◌≡◌, ℕ, ◌+◌, ◌-◌, ◌<◌, ◌≤◌, ◌^◌, ◌%◌, ◌==◌, ◌&&◌, ◌||◌, not, Bool, true, false, cond, eqb, List, [], ◌∷◌, ◌++◌, length, map, Option, Some, None, refl, sym, ap, subst, ◌∙◌, arith}
use Rattle.std.specs.Prelude.{find, option_map, option_and_then}
use Rattle.std.specs.Option.{option_map_or}
use Rattle.std.specs.List.{All, AllByRecursion, list_any}
use Rattle.std.proofs.lemmas.Bool.{false≢true}
use Rattle.std.proofs.lemmas.List.Elements.{All-nil, All-cons, All-head, All-tail}
use Rattle.hex.specs.Hex.{IsBytes}
use Rattle.nt_bytes.specs.Text.{wide_of, is_backslash}
use Rattle.hive_model.specs.Tree.{Item, Head, Tree, Trees, key, none, more, head, listed, is_named, find_key}
use Rattle.hive_model.specs.Valid.{IsItem, IsKey, HoldsKeys, AllHoldKeys, levels}
use Rattle.key_text.specs.Lines.{KeyLine, StampLine, FlagsLine, ClassLine, ClassBytesLine, SecurityLine, ValueLine, NoKeyLine, EndLine}
use Rattle.key_text.specs.Blocks.{title_line, flags_lines, class_lines, security_lines, head_lines, subkey_line, block_lines, key_lines, keys_lines}
use Rattle.key_text.specs.Found.{true_path, spelled, found_lines, path_lines, no_key_lines, lines_of}
use Rattle.report_laws.specs.key_laws.Lines.{IsKeyName, IsCounted, FitsItem, FitsLine, FitLines}
use Rattle.report_laws.specs.key_laws.Trees.{FitsHead, FitsTree, AllFit, IsHeld}
use Rattle.report_laws.specs.key_laws.Shown.{shown, Place, place_at, place_by, place_of, shown_at, shown_of, bare, bare_at}
use Rattle.report_laws.proofs.FormLemmas.{wide_units}
use Rattle.report_laws.proofs.TreeLemmas.{Titled, last_of, titled_last, same_key, whole, whole_bare}
use Rattle.report_laws.proofs.DepthLemmas.{deeper, same_depth}
use Rattle.report_laws.proofs.CutLemmas.{cut_key}

-- ---- the lines of a key fit

fits_both : (a b : List KeyLine) → FitLines a → FitLines b → FitLines (a ++ b)
fits_both [] b fits_a fits_b = fits_b
fits_both (l ∷ ls) b fits_a fits_b = (fits_a.0, fits_both ls b fits_a.1 fits_b)

names_both : (a b : List (List ℕ)) → AllByRecursion IsKeyName a → AllByRecursion IsKeyName b → AllByRecursion IsKeyName (a ++ b)
names_both [] b all_a all_b = all_b
names_both (name ∷ a) b all_a all_b = (all_a.0, names_both a b all_a.1 all_b)

title_fits : (path : List (List ℕ)) (h : Head) → FitsHead h → AllByRecursion IsKeyName path → FitsLine (title_line path h.name)
title_fits [] h fits all = fits.name
title_fits (first ∷ rest) h fits all = record { below = omega arith; names = all }

flags_fit : (b : Bool) (flags : ℕ) → flags < 2 ^ 16 → FitLines (cond b [] (FlagsLine flags ∷ []))
flags_fit true flags fits = tt
flags_fit false flags fits = (fits, tt)

class_fits : (b even : Bool) (bytes : List ℕ) → IsBytes bytes → length bytes < 2 ^ 16
    → FitLines (cond b [] (cond even (ClassLine (wide_of bytes) ∷ []) (ClassBytesLine bytes ∷ [])))
class_fits true even bytes is lt = tt
class_fits false true bytes is lt = (wide_units bytes is, tt)
class_fits false false bytes is lt = ((is, omega arith), tt)

security_fits : (b : Bool) (bytes : List ℕ) → IsBytes bytes → IsCounted bytes → FitLines (cond b (SecurityLine bytes ∷ []) [])
security_fits true bytes is lt = ((is, lt), tt)
security_fits false bytes is lt = tt

counted : (v : Item) → IsItem v → IsCounted v.bytes
counted v is = let lt = is.bytes in omega arith

values_fit : (vs : List Item) → AllByRecursion FitsItem vs → All IsItem vs → FitLines (map ValueLine vs)
values_fit [] all are = tt
values_fit (v ∷ vs) all are =
    ((all.0, counted v (All-head IsItem v vs are)), values_fit vs all.1 (All-tail IsItem v vs are))

head_fits : (security : Bool) (h : Head) (keys : List Tree) → FitsHead h → IsKey h keys
    → FitLines (head_lines security h)
unfolding head_lines
head_fits security h keys fits is =
    let flags = StampLine h.stamp ∷ flags_lines h.flags in
    fits_both (flags ++ class_lines h.class ++ security_lines security h.security) (map ValueLine h.values)
    (fits_both (flags ++ class_lines h.class) (security_lines security h.security)
    (fits_both flags (class_lines h.class) (fits.stamp, flags_fit (h.flags == 0) h.flags fits.flags)
    (class_fits (length h.class == 0) (length h.class % 2 == 0) h.class fits.class is.class))
    (security_fits (security && not (length h.security == 0)) h.security fits.security is.security))
    (values_fit h.values fits.values is.items)

-- a test that no element passes
or_parts : (a b : Bool) → (a || b) ≡ false → (a ≡ false) × (b ≡ false)
or_parts true b e = absurd (false≢true (sym e))
or_parts false b e = (refl, e)

none_pass : (name : List ℕ) → list_any is_backslash name ≡ false → All (λ u. is_backslash u ≡ false) name
none_pass [] e = All-nil (λ u. is_backslash u ≡ false)
none_pass (u ∷ us) e =
    let both = or_parts (is_backslash u) (list_any is_backslash us) e in
    All-cons (λ v. is_backslash v ≡ false) u us both.0 (none_pass us both.1)

key_name : (t : Tree) → HoldsKeys t → FitsTree t → IsKeyName (head t).name
key_name (key h ts) held fits = record { units = fits.0.name; whole = none_pass h.name held.0.no_backslash }

subkeys_fit : (ts : Trees) → AllHoldKeys ts → AllFit ts → FitLines (map subkey_line (listed ts))
subkeys_fit none held fits = tt
subkeys_fit (more t ts) held fits = (key_name t held.0 fits.0, subkeys_fit ts held.1 fits.1)

none_or_fit : (b : Bool) (ls : List KeyLine) → FitLines ls → FitLines (cond b [] ls)
none_or_fit true ls fits = tt
none_or_fit false ls fits = fits

mutual
  key_fits : (security : Bool) (depth : ℕ) (path : List (List ℕ)) (t : Tree) → HoldsKeys t → FitsTree t
      → AllByRecursion IsKeyName path → FitLines (key_lines security depth path t)
  key_fits security depth path (key h ts) held fits all =
      let ks = keys_lines security (depth - 1) path ts in
      fits_both (block_lines security path h (listed ts)) (cond (eqb depth 0) [] ks)
      (fits_both (title_line path h.name ∷ head_lines security h) (map subkey_line (listed ts))
      (title_fits path h fits.0 all, head_fits security h (listed ts) fits.0 held.0) (subkeys_fit ts held.1 fits.1))
      (none_or_fit (eqb depth 0) ks (keys_fit security (depth - 1) path ts held.1 fits.1 all))

  keys_fit : (security : Bool) (depth : ℕ) (path : List (List ℕ)) (ts : Trees) → AllHoldKeys ts → AllFit ts
      → AllByRecursion IsKeyName path → FitLines (keys_lines security depth path ts)
  keys_fit security depth path none held fits all = tt
  keys_fit security depth path (more t ts) held fits all =
      let below = path ++ (head t).name ∷ [] in
      fits_both (key_lines security depth below t) (keys_lines security depth path ts)
      (key_fits security depth below t held.0 fits.0
      (names_both path ((head t).name ∷ []) all (key_name t held.0 fits.0, tt)))
      (keys_fit security depth path ts held.1 fits.1 all)

-- ---- where a path leads

-- the key that was found has the last name of the path as it is spelled, and it is held
record Leads (root : List ℕ) (path : List (List ℕ)) (t : Tree) : Type 0 where
  last : last_of root path ≡ (head t).name
  names : AllByRecursion IsKeyName path
  keys : HoldsKeys t
  fits : FitsTree t

same_some : (t u : Tree) → Some t ≡ Some u → t ≡ u
same_some t u e = cc

child_by : (b : Bool) (t c : Tree) (o : Option Tree) → cond b (Some t) o ≡ Some c → HoldsKeys t → FitsTree t
    → (o ≡ Some c → HoldsKeys c × FitsTree c) → HoldsKeys c × FitsTree c
child_by true t c o e held fits further =
    let same = same_some t c e in
    (subst HoldsKeys same held, subst FitsTree same fits)
child_by false t c o e held fits further = further e

child_held : (name : List ℕ) (ts : Trees) (c : Tree) → find (is_named name) (listed ts) ≡ Some c → AllHoldKeys ts
    → AllFit ts → HoldsKeys c × FitsTree c
child_held name none c e held fits = absurd cc
child_held name (more t ts) c e held fits =
    child_by (is_named name t) t c (find (is_named name) (listed ts)) e held.0 fits.0
    (λ f. child_held name ts c f held.1 fits.1)

leads_by : (root name : List ℕ) (path : List (List ℕ)) (ts : Trees) (t : Tree) (o : Option Tree)
    → find (is_named name) (listed ts) ≡ o → option_and_then (find_key path) o ≡ Some t → AllHoldKeys ts → AllFit ts
    → ((c : Tree) → find_key path c ≡ Some t → HoldsKeys c → FitsTree c → Leads (head c).name (spelled path c) t)
    → Leads root (option_map_or (λ (c : Tree). (head c).name ∷ spelled path c) o []) t
leads_by root name path ts t None is e held fits further = absurd cc
leads_by root name path ts t (Some c) is e held fits further =
    let both = child_held name ts c is held fits in
    let rest = further c e both.0 both.1 in
    record { last = rest.last; names = (key_name c both.0 both.1, rest.names); keys = rest.keys; fits = rest.fits }

leads : (path : List (List ℕ)) (root t : Tree) → find_key path root ≡ Some t → HoldsKeys root → FitsTree root
    → Leads (head root).name (spelled path root) t
leads [] root t e held fits =
    let same = same_some root t e in
    record {
      last = ap (λ (u : Tree). (head u).name) same;
      names = tt;
      keys = subst HoldsKeys same held;
      fits = subst FitsTree same fits;
    }
leads (name ∷ path) (key h ts) t e held fits =
    leads_by h.name name path ts t (find (is_named name) (listed ts)) refl e held.1 fits.1
    (λ c f keys below. leads path c t f keys below)

-- ---- places

record IsPlaced (p : Place) : Type 0 where
  title : Titled p.path (head p.found).name
  names : AllByRecursion IsKeyName p.path
  keys : HoldsKeys p.found
  fits : FitsTree p.found

abbrev AreFound : Option Place → Type 0
AreFound None = Unit {0}
AreFound (Some p) = IsPlaced p

placed_by : (root : Tree) (path : List (List ℕ)) (o : Option Tree) → find_key path root ≡ o → IsHeld root
    → AreFound (option_map (place_at root path) o)
placed_by root path None e held = tt
placed_by root path (Some t) e held =
    let there = leads path root t e held.keys held.fits in
    record {
      title = titled_last (head root).name (spelled path root) (head t).name there.last;
      names = there.names;
      keys = there.keys;
      fits = there.fits;
    }

placed_at : (root : Tree) (o : Option (List (List ℕ))) → IsHeld root → AreFound (option_and_then (place_by root) o)
placed_at root None held = tt
placed_at root (Some path) held = placed_by root path (find_key path root) refl held

placed : (root : Tree) (path : List (List ℕ)) → IsHeld root → AreFound (place_of root path)
placed root path held = placed_at root (true_path root path) held

-- the lines of what was found
abbrev place_lines : Bool → ℕ → Option Place → List KeyLine
place_lines security depth None = no_key_lines
place_lines security depth (Some p) = key_lines security depth p.path p.found ++ EndLine ∷ []

lines_by : (root : Tree) (path : List (List ℕ)) (depth : ℕ) (security : Bool) (o : Option Tree)
    → found_lines security depth (spelled path root) o ≡ place_lines security depth (option_map (place_at root path) o)
lines_by root path depth security None = refl
lines_by root path depth security (Some t) = refl

lines_at : (root : Tree) (depth : ℕ) (security : Bool) (o : Option (List (List ℕ)))
    → path_lines security depth root o ≡ place_lines security depth (option_and_then (place_by root) o)
lines_at root depth security None = refl
lines_at root depth security (Some path) = lines_by root path depth security (find_key path root)

lines_placed : (root : Tree) (path : List (List ℕ)) (depth : ℕ) (security : Bool)
    → lines_of root path depth security ≡ place_lines security depth (place_of root path)
lines_placed root path depth security = lines_at root depth security (true_path root path)

place_fits : (security : Bool) (depth : ℕ) (o : Option Place) → AreFound o → FitLines (place_lines security depth o)
place_fits security depth None is = (tt, (tt, tt))
place_fits security depth (Some p) is =
    fits_both (key_lines security depth p.path p.found) (EndLine ∷ [])
    (key_fits security depth p.path p.found is.keys is.fits is.names) (tt, tt)

pub lines_fit : (root : Tree) (path : List (List ℕ)) (depth : ℕ) (security : Bool) → IsHeld root
    → FitLines (lines_of root path depth security)
lines_fit root path depth security held =
    subst FitLines (sym (lines_placed root path depth security))
    (place_fits security depth (place_of root path) (placed root path held))

-- ---- the same lines

abbrev says_none : List KeyLine → Bool
says_none (NoKeyLine ∷ ls) = true
says_none other = false

says_some : (security : Bool) (depth : ℕ) (path : List (List ℕ)) (t : Tree) (ls : List KeyLine)
    → says_none (key_lines security depth path t ++ ls) ≡ false
says_some security depth [] (key h ts) ls = refl
says_some security depth (name ∷ path) (key h ts) ls = refl

same_places : (security : Bool) (depth : ℕ) (a b : Option Place) → AreFound a → AreFound b
    → place_lines security depth a ≡ place_lines security depth b
    → option_map (shown_at security depth) a ≡ option_map (shown_at security depth) b
same_places security depth None None is_a is_b e = refl
same_places security depth None (Some q) is_a is_b e =
    absurd (false≢true (sym (says_some security depth q.path q.found (EndLine ∷ [])) ∙ sym (ap says_none e)))
same_places security depth (Some p) None is_a is_b e =
    absurd (false≢true (sym (says_some security depth p.path p.found (EndLine ∷ [])) ∙ ap says_none e))
same_places security depth (Some p) (Some q) is_a is_b e =
    let same = same_key security depth p.path q.path p.found q.found (EndLine ∷ []) (EndLine ∷ []) is_a.fits is_b.fits
    is_a.title is_b.title refl refl e in
    (λ i. Some (record { path = same.0 i; found = same.1 i }))

pub same_shown : (root other : Tree) (path way : List (List ℕ)) (depth : ℕ) (security : Bool) → IsHeld root → IsHeld other
    → lines_of root path depth security ≡ lines_of other way depth security
    → shown_of root path depth security ≡ shown_of other way depth security
same_shown root other path way depth security held holds e =
    same_places security depth (place_of root path) (place_of other way) (placed root path held) (placed other way holds)
    (sym (lines_placed root path depth security) ∙ e ∙ lines_placed other way depth security)

-- ---- the key whole

-- a depth past the last level
pub same_deeper : (root : Tree) (path : List (List ℕ)) (depth deep : ℕ) (security : Bool) (p : Place)
    → place_of root path ≡ Some p → levels p.found ≤ depth + 1 → depth ≤ deep
    → lines_of root path deep security ≡ lines_of root path depth security
same_deeper root path depth deep security p is few le =
    lines_placed root path deep security ∙ ap (place_lines security deep) is
    ∙ ap (λ (ls : List KeyLine). ls ++ EndLine ∷ []) (deeper security depth deep p.path p.found le few)
    ∙ sym (lines_placed root path depth security ∙ ap (place_lines security depth) is)

-- two keys with the same lines, of which one has no more levels than are shown
record SameWhole (security : Bool) (depth deep : ℕ) (p q : Place) : Type 0 where
  paths : p.path ≡ q.path
  few : levels q.found ≤ deep + 1
  keys : shown security (depth + deep) p.found ≡ shown security (depth + deep) q.found

same_whole : (security : Bool) (depth deep : ℕ) (p q : Place) → IsPlaced p → IsPlaced q → levels p.found ≤ depth + 1
    → place_lines security depth (Some p) ≡ place_lines security deep (Some q) → SameWhole security depth deep p q
same_whole security depth deep p q is_p is_q few e =
    let end = EndLine ∷ [] in
    let fewer = same_depth security security depth deep p.path q.path p.found q.found end few e in
    let at_p = deeper security depth (depth + deep) p.path p.found (omega arith) few in
    let at_q = deeper security deep (depth + deep) q.path q.found (omega arith) fewer in
    let same = same_key security (depth + deep) p.path q.path p.found q.found end end is_p.fits is_q.fits is_p.title
    is_q.title refl refl
    (ap (λ (ls : List KeyLine). ls ++ end) at_p ∙ e ∙ sym (ap (λ (ls : List KeyLine). ls ++ end) at_q)) in
    record { paths = same.0; few = fewer; keys = same.1 }

whole_place : (depth deep : ℕ) (p : Place) (o : Option Place) → IsPlaced p → AreFound o → levels p.found ≤ depth + 1
    → place_lines true depth (Some p) ≡ place_lines true deep o → o ≡ Some p
whole_place depth deep p None is_p is_o few e =
    absurd (false≢true (sym (says_some true depth p.path p.found (EndLine ∷ [])) ∙ ap says_none e))
whole_place depth deep p (Some q) is_p is_o few e =
    let same = same_whole true depth deep p q is_p is_o few e in
    let fewer = same.few in
    let found : p.found ≡ q.found =
    sym (whole (depth + deep) p.found (omega arith)) ∙ same.keys ∙ whole (depth + deep) q.found (omega arith) in
    (λ i. Some (record { path = sym same.paths i; found = sym found i }))

bare_place : (depth deep : ℕ) (p : Place) (o : Option Place) → IsPlaced p → AreFound o → levels p.found ≤ depth + 1
    → place_lines false depth (Some p) ≡ place_lines false deep o → option_map bare_at o ≡ Some (bare_at p)
bare_place depth deep p None is_p is_o few e =
    absurd (false≢true (sym (says_some false depth p.path p.found (EndLine ∷ [])) ∙ ap says_none e))
bare_place depth deep p (Some q) is_p is_o few e =
    let same = same_whole false depth deep p q is_p is_o few e in
    let fewer = same.few in
    let found : bare p.found ≡ bare q.found =
    sym (whole_bare (depth + deep) p.found (omega arith)) ∙ same.keys ∙ whole_bare (depth + deep) q.found (omega arith) in
    (λ i. Some (record { path = sym same.paths i; found = sym found i }))

-- the lines of two paths are those of what they lead to
between : (root other : Tree) (path way : List (List ℕ)) (depth deep : ℕ) (security : Bool) (p : Place)
    → place_of root path ≡ Some p → lines_of root path depth security ≡ lines_of other way deep security
    → place_lines security depth (Some p) ≡ place_lines security deep (place_of other way)
between root other path way depth deep security p is e =
    sym (lines_placed root path depth security ∙ ap (place_lines security depth) is) ∙ e
    ∙ lines_placed other way deep security

pub same_place : (root other : Tree) (path way : List (List ℕ)) (depth deep : ℕ) (p : Place) → IsHeld root → IsHeld other
    → place_of root path ≡ Some p → levels p.found ≤ depth + 1
    → lines_of root path depth true ≡ lines_of other way deep true → place_of other way ≡ Some p
same_place root other path way depth deep p held holds is few e =
    whole_place depth deep p (place_of other way) (subst AreFound is (placed root path held)) (placed other way holds) few
    (between root other path way depth deep true p is e)

pub same_bare : (root other : Tree) (path way : List (List ℕ)) (depth deep : ℕ) (p : Place) → IsHeld root → IsHeld other
    → place_of root path ≡ Some p → levels p.found ≤ depth + 1
    → lines_of root path depth false ≡ lines_of other way deep false
    → option_map bare_at (place_of other way) ≡ Some (bare_at p)
same_bare root other path way depth deep p held holds is few e =
    bare_place depth deep p (place_of other way) (subst AreFound is (placed root path held)) (placed other way holds) few
    (between root other path way depth deep false p is e)

-- ---- different depths

uncut_place : (security : Bool) (depth deep : ℕ) (p : Place) (o : Option Place) → IsPlaced p → AreFound o → depth < deep
    → place_lines security depth (Some p) ≡ place_lines security deep o → levels p.found ≤ depth + 1
uncut_place security depth deep p None is_p is_o lt e =
    absurd (false≢true (sym (says_some security depth p.path p.found (EndLine ∷ [])) ∙ ap says_none e))
uncut_place security depth deep p (Some q) is_p is_o lt e =
    (cut_key security depth deep p.path q.path p.found q.found (EndLine ∷ []) (EndLine ∷ []) lt is_p.fits is_o.fits refl
    refl (omega arith) e).0

pub whole_below : (root other : Tree) (path way : List (List ℕ)) (depth deep : ℕ) (security : Bool) (p : Place)
    → IsHeld root → IsHeld other → place_of root path ≡ Some p → depth < deep
    → lines_of root path depth security ≡ lines_of other way deep security → levels p.found ≤ depth + 1
whole_below root other path way depth deep security p held holds is lt e =
    uncut_place security depth deep p (place_of other way) (subst AreFound is (placed root path held))
    (placed other way holds) lt (between root other path way depth deep security p is e)
