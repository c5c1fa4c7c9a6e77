-- What the lines of a section mean, and the whole text.
use Rattle.std.proofs.Common.{◌≡◌, ◌⊎◌, inl, inr, ℕ, ◌+◌, ◌<◌, ◌≤◌, Bool, true, false, cond, not, eqb, ltb, List, [], ◌∷◌, ◌++◌, length, take, drop, filter, Option, Some, None, refl, sym, ap, subst, ◌∙◌, arith, codes}
use Rattle.std.specs.List.{list_all, All, filter_map, cons_option, position_or_len, before_first, after_first, slice_split, onto_first}
use Rattle.std.proofs.lemmas.Bool.{false≢true, eqb-true, eqb-false, ltb-true, ltb-false, lt-ltb, ne_eqb, not-true, and_parts}
use Rattle.std.proofs.lemmas.List.{take-append-drop, take_at, drop_at, append-nil, length-append, length-drop, drop-drop, take_all, drop_all}
use Rattle.std.proofs.Math.Seq.{drop-append-add}
use Rattle.std.proofs.lemmas.List.Elements.{All-nil, All-cons}
use Rattle.std.proofs.lemmas.List.Splits.{slice_split_at, slice_split_none}
use Rattle.nt_bytes.specs.Text.{is_blank, trimmed, names_same, is_equals}
use Rattle.boot_ini.specs.declared.boot_ini.keys.Section.TheVariants.{Loader, Systems, Other}
use Rattle.boot_ini.specs.declared.boot_ini.ini.OsEntry.{OsEntry}
use Rattle.boot_ini.specs.declared.boot_ini.ini.BootIni.{BootIni}
use Rattle.boot_ini.specs.boot_ini.Keys.{sides, value_beside, value_of, said_in, lines_in}
use Rattle.boot_ini.specs.boot_ini.Entries.{is_quote, is_slash, is_quoted, title_of, behind_title, is_switch, switches_in, entry_beside, entry_of}
use Rattle.boot_ini.specs.boot_ini.Ini.{first_of, timeout_text, default_path, entries_in, ini_of}
use Rattle.boot_ini.specs.boot_ini.Parts.{has_no, IsNothingOr, IsBetweenBlanks, lines_of}
use Rattle.boot_ini.specs.boot_ini.Spelling.{IsSetting, IsFirst, IsQuoted, IsPlain, AreWords, IsEntry, AreEntries, IsSpelled}
use Rattle.boot_ini.proofs.BlankLemmas.{trim_found, trim_read, said_found, said_read}
use Rattle.boot_ini.proofs.PartLemmas.{before_has_no, behind_is, place_is, Cut, cut, parts_read}

-- ---- and_parts sides of the first `=`

record Sides (line left right : List ℕ) : Type 0 where
  spelled : line ≡ left ++ (codes "=" ++ right)
  no_equals : has_no 61 left ≡ true

drop_one : (k : ℕ) (text : List ℕ) (c : ℕ) (rest : List ℕ) → drop k text ≡ c ∷ rest → drop (k + 1) text ≡ rest
drop_one k text c rest e = sym (drop-drop 1 k text) ∙ ap (drop 1) e

-- what stands from the first of a byte on
behind_first : (c : ℕ) (text : List ℕ) → position_or_len (λ d. eqb d c) text < length text
    → text ≡ before_first (λ d. eqb d c) text ++ c ∷ after_first (λ d. eqb d c) text
behind_first c text lt = by_shape (behind_is c text)
  where
    k : ℕ
    k = position_or_len (λ d. eqb d c) text

    by_shape : IsNothingOr c (drop k text) → text ≡ take k text ++ c ∷ drop (k + 1) text
    by_shape (inl none) = let left : length (drop k text) ≡ 0 = ap length none in
        absurd (omega (arith, length-drop k text))
    by_shape (inr h) =
        let parts : text ≡ take k text ++ c ∷ h.0 =
        sym (take-append-drop k text) ∙ ap (λ (t : List ℕ). take k text ++ t) h.1 in
        let next : drop (k + 1) text ≡ h.0 = drop_one k text c h.0 h.1 in
        parts ∙ ap (λ (t : List ℕ). take k text ++ c ∷ t) (sym next)

sides_found : (line left right : List ℕ) → sides line ≡ Some (left, right) → Sides line left right
sides_found line left right e = by_test (ltb (position_or_len is_equals line) (length line)) refl e
  where
    by_test : (b : Bool) → ltb (position_or_len is_equals line) (length line) ≡ b
        → cond {A = Option (List ℕ × List ℕ)} b (Some (before_first is_equals line, after_first is_equals line)) None
        ≡ Some (left, right)
        → Sides line left right
    by_test true is f =
        let made : List ℕ × List ℕ = (before_first is_equals line, after_first is_equals line) in
        let wanted : List ℕ × List ℕ = (left, right) in
        let same : made ≡ wanted = cc in
        let before : before_first is_equals line ≡ left = ap (λ (p : List ℕ × List ℕ). p.0) same in
        let after : after_first is_equals line ≡ right = ap (λ (p : List ℕ × List ℕ). p.1) same in
        record {
          spelled = behind_first 61 line (ltb-true _ _ is)
              ∙ ap (λ (t : List ℕ). t ++ 61 ∷ after_first is_equals line) before
              ∙ ap (λ (t : List ℕ). left ++ 61 ∷ t) after;
          no_equals = ap (has_no 61) (sym before) ∙ before_has_no 61 line;
        }
    by_test false is f = absurd cc

sides_of : (left right : List ℕ) → has_no 61 left ≡ true → sides (left ++ 61 ∷ right) ≡ Some (left, right)
sides_of left right none =
    let place : position_or_len is_equals (left ++ 61 ∷ right) ≡ length left =
    place_is 61 left (61 ∷ right) none (inr (right, refl)) in
    let within : ltb (length left) (length (left ++ 61 ∷ right)) ≡ true =
    lt-ltb _ _ (omega (arith, length-append left (61 ∷ right))) in
    let behind : drop (length left + 1) (left ++ 61 ∷ right) ≡ right = drop-append-add left (61 ∷ right) 1 in
    rw (place, within, take_at left (61 ∷ right) (length left) refl, behind) refl

-- ---- settings

setting_by : (key value line : List ℕ) (o : Option (List ℕ × List ℕ)) → sides line ≡ o → value_beside key o ≡ Some value
    → IsSetting key value line
setting_by key value line None is e = absurd cc
setting_by key value line (Some p) is e = by_test (names_same (trimmed p.0) key) refl e
  where
    by_test : (b : Bool) → names_same (trimmed p.0) key ≡ b → cond b (Some (trimmed p.1)) None ≡ Some value
        → IsSetting key value line
    by_test true same f =
        let s : Sides line p.0 p.1 = sides_found line p.0 p.1 is in
        let inner : trimmed p.1 ≡ value = cc in
        record {
          left = p.0;
          right = p.1;
          spelled = s.spelled;
          no_equals = s.no_equals;
          name = trimmed p.0;
          is_name = trim_found p.0;
          named = same;
          is_value = subst (λ (v : List ℕ). IsBetweenBlanks v p.1) inner (trim_found p.1);
        }
    by_test false same f = absurd cc

setting_found : (key value line : List ℕ) → value_of key line ≡ Some value → IsSetting key value line
setting_found key value line e = setting_by key value line (sides line) refl e

setting_read : (key value line : List ℕ) → IsSetting key value line → value_of key line ≡ Some value
setting_read key value line is =
    ap (value_of key) is.spelled
    ∙ rw (
      sides_of is.left is.right is.no_equals,
      trim_read is.name is.left is.is_name,
      is.named,
      trim_read value is.right is.is_value,
    ) refl

first_found : (key : List ℕ) (ls : List (List ℕ)) → IsFirst key (first_of (filter_map (value_of key) ls)) ls
first_found key [] = refl
first_found key (line ∷ ls) = by_value (value_of key line) refl (first_found key ls)
  where
    by_value : (o : Option (List ℕ)) → value_of key line ≡ o → IsFirst key (first_of (filter_map (value_of key) ls)) ls
        → IsFirst key (first_of (cons_option o (filter_map (value_of key) ls))) (line ∷ ls)
    by_value (Some value) is more = inl (value, setting_found key value line is, refl)
    by_value None is more = inr
        ((λ any set. let e : value_of key line ≡ Some any = setting_read key any line set in absurd cc), more)

no_value : (key line : List ℕ) (o : Option (List ℕ)) → value_of key line ≡ o
    → ((any : List ℕ) → IsSetting key any line → ⊥) → o ≡ None
no_value key line (Some value) is none = absurd (none value (setting_found key value line is))
no_value key line None is none = refl

first_read : (key : List ℕ) (value : Option (List ℕ)) (ls : List (List ℕ)) → IsFirst key value ls
    → first_of (filter_map (value_of key) ls) ≡ value
first_read key value [] none = sym none
first_read key value (line ∷ ls) (inl h) = rw (setting_read key h.0 line h.1) (sym h.2)
first_read key value (line ∷ ls) (inr h) =
    rw (no_value key line (value_of key line) refl h.0) (first_read key value ls h.1)

-- ---- titles and switches

abbrev is_in_word : ℕ → Bool
is_in_word c = not (is_blank c)

words_onto : (c : ℕ) (words : List (List ℕ)) (text : List ℕ) → is_in_word c ≡ true → AreWords words text
    → AreWords (onto_first c words) (c ∷ text)
words_onto c [] text e are = absurd are
words_onto c (word ∷ []) text e are = (ap (λ (t : List ℕ). c ∷ t) are.0, rw (e, are.1) refl)
words_onto c (word ∷ next ∷ words) text e are =
    (are.0, are.1, ap (λ (t : List ℕ). c ∷ t) are.2, rw (e, are.3) refl, are.4, are.5)

words_cons : (c : ℕ) (words : List (List ℕ)) (text : List ℕ) → is_blank c ≡ true → AreWords words text
    → AreWords ([] ∷ words) (c ∷ text)
words_cons c [] text e are = absurd are
words_cons c (word ∷ words) text e are = (c, text, refl, refl, e, are)

words_found : (text : List ℕ) → AreWords (slice_split is_blank text) text
words_found [] = (refl, refl)
words_found (c ∷ text) = by_test (is_blank c) refl (words_found text)
  where
    by_test : (b : Bool) → is_blank c ≡ b → AreWords (slice_split is_blank text) text
        → AreWords (cond b ([] ∷ slice_split is_blank text) (onto_first c (slice_split is_blank text))) (c ∷ text)
    by_test true e are = words_cons c (slice_split is_blank text) text e are
    by_test false e are = words_onto c (slice_split is_blank text) text (rw e refl) are

no_blanks : (word : List ℕ) → list_all is_in_word word ≡ true → All (λ c. is_blank c ≡ false) word
no_blanks [] e = All-nil (λ c. is_blank c ≡ false)
no_blanks (c ∷ word) e =
    let q = and_parts (is_in_word c) (list_all is_in_word word) e in
    All-cons (λ c. is_blank c ≡ false) c word (not-true (is_blank c) q.0) (no_blanks word q.1)

words_read : (words : List (List ℕ)) (text : List ℕ) → AreWords words text → slice_split is_blank text ≡ words
words_read [] text are = absurd are
words_read (word ∷ []) text are =
    ap (slice_split is_blank) are.0 ∙ slice_split_none is_blank word (no_blanks word are.1)
words_read (word ∷ next ∷ words) text are =
    ap (slice_split is_blank) are.2
    ∙ slice_split_at is_blank word are.0 are.1 (no_blanks word are.3) are.4
    ∙ ap (λ (ws : List (List ℕ)). word ∷ ws) (words_read (next ∷ words) are.1 are.5)

abbrev IsTitled : List ℕ → List ℕ → List ℕ → Type 0
IsTitled title behind text = IsQuoted title behind text ⊎ IsPlain title behind text

quoted_found : (inside : List ℕ) → IsQuoted (before_first is_quote inside) (after_first is_quote inside) (34 ∷ inside)
quoted_found inside = by_test (ltb k (length inside)) refl
  where
    k : ℕ
    k = position_or_len is_quote inside

    by_test : (b : Bool) → ltb k (length inside) ≡ b
        → IsQuoted (before_first is_quote inside) (after_first is_quote inside) (34 ∷ inside)
    by_test true e = record {
      shown = 34 ∷ after_first is_quote inside;
      spelled = ap (λ (t : List ℕ). 34 ∷ t) (behind_first 34 inside (ltb-true _ _ e));
      no_quote = before_has_no 34 inside;
      closed = inr refl;
    }
    by_test false e =
        let le : length inside ≤ k = ltb-false _ _ e in
        record {
          shown = [];
          spelled = ap (λ (t : List ℕ). 34 ∷ t) (sym (append-nil (take k inside) ∙ take_all k inside le));
          no_quote = before_has_no 34 inside;
          closed = inl (refl, drop_all (k + 1) inside (omega arith));
        }

plain_found : (text : List ℕ) → is_quoted text ≡ false
    → IsPlain (trimmed (before_first is_slash text)) (drop (position_or_len is_slash text) text) text
plain_found text e = record {
  front = before_first is_slash text;
  spelled = sym (take-append-drop (position_or_len is_slash text) text);
  no_quote = λ rest is. false≢true (sym e ∙ ap is_quoted is);
  no_slash = before_has_no 47 text;
  is_title = trim_found (before_first is_slash text);
  ends = behind_is 47 text;
}

title_found : (text : List ℕ) → IsTitled (title_of text) (behind_title text) text
title_found [] = inr (plain_found [] refl)
title_found (c ∷ text) = by_test (is_quote c) refl
  where
    by_test : (b : Bool) → is_quote c ≡ b
        → IsTitled (cond b (before_first is_quote text) (trimmed (before_first is_slash (c ∷ text))))
        (cond b (after_first is_quote text) (drop (position_or_len is_slash (c ∷ text)) (c ∷ text))) (c ∷ text)
    by_test true e = inl (subst
        (λ (d : ℕ). IsQuoted (before_first is_quote text) (after_first is_quote text) (d ∷ text))
        (sym (eqb-true c 34 e)) (quoted_found text))
    by_test false e = inr (plain_found (c ∷ text) e)

record ReadsTitle (title behind text : List ℕ) : Type 0 where
  title_is : title_of text ≡ title
  behind_so : behind_title text ≡ behind

quoted_read : (title behind shown : List ℕ) → has_no 34 title ≡ true
    → ((shown ≡ []) × (behind ≡ [])) ⊎ (shown ≡ 34 ∷ behind) → ReadsTitle title behind (34 ∷ (title ++ shown))
quoted_read title behind shown none (inl empty) =
    let place : position_or_len is_quote (title ++ shown) ≡ length title = place_is 34 title shown none (inl empty.0) in
    let whole : length (title ++ shown) ≡ length title =
    ap (λ (t : List ℕ). length (title ++ t)) empty.0 ∙ ap length (append-nil title) in
    record {
      title_is = take_at title shown _ (sym place);
      behind_so = drop_all _ (title ++ shown) (omega arith) ∙ sym empty.1;
    }
quoted_read title behind shown none (inr closed) =
    let place : position_or_len is_quote (title ++ shown) ≡ length title =
    place_is 34 title shown none (inr (behind, closed)) in
    record {
      title_is = take_at title shown _ (sym place);
      behind_so = ap (λ (k : ℕ). drop (k + 1) (title ++ shown)) place ∙ drop-append-add title shown 1
          ∙ ap (drop 1) closed;
    }

not_quoted : (text : List ℕ) → ((rest : List ℕ) → text ≡ codes "\"" ++ rest → ⊥) → is_quoted text ≡ false
not_quoted [] none = refl
not_quoted (c ∷ text) none = ne_eqb c 34 (λ e. none text (ap (λ (d : ℕ). d ∷ text) e))

plain_read : (title behind text : List ℕ) → IsPlain title behind text → ReadsTitle title behind text
plain_read title behind text is =
    let place : position_or_len is_slash (is.front ++ behind) ≡ length is.front =
    place_is 47 is.front behind is.no_slash is.ends in
    let front : before_first is_slash text ≡ is.front =
    ap (before_first is_slash) is.spelled ∙ take_at is.front behind _ (sym place) in
    let rest : drop (position_or_len is_slash text) text ≡ behind =
    ap (λ (t : List ℕ). drop (position_or_len is_slash t) t) is.spelled ∙ drop_at is.front behind _ (sym place) in
    let plain : is_quoted text ≡ false = not_quoted text is.no_quote in
    record {
      title_is = rw plain (ap trimmed front ∙ trim_read title is.front is.is_title);
      behind_so = rw plain rest;
    }

title_read : (title behind text : List ℕ) → IsTitled title behind text → ReadsTitle title behind text
title_read title behind text (inl is) =
    subst (ReadsTitle title behind) (sym is.spelled) (quoted_read title behind is.shown is.no_quote is.closed)
title_read title behind text (inr is) = plain_read title behind text is

-- ---- entries

made_entry : List ℕ → List ℕ → OsEntry
made_entry path text = record { path = path; title = title_of text; switches = switches_in (behind_title text) }

entry_spelled : (line path right : List ℕ) → Sides line path right → 0 < length path
    → IsEntry (made_entry path right) line
unfolding made_entry
entry_spelled line path right s some = record {
  right = right;
  spelled = s.spelled;
  some_path = some;
  no_equals = s.no_equals;
  behind = behind_title right;
  titled = title_found right;
  words = slice_split is_blank (behind_title right);
  are_words = words_found (behind_title right);
  switches = refl;
}

entry_by : (entry : OsEntry) (line : List ℕ) (o : Option (List ℕ × List ℕ)) → sides line ≡ o
    → entry_beside o ≡ Some entry → IsEntry entry line
unfolding made_entry
entry_by entry line None is e = absurd cc
entry_by entry line (Some p) is e = by_test (eqb (length p.0) 0) refl e
  where
    by_test : (b : Bool) → eqb (length p.0) 0 ≡ b → cond b None (Some (made_entry p.0 p.1)) ≡ Some entry
        → IsEntry entry line
    by_test true empty f = absurd cc
    by_test false some f =
        let same : made_entry p.0 p.1 ≡ entry = cc in
        let one : 0 < length p.0 = omega (arith, eqb-false (length p.0) 0 some) in
        subst (λ (x : OsEntry). IsEntry x line) same (entry_spelled line p.0 p.1 (sides_found line p.0 p.1 is) one)

entry_found : (entry : OsEntry) (line : List ℕ) → entry_of line ≡ Some entry → IsEntry entry line
entry_found entry line e = entry_by entry line (sides line) refl e

entry_read : (entry : OsEntry) (line : List ℕ) → IsEntry entry line → entry_of line ≡ Some entry
entry_read entry line is =
    let t : ReadsTitle entry.title is.behind is.right = title_read entry.title is.behind is.right is.titled in
    let some : 0 < length entry.path = is.some_path in
    let ne : eqb (length entry.path) 0 ≡ false = ne_eqb _ 0 (λ z. absurd (omega arith)) in
    let words : switches_in is.behind ≡ entry.switches =
    ap (filter is_switch) (words_read is.words is.behind is.are_words) ∙ sym is.switches in
    ap entry_of is.spelled ∙ rw (sides_of entry.path is.right is.no_equals, ne, t.title_is, t.behind_so, words) refl

entries_found : (ls : List (List ℕ)) → AreEntries (filter_map entry_of ls) ls
entries_found [] = refl
entries_found (line ∷ ls) = by_entry (entry_of line) refl (entries_found ls)
  where
    by_entry : (o : Option OsEntry) → entry_of line ≡ o → AreEntries (filter_map entry_of ls) ls
        → AreEntries (cons_option o (filter_map entry_of ls)) (line ∷ ls)
    by_entry (Some entry) is more = inl (entry, filter_map entry_of ls, entry_found entry line is, refl, more)
    by_entry None is more = inr
        ((λ any spelled. let e : entry_of line ≡ Some any = entry_read any line spelled in absurd cc), more)

no_entry : (line : List ℕ) (o : Option OsEntry) → entry_of line ≡ o → ((any : OsEntry) → IsEntry any line → ⊥)
    → o ≡ None
no_entry line (Some entry) is none = absurd (none entry (entry_found entry line is))
no_entry line None is none = refl

entries_read : (entries : List OsEntry) (ls : List (List ℕ)) → AreEntries entries ls → filter_map entry_of ls ≡ entries
entries_read entries [] none = sym none
entries_read entries (line ∷ ls) (inl h) = rw (entry_read h.0 line h.2, entries_read h.1 ls h.4) (sym h.3)
entries_read entries (line ∷ ls) (inr h) = rw (no_entry line (entry_of line) refl h.0) (entries_read entries ls h.1)

-- ---- the whole text

pub ini_found : (text system : List ℕ) → IsSpelled text system (ini_of text system)
ini_found text system =
    let c : Cut (said_in text) = cut (said_in text) in
    let whole : (lines_in Loader Other (said_in text) ≡ lines_of Loader c.parts)
    × (lines_in Systems Other (said_in text) ≡ lines_of Systems c.parts) = (
      ap (lines_in Loader Other) c.divided
          ∙ parts_read Loader c.head c.rest c.parts refl c.head_stays c.are_parts,
      ap (lines_in Systems Other) c.divided
          ∙ parts_read Systems c.head c.rest c.parts refl c.head_stays c.are_parts,
    ) in
    record {
      said = said_in text;
      are_said = said_found _;
      head = c.head;
      parts = c.parts;
      rest = c.rest;
      divided = c.divided;
      head_stays = c.head_stays;
      are_parts = c.are_parts;
      timeout = timeout_text text;
      is_timeout = rw (ap (λ (ls : List (List ℕ)). first_of (filter_map (value_of (codes "timeout")) ls)) whole.0)
          (first_found (codes "timeout") (lines_of Loader c.parts));
      default = default_path text;
      is_default = rw (ap (λ (ls : List (List ℕ)). first_of (filter_map (value_of (codes "default")) ls)) whole.0)
          (first_found (codes "default") (lines_of Loader c.parts));
      entries = entries_in text;
      are_entries = rw (ap (filter_map entry_of) whole.1) (entries_found (lines_of Systems c.parts));
      says_timeout = refl;
      says_entries = refl;
      says_chosen = refl;
    }

pub ini_read : (text system : List ℕ) (ini : BootIni) → IsSpelled text system ini → ini_of text system ≡ ini
ini_read text system ini is =
    let said : said_in text ≡ is.head ++ is.rest = said_read _ is.said is.are_said ∙ is.divided in
    let loader : lines_in Loader Other (said_in text) ≡ lines_of Loader is.parts =
    ap (lines_in Loader Other) said ∙ parts_read Loader is.head is.rest is.parts refl is.head_stays is.are_parts in
    let systems : lines_in Systems Other (said_in text) ≡ lines_of Systems is.parts =
    ap (lines_in Systems Other) said ∙ parts_read Systems is.head is.rest is.parts refl is.head_stays is.are_parts in
    let timeout : timeout_text text ≡ is.timeout =
    ap (λ (ls : List (List ℕ)). first_of (filter_map (value_of (codes "timeout")) ls)) loader
    ∙ first_read (codes "timeout") is.timeout (lines_of Loader is.parts) is.is_timeout in
    let default : default_path text ≡ is.default =
    ap (λ (ls : List (List ℕ)). first_of (filter_map (value_of (codes "default")) ls)) loader
    ∙ first_read (codes "default") is.default (lines_of Loader is.parts) is.is_default in
    let entries : entries_in text ≡ is.entries =
    ap (filter_map entry_of) systems ∙ entries_read is.entries (lines_of Systems is.parts) is.are_entries in
    rw (timeout, default, entries, ← is.says_timeout, ← is.says_chosen, ← is.says_entries) refl
