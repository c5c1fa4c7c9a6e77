-- The lines of a section, and the parts of the text in which they stand.
use Rattle.std.proofs.Common.{◌≡◌, inl, inr, ℕ, Bool, true, false, cond, not, eqb, List, [], ◌∷◌, ◌++◌, length, take, drop, refl, sym, ap, ◌∙◌, arith, codes}
use Rattle.std.specs.List.{list_all, prefix_len, position_or_len, before_first}
use Rattle.std.specs.Char.{to_ascii_lowercase}
use Rattle.std.proofs.lemmas.Bool.{false≢true, eqb-true, and_parts}
use Rattle.std.proofs.lemmas.Bool.Decides.{Decides-eqb}
use Rattle.std.proofs.lemmas.List.{take-append-drop, take_at, append-nil}
use Rattle.nt_bytes.specs.Text.{names_same}
use Rattle.boot_ini.proofs.Ends.{prefix_whole, whole_front, front_passes, no_front, first_fails}
use Rattle.boot_ini.specs.declared.boot_ini.keys.Section.{Section}
use Rattle.boot_ini.specs.declared.boot_ini.keys.Section.TheVariants.{Loader, Systems, Other}
use Rattle.boot_ini.specs.boot_ini.Keys.{opens_section, is_closing, section_name, section_of_name, section_named, same_section, lines_in}
use Rattle.boot_ini.specs.boot_ini.Parts.{has_no, IsNothingOr, IsNameOf, Opens, stays, Part, AreParts, lines_of}

-- ---- a text up to the first of some byte

not_false : (b : Bool) → not b ≡ false → b ≡ true
not_false true e = refl
not_false false e = absurd (false≢true (sym e))

pub before_has_no : (c : ℕ) (text : List ℕ) → has_no c (before_first (λ d. eqb d c) text) ≡ true
before_has_no c text = front_passes (λ d. not (eqb d c)) text

pub behind_is : (c : ℕ) (text : List ℕ) → IsNothingOr c (drop (position_or_len (λ d. eqb d c) text) text)
behind_is c text = by_shape (drop (position_or_len (λ d. eqb d c) text) text) refl
  where
    by_shape : (t : List ℕ) → drop (position_or_len (λ d. eqb d c) text) text ≡ t → IsNothingOr c t
    by_shape [] e = inl refl
    by_shape (d ∷ rest) e =
        let none : prefix_len (λ d. not (eqb d c)) (d ∷ rest) ≡ 0 =
        ap (prefix_len (λ d. not (eqb d c))) (sym e) ∙ no_front (λ d. not (eqb d c)) text in
        let same : d ≡ c = eqb-true d c (not_false (eqb d c) (first_fails (λ d. not (eqb d c)) d rest none)) in
        inr (rest, ap (λ (n : ℕ). n ∷ rest) same)

itself : (c : ℕ) → not (eqb c c) ≡ false
itself c = rw ((Decides-eqb c c).1 refl) refl

-- how much stands before the first
pub place_is : (c : ℕ) (front behind : List ℕ) → has_no c front ≡ true → IsNothingOr c behind
    → position_or_len (λ d. eqb d c) (front ++ behind) ≡ length front
place_is c front behind none (inl empty) =
    ap (λ (t : List ℕ). position_or_len (λ d. eqb d c) (front ++ t)) empty
    ∙ ap (position_or_len (λ d. eqb d c)) (append-nil front) ∙ whole_front (λ d. not (eqb d c)) front none
place_is c front behind none (inr h) =
    let here : prefix_len (λ d. not (eqb d c)) (c ∷ h.0) ≡ 0 = rw (itself c) refl in
    ap (λ (t : List ℕ). position_or_len (λ d. eqb d c) (front ++ t)) h.1
    ∙ prefix_whole (λ d. not (eqb d c)) front (c ∷ h.0) none ∙ rw here (omega arith)

-- ---- lines that open a section

named_so : (name : List ℕ) → IsNameOf (section_of_name name) name
named_so name = by_loader (names_same name (codes "boot loader")) refl
  where
    by_systems : (b : Bool) → names_same name (codes "boot loader") ≡ false
        → names_same name (codes "operating systems") ≡ b → IsNameOf (cond b Systems Other) name
    by_systems true no_loader e = e
    by_systems false no_loader e = (no_loader, e)

    by_loader : (b : Bool) → names_same name (codes "boot loader") ≡ b
        → IsNameOf (cond b Loader (cond (names_same name (codes "operating systems")) Systems Other)) name
    by_loader true e = e
    by_loader false e = by_systems (names_same name (codes "operating systems")) e refl

lower_names : (name : List ℕ) → names_same name (codes "operating systems") ≡ true
    → names_same name (codes "boot loader") ≡ false
lower_names [] e = refl
lower_names (c ∷ name) e =
    let lower = to_ascii_lowercase c in
    rw (eqb-true lower 111 (and_parts (eqb lower 111) _ e).0) refl

section_is : (section : Section) (name : List ℕ) → IsNameOf section name → section_of_name name ≡ section
section_is Loader name e = rw e refl
section_is Systems name e = rw (lower_names name e, e) refl
section_is Other name e = rw (e.0, e.1) refl

opens_found : (line : List ℕ) → opens_section line ≡ true → Opens (section_named line) line
opens_found [] e = absurd (false≢true e)
opens_found (c ∷ text) e =
    let k : ℕ = position_or_len is_closing text in
    record {
      name = take k text;
      behind = drop k text;
      spelled = ap (λ (d : ℕ). d ∷ text) (eqb-true c 91 e)
          ∙ ap (λ (t : List ℕ). 91 ∷ t) (sym (take-append-drop k text));
      no_closing = before_has_no 93 text;
      closed = behind_is 93 text;
      named = named_so (take k text);
    }

record ReadsOpening (section : Section) (line : List ℕ) : Type 0 where
  opens : opens_section line ≡ true
  named : section_named line ≡ section

opens_read : (section : Section) (line : List ℕ) → Opens section line → ReadsOpening section line
opens_read section line is =
    let place = place_is 93 is.name is.behind is.no_closing is.closed in
    let name : section_name line ≡ is.name = ap section_name is.spelled ∙ take_at is.name is.behind _ (sym place) in
    record {
      opens = ap opens_section is.spelled;
      named = ap section_of_name name ∙ section_is section is.name is.named;
    }

stays_is : (line : List ℕ) → stays line ≡ not (opens_section line)
stays_is [] = refl
stays_is (c ∷ line) = refl

-- ---- parts

pub record Cut (said : List (List ℕ)) : Type 0 where
  pub head : List (List ℕ)
  pub parts : List Part
  pub rest : List (List ℕ)
  pub divided : said ≡ head ++ rest
  pub head_stays : list_all stays head ≡ true
  pub are_parts : AreParts parts rest

pub cut : (said : List (List ℕ)) → Cut said
cut [] = record { head = []; parts = []; rest = []; divided = refl; head_stays = refl; are_parts = refl }
cut (line ∷ said) = by_test (opens_section line) refl (cut said)
  where
    by_test : (b : Bool) → opens_section line ≡ b → Cut said → Cut (line ∷ said)
    by_test true e more = record {
      head = [];
      parts = record { section = section_named line; body = more.head } ∷ more.parts;
      rest = line ∷ said;
      divided = refl;
      head_stays = refl;
      are_parts = (
        line,
        more.rest,
        ap (λ (t : List (List ℕ)). line ∷ t) more.divided,
        opens_found line e,
        more.head_stays,
        more.are_parts,
      );
    }
    by_test false e more = record {
      head = line ∷ more.head;
      parts = more.parts;
      rest = more.rest;
      divided = ap (λ (t : List (List ℕ)). line ∷ t) more.divided;
      head_stays = rw (stays_is line, e, more.head_stays) refl;
      are_parts = more.are_parts;
    }

abbrev only : Section → Section → List (List ℕ) → List (List ℕ)
only wanted here body = cond (same_section wanted here) body []

stays_so : (line : List ℕ) → stays line ≡ true → opens_section line ≡ false
stays_so line e = by_test (opens_section line) (sym (stays_is line) ∙ e)
  where
    by_test : (b : Bool) → not b ≡ true → b ≡ false
    by_test true f = absurd (false≢true f)
    by_test false f = refl

-- lines that open no section all are in the section here
within : (wanted here : Section) (body rest : List (List ℕ)) → list_all stays body ≡ true
    → lines_in wanted here (body ++ rest) ≡ only wanted here body ++ lines_in wanted here rest
within wanted here [] rest all = by_test (same_section wanted here)
  where
    by_test : (b : Bool) → lines_in wanted here rest ≡ cond b [] [] ++ lines_in wanted here rest
    by_test true = refl
    by_test false = refl
within wanted here (line ∷ body) rest all =
    let q = and_parts (stays line) (list_all stays body) all in
    rw (stays_so line q.0) (by_test (same_section wanted here) refl (within wanted here body rest q.1))
  where
    by_test : (b : Bool) → same_section wanted here ≡ b
        → lines_in wanted here (body ++ rest) ≡ only wanted here body ++ lines_in wanted here rest
        → cond b (line ∷ lines_in wanted here (body ++ rest)) (lines_in wanted here (body ++ rest))
        ≡ cond b (line ∷ body) [] ++ lines_in wanted here rest
    by_test true e more = ap (λ (t : List (List ℕ)). line ∷ t)
        (more ∙ ap (λ (b : Bool). cond b body [] ++ lines_in wanted here rest) e)
    by_test false e more = more ∙ ap (λ (b : Bool). cond b body [] ++ lines_in wanted here rest) e

across : (wanted here : Section) (parts : List Part) (said : List (List ℕ)) → AreParts parts said
    → lines_in wanted here said ≡ lines_of wanted parts
across wanted here [] said none = ap (lines_in wanted here) none
across wanted here (part ∷ parts) said h =
    let o : ReadsOpening part.section h.0 = opens_read part.section h.0 h.3 in
    ap (lines_in wanted here) h.2
    ∙ rw (o.opens, o.named) (within wanted part.section part.body h.1 h.4
    ∙ ap (λ (t : List (List ℕ)). only wanted part.section part.body ++ t)
    (across wanted part.section parts h.1 h.5))

-- before the first section no line is wanted
pub parts_read : (wanted : Section) (head rest : List (List ℕ)) (parts : List Part) → same_section wanted Other ≡ false
    → list_all stays head ≡ true → AreParts parts rest
    → lines_in wanted Other (head ++ rest) ≡ lines_of wanted parts
parts_read wanted head rest parts other stay are =
    within wanted Other head rest stay ∙ ap (λ (b : Bool). cond b head [] ++ lines_in wanted Other rest) other
    ∙ across wanted Other parts rest are
