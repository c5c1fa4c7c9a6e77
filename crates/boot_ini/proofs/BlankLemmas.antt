-- What lines say, without the blanks around it.
use Rattle.std.proofs.Common.{◌≡◌, inl, inr, ℕ, zero, suc, ◌-◌, ◌<◌, Bool, true, false, cond, not, eqb, List, [], ◌∷◌, ◌++◌, length, take, drop, refl, sym, ap, ◌∙◌, arith, codes}
use Rattle.std.specs.List.{list_all, prefix_len, suffix_len}
use Rattle.std.proofs.lemmas.Bool.{false≢true, eqb-true}
use Rattle.std.proofs.lemmas.List.{take-append-drop, drop_at, drop_all}
use Rattle.std.proofs.lemmas.List.Folds.{list_all-append}
use Rattle.nt_bytes.specs.Text.{is_blank, trimmed, without_front_blanks, without_last_blanks}
use Rattle.boot_ini.proofs.Ends.{prefix_whole, whole_front, front_passes, no_front, first_fails, no_suffix, all_behind, last_fails, no_end, end_dropped}
use Rattle.boot_ini.specs.boot_ini.Keys.{says_something, said_lines}
use Rattle.boot_ini.specs.boot_ini.Parts.{IsBetweenBlanks, Says, IsSilent, AreSaid}

-- ---- a text and the blanks around it

pub trim_found : (text : List ℕ) → IsBetweenBlanks (trimmed text) text
trim_found text =
    let k : ℕ = prefix_len is_blank text in
    let behind : List ℕ = drop k text in
    let m : ℕ = length behind - suffix_len is_blank behind in
    let parts : behind ≡ take m behind ++ drop m behind = sym (take-append-drop m behind) in
    record {
      front = take k text;
      back = drop m behind;
      spelled = sym (take-append-drop k text) ∙ ap (λ (t : List ℕ). take k text ++ t) parts;
      front_blank = front_passes is_blank text;
      back_blank = all_behind is_blank behind m refl;
      starts = λ c rest is.
          let begins : behind ≡ c ∷ (rest ++ drop m behind) = parts ∙ ap (λ (t : List ℕ). t ++ drop m behind) is in
          first_fails is_blank c (rest ++ drop m behind)
          (ap (prefix_len is_blank) (sym begins) ∙ no_front is_blank text);
      ends = λ front c is. last_fails is_blank (take m behind) front c (no_suffix is_blank behind m refl) is;
    }

-- the front blanks are dropped
front_dropped : (front : List ℕ) (c : ℕ) (rest : List ℕ) → list_all is_blank front ≡ true → is_blank c ≡ false
    → without_front_blanks (front ++ c ∷ rest) ≡ c ∷ rest
front_dropped front c rest all none =
    let here : prefix_len is_blank (c ∷ rest) ≡ 0 = rw none refl in
    let n : prefix_len is_blank (front ++ c ∷ rest) ≡ length front =
    prefix_whole is_blank front (c ∷ rest) all ∙ rw here (omega arith) in
    drop_at front (c ∷ rest) _ (sym n)

all_dropped : (text : List ℕ) → list_all is_blank text ≡ true → trimmed text ≡ []
all_dropped text all =
    let none : without_front_blanks text ≡ [] = drop_all _ text (omega (arith, whole_front is_blank text all)) in
    ap without_last_blanks none

trim_between : (front inner back : List ℕ) → list_all is_blank front ≡ true → list_all is_blank back ≡ true
    → ((c : ℕ) (rest : List ℕ) → inner ≡ c ∷ rest → is_blank c ≡ false)
    → ((front : List ℕ) (c : ℕ) → inner ≡ front ++ c ∷ [] → is_blank c ≡ false)
    → trimmed (front ++ (inner ++ back)) ≡ inner
trim_between front [] back all_front all_back starts ends =
    all_dropped (front ++ back) (list_all-append is_blank front back ∙ rw (all_front, all_back) refl)
trim_between front (c ∷ inner) back all_front all_back starts ends =
    ap without_last_blanks (front_dropped front c (inner ++ back) all_front (starts c inner refl))
    ∙ end_dropped is_blank (c ∷ inner) back all_back (no_end is_blank (c ∷ inner) ends)

pub trim_read : (inner text : List ℕ) → IsBetweenBlanks inner text → trimmed text ≡ inner
trim_read inner text is =
    ap trimmed is.spelled ∙ trim_between is.front inner is.back is.front_blank is.back_blank is.starts is.ends

-- ---- what a line says

some_said : (text : List ℕ) → says_something text ≡ true → 0 < length text
some_said [] e = absurd (false≢true e)
some_said (c ∷ text) e = omega arith

not_said : (text rest : List ℕ) → text ≡ codes ";" ++ rest → says_something text ≡ false
not_said text rest is = ap says_something is

line_says : (line : List ℕ) → says_something (trimmed line) ≡ true → Says (trimmed line) line
line_says line e = record {
  between = trim_found line;
  some = some_said (trimmed line) e;
  no_comment = λ rest is. false≢true (sym (not_said (trimmed line) rest is) ∙ e);
}

silent_by : (inner line : List ℕ) → says_something inner ≡ false → IsBetweenBlanks inner line → IsSilent line
silent_by [] line e is = inl
    (ap (list_all is_blank) is.spelled ∙ list_all-append is_blank is.front is.back
    ∙ rw (is.front_blank, is.back_blank) refl)
silent_by (c ∷ inner) line e is =
    inr (
      is.front,
      inner ++ is.back,
      is.front_blank,
      is.spelled
          ∙ ap (λ (d : ℕ). is.front ++ d ∷ (inner ++ is.back)) (by_test (eqb c 59) refl e),
    )
  where
    by_test : (b : Bool) → eqb c 59 ≡ b → not b ≡ false → c ≡ 59
    by_test true same e = eqb-true c 59 same
    by_test false same e = absurd (false≢true (sym e))

pub said_found : (raw : List (List ℕ)) → AreSaid (said_lines raw) raw
said_found [] = refl
said_found (line ∷ raw) = by_test (says_something (trimmed line)) refl (said_found raw)
  where
    by_test : (b : Bool) → says_something (trimmed line) ≡ b → AreSaid (said_lines raw) raw
        → AreSaid (cond b (trimmed line ∷ said_lines raw) (said_lines raw)) (line ∷ raw)
    by_test true e more = inl (trimmed line, said_lines raw, line_says line e, refl, more)
    by_test false e more = inr (silent_by (trimmed line) line e (trim_found line), more)

says_so : (said : List ℕ) → 0 < length said → ((rest : List ℕ) → said ≡ codes ";" ++ rest → ⊥)
    → says_something said ≡ true
says_so [] some no_comment = absurd (omega arith)
says_so (c ∷ said) some no_comment = by_test (eqb c 59) refl
  where
    by_test : (b : Bool) → eqb c 59 ≡ b → not b ≡ true
    by_test true e = absurd (no_comment said (ap (λ (d : ℕ). d ∷ said) (eqb-true c 59 e)))
    by_test false e = refl

comment_taken : (m : ℕ) (rest : List ℕ) → says_something (take m (59 ∷ rest)) ≡ false
comment_taken zero rest = refl
comment_taken (suc m) rest = refl

silent_read : (line : List ℕ) → IsSilent line → says_something (trimmed line) ≡ false
silent_read line (inl all) = ap says_something (all_dropped line all)
silent_read line (inr h) =
    let begins : without_front_blanks line ≡ 59 ∷ h.1 =
    ap without_front_blanks h.3 ∙ front_dropped h.0 59 h.1 h.2 refl in
    ap (λ (t : List ℕ). says_something (without_last_blanks t)) begins ∙ comment_taken _ h.1

pub said_read : (raw said : List (List ℕ)) → AreSaid said raw → said_lines raw ≡ said
said_read [] said none = sym none
said_read (line ∷ raw) said (inl h) =
    let first : Says h.0 line = h.2 in
    let same : trimmed line ≡ h.0 = trim_read h.0 line first.between in
    rw (same, says_so h.0 first.some first.no_comment, said_read raw h.1 h.4) (sym h.3)
said_read (line ∷ raw) said (inr h) = rw (silent_read line h.0) (said_read raw said h.1)
