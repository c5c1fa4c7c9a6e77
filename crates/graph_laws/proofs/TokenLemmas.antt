-- A text is read part by part.
use Rattle.std.proofs.Common.{◌≡◌, ℕ, ◌==◌, ◌||◌, ◌&&◌, not, Bool, true, false, cond, List, [], ◌∷◌, ◌++◌, refl, sym, ap, subst, ◌∙◌, append_assoc, append-nil}
use Rattle.std.specs.Prelude.{nat_le}
use Rattle.std.specs.List.{list_all, flat_map}
use Rattle.std.proofs.lemmas.Bool.{false≢true, and_parts, eqb-true}
use Rattle.why_text.specs.graph_text.Dot.{in_quotes}
use Rattle.graph_laws.specs.dot_laws.Texts.{is_piece}
use Rattle.graph_laws.specs.dot_laws.Tokens.{Token, Word, Quoted, Other, Reading, Step, Between, InWord, InQuotes, AfterBackslash, is_digit, ended, tokens_from}
use Rattle.graph_laws.specs.dot_laws.Statements.{Statement, statements_from}
use Rattle.graph_laws.proofs.QuoteLemmas.{are_pieces}

-- ---- parts

-- where a reader is: in a token, and after tokens of a statement
pub record Place : Type 0 where
  pub reading : Reading
  pub before : List Token

abbrev pub at : Reading → List Token → Place
at reading before = record { reading = reading; before = before }

-- between statements
abbrev pub start : Place
start = at Between []

abbrev pub read_from : Place → List ℕ → List Statement
read_from p text = statements_from p.before (tokens_from p.reading text)

-- a text takes the reader from one place to another one, over these statements
pub record Reads (p : Place) (text : List ℕ) (said : List Statement) (q : Place) : Type 0 where
  pub all : (rest : List ℕ) → read_from p (text ++ rest) ≡ said ++ read_from q rest

pub nothing : {p : Place} → Reads p [] [] p
nothing = record { all = λ rest. refl }

pub then : {p q r : Place} {a b : List ℕ} {x y : List Statement} → Reads p a x q → Reads q b y r
    → Reads p (a ++ b) (x ++ y) r
then {p} {q} {r} {a} {b} {x} {y} one two = record {
  all = λ rest. ap (read_from p) (append_assoc a b rest) ∙ one.all (b ++ rest)
      ∙ ap (λ (s : List Statement). x ++ s) (two.all rest)
      ∙ sym (append_assoc x y (read_from r rest));
}

-- ---- words

-- what follows a step
abbrev after : List Token → List ℕ → Step → List Statement
after before rest s = statements_from before (s.0 ++ tokens_from s.1 rest)

pub in_word : (word digits : List ℕ) (before : List Token) → list_all is_digit digits ≡ true
    → Reads (at (InWord word) before) digits [] (at (InWord (word ++ digits)) before)
in_word word [] before all =
    subst (λ (w : List ℕ). Reads (at (InWord word) before) [] [] (at (InWord w) before)) (sym (append-nil word)) nothing
in_word word (c ∷ digits) before all =
    let parts = and_parts (is_digit c) (list_all is_digit digits) all in
    let on = in_word (word ++ c ∷ []) digits before parts.1 in
    subst (λ (w : List ℕ). Reads (at (InWord word) before) (c ∷ digits) [] (at (InWord w) before))
    (append_assoc word (c ∷ []) digits)
    (record {
      all = λ rest.
          ap (λ (b : Bool). after before (digits ++ rest)
          (cond (b || ((nat_le 65 c && nat_le c 90) || ((nat_le 97 c && nat_le c 122) || (c == 95))))
          ([], InWord (word ++ c ∷ [])) (ended (Word word) c))) parts.0
          ∙ on.all rest;
    })

-- ---- texts between quotes

not_true : (b : Bool) → not b ≡ true → b ≡ false
not_true true is = absurd (false≢true is)
not_true false is = refl

in_piece : (text piece : List ℕ) (before : List Token) → is_piece piece ≡ true
    → Reads (at (InQuotes text) before) piece [] (at (InQuotes (text ++ piece)) before)
in_piece text [] before is = absurd (false≢true is)
in_piece text (c ∷ []) before is =
    let parts = and_parts (not (c == 34)) (not (c == 92)) is in
    let quote = not_true (c == 34) parts.0 in
    let slash = not_true (c == 92) parts.1 in
    record {
      all = λ rest. (λ i. after before rest
          (cond (quote i) (Quoted text ∷ [], Between)
          (cond (slash i) ([], AfterBackslash text) ([], InQuotes (text ++ c ∷ [])))));
    }
in_piece text (c ∷ d ∷ []) before is =
    let parts = and_parts (c == 92) ((d == 92) || (d == 34)) is in
    subst (λ (x : ℕ). Reads (at (InQuotes text) before) (x ∷ d ∷ []) [] (at (InQuotes (text ++ x ∷ d ∷ [])) before))
    (sym (eqb-true c 92 parts.0)) (record {
      all = λ rest.
          ap (λ (b : Bool). after before rest (cond b ([], InQuotes (text ++ 92 ∷ d ∷ []))
          (Other ∷ [], Between))) parts.1;
    })
in_piece text (c ∷ d ∷ e ∷ piece) before is = absurd (false≢true is)

in_pieces : (text : List ℕ) (pieces : List (List ℕ)) (before : List Token) → list_all is_piece pieces ≡ true
    → Reads (at (InQuotes text) before) (flat_map (λ (piece : List ℕ). piece) pieces) []
    (at (InQuotes (text ++ flat_map (λ (piece : List ℕ). piece) pieces)) before)
in_pieces text [] before all =
    subst (λ (t : List ℕ). Reads (at (InQuotes text) before) [] [] (at (InQuotes t) before))
    (sym (append-nil text)) nothing
in_pieces text (piece ∷ pieces) before all =
    let parts = and_parts (is_piece piece) (list_all is_piece pieces) all in
    let whole = flat_map (λ (piece : List ℕ). piece) pieces in
    subst (λ (t : List ℕ). Reads (at (InQuotes text) before) (piece ++ whole) [] (at (InQuotes t) before))
    (append_assoc text piece whole)
    (then (in_piece text piece before parts.0) (in_pieces (text ++ piece) pieces before parts.1))

pub quoted : (text : List ℕ) (before : List Token)
    → Reads (at (InQuotes []) before) (in_quotes text) [] (at (InQuotes (in_quotes text)) before)
quoted text before =
    let is = are_pieces text in
    subst (λ (t : List ℕ). Reads (at (InQuotes []) before) t [] (at (InQuotes t) before)) (sym is.whole)
    (in_pieces [] is.pieces before is.each)
