-- A text to which lines are put.
use Rattle.std.proofs.Common.{◌≡◌, ℕ, ◌+◌, ◌<◌, List, [], ◌∷◌, ◌++◌, map, take, length, get_or, sym, ap, ◌∙◌, append_assoc, append-nil}
use Rattle.std.specs.Prelude.{Result, Ok, Err, OnOk}
use Rattle.std.proofs.lemmas.Grind.{flat_map-append}
use Rattle.std.proofs.lemmas.List.{map-append, take_more}
use Rattle.report_words.specs.declared.line.Line.{Line}
use Rattle.report_text.specs.line_objects.Objects.{printed, printed_lines}
use Rattle.report_text.specs.declared.line_text.form.ReportForm.{ReportForm}

-- one line, and then others
pub line_then : (form : ReportForm) (t : List ℕ) (l : Line) (ls : List Line)
    → (t ++ printed form l) ++ printed_lines form ls ≡ t ++ printed_lines form (l ∷ ls)
line_then form t l ls = append_assoc t (printed form l) (printed_lines form ls)

pub lines_then : (form : ReportForm) (t : List ℕ) (ks ls : List Line)
    → (t ++ printed_lines form ks) ++ printed_lines form ls ≡ t ++ printed_lines form (ks ++ ls)
lines_then form t ks ls = append_assoc t (printed_lines form ks) (printed_lines form ls)
    ∙ ap (λ x. t ++ x) (sym (flat_map-append (printed form) ks ls))

pub last_line : (form : ReportForm) (t : List ℕ) (l : Line) → t ++ printed form l ≡ t ++ printed_lines form (l ∷ [])
last_line form t l = ap (λ x. t ++ x) (sym (append-nil (printed form l)))

-- two lines
pub two_lines : {E : Type 0} (form : ReportForm) (r : Result (Unit {0}) E) (t t1 t2 : List ℕ) (k l : Line)
    → t1 ≡ t ++ printed form k
    → OnOk r (t2 ≡ t1 ++ printed form l) → OnOk r (t2 ≡ t ++ printed_lines form (k ∷ l ∷ []))
two_lines form (Ok u) t t1 t2 k l one two =
    two ∙ ap (λ x. x ++ printed form l) one ∙ last_line form (t ++ printed form k) l ∙ line_then form t k (l ∷ [])
two_lines form (Err e) t t1 t2 k l one two = tt

-- one more of a list of lines
pub more_lines : {X : Type 0} (form : ReportForm) (line_of : X
    → Line) (xs : List X) (i : ℕ) (x : X) (l : Line) (t t1 t2 : List ℕ)
    → i < length xs → x ≡ get_or xs i x → l ≡ line_of x
    → t2 ≡ t1 ++ printed form l → t1 ≡ t ++ printed_lines form (map line_of (take i xs))
    → t2 ≡ t ++ printed_lines form (map line_of (take (i + 1) xs))
more_lines form line_of xs i x l t t1 t2 lt is same more so_far =
    let front = map line_of (take i xs) in
    let all : map line_of (take (i + 1) xs) ≡ front ++ l ∷ [] =
    ap (map line_of) (take_more xs i x lt ∙ ap (λ y. take i xs ++ y ∷ []) (sym is))
    ∙ map-append line_of (take i xs) (x ∷ []) ∙ ap (λ y. front ++ y ∷ []) (sym same) in
    more ∙ ap (λ y. y ++ printed form l) so_far ∙ last_line form (t ++ printed_lines form front) l
    ∙ lines_then form t front (l ∷ [])
    ∙ ap (λ ls. t ++ printed_lines form ls) (sym all)

-- a first line, lines, and a last one
pub framed : {E : Type 0} (form : ReportForm) (r : Result (Unit {0}) E) (t t1 t2 t3 : List ℕ) (k l : Line)
    (said lines : List Line)
    → t1 ≡ t ++ printed form k → t2 ≡ t1 ++ printed_lines form said → said ≡ lines → OnOk r (t3 ≡ t2 ++ printed form l)
    → OnOk r (t3 ≡ t ++ printed_lines form (k ∷ lines ++ l ∷ []))
framed form (Ok u) t t1 t2 t3 k l said lines one two is three =
    three ∙ ap (λ x. x ++ printed form l) (two ∙ (λ i. one i ++ printed_lines form (is i)))
    ∙ last_line form ((t ++ printed form k) ++ printed_lines form lines) l
    ∙ lines_then form (t ++ printed form k) lines (l ∷ [])
    ∙ line_then form t k (lines ++ l ∷ [])
framed form (Err e) t t1 t2 t3 k l said lines one two is three = tt

-- the parts of the report
pub three_parts : (form : ReportForm) (t t1 t2 t3 mode : List ℕ) (k : Line) (lines : List Line) → t ≡ []
    → t1 ≡ t ++ printed form k
    → t2 ≡ t1 ++ mode → t3 ≡ t2 ++ printed_lines form lines
    → t3 ≡ printed_lines form (k ∷ []) ++ mode ++ printed_lines form lines
three_parts form t t1 t2 t3 mode k lines none one two three =
    let first : t1 ≡ printed_lines form (k ∷ []) = one ∙ ap (λ x. x ++ printed form k) none
    ∙ sym (append-nil (printed form k)) in
    three ∙ ap (λ x. x ++ printed_lines form lines) (two ∙ ap (λ x. x ++ mode) first)

pub two_parts : (form : ReportForm) (t t1 t2 : List ℕ) (k : Line) (lines : List Line) → t ≡ []
    → t1 ≡ t ++ printed form k
    → t2 ≡ t1 ++ printed_lines form lines → t2 ≡ printed_lines form (k ∷ lines)
two_parts form t t1 t2 k lines none one two = two ∙ ap (λ x. x ++ printed_lines form lines) (one
    ∙ ap (λ x. x ++ printed form k) none)
