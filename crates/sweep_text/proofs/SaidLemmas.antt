-- Lines as texts are reported as the lines are.
use Rattle.std.proofs.Common.{◌≡◌, ℕ, zero, suc, ◌+◌, ◌/◌, ◌%◌, Bool, true, false, ◌||◌, eqb, cond, List, [], ◌∷◌, ◌++◌, length, take, drop, map, refl, sym, ap, ◌∙◌, arith, append_assoc, append-nil}
use Rattle.std.specs.Prelude.{codes}
use Rattle.std.specs.List.{flat_map, list_any, list_all, prefix_len}
use Rattle.std.specs.Str.{bytes_eq}
use Rattle.std.specs.Fmt.{decimal, digits, digits_onto, digit_glyph}
use Rattle.std.proofs.lemmas.Bool.{and_parts, and_from}
use Rattle.std.proofs.lemmas.Bool.Decides.{nat_tests}
use Rattle.std.proofs.lemmas.List.{append_cancel_right}
use Rattle.report_text.proofs.TextLemmas.{body, text-body}
use Rattle.report_words.specs.declared.words.RefusedWord.{RefusedWord}
use Rattle.report_words.specs.declared.words.EventWord.{EventWord}
use Rattle.report_words.specs.declared.words.CommitWord.{CommitWord}
use Rattle.report_words.specs.declared.words.CommitWord.TheVariants as commits
use Rattle.report_words.specs.declared.words.EventWord.TheVariants as events
use Rattle.report_words.specs.declared.line.Line.{Line}
use Rattle.report_words.specs.declared.line.Line.TheVariants as lines
use Rattle.start_model.specs.Lines.{line_text, load_word, commit_word}
use Rattle.report_text.specs.declared.line_text.form.ReportForm.{ReportForm}
use Rattle.report_text.specs.declared.line_text.form.ReportForm.TheVariants as forms
use Rattle.report_text.specs.line_text.Objects.{Number, Text, field_text, opening_text}
use Rattle.report_text.specs.line_objects.Objects.{line_json}
use Rattle.sweep_text.specs.declared.sweep_text.logged.Logged.{Logged}
use Rattle.sweep_text.specs.sweep_text.Words.{in_word, word_of, after_word, digits_field, load_object, commit_object, told_text, recovers_text, commits_text}
use Rattle.sweep_text.specs.sweep_text.Said.{told, is_recovery, is_commit, told_in, recovers, commits}
use Rattle.sweep_text.specs.sweep_text.Report.{stages_by, report_by, sweep_report, AreTexts}

-- ---- words

abbrev IsWord : List ℕ → Type 0
IsWord w = list_all in_word w ≡ true

word_end : (w r : List ℕ) → IsWord w → prefix_len in_word (w ++ 32 ∷ r) ≡ length w
word_end [] r all = refl
word_end (c ∷ w) r all =
    let p = and_parts (in_word c) (list_all in_word w) all in
    let more : 1 + length w ≡ suc (length w) = omega arith in
    rw (p.0, word_end w r p.1) more

front : (w r : List ℕ) → take (length w) (w ++ r) ≡ w
front [] r = refl
front (c ∷ w) r = ap (λ (l : List ℕ). c ∷ l) (front w r)

back : (w r : List ℕ) → drop (length w) (w ++ r) ≡ r
back [] r = refl
back (c ∷ w) r = back w r

word_is : (w r : List ℕ) → IsWord w → word_of (w ++ 32 ∷ r) ≡ w
word_is w r all = ap (λ (k : ℕ). take k (w ++ 32 ∷ r)) (word_end w r all) ∙ front w (32 ∷ r)

after_is : (w r : List ℕ) → IsWord w → after_word (w ++ 32 ∷ r) ≡ r
after_is w r all = ap (λ (k : ℕ). drop 1 (drop k (w ++ 32 ∷ r))) (word_end w r all) ∙ ap (drop 1) (back w (32 ∷ r))

-- ---- numbers are words

glyph : (d : ℕ) → in_word (digit_glyph false d) ≡ true
glyph d = grind (arith, nat_tests)

choice : (b : Bool) (x y : List ℕ) → IsWord x → IsWord y → IsWord (cond b x y)
choice true x y e f = e
choice false x y e f = f

onto : (k n : ℕ) (acc : List ℕ) → IsWord acc → IsWord (digits_onto k 10 false n acc)
onto zero n acc e = e
onto (suc k) n acc e =
    let further = and_from _ _ (glyph (n % 10)) e in
    choice (eqb (n / 10) 0) (digit_glyph false (n % 10) ∷ acc)
    (digits_onto k 10 false (n / 10) (digit_glyph false (n % 10) ∷ acc)) further
    (onto k (n / 10) (digit_glyph false (n % 10) ∷ acc) further)

number_word : (n : ℕ) → IsWord (decimal n)
unfolding digits
number_word n = onto 64 n [] refl

-- ---- a load

-- what follows `load `
abbrev load_words : ℕ → Bool → List ℕ
load_words sequence recovered = decimal sequence ++ codes " " ++ load_word recovered

load_first : (n : ℕ) (r : Bool) → word_of (load_words n r) ≡ decimal n
load_first n r =
    ap word_of (append_assoc (decimal n) (codes " ") (load_word r)) ∙ word_is (decimal n) (load_word r) (number_word n)

load_second : (n : ℕ) (r : Bool) → after_word (load_words n r) ≡ load_word r
load_second n r =
    ap after_word (append_assoc (decimal n) (codes " ") (load_word r)) ∙ after_is (decimal n) (load_word r) (number_word n)

abbrev load_made : List ℕ → List ℕ → List ℕ
load_made digits state =
    opening_text (codes "load") ++ (digits_field (codes "sequence") digits ++ field_text (codes "state") (Text state)) ++ codes "}\n"

load_told : (n : ℕ) (r : Bool) → load_object (load_words n r) ≡ line_json (lines.Load n r)
load_told n r =
    let state : List ℕ = field_text (codes "state") (Text (load_word r)) in
    let ends : state ≡ state ++ [] = sym (append-nil state) in
    ap (λ (x : List ℕ). load_made x (after_word (load_words n r))) (load_first n r)
    ∙ ap (λ (y : List ℕ). load_made (decimal n) y) (load_second n r)
    ∙ ap (λ (z : List ℕ). opening_text (codes "load") ++ (digits_field (codes "sequence") (decimal n) ++ z) ++ codes "}\n") ends

recovered_is : (r : Bool) → bytes_eq (load_word r) (codes "recovered") ≡ r
recovered_is true = refl
recovered_is false = refl

-- ---- a commit

abbrev commit_words : CommitWord → ℕ → List ℕ
commit_words what sequence = commit_word what ++ codes " " ++ decimal sequence

abbrev commit_made : List ℕ → ℕ → List ℕ
commit_made word n =
    opening_text (codes "commit") ++ (field_text (codes "what") (Text word) ++ digits_field (codes "sequence") (decimal n)) ++ codes "}\n"

commit_ends : (what : CommitWord) (n : ℕ) → commit_made (commit_word what) n ≡ line_json (lines.Commit what n)
commit_ends what n =
    let number : List ℕ = field_text (codes "sequence") (Number n) in
    let ends : number ≡ number ++ [] = sym (append-nil number) in
    ap (λ (z : List ℕ). opening_text (codes "commit") ++ (field_text (codes "what") (Text (commit_word what)) ++ z) ++ codes "}\n") ends

commit_told : (what : CommitWord) (n : ℕ) → commit_object (commit_words what n) ≡ line_json (lines.Commit what n)
commit_told commits.Begin n = commit_ends commits.Begin n
commit_told commits.Save n = commit_ends commits.Save n
commit_told commits.Flush n = commit_ends commits.Flush n
commit_told commits.Off n = commit_ends commits.Off n

-- ---- a refusal

refused_told : (event : EventWord) (why : RefusedWord)
    → told_text forms.Json (body (lines.Refused event why)) ≡ line_json (lines.Refused event why)
refused_told events.Boot why = refl
refused_told events.Go why = refl
refused_told events.Fail why = refl
refused_told events.Vital why = refl
refused_told events.Set why = refl
refused_told events.Delete why = refl
refused_told events.Make why = refl
refused_told events.Remove why = refl
refused_told events.Flush why = refl
refused_told events.Logon why = refl
refused_told events.Off why = refl
refused_told events.Cut why = refl
refused_told events.Fault why = refl

save_told : (full : Bool) → told_text forms.Json (body (lines.SaveRefused full)) ≡ line_json (lines.SaveRefused full)
save_told true = refl
save_told false = refl

-- ---- each line

line_told : (form : ReportForm) (l : Line) → told_text form (body l) ≡ told form l
line_told forms.Text (lines.Start number) = refl
line_told forms.Text (lines.Entry number path) = refl
line_told forms.Text (lines.Load sequence recovered) = sym (text-body (lines.Load sequence recovered))
line_told forms.Text (lines.Set number on_good) = refl
line_told forms.Text (lines.Commit what sequence) = sym (text-body (lines.Commit what sequence))
line_told forms.Text (lines.Select current default failed good) = refl
line_told forms.Text (lines.Phase word) = refl
line_told forms.Text (lines.Try name outcome) = refl
line_told forms.Text (lines.Unmet name) = refl
line_told forms.Text (lines.Vital name) = refl
line_told forms.Text lines.Logon = refl
line_told forms.Text (lines.SaveRefused full) = sym (text-body (lines.SaveRefused full))
line_told forms.Text lines.EditOk = refl
line_told forms.Text lines.FlushNothing = sym (text-body lines.FlushNothing)
line_told forms.Text (lines.Refused event why) = sym (text-body (lines.Refused event why))
line_told forms.Text (lines.Verdict word) = sym (text-body (lines.Verdict word))
line_told forms.Text lines.End = refl
line_told forms.Json (lines.Start number) = refl
line_told forms.Json (lines.Entry number path) = refl
line_told forms.Json (lines.Load sequence recovered) = load_told sequence recovered
line_told forms.Json (lines.Set number on_good) = refl
line_told forms.Json (lines.Commit what sequence) = commit_told what sequence
line_told forms.Json (lines.Select current default failed good) = refl
line_told forms.Json (lines.Phase word) = refl
line_told forms.Json (lines.Try name outcome) = refl
line_told forms.Json (lines.Unmet name) = refl
line_told forms.Json (lines.Vital name) = refl
line_told forms.Json lines.Logon = refl
line_told forms.Json (lines.SaveRefused full) = save_told full
line_told forms.Json lines.EditOk = refl
line_told forms.Json lines.FlushNothing = refl
line_told forms.Json (lines.Refused event why) = refused_told event why
line_told forms.Json (lines.Verdict word) = refl
line_told forms.Json lines.End = refl

line_recovers : (l : Line) → recovers_text (body l) ≡ is_recovery l
line_recovers (lines.Start number) = refl
line_recovers (lines.Entry number path) = refl
line_recovers (lines.Load sequence recovered) =
    ap (λ (w : List ℕ). bytes_eq w (codes "recovered")) (load_second sequence recovered) ∙ recovered_is recovered
line_recovers (lines.Set number on_good) = refl
line_recovers (lines.Commit what sequence) = refl
line_recovers (lines.Select current default failed good) = refl
line_recovers (lines.Phase word) = refl
line_recovers (lines.Try name outcome) = refl
line_recovers (lines.Unmet name) = refl
line_recovers (lines.Vital name) = refl
line_recovers lines.Logon = refl
line_recovers (lines.SaveRefused full) = refl
line_recovers lines.EditOk = refl
line_recovers lines.FlushNothing = refl
line_recovers (lines.Refused event why) = refl
line_recovers (lines.Verdict word) = refl
line_recovers lines.End = refl

line_commits : (l : Line) → commits_text (body l) ≡ is_commit l
line_commits (lines.Start number) = refl
line_commits (lines.Entry number path) = refl
line_commits (lines.Load sequence recovered) = refl
line_commits (lines.Set number on_good) = refl
line_commits (lines.Commit what sequence) = refl
line_commits (lines.Select current default failed good) = refl
line_commits (lines.Phase word) = refl
line_commits (lines.Try name outcome) = refl
line_commits (lines.Unmet name) = refl
line_commits (lines.Vital name) = refl
line_commits lines.Logon = refl
line_commits (lines.SaveRefused full) = refl
line_commits lines.EditOk = refl
line_commits lines.FlushNothing = refl
line_commits (lines.Refused event why) = refl
line_commits (lines.Verdict word) = refl
line_commits lines.End = refl

-- ---- all of them

abbrev bodies : List Line → List (List ℕ)
bodies lines = map body lines

-- the texts are the lines without their LF
pub texts_are : (texts : List (List ℕ)) (lines : List Line) → AreTexts texts lines → texts ≡ bodies lines
texts_are [] [] are = refl
texts_are [] (l ∷ lines) are = absurd cc
texts_are (t ∷ texts) [] are = absurd cc
texts_are (t ∷ texts) (l ∷ lines) are =
    let first : t ++ 10 ∷ [] ≡ line_text l = cc in
    let rest : AreTexts texts lines = cc in
    let one : t ≡ body l = append_cancel_right t (body l) (10 ∷ []) (first ∙ text-body l) in
    λ i. one i ∷ texts_are texts lines rest i

bodies_told : (form : ReportForm) (lines : List Line) → flat_map (told_text form) (bodies lines) ≡ told_in form lines
bodies_told form [] = refl
bodies_told form (l ∷ lines) = λ i. line_told form l i ++ bodies_told form lines i

bodies_recover : (lines : List Line) → list_any recovers_text (bodies lines) ≡ recovers lines
bodies_recover [] = refl
bodies_recover (l ∷ lines) = λ i. line_recovers l i || bodies_recover lines i

bodies_commit : (lines : List Line) → list_any commits_text (bodies lines) ≡ commits lines
bodies_commit [] = refl
bodies_commit (l ∷ lines) = λ i. line_commits l i || bodies_commit lines i

pub same_report : (form : ReportForm) (event : List ℕ) (texts : List (List ℕ)) (lines : List Line) (recovery commit : Logged)
    → AreTexts texts lines
    → report_by form event (flat_map (told_text form) texts)
    (stages_by (list_any recovers_text texts) (list_any commits_text texts) recovery commit)
    ≡ sweep_report form event lines recovery commit
same_report form event texts lines recovery commit are =
    ap (λ (ts : List (List ℕ)). report_by form event (flat_map (told_text form) ts)
    (stages_by (list_any recovers_text ts) (list_any commits_text ts) recovery commit)) (texts_are texts lines are)
    ∙ λ i. report_by form event (bodies_told form lines i) (stages_by (bodies_recover lines i) (bodies_commit lines i) recovery commit)
