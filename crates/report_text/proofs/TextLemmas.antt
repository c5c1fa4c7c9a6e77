-- The whole lines of a report's text are its lines, and each reports by its first letters what it reports.
use Rattle.std.proofs.Common.{◌≡◌, ℕ, zero, suc, ◌+◌, ◌-◌, ◌/◌, ◌%◌, ◌<◌, ◌==◌, Bool, true, false, not, eqb, cond, List, [], ◌∷◌, ◌++◌, length, take, Option, Some, None, refl, sym, ap, ◌∙◌, arith, append_assoc}
use Rattle.std.specs.Prelude.{codes, filter_map}
use Rattle.std.specs.List.{slice_split, list_all, count_by, cons_option}
use Rattle.std.specs.Fmt.{decimal, digits, digits_onto, digit_glyph}
use Rattle.std.proofs.lemmas.List.Folds.{list_all-append}
use Rattle.std.proofs.lemmas.List.Splits.{length-slice_split}
use Rattle.std.proofs.lemmas.Bool.{false≢true, ne_eqb, and_parts, and_from}
use Rattle.std.proofs.lemmas.Bool.Decides.{nat_tests}
use Rattle.report_words.specs.declared.words.PhaseWord.{PhaseWord}
use Rattle.report_words.specs.declared.words.Verdict.{Verdict}
use Rattle.report_words.specs.declared.words.Verdict.TheVariants as verdicts
use Rattle.report_words.specs.declared.words.PhaseWord.TheVariants as phases
use Rattle.report_words.specs.declared.words.RefusedWord.{RefusedWord}
use Rattle.report_words.specs.declared.words.EventWord.{EventWord}
use Rattle.report_words.specs.declared.words.CommitWord.{CommitWord}
use Rattle.report_words.specs.declared.words.TryWord.{TryWord}
use Rattle.report_words.specs.declared.words.TryWord.TheVariants as tries
use Rattle.report_words.specs.declared.words.CommitWord.TheVariants as commits
use Rattle.report_words.specs.declared.words.EventWord.TheVariants as events
use Rattle.report_words.specs.declared.words.RefusedWord.TheVariants as reasons
use Rattle.report_words.specs.declared.line.Line.{Line}
use Rattle.report_words.specs.declared.line.Line.TheVariants as lines
use Rattle.start_model.specs.Lines.{line_text, text_of, unit_text, name_text, path_text, shown_byte, escaped, commit_word, phase_word, try_word, event_word, refused_word, verdict_word, load_word, set_word, save_word}
use Rattle.nt_bytes.specs.Text.{is_printable}
use Rattle.start_model.specs.Possible.{Outcome}
use Rattle.start_model.specs.Fits.{outcomes_in, outcomes_of, outcome_of, whole_lines, verdict_outcome}

-- ---- texts without LF

abbrev pub is_no_lf : ℕ → Bool
is_no_lf c = not (c == 10)

abbrev pub has_no_lf : List ℕ → Bool
has_no_lf text = list_all is_no_lf text

not_true : (b : Bool) → not b ≡ true → b ≡ false
not_true true e = absurd (false≢true e)
not_true false e = refl

no_lf-append : (a b : List ℕ) → has_no_lf a ≡ true → has_no_lf b ≡ true → has_no_lf (a ++ b) ≡ true
no_lf-append a b e f = list_all-append is_no_lf a b ∙ and_from _ _ e f

above_lf : (c : ℕ) → 10 < c → is_no_lf c ≡ true
above_lf c lt = rw (ne_eqb c 10 (λ e. absurd (omega arith))) refl

glyph : (d : ℕ) → is_no_lf (digit_glyph false d) ≡ true
glyph d = above_lf (digit_glyph false d) (grind (arith, nat_tests))

no_lf-bool : (b : Bool) (x y : List ℕ) → has_no_lf x ≡ true → has_no_lf y ≡ true → has_no_lf (cond b x y) ≡ true
no_lf-bool true x y e f = e
no_lf-bool false x y e f = f

no_lf-digits_onto : (k n : ℕ) (acc : List ℕ) → has_no_lf acc ≡ true → has_no_lf (digits_onto k 10 false n acc) ≡ true
no_lf-digits_onto zero n acc e = e
no_lf-digits_onto (suc k) n acc e =
    no_lf-bool (eqb (n / 10) 0) (digit_glyph false (n % 10) ∷ acc)
    (digits_onto k 10 false (n / 10) (digit_glyph false (n % 10) ∷ acc))
    (and_from _ _ (glyph (n % 10)) e)
    (no_lf-digits_onto k (n / 10) (digit_glyph false (n % 10) ∷ acc) (and_from _ _ (glyph (n % 10)) e))

no_lf-decimal : (n : ℕ) → has_no_lf (decimal n) ≡ true
unfolding digits
no_lf-decimal n = no_lf-digits_onto 64 n [] refl

no_lf-unit : (u : ℕ) → has_no_lf (unit_text u) ≡ true
unfolding unit_text
no_lf-unit u = by_shape (is_printable u) refl
  where
    by_shape : (b : Bool) → is_printable u ≡ b → has_no_lf (cond b (u ∷ []) (escaped u)) ≡ true
    by_shape true e = and_from _ _ (above_lf u (grind (arith, nat_tests))) refl
    by_shape false e = and_from _ _ (glyph (u / 4096))
        (and_from _ _ (glyph (u / 256 % 16)) (and_from _ _ (glyph (u / 16 % 16)) (and_from _ _ (glyph (u % 16)) refl)))

no_lf-name : (units : List ℕ) → has_no_lf (name_text units) ≡ true
no_lf-name [] = refl
no_lf-name (u ∷ units) = no_lf-append (unit_text u) (name_text units) (no_lf-unit u) (no_lf-name units)

no_lf-shown : (c : ℕ) → is_no_lf (shown_byte c) ≡ true
no_lf-shown c = by_shape (is_printable c) refl
  where
    by_shape : (b : Bool) → is_printable c ≡ b → is_no_lf (cond b c 63) ≡ true
    by_shape true e = above_lf c (grind (arith, nat_tests))
    by_shape false e = refl

no_lf-path : (path : List ℕ) → has_no_lf (path_text path) ≡ true
no_lf-path [] = refl
no_lf-path (c ∷ path) = and_from _ _ (no_lf-shown c) (no_lf-path path)

-- ---- lines without their LF

abbrev pub body : Line → List ℕ
body (lines.Start number) = codes "start " ++ decimal number
body (lines.Entry number path) = codes "entry " ++ decimal number ++ codes " " ++ path_text path
body (lines.Load sequence recovered) = codes "load " ++ decimal sequence ++ codes " " ++ load_word recovered
body (lines.Set number on_good) = codes "set " ++ decimal number ++ codes " " ++ set_word on_good
body (lines.Commit what sequence) = codes "commit " ++ commit_word what ++ codes " " ++ decimal sequence
body (lines.Select current default failed good) =
    codes "select " ++ decimal current ++ codes " " ++ decimal default ++ codes " " ++ decimal failed ++ codes " "
    ++ decimal good
body (lines.Phase word) = codes "phase " ++ phase_word word
body (lines.Try name outcome) = codes "try " ++ name_text name ++ codes " " ++ try_word outcome
body (lines.Unmet name) = codes "unmet " ++ name_text name
body (lines.Vital name) = codes "vital " ++ name_text name ++ codes " missing"
body lines.Logon = codes "logon"
body (lines.SaveRefused full) = codes "save refused " ++ save_word full
body lines.EditOk = codes "edit ok"
body lines.FlushNothing = codes "flush nothing"
body (lines.Refused event why) = codes "refused " ++ event_word event ++ codes " " ++ refused_word why
body (lines.Verdict word) = codes "verdict " ++ verdict_word word
body lines.End = codes "end"

pub text-body : (l : Line) → line_text l ≡ body l ++ 10 ∷ []
unfolding line_text
text-body (lines.Start number) = refl
text-body (lines.Entry number path) = refl
text-body (lines.Load sequence recovered) = refl
text-body (lines.Set number on_good) = refl
text-body (lines.Commit what sequence) = refl
text-body (lines.Select current default failed good) = refl
text-body (lines.Phase word) = refl
text-body (lines.Try name outcome) = refl
text-body (lines.Unmet name) = refl
text-body (lines.Vital name) = sym (append_assoc (codes "vital " ++ name_text name) (codes " missing") (10 ∷ []))
text-body lines.Logon = refl
text-body (lines.SaveRefused full) = refl
text-body lines.EditOk = refl
text-body lines.FlushNothing = refl
text-body (lines.Refused event why) = refl
text-body (lines.Verdict word) = refl
text-body lines.End = refl

no_lf-commit : (w : CommitWord) → has_no_lf (commit_word w) ≡ true
no_lf-commit commits.Begin = refl
no_lf-commit commits.Save = refl
no_lf-commit commits.Flush = refl
no_lf-commit commits.Off = refl

no_lf-phase : (w : PhaseWord) → has_no_lf (phase_word w) ≡ true
no_lf-phase phases.Boot = refl
no_lf-phase phases.System = refl
no_lf-phase phases.Automatic = refl
no_lf-phase phases.Done = refl

no_lf-try : (w : TryWord) → has_no_lf (try_word w) ≡ true
no_lf-try tries.Ok = refl
no_lf-try tries.Ignored = refl
no_lf-try tries.Logged = refl
no_lf-try tries.FallBack = refl
no_lf-try tries.Stop = refl

no_lf-event : (w : EventWord) → has_no_lf (event_word w) ≡ true
no_lf-event events.Boot = refl
no_lf-event events.Go = refl
no_lf-event events.Fail = refl
no_lf-event events.Vital = refl
no_lf-event events.Set = refl
no_lf-event events.Delete = refl
no_lf-event events.Make = refl
no_lf-event events.Remove = refl
no_lf-event events.Flush = refl
no_lf-event events.Logon = refl
no_lf-event events.Off = refl
no_lf-event events.Cut = refl
no_lf-event events.Fault = refl

no_lf-refused : (w : RefusedWord) → has_no_lf (refused_word w) ≡ true
no_lf-refused reasons.Off = refl
no_lf-refused reasons.Running = refl
no_lf-refused reasons.Early = refl
no_lf-refused reasons.Again = refl
no_lf-refused reasons.Idle = refl
no_lf-refused reasons.Protected = refl
no_lf-refused reasons.NoKey = refl
no_lf-refused reasons.NoValue = refl
no_lf-refused reasons.BadName = refl
no_lf-refused reasons.NameTooLong = refl
no_lf-refused reasons.TooDeep = refl
no_lf-refused reasons.DataTooLong = refl
no_lf-refused reasons.Full = refl

no_lf-verdict : (w : Verdict) → has_no_lf (verdict_word w) ≡ true
no_lf-verdict verdicts.Good = refl
no_lf-verdict verdicts.GoodUnsaved = refl
no_lf-verdict verdicts.Running = refl
no_lf-verdict verdicts.FallBack = refl
no_lf-verdict verdicts.Stopped = refl
no_lf-verdict verdicts.Cut = refl
no_lf-verdict verdicts.Device = refl
no_lf-verdict verdicts.Full = refl
no_lf-verdict verdicts.NoNumber = refl
no_lf-verdict verdicts.NoEntry = refl
no_lf-verdict verdicts.OtherLoader = refl
no_lf-verdict verdicts.NoSystem = refl
no_lf-verdict verdicts.NoControlSet = refl
no_lf-verdict verdicts.NoLastKnownGood = refl

-- after a text without LF, a blank and one more
with_blank : (a b : List ℕ) → has_no_lf a ≡ true → has_no_lf b ≡ true → has_no_lf (a ++ codes " " ++ b) ≡ true
with_blank a b e f = no_lf-append (a ++ codes " ") b (no_lf-append a (codes " ") e refl) f

pub no_lf-body : (l : Line) → has_no_lf (body l) ≡ true
no_lf-body (lines.Start number) = no_lf-append (codes "start ") (decimal number) refl (no_lf-decimal number)
no_lf-body (lines.Entry number path) =
    with_blank (codes "entry " ++ decimal number) (path_text path)
    (no_lf-append (codes "entry ") (decimal number) refl (no_lf-decimal number)) (no_lf-path path)
no_lf-body (lines.Load sequence recovered) =
    with_blank (codes "load " ++ decimal sequence) (load_word recovered)
    (no_lf-append (codes "load ") (decimal sequence) refl (no_lf-decimal sequence))
    (no_lf-bool recovered (codes "recovered") (codes "clean") refl refl)
no_lf-body (lines.Set number on_good) =
    with_blank (codes "set " ++ decimal number) (set_word on_good)
    (no_lf-append (codes "set ") (decimal number) refl (no_lf-decimal number))
    (no_lf-bool on_good (codes "last-known-good") (codes "default") refl refl)
no_lf-body (lines.Commit what sequence) =
    with_blank (codes "commit " ++ commit_word what) (decimal sequence)
    (no_lf-append (codes "commit ") (commit_word what) refl (no_lf-commit what)) (no_lf-decimal sequence)
no_lf-body (lines.Select current default failed good) =
    with_blank (codes "select " ++ decimal current ++ codes " " ++ decimal default ++ codes " " ++ decimal failed)
    (decimal good)
    (with_blank (codes "select " ++ decimal current ++ codes " " ++ decimal default) (decimal failed)
    (with_blank (codes "select " ++ decimal current) (decimal default)
    (no_lf-append (codes "select ") (decimal current) refl (no_lf-decimal current)) (no_lf-decimal default))
    (no_lf-decimal failed)) (no_lf-decimal good)
no_lf-body (lines.Phase word) = no_lf-append (codes "phase ") (phase_word word) refl (no_lf-phase word)
no_lf-body (lines.Try name outcome) =
    with_blank (codes "try " ++ name_text name) (try_word outcome)
    (no_lf-append (codes "try ") (name_text name) refl (no_lf-name name)) (no_lf-try outcome)
no_lf-body (lines.Unmet name) = no_lf-append (codes "unmet ") (name_text name) refl (no_lf-name name)
no_lf-body (lines.Vital name) =
    no_lf-append (codes "vital " ++ name_text name) (codes " missing")
    (no_lf-append (codes "vital ") (name_text name) refl (no_lf-name name)) refl
no_lf-body lines.Logon = refl
no_lf-body (lines.SaveRefused full) =
    no_lf-append (codes "save refused ") (save_word full) refl
    (no_lf-bool full (codes "full") (codes "no-number") refl refl)
no_lf-body lines.EditOk = refl
no_lf-body lines.FlushNothing = refl
no_lf-body (lines.Refused event why) =
    with_blank (codes "refused " ++ event_word event) (refused_word why)
    (no_lf-append (codes "refused ") (event_word event) refl (no_lf-event event)) (no_lf-refused why)
no_lf-body (lines.Verdict word) = no_lf-append (codes "verdict ") (verdict_word word) refl (no_lf-verdict word)
no_lf-body lines.End = refl

-- ---- the lines of a text

abbrev is_lf : ℕ → Bool
is_lf c = c == 10

split_line : (line rest : List ℕ) → has_no_lf line ≡ true
    → slice_split is_lf (line ++ 10 ∷ rest) ≡ line ∷ slice_split is_lf rest
split_line [] rest e = refl
split_line (c ∷ line) rest e =
    let p = and_parts (is_no_lf c) (has_no_lf line) e in
    rw (not_true (eqb c 10) p.0, split_line line rest p.1) refl

only_part : (line : List ℕ) → has_no_lf line ≡ true → slice_split is_lf line ≡ line ∷ []
only_part [] e = refl
only_part (c ∷ line) e =
    let p = and_parts (is_no_lf c) (has_no_lf line) e in
    rw (not_true (eqb c 10) p.0, only_part line p.1) refl

whole-cons : (line rest : List ℕ) → has_no_lf line ≡ true → whole_lines (line ++ 10 ∷ rest) ≡ line ∷ whole_lines rest
whole-cons line rest e =
    let parts : List (List ℕ) = slice_split is_lf rest in
    let count : length parts ≡ count_by is_lf rest + 1 = length-slice_split is_lf rest in
    let more : length (line ∷ parts) - 1 ≡ suc (length parts - 1) = omega arith in
    rw (split_line line rest e) (ap (λ (k : ℕ). take k (line ∷ parts)) more)

whole-end : (line : List ℕ) → has_no_lf line ≡ true → whole_lines line ≡ []
whole-end line e = rw (only_part line e) refl

-- ---- what each line reports the disk

abbrev told_before : Option Outcome → List Outcome → List Outcome
told_before None more = more
told_before (Some o) more = o ∷ more

verdict_tells : (w : Verdict) (more : List Outcome)
    → verdict_outcome w more ≡ told_before (outcome_of (body (lines.Verdict w))) more
verdict_tells verdicts.Good more = refl
verdict_tells verdicts.GoodUnsaved more = refl
verdict_tells verdicts.Running more = refl
verdict_tells verdicts.FallBack more = refl
verdict_tells verdicts.Stopped more = refl
verdict_tells verdicts.Cut more = refl
verdict_tells verdicts.Device more = refl
verdict_tells verdicts.Full more = refl
verdict_tells verdicts.NoNumber more = refl
verdict_tells verdicts.NoEntry more = refl
verdict_tells verdicts.OtherLoader more = refl
verdict_tells verdicts.NoSystem more = refl
verdict_tells verdicts.NoControlSet more = refl
verdict_tells verdicts.NoLastKnownGood more = refl

tells : (l : Line) (ls : List Line) → outcomes_in (l ∷ ls) ≡ told_before (outcome_of (body l)) (outcomes_in ls)
tells (lines.Start number) ls = refl
tells (lines.Entry number path) ls = refl
tells (lines.Load sequence recovered) ls = refl
tells (lines.Set number on_good) ls = refl
tells (lines.Commit what sequence) ls = refl
tells (lines.Select current default failed good) ls = refl
tells (lines.Phase word) ls = refl
tells (lines.Try name outcome) ls = refl
tells (lines.Unmet name) ls = refl
tells (lines.Vital name) ls = refl
tells lines.Logon ls = refl
tells (lines.SaveRefused full) ls = refl
tells lines.EditOk ls = refl
tells lines.FlushNothing ls = refl
tells (lines.Refused event why) ls = refl
tells (lines.Verdict word) ls = verdict_tells word (outcomes_in ls)
tells lines.End ls = refl

told_is : (o : Option Outcome) (more : List Outcome) → cons_option o more ≡ told_before o more
told_is None more = refl
told_is (Some o) more = refl

filtered : (line : List ℕ) (more : List (List ℕ))
    → filter_map outcome_of (line ∷ more) ≡ told_before (outcome_of line) (filter_map outcome_of more)
filtered line more = told_is (outcome_of line) (filter_map outcome_of more)

-- the text of lines, and a line in part after it
front_of : (l : Line) (ls : List Line) (rest : List ℕ) → text_of (l ∷ ls) ++ rest ≡ body l ++ 10 ∷ (text_of ls ++ rest)
front_of l ls rest = rw (text-body l) (simp append_assoc)

-- how the disk operations ended, by the text of lines and of one more in part, is what the lines tell
pub outcomes_of-text : (ls : List Line) (rest : List ℕ) → has_no_lf rest ≡ true
    → outcomes_of (text_of ls ++ rest) ≡ outcomes_in ls
unfolding outcomes_of
outcomes_of-text [] rest e = ap (filter_map outcome_of) (whole-end rest e)
outcomes_of-text (l ∷ ls) rest e =
    ap (λ (text : List ℕ). filter_map outcome_of (whole_lines text)) (front_of l ls rest)
    ∙ ap (filter_map outcome_of) (whole-cons (body l) (text_of ls ++ rest) (no_lf-body l))
    ∙ filtered (body l) (whole_lines (text_of ls ++ rest))
    ∙ ap (told_before (outcome_of (body l))) (outcomes_of-text ls rest e)
    ∙ sym (tells l ls)
