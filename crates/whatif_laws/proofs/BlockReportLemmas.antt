-- What a block says, by the reports of two runs.
use Rattle.std.proofs.Common.{◌≡◌, ℕ, Bool, true, false, not, ◌&&◌, cond, List, [], ◌∷◌, map, Option, Some, None, refl, sym, ap, ◌∙◌}
use Rattle.std.specs.Prelude.{filter, slice_get, option_map}
use Rattle.std.specs.Option.{option_or}
use Rattle.std.specs.List.{list_any, filter_map, cons_option}
use Rattle.nt_bytes.specs.Folding.{folds_same}
use Rattle.report_words.specs.declared.words.TryWord.{TryWord}
use Rattle.report_words.specs.declared.line.Line.{Line}
use Rattle.report_words.specs.declared.line.Line.TheVariants as lines
use Rattle.boot_phases.specs.declared.error_control.outcome.Judgement.{Judgement}
use Rattle.boot_phases.specs.declared.error_control.outcome.Judgement.TheVariants as judgements
use Rattle.failure_effects.specs.declared.told.Fate.{Fate}
use Rattle.failure_effects.specs.declared.told.Fate.TheVariants as fates
use Rattle.failure_effects.specs.declared.told.Told.{Told}
use Rattle.failure_effects.specs.Effects.{plain_told}
use Rattle.failure_effects.specs.Lost.{other_of, is_lost, lost_in, has_name}
use Rattle.failure_effects.specs.Played.{is_started, started_in, failure_in, failed_by}
use Rattle.whatif_laws.specs.Starts.{fail_told, off_told}
use Rattle.whatif_laws.specs.Reports.{is_entry_line, word_of, line_of, told_line, ok_name, bad_word, ok_names, missing_names, report_of, LostAreMissing, JudgementIsWord, LostOfOffAreMissing, LostOfEditedAreMissing}
use Rattle.whatif_laws.proofs.EditedLemmas.{tells_edited_as_run}
use Rattle.whatif_laws.proofs.ReportLemmas.{tells_as_run, tells_off_as_run}

-- ---- lines that tell of no entry say nothing here

ok_kept : (ls : List Line) → filter_map ok_name (filter is_entry_line ls) ≡ filter_map ok_name ls
ok_kept [] = refl
ok_kept (lines.Try name outcome ∷ ls) = ap (cons_option (ok_name (lines.Try name outcome))) (ok_kept ls)
ok_kept (lines.Unmet name ∷ ls) = ok_kept ls
ok_kept (l ∷ ls) = ok_kept ls

bad_kept : (ls : List Line) → filter_map bad_word (filter is_entry_line ls) ≡ filter_map bad_word ls
bad_kept [] = refl
bad_kept (lines.Try name outcome ∷ ls) = ap (cons_option (bad_word (lines.Try name outcome))) (bad_kept ls)
bad_kept (lines.Unmet name ∷ ls) = bad_kept ls
bad_kept (l ∷ ls) = bad_kept ls

-- ---- what is reported, as lines

word_bad : (name : List ℕ) (j : Judgement) (ls : List (List ℕ)) → cons_option (ok_name (lines.Try name (word_of j))) ls ≡ ls
word_bad name judgements.Ignore ls = refl
word_bad name judgements.Log ls = refl
word_bad name judgements.FallBack ls = refl
word_bad name judgements.Stop ls = refl

told_ok : (told : List Told) → filter_map ok_name (map told_line told) ≡ started_in told
told_ok [] = refl
told_ok (t ∷ told) = by t.fate (told_ok told)
  where
    by : (f : Fate) → filter_map ok_name (map told_line told) ≡ started_in told
        → cons_option (ok_name (line_of t.name f)) (filter_map ok_name (map told_line told))
        ≡ map (λ (t : Told). t.name) (cond (is_started f) (t ∷ filter (λ (t : Told). is_started t.fate) told) (filter (λ (t : Told). is_started t.fate) told))
    by fates.Started more = ap (λ (l : List (List ℕ)). t.name ∷ l) more
    by (fates.Failed j) more = word_bad t.name j (filter_map ok_name (map told_line told)) ∙ more
    by fates.Unmet more = more

word_is : (name : List ℕ) (j : Judgement) → bad_word (lines.Try name (word_of j)) ≡ Some (word_of j)
word_is name judgements.Ignore = refl
word_is name judgements.Log = refl
word_is name judgements.FallBack = refl
word_is name judgements.Stop = refl

told_bad : (told : List Told) → option_map word_of (failure_in told) ≡ slice_get (filter_map bad_word (map told_line told)) 0
told_bad [] = refl
told_bad (t ∷ told) = by t.fate (told_bad told)
  where
    by : (f : Fate) → option_map word_of (failure_in told) ≡ slice_get (filter_map bad_word (map told_line told)) 0
        → option_map word_of (option_or (failed_by f) (failure_in told))
        ≡ slice_get (cons_option (bad_word (line_of t.name f)) (filter_map bad_word (map told_line told))) 0
    by fates.Started more = more
    by (fates.Failed j) more =
        sym (ap (λ (o : Option TryWord). slice_get (cons_option o (filter_map bad_word (map told_line told))) 0) (word_is t.name j))
    by fates.Unmet more = more

-- the lost, of the names that were started
lost_names : (plain other : List Told) (name : List ℕ)
    → lost_in plain (other_of other) name
    ≡ filter (λ n. not (folds_same name n) && not (list_any (folds_same n) (started_in other))) (started_in plain)
lost_names [] other name = refl
lost_names (t ∷ plain) other name =
    by (is_started t.fate) (not (folds_same name t.name)) (not (has_name (started_in other) t.name)) refl refl (lost_names plain other name)
  where
    by : (a b c : Bool) → not (folds_same name t.name) ≡ b → not (has_name (started_in other) t.name) ≡ c
        → map (λ (t : Told). t.name) (filter (is_lost (other_of other) name) plain)
        ≡ filter (λ n. not (folds_same name n) && not (list_any (folds_same n) (started_in other)))
        (map (λ (t : Told). t.name) (filter (λ (t : Told). is_started t.fate) plain))
        → map (λ (t : Told). t.name) (cond ((a && b) && c) (t ∷ filter (is_lost (other_of other) name) plain) (filter (is_lost (other_of other) name) plain))
        ≡ filter (λ n. not (folds_same name n) && not (list_any (folds_same n) (started_in other)))
        (map (λ (t : Told). t.name) (cond a (t ∷ filter (λ (t : Told). is_started t.fate) plain) (filter (λ (t : Told). is_started t.fate) plain)))
    by false b c is is' more = more
    by true b c is is' more =
        test b c more
        ∙ sym (λ i. cond (is i && is' i)
        (t.name ∷ filter (λ n. not (folds_same name n) && not (list_any (folds_same n) (started_in other)))
        (map (λ (t : Told). t.name) (filter (λ (t : Told). is_started t.fate) plain)))
        (filter (λ n. not (folds_same name n) && not (list_any (folds_same n) (started_in other)))
        (map (λ (t : Told). t.name) (filter (λ (t : Told). is_started t.fate) plain))))
      where
        test : (b c : Bool)
            → map (λ (t : Told). t.name) (filter (is_lost (other_of other) name) plain)
            ≡ filter (λ n. not (folds_same name n) && not (list_any (folds_same n) (started_in other)))
            (map (λ (t : Told). t.name) (filter (λ (t : Told). is_started t.fate) plain))
            → map (λ (t : Told). t.name) (cond (b && c) (t ∷ filter (is_lost (other_of other) name) plain) (filter (is_lost (other_of other) name) plain))
            ≡ cond (b && c) (t.name ∷ filter (λ n. not (folds_same name n) && not (list_any (folds_same n) (started_in other)))
            (map (λ (t : Told). t.name) (filter (λ (t : Told). is_started t.fate) plain)))
            (filter (λ n. not (folds_same name n) && not (list_any (folds_same n) (started_in other)))
            (map (λ (t : Told). t.name) (filter (λ (t : Told). is_started t.fate) plain)))
        test true true more = ap (λ (l : List (List ℕ)). t.name ∷ l) more
        test true false more = more
        test false c more = more

by_lines : (ls : List Line) (told : List Told) → filter is_entry_line ls ≡ map told_line told → ok_names ls ≡ started_in told
by_lines ls told h = sym (ok_kept ls) ∙ ap (filter_map ok_name) h ∙ told_ok told

missing_is : (name : List ℕ) (first second : List Line) (plain other : List Told) → ok_names first ≡ started_in plain
    → ok_names second ≡ started_in other → lost_in plain (other_of other) name ≡ missing_names name first second
missing_is name first second plain other a b =
    lost_names plain other name
    ∙ (λ i. filter (λ n. not (folds_same name n) && not (list_any (folds_same n) (sym b i))) (sym a i))

pub lost_are_missing : LostAreMissing
lost_are_missing choice placed taken name o =
    missing_is name (report_of choice placed None) (report_of choice placed (Some name)) (plain_told taken) (fail_told taken name)
    (by_lines (report_of choice placed None) (plain_told taken) (tells_as_run choice placed taken None o))
    (by_lines (report_of choice placed (Some name)) (fail_told taken name) (tells_as_run choice placed taken (Some name) o))

pub judgement_is_word : JudgementIsWord
judgement_is_word choice placed taken name o =
    told_bad (fail_told taken name)
    ∙ ap (λ (ls : List Line). slice_get (filter_map bad_word ls) 0) (sym (tells_as_run choice placed taken (Some name) o))
    ∙ ap (λ (ws : List TryWord). slice_get ws 0) (bad_kept (report_of choice placed (Some name)))

pub lost_of_off_are_missing : LostOfOffAreMissing
lost_of_off_are_missing choice other placed off taken name o p =
    missing_is name (report_of choice placed None) (report_of other off None) (plain_told taken) (off_told taken name)
    (by_lines (report_of choice placed None) (plain_told taken) (tells_as_run choice placed taken None o))
    (by_lines (report_of other off None) (off_told taken name) (tells_off_as_run other off taken name p))

pub lost_of_edited_are_missing : LostOfEditedAreMissing
lost_of_edited_are_missing choice placed edited taken name o off room =
    missing_is name (report_of choice placed None) (report_of choice edited None) (plain_told taken) (off_told taken name)
    (by_lines (report_of choice placed None) (plain_told taken) (tells_as_run choice placed taken None o))
    (by_lines (report_of choice edited None) (off_told taken name) (tells_edited_as_run choice placed edited taken name o off room))
