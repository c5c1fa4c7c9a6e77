-- What is seen of lines is what they say of their last start.
use Rattle.std.proofs.Common.{◌≡◌, ℕ, false, List, [], ◌∷◌, ◌++◌, Option, Some, None, refl, sym, ap, subst, ◌∙◌, append_assoc, append-nil}
use Rattle.std.specs.Option.{option_map, option_or, option_to_list}
use Rattle.std.specs.List.{filter_map, cons_option}
use Rattle.report_words.specs.declared.line.Line.{Line}
use Rattle.report_words.specs.declared.line.Line.TheVariants as lines
use Rattle.quiet_run.specs.declared.last.Attempt.{Attempt}
use Rattle.quiet_run.specs.declared.last.LastStart.{LastStart}
use Rattle.quiet_run.specs.Watch.{fresh_start, seen}
use Rattle.why_laws.specs.why_laws.Reports.{started_by, set_by, tried_by, missed_by, judged_by, last_in, last_start_in, Reported, IsReported}

-- after these lines
abbrev pub heard : LastStart → List Line → LastStart
heard l [] = l
heard l (x ∷ xs) = heard (seen x l) xs

pub heard_more : (l : LastStart) (xs ys : List Line) → heard l (xs ++ ys) ≡ heard (heard l xs) ys
heard_more l [] ys = refl
heard_more l (x ∷ xs) ys = heard_more (seen x l) xs ys

-- without its phases
abbrev pub told : LastStart → LastStart
told l = record l { phases = []; ended = false }

seen_told : (x : Line) (l : LastStart) → told (seen x l) ≡ told (seen x (told l))
seen_told (lines.Start number) l = refl
seen_told (lines.Entry number path) l = refl
seen_told (lines.Load sequence recovered) l = refl
seen_told (lines.Set number on_good) l = refl
seen_told (lines.Commit what sequence) l = refl
seen_told (lines.Select a b c d) l = refl
seen_told (lines.Phase word) l = refl
seen_told (lines.Try name word) l = refl
seen_told (lines.Unmet name) l = refl
seen_told (lines.Vital name) l = refl
seen_told lines.Logon l = refl
seen_told (lines.SaveRefused full) l = refl
seen_told lines.EditOk l = refl
seen_told lines.FlushNothing l = refl
seen_told (lines.Refused event why) l = refl
seen_told (lines.Verdict word) l = refl
seen_told lines.End l = refl

-- lines are heard alike where all but the phases is alike
pub heard_alike : (xs : List Line) (l k : LastStart) → told l ≡ told k → told (heard l xs) ≡ told (heard k xs)
heard_alike [] l k is = is
heard_alike (x ∷ xs) l k is =
    heard_alike xs (seen x l) (seen x k) (seen_told x l ∙ ap (λ (m : LastStart). told (seen x m)) is ∙ sym (seen_told x k))

-- ---- one line

record Adds (x : Line) (l k : LastStart) : Type 0 where
  number : k.number ≡ l.number
  set : k.set ≡ option_or (set_by x) l.set
  attempts : k.attempts ≡ l.attempts ++ option_to_list (tried_by x)
  missing : k.missing ≡ l.missing ++ option_to_list (missed_by x)
  verdict : k.verdict ≡ option_or (judged_by x) l.verdict

none : {X : Type 0} (xs : List X) → xs ≡ xs ++ []
none xs = sym (append-nil xs)

-- a line begins a start, or adds to what is known
abbrev Steps : Line → LastStart → LastStart → Option ℕ → Type 0
Steps x l k (Some number) = k ≡ fresh_start number
Steps x l k None = Adds x l k

steps : (x : Line) (l : LastStart) → Steps x l (seen x l) (started_by x)
steps (lines.Start number) l = refl
steps (lines.Entry number path) l = record { number = refl; set = refl; attempts = none l.attempts; missing = none l.missing; verdict = refl }
steps (lines.Load sequence recovered) l = record { number = refl; set = refl; attempts = none l.attempts; missing = none l.missing; verdict = refl }
steps (lines.Set number on_good) l = record { number = refl; set = refl; attempts = none l.attempts; missing = none l.missing; verdict = refl }
steps (lines.Commit what sequence) l = record { number = refl; set = refl; attempts = none l.attempts; missing = none l.missing; verdict = refl }
steps (lines.Select a b c d) l = record { number = refl; set = refl; attempts = none l.attempts; missing = none l.missing; verdict = refl }
steps (lines.Phase word) l = record { number = refl; set = refl; attempts = none l.attempts; missing = none l.missing; verdict = refl }
steps (lines.Try name word) l = record { number = refl; set = refl; attempts = refl; missing = none l.missing; verdict = refl }
steps (lines.Unmet name) l = record { number = refl; set = refl; attempts = none l.attempts; missing = none l.missing; verdict = refl }
steps (lines.Vital name) l = record { number = refl; set = refl; attempts = none l.attempts; missing = refl; verdict = refl }
steps lines.Logon l = record { number = refl; set = refl; attempts = none l.attempts; missing = none l.missing; verdict = refl }
steps (lines.SaveRefused full) l = record { number = refl; set = refl; attempts = none l.attempts; missing = none l.missing; verdict = refl }
steps lines.EditOk l = record { number = refl; set = refl; attempts = none l.attempts; missing = none l.missing; verdict = refl }
steps lines.FlushNothing l = record { number = refl; set = refl; attempts = none l.attempts; missing = none l.missing; verdict = refl }
steps (lines.Refused event why) l = record { number = refl; set = refl; attempts = none l.attempts; missing = none l.missing; verdict = refl }
steps (lines.Verdict word) l = record { number = refl; set = refl; attempts = none l.attempts; missing = none l.missing; verdict = refl }
steps lines.End l = record { number = refl; set = refl; attempts = none l.attempts; missing = none l.missing; verdict = refl }

adds : (x : Line) (l k : LastStart) (o : Option ℕ) → o ≡ None → Steps x l k o → Adds x l k
adds x l k None lone s = s
adds x l k (Some n) lone s = absurd cc

-- ---- lines of one start

record AddsAll (xs : List Line) (l k : LastStart) : Type 0 where
  number : k.number ≡ l.number
  set : k.set ≡ option_or (last_in set_by xs) l.set
  attempts : k.attempts ≡ l.attempts ++ filter_map tried_by xs
  missing : k.missing ≡ l.missing ++ filter_map missed_by xs
  verdict : k.verdict ≡ option_or (last_in judged_by xs) l.verdict

or_or : {X : Type 0} (a b c : Option X) → option_or a (option_or b c) ≡ option_or (option_or a b) c
or_or None b c = refl
or_or (Some x) b c = refl

push_some : {X : Type 0} (xs ys : List X) (o : Option X) → (xs ++ option_to_list o) ++ ys ≡ xs ++ cons_option o ys
push_some xs ys None = ap (λ zs. zs ++ ys) (append-nil xs)
push_some xs ys (Some x) = append_assoc xs (x ∷ []) ys

first_none : {X : Type 0} (a b : Option X) → option_or a b ≡ None → a ≡ None
first_none None b is = refl
first_none (Some x) b is = absurd cc

second_none : {X : Type 0} (a b : Option X) → option_or a b ≡ None → b ≡ None
second_none None b is = is
second_none (Some x) b is = absurd cc

no_number : {X : Type 0} (o : Option ℕ) (lines : X) → option_map {U = ℕ × X} (λ (n : ℕ). (n, lines)) o ≡ None → o ≡ None
no_number None lines is = refl
no_number (Some n) lines is = absurd cc

adds_all : (xs : List Line) (l : LastStart) → last_start_in xs ≡ None → AddsAll xs l (heard l xs)
adds_all [] l lone = record { number = refl; set = refl; attempts = none l.attempts; missing = none l.missing; verdict = refl }
adds_all (x ∷ xs) l lone =
    let started : Option (ℕ × List Line) = option_map (λ (n : ℕ). (n, xs)) (started_by x) in
    let one = adds x l (seen x l) (started_by x) (no_number (started_by x) xs (second_none (last_start_in xs) started lone)) (steps x l) in
    let all = adds_all xs (seen x l) (first_none (last_start_in xs) started lone) in
    record {
      number = all.number ∙ one.number;
      set = all.set ∙ ap (option_or (last_in set_by xs)) one.set ∙ or_or (last_in set_by xs) (set_by x) l.set;
      attempts = all.attempts ∙ ap (λ (ts : List Attempt). ts ++ filter_map tried_by xs) one.attempts
          ∙ push_some l.attempts (filter_map tried_by xs) (tried_by x);
      missing = all.missing ∙ ap (λ (ns : List (List ℕ)). ns ++ filter_map missed_by xs) one.missing
          ∙ push_some l.missing (filter_map missed_by xs) (missed_by x);
      verdict = all.verdict ∙ ap (option_or (last_in judged_by xs)) one.verdict ∙ or_or (last_in judged_by xs) (judged_by x) l.verdict;
    }

-- ---- all lines

or_none : {X : Type 0} (a : Option X) → option_or a None ≡ a
or_none None = refl
or_none (Some x) = refl

abbrev Heard : LastStart → LastStart → Option (ℕ × List Line) → Type 0
Heard l k None = k.number ≡ l.number
Heard l k (Some last) = Reported k last.0 last.1

begun : (number : ℕ) (xs : List Line) → last_start_in xs ≡ None → Reported (heard (fresh_start number) xs) number xs
begun number xs lone =
    let all = adds_all xs (fresh_start number) lone in
    record {
      number = all.number;
      set = all.set ∙ or_none (last_in set_by xs);
      attempts = all.attempts;
      missing = all.missing;
      verdict = all.verdict ∙ or_none (last_in judged_by xs);
    }

heard_last : (xs : List Line) (l : LastStart) → Heard l (heard l xs) (last_start_in xs)
heard_last [] l = refl
heard_last (x ∷ xs) l = by (last_start_in xs) refl (heard_last xs (seen x l))
  where
    first : (k : LastStart) (o : Option ℕ) → last_start_in xs ≡ None → Steps x l k o → (heard k xs).number ≡ k.number
        → Heard l (heard k xs) (option_map (λ (n : ℕ). (n, xs)) o)
    first k None lone step at = at ∙ step.number
    first k (Some n) lone step at =
        let P : LastStart → Type 0 = λ (j : LastStart). Reported (heard j xs) n xs in subst P (sym step) (begun n xs lone)

    by : (o : Option (ℕ × List Line)) → last_start_in xs ≡ o → Heard (seen x l) (heard (seen x l) xs) o
        → Heard l (heard (seen x l) xs) (option_or o (option_map (λ (n : ℕ). (n, xs)) (started_by x)))
    by (Some last) is at = at
    by None is at = first (seen x l) (started_by x) is (steps x l) at

pub heard_reported : (xs : List Line) → IsReported (heard (fresh_start 0) xs) (last_start_in xs)
heard_reported xs = by (last_start_in xs) (heard_last xs (fresh_start 0))
  where
    by : (o : Option (ℕ × List Line)) → Heard (fresh_start 0) (heard (fresh_start 0) xs) o → IsReported (heard (fresh_start 0) xs) o
    by None at = at
    by (Some last) at = at

-- what lines say of a start doesn't look at its phases
pub reported_told : (l k : LastStart) (o : Option (ℕ × List Line)) → told l ≡ told k → IsReported k o → IsReported l o
reported_told l k None is r = ap (λ (x : LastStart). x.number) is ∙ r
reported_told l k (Some last) is r = record {
  number = ap (λ (x : LastStart). x.number) is ∙ r.number;
  set = ap (λ (x : LastStart). x.set) is ∙ r.set;
  attempts = ap (λ (x : LastStart). x.attempts) is ∙ r.attempts;
  missing = ap (λ (x : LastStart). x.missing) is ∙ r.missing;
  verdict = ap (λ (x : LastStart). x.verdict) is ∙ r.verdict;
}
