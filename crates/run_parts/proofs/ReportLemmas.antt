-- What was played is the report that its text reports, in one of the two forms.
use Rattle.std.proofs.Common.{◌≡◌, ℕ, List, [], ◌∷◌, ◌++◌, map, refl, sym, ap, subst, ◌∙◌, append-nil, append_assoc}
use Rattle.nt_bytes.specs.Front.{IsFront}
use Rattle.nt_edge.specs.Disk.{DiskState}
use Rattle.nt_edge.specs.Crash.{EachCrash}
use Rattle.report_text.proofs.TextLemmas.{outcomes_of-text}
use Rattle.report_words.specs.declared.line.Line.{Line}
use Rattle.start_model.specs.Lines.{text_of}
use Rattle.start_model.specs.Fits.{outcomes_in, outcomes_of, woke_in, Fits, MayLoad}
use Rattle.start_model.specs.Possible.{Possible, Woken, Outcome}
use Rattle.start_model.specs.Act.{Note, RunState}
use Rattle.start_model.specs.Run.{RunResult, reached, behind}
use Rattle.start_model.specs.Report.{Going}
use Rattle.start_model.specs.Summary.{with_lines}
use Rattle.report_text.specs.declared.line_text.form.ReportForm.{ReportForm}
use Rattle.report_text.specs.declared.line_text.form.ReportForm.TheVariants as forms
use Rattle.report_text.specs.line_objects.Objects.{printed_lines}
use Rattle.run_parts.specs.run_parts.Counted.{AddsUp}
use Rattle.run_parts.specs.run_parts.Parts.{Grew, HasNoLineFeed, tallies, tally_now}
use Rattle.run_parts.specs.run_parts.Parts as texts
use Rattle.run_parts.specs.run_parts.Reports as texts_of
use Rattle.run_parts.specs.printed_parts.Logged.{Chains}
use Rattle.run_parts.specs.printed_parts.Parts.{Told, Goes, RunBreaks}
use Rattle.run_parts.specs.printed_parts.Reports.{Reports, ReportsFront, part_text}
use Rattle.run_parts.proofs.GoesLemmas.{image_at, printed-append}

outcomes-whole : (ls : List Line) → outcomes_of (text_of ls) ≡ outcomes_in ls
outcomes-whole ls = ap outcomes_of (sym (append-nil (text_of ls))) ∙ outcomes_of-text ls [] refl

-- a run that was played to its end is the report that its text reports
pub reports_of : (run : Going) (last : RunState) (x y : Told) (d e : DiskState) → Goes run (reached last) x y d e
    → EachCrash e (MayLoad last.disk) → Reports run x y d e
reports_of run last x y d e all left =
    let g = all.part in
    let t : List ℕ = text_of g.lines in
    let is : run g.woken (outcomes_of t) ≡ behind g.lines g.notes (reached last [] []) =
    ap (λ (w : List Woken). run w (outcomes_of t)) (sym (append-nil g.woken))
    ∙ ap (λ (o : List Outcome). run (g.woken ++ []) o) (outcomes-whole g.lines ∙ sym (append-nil (outcomes_in g.lines)))
    ∙ g.goes [] [] in
    let notes : g.notes ≡ (run g.woken (outcomes_of t)).notes =
    sym (append-nil g.notes) ∙ sym (ap (λ (q : RunResult). q.notes) is) in
    let lines : g.lines ≡ (run g.woken (outcomes_of t)).lines =
    sym (append-nil g.lines) ∙ sym (ap (λ (q : RunResult). q.lines) is) in
    let P : List Note → Type 0 = λ ns. Grew ns g.added d e in
    let Q : List Note → Type 0 = λ ns. Fits (map image_at g.added) g.woken (woke_in ns) in
    let R : List Note → Type 0 = λ ns. AddsUp ns (tallies g.added) (tally_now d) (tally_now e) in
    let S : List Outcome → Type 0 = λ os. Chains run g.woken os g.notes (map image_at g.added) d e in
    let C : List Note → Type 0 = λ ns. Chains run g.woken (outcomes_of t) ns (map image_at g.added) d e in
    record {
      text = t;
      added = g.added;
      report = record {
        woken = g.woken;
        last = last;
        lines = ap text_of lines;
        taken = ap (λ (q : RunResult). q.rest) is;
        fits = subst Q notes g.fits;
        loads = left;
      };
      said_is = g.tells.said ∙ ap (λ (ls : List Line). x.said ++ printed_lines x.form ls) lines;
      grew = subst P notes g.grew;
      adds_up = subst R notes (subst R (append-nil g.notes) g.adds_up);
      chained = subst C notes (subst S (sym (outcomes-whole g.lines)) all.chained);
      summary = g.tells.summary ∙ ap (with_lines x.summary) lines;
    }

-- what was printed as this, where nothing was before
abbrev pub as_text : List ℕ → Told → texts.Told
as_text text told = record { said = text; summary = told.summary }

-- a report in any form is one as text
abbrev pub text_report : (run : Going) (x y : Told) (d e : DiskState) (r : Reports run x y d e)
    → texts_of.Reports run (as_text [] x) (as_text r.text y) d e
text_report run x y d e r = record {
  text = r.text;
  said_is = refl;
  added = r.added;
  report = r.report;
  grew = r.grew;
  adds_up = r.adds_up;
  summary = r.summary;
}

-- and so is a prefix of one
abbrev pub text_front : (form : ReportForm) (run : Going) (x y : List ℕ) (d e : DiskState) (r : ReportsFront form run x y d e)
    → texts_of.ReportsFront run [] r.text d e
text_front form run x y d e r =
    record { text = r.text; said_is = refl; added = r.added; report = r.report; grew = r.grew; adds_up = r.adds_up }

-- ---- a run that was given up

part-cut_off : (form : ReportForm) (part : List ℕ) → HasNoLineFeed part → HasNoLineFeed (part_text form part)
part-cut_off forms.Text part h = h
part-cut_off forms.Json part h = refl

-- a prefix of lines in a form is one of their text
part-front : (form : ReportForm) (ls : List Line) (part : List ℕ) → IsFront (printed_lines form ls) part
    → IsFront (text_of ls) (part_text form part)
part-front forms.Text ls part f = f
part-front forms.Json ls part f = record { rest = text_of ls; cut = refl }

-- after lines, a prefix of others
lines-front : (form : ReportForm) (a b all : List Line) (part : List ℕ) → all ≡ a ++ b → IsFront (printed_lines form b) part
    → IsFront (printed_lines form all) (printed_lines form a ++ part)
lines-front form a b all part is f = record {
  rest = f.rest;
  cut = ap (printed_lines form) is ∙ printed-append form a b
      ∙ ap (λ (z : List ℕ). printed_lines form a ++ z) f.cut
      ∙ sym (append_assoc (printed_lines form a) part f.rest);
}

-- it left a prefix of the report
pub reports_front_of : (run : Going) (x : Told) (y : List ℕ) (d e : DiskState) → RunBreaks run x y d e
    → ReportsFront x.form run x.said y d e
reports_front_of run x y d e b =
    let g = b.goes in
    let F : ReportForm → Type 0 = λ f. IsFront (printed_lines f (b.rest [] (b.outcome ∷ [])).lines) b.part in
    let front = subst F g.tells.form b.front in
    let last : List ℕ = part_text x.form b.part in
    let t : List ℕ = text_of g.lines ++ last in
    let told : outcomes_of t ≡ outcomes_in g.lines = outcomes_of-text g.lines last (part-cut_off x.form b.part b.cut_off) in
    let r : RunResult = b.rest [] (b.outcome ∷ []) in
    let is : run g.woken (outcomes_of t ++ b.outcome ∷ []) ≡ behind g.lines g.notes r =
    ap (λ (w : List Woken). run w (outcomes_of t ++ b.outcome ∷ [])) (sym (append-nil g.woken))
    ∙ ap (λ (o : List Outcome). run (g.woken ++ []) (o ++ b.outcome ∷ [])) told
    ∙ g.goes [] (b.outcome ∷ []) in
    let stop : run g.woken (outcomes_of t) ≡ behind g.lines g.notes (b.rest [] []) =
    ap (λ (w : List Woken). run w (outcomes_of t)) (sym (append-nil g.woken))
    ∙ ap (λ (o : List Outcome). run (g.woken ++ []) o) (told ∙ sym (append-nil (outcomes_in g.lines)))
    ∙ g.goes [] [] in
    let P : Possible → Type 0 = λ p. EachCrash e (MayLoad p) in
    let says : (run g.woken (outcomes_of t ++ b.outcome ∷ [])).lines ≡ g.lines ++ r.lines =
    ap (λ (q : RunResult). q.lines) is in
    record {
      lines = g.lines;
      part = b.part;
      said_is = b.said_is ∙ ap (λ (z : List ℕ). z ++ b.part) g.tells.said
          ∙ append_assoc x.said (printed_lines x.form g.lines) b.part;
      cut_off = b.cut_off;
      text = t;
      text_is = refl;
      added = g.added;
      report = record {
        woken = g.woken;
        outcome = b.outcome;
        notes = g.notes;
        said = lines-front forms.Text g.lines r.lines (run g.woken (outcomes_of t ++ b.outcome ∷ [])).lines last says
            (part-front x.form r.lines b.part front);
        noted = record { rest = r.notes; cut = ap (λ (q : RunResult). q.notes) is };
        fits = g.fits;
        loads = subst P (sym (ap (λ (q : RunResult). q.disk) stop)) b.left;
      };
      grew = g.grew;
      adds_up = g.adds_up;
      front = lines-front x.form g.lines r.lines (run g.woken (outcomes_of t ++ b.outcome ∷ [])).lines b.part says front;
    }
