-- A whole report, by its hits and the lines after them.
use Rattle.std.proofs.Common.{◌≡◌, ℕ, List, [], ◌∷◌, ◌++◌, length, map, Some, refl, sym, ap, subst, ◌∙◌, arith}
use Rattle.std.specs.Prelude.{Result, Ok, Err}
use Rattle.std.proofs.lemmas.Grind.{flat_map-append}
use Rattle.nt_edge.specs.Host.{HostState}
use Rattle.nt_edge.specs.declared.host.HostStop.{HostStop}
use Rattle.report_text.specs.declared.line_text.form.ReportForm.{ReportForm}
use Rattle.line_parts.specs.Parts.{printed, printed_lines}
use Rattle.find_rule.specs.declared.wanted.Wanted.{Wanted}
use Rattle.find_rule.specs.Hits.{Hit, hits_of}
use Rattle.find_rule.specs.Lines.{hit_line, closing_lines, report_lines}
use Rattle.find_command.specs.Prints.{Prints}
use Rattle.find_command.specs.Tells.{hits_text, Tells}
use Rattle.find_command.proofs.PrintLemmas.{then, halted}

lines_of_hits : (form : ReportForm) (found : List Hit) → printed_lines form (map hit_line found) ≡ hits_text form found
lines_of_hits form [] = refl
lines_of_hits form (h ∷ found) = ap (λ (t : List ℕ). printed form (hit_line h) ++ t) (lines_of_hits form found)

whole_text : (form : ReportForm) (found : List Hit)
    → hits_text form found ++ printed_lines form (closing_lines (length found)) ≡ printed_lines form (report_lines (Some found))
whole_text form found =
    ap (λ (t : List ℕ). t ++ printed_lines form (closing_lines (length found))) (sym (lines_of_hits form found))
    ∙ sym (flat_map-append (printed form) (map hit_line found) (closing_lines (length found)))

module _ (form : ReportForm) (w : Wanted) (all : List Hit) where
  -- how many were counted from nothing
  counted_all : {y : Unit {0}} (a b : HostState) (i j : ℕ) → i ≡ 0 → Tells form w all (Ok y) a b i j → j ≡ length (hits_of w all)
  counted_all a b i j zero told = (let all_of = told.count in omega (arith, zero, all_of))

  -- all was told, and then the lines after it
  pub reported : {y : Unit {0}} (r : Result (Unit {0}) HostStop) (a b c : HostState) (i j : ℕ) → i ≡ 0 → Tells form w all (Ok y) a b i j
      → Prints (printed_lines form (closing_lines j)) r b c → Prints (printed_lines form (report_lines (Some (hits_of w all)))) r a c
  reported r a b c i j zero told closing =
      subst (λ (t : List ℕ). Prints t r a c) (whole_text form (hits_of w all))
      (then (hits_text form (hits_of w all)) (printed_lines form (closing_lines (length (hits_of w all)))) r a b c told.prints
      (subst (λ (n : ℕ). Prints (printed_lines form (closing_lines n)) r b c) (counted_all a b i j zero told) closing))

  -- it was stopped
  pub unreported : (stop : HostStop) (a b : HostState) (i j : ℕ) → Tells form w all (Err stop) a b i j
      → Prints (printed_lines form (report_lines (Some (hits_of w all)))) (Err stop) a b
  unreported stop a b i j told =
      subst (λ (t : List ℕ). Prints t (Err stop) a b) (whole_text form (hits_of w all))
      (halted (hits_text form (hits_of w all)) (printed_lines form (closing_lines (length (hits_of w all)))) stop a b told.prints)
