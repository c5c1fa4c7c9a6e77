use Rattle.std.proofs.Common.{◌≡◌, ◌++◌, ℕ, List, [], ◌∷◌, map, refl, ap, ◌∙◌}
use Rattle.std.specs.List.{flat_map}
use Rattle.salvage_walk.specs.declared.lines.WalkLine.{WalkLine}
use Rattle.salvage_text.specs.Lines.{WalkedLine, EndLine, printed, printed_lines}
use Rattle.salvage_parents.specs.declared.search.ParentLine.{ParentLine}
use Rattle.salvage_text.specs.Report.{parent_line, salvaged_line, saving_lines}
use Rattle.salvage_text.proofs.ReportLemmas.{mapped, one_line, more, last}
use Rattle.salvage_text.proofs.reporting.push_rest.Goals as goal

pub returns : goal.returns
returns c =
    let form = c.args.form in
    let h = c.args.hive.now in
    let old = c.args.out.now.items in
    let walk = map WalkedLine h.lines in
    let counts = salvaged_line h in
    let saving = saving_lines h.saving in
    let one : c.push_walk.new.out.items ≡ old ++ printed_lines form walk =
    c.in_ok-push_walk.ensures
    ∙ ap (λ (l : List ℕ). old ++ l) (mapped form WalkedLine c.as_slice.result.now
    ∙ ap (λ (xs : List WalkLine). printed_lines form (map WalkedLine xs)) c.as_slice.ensures) in
    let said = map parent_line h.said in
    let both = more form old c.push_walk.new.out.items c.push_said.new.out.items
    (flat_map (λ (x : ParentLine). printed form (parent_line x)) c.as_slice-2.result.now) walk said one
    (mapped form parent_line c.as_slice-2.result.now
    ∙ ap (λ (xs : List ParentLine). printed_lines form (map parent_line xs)) c.as_slice-2.ensures) c.in_ok-push_said.ensures in
    let two = more form old c.push_said.new.out.items c.push_counts.new.out.items (printed form counts) (walk ++ said) (counts ∷ []) both
    (one_line form counts) c.in_ok-push_counts.ensures in
    let three = more form old c.push_counts.new.out.items c.push_saving.new.out.items (printed_lines form saving)
    ((walk ++ said) ++ counts ∷ []) saving two refl c.in_ok-push_saving.ensures in
    last c.push_end.result form old c.push_saving.new.out.items c.push_end.new.out.items (printed form EndLine)
    (((walk ++ said) ++ counts ∷ []) ++ saving) (EndLine ∷ []) three (one_line form EndLine) c.push_end.ensures
