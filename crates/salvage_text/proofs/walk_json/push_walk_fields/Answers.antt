use Rattle.std.proofs.Common.{◌≡◌, ◌++◌, List, ℕ, sym, subst}
use Rattle.std.specs.Prelude.{OnOk, codes}
use Rattle.report_text.specs.line_text.Objects.{fields_text}
use Rattle.salvage_walk.specs.declared.lines.WalkLine.{WalkLine}
use Rattle.salvage_text.specs.Lines.{numbered_fields, placed_fields, walk_fields}
use Rattle.salvage_text.proofs.walk_json.push_walk_fields.Goals as goal

pub returns-in-ValueAt : goal.returns-in-ValueAt
returns-in-ValueAt c =
    let r = c.push_entry_fields-in-ValueAt.result in
    let new = c.push_entry_fields-in-ValueAt.new.out.items in
    let old = c.args.out.now.items in
    let P : WalkLine → Type 0 = λ x. OnOk r (new ≡ old ++ fields_text (walk_fields x)) in
    let Q : List (List ℕ) → Type 0 = λ p. OnOk r (new ≡ old
    ++ fields_text (placed_fields c.in-ValueAt.fault (codes "value-at") (numbered_fields c.in-ValueAt.number p))) in
    subst P (sym c.in-ValueAt.is) (subst Q c.as_slice-in-ValueAt.ensures c.push_entry_fields-in-ValueAt.ensures)
