use Rattle.std.proofs.Common.{◌≡◌, ℕ, Bor, List, ◌++◌, map, ap, ◌∙◌, subst}
use Rattle.std.specs.Prelude.{codes, OnOk}
use Rattle.line_parts.specs.Parts as parts
use Rattle.line_parts.specs.Parts.{Part, line}
use Rattle.line_parts.specs.Views.{all_seen}
use Rattle.service_list.specs.declared.overrides.Override.{Override}
use Rattle.services_command.specs.Lines.{mark_word, override_parts, front_parts, entry_parts}
use Rattle.services_command.proofs.EntryLemmas.{entry_is}
use Rattle.services_command.proofs.line.push_entry.Goals as goal

pub returns : goal.returns
returns c =
    let entry = c.args.entry.now in
    let words : List (Bor (List ℕ)) → List (List ℕ) = map (λ (word : Bor (List ℕ)). word.now) in
    let whole : all_seen c.as_slice-5.result.now ≡ entry_parts entry =
    ap all_seen c.as_slice-5.ensures.value
    ∙ entry_is entry (all_seen c.put_front.new.parts.items) (all_seen c.put.new.parts.items) (all_seen c.put-2.new.parts.items)
    (all_seen c.put_own.new.parts.items) (all_seen c.put_overrides.new.parts.items) (all_seen c.put-3.new.parts.items)
    c.as_slice-2.result.now (words c.as_slice-4.result.now)
    (c.in_ok-put_front.ensures ∙ ap (λ (x : List Part). x ++ front_parts entry) (ap all_seen c.new-parts.ensures.items))
    c.in_ok-put.ensures c.in_ok-put-2.ensures c.in_ok-put_own.ensures
    (c.in_ok-put_overrides.ensures ∙ ap (λ (os : List Override). all_seen c.put_own.new.parts.items ++ override_parts os) c.as_slice-3.ensures)
    c.in_ok-put-3.ensures
    (c.as_slice-2.ensures.value ∙ c.in_ok-moment.ensures)
    (ap words c.as_slice-4.ensures.value ∙ c.in_ok-marks.ensures ∙ ap (map mark_word) c.as_slice.ensures) in
    subst (λ (ps : List Part). OnOk c.push_line.result (c.push_line.new.out.items
    ≡ c.args.out.now.items ++ parts.printed c.args.form (line (codes "entry") ps)))
    whole c.push_line.ensures
