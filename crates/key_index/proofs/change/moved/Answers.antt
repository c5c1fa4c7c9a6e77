use Rattle.std.proofs.Common.{◌≡◌, ◌+◌, ◌*◌, ◌++◌, ℕ, length, take, drop, sym, ap, ◌∙◌, arith}
use Rattle.hive_model.specs.Size.{cell, part_count}
use Rattle.hive_model.specs.Lists.{offsets_text}
use Rattle.hive_model.specs.Packed.{text, part_places}
use Rattle.key_index.proofs.Runs.{few_moved, moved_is}
use Rattle.key_index.proofs.change.moved.Goals as goal

pub returns-then-n-lt501 : goal.returns-then-n-lt501
returns-then-n-lt501 c = λ version offsets hints l e. e
    ∙ ap text (few_moved version c.args.place offsets hints (omega arith))

pub returns : goal.returns
returns c =
    let first = c.first_part.result in
    λ version offsets hints l e.
    let k : c.part_count.result ≡ part_count (length offsets) = c.part_count.ensures ∙ ap part_count (sym l) in
    moved_is version c.args.place first offsets hints c.set_starts.new.run (omega arith)
    (c.set_starts.ensures ∙ (λ j. take 8 (e j) ++ (offsets_text (part_places (k j) first) ++ drop (8 + 4 * k j) (e j))))
    (c.first_part.ensures ∙ ap (λ (m : ℕ). c.args.place + cell (4 + 4 * part_count m)) (sym l))
