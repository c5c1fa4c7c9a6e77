use Rattle.std.proofs.Common.{◌++◌, ℕ, List, rules, ap, ◌∙◌}
use Rattle.std.specs.Int.{w32, to_le_bytes}
use Rattle.hive_model.specs.Base.{Base, base_text, summed_text, head_text, checksum_of}
use Rattle.regf_base.proofs.Laying.{spelled}
use Rattle.regf_base.proofs.spelling.base_bytes.Goals as goal

pub returns : goal.returns
unfolding base_text summed_text
returns c =
    let h = c.copy_from_slice.new.self in
    let n = c.copy_from_slice-2.new.self in
    let r = c.copy_from_slice-3.new.self in
    let whole : List ℕ → List ℕ = λ s. s ++ to_le_bytes w32 (checksum_of s) in
    rw (c.put_u32.ensures, c.checksum-sum.ensures)
    (spelled h n r c.args.into.now (search rules) (search rules) (search rules) (search rules)
    ∙ ap (λ l. whole ((l ++ n) ++ r)) (c.copy_from_slice.ensures.after ∙ c.head.ensures)
    ∙ ap (λ l. whole ((head_text c.args.base.now ++ l) ++ r))
    (c.copy_from_slice-2.ensures.after ∙ ap (λ (b : Base). b.name) c.base.view_is)
    ∙ ap (λ l. whole ((head_text c.args.base.now ++ c.args.base.now.name) ++ l))
    (c.copy_from_slice-3.ensures.after ∙ ap (λ (b : Base). b.rest) c.base.view_is))
