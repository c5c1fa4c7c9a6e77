use Rattle.std.proofs.Common.{List, ℕ, [], ◌∷◌, ◌++◌, length, drop, ap, ◌∙◌}
use Rattle.std.specs.Prelude.{slice_set}
use Rattle.nt_bytes.specs.Fields.{u32_in}
use Rattle.windows_logs.proofs.Padding.{written}
use Rattle.windows_logs.proofs.marvin_hash.last_word.Goals as goal

pub returns : goal.returns
returns c =
    let n = length c.args.rest.now in
    let word : List ℕ → ℕ = λ l. u32_in (slice_set (l ++ drop n (0 ∷ 0 ∷ 0 ∷ 0 ∷ [])) n 0x80) 0 in
    c.u32_at.ensures ∙ ap word c.copy_from_slice.ensures.after ∙ ap (λ (l : List ℕ). u32_in l 0) (written _ c.requires)
