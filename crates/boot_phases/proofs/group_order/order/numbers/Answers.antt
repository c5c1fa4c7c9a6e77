use Rattle.std.proofs.Common.{ℕ, ◌+◌, ◌*◌, [], ◌∷◌, ◌++◌, map, sym, ap, ◌∙◌, zero-add}
use Rattle.std.proofs.lemmas.List.FromFn.{map-range_with_len_more}
use Rattle.std.specs.List.{range_with_len}
use Rattle.nt_bytes.specs.Fields.{u32_in}
use Rattle.boot_phases.proofs.group_order.order.numbers.Goals as goal

pub loop-k-preserved : goal.loop-k-preserved
loop-k-preserved c =
    let k = c.loop-k.k in
    let f : ℕ → ℕ = λ k. u32_in c.args.bytes.now (4 + 4 * k) in
    record {
      items =
          c.in_ok-push.ensures.items ∙ ap (λ xs. xs ++ c.u32_at.result ∷ []) c.loop-k.invariant.items
          ∙ ap (λ x. map f (range_with_len 0 k) ++ x ∷ []) c.u32_at.ensures
          ∙ sym (map-range_with_len_more f 0 k k (zero-add k));
      len = c.in_ok-push.ensures.len ∙ ap (λ n. n + 1) c.loop-k.invariant.len;
    }
