use Rattle.std.proofs.Common.{◌≡◌, ◌++◌, length, take, drop, replicate, sym, ◌∙◌, ap, arith}
use Rattle.std.proofs.lemmas.List.{take_all, drop_all, drop-replicate}
use Rattle.hive_model.specs.Image.{padded}
use Rattle.mem_edge.proofs.files.first_of.Goals as goal

pub returns-then-bytes-lt512-clause-sector : goal.returns-then-bytes-lt512-clause-sector
returns-then-bytes-lt512-clause-sector c =
    let b = c.args.bytes.now in
    let short : take 512 b ≡ b = take_all 512 b (omega arith) in
    ap (λ l. l ++ drop (length b) (replicate 512 0)) c.copy_from_slice.ensures.after
    ∙ ap (λ l. b ++ l) (drop-replicate (length b) 512 0) ∙ ap padded (sym short)

pub returns-then-bytes-lt512-clause-more : goal.returns-then-bytes-lt512-clause-more
returns-then-bytes-lt512-clause-more c = sym (drop_all 512 c.args.bytes.now (omega arith))
