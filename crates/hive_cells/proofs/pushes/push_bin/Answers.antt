use Rattle.std.proofs.Common.{◌≡◌, ℕ, ◌++◌, length, ap, ◌∙◌, arith}
use Rattle.hive_model.specs.Bins.{bin_bytes}
use Rattle.hive_cells.specs.Holes.{free_bin}
use Rattle.hive_cells.proofs.GrowLemmas.{bin_pushed}
use Rattle.hive_cells.proofs.pushes.push_bin.Goals as goal

pub returns : goal.returns
returns c =
    let text = c.args.bytes.now.items in
    let place : c.len-at.result ≡ length text = omega (arith, c.len-at.ensures, c.args.bytes.now.ok.0) in
    bin_pushed text c.push_word.new.bytes.items c.push_word-2.new.bytes.items c.push_word-3.new.bytes.items
    c.push_zeros.new.bytes.items c.push_word-4.new.bytes.items c.push_zeros-2.new.bytes.items c.len-at.result
    c.args.size c.requires.least
    c.push_word.ensures.items c.push_word-2.ensures.items c.push_word-3.ensures.items c.push_zeros.ensures.items
    c.push_word-4.ensures.items c.push_zeros-2.ensures.items
    ∙ ap (λ (n : ℕ). text ++ bin_bytes n (free_bin c.args.size)) place
