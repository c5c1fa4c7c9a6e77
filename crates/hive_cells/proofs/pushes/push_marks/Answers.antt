use Rattle.std.proofs.Common.{◌≡◌, ◌+◌, ◌/◌, ◌++◌, Bool, true, false, List, length, set, replicate, ap, sym, ◌∙◌, arith}
use Rattle.std.specs.Result.{is_ok}
use Rattle.std.specs.Vec.{vec_len}
use Rattle.hive_cells.proofs.GrowLemmas.{marks_pushed, resized}
use Rattle.hive_cells.proofs.pushes.push_marks.Goals as goal

pub returns : goal.returns
returns c =
    let starts = c.args.starts.now.items in
    let size = c.args.size in
    let slot = c.len-slot.result in
    let yes : is_ok c.resize.result ≡ true = sym c.is_ok-pushed.ensures.value ∙ c.if-prove.false in
    let long : length starts ≡ slot = omega (arith, c.len-slot.ensures, c.args.starts.now.ok.0) in
    let items : c.resize.new.self.items ≡ starts ++ replicate (size / 8) false =
    rw yes at c.resize.ensures.items
    ∙ resized starts (vec_len c.args.starts.now) slot (size / 8) false (sym c.args.starts.now.ok.0)
    c.len-slot.ensures in
    ap (λ (t : List Bool). set t (slot + 4) true) items
    ∙ marks_pushed starts slot size long c.requires.least c.requires.whole
