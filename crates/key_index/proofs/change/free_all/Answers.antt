use Rattle.std.proofs.Common.{◌≡◌, ◌<◌, ℕ, List, length, take, sym, ap, subst, ◌∙◌, arith}
use Rattle.std.specs.List.{Contains}
use Rattle.std.proofs.Math.Seq.{take-length}
use Rattle.key_index.proofs.Runs.{gone_more, others_more}
use Rattle.key_index.proofs.change.free_all.Goals as goal

pub loop-at-preserved : goal.loop-at-preserved
loop-at-preserved c =
    let i = c.loop-at.at-index in
    let xs = c.args.cells.now in
    let lt : i < length xs = omega arith in
    record {
      gone = gone_more c.loop-at.heap.bins c.free.new.self.bins xs i lt c.free.ensures.gone c.free.ensures.others
          c.loop-at.invariant.gone;
      others = others_more c.args.heap.now.bins c.loop-at.heap.bins c.free.new.self.bins xs i lt c.free.ensures.others
          c.loop-at.invariant.others;
      long = c.free.ensures.long ∙ c.loop-at.invariant.long;
      base = c.free.ensures.base ∙ c.loop-at.invariant.base;
    }

pub returns-clause-gone : goal.returns-clause-gone
returns-clause-gone c =
    let xs = c.args.cells.now in
    let end : c.loop-at.at-index ≡ length xs = omega arith in
    let all : take c.loop-at.at-index xs ≡ xs = ap (λ (n : ℕ). take n xs) end ∙ take-length xs in
    λ o h. c.loop-at.invariant.gone o (subst (λ (ys : List ℕ). Contains ys o) (sym all) h)
