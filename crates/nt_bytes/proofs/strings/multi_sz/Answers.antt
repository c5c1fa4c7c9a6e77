use Rattle.std.proofs.Common.{List, ℕ, ◌∷◌, [], ◌++◌, ap, ◌∙◌}
use Rattle.nt_bytes.specs.Text.{multi_sz_of}
use Rattle.nt_bytes.proofs.ItemLemmas.{found_all, found_one, room_for_one}
use Rattle.nt_bytes.proofs.strings.multi_sz.Goals as goal

pub returns-then-is_empty-clause-names : goal.returns-then-is_empty-clause-names
returns-then-is_empty-clause-names c =
    found_all c.items.rest.now c.split_item.result.0.now c.items.names (multi_sz_of c.args.bytes.now) c.is_empty.result
    c.split_item.ensures.item c.is_empty.ensures c.if-is_empty.true c.items.invariant.so_far

pub items-preserved : goal.items-preserved
items-preserved c =
    let item = c.split_item.result.0.now in
    let names = c.items.names in
    let pushed = c.in_ok-push.ensures.ok ∙ ap (λ (x : List ℕ). names ++ x ∷ []) c.in_ok-from_slice.ensures in
    record {
      so_far = found_one c.items.rest.now item c.split_item.result.1.now names c.push.new.self
          (multi_sz_of c.args.bytes.now) c.is_empty.result
          c.split_item.ensures.item c.split_item.ensures.after c.is_empty.ensures c.if-is_empty.false pushed
          c.items.invariant.so_far;
      half = room_for_one names c.push.new.self item c.is_empty.result _ _ _ c.is_empty.ensures c.if-is_empty.false
          pushed c.split_item.ensures.shorter c.items.invariant.half;
    }
