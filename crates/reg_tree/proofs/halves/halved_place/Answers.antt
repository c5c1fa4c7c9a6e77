use Rattle.std.proofs.Common.{rules, List, ℕ, ap, sym, ◌∙◌, arith}
use Rattle.std.proofs.lemmas.Fn.{always_returns_same}
use Rattle.nt_bytes.specs.Folding.{folds_same}
use Rattle.reg_tree.proofs.Halving.{less, less_first, halved_at, halved_other, halved_absent}
use Rattle.reg_tree.proofs.Sound.{key_name}
use Rattle.reg_tree.proofs.halves.halved_place.Goals as goal

pub returns-then-same_folded : goal.returns-then-same_folded
returns-then-same_folded c =
    let keys = c.args.keys.now in
    let name = c.args.name.now in
    let low = c.partition_point-low in
    let ends = low.ensures.partitioned (less key_name name) (always_returns_same _ _ _ (λ a r f k. search rules))
    (less_first key_name name keys c.requires) in
    sym
    (halved_at key_name name keys low.result c.in-Some.key.now ends c.in-Some.ensures.lookup.3
    (sym (ap (λ (n : List ℕ). folds_same name n) c.name.ensures) ∙ sym c.same_folded.ensures ∙ c.if-same_folded.true))

pub returns-else-same_folded : goal.returns-else-same_folded
returns-else-same_folded c =
    let keys = c.args.keys.now in
    let name = c.args.name.now in
    let low = c.partition_point-low in
    let ends = low.ensures.partitioned (less key_name name) (always_returns_same _ _ _ (λ a r f k. search rules))
    (less_first key_name name keys c.requires) in
    sym
    (halved_other key_name name keys low.result c.in-Some.key.now c.requires ends low.ensures.bound
    c.in-Some.ensures.lookup.3.1
    (sym (ap (λ (n : List ℕ). folds_same name n) c.name.ensures) ∙ sym c.same_folded.ensures ∙ c.if-same_folded.false))

pub returns-in-None : goal.returns-in-None
returns-in-None c =
    let keys = c.args.keys.now in
    let name = c.args.name.now in
    let low = c.partition_point-low in
    let ends = low.ensures.partitioned (less key_name name) (always_returns_same _ _ _ (λ a r f k. search rules))
    (less_first key_name name keys c.requires) in
    sym (halved_absent key_name name keys low.result c.requires ends low.ensures.bound
    (λ within d. absurd (omega (arith, within, c.in-None.ensures.lookup.3))))
