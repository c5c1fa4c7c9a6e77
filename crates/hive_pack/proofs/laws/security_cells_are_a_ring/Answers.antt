use Rattle.std.proofs.Common.{[], get_or, ◌+◌, ◌-◌, ◌≡◌, length, refl, sym, ap, ◌∙◌, arith}
use Rattle.hive_pack.proofs.Rising.{ring_rises}
use Rattle.hive_pack.proofs.Turning.{next_is, next_of_last, before_is, before_first, turned_back}
use Rattle.hive_pack.proofs.laws.security_cells_are_a_ring.Goals as goal

pub returns-clause-rising : goal.returns-clause-rising
returns-clause-rising c = λ version t. ring_rises version [] 32 t

pub returns-clause-next : goal.returns-clause-next
returns-clause-next c = λ xs i r lt. sym (next_is xs (get_or xs i 0) i r (omega arith) refl lt)

pub returns-clause-last : goal.returns-clause-last
returns-clause-last c = λ xs i r e. sym (next_of_last xs (get_or xs i 0) i r (omega arith) refl (omega arith))

pub returns-clause-before : goal.returns-clause-before
returns-clause-before c =
    λ xs i r lt. let one : i + 1 - 1 ≡ i = omega arith in
    sym (before_is xs (get_or xs (i + 1) 0) (i + 1) r lt refl (omega arith))
    ∙ ap (λ k. get_or xs k 0) one

pub returns-clause-first : goal.returns-clause-first
returns-clause-first c =
    λ xs i r e. let one : length xs - 1 ≡ i = omega arith in
    sym (before_first xs (get_or xs 0 0) 0 (omega arith) refl refl)
    ∙ ap (λ k. get_or xs k 0) one

pub returns-clause-back : goal.returns-clause-back
returns-clause-back c = λ xs i r lt. turned_back xs i r lt
