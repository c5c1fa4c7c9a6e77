-- A fault of the disk is a failed call of its files.
use Rattle.std.proofs.Common.{◌≡◌, ◌∙◌, ◌≤◌, ◌+◌, ℕ, Result, Ok, Err, refl, subst, sym, arith}
use Rattle.std.specs.Prelude.{IsErrOf}
use Rattle.nt_bytes.specs.Counts.{Rises, capped}
use Rattle.nt_edge.specs.Disk.{HasCause, IsOnUnlessLost}
use Rattle.nt_edge.specs.declared.disk.DiskStop.{DiskStop}
use Rattle.nt_edge.specs.declared.disk.DiskStop.TheVariants.{Failed, Memory}
use Rattle.file_disk.specs.Asked.{CountsFailure}
use Rattle.file_disk.specs.FileState.{counting, stopped_of, both_of}

pub rises_primary : (p q l : ℕ) → Rises p q → Rises (capped (p + l)) (capped (q + l))
rises_primary p q l rises = grind arith

pub rises_log : (p l m : ℕ) → Rises l m → Rises (capped (p + l)) (capped (p + m))
rises_log p l m rises = grind arith

pub rises_both : (p q l m : ℕ) → Rises p q → Rises l m → l ≤ 18446744073709551615 → Rises (capped (p + l)) (capped (q + m))
rises_both p q l m one two small = grind arith

-- a call that is done
done : {T : Type 0} (found : T) (p l q m : ℕ) → q ≡ p → m ≡ l → HasCause {T = T} (counting p l) (counting q m) (Ok found)
done found p l q m is_p is_l = record {
  power = λ e. absurd (cc);
  failed = λ e. absurd (cc);
  memory = λ e. absurd (cc);
  no_cut = λ _. refl;
  no_fault = λ _ _. (cc);
  no_lack = λ _. refl;
}

-- a call that failed
failing : {T : Type 0} (p l q m : ℕ) → Rises (capped (p + l)) (capped (q + m)) → HasCause {T = T} (counting p l) (counting q m) (Err Failed)
failing p l q m rises = record {
  power = λ e. absurd (cc);
  failed = λ _. rises;
  memory = λ e. absurd (cc);
  no_cut = λ _. refl;
  no_fault = λ _ none. absurd (none refl);
  no_lack = λ _. refl;
}

primary_stopped : {T E : Type 0} (answer : Result T E) (p l q : ℕ) → CountsFailure answer p q
    → HasCause {T = T} (counting p l) (counting q l) (stopped_of answer)
primary_stopped (Ok found) p l q same = done found p l q l same refl
primary_stopped (Err error) p l q rises = failing p l q l (rises_primary p q l rises)

log_stopped : {T E : Type 0} (answer : Result T E) (p l m : ℕ) → CountsFailure answer l m
    → HasCause {T = T} (counting p l) (counting p m) (stopped_of answer)
log_stopped (Ok found) p l m same = done found p l p m refl same
log_stopped (Err error) p l m rises = failing p l p m (rises_log p l m rises)

both_stopped : {T E : Type 0} (one two : Result T E) (p l q m : ℕ) → CountsFailure one p q → CountsFailure two l m
    → l ≤ 18446744073709551615 → HasCause {T = T} (counting p l) (counting q m) (stopped_of (both_of one two))
both_stopped (Ok x) (Ok y) p l q m same same_too small = done y p l q m same same_too
both_stopped (Ok x) (Err y) p l q m same rises small = failing p l q m (subst (λ n. Rises (capped (p + l)) (capped (n + m))) (sym same) (rises_log p l m rises))
both_stopped (Err x) (Ok y) p l q m rises same small = failing p l q m (subst (λ n. Rises (capped (p + l)) (capped (q + n))) (sym same) (rises_primary p q l rises))
both_stopped (Err x) (Err y) p l q m rises rises_too small = failing p l q m (rises_both p q l m rises rises_too small)

pub of_primary : {T E : Type 0} (answer : Result T E) (result : Result T DiskStop) (p l q : ℕ) → result ≡ stopped_of answer
    → CountsFailure answer p q → HasCause {T = T} (counting p l) (counting q l) result
of_primary answer result p l q is counted = subst (λ r. HasCause (counting p l) (counting q l) r) (sym is) (primary_stopped answer p l q counted)

pub of_log : {T E : Type 0} (answer : Result T E) (result : Result T DiskStop) (p l m : ℕ) → result ≡ stopped_of answer
    → CountsFailure answer l m → HasCause {T = T} (counting p l) (counting p m) result
of_log answer result p l m is counted = subst (λ r. HasCause (counting p l) (counting p m) r) (sym is) (log_stopped answer p l m counted)

pub of_both : {T E : Type 0} (one two answer : Result T E) (result : Result T DiskStop) (p l q m : ℕ) → result ≡ stopped_of answer
    → answer ≡ both_of one two → CountsFailure one p q → CountsFailure two l m → l ≤ 18446744073709551615
    → HasCause {T = T} (counting p l) (counting q m) result
of_both one two answer result p l q m is is_both counted counted_too small =
    subst (λ r. HasCause (counting p l) (counting q m) r) (sym is)
    (subst (λ a. HasCause (counting p l) (counting q m) (stopped_of a)) (sym is_both)
    (both_stopped one two p l q m counted counted_too small))

stopped_on : {T E : Type 0} (answer : Result T E) (p l : ℕ) → IsOnUnlessLost {T = T} (counting p l) (stopped_of answer)
stopped_on (Ok found) p l = record { off = λ e. absurd (cc); on = λ _. refl }
stopped_on (Err error) p l = record { off = λ e. absurd (cc); on = λ _. refl }

pub stays_on : {T E : Type 0} (answer : Result T E) (result : Result T DiskStop) (p l : ℕ) → result ≡ stopped_of answer
    → IsOnUnlessLost {T = T} (counting p l) result
stays_on answer result p l is = subst (λ r. IsOnUnlessLost (counting p l) r) (sym is) (stopped_on answer p l)

none_stopped : {T E : Type 0} (answer : Result T E) → IsErrOf (stopped_of answer) Memory → ⊥
none_stopped (Ok found) e = absurd (cc)
none_stopped (Err error) e = absurd (cc)

pub no_memory : {T E : Type 0} (answer : Result T E) (result : Result T DiskStop) → result ≡ stopped_of answer → IsErrOf result Memory → ⊥
no_memory answer result is e = none_stopped answer (sym is ∙ e)
