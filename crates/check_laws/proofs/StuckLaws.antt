-- The stuck places are the greatest set that holds itself.
use Rattle.std.proofs.Common.{◌≡◌, ℕ, ◌<◌, Bool, true, not, ◌&&◌, ◌||◌, List, length, map, sym, ◌∙◌, subst}
use Rattle.std.specs.Prelude.{Contains}
use Rattle.std.specs.List.{list_any, list_all, range_with_len}
use Rattle.std.proofs.lemmas.Bool.{and_parts, and_from}
use Rattle.std.proofs.lemmas.List.FromFn.{length-map-range_with_len}
use Rattle.start_model.specs.Demand.{member, all_sets}
use Rattle.dependencies.proofs.PulledLemmas.{then_true, then_gives, all_below, listed_member}
use Rattle.wait_cycles.specs.Waits.{needs_at, is_held, holds_itself, is_stuck}
use Rattle.wait_cycles.proofs.MetLemmas.{all_from, any_from, any_gives, any_weaker, all_weaker, range_in}
use Rattle.wait_cycles.proofs.CycleLemmas.{some_set}
use Rattle.check_laws.specs.Laws.{HoldsItself, StuckHoldsItself, StuckIsGreatest}

-- what is held by a set is held by one that has as much
pub held_wider : (waits : List (List (List ℕ))) (set other : ℕ → Bool) (p : ℕ)
    → ((ways : List ℕ) (q : ℕ) → Contains (needs_at waits p) ways → Contains ways q → set q ≡ true → other q ≡ true)
    → is_held waits set p ≡ true → is_held waits other p ≡ true
held_wider waits set other p f =
    any_weaker (λ ways. list_all set ways) (λ ways. list_all other ways) (needs_at waits p)
    (λ ways i. all_weaker set other ways (λ q j. f ways q i j))

-- a list of places that passes the test holds itself
holds_as : (waits : List (List (List ℕ))) (set : ℕ → Bool) → holds_itself waits set ≡ true → HoldsItself waits set
holds_as waits set h p lt on =
    then_gives (set p) (is_held waits set p)
    (all_below (λ p. not (set p) || is_held waits set p) (length waits) p lt h) on

holds_test : (waits : List (List (List ℕ))) (set : ℕ → Bool) → HoldsItself waits set → holds_itself waits set ≡ true
holds_test waits set f =
    all_from (λ p. not (set p) || is_held waits set p) (range_with_len 0 (length waits))
    (λ p i. then_true (set p) (is_held waits set p) (f p (range_in (length waits) p i)))

-- a member of a list that holds itself is stuck
stuck_by : (waits : List (List (List ℕ))) (s : List Bool) (p : ℕ) → length s ≡ length waits
    → holds_itself waits (member s) ≡ true → member s p ≡ true → is_stuck waits p ≡ true
unfolding is_stuck
stuck_by waits s p len holds on =
    let test : List Bool → Bool = λ s. holds_itself waits (member s) && member s p in
    subst (λ (k : ℕ). list_any test (all_sets k) ≡ true) len
    (some_set test s (and_from (holds_itself waits (member s)) (member s p) holds on))

pub stuck_greatest : StuckIsGreatest
stuck_greatest waits set proper holds p lt on =
    stuck_by waits s p len (holds_test waits (member s) (λ x lx in'.
    held_wider waits set (member s) x (λ ways q i j on'. is q (proper.within x ways q i j) ∙ on')
    (holds x lx (sym (is x lx) ∙ in')))) (is p lt ∙ on)
  where
    s : List Bool
    s = map set (range_with_len 0 (length waits))

    len : length (map set (range_with_len 0 (length waits))) ≡ length waits
    len = length-map-range_with_len set 0 (length waits)

    is : (q : ℕ) → q < length waits → member (map set (range_with_len 0 (length waits))) q ≡ set q
    is q lq = listed_member set (length waits) q lq

pub stuck_holds : StuckHoldsItself
unfolding is_stuck
stuck_holds waits p lt h =
    let r = any_gives (λ s. holds_itself waits (member s) && member s p) (all_sets (length waits)) h in
    let both = and_parts (holds_itself waits (member r.0)) (member r.0 p) r.2 in
    held_wider waits (member r.0) (is_stuck waits) p (λ ways q i j on.
    any_from (λ s. holds_itself waits (member s) && member s q) (all_sets (length waits)) r.0 r.1
    (and_from (holds_itself waits (member r.0)) (member r.0 q) both.0 on))
    (holds_as waits (member r.0) both.0 p lt both.1)
