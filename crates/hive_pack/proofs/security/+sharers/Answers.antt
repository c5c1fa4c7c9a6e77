use Rattle.std.proofs.Common.{◌≡◌, ◌-◌, ◌+◌, Bool, true, List, ◌∷◌, ℕ, length, take, drop, sym, ap, ◌∙◌, arith}
use Rattle.std.specs.Prelude.{nat_eq, if◌then◌else◌}
use lib.Pointwise.{pointwise}
use Rattle.std.proofs.lemmas.Slice.Eq.{bytes_eq-Decides}
use Rattle.hive_model.specs.Tree.{Tree, trees, head, children}
use Rattle.hive_model.specs.Codes.{weights}
use Rattle.hive_model.specs.Packed.{sharers, sharers_of_all}
use Rattle.reg_tree.proofs.Outcomes.{uncons}
use Rattle.hive_pack.proofs.Written.{weight_parted}
use Rattle.hive_pack.proofs.Counts.{sharers_parted}
use Rattle.hive_pack.proofs.security.+sharers.Goals as goal
use Rattle.hive_pack.proofs.security.+sharers.Goals.{sharers-After-subkeys}

alike : (s d t : List ℕ) → pointwise nat_eq s d ≡ true → d ≡ t → (pointwise nat_eq s t ≡ true) × (s ≡ t)
alike s d t e q = (ap (λ (x : List ℕ). pointwise nat_eq s x) (sym q) ∙ e, (bytes_eq-Decides s d).0 e ∙ q)

-- the count of a key that has the descriptor
counted : (s d : List ℕ) (t : Tree) → pointwise nat_eq s d ≡ true → d ≡ (head t).security
    → sharers s t ≡ 1 + sharers_of_all s (trees (children t))
counted s d t e q =
    sharers_parted s t
    ∙ ap (λ (b : Bool). if b then 1 + sharers_of_all s (trees (children t)) else 0) (alike s d (head t).security e q).0

parts : (t : ℕ) (c : sharers-After-subkeys t)
    → sharers c.args.security.now c.args.key.now ≡ 1 + sharers_of_all c.args.security.now (trees c.subkeys.result.now)
parts t c =
    counted c.args.security.now c.security.result.now c.args.key.now (sym c.if-eq.ensures) c.security.ensures
    ∙ ap (λ (ts : List Tree). 1 + sharers_of_all c.args.security.now (trees ts)) (sym c.subkeys.ensures)

pub sharers-sharers_of_all-requires : goal.sharers-sharers_of_all-requires
sharers-sharers_of_all-requires t c = (
  omega (arith, weight_parted c.args.key.now, ap weights c.subkeys.ensures),
  omega (arith, c.requires, parts t (goal.at.sharers-sharers_of_all-requires t c).After-subkeys),
)

pub sharers-overflow_add-result : goal.sharers-overflow_add-result
sharers-overflow_add-result t c =
    let is = parts t (goal.at.sharers-overflow_add-result t c).After-subkeys in
    omega (arith, c.requires, c.sharers_of_all.ensures, is)

pub sharers-returns-then-eq : goal.sharers-returns-then-eq
sharers-returns-then-eq t c =
    ap (λ n. 1 + n) c.sharers_of_all.ensures
    ∙ sym (parts t (goal.at.sharers-returns-then-eq t c).After-subkeys)

pub sharers_of_all-overflow_add-found : goal.sharers_of_all-overflow_add-found
sharers_of_all-overflow_add-found t c =
    let i = c.keys.invariant in
    let rest = c.keys.rest.now in
    let more : List Tree = take (length rest - 1) (drop 1 rest) in
    let r : rest ≡ c.key-item.result ∷ more = uncons rest c.key-item.result c.in-len1-up.len_at_least c.key-item.is in
    let s = c.args.security.now in
    omega (arith, i.found, ap (λ (ts : List Tree). sharers_of_all s (trees ts)) r, c.sharers-found.ensures, c.requires)
