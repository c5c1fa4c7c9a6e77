-- The places at which a parent is named.
use Rattle.std.proofs.Common.{◌≡◌, inl, inr, ℕ, zero, suc, ◌*◌, ◌<◌, Bool, true, false, cond, List, [], ◌∷◌, ◌++◌, get_or, Result, Ok, Err, refl, sym, ap, subst, ◌∙◌, append-nil, arith}
use Rattle.std.specs.Prelude.{◌==◌, ◌⊎◌, ◌≤◌, ◌↔◌}
use Rattle.std.specs.List.{Contains, AllPairs}
use Rattle.std.proofs.lemmas.Bool.{cases_lt, eq-eqb, eqb-true}
use Rattle.std.proofs.lemmas.List.Elements.{Contains-get_or, Contains-append_left, Contains-push, Contains-push_cases}
use Rattle.std.proofs.lemmas.List.Quantifiers.{all_pairs_push}
use Rattle.nt_bytes.specs.declared.fault.HiveFaultKind.{HiveFaultKind}
use Rattle.hive_model.specs.KeyNode.{KeyNode, key_node_at}
use Rattle.hive_model.specs.Walk.{reading}
use Rattle.salvage_bins.specs.Ground.{Ground}
use Rattle.salvage_parents.specs.Naming.{parent_in, place_if, naming}
use Rattle.found_laws.specs.found_laws.Found.{NamesParent}

module _ (hive : Ground) (parent : ℕ) where
  -- a place more names the parent, or doesn't
  data OneMore (n : ℕ) : List ℕ → Type 0 where
    names_it : (node : KeyNode) → reading key_node_at hive.cells (8 * n) ≡ Ok node → node.parent ≡ parent → OneMore n (8 * n ∷ [])
    names_none : ((node : KeyNode) → reading key_node_at hive.cells (8 * n) ≡ Ok node → node.parent ≡ parent → ⊥) → OneMore n []

  one-more : (n : ℕ) → OneMore n (place_if parent (parent_in (reading key_node_at hive.cells (8 * n))) (8 * n))
  one-more n = by (reading key_node_at hive.cells (8 * n)) refl
    where
      by : (r : Result KeyNode HiveFaultKind) → reading key_node_at hive.cells (8 * n) ≡ r → OneMore n (place_if parent (parent_in r) (8 * n))
      by (Ok node) e = go (node.parent == parent) refl
        where
          other : (node.parent == parent) ≡ false → (m : KeyNode) → reading key_node_at hive.cells (8 * n) ≡ Ok m → m.parent ≡ parent → ⊥
          other f m d p =
              let same : node ≡ m = cc in
              let k : true ≡ false = sym (eq-eqb node.parent parent (ap (λ (x : KeyNode). x.parent) same ∙ p)) ∙ f in absurd cc

          go : (b : Bool) → (node.parent == parent) ≡ b → OneMore n (cond b (8 * n ∷ []) [])
          go true f = names_it node e (eqb-true node.parent parent f)
          go false f = names_none (other f)
      by (Err kind) e = names_none (λ m d p. absurd cc)

  wider : (n at : ℕ) → NamesParent hive parent n at → NamesParent hive parent (suc n) at
  wider n at p = record { place = p.place; within = omega (arith, p.within); at_is = p.at_is; node = p.node; read = p.read; names = p.names }

  named-at : (n at : ℕ) → Contains (naming hive parent n) at → NamesParent hive parent n at
  unfolding naming
  named-at zero at c = absurd (omega (arith, c.1))
  named-at (suc n) at c = by (place_if parent (parent_in (reading key_node_at hive.cells (8 * n))) (8 * n)) (one-more n) c (named-at n at)
    where
      by : (more : List ℕ) → OneMore n more → Contains (naming hive parent n ++ more) at
          → (Contains (naming hive parent n) at → NamesParent hive parent n at) → NamesParent hive parent (suc n) at
      by more (names_it node e p) c h =
          elim (Contains-push_cases (naming hive parent n) (8 * n) at c) [
            | inl old ↦ wider n at (h old)
            | inr is ↦ record {
              place = n;
              within = omega arith;
              at_is = sym is;
              node = node;
              read = subst (λ (x : ℕ). reading key_node_at hive.cells x ≡ Ok node) is e;
              names = p;
            }
          ]
      by more (names_none none) c h =
          wider n at (h (subst (λ (l : List ℕ). Contains l at) (append-nil (naming hive parent n)) c))

  at-named : (n at : ℕ) → NamesParent hive parent n at → Contains (naming hive parent n) at
  unfolding naming
  at-named zero at p = absurd (omega (arith, p.within))
  at-named (suc n) at p =
      by (place_if parent (parent_in (reading key_node_at hive.cells (8 * n))) (8 * n)) (one-more n) (cases_lt p.place n) (at-named n at)
    where
      here : n ≡ p.place → 8 * n ≡ at
      here e = ap (λ (k : ℕ). 8 * k) e ∙ sym p.at_is

      by : (more : List ℕ) → OneMore n more → (p.place < n) ⊎ (n ≤ p.place)
          → (NamesParent hive parent n at → Contains (naming hive parent n) at) → Contains (naming hive parent n ++ more) at
      by more o (inl lt) h =
          Contains-append_left (naming hive parent n) more at
          (h (record { place = p.place; within = lt; at_is = p.at_is; node = p.node; read = p.read; names = p.names }))
      by more (names_it node e q) (inr le) h =
          subst (Contains (naming hive parent n ++ 8 * n ∷ [])) (here (omega (arith, le, p.within)))
          (Contains-push (naming hive parent n) (8 * n))
      by more (names_none none) (inr le) h =
          absurd (none p.node (subst (λ (x : ℕ). reading key_node_at hive.cells x ≡ Ok p.node)
          (sym (here (omega (arith, le, p.within)))) p.read) p.names)

  naming-rises : (n : ℕ) → AllPairs (λ a b. a < b) (naming hive parent n)
  unfolding naming
  naming-rises zero = λ i j d lt within. absurd (omega (arith, within))
  naming-rises (suc n) =
      by (place_if parent (parent_in (reading key_node_at hive.cells (8 * n))) (8 * n)) (one-more n) (naming-rises n)
    where
      by : (more : List ℕ) → OneMore n more → AllPairs (λ a b. a < b) (naming hive parent n)
          → AllPairs (λ a b. a < b) (naming hive parent n ++ more)
      by more (names_it node e p) h =
          all_pairs_push (λ a b. a < b) (naming hive parent n) (8 * n) h
          (λ k d lt. let q = named-at n (get_or (naming hive parent n) k d) (Contains-get_or (naming hive parent n) k d lt) in
          omega (arith, q.at_is, q.within))
      by more (names_none none) h =
          subst (AllPairs (λ a b. a < b)) (sym (append-nil (naming hive parent n))) h

pub naming-is : (hive : Ground) (parent at : ℕ) → Contains (naming hive parent hive.slots) at ↔ NamesParent hive parent hive.slots at
naming-is hive parent at = (named-at hive parent hive.slots at, at-named hive parent hive.slots at)

pub naming-in-order : (hive : Ground) (parent : ℕ) → AllPairs (λ a b. a < b) (naming hive parent hive.slots)
naming-in-order hive parent = naming-rises hive parent hive.slots
