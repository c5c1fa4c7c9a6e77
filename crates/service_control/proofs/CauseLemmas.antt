-- The causes of one more service.
use Rattle.std.proofs.Common.{◌≡◌, ℕ, ◌+◌, ◌-◌, ◌<◌, ◌≤◌, List, ◌++◌, length, get_or, replicate, refl, sym, ◌∙◌, subst, inl, inr, arith}
use Rattle.std.specs.Prelude.{Contains}
use Rattle.std.proofs.lemmas.Bool.{cases_lt}
use Rattle.std.proofs.lemmas.List.{length-append, length-replicate, get_or_append_left, get_or-append_right, get_or-append-add, get_or-replicate, get_or_default}
use Rattle.std.proofs.lemmas.List.Elements.{Contains-get_or}
use Rattle.start_model.specs.Demand.{Need}
use Rattle.service_control.specs.Causes.{AreCauses, causes_at}

module _ (r : List Need) (p : ℕ) (causes more : List Need) (owners : List ℕ) (old : AreCauses r p causes owners)
    (inside : p < length r) (are : more ≡ causes_at r p) where
  abbrev all_causes : List Need
  all_causes = causes ++ more

  abbrev all_owners : List ℕ
  all_owners = owners ++ replicate (length more) p

  all_len : length (owners ++ replicate (length more) p) ≡ length (causes ++ more)
  all_len = omega (
    arith,
    length-append owners (replicate (length more) p),
    length-append causes more,
    length-replicate (length more) p,
    old.len,
  )

  new_owner : (c d : ℕ) → length causes ≤ c → c < length (causes ++ more)
      → get_or (owners ++ replicate (length more) p) c d ≡ p
  new_owner c d from lt =
      get_or-append_right owners (replicate (length more) p) (length causes) c d old.len from
      ∙ get_or-replicate (length more) (c - length causes) p d (omega (arith, from, lt, length-append causes more))

  new_cause : (c : ℕ) (n : Need) → length causes ≤ c → get_or (causes ++ more) c n ≡ get_or more (c - length causes) n
  new_cause c n from = get_or-append_right causes more (length causes) c n refl from

  grown : AreCauses r (p + 1) (causes ++ more) (owners ++ replicate (length more) p)
  grown = record {
    len = all_len;
    within = λ c d lt. elim (cases_lt c (length causes)) [
      | inl before ↦ (let e = get_or_append_left owners (replicate (length more) p) d c
          (omega (arith, before, old.len)) in
          let P : ℕ → Type 0 = λ k. k < length r in subst P (sym e) (old.within c d before))
      | inr from ↦ (let e = new_owner c d from lt in let P : ℕ → Type 0 = λ k. k < length r in subst P (sym e) inside)
    ];
    owned = λ c d n lt. elim (cases_lt c (length causes)) [
      | inl before ↦
          (let e = get_or_append_left owners (replicate (length more) p) d c (omega (arith, before, old.len)) in
          let f = get_or_append_left causes more n c before in
          let P : ℕ → Type 0 = λ k. Contains (causes_at r k) (get_or (causes ++ more) c n) in
          let Q : Need → Type 0 = λ x. Contains (causes_at r (get_or owners c d)) x in
          subst P (sym e) (subst Q (sym f) (old.owned c d n before)))
      | inr from ↦
          (let e = new_owner c d from lt in
          let f = new_cause c n from in
          let within : c - length causes < length more = omega (arith, from, lt, length-append causes more) in
          let P : ℕ → Type 0 = λ k. Contains (causes_at r k) (get_or (causes ++ more) c n) in
          let Q : Need → Type 0 = λ x. Contains (causes_at r p) x in
          let L : List Need → Type 0 = λ l. Contains l (get_or more (c - length causes) n) in
          subst P (sym e) (subst Q (sym f) (subst L are (Contains-get_or more (c - length causes) n within))))
    ];
    every = λ q x lt there. elim (cases_lt q p) [
      | inl before ↦
          (let f = old.every q x before there in
          let low : f.0 < length causes = f.1 in (
            f.0,
            omega (arith, low, length-append causes more),
            λ d. get_or_append_left owners (replicate (length more) p) d f.0 (omega (arith, low, old.len)) ∙ f.2 d,
            λ n. get_or_append_left causes more n f.0 low ∙ f.3 n,
          ))
      | inr from ↦
          (let same : q ≡ p = omega (arith, from, lt) in
          let P : ℕ → Type 0 = λ k. Contains (causes_at r k) x in
          let L : List Need → Type 0 = λ l. Contains l x in
          let here : Contains more x = subst L (sym are) (subst P same there) in
          let small : length causes + here.0 < length (causes ++ more) =
          omega (arith, here.1, length-append causes more) in (
            length causes + here.0,
            small,
            λ d. new_owner (length causes + here.0) d (omega arith) small ∙ sym same,
            λ n. get_or-append-add causes more here.0 n ∙ get_or_default more here.0 n x here.1 ∙ here.2,
          ))
    ];
  }

pub causes_more : (r : List Need) (p : ℕ) (causes made slice causes' : List Need) (owners owners' : List ℕ)
    → p < length r → AreCauses r p causes owners → made ≡ causes_at r p → slice ≡ made
    → causes' ≡ causes ++ slice → owners' ≡ owners ++ replicate (length slice) p → AreCauses r (p + 1) causes' owners'
causes_more r p causes made slice causes' owners owners' inside old are same needs_is owners_is =
    let whole = grown r p causes slice owners old inside (same ∙ are) in
    let P : List Need → Type 0 = λ l. AreCauses r (p + 1) l (owners ++ replicate (length slice) p) in
    let Q : List ℕ → Type 0 = λ l. AreCauses r (p + 1) causes' l in
    subst Q (sym owners_is) (subst P (sym needs_is) whole)
