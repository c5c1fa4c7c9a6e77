-- Groups that were gone through.
use Rattle.std.proofs.Common.{◌≡◌, ℕ, Bool, true, false, not, nat_eq, ◌&&◌, ◌||◌, cond, List, [], ◌∷◌, ◌++◌, length, get_or, filter, Option, Some, None, refl, sym, ap, ◌∙◌, inl, inr, ◌⊎◌, arith}
use Rattle.std.specs.Prelude.{nat_lt, position, slice_get, Result, Ok, Err, OnOk}
use Rattle.std.specs.Option.{is_some, option_map_or, option_and_then}
use Rattle.std.specs.List.{list_any, flat_map, filter_map, cons_option, range_with_len}
use Rattle.std.proofs.Math.Bool.{or-false}
use Rattle.std.proofs.lemmas.Bool.{false≢true, eqb-true, eq-eqb, lt-ltb}
use Rattle.std.proofs.lemmas.List.Elements.{filter_map-append}
use Rattle.std.proofs.lemmas.List.Folds.{list_any-append}
use Rattle.std.proofs.lemmas.List.Sums.{fold-append}
use Rattle.std.proofs.lemmas.List.Quantifiers.{position-Some}
use Rattle.indexmap.specs.IndexSet.{insert_all, insert_key}
use Rattle.nt_bytes.specs.Folding.{folds_same}
use Rattle.nt_names.specs.name_places.Places.{places_named}
use Rattle.nt_names.proofs.PlaceLemmas.{first_named}
use Rattle.nt_names.proofs.FoldLemmas.{alike}
use Rattle.why_needs.specs.declared.why_state.views.PhaseView.{PhaseView}
use Rattle.why_needs.specs.declared.why_needs.members.GroupMembers.{GroupMembers}
use Rattle.why_needs.specs.why_needs.Members.{members_in}
use Rattle.why_lacks.specs.declared.why_items.needs.NeedsRun.{NeedsRun}
use Rattle.why_lacks.specs.why_items.Items.{members_at, leads}
use Rattle.why_lacks.specs.why_items.Gone.{same_pair, first_place, group_leads, AreGone}

-- ---- keys

or_left : (a b : Bool) → a ≡ true → (a || b) ≡ true
or_left true b h = refl
or_left false b h = absurd (false≢true h)

or_right : (a b : Bool) → b ≡ true → (a || b) ≡ true
or_right true b h = refl
or_right false b h = h

key_keeps : (found : List ℕ) (x to : ℕ) → list_any (nat_eq to) found ≡ true → list_any (nat_eq to) (insert_key nat_eq found x) ≡ true
key_keeps found x to on = by (list_any (nat_eq x) found)
  where
    by : (b : Bool) → list_any (nat_eq to) (cond b found (found ++ x ∷ [])) ≡ true
    by true = on
    by false = list_any-append (nat_eq to) found (x ∷ []) ∙ or_left (list_any (nat_eq to) found) (nat_eq to x || false) on

key_in : (found : List ℕ) (x : ℕ) → list_any (nat_eq x) (insert_key nat_eq found x) ≡ true
key_in found x = by (list_any (nat_eq x) found) refl
  where
    by : (b : Bool) → list_any (nat_eq x) found ≡ b → list_any (nat_eq x) (cond b found (found ++ x ∷ [])) ≡ true
    by true is = is
    by false is = list_any-append (nat_eq x) found (x ∷ [])
        ∙ or_right (list_any (nat_eq x) found) (nat_eq x x || false) (or_left (nat_eq x x) false (eq-eqb x x refl))

pub all_keep : (found xs : List ℕ) (to : ℕ) → list_any (nat_eq to) found ≡ true → list_any (nat_eq to) (insert_all nat_eq found xs) ≡ true
all_keep found [] to on = on
all_keep found (x ∷ xs) to on = all_keep (insert_key nat_eq found x) xs to (key_keeps found x to on)

all_in : (found xs : List ℕ) (to : ℕ) → list_any (nat_eq to) xs ≡ true → list_any (nat_eq to) (insert_all nat_eq found xs) ≡ true
all_in found [] to on = absurd (false≢true on)
all_in found (x ∷ xs) to on = by (nat_eq to x) refl on (all_in (insert_key nat_eq found x) xs to)
  where
    by : (b : Bool) → nat_eq to x ≡ b → (b || list_any (nat_eq to) xs) ≡ true
        → (list_any (nat_eq to) xs ≡ true → list_any (nat_eq to) (insert_all nat_eq (insert_key nat_eq found x) xs) ≡ true)
        → list_any (nat_eq to) (insert_all nat_eq (insert_key nat_eq found x) xs) ≡ true
    by true is h rest = all_keep (insert_key nat_eq found x) xs to
        (ap (λ k. list_any (nat_eq k) (insert_key nat_eq found x)) (eqb-true to x is) ∙ key_in found x)
    by false is h rest = rest h

-- what is there already changes nothing
all_there : (found xs : List ℕ) → ((to : ℕ) → list_any (nat_eq to) xs ≡ true → list_any (nat_eq to) found ≡ true)
    → insert_all nat_eq found xs ≡ found
all_there found [] there = refl
all_there found (x ∷ xs) there =
    let here : insert_key nat_eq found x ≡ found =
    ap (λ b. cond b found (found ++ x ∷ [])) (there x (or_left (nat_eq x x) (list_any (nat_eq x) xs) (eq-eqb x x refl))) in
    ap (λ ks. insert_all nat_eq ks xs) here
    ∙ all_there found xs (λ to on. there to (or_right (nat_eq to x) (list_any (nat_eq to) xs) on))

-- ---- pairs

pair_cases : (gone : List (ℕ × ℕ)) (p q : ℕ × ℕ) → list_any (same_pair p) (insert_key same_pair gone q) ≡ true
    → (list_any (same_pair p) gone ≡ true) ⊎ (same_pair p q ≡ true)
pair_cases gone p q on = by (list_any (same_pair q) gone) on
  where
    or_cases : (a b : Bool) → (a || b) ≡ true → (a ≡ true) ⊎ (b ≡ true)
    or_cases true b h = inl refl
    or_cases false b h = inr h

    by : (b : Bool) → list_any (same_pair p) (cond b gone (gone ++ q ∷ [])) ≡ true
        → (list_any (same_pair p) gone ≡ true) ⊎ (same_pair p q ≡ true)
    by true h = inl h
    by false h = or_cases (list_any (same_pair p) gone) (same_pair p q)
        (ap (λ b. list_any (same_pair p) gone || b) (sym (or-false (same_pair p q))) ∙ sym (list_any-append (same_pair p) gone (q ∷ [])) ∙ h)

both_same : (a b : Bool) → (a && b) ≡ true → (a ≡ true) × (b ≡ true)
both_same true b h = (refl, h)
both_same false b h = absurd (false≢true h)

-- ---- groups of one first place

pub alike_by : (m : GroupMembers) (a b : List ℕ) → folds_same a b ≡ true → members_in m a ≡ members_in m b
alike_by m a b same =
    ap (λ (test : ℕ → Bool). filter_map (slice_get m.names) (filter test (range_with_len 0 (length m.groups))))
    (λ i k. alike a b same (get_or m.groups k []) i)

alike_in : (m : GroupMembers) (a b : List ℕ) (first : ℕ) → position (folds_same a) m.groups ≡ Some first
    → position (folds_same b) m.groups ≡ Some first → members_in m a ≡ members_in m b
alike_in m a b first is_a is_b =
    ap (λ (test : ℕ → Bool). filter_map (slice_get m.names) (filter test (range_with_len 0 (length m.groups))))
    (λ i k. (alike a at_first (position-Some (folds_same a) m.groups first [] is_a).1 (get_or m.groups k [])
    ∙ sym (alike b at_first (position-Some (folds_same b) m.groups first [] is_b).1 (get_or m.groups k []))) i)
  where
    at_first : List ℕ
    at_first = get_or m.groups first []

alike_members : (n : NeedsRun) (at : ℕ) (a b : List ℕ) (first : ℕ) → first_place n at a ≡ Some first → first_place n at b ≡ Some first
    → members_at n at a ≡ members_at n at b
alike_members n at a b first = by (slice_get n.members at)
  where
    by : (o : Option GroupMembers)
        → option_and_then (λ (m : GroupMembers). position (folds_same a) m.groups) o ≡ Some first
        → option_and_then (λ (m : GroupMembers). position (folds_same b) m.groups) o ≡ Some first
        → option_map_or (λ (m : GroupMembers). members_in m a) o [] ≡ option_map_or (λ (m : GroupMembers). members_in m b) o []
    by None is_a is_b = refl
    by (Some m) is_a is_b = alike_in m a b first is_a is_b

no_first : (ps : List ℕ) → slice_get ps 0 ≡ None → ps ≡ []
no_first [] h = refl
no_first (p ∷ ps) h = absurd cc

pub none_in_group : (n : NeedsRun) (at : ℕ) (group : List ℕ) → first_place n at group ≡ None → members_at n at group ≡ []
none_in_group n at group = by (slice_get n.members at)
  where
    by : (o : Option GroupMembers) → option_and_then (λ (m : GroupMembers). position (folds_same group) m.groups) o ≡ None
        → option_map_or (λ (m : GroupMembers). members_in m group) o [] ≡ []
    by None is = refl
    by (Some m) is = ap (filter_map (slice_get m.names)) (no_first (places_named group m.groups) (first_named group m.groups ∙ is))

pub nobody_leads : (n : NeedsRun) (at : ℕ) (v : PhaseView) (group : List ℕ) (found : List ℕ) → None ≡ first_place n at group
    → found ≡ insert_all nat_eq found (group_leads n at v group)
nobody_leads n at v group found is =
    ap (λ names. insert_all nat_eq found (filter_map (leads n at v) names)) (sym (none_in_group n at group (sym is)))

-- ---- what is gone through

pub gone_more : (n : NeedsRun) (gone : List (ℕ × ℕ)) (found more new : List ℕ) → AreGone n gone found → new ≡ insert_all nat_eq found more
    → AreGone n gone new
gone_more n gone found more new old put = record {
  each = λ at first group v on is some to in'.
      ap (list_any (nat_eq to)) put ∙ all_keep found more to (old.each at first group v on is some to in');
}

-- the group was gone through before
pub gone_there : (n : NeedsRun) (gone : List (ℕ × ℕ)) (found : List ℕ) (at first : ℕ) (group : List ℕ) (v : PhaseView) → AreGone n gone found
    → slice_get n.run.views at ≡ Some v → first_place n at group ≡ Some first → false ≡ not (list_any (same_pair (at, first)) gone)
    → found ≡ insert_all nat_eq found (group_leads n at v group)
gone_there n gone found at first group v old some is before =
    sym (all_there found (group_leads n at v group) (old.each at first group v (on (list_any (same_pair (at, first)) gone) before) is some))
  where
    on : (b : Bool) → false ≡ not b → b ≡ true
    on true h = refl
    on false h = absurd (false≢true h)

same_view : (a b : PhaseView) → Some a ≡ Some b → a ≡ b
same_view a b h = cc

-- it is gone through
pub gone_marked : (n : NeedsRun) (gone after : List (ℕ × ℕ)) (found new : List ℕ) (at first : ℕ) (group : List ℕ) (v : PhaseView)
    → AreGone n gone found → slice_get n.run.views at ≡ Some v → first_place n at group ≡ Some first
    → new ≡ insert_all nat_eq found (group_leads n at v group) → after ≡ insert_key same_pair gone (at, first) → AreGone n after new
gone_marked n gone after found new at first group v old some is put noted = record {
  each = λ at' first' group' v' on is' some' to in'.
      elim (pair_cases gone (at', first') (at, first) (ap (list_any (same_pair (at', first'))) (sym noted) ∙ on)) [
        | inl before ↦ ap (list_any (nat_eq to)) put ∙ all_keep found (group_leads n at v group) to (old.each at' first' group' v' before is' some' to in')
        | inr now ↦
            let same = both_same (nat_eq at' at) (nat_eq first' first) now in
            let at_is : at' ≡ at = eqb-true at' at same.0 in
            let first_is : first' ≡ first = eqb-true first' first same.1 in
            let view : v' ≡ v = same_view v' v (sym some' ∙ ap (slice_get n.run.views) at_is ∙ some) in
            let there : first_place n at group' ≡ Some first =
            ap (λ k. first_place n k group') (sym at_is) ∙ is' ∙ ap (λ k. Some k) first_is in
            let leads_are : group_leads n at' v' group' ≡ group_leads n at v group =
            (λ i. group_leads n (at_is i) (view i) group')
            ∙ ap (filter_map (leads n at v)) (alike_members n at group' group first there is) in
            ap (list_any (nat_eq to)) put
            ∙ all_in found (group_leads n at v group) to (ap (list_any (nat_eq to)) (sym leads_are) ∙ in')
      ];
}

-- ---- group by group

flat_leads : (n : NeedsRun) (at : ℕ) (v : PhaseView) (groups : List (List ℕ))
    → filter_map (leads n at v) (flat_map (members_at n at) groups) ≡ flat_map (group_leads n at v) groups
flat_leads n at v [] = refl
flat_leads n at v (g ∷ gs) =
    filter_map-append (leads n at v) (members_at n at g) (flat_map (members_at n at) gs)
    ∙ ap (λ xs. group_leads n at v g ++ xs) (flat_leads n at v gs)

pub both_found : {E : Type 0} (r : Result (Unit {0}) E) (n : NeedsRun) (at : ℕ) (v : PhaseView) (services groups : List (List ℕ))
    (first found new : List ℕ) (gs : List (List ℕ)) → found ≡ insert_all nat_eq first (filter_map (leads n at v) services) → gs ≡ groups
    → OnOk r (new ≡ insert_all nat_eq found (flat_map (group_leads n at v) gs))
    → OnOk r (new ≡ insert_all nat_eq first (filter_map (leads n at v) (services ++ flat_map (members_at n at) groups)))
both_found (Err e) n at v services groups first found new gs one are two = tt
both_found (Ok u) n at v services groups first found new gs one are two =
    two ∙ (λ i. insert_all nat_eq (one i) (flat_map (group_leads n at v) (are i)))
    ∙ sym (fold-append (insert_key nat_eq) first (filter_map (leads n at v) services) (flat_map (group_leads n at v) groups))
    ∙ ap (insert_all nat_eq first) (ap (λ xs. filter_map (leads n at v) services ++ xs) (sym (flat_leads n at v groups))
    ∙ sym (filter_map-append (leads n at v) services (flat_map (members_at n at) groups)))

-- ---- whether there are members

pub has_one : {X Y : Type 0} (h : X → Option Y) (xs : List X) → list_any (λ x. is_some (h x)) xs ≡ nat_lt 0 (length (filter_map h xs))
has_one h [] = refl
has_one h (x ∷ xs) = by (h x) (has_one h xs)
  where
    by : (o : Option _) → list_any (λ x. is_some (h x)) xs ≡ nat_lt 0 (length (filter_map h xs))
        → (is_some o || list_any (λ x. is_some (h x)) xs) ≡ nat_lt 0 (length (cons_option o (filter_map h xs)))
    by None rest = rest
    by (Some y) rest = sym (lt-ltb 0 (length (y ∷ filter_map h xs)) (omega arith))
