-- A cause that gets ready makes its owner lean, and in the end each cause of a service that leans was ready.
use Rattle.std.proofs.Common.{◌≡◌, ℕ, ◌+◌, ◌<◌, Bool, true, false, not, nat_eq, ltb, ◌&&◌, ◌||◌, cond, List, [], ◌∷◌, ◌++◌, length, get_or, map, set, replicate, Option, Some, None, refl, sym, ap, ◌∙◌, subst, inl, inr, arith, zero-add}
use Rattle.std.specs.Prelude.{slice_get, Contains, position}
use Rattle.std.specs.List.{list_any, list_all, position_or_len}
use Rattle.std.specs.Option.{option_map, option_map_or, option_and_then, option_to_list}
use Rattle.std.proofs.lemmas.Bool.{false≢true, and_parts, and_from, or_cases, or_left, cases_Bool, cases_eq, eq-eqb}
use Rattle.std.proofs.lemmas.List.{get_or-set_same, get_or-set_other, length-set, length-map, length-replicate, get_or_default, get_or-replicate, same_lists}
use Rattle.std.proofs.lemmas.List.Folds.{Any-from_list_any, list_any-append, list_any_at}
use Rattle.std.proofs.lemmas.List.Elements.{Contains-append_cases, Contains-append_left, Contains-append_right, Contains-push, Contains-push_cases}
use Rattle.std.proofs.lemmas.List.FromFn.{get_or-map-range_with_len, length-map-range_with_len}
use Rattle.std.proofs.lemmas.List.Quantifiers.{position-Some}
use Rattle.std.proofs.lemmas.Option.{slice_get-get_or}
use Rattle.nt_bytes.specs.Folding.{folded, folds_same}
use Rattle.nt_names.specs.name_places.Places.{places_named}
use Rattle.nt_names.proofs.FoldLemmas.{alike}
use Rattle.start_model.specs.Demand.{Need, member, all_sets}
use Rattle.start_model.specs.Ready.{Label, has_name, has_group, is_ready}
use Rattle.dependencies.specs.Waiting.{WaitingState, label_of, labels_at, next_place_in, after_trying}
use Rattle.dependencies.proofs.PulledLemmas.{same_bool, then_true, then_gives, all_true, all_below, sets_have}
use Rattle.boot_phases.proofs.TriedLemmas.{within}
use Rattle.service_control.specs.State.{labels_of}
use Rattle.dependencies.specs.Attempts.{all_waiting}
use Rattle.service_control.specs.Leaning.{is_of_group, has, has_all, leans, is_due, IsClosed, is_closed, is_leaning, leaning_of}
use Rattle.service_control.specs.Causes.{cause_of, by_name, by_group, own_causes, key_of, keys_of, names_at, is_first, group_cause, causes_of, causes_at, AreCauses}
use Rattle.service_control.proofs.SpreadState.{none, IsDone, IsHad, IsSpread}
use Rattle.service_control.proofs.WaitLemmas.{next_ready, none_ready, no_place}
use Rattle.service_control.proofs.LeanLemmas.{folds_itself, folded_last, label_of_any, any_of_label, name_alike, group_alike, group_at, has_by, has_some, has_alike, has_all_alike, has_all_by, has_all_some, has_all_each, due_is, due_within, lean_seed, lean_name, lean_service, lean_group, mapped_from, mapped_to, alone_from, all_mapped, each_mapped, key_is, group_place, place_group, name_found, range_each}
use Rattle.dependencies.proofs.MeetLemmas.{folded_first}
use Rattle.dependencies.proofs.WantLemmas.{unmet_yet}

none_some : (g : List ℕ) → None ≡ Some g → ⊥
none_some g e = absurd cc

some_same : (g h : List ℕ) → Some g ≡ Some h → g ≡ h
some_same g h e = cc

-- ---- what a ready cause yields

pub record Yields (r : List Need) (set : ℕ → Bool) (q : ℕ) (x : Need) : Type 0 where
  pub owner : set q ≡ true
  pub group : (g : List ℕ) → x.group ≡ Some g → has_all r set g ≡ true

module _ (r : List Need) (s : List ℕ) (set : ℕ → Bool) (closed : IsClosed r s set) (started : List Label)
    (had : (l : Label) → Contains started l → IsHad r set l) where
  has_started : (d : List ℕ) → has_name started d ≡ true → has r set d ≡ true
  has_started d h =
      let l = label_of_any (λ (s : Label). folds_same d s.0) started h in
      has_alike r set d l.label.0 l.passes ∙ (had l.label l.there).name

  by_group_label : (g : List ℕ) (l : Label) → Contains started l → (o : Option (List ℕ)) → l.1 ≡ o
      → option_map_or (folds_same g) o false ≡ true → has_all r set g ≡ true
  by_group_label g l c None e h = absurd (false≢true h)
  by_group_label g l c (Some k) e h = has_all_alike r set g k h ∙ (had l c).group k e

  has_grouped : (g : List ℕ) → has_group started g ≡ true → has_all r set g ≡ true
  has_grouped g h =
      let l = label_of_any (λ (s : Label). option_map_or (folds_same g) s.1 false) started h in
      by_group_label g l.label l.there l.label.1 refl l.passes

  by_name_yields : (q : ℕ) (d : List ℕ) (x : Need) → q < length r → by_name (get_or r q none) d ≡ x
      → (has r set d ≡ true → leans r s set (get_or r q none) ≡ true) → is_ready started x ≡ true → Yields r set q x
  by_name_yields q d x lt is lean ready =
      let here : is_ready started (by_name (get_or r q none) d) ≡ true = ap (is_ready started) is ∙ ready in
      let on = (and_parts (has_name started d) true (and_parts (has_name started d && true) true here).0).0 in
      record {
        owner = closed q (due_is r s set q lt ∙ lean (has_started d on));
        group = λ g e. absurd (none_some g (ap (λ (y : Need). y.group) is ∙ e));
      }

  by_group_yields : (q : ℕ) (d : List ℕ) (x : Need) → q < length r → by_group (get_or r q none) d ≡ x
      → Contains (get_or r q none).groups d → is_ready started x ≡ true → Yields r set q x
  by_group_yields q d x lt is c ready =
      let here : is_ready started (by_group (get_or r q none) d) ≡ true = ap (is_ready started) is ∙ ready in
      let on = (and_parts (has_group started d) true (and_parts true (has_group started d && true) here).1).0 in
      record {
        owner = closed q (due_is r s set q lt
            ∙ lean_group r s set (get_or r q none)
            (any_of_label (has_all r set) (get_or r q none).groups d c (has_grouped d on)));
        group = λ g e. absurd (none_some g (ap (λ (y : Need). y.group) is ∙ e));
      }

  own_group_yields : (q : ℕ) (g : List ℕ) (x : Need) → q < length r → (get_or r q none).group ≡ Some g
      → cause_of (get_or r q none) (names_at r (places_named (1 ∷ g) (keys_of r))) [] (Some g) ≡ x
      → is_ready started x ≡ true → Yields r set q x
  own_group_yields q g x lt of is ready = record {
    owner = closed q (due_is r s set q lt ∙ lean_name r s set n (each q lt of_q));
    group = λ h e. ap (has_all r set) (sym (some_same g h (ap (λ (y : Need). y.group) is ∙ e)))
        ∙ has_all_by r set g q lt of_q each;
  }
    where
      n : Need
      n = get_or r q none

      names : List (List ℕ)
      names = names_at r (places_named (1 ∷ g) (keys_of r))

      of_q : is_of_group r g q ≡ true
      of_q = group_at r g q lt ∙ ap (λ o. option_map_or (folds_same g) o false) of ∙ folds_itself g

      here : is_ready started (cause_of (get_or r q none) (names_at r (places_named (1 ∷ g) (keys_of r))) [] (Some g))
          ≡ true
      here = ap (is_ready started) is ∙ ready

      each : (p : ℕ) → p < length r → is_of_group r g p ≡ true → has r set (get_or r p none).name ≡ true
      each p in_r on = has_started (get_or r p none).name
          (all_mapped (has_name started) (λ p. option_map (λ (n : Need). n.name) (slice_get r p))
          (places_named (1 ∷ g) (keys_of r)) p (get_or r p none).name
          (and_parts (list_all (has_name started) (names_at r (places_named (1 ∷ g) (keys_of r)))) true here).0
          (group_place r g p in_r on) (name_found r p in_r))

  first_yields : (q : ℕ) (g : List ℕ) (x : Need) (b : Bool) → q < length r → (get_or r q none).group ≡ Some g
      → Contains (option_to_list
      (cond b (Some (cause_of (get_or r q none) (names_at r (places_named (1 ∷ g) (keys_of r))) [] (Some g))) None))
      x → is_ready started x ≡ true → Yields r set q x
  first_yields q g x true lt of c ready = own_group_yields q g x lt of (alone_from _ x c) ready
  first_yields q g x false lt of c ready = absurd (omega (arith, c.1))

  class_yields : (q : ℕ) (x : Need) (o : Option (List ℕ)) → q < length r → (get_or r q none).group ≡ o
      → Contains (option_to_list (option_and_then (group_cause r q (get_or r q none)) o)) x → is_ready started x ≡ true
      → Yields r set q x
  class_yields q x None lt of c ready = absurd (omega (arith, c.1))
  class_yields q x (Some g) lt of c ready = first_yields q g x (is_first r q g) lt of c ready

  pub cause_yields : (q : ℕ) (x : Need) → q < length r → Contains (causes_of r q (get_or r q none)) x
      → is_ready started x ≡ true → Yields r set q x
  cause_yields q x lt c ready =
      let n = get_or r q none in
      elim (Contains-append_cases (own_causes n) (option_to_list (option_and_then (group_cause r q n) n.group)) x c) [
        | inl own ↦ elim (Contains-append_cases (map (by_name n) (n.name ∷ []) ++ map (by_name n) n.services)
            (map (by_group n) n.groups) x own) [
              | inl names ↦ elim (Contains-append_cases (map (by_name n) (n.name ∷ [])) (map (by_name n) n.services)
                  x names) [
                    | inl self ↦
                        let m = mapped_from (by_name n) (n.name ∷ []) x self in
                        by_name_yields q m.item x lt m.is
                        (λ h. lean_name r s set n (ap (has r set) (alone_from n.name m.item m.there) ∙ h)) ready
                    | inr service ↦
                        let m = mapped_from (by_name n) n.services x service in
                        by_name_yields q m.item x lt m.is
                        (λ h. lean_service r s set n (any_of_label (has r set) n.services m.item m.there h)) ready
                  ]
              | inr group ↦
                  let m = mapped_from (by_group n) n.groups x group in
                  by_group_yields q m.item x lt m.is m.there ready
            ]
        | inr class ↦ class_yields q x n.group lt refl class ready
      ]

-- ---- a cause has the name of its owner

first_name : (r : List Need) (n : Need) (g : List ℕ) (x : Need) (b : Bool)
    → Contains (option_to_list
    (cond b (Some (cause_of n (names_at r (places_named (1 ∷ g) (keys_of r))) [] (Some g))) None)) x → n.name ≡ x.name
first_name r n g x true c = ap (λ (y : Need). y.name) (alone_from _ x c)
first_name r n g x false c = absurd (omega (arith, c.1))

class_name : (r : List Need) (q : ℕ) (n x : Need) (o : Option (List ℕ))
    → Contains (option_to_list (option_and_then (group_cause r q n) o)) x → n.name ≡ x.name
class_name r q n x None c = absurd (omega (arith, c.1))
class_name r q n x (Some g) c = first_name r n g x (is_first r q g) c

pub cause_name : (r : List Need) (q : ℕ) (n x : Need) → Contains (causes_of r q n) x → n.name ≡ x.name
cause_name r q n x c =
    elim (Contains-append_cases (own_causes n) (option_to_list (option_and_then (group_cause r q n) n.group)) x c) [
      | inl own ↦ elim (Contains-append_cases (map (by_name n) (n.name ∷ []) ++ map (by_name n) n.services)
          (map (by_group n) n.groups) x own) [
            | inl names ↦ elim (Contains-append_cases (map (by_name n) (n.name ∷ [])) (map (by_name n) n.services) x
                names) [
                  | inl self ↦ ap (λ (y : Need). y.name) (mapped_from (by_name n) (n.name ∷ []) x self).is
                  | inr service ↦ ap (λ (y : Need). y.name) (mapped_from (by_name n) n.services x service).is
                ]
            | inr group ↦ ap (λ (y : Need). y.name) (mapped_from (by_group n) n.groups x group).is
          ]
      | inr class ↦ class_name r q n x n.group class
    ]

causes_are : (r : List Need) (q : ℕ) → q < length r → causes_at r q ≡ causes_of r q (get_or r q none)
causes_are r q lt = ap (λ o. option_map_or (causes_of r q) o []) (slice_get-get_or r q none lt)

-- ---- a step

abbrev more : List Label → Need → List Label
more started x = started ++ label_of x ∷ []

has_more : (started : List Label) (x : Need) (d : List ℕ) → has_name started d ≡ true
    → has_name (more started x) d ≡ true
has_more started x d h = list_any-append (λ (s : Label). folds_same d s.0) started (label_of x ∷ [])
    ∙ or_left (has_name started d) _ h

group_more : (started : List Label) (x : Need) (g : List ℕ) → has_group started g ≡ true
    → has_group (more started x) g ≡ true
group_more started x g h =
    list_any-append (λ (s : Label). option_map_or (folds_same g) s.1 false) started (label_of x ∷ [])
    ∙ or_left (has_group started g) _ h

has_new : (started : List Label) (x : Need) → has_name (more started x) x.name ≡ true
has_new started x = any_of_label (λ (s : Label). folds_same x.name s.0) (more started x) (label_of x)
    (Contains-push started (label_of x)) (folded_last x.name x.name ∙ folds_itself x.name)

group_new : (started : List Label) (x : Need) (g : List ℕ) → x.group ≡ Some g → has_group (more started x) g ≡ true
group_new started x g e =
    any_of_label (λ (s : Label). option_map_or (folds_same g) s.1 false) (more started x) (label_of x)
    (Contains-push started (label_of x))
    (ap (λ o. option_map_or (folds_same g) (option_map folded o) false) e ∙ folded_last g g ∙ folds_itself g)

taken_more : (taken : List Bool) (o q : ℕ) → o < length taken → member taken q ≡ true
    → member (set taken o true) q ≡ true
taken_more taken o q lt m = elim (cases_eq q o) [
  | inl e ↦ ap (member (set taken o true)) e ∙ get_or-set_same taken o true false lt
  | inr ne ↦ get_or-set_other taken o q true false ne ∙ m
]

some_group : (o : Option (List ℕ)) (g : List ℕ) → option_map folded o ≡ Some g
    → (h : List ℕ) × (o ≡ Some h) × (folded h ≡ g)
some_group None g e = absurd (none_some g e)
some_group (Some h) g e = (h, refl, some_same (folded h) g e)

-- the state once the cause x of the owner o was ready
module _ (r : List Need) (s : List ℕ) (owners : List ℕ) (w w' : WaitingState) (taken : List Bool) (at o : ℕ) (x : Need)
    (old : IsSpread r s owners w taken) (inside : at < length w.needs) (owner_in : o < length r)
    (ready : is_ready w.started x ≡ true)
    (owner_is : get_or owners at 0 ≡ o) (cause_is : get_or w.needs at none ≡ x)
    (cause : Contains (causes_of r o (get_or r o none)) x)
    (needs : w'.needs ≡ w.needs) (waits : w'.waits ≡ set w.waits at false) (started : w'.started ≡ more w.started x)
  where
    on_name : (d : List ℕ) → has_name (more w.started x) d ≡ true → has_name w'.started d ≡ true
    on_name d h = ap (λ l. has_name l d) started ∙ h

    on_group : (g : List ℕ) → has_group (more w.started x) g ≡ true → has_group w'.started g ≡ true
    on_group g h = ap (λ l. has_group l g) started ∙ h

    owner_small : o < length taken
    owner_small = omega (arith, owner_in, old.len)

    yields : (set : ℕ → Bool) → IsClosed r s set → Yields r set o x
    yields set closed = cause_yields r s set closed w.started (old.sound set closed) o x owner_in cause ready

    done_at : (c : ℕ) → c ≡ at → IsDone w' (set taken o true) (get_or owners c 0) (get_or w'.needs c none)
    done_at c e =
        let cause_here : get_or w'.needs c none ≡ x = (λ i. get_or (needs i) (e i) none) ∙ cause_is in
        let owner_here : get_or owners c 0 ≡ o = ap (λ k. get_or owners k 0) e ∙ owner_is in
        record {
          name = ap (λ (y : Need). has_name w'.started y.name) cause_here ∙ on_name x.name (has_new w.started x);
          group = λ g h. on_group g (group_new w.started x g (ap (λ (y : Need). y.group) (sym cause_here) ∙ h));
          owner_taken = ap (member (set taken o true)) owner_here ∙ get_or-set_same taken o true false owner_small;
        }

    done_other : (c : ℕ) → (c ≡ at → ⊥) → c < length w.needs → member (set w.waits at false) c ≡ false
        → IsDone w' (set taken o true) (get_or owners c 0) (get_or w'.needs c none)
    done_other c ne lt m =
        let d = old.done c lt (sym (get_or-set_other w.waits at c false false ne) ∙ m) in
        let here : get_or w'.needs c none ≡ get_or w.needs c none = ap (λ l. get_or l c none) needs in
        record {
          name = ap (λ (y : Need). has_name w'.started y.name) here ∙ on_name _ (has_more w.started x _ d.name);
          group = λ g h. on_group g (group_more w.started x g (d.group g (ap (λ (y : Need). y.group) (sym here) ∙ h)));
          owner_taken = taken_more taken o (get_or owners c 0) owner_small d.owner_taken;
        }

    had_new : (set : ℕ → Bool) → IsClosed r s set → (l : Label) → label_of x ≡ l → IsHad r set l
    had_new set closed l e =
        let y = yields set closed in
        record {
          name =
              ap (has r set) (sym (ap (λ (k : Label). k.0) e))
              ∙ has_by r set (folded x.name) o owner_in y.owner
              (folded_first x.name _ ∙ ap (folds_same x.name) (cause_name r o (get_or r o none) x cause)
              ∙ folds_itself x.name);
          group = λ g h.
              (let f = some_group x.group g (ap (λ (k : Label). k.1) e ∙ h) in
              has_all_alike r set g f.0 (ap (λ k. folds_same k f.0) (sym f.2) ∙ folded_first f.0 f.0 ∙ folds_itself f.0)
              ∙ y.group f.0 f.1);
        }

    pub spread_step : IsSpread r s owners w' (set taken o true)
    spread_step = record {
      causes = rw needs old.causes;
      waits_len = ap length waits ∙ length-set w.waits at false ∙ old.waits_len ∙ ap length (sym needs);
      len = length-set taken o true ∙ old.len;
      seeded = on_name s (has_more w.started x s old.seeded);
      done = λ c lt m. elim (cases_eq c at) [
        | inl e ↦ done_at c e
        | inr ne ↦ done_other c ne (omega (arith, lt, ap length needs)) (ap (λ l. member l c) (sym waits) ∙ m)
      ];
      on = λ q lt m. elim (cases_eq q o) [
        | inl e ↦ ap (λ k. has_name w'.started (get_or r k none).name) e
            ∙ ap (has_name w'.started) (cause_name r o (get_or r o none) x cause) ∙ on_name x.name (has_new w.started x)
        | inr ne ↦ on_name _ (has_more w.started x _ (old.on q lt (sym (get_or-set_other taken o q true false ne) ∙ m)))
      ];
      sound = λ set closed l c. elim (Contains-push_cases w.started (label_of x) l (let e = started in rw e at c)) [
        | inl before ↦ old.sound set closed l before
        | inr e ↦ had_new set closed l e
      ];
      least = λ set closed q m. elim (cases_eq q o) [
        | inl e ↦ ap set e ∙ (yields set closed).owner
        | inr ne ↦ old.least set closed q (sym (get_or-set_other taken o q true false ne) ∙ m)
      ];
    }

labels_are : (needs : List Need) (at : ℕ) → at < length needs
    → labels_at needs at ≡ label_of (get_or needs at none) ∷ []
labels_are needs at lt = ap (λ k. option_to_list (option_map label_of k)) (slice_get-get_or needs at none lt)

-- the next cause was ready
pub spread_more : (r : List Need) (s : List ℕ) (owners : List ℕ) (w w' : WaitingState) (taken taken' : List Bool)
    (at o : ℕ) → IsSpread r s owners w taken → Some at ≡ next_place_in w → w' ≡ after_trying w at true
    → o ≡ get_or owners at 0 → taken' ≡ set taken o true → IsSpread r s owners w' taken'
spread_more r s owners w w' taken taken' at o old next after is more_taken =
    let n = next_ready w at next in
    let owner : get_or owners at 0 ≡ o = sym is in
    let owner_in : o < length r = omega (arith, owner, old.causes.within at 0 n.inside) in
    let there : Contains (causes_of r o (get_or r o none)) (get_or w.needs at none) =
    (let P : List Need → Type 0 = λ l. Contains l (get_or w.needs at none) in
    subst P (ap (causes_at r) owner ∙ causes_are r o owner_in) (old.causes.owned at 0 none n.inside)) in
    let whole : IsSpread r s owners w' (set taken o true) =
    spread_step r s owners w w' taken at o (get_or w.needs at none) old n.inside owner_in n.ready owner refl there
    (ap (λ (v : WaitingState). v.needs) after) (ap (λ (v : WaitingState). v.waits) after)
    (ap (λ (v : WaitingState). v.started) after ∙ ap (λ l. w.started ++ l) (labels_are w.needs at n.inside)) in
    rw more_taken whole

-- ---- the beginning

seed_has : (r : List Need) (s : List ℕ) (set : ℕ → Bool) → has_name (labels_of r) s ≡ true → IsClosed r s set
    → has r set (folded s) ≡ true
seed_has r s set on closed =
    let l = label_of_any (λ (k : Label). folds_same s k.0) (labels_of r) on in
    let m = mapped_from label_of r l.label l.there in
    let p = m.there.0 in
    let lt = m.there.1 in
    let at : get_or r p none ≡ m.item = get_or_default r p none m.item lt ∙ m.there.2 in
    let same : folds_same s (get_or r p none).name ≡ true =
    ap (λ (n : Need). folds_same s n.name) at ∙ sym (folded_last s m.item.name)
    ∙ ap (λ (k : Label). folds_same s k.0) m.is ∙ l.passes in
    has_by r set (folded s) p lt (closed p (due_is r s set p lt ∙ lean_seed r s set (get_or r p none) same))
    (folded_first s _ ∙ same)

pub spread_start : (r : List Need) (s : List ℕ) (owners : List ℕ) (w : WaitingState) (taken : List Bool)
    (needs : List Need) (seed : List Label) → AreCauses r (length r) needs owners → has_name (labels_of r) s ≡ true
    → seed ≡ (folded s, None) ∷ [] → w ≡ all_waiting needs seed → taken ≡ replicate (length r) false
    → IsSpread r s owners w taken
spread_start r s owners w taken needs seed causes on is all none_taken =
    let first : w ≡ all_waiting needs ((folded s, None) ∷ []) = all ∙ ap (all_waiting needs) is in
    rw (first, none_taken) (record {
      causes = causes;
      waits_len = length-replicate (length needs) true;
      len = length-replicate (length r) false;
      seeded = or_left (folds_same s (folded s)) false (folded_last s s ∙ folds_itself s);
      done = λ c lt m. absurd (false≢true (sym m ∙ get_or-replicate (length needs) c true false lt));
      on = λ q lt m. absurd (false≢true (sym (unmet_yet (length r) q) ∙ m));
      sound = λ set closed l c.
          (let e = alone_from (folded s, None) l c in
          record {
            name = ap (λ (k : Label). has r set k.0) (sym e) ∙ seed_has r s set on closed;
            group = λ g h. absurd (none_some g (ap (λ (k : Label). k.1) e ∙ h));
          });
      least = λ set closed q m. absurd (false≢true (sym (unmet_yet (length r) q) ∙ m));
    })

-- ---- the end

module _ (r : List Need) (s : List ℕ) (owners : List ℕ) (w : WaitingState) (taken : List Bool)
    (old : IsSpread r s owners w taken) (over : None ≡ next_place_in w) where
  fired : (q : ℕ) (x : Need) → q < length r → Contains (causes_of r q (get_or r q none)) x → is_ready w.started x ≡ true
      → IsDone w taken q x
  fired q x lt c ready =
      let found = old.causes.every q x lt
      (let e = causes_are r q lt in let P : List Need → Type 0 = λ l. Contains l x in subst P (sym e) c) in
      let k = found.0 in
      let cause : get_or w.needs k none ≡ x = found.3 none in
      let owner : get_or owners k 0 ≡ q = found.2 0 in
      elim (cases_Bool (member w.waits k)) [
        | inl waits ↦ absurd (false≢true
            (sym (ap (is_ready w.started) (sym cause) ∙ none_ready w over k found.1 waits) ∙ ready))
        | inr gone ↦ (let P : ℕ → Type 0 = λ p. IsDone w taken p x in
            let Q : Need → Type 0 = λ y. IsDone w taken (get_or owners k 0) y in
            subst P owner (subst Q cause (old.done k found.1 gone)))
      ]

  own_cause : (q : ℕ) (x : Need) → Contains (own_causes (get_or r q none)) x
      → Contains (causes_of r q (get_or r q none)) x
  own_cause q x c = Contains-append_left (own_causes (get_or r q none)) _ x c

  by_name_fires : (q : ℕ) (d : List ℕ) → q < length r
      → Contains (map (by_name (get_or r q none)) ((get_or r q none).name ∷ [])
      ++ map (by_name (get_or r q none)) (get_or r q none).services) (by_name (get_or r q none) d)
      → has_name w.started d ≡ true → member taken q ≡ true
  by_name_fires q d lt c h =
      (fired q (by_name (get_or r q none) d) lt
      (own_cause q (by_name (get_or r q none) d)
      (Contains-append_left (map (by_name (get_or r q none)) ((get_or r q none).name ∷ [])
      ++ map (by_name (get_or r q none)) (get_or r q none).services)
      (map (by_group (get_or r q none)) (get_or r q none).groups) (by_name (get_or r q none) d) c))
      (and_from (has_name w.started d && true) true (and_from (has_name w.started d) true h refl) refl)).owner_taken

  by_own_name : (q : ℕ) → q < length r → has_name w.started (get_or r q none).name ≡ true → member taken q ≡ true
  by_own_name q lt h =
      by_name_fires q (get_or r q none).name lt
      (Contains-append_left (map (by_name (get_or r q none)) ((get_or r q none).name ∷ []))
      (map (by_name (get_or r q none)) (get_or r q none).services)
      (by_name (get_or r q none) (get_or r q none).name) (0, omega arith, refl)) h

  by_service : (q : ℕ) (d : List ℕ) → q < length r → Contains (get_or r q none).services d → has_name w.started d ≡ true
      → member taken q ≡ true
  by_service q d lt c h =
      by_name_fires q d lt
      (Contains-append_right (map (by_name (get_or r q none)) ((get_or r q none).name ∷ []))
      (map (by_name (get_or r q none)) (get_or r q none).services) (by_name (get_or r q none) d)
      (mapped_to (by_name (get_or r q none)) (get_or r q none).services d c)) h

  by_own_group : (q : ℕ) (g : List ℕ) → q < length r → Contains (get_or r q none).groups g
      → has_group w.started g ≡ true → member taken q ≡ true
  by_own_group q g lt c h =
      (fired q (by_group (get_or r q none) g) lt
      (own_cause q (by_group (get_or r q none) g)
      (Contains-append_right (map (by_name (get_or r q none)) ((get_or r q none).name ∷ [])
      ++ map (by_name (get_or r q none)) (get_or r q none).services)
      (map (by_group (get_or r q none)) (get_or r q none).groups) (by_group (get_or r q none) g)
      (mapped_to (by_group (get_or r q none)) (get_or r q none).groups g c)))
      (and_from true (has_group w.started g && true) refl (and_from (has_group w.started g) true h refl))).owner_taken

  -- what the taken ones have was started
  name_on : (d : List ℕ) → has r (member taken) d ≡ true → has_name w.started d ≡ true
  name_on d h =
      let p = has_some r (member taken) d h in
      name_alike w.started d (get_or r p.place none).name p.same ∙ old.on p.place p.inside p.in_set

  -- the first service of a group answers for it
  class_fires : (p : ℕ) (g h : List ℕ) → p < length r → (get_or r p none).group ≡ Some h → is_first r p h ≡ true
      → has_all r (member taken) h ≡ true → has_group w.started h ≡ true
  class_fires p g h lt of first all =
      (fired p (cause_of (get_or r p none) (names_at r (places_named (1 ∷ h) (keys_of r))) [] (Some h)) lt
      (Contains-append_right (own_causes (get_or r p none))
      (option_to_list (option_and_then (group_cause r p (get_or r p none)) (get_or r p none).group)) _ here)
      (and_from (list_all (has_name w.started) (names_at r (places_named (1 ∷ h) (keys_of r)))) true names refl)).group
      h refl
    where
      here : Contains (option_to_list (option_and_then (group_cause r p (get_or r p none)) (get_or r p none).group))
          (cause_of (get_or r p none) (names_at r (places_named (1 ∷ h) (keys_of r))) [] (Some h))
      here =
          let e : option_to_list (option_and_then (group_cause r p (get_or r p none)) (get_or r p none).group)
          ≡ cause_of (get_or r p none) (names_at r (places_named (1 ∷ h) (keys_of r))) [] (Some h) ∷ [] =
          ap (λ o. option_to_list (option_and_then (group_cause r p (get_or r p none)) o)) of
          ∙ ap (λ b. option_to_list
          (cond b (Some (cause_of (get_or r p none) (names_at r (places_named (1 ∷ h) (keys_of r))) [] (Some h)))
          None)) first in
          let P : List Need → Type 0 =
          λ l. Contains l (cause_of (get_or r p none) (names_at r (places_named (1 ∷ h) (keys_of r))) []
          (Some h)) in
          subst P (sym e) (0, omega arith, refl)

      names : list_all (has_name w.started) (names_at r (places_named (1 ∷ h) (keys_of r))) ≡ true
      names = each_mapped (has_name w.started) (λ p. option_map (λ (n : Need). n.name) (slice_get r p))
          (places_named (1 ∷ h) (keys_of r)) (λ k y c is.
          (let m = place_group r h k c in
          let same : (get_or r k none).name ≡ y = some_same (get_or r k none).name y (sym (name_found r k m.0) ∙ is) in
          ap (has_name w.started) (sym same)
          ∙ name_on (get_or r k none).name (has_all_each r (member taken) h all k m.0 m.1)))

  group_of_first : (g : List ℕ) (p : ℕ) (o : Option (List ℕ)) → p < length r
      → position (folds_same (1 ∷ g)) (keys_of r) ≡ Some p → (get_or r p none).group ≡ o
      → option_map_or (folds_same g) o false ≡ true
      → has_all r (member taken) g ≡ true → has_group w.started g ≡ true
  group_of_first g p None lt first of h all = absurd (false≢true h)
  group_of_first g p (Some k) lt first of h all =
      group_alike w.started g k h
      ∙ class_fires p g k lt of
      (ap (λ t. option_map_or (λ a. nat_eq a p) t false) ((λ i. position (λ y. sym (same_key y) i) (keys_of r)) ∙ first)
      ∙ eq-eqb p p refl)
      (sym (has_all_alike r (member taken) g k h) ∙ all)
    where
      same_key : (y : List ℕ) → folds_same (1 ∷ g) y ≡ folds_same (1 ∷ k) y
      same_key y = alike (1 ∷ g) (1 ∷ k) (and_from true (folds_same g k) refl h) y

  first_of_keys : (g : List ℕ) (o : Option ℕ) → position (folds_same (1 ∷ g)) (keys_of r) ≡ o → (p : ℕ) → p < length r
      → is_of_group r g p ≡ true → has_all r (member taken) g ≡ true → has_group w.started g ≡ true
  first_of_keys g None e p lt of all =
      let test : List ℕ → Bool = folds_same (1 ∷ g) in
      let some : list_any test (keys_of r) ≡ true =
      list_any_at test (keys_of r) p [] (omega (arith, lt, length-map r key_of)) (key_is r g p lt ∙ of) in
      let none_there : list_any test (keys_of r) ≡ false =
      sym (within test (keys_of r))
      ∙ no_place (ltb (position_or_len test (keys_of r)) (length (keys_of r))) (position_or_len test (keys_of r))
      e in
      absurd (false≢true (sym none_there ∙ some))
  first_of_keys g (Some k) e p lt of all =
      let found = position-Some (folds_same (1 ∷ g)) (keys_of r) k [] e in
      let k_in : k < length r = omega (arith, found.0, length-map r key_of) in
      group_of_first g k (get_or r k none).group k_in e refl
      (sym (group_at r g k k_in) ∙ sym (key_is r g k k_in) ∙ found.1) all

  group_on : (g : List ℕ) → has_all r (member taken) g ≡ true → has_group w.started g ≡ true
  group_on g all =
      let p = has_all_some r (member taken) g all in
      first_of_keys g (position (folds_same (1 ∷ g)) (keys_of r)) refl p.0 p.1 p.2 all

  -- what leans on the taken ones is taken
  pub taken_closed : IsClosed r s (member taken)
  taken_closed q due = by (get_or r q none) refl (sym (due_is r s (member taken) q lt) ∙ due)
    where
      lt : q < length r
      lt = due_within r s (member taken) q due

      by_services : list_any (has r (member taken)) (get_or r q none).services ≡ true → member taken q ≡ true
      by_services h =
          let a = Any-from_list_any (has r (member taken)) (get_or r q none).services h in
          by_service q a.1 lt (a.0, a.2, a.3) (name_on a.1 a.4)

      by_groups : list_any (has_all r (member taken)) (get_or r q none).groups ≡ true → member taken q ≡ true
      by_groups h =
          let a = Any-from_list_any (has_all r (member taken)) (get_or r q none).groups h in
          by_own_group q a.1 lt (a.0, a.2, a.3) (group_on a.1 a.4)

      by : (n : Need) → get_or r q none ≡ n → leans r s (member taken) (get_or r q none) ≡ true → member taken q ≡ true
      by n e h = elim (or_cases (folds_same s (get_or r q none).name || has r (member taken) (get_or r q none).name)
          _ h) [
            | inl one ↦ elim (or_cases (folds_same s (get_or r q none).name)
                (has r (member taken) (get_or r q none).name) one) [
                  | inl seed ↦ by_own_name q lt (sym (name_alike w.started s (get_or r q none).name seed) ∙ old.seeded)
                  | inr had ↦ by_own_name q lt (name_on (get_or r q none).name had)
                ]
            | inr two ↦ elim (or_cases (list_any (has r (member taken)) (get_or r q none).services) _ two) [
              | inl services ↦ by_services services
              | inr groups ↦ by_groups groups
            ]
          ]

-- ---- the least set

pub closed_passes : (r : List Need) (s : List ℕ) (set : ℕ → Bool) → IsClosed r s set → is_closed r s set ≡ true
closed_passes r s set closed =
    range_each (λ q. not (is_due r s set q) || set q) 0 (length r)
    (λ q lt. then_true (is_due r s set q) (set q) (closed q))

pub passes_closed : (r : List Need) (s : List ℕ) (set : ℕ → Bool) → is_closed r s set ≡ true → IsClosed r s set
passes_closed r s set h q due =
    then_gives (is_due r s set q) (set q)
    (all_below (λ q. not (is_due r s set q) || set q) (length r) q (due_within r s set q due) h) due

-- the taken ones are those of the least closed set
is_least : (r : List Need) (s : List ℕ) (taken : List Bool) → length taken ≡ length r → IsClosed r s (member taken)
    → ((set : ℕ → Bool) → IsClosed r s set → (q : ℕ) → member taken q ≡ true → set q ≡ true)
    → (q : ℕ) → is_leaning r s q ≡ member taken q
unfolding is_leaning
is_least r s taken len closed least q =
    same_bool (is_leaning r s q) (member taken q)
    (λ h. then_gives (is_closed r s (member taken)) (member taken q)
    (sets_have (λ t. not (is_closed r s (member t)) || member t q) taken (rw len h))
    (closed_passes r s (member taken) closed))
    (λ m. all_true _ (all_sets (length r))
    (λ t. then_true (is_closed r s (member t)) (member t q)
    (λ c. least (member t) (passes_closed r s (member t) c) q m)))

pub spread_end : (r : List Need) (s : List ℕ) (owners : List ℕ) (w : WaitingState) (taken : List Bool)
    → IsSpread r s owners w taken → None ≡ next_place_in w → taken ≡ leaning_of r s
spread_end r s owners w taken old over =
    same_lists taken (leaning_of r s) (old.len ∙ sym (length-map-range_with_len (is_leaning r s) 0 (length r)))
    (λ k d lt.
    (let k_in : k < length r = omega (arith, lt, old.len) in
    get_or_default taken k d false lt
    ∙ sym (is_least r s taken old.len (taken_closed r s owners w taken old over) old.least k)
    ∙ sym (get_or-map-range_with_len (is_leaning r s) 0 (length r) k k d k_in (zero-add k))))

-- the next cause has an owner, whose place is among the marks
pub at_within : (r : List Need) (s : List ℕ) (owners : List ℕ) (w : WaitingState) (taken : List Bool) (at : ℕ)
    → IsSpread r s owners w taken → Some at ≡ next_place_in w → at < length owners
at_within r s owners w taken at old next = omega (arith, (next_ready w at next).inside, old.causes.len)

pub owner_within : (r : List Need) (s : List ℕ) (owners : List ℕ) (w : WaitingState) (taken : List Bool) (at : ℕ)
    → IsSpread r s owners w taken → Some at ≡ next_place_in w → get_or owners at 0 < length taken
owner_within r s owners w taken at old next =
    omega (arith, old.causes.within at 0 (next_ready w at next).inside, old.len)
