-- A start takes in at most it has to.
use Rattle.std.proofs.Common.{◌≡◌, ℕ, zero, suc, ◌+◌, ◌<◌, Bool, true, false, cond, ◌&&◌, List, [], ◌∷◌, ◌++◌, length, get_or, take, map, filter, Option, Some, None, refl, sym, ap, ◌∙◌, subst, inl, inr, arith}
use Rattle.std.specs.Prelude.{slice_get, Contains}
use Rattle.std.specs.List.{list_any, list_all, filter_map, cons_option, range_with_len}
use Rattle.std.specs.Option.{option_map_or}
use Rattle.std.proofs.lemmas.Bool.{false≢true, and_parts, or_cases, or_left, or_right, not-true}
use Rattle.std.proofs.lemmas.List.{length-take, get_or-take, get_or_default}
use Rattle.std.proofs.lemmas.List.Folds.{Any-from_list_any, list_any-append, list_any_at}
use Rattle.std.proofs.lemmas.List.Sums.{AllPass-from_list_all}
use Rattle.std.proofs.lemmas.Option.{slice_get_within, get_or_from_slice_get}
use Rattle.nt_bytes.specs.Folding.{folds_same}
use Rattle.start_model.specs.Demand.{Need, is_taken}
use Rattle.start_model.specs.Ready.{Label, has_name}
use Rattle.service_control.specs.State.{ControlState, labels_of}
use Rattle.service_control.specs.Turns.{turns}
use Rattle.dependencies.specs.Attempts.{all_waiting}
use Rattle.service_control.specs.Needed.{asks, is_off, needed_of, members_of}
use Rattle.service_control.specs.Calls.{started_by}
use Rattle.service_control.specs.Sets.{HasNeeds}
use Rattle.service_control.specs.Laws.{NamesDiffer, AreReadyInTurn, IsLeast}
use Rattle.service_control.proofs.SpreadState.{none}
use Rattle.service_control.proofs.LeanLemmas.{name_alike}
use Rattle.service_control.proofs.NeededLemmas.{needed_least}
use Rattle.service_control.proofs.MetLemmas.{named_any, any_place}

-- ---- where an entry comes from

pub record From {X Y : Type 0} (h : X → Option Y) (xs : List X) (y : Y) : Type 0 where
  pub item : X
  pub there : Contains xs item
  pub is : h item ≡ Some y

from_at : {X Y : Type 0} (h : X → Option Y) (xs : List X) (y : Y) (k : ℕ) → k < length (filter_map h xs)
    → get_or (filter_map h xs) k y ≡ y → From h xs y
from_at h [] y k lt e = absurd (omega (arith, lt))
from_at h (x ∷ xs) y k lt e = by (h x) refl (λ j low at. from_at h xs y j low at) k lt e
  where
    further : From h xs y → From h (x ∷ xs) y
    further f = record { item = f.item; there = (suc f.there.0, omega (arith, f.there.1), f.there.2); is = f.is }

    by : (o : Option _) → h x ≡ o
        → ((j : ℕ) → j < length (filter_map h xs) → get_or (filter_map h xs) j y ≡ y → From h xs y)
        → (k : ℕ) → k < length (cons_option o (filter_map h xs)) → get_or (cons_option o (filter_map h xs)) k y ≡ y
        → From h (x ∷ xs) y
    by None is more k lt e = further (more k lt e)
    by (Some z) is more zero lt e = record { item = x; there = (0, omega arith, refl); is = is ∙ ap (λ v. Some v) e }
    by (Some z) is more (suc k) lt e = further (more k (omega (arith, lt)) e)

pub from : {X Y : Type 0} (h : X → Option Y) (xs : List X) (y : Y) → Contains (filter_map h xs) y → From h xs y
from h xs y c = from_at h xs y c.0 c.1 c.2

record Passes {X : Type 0} (p : X → Bool) (xs : List X) (x : X) : Type 0 where
  passes : p x ≡ true
  there : Contains xs x

passes_at : {X : Type 0} (p : X → Bool) (xs : List X) (x : X) (k : ℕ) → k < length (filter p xs)
    → get_or (filter p xs) k x ≡ x → Passes p xs x
passes_at p [] x k lt e = absurd (omega (arith, lt))
passes_at p (y ∷ ys) x k lt e = by (p y) refl (λ j low at. passes_at p ys x j low at) k lt e
  where
    further : Passes p ys x → Passes p (y ∷ ys) x
    further f = record { passes = f.passes; there = (suc f.there.0, omega (arith, f.there.1), f.there.2) }

    by : (b : Bool) → p y ≡ b → ((j : ℕ) → j < length (filter p ys) → get_or (filter p ys) j x ≡ x → Passes p ys x)
        → (k : ℕ) → k < length (cond b (y ∷ filter p ys) (filter p ys))
        → get_or (cond b (y ∷ filter p ys) (filter p ys)) k x ≡ x → Passes p (y ∷ ys) x
    by true is more zero lt e = record { passes = ap p (sym e) ∙ is; there = (0, omega arith, e) }
    by true is more (suc k) lt e = further (more k (omega (arith, lt)) e)
    by false is more k lt e = further (more k lt e)

passes_from : {X : Type 0} (p : X → Bool) (xs : List X) (x : X) → Contains (filter p xs) x → Passes p xs x
passes_from p xs x c = passes_at p xs x c.0 c.1 c.2

contains_at : (xs : List Need) (k : ℕ) (x : Need) → slice_get xs k ≡ Some x → Contains xs x
contains_at xs k x e = (k, slice_get_within xs k x e, get_or_from_slice_get xs k x x e)

-- ---- names that were started

has_more : (a b : List Label) (d : List ℕ) → has_name a d ≡ true → has_name (a ++ b) d ≡ true
has_more a b d h = list_any-append (λ (s : Label). folds_same d s.0) a b ∙ or_left (has_name a d) (has_name b d) h

has_other : (a b : List Label) (d : List ℕ) → has_name (a ++ b) d ≡ true → has_name a d ≡ false → has_name b d ≡ true
has_other a b d h off = elim
    (or_cases (has_name a d) (has_name b d) (sym (list_any-append (λ (s : Label). folds_same d s.0) a b) ∙ h)) [
      | inl on ↦ absurd (false≢true (sym off ∙ on))
      | inr there ↦ there
    ]

module _ (c : ControlState) (name : List ℕ) (differ : NamesDiffer c.by_group) (others : List Need)
    (turn : AreReadyInTurn c.by_group c.running others)
    (on : has_name (labels_of c.running ++ labels_of others) name ≡ true) where
  abbrev all : List Label
  all = labels_of c.running ++ labels_of others

  -- the places whose names are started then
  abbrev set : ℕ → Bool
  set q = option_map_or (λ (n : Need). has_name (labels_of c.running ++ labels_of others) n.name)
      (slice_get c.by_group q) false

  -- what an entry names that was started among the others is started then
  served : (a : Need) (d : List ℕ) → Contains c.by_group a → has_name (labels_of c.running) a.name ≡ false
      → has_name all a.name ≡ true → Contains a.services d → has_name all d ≡ true
  served a d there off started given =
      let k = any_place (λ e. folds_same a.name e.name) others
      (sym (named_any others a.name) ∙ has_other (labels_of c.running) (labels_of others) a.name started off) in
      let e = get_or others k.0 none in
      let e_there : Contains others e = (k.0, k.1, get_or_default others k.0 e none k.1) in
      let same : a ≡ e = differ a e there (turn.listed e e_there) k.2 in
      let ready = (and_parts (list_all (has_name (labels_of c.running ++ labels_of (take k.0 others))) e.services) _
      (turn.ready k.0 none k.1)).0 in
      let here : Contains e.services d = (let P : Need → Type 0 = λ n. Contains n.services d in subst P same given) in
      let before : has_name (labels_of c.running ++ labels_of (take k.0 others)) d ≡ true =
      ap (has_name (labels_of c.running ++ labels_of (take k.0 others))) (sym here.2)
      ∙ AllPass-from_list_all (has_name (labels_of c.running ++ labels_of (take k.0 others)))
      e.services ready here.0 d here.1 in
      later k.0 d before
    where
      later : (k : ℕ) (d : List ℕ) → has_name (labels_of c.running ++ labels_of (take k others)) d ≡ true
          → has_name all d ≡ true
      later k d h = elim (or_cases (has_name (labels_of c.running) d) (has_name (labels_of (take k others)) d)
          (sym (list_any-append (λ (s : Label). folds_same d s.0) (labels_of c.running) (labels_of (take k others)))
          ∙ h)) [
            | inl before ↦ has_more (labels_of c.running) (labels_of others) d before
            | inr front ↦
                (let i =
                any_place (λ e. folds_same d e.name) (take k others) (sym (named_any (take k others) d) ∙ front) in
                let low : i.0 < k = omega (arith, i.1, length-take k others) in
                let small : i.0 < length others = omega (arith, i.1, length-take k others) in
                let there : has_name (labels_of others) d ≡ true =
                named_any others d ∙ list_any_at (λ (e : Need). folds_same d e.name) others i.0 none small
                (ap (λ (e : Need). folds_same d e.name) (sym (get_or-take k others i.0 none low)) ∙ i.2) in
                list_any-append (λ (s : Label). folds_same d s.0) (labels_of c.running) (labels_of others)
                ∙ or_right (has_name (labels_of c.running) d) (has_name (labels_of others) d) there)
          ]

  itself_by : (o : Option Need) → option_map_or (λ (n : Need). folds_same name n.name) o false ≡ true
      → option_map_or (λ (n : Need). has_name (labels_of c.running ++ labels_of others) n.name) o false ≡ true
  itself_by None h = absurd (false≢true h)
  itself_by (Some n) h = sym (name_alike (labels_of c.running ++ labels_of others) name n.name h) ∙ on

  named_by : (p : ℕ) (a b : Option Need) → slice_get c.by_group p ≡ a
      → option_map_or (λ (n : Need). has_name (labels_of c.running ++ labels_of others) n.name) a false ≡ true
      → option_map_or (λ (a : Need). is_off (labels_of c.running) a && option_map_or
      (λ (b : Need). list_any (folds_same b.name) a.services) b false) a false ≡ true
      → option_map_or (λ (n : Need). has_name (labels_of c.running ++ labels_of others) n.name) b false ≡ true
  named_by p None b e m h = absurd (false≢true h)
  named_by p (Some a) None e m h = absurd (false≢true (and_parts (is_off (labels_of c.running) a) false h).1)
  named_by p (Some a) (Some b) e m h =
      let parts = and_parts (is_off (labels_of c.running) a) (list_any (folds_same b.name) a.services) h in
      let d = Any-from_list_any (folds_same b.name) a.services parts.1 in
      name_alike (labels_of c.running ++ labels_of others) b.name d.1 d.4
      ∙ served a d.1 (contains_at c.by_group p a e) (not-true (has_name (labels_of c.running) a.name) parts.0) m
      (d.0, d.2, d.3)

  has_needs : HasNeeds c.by_group (labels_of c.running) name set
  has_needs = record {
    itself = λ q h. itself_by (slice_get c.by_group q) h;
    named = λ p q m h. named_by p (slice_get c.by_group p) (slice_get c.by_group q) refl m h;
  }

  pub takes_least : (m : Need) → Contains (started_by c name) m → has_name (labels_of others) m.name ≡ true
  takes_least m there =
      let members = members_of c.by_group (labels_of c.running) name in
      let waiting = all_waiting members (labels_of c.running) in
      let turned = from (slice_get members) (turns (length members) waiting) m there in
      let member = passes_from (is_off (labels_of c.running))
      (filter_map (slice_get c.by_group) (needed_of c.by_group (labels_of c.running) name)) m
      (contains_at members turned.item m turned.is) in
      let placed = from (slice_get c.by_group) (needed_of c.by_group (labels_of c.running) name) m member.there in
      let q = placed.item in
      let needed = (passes_from (is_taken (map (asks (labels_of c.running) name) c.by_group))
      (range_with_len 0 (length (map (asks (labels_of c.running) name) c.by_group))) q placed.there).passes in
      let in_set : set q ≡ true =
      needed_least c.by_group (labels_of c.running) name set has_needs q (slice_get_within c.by_group q m placed.is)
      needed in
      let started : has_name (labels_of c.running ++ labels_of others) m.name ≡ true =
      ap (λ o. option_map_or (λ (n : Need). has_name (labels_of c.running ++ labels_of others) n.name) o false)
      (sym placed.is) ∙ in_set in
      has_other (labels_of c.running) (labels_of others) m.name started
      (not-true (has_name (labels_of c.running) m.name) member.passes)

pub a_least_start : (c : ControlState) (name : List ℕ) → NamesDiffer c.by_group → IsLeast c name
a_least_start c name differ others turn on m there = takes_least c name differ others turn on m there
