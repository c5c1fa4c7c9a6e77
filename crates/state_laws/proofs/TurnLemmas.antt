-- Who waits does so in the order of the plan, and each attempt is of the first of them that is ready.
use Rattle.std.proofs.Common.{◌≡◌, ◌<◌, ℕ, zero, suc, List, [], ◌∷◌, ◌++◌, map, length, slice_get, Some, refl, ap, subst, ◌∙◌, inl, inr, append_assoc, arith}
use Rattle.std.specs.Prelude.{Contains, remove}
use Rattle.std.proofs.lemmas.List.Elements.{Contains-append_cases}
use Rattle.start_model.specs.Entries.{Entry, need_of}
use Rattle.start_model.specs.Ready.{next_of}
use Rattle.wait_cycles.proofs.InverseLemmas.{none_in}
use Rattle.check_laws.proofs.ProperLaws.{only_in}
use Rattle.check_laws.proofs.TakenLemmas.{item_here}
use Rattle.check_laws.proofs.TurnLemmas.{removed_from}
use Rattle.why_laws.proofs.MadeLemmas.{Made, labels, Runs, begun, more}
use Rattle.why_laws.proofs.PastLemmas.{slice_cases, alone_at}

-- ---- places in a list of which an item was removed

-- where it was before
abbrev pub over : ℕ → ℕ → ℕ
over zero i = suc i
over (suc k) zero = zero
over (suc k) (suc i) = suc (over k i)

pub over_rises : (k i j : ℕ) → i < j → over k i < over k j
over_rises zero i j lt = omega (arith, lt)
over_rises (suc k) zero zero lt = absurd (omega (arith, lt))
over_rises (suc k) zero (suc j) lt = omega arith
over_rises (suc k) (suc i) zero lt = absurd (omega (arith, lt))
over_rises (suc k) (suc i) (suc j) lt = omega (arith, over_rises k i j (omega (arith, lt)))

pub over_off : (k i : ℕ) → over k i ≡ k → ⊥
over_off zero i is = omega (arith, is)
over_off (suc k) zero is = omega (arith, is)
over_off (suc k) (suc i) is = over_off k i (omega (arith, is))

pub removed_at : {X : Type 0} (xs : List X) (k i : ℕ) (x : X) → slice_get (remove xs k) i ≡ Some x
    → slice_get xs (over k i) ≡ Some x
removed_at [] zero i x is = absurd cc
removed_at [] (suc k) i x is = absurd cc
removed_at (y ∷ ys) zero i x is = is
removed_at (y ∷ ys) (suc k) zero x is = is
removed_at (y ∷ ys) (suc k) (suc i) x is = removed_at ys k i x is

-- ---- the order of who waits

-- each stands at a place of the plan, in the same order
pub record Within (w plan : List Entry) : Type 0 where
  pub place : ℕ → ℕ
  pub rises : (i j : ℕ) → i < j → place i < place j
  pub at : (i : ℕ) (x : Entry) → slice_get w i ≡ Some x → slice_get plan (place i) ≡ Some x

all_within : (plan : List Entry) → Within plan plan
all_within plan = record { place = λ i. i; rises = λ i j lt. lt; at = λ i x is. is }

removed_within : (w plan : List Entry) (k : ℕ) → Within w plan → Within (remove w k) plan
removed_within w plan k f = record {
  place = λ i. f.place (over k i);
  rises = λ i j lt. f.rises (over k i) (over k j) (over_rises k i j lt);
  at = λ i x is. f.at (over k i) x (removed_at w k i x is);
}

pub runs_within : (plan : List Entry) (before ts : List Made) (w : List Entry) → Runs plan before ts w → Within w plan
runs_within plan before ts w begun = all_within plan
runs_within plan before ts w (more us v p x word runs is here) =
    removed_within v plan p (runs_within plan before us v runs)

-- ---- the attempts of a phase

-- the attempt at a place: who waited then, and where among them it was
pub record Turn (plan : List Entry) (before ts : List Made) (left : List Entry) (i : ℕ) (t : Made) : Type 0 where
  pub earlier : List Made
  pub later : List Made
  pub waiting : List Entry
  pub place : ℕ
  pub whole : ts ≡ earlier ++ t ∷ later
  pub count : length earlier ≡ i
  pub runs : Runs plan before earlier waiting
  pub next : next_of (labels (before ++ earlier)) (map need_of waiting) ≡ Some place
  pub here : slice_get waiting place ≡ Some t.0
  pub comes : (u : Made) → Contains later u → Contains (remove waiting place) u.0
  pub stays : (e : Entry) → Contains left e → Contains (remove waiting place) e

pub turn_at : (plan : List Entry) (before ts : List Made) (left : List Entry) → Runs plan before ts left → (i : ℕ)
    (t : Made) → slice_get ts i ≡ Some t
    → Turn plan before ts left i t
turn_at plan before ts left begun i t at = absurd cc
turn_at plan before ts left (more us v p x word runs is here) i t at = elim (slice_cases us ((x, word) ∷ []) i t at) [
  | inl old ↦ (let d = turn_at plan before us v runs i t old in record {
    earlier = d.earlier;
    later = d.later ++ (x, word) ∷ [];
    waiting = d.waiting;
    place = d.place;
    whole = ap (λ (xs : List Made). xs ++ (x, word) ∷ []) d.whole
        ∙ append_assoc d.earlier (t ∷ d.later) ((x, word) ∷ []);
    count = d.count;
    runs = d.runs;
    next = d.next;
    here = d.here;
    comes = λ u c. elim (Contains-append_cases d.later ((x, word) ∷ []) u c) [
      | inl o ↦ d.comes u o
      | inr o ↦ subst (λ (y : Made). Contains (remove d.waiting d.place) y.0) (only_in (x, word) u o)
          (d.stays x (item_here v p x here))
    ];
    stays = λ e c. d.stays e (removed_from v p e c);
  })
  | inr new ↦ (let one = alone_at (x, word) t new.0 new.2 in
      let P : Made → Type 0 = λ (y : Made). Turn plan before (us ++ (x, word) ∷ []) (remove v p) i y in
      subst P one.1 (record {
        earlier = us;
        later = [];
        waiting = v;
        place = p;
        whole = refl;
        count = omega (arith, new.1, one.0);
        runs = runs;
        next = is;
        here = here;
        comes = λ u c. absurd (none_in u c);
        stays = λ e c. c;
      }))
]
