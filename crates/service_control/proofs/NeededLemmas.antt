-- The sets that have what a start needs are those that demand start calls closed.
use Rattle.std.proofs.Common.{◌≡◌, ℕ, ◌<◌, Bool, true, false, not, nat_eq, ◌&&◌, cond, List, [], length, map, Option, Some, None, refl, sym, ap, ◌∙◌, inl, inr, arith}
use Rattle.std.specs.Prelude.{slice_get}
use Rattle.std.specs.Option.{option_map, option_map_or}
use Rattle.std.specs.List.{list_any}
use Rattle.std.proofs.lemmas.Bool.{false≢true, and_parts, and_from, cases_Bool}
use Rattle.std.proofs.lemmas.List.{length-map}
use Rattle.std.proofs.lemmas.Option.{slice_get-map}
use Rattle.nt_bytes.specs.Folding.{folds_same}
use Rattle.start_model.specs.Demand.{Need, IsClosed, is_taken, starts_at, pulls}
use Rattle.start_model.specs.Ready.{Label, has_name}
use Rattle.dependencies.proofs.PulledLemmas.{is_taken-closed, is_taken-least_of_all}
use Rattle.service_control.specs.Needed.{asks, is_off}
use Rattle.service_control.specs.Leaning.{is_named}
use Rattle.service_control.specs.Sets.{is_needed, HasNeeds}

-- ---- one entry

first_is : (b : Bool) → nat_eq (cond b 2 3) 2 ≡ b
first_is true = refl
first_is false = refl

demand_is : (b : Bool) → nat_eq (cond b 2 3) 3 ≡ not b
demand_is true = refl
demand_is false = refl

kept_any : (b : Bool) (test : List ℕ → Bool) (services : List (List ℕ))
    → list_any test (cond b [] services) ≡ (not b && list_any test services)
kept_any true test services = refl
kept_any false test services = refl

module _ (table : List Need) (started : List Label) (name : List ℕ) where
  abbrev asked : List Need
  asked = map (asks started name) table

  at : (q : ℕ) → slice_get asked q ≡ option_map (asks started name) (slice_get table q)
  at q = slice_get-map (asks started name) table q

  starts_is : (q : ℕ) → starts_at asked 2 q ≡ is_named table name q
  starts_is q = ap (λ o. option_map_or (λ (n : Need). nat_eq n.start 2) o false) (at q) ∙ by (slice_get table q)
    where
      by : (o : Option Need) → option_map_or (λ (n : Need). nat_eq n.start 2) (option_map (asks started name) o) false
          ≡ option_map_or (λ (n : Need). folds_same name n.name) o false
      by None = refl
      by (Some n) = first_is (folds_same name n.name)

  abbrev pulled_by : Option Need → Option Need → Bool
  pulled_by a b =
      option_map_or (λ (a : Need). option_map_or
      (λ (b : Need). nat_eq b.start 3 && list_any (folds_same b.name) a.services) b false) a false

  abbrev named_by : Option Need → Option Need → Bool
  named_by a b = option_map_or
      (λ (a : Need). is_off started a && option_map_or (λ (b : Need). list_any (folds_same b.name) a.services) b false)
      a false

  pulls_is : (p q : ℕ) → pulls asked p q
      ≡ pulled_by (option_map (asks started name) (slice_get table p))
      (option_map (asks started name) (slice_get table q))
  pulls_is p q = λ i. pulled_by (at p i) (at q i)

  -- what is pulled in is named
  pulled_named : (a b : Option Need)
      → pulled_by (option_map (asks started name) a) (option_map (asks started name) b) ≡ true → named_by a b ≡ true
  pulled_named None b h = absurd (false≢true h)
  pulled_named (Some a) None h = absurd (false≢true h)
  pulled_named (Some a) (Some b) h =
      sym (kept_any (has_name started a.name) (folds_same b.name) a.services)
      ∙ (and_parts (nat_eq (cond (folds_same name b.name) 2 3) 3) _ h).1

  -- what is named is pulled in, or is the service itself
  named_pulled : (a b : Option Need) → named_by a b ≡ true
      → option_map_or (λ (n : Need). folds_same name n.name) b false ≡ false
      → pulled_by (option_map (asks started name) a) (option_map (asks started name) b) ≡ true
  named_pulled None b h other = absurd (false≢true h)
  named_pulled (Some a) None h other = absurd (false≢true (sym (off_none (is_off started a)) ∙ h))
    where
      off_none : (b : Bool) → (b && false) ≡ false
      off_none true = refl
      off_none false = refl
  named_pulled (Some a) (Some b) h other =
      and_from (nat_eq (cond (folds_same name b.name) 2 3) 3) _ (demand_is (folds_same name b.name) ∙ ap not other)
      (kept_any (has_name started a.name) (folds_same b.name) a.services ∙ h)

  pub has_from_closed : (set : ℕ → Bool) → IsClosed asked set → HasNeeds table started name set
  has_from_closed set closed = record {
    itself = λ q h. closed.starts q (starts_is q ∙ h);
    named = λ p q m h. elim (cases_Bool (is_named table name q)) [
      | inl same ↦ closed.starts q (starts_is q ∙ same)
      | inr other ↦ closed.pulled p q m (pulls_is p q ∙ named_pulled (slice_get table p) (slice_get table q) h other)
    ];
  }

  pub closed_from_has : (set : ℕ → Bool) → HasNeeds table started name set → IsClosed asked set
  closed_from_has set has = record {
    starts = λ q h. has.itself q (sym (starts_is q) ∙ h);
    pulled = λ p q m h. has.named p q m (pulled_named (slice_get table p) (slice_get table q) (sym (pulls_is p q) ∙ h));
  }

pub needed_has : (table : List Need) (started : List Label) (name : List ℕ)
    → HasNeeds table started name (is_needed table started name)
needed_has table started name =
    has_from_closed table started name (is_taken (map (asks started name) table))
    (is_taken-closed (map (asks started name) table))

pub needed_least : (table : List Need) (started : List Label) (name : List ℕ) (set : ℕ → Bool)
    → HasNeeds table started name set → (q : ℕ) → q < length table → is_needed table started name q ≡ true
    → set q ≡ true
needed_least table started name set has q lt h =
    is_taken-least_of_all (map (asks started name) table) set (closed_from_has table started name set has) q
    (omega (arith, lt, length-map table (asks started name))) h
