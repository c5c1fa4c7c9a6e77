-- The rows of `clap` and our values are the same.
use Rattle.std.proofs.Common.{zero, suc, ◌≡◌, ◌≢◌, ◌∙◌, ◌<◌, ◌≤◌, ℕ, Bool, true, false, cond, List, [], ◌∷◌, Option, Some, None, refl, sym, ap, subst, is_some, codes, bytes_eq, set, length, option_and_then}
use Rattle.std.specs.List.{list_all, list_any}
use Rattle.std.proofs.lemmas.List.{get_or-set_other, get_or-set_same}
use Rattle.std.proofs.lemmas.Slice.Eq.{bytes_eq-Decides}
use Rattle.clap.specs.Words.{Row, first_of}
use Rattle.clap.specs.Walk.{has_row}
use Rattle.command_words.specs.Words.{Text}
use Rattle.command_words.specs.Table.{Known, OptionRow, accepts, free_known, known_from, option_known}
use Rattle.command_words.specs.Walk.{Values, no_values, value_at, value_named}
use Rattle.command_words.specs.Clap.{free_count, is_named}
use Rattle.command_words.proofs.RowLemmas.{added, first_added, has_added, never}
use Rattle.command_words.proofs.NamedLemmas.{name_is, same_row}

-- what holds of a command's options, where each takes any value
pub record Told (rows : List OptionRow) : Type 0 where
  pub named : list_all is_named rows ≡ true
  pub few : free_count rows ≤ 1
  pub lettered : is_some (option_known (codes "--verbose") rows) ≡ true
  pub frees : (k : Known) → free_known rows ≡ Some k
      → (j : Known) × (option_known k.row.name rows ≡ Some j) × (j.place ≡ k.place)
  pub room : (f : OptionRow → Bool) (k : Known) → known_from 0 f rows ≡ Some k → k.place < 12
  pub loose : (f : OptionRow → Bool) (k : Known) (v : Text) → known_from 0 f rows ≡ Some k → accepts k.row.takes v ≡ true

abbrev pub Rel : List OptionRow → Values → List Row → Type 0
Rel rows vs crows =
    (n : Text) → (first_of n crows ≡ value_named rows vs n) × (has_row n crows ≡ is_some (value_named rows vs n))

pub named_at : (rows : List OptionRow) (vs : Values) (n : Text) (k : Known) → option_known n rows ≡ Some k
    → value_named rows vs n ≡ value_at k.place vs
named_at rows vs n k is = ap (option_and_then (λ (known : Known). value_at known.place vs)) is

pub named_set : (rows : List OptionRow) (vs : Values) (n m v : Text) (k : Known) → option_known n rows ≡ Some k
    → k.place < length vs
    → value_named rows (set vs k.place (Some v)) m ≡ cond (bytes_eq n m) (Some v) (value_named rows vs m)
named_set rows vs n m v k is room = go (bytes_eq n m) refl (option_known m rows) refl
  where
    go : (b : Bool) → bytes_eq n m ≡ b → (o : Option Known) → option_known m rows ≡ o
        → value_named rows (set vs k.place (Some v)) m ≡ cond b (Some v) (value_named rows vs m)
    go true e o at =
        let same : n ≡ m = (bytes_eq-Decides n m).0 e in
        let found : option_known m rows ≡ Some k = subst (λ (t : Text). option_known t rows ≡ Some k) same is in
        named_at rows (set vs k.place (Some v)) m k found ∙ get_or-set_same vs k.place (Some v) None room
    go false e None at =
        ap (option_and_then (λ (known : Known). value_at known.place (set vs k.place (Some v)))) at
        ∙ sym (ap (option_and_then (λ (known : Known). value_at known.place vs)) at)
    go false e (Some j) at =
        let other : j.place ≢ k.place = λ s.
        let row : k.row ≡ j.row = same_row 0 (λ r. bytes_eq r.name n) (λ r. bytes_eq r.name m) rows k j is at (sym s) in
        let same : n ≡ m = sym (name_is n rows k is) ∙ ap (λ (r : OptionRow). r.name) row ∙ name_is m rows j at in
        never (sym ((bytes_eq-Decides n m).1 same) ∙ e) in
        named_at rows (set vs k.place (Some v)) m j at ∙ get_or-set_other vs k.place j.place (Some v) None other
        ∙ sym (named_at rows vs m j at)

cond_some : (b : Bool) (v : Text) (o : Option Text) → cond b true (is_some o) ≡ is_some (cond b (Some v) o)
cond_some true v o = refl
cond_some false v o = refl

pub fresh_row : (rows : List OptionRow) (vs : Values) (crows : List Row) (n : Text) (k : Known) → Rel rows vs crows
    → option_known n rows ≡ Some k → has_row n crows ≡ is_some (value_at k.place vs)
fresh_row rows vs crows n k rel is = (rel n).1 ∙ ap (λ (o : Option Text). is_some o) (named_at rows vs n k is)

pub rel_added : (rows : List OptionRow) (vs : Values) (crows : List Row) (n v : Text) (k : Known) → Rel rows vs crows
    → option_known n rows ≡ Some k → k.place < length vs → is_some (value_at k.place vs) ≡ false
    → Rel rows (set vs k.place (Some v)) (added n v crows)
rel_added rows vs crows n v k rel is room free = λ m.
    let fresh : has_row n crows ≡ false = fresh_row rows vs crows n k rel is ∙ free in
    let value : value_named rows (set vs k.place (Some v)) m ≡ cond (bytes_eq n m) (Some v) (value_named rows vs m) =
    named_set rows vs n m v k is room in (
      first_added n m v crows fresh ∙ ap (λ (o : Option Text). cond (bytes_eq n m) (Some v) o) (rel m).0 ∙ sym value,
      has_added n m v crows fresh ∙ ap (λ (b : Bool). cond (bytes_eq n m) true b) (rel m).1
          ∙ cond_some (bytes_eq n m) v (value_named rows vs m) ∙ ap (λ (o : Option Text). is_some o) (sym value),
    )

pub none_given : (place : ℕ) (values : Values) → list_any is_some values ≡ false → None ≡ value_at place values
none_given place [] none = refl
none_given zero (None ∷ values) none = refl
none_given zero (Some v ∷ values) none = never none
none_given (suc place) (None ∷ values) none = none_given place values none
none_given (suc place) (Some v ∷ values) none = never none

pub rel_none : (rows : List OptionRow) → Rel rows no_values []
rel_none rows = λ n. go (option_known n rows)
  where
    go : (o : Option Known) → (None ≡ option_and_then (λ (known : Known). value_at known.place no_values) o)
        × (false ≡ is_some (option_and_then (λ (known : Known). value_at known.place no_values) o))
    go None = (refl, refl)
    go (Some k) =
        (none_given k.place no_values refl, ap (λ (o : Option Text). is_some o) (none_given k.place no_values refl))
