-- One word, as `clap` takes it and as we do.
use Rattle.std.proofs.Common.{◌≡◌, ◌∙◌, ◌+◌, ℕ, Bool, true, false, cond, not, List, [], ◌∷◌, Option, Some, None, refl, sym, ap, subst, is_some, codes, bytes_eq, set, length, ◌<◌}
use Rattle.std.specs.List.{list_all}
use Rattle.std.proofs.lemmas.List.{get_or-set_other, length-set}
use Rattle.clap.specs.Words.{Row, Rule}
use Rattle.clap.specs.Walk.{Waiting, arg_by_index, has_row, settled}
use Rattle.clap.specs.Faults.{settle_fault, turn_fault, use_fault}
use Rattle.command_words.specs.Words.{Text, begins_with_hyphen}
use Rattle.command_words.specs.Table.{Known, OptionRow, free_known, is_free, known_from, option_known}
use Rattle.command_words.specs.Walk.{State, Values, value_at}
use Rattle.command_words.specs.Clap.{is_named}
use Rattle.command_words.proofs.ToldLemmas.{and_left, and_right}
use Rattle.command_words.proofs.RowLemmas.{IsFlag, IsSingle, is_none, never}
use Rattle.command_words.proofs.WalkLemmas.{letter, or_blocked, shape, stands, turn_letter}
use Rattle.command_words.proofs.NamedLemmas.{by_letter, find_some, name_is, passes_it, same_row}
use Rattle.command_words.proofs.RelLemmas.{Rel, Told, fresh_row, rel_added}
use Rattle.command_words.proofs.ClaimLemmas.{Dead, Lettered, Met, flag_by, held, met_by, rules_in}

pub all_known : (P : OptionRow → Bool) (rows : List OptionRow) → list_all P rows ≡ true → (n : ℕ) (f : OptionRow → Bool) (k : Known)
    → known_from n f rows ≡ Some k → P k.row ≡ true
all_known P [] all n f k is = absurd cc
all_known P (r ∷ rows) all n f k is = go (f r) is (all_known P rows (and_right (P r) _ all) (n + 1) f k)
  where
    go : (b : Bool) → cond b (Some (record { place = n; row = r })) (known_from (n + 1) f rows) ≡ Some k
        → (known_from (n + 1) f rows ≡ Some k → P k.row ≡ true) → P k.row ≡ true
    go true at rest = let same : r ≡ k.row = cc in ap P (sym same) ∙ and_left (P r) _ all
    go false at rest = rest at

-- an option with hyphens is no word without an option
pub unfree : (rows : List OptionRow) → Told rows → (n : Text) (k : Known) → option_known (45 ∷ n) rows ≡ Some k
    → is_free k.row.takes ≡ false
unfree rows told n k is = go (is_free k.row.takes) refl
  where
    go : (b : Bool) → is_free k.row.takes ≡ b → is_free k.row.takes ≡ false
    go false e = e
    go true e =
        let named = all_known is_named rows told.named 0 (λ r. bytes_eq r.name (45 ∷ n)) k is in
        let no : not (begins_with_hyphen k.row.name) ≡ true = rw e at named in
        let yes : begins_with_hyphen k.row.name ≡ true = ap begins_with_hyphen (name_is (45 ∷ n) rows k is) in
        never (sym (rw yes at no))

pub lettered : (rows : List OptionRow) → Told rows → (k : Known) × Lettered rows k
lettered rows told = go (option_known (codes "--verbose") rows) refl
  where
    go : (o : Option Known) → option_known (codes "--verbose") rows ≡ o → (k : Known) × Lettered rows k
    go None is = never (sym (rw is at told.lettered))
    go (Some k) is =
        let m = met_by rows told (codes "--verbose") k is in (
          k,
          record {
            is = is;
            met = m.0;
            short = find_some _ (λ r. bytes_eq r.name (codes "--verbose")) by_letter rows told.named 1 0 k is
                ∙ ap (λ (a : Rule). Some a) (sym m.1);
            flag = flag_by rows told k is
                (all_known is_named rows told.named 0 (λ r. bytes_eq r.name (codes "--verbose")) k is)
                (unfree rows told (45 ∷ 118 ∷ 101 ∷ 114 ∷ 98 ∷ 111 ∷ 115 ∷ 101 ∷ []) k is);
          },
        )

pub letter_dead : (name : Text) (rows : List OptionRow) → Told rows → (waiting : Waiting) (p : ℕ) (crows : List Row)
    (pend : Option (Text × List Text)) → Dead rows crows pend
    → is_none (turn_fault (shape name (rules_in rows)) [] (stands waiting p (held crows pend)) letter) ≡ false
letter_dead name rows told waiting p crows pend dead =
    let l = (lettered rows told).1 in
    ap is_none (turn_letter name (rules_in rows) waiting p crows pend l.met.rule l.short (l.met.of.flag l.flag).takes)
    ∙ or_blocked (settle_fault (rules_in rows) false (held crows pend)) _ dead

-- ---- what is held

pub record Holds (rows : List OptionRow) (crows : List Row) (pend : Option (Text × List Text)) (vs : Values) : Type 0 where
  pub fault : settle_fault (rules_in rows) false (held crows pend) ≡ []
  pub rel : Rel rows vs (settled (rules_in rows) (held crows pend)).rows
  pub size : length vs ≡ 12

pub data Place (rows : List OptionRow) (p : ℕ) (vs : Values) : Type 0 where
  is_open : p ≡ 1 → ((k : Known) → free_known rows ≡ Some k → is_some (value_at k.place vs) ≡ false) → Place rows p vs
  is_shut : arg_by_index (rules_in rows) p ≡ None
      → ((k : Known) → free_known rows ≡ Some k → is_some (value_at k.place vs) ≡ true) → Place rows p vs

pub within : (rows : List OptionRow) → Told rows → (vs : Values) → length vs ≡ 12 → (n : Text) (k : Known)
    → option_known n rows ≡ Some k → k.place < length vs
within rows told vs size n k is = subst (λ (m : ℕ). k.place < m) (sym size) (told.room (λ r. bytes_eq r.name n) k is)

pub place_set : (rows : List OptionRow) (p : ℕ) (vs : Values) (n v : Text) (k : Known) → option_known n rows ≡ Some k
    → is_free k.row.takes ≡ false → Place rows p vs → Place rows p (set vs k.place (Some v))
place_set rows p vs n v k is apart = λ place. go place
  where
    other : (f : Known) → free_known rows ≡ Some f → value_at f.place (set vs k.place (Some v)) ≡ value_at f.place vs
    other f at = get_or-set_other vs k.place f.place (Some v) None (λ e.
        let row : f.row ≡ k.row = same_row 0 (λ r. is_free r.takes) (λ r. bytes_eq r.name n) rows f k at is e in
        let free : is_free f.row.takes ≡ true = passes_it 0 (λ r. is_free r.takes) rows f at in
        never (sym (ap (λ (r : OptionRow). is_free r.takes) (sym row) ∙ free) ∙ apart))

    go : Place rows p vs → Place rows p (set vs k.place (Some v))
    go (is_open first none) = is_open first (λ f at. ap (λ (o : Option Text). is_some o) (other f at) ∙ none f at)
    go (is_shut at_p given) = is_shut at_p (λ f at. ap (λ (o : Option Text). is_some o) (other f at) ∙ given f at)

-- ---- one use

pub single_once : (a : Rule) (n v : Text) (crows : List Row) → IsSingle a n → has_row n crows ≡ false
    → use_fault false a (v ∷ []) crows ≡ []
single_once a n v crows s e = rw (s.one_value v crows, e) refl

pub single_twice : (a : Rule) (n v : Text) (crows : List Row) → IsSingle a n → has_row n crows ≡ true
    → is_none (use_fault false a (v ∷ []) crows) ≡ false
single_twice a n v crows s e = rw (s.one_value v crows, e) refl

pub flag_once : (a : Rule) (n : Text) (crows : List Row) → IsFlag a n → has_row n crows ≡ false
    → use_fault false a [] crows ≡ []
flag_once a n crows s e = rw (s.alone crows, e) refl

pub flag_twice : (a : Rule) (n : Text) (crows : List Row) → IsFlag a n → has_row n crows ≡ true
    → is_none (use_fault false a [] crows) ≡ false
flag_twice a n crows s e = rw (s.alone crows, e) refl

pub holds_pending : (rows : List OptionRow) → Told rows → (crows : List Row) (vs : Values) (k : Known) (m : Met rows k) (w : Text)
    → IsSingle m.rule k.row.name → Rel rows vs crows → length vs ≡ 12 → is_some (value_at k.place vs) ≡ false
    → Holds rows crows (Some (k.row.name, w ∷ [])) (set vs k.place (Some w))
holds_pending rows told crows vs k m w s rel size free =
    let fresh = fresh_row rows vs crows k.row.name k rel m.known ∙ free in
    record {
      fault = rw m.by_id (single_once m.rule k.row.name w crows s fresh);
      rel = rw m.by_id (subst (Rel rows (set vs k.place (Some w))) (sym (s.uses w crows))
          (rel_added rows vs crows k.row.name w k rel m.known (within rows told vs size k.row.name k m.known) free));
      size = length-set vs k.place (Some w) ∙ size;
    }

pub dead_pending : (rows : List OptionRow) (crows : List Row) (k : Known) (m : Met rows k) (w : Text)
    → IsSingle m.rule k.row.name → has_row k.row.name crows ≡ true → Dead rows crows (Some (k.row.name, w ∷ []))
dead_pending rows crows k m w s given = rw m.by_id (single_twice m.rule k.row.name w crows s given)

pub dead_empty : (rows : List OptionRow) (crows : List Row) (k : Known) (m : Met rows k)
    → IsSingle m.rule k.row.name → Dead rows crows (Some (k.row.name, []))
dead_empty rows crows k m s = rw m.by_id (s.no_value crows)

-- ---- a step

abbrev pub state : Values → Option Known → State
state vs waiting = record { values = vs; waiting = waiting }
