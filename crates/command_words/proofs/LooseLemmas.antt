-- A command whose options take any value reads what the command reads, where each value is one that its option takes.
use Rattle.std.proofs.Common.{◌≡◌, ◌≢◌, ◌∙◌, ◌+◌, ◌==◌, ◌<◌, ◌&&◌, ◌||◌, ℕ, Bool, true, false, cond, not, List, [], ◌∷◌, Option, Some, None, Result, Ok, Err, map, refl, sym, ap, ap₂, subst, is_some, bytes_eq, set, length, option_map, option_and_then, true≢false, arith, nat_le}
use Rattle.std.specs.List.{list_all, list_any}
use Rattle.std.specs.Option.{option_map_or}
use Rattle.std.proofs.lemmas.List.{get_or-set_other, get_or-set_same, length-set}
use Rattle.std.proofs.lemmas.Bool.{leb-true}
use Rattle.std.proofs.lemmas.Bool.Decides.{Decides-eqb}
use Rattle.std.proofs.lemmas.Slice.Eq.{bytes_eq-Decides}
use Rattle.clap.specs.Words.{Rule}
use Rattle.command_words.specs.declared.table.Takes.{Takes}
use Rattle.command_words.specs.declared.table.Takes.TheVariants as takes
use Rattle.command_words.specs.Words.{Text, Reason, begins_with_hyphen, is_empty_text, bad_value, left_over, no_value, twice, unknown_option}
use Rattle.command_words.specs.Table.{Known, OptionRow, accepts, free_known, is_flag, is_free, known_from, option_known}
use Rattle.command_words.specs.Walk.{State, Values, and_then, attached_in, flag_value, name_in, value_at, value_named, walked, with_free, with_known, with_step, with_taken, with_value}
use Rattle.command_words.specs.Clap.{all_accepted, are_distinct, are_told, free_count, has_letter, is_named, loosened, loosened_row, names_free, rule_for}
use Rattle.command_words.specs.Commands.{Look}
use Rattle.command_words.proofs.FewerLemmas.{known_within}
use Rattle.command_words.proofs.ToldLemmas.{and_left, and_right}
use Rattle.command_words.proofs.RowLemmas.{free_no_flag, never, or_right}
use Rattle.command_words.proofs.NamedLemmas.{name_is, same_row}
use Rattle.command_words.proofs.RelLemmas.{Told, named_at}
use Rattle.command_words.proofs.StepLemmas.{state}

abbrev pub loose_known : Known → Known
loose_known k = record { place = k.place; row = loosened_row k.row }

flag_same : (r : OptionRow) → is_flag (loosened_row r).takes ≡ is_flag r.takes
flag_same r = go (is_flag r.takes) (is_free r.takes) refl refl
  where
    go : (a b : Bool) → is_flag r.takes ≡ a → is_free r.takes ≡ b → is_flag (loosened_row r).takes ≡ is_flag r.takes
    go true b e f = rw e refl
    go false true e f = rw (e, f) refl
    go false false e f = rw (e, f) refl

free_same : (r : OptionRow) → is_free (loosened_row r).takes ≡ is_free r.takes
free_same r = go (is_flag r.takes) (is_free r.takes) refl refl
  where
    go : (a b : Bool) → is_flag r.takes ≡ a → is_free r.takes ≡ b → is_free (loosened_row r).takes ≡ is_free r.takes
    go true true e f = never (sym e ∙ free_no_flag r.takes f)
    go true false e f = rw (e, f) refl
    go false true e f = rw (e, f) refl
    go false false e f = rw (e, f) refl

takes_any : (r : OptionRow) (v : Text) → accepts (loosened_row r).takes v ≡ true
takes_any r v = go (is_flag r.takes) (is_free r.takes) refl refl
  where
    go : (a b : Bool) → is_flag r.takes ≡ a → is_free r.takes ≡ b → accepts (loosened_row r).takes v ≡ true
    go true b e f = rw e refl
    go false true e f = rw (e, f) refl
    go false false e f = rw (e, f) refl

flag_takes : (t : Takes) (v : Text) → is_flag t ≡ true → accepts t v ≡ true
flag_takes takes.Flag v e = refl
flag_takes takes.Any v e = never (sym e)
flag_takes takes.Count v e = never (sym e)
flag_takes takes.Name v e = never (sym e)
flag_takes takes.System v e = never (sym e)
flag_takes takes.Scheme v e = never (sym e)
flag_takes takes.SetNumber v e = never (sym e)
flag_takes takes.Depth v e = never (sym e)
flag_takes takes.Mode v e = never (sym e)
flag_takes takes.Encoding v e = never (sym e)
flag_takes takes.Set v e = never (sym e)
flag_takes takes.Hex v e = never (sym e)
flag_takes takes.Number v e = never (sym e)
flag_takes takes.Kind v e = never (sym e)
flag_takes takes.Time v e = never (sym e)
flag_takes takes.Sort v e = never (sym e)

rule_same : (r : OptionRow) → rule_for (loosened_row r) ≡ rule_for r
rule_same r = rw (free_same r, flag_same r) refl

pub rules_same : (rows : List OptionRow) → map rule_for (loosened rows) ≡ map rule_for rows
rules_same [] = refl
rules_same (r ∷ rows) = ap₂ (λ (a : Rule) (rs : List Rule). a ∷ rs) (rule_same r) (rules_same rows)

-- ---- what is found

pub known_same : (f : OptionRow → Bool) → ((r : OptionRow) → f (loosened_row r) ≡ f r) → (n : ℕ) (rows : List OptionRow)
    → known_from n f (loosened rows) ≡ option_map loose_known (known_from n f rows)
known_same f same n [] = refl
known_same f same n (r ∷ rows) = go (f r) refl (known_same f same (n + 1) rows)
  where
    go : (b : Bool) → f r ≡ b → known_from (n + 1) f (loosened rows) ≡ option_map loose_known (known_from (n + 1) f rows)
        → known_from n f (loosened (r ∷ rows)) ≡ option_map loose_known (known_from n f (r ∷ rows))
    go true e rest = rw (same r, e) refl
    go false e rest = rw (same r, e) rest

pub option_same : (name : Text) (rows : List OptionRow) → option_known name (loosened rows) ≡ option_map loose_known (option_known name rows)
option_same name rows = known_same (λ r. bytes_eq r.name name) (λ r. refl) 0 rows

pub free_known_same : (rows : List OptionRow) → free_known (loosened rows) ≡ option_map loose_known (free_known rows)
free_known_same rows = known_same (λ r. is_free r.takes) free_same 0 rows

pub named_same : (rows : List OptionRow) (vs : Values) (n : Text) → value_named (loosened rows) vs n ≡ value_named rows vs n
named_same rows vs n = ap (option_and_then (λ (known : Known). value_at known.place vs)) (option_same n rows) ∙ go (option_known n rows)
  where
    go : (o : Option Known) → option_and_then (λ (known : Known). value_at known.place vs) (option_map loose_known o)
        ≡ option_and_then (λ (known : Known). value_at known.place vs) o
    go None = refl
    go (Some k) = refl

loose_found : (n : ℕ) (f : OptionRow → Bool) (rows : List OptionRow) (k : Known) (v : Text)
    → known_from n f (loosened rows) ≡ Some k → accepts k.row.takes v ≡ true
loose_found n f [] k v is = absurd cc
loose_found n f (r ∷ rows) k v is = go (f (loosened_row r)) (loose_found (n + 1) f rows k v) is
  where
    go : (t : Bool) → (known_from (n + 1) f (loosened rows) ≡ Some k → accepts k.row.takes v ≡ true)
        → cond t (Some (record { place = n; row = loosened_row r })) (known_from (n + 1) f (loosened rows)) ≡ Some k
        → accepts k.row.takes v ≡ true
    go true later at =
        let same : loosened_row r ≡ k.row = cc in subst (λ (q : OptionRow). accepts q.takes v ≡ true) same (takes_any r v)
    go false later at = later at

pub told : (rows : List OptionRow) → are_told (loosened rows) ≡ true → Told (loosened rows)
told rows e =
    let r1 = and_right (list_all is_named (loosened rows)) _ e in
    let r2 = and_right (nat_le (free_count (loosened rows)) 1) _ r1 in
    let r3 = and_right (has_letter (loosened rows)) _ r2 in
    let r4 = and_right (names_free (loosened rows)) _ r3 in
    let room = leb-true (length (loosened rows)) 12 (and_left (nat_le (length (loosened rows)) 12) _ r4) in
    record {
      named = and_left (list_all is_named (loosened rows)) _ e;
      few = leb-true (free_count (loosened rows)) 1 (and_left (nat_le (free_count (loosened rows)) 1) _ r1);
      lettered = and_left (has_letter (loosened rows)) _ r2;
      frees = λ k is. frees k is (and_left (names_free (loosened rows)) _ r3);
      room = λ f k is. let less = known_within 0 f (loosened rows) k is in omega (arith, less, room);
      loose = λ f k v is. loose_found 0 f rows k v is;
    }
  where
    frees : (k : Known) → free_known (loosened rows) ≡ Some k → names_free (loosened rows) ≡ true
        → (j : Known) × (option_known k.row.name (loosened rows) ≡ Some j) × (j.place ≡ k.place)
    frees k is all = go (option_known k.row.name (loosened rows)) refl (rw is at all)
      where
        go : (o : Option Known) → option_known k.row.name (loosened rows) ≡ o
            → option_map_or (λ (j : Known). j.place == k.place) (option_known k.row.name (loosened rows)) false ≡ true
            → (j : Known) × (option_known k.row.name (loosened rows) ≡ Some j) × (j.place ≡ k.place)
        go None at all = never (sym (rw at at all))
        go (Some j) at all = (j, at, (Decides-eqb j.place k.place).0 (rw at at all))

-- ---- one step

pub data Step (rows : List OptionRow) (vs : Values) (word : Text) (waiting : Option Known) : Type 0 where
  fails : (e : Reason) → with_step (loosened rows) vs word (option_map loose_known waiting) ≡ Err e
      → with_step rows vs word waiting ≡ Err e → Step rows vs word waiting
  waits : (k : Known) → option_known k.row.name rows ≡ Some k → is_some (value_at k.place vs) ≡ false
      → with_step (loosened rows) vs word (option_map loose_known waiting) ≡ Ok (state vs (Some (loose_known k)))
      → with_step rows vs word waiting ≡ Ok (state vs (Some k)) → Step rows vs word waiting
  sets : (k : Known) (v : Text) → option_known k.row.name rows ≡ Some k → is_some (value_at k.place vs) ≡ false
      → with_step (loosened rows) vs word (option_map loose_known waiting) ≡ Ok (with_value vs k v)
      → (accepts k.row.takes v ≡ true → with_step rows vs word waiting ≡ Ok (with_value vs k v))
      → (accepts k.row.takes v ≡ false → with_step rows vs word waiting ≡ Err (bad_value k.row.name v)) → Step rows vs word waiting

abbrev pub Fit : List OptionRow → Values → Option Known → Type 0
Fit rows vs waiting = (k : Known) → waiting ≡ Some k → (option_known k.row.name rows ≡ Some k) × (is_some (value_at k.place vs) ≡ false)

-- a value that the option has to take
taken : (rows : List OptionRow) (vs : Values) (word : Text) (waiting : Option Known) (k : Known) (v : Text)
    → option_known k.row.name rows ≡ Some k → is_some (value_at k.place vs) ≡ false
    → with_step (loosened rows) vs word (option_map loose_known waiting) ≡ with_taken vs (loose_known k) v
    → with_step rows vs word waiting ≡ with_taken vs k v → Step rows vs word waiting
taken rows vs word waiting k v is free other real =
    sets k v is free (other ∙ rw (takes_any k.row v) refl) (λ fits. real ∙ rw fits refl) (λ bad. real ∙ rw bad refl)

word_step : (rows : List OptionRow) (vs : Values) (word : Text) (k : Known) → option_known k.row.name rows ≡ Some k
    → is_some (value_at k.place vs) ≡ false → Step rows vs word (Some k)
word_step rows vs word k is free = go (is_empty_text word || begins_with_hyphen word) refl
  where
    go : (b : Bool) → (is_empty_text word || begins_with_hyphen word) ≡ b → Step rows vs word (Some k)
    go true e = fails (no_value k.row.name) (rw e refl) (rw e refl)
    go false e = taken rows vs word (Some k) k word is free (rw e refl) (rw e refl)

self_known : (name : Text) (rows : List OptionRow) (k : Known) → option_known name rows ≡ Some k → option_known k.row.name rows ≡ Some k
self_known name rows k is = subst (λ (t : Text). option_known t rows ≡ Some k) (sym (name_is name rows k is)) is

known_step : (rows : List OptionRow) (vs : Values) (word : Text) (v : Option Text) (name : Text)
    → with_step (loosened rows) vs word None ≡ with_known vs word v (option_known name (loosened rows))
    → with_step rows vs word None ≡ with_known vs word v (option_known name rows) → Step rows vs word None
known_step rows vs word v name other real =
    go (option_known name rows) refl (other ∙ ap (with_known vs word v) (option_same name rows)) real
  where
    here : (k : Known) → option_known k.row.name rows ≡ Some k → (flag given : Bool) → is_flag k.row.takes ≡ flag
        → is_some (value_at k.place vs) ≡ given → (v : Option Text)
        → with_step (loosened rows) vs word None ≡ with_known vs word v (Some (loose_known k))
        → with_step rows vs word None ≡ with_known vs word v (Some k) → Step rows vs word None
    here k is true given f g (Some t) other real = fails (unknown_option word) (other ∙ rw (flag_same k.row, f) refl) (real ∙ rw f refl)
    here k is true true f g None other real = fails (twice k.row.name) (other ∙ rw (flag_same k.row, f, g) refl) (real ∙ rw (f, g) refl)
    here k is true false f g None other real =
        sets k flag_value is g (other ∙ rw (flag_same k.row, f, g) refl) (λ fits. real ∙ rw (f, g) refl)
        (λ bad. never (sym (flag_takes k.row.takes flag_value f) ∙ bad))
    here k is false true f g v other real = fails (twice k.row.name) (other ∙ rw (flag_same k.row, f, g) refl) (real ∙ rw (f, g) refl)
    here k is false false f g None other real =
        waits k is g (other ∙ rw (flag_same k.row, f, g) refl) (real ∙ rw (f, g) refl)
    here k is false false f g (Some t) other real = value (is_empty_text t) refl
      where
        value : (b : Bool) → is_empty_text t ≡ b → Step rows vs word None
        value true e = fails (no_value k.row.name) (other ∙ rw (flag_same k.row, f, g, e) refl) (real ∙ rw (f, g, e) refl)
        value false e = taken rows vs word None k t is g (other ∙ rw (flag_same k.row, f, g, e) refl) (real ∙ rw (f, g, e) refl)

    go : (o : Option Known) → option_known name rows ≡ o
        → with_step (loosened rows) vs word None ≡ with_known vs word v (option_map loose_known (option_known name rows))
        → with_step rows vs word None ≡ with_known vs word v (option_known name rows) → Step rows vs word None
    go None is other real =
        fails (unknown_option word) (other ∙ ap (λ (o : Option Known). with_known vs word v (option_map loose_known o)) is)
        (real ∙ ap (with_known vs word v) is)
    go (Some k) is other real =
        here k (self_known name rows k is) (is_flag k.row.takes) (is_some (value_at k.place vs)) refl refl v
        (other ∙ ap (λ (o : Option Known). with_known vs word v (option_map loose_known o)) is)
        (real ∙ ap (with_known vs word v) is)

free_named : (rows : List OptionRow) → Told (loosened rows) → (k : Known) → free_known rows ≡ Some k → option_known k.row.name rows ≡ Some k
free_named rows t k is =
    let found = t.frees (loose_known k) (free_known_same rows ∙ ap (option_map loose_known) is) in
    go (option_known k.row.name rows) refl found.0 (sym (option_same k.row.name rows) ∙ found.1) found.2
  where
    go : (o : Option Known) → option_known k.row.name rows ≡ o → (j : Known)
        → option_map loose_known (option_known k.row.name rows) ≡ Some j → j.place ≡ k.place → option_known k.row.name rows ≡ Some k
    go None at j same e =
        absurd (true≢false (ap (λ (o : Option Known). is_some o) (sym (ap (option_map loose_known) (sym at) ∙ same))))
    go (Some i) at j same e =
        let place : i.place ≡ j.place =
        ap (λ (o : Option Known). option_map_or (λ (q : Known). q.place) o 0) (ap (option_map loose_known) (sym at) ∙ same) in
        let row : i.row ≡ k.row = same_row 0 (λ r. bytes_eq r.name k.row.name) (λ r. is_free r.takes) rows i k at is (place ∙ e) in
        at ∙ ap₂ (λ (q : ℕ) (r : OptionRow). Some (record { place = q; row = r })) (place ∙ e) row

free_case : (rows : List OptionRow) → Told (loosened rows) → (vs : Values) (word : Text)
    → with_step (loosened rows) vs word None ≡ with_free vs word (free_known (loosened rows))
    → with_step rows vs word None ≡ with_free vs word (free_known rows) → Step rows vs word None
free_case rows t vs word other real =
    go (free_known rows) refl (other ∙ ap (with_free vs word) (free_known_same rows)) real
  where
    here : (k : Known) → option_known k.row.name rows ≡ Some k → (b : Bool) → (is_empty_text word || is_some (value_at k.place vs)) ≡ b
        → with_step (loosened rows) vs word None ≡ with_free vs word (Some (loose_known k))
        → with_step rows vs word None ≡ with_free vs word (Some k) → Step rows vs word None
    here k is true e other real = fails (left_over word) (other ∙ rw e refl) (real ∙ rw e refl)
    here k is false e other real =
        taken rows vs word None k word is (or_right (is_empty_text word) _ e) (other ∙ rw e refl) (real ∙ rw e refl)

    go : (o : Option Known) → free_known rows ≡ o
        → with_step (loosened rows) vs word None ≡ with_free vs word (option_map loose_known (free_known rows))
        → with_step rows vs word None ≡ with_free vs word (free_known rows) → Step rows vs word None
    go None is other real =
        fails (left_over word) (other ∙ ap (λ (o : Option Known). with_free vs word (option_map loose_known o)) is)
        (real ∙ ap (with_free vs word) is)
    go (Some k) is other real =
        here k (free_named rows t k is) (is_empty_text word || is_some (value_at k.place vs)) refl
        (other ∙ ap (λ (o : Option Known). with_free vs word (option_map loose_known o)) is) (real ∙ ap (with_free vs word) is)

pub step : (rows : List OptionRow) → Told (loosened rows) → (vs : Values) (word : Text) (waiting : Option Known) → Fit rows vs waiting
    → Step rows vs word waiting
step rows t vs word None fit = go (begins_with_hyphen word) refl
  where
    go : (b : Bool) → begins_with_hyphen word ≡ b → Step rows vs word None
    go true e = known_step rows vs word (attached_in word) (name_in word) (rw e refl) (rw e refl)
    go false e = free_case rows t vs word (rw e refl) (rw e refl)
step rows t vs word (Some k) fit = word_step rows vs word k (fit k refl).0 (fit k refl).1

-- ---- all words

-- each value is one that its option takes
abbrev pub Accepted : List OptionRow → Values → Type 0
Accepted rows vs = (k : Known) (v : Text) → option_known k.row.name rows ≡ Some k → value_at k.place vs ≡ Some v → accepts k.row.takes v ≡ true

abbrev pub Tight : List OptionRow → List Text → Type 0
Tight rows words = (vs ended : Values) (waiting : Option Known) → Fit rows vs waiting → length vs ≡ 12
    → walked (loosened rows) (state vs (option_map loose_known waiting)) words ≡ Ok ended
    → ((q : ℕ) (v : Text) → value_at q vs ≡ Some v → value_at q ended ≡ Some v)
    × (Accepted rows ended → walked rows (state vs waiting) words ≡ Ok ended)

pub tight : (rows : List OptionRow) → Told (loosened rows) → (words : List Text) → Tight rows words
tight rows t [] vs ended None fit size is =
    let same : vs ≡ ended = cc in (λ q v e. subst (λ (u : Values). value_at q u ≡ Some v) same e, λ a. ap (λ (u : Values). Ok u) same)
tight rows t [] vs ended (Some k) fit size is = absurd cc
tight rows t (w ∷ words) vs ended waiting fit size is = go (step rows t vs w waiting fit) (tight rows t words)
  where
    go : Step rows vs w waiting → Tight rows words
        → ((q : ℕ) (v : Text) → value_at q vs ≡ Some v → value_at q ended ≡ Some v)
        × (Accepted rows ended → walked rows (state vs waiting) (w ∷ words) ≡ Ok ended)
    go (fails e other real) rest =
        let bad : Err e ≡ Ok ended = sym (ap (λ (r : Result State Reason). and_then r (λ next. walked (loosened rows) next words)) other) ∙ is in
        absurd cc
    go (waits k known free other real) rest =
        let next : walked (loosened rows) (state vs (Some (loose_known k))) words ≡ Ok ended =
        sym (ap (λ (r : Result State Reason). and_then r (λ next. walked (loosened rows) next words)) other) ∙ is in
        let more = rest vs ended (Some k) (λ j e. let same : k ≡ j = cc in
        subst (λ (i : Known). (option_known i.row.name rows ≡ Some i) × (is_some (value_at i.place vs) ≡ false)) same (known, free)) size next in
        (more.0, λ a. ap (λ (r : Result State Reason). and_then r (λ next. walked rows next words)) real ∙ more.1 a)
    go (sets k v known free other real wrong) rest =
        let next : walked (loosened rows) (state (set vs k.place (Some v)) None) words ≡ Ok ended =
        sym (ap (λ (r : Result State Reason). and_then r (λ next. walked (loosened rows) next words)) other) ∙ is in
        let more = rest (set vs k.place (Some v)) ended None (λ j e. absurd cc) (length-set vs k.place (Some v) ∙ size) next in
        let room : k.place < length vs = subst (λ (m : ℕ). k.place < m) (sym size)
        (t.room (λ r. bytes_eq r.name k.row.name) (loose_known k) (option_same k.row.name rows ∙ ap (option_map loose_known) known)) in (
          λ q u e. more.0 q u (get_or-set_other vs k.place q (Some v) None
              (λ same. never (sym (ap (λ (o : Option Text). is_some o) (ap (λ (p : ℕ). value_at p vs) (sym same) ∙ e)) ∙ free)) ∙ e),
          λ a. ap (λ (r : Result State Reason). and_then r (λ next. walked rows next words))
              (real (a k v known (more.0 k.place v (get_or-set_same vs k.place (Some v) None room)))) ∙ more.1 a,
        )

-- ---- the other way: what is read holds accepted values alone

accepted_set : (rows : List OptionRow) (vs : Values) (k : Known) (v : Text) → Accepted rows vs → option_known k.row.name rows ≡ Some k
    → accepts k.row.takes v ≡ true → k.place < length vs → Accepted rows (set vs k.place (Some v))
accepted_set rows vs k v all known fits room j u is at = go (j.place == k.place) refl
  where
    go : (b : Bool) → (j.place == k.place) ≡ b → accepts j.row.takes u ≡ true
    go true e =
        let place : j.place ≡ k.place = (Decides-eqb j.place k.place).0 e in
        let row : k.row ≡ j.row =
        same_row 0 (λ r. bytes_eq r.name k.row.name) (λ r. bytes_eq r.name j.row.name) rows k j known is (sym place) in
        let value : Some v ≡ Some u =
        sym (get_or-set_same vs k.place (Some v) None room)
        ∙ ap (λ (q : ℕ). value_at q (set vs k.place (Some v))) (sym place) ∙ at in
        let same : v ≡ u = ap (λ (o : Option Text). option_map_or (λ (t : Text). t) o v) value in
        subst (λ (t : Text). accepts j.row.takes t ≡ true) same (subst (λ (r : OptionRow). accepts r.takes v ≡ true) row fits)
    go false e =
        all j u is (sym (get_or-set_other vs k.place j.place (Some v) None (λ same.
        never (sym ((Decides-eqb j.place k.place).1 same) ∙ e))) ∙ at)

abbrev pub Loose : List OptionRow → List Text → Type 0
Loose rows words = (vs ended : Values) (waiting : Option Known) → Fit rows vs waiting → length vs ≡ 12 → Accepted rows vs
    → walked rows (state vs waiting) words ≡ Ok ended
    → (walked (loosened rows) (state vs (option_map loose_known waiting)) words ≡ Ok ended) × Accepted rows ended

pub loose : (rows : List OptionRow) → Told (loosened rows) → (words : List Text) → Loose rows words
loose rows t [] vs ended None fit size all is =
    let same : vs ≡ ended = cc in (ap (λ (u : Values). Ok u) same, subst (Accepted rows) same all)
loose rows t [] vs ended (Some k) fit size all is = absurd cc
loose rows t (w ∷ words) vs ended waiting fit size all is = go (step rows t vs w waiting fit) (loose rows t words)
  where
    go : Step rows vs w waiting → Loose rows words
        → (walked (loosened rows) (state vs (option_map loose_known waiting)) (w ∷ words) ≡ Ok ended) × Accepted rows ended
    go (fails e other real) rest =
        let bad : Err e ≡ Ok ended = sym (ap (λ (r : Result State Reason). and_then r (λ next. walked rows next words)) real) ∙ is in
        absurd cc
    go (waits k known free other real) rest =
        let next : walked rows (state vs (Some k)) words ≡ Ok ended =
        sym (ap (λ (r : Result State Reason). and_then r (λ next. walked rows next words)) real) ∙ is in
        let more = rest vs ended (Some k) (λ j e. let same : k ≡ j = cc in
        subst (λ (i : Known). (option_known i.row.name rows ≡ Some i) × (is_some (value_at i.place vs) ≡ false)) same (known, free)) size all next in
        (ap (λ (r : Result State Reason). and_then r (λ next. walked (loosened rows) next words)) other ∙ more.0, more.1)
    go (sets k v known free other real wrong) rest = value (accepts k.row.takes v) refl
      where
        value : (b : Bool) → accepts k.row.takes v ≡ b
            → (walked (loosened rows) (state vs (option_map loose_known waiting)) (w ∷ words) ≡ Ok ended) × Accepted rows ended
        value false e =
            let bad : Err (bad_value k.row.name v) ≡ Ok ended =
            sym (ap (λ (r : Result State Reason). and_then r (λ next. walked rows next words)) (wrong e)) ∙ is in
            absurd cc
        value true e =
            let next : walked rows (state (set vs k.place (Some v)) None) words ≡ Ok ended =
            sym (ap (λ (r : Result State Reason). and_then r (λ next. walked rows next words)) (real e)) ∙ is in
            let room : k.place < length vs = subst (λ (m : ℕ). k.place < m) (sym size)
            (t.room (λ r. bytes_eq r.name k.row.name) (loose_known k) (option_same k.row.name rows ∙ ap (option_map loose_known) known)) in
            let more = rest (set vs k.place (Some v)) ended None (λ j e. absurd cc) (length-set vs k.place (Some v) ∙ size)
            (accepted_set rows vs k v all known e room) next in
            (ap (λ (r : Result State Reason). and_then r (λ next. walked (loosened rows) next words)) other ∙ more.0, more.1)

-- ---- the options of a command have names of their own

distinct_same : (rows : List OptionRow) → are_distinct (loosened rows) ≡ are_distinct rows
distinct_same [] = refl
distinct_same (r ∷ rows) = ap₂ (λ (a b : Bool). not a && b) (any_same r.name rows) (distinct_same rows)
  where
    any_same : (name : Text) (rows : List OptionRow)
        → list_any (λ q. bytes_eq q.name name) (loosened rows) ≡ list_any (λ q. bytes_eq q.name name) rows
    any_same name [] = refl
    any_same name (q ∷ rows) = ap (λ (b : Bool). bytes_eq q.name name || b) (any_same name rows)

pub distinct_told : (rows : List OptionRow) → are_told (loosened rows) ≡ true → are_distinct rows ≡ true
distinct_told rows e =
    let r1 = and_right (list_all is_named (loosened rows)) _ e in
    let r2 = and_right (nat_le (free_count (loosened rows)) 1) _ r1 in
    let r3 = and_right (has_letter (loosened rows)) _ r2 in
    let r4 = and_right (names_free (loosened rows)) _ r3 in
    sym (distinct_same rows) ∙ and_right (nat_le (length (loosened rows)) 12) _ r4

known_any : (n : ℕ) (f : OptionRow → Bool) (rows : List OptionRow) (k : Known) → known_from n f rows ≡ Some k → list_any f rows ≡ true
known_any n f [] k is = absurd cc
known_any n f (r ∷ rows) k is = go (f r) refl (known_any (n + 1) f rows k) is
  where
    go : (b : Bool) → f r ≡ b → (known_from (n + 1) f rows ≡ Some k → list_any f rows ≡ true)
        → known_from n f (r ∷ rows) ≡ Some k → list_any f (r ∷ rows) ≡ true
    go true e later at = rw e refl
    go false e later at = rw e (later (rw e at at))

-- what holds of each option that is found by its name holds of each option
all_found : (P : OptionRow → Bool) (n : ℕ) (rows : List OptionRow) → are_distinct rows ≡ true
    → ((k : Known) → known_from n (λ q. bytes_eq q.name k.row.name) rows ≡ Some k → P k.row ≡ true) → list_all P rows ≡ true
all_found P n [] alone each = refl
all_found P n (r ∷ rows) alone each = both (P r) (each (record { place = n; row = r }) first) (rest (all_found P (n + 1) rows))
  where
    both : (b : Bool) → b ≡ true → list_all P rows ≡ true → (b && list_all P rows) ≡ true
    both b e f = rw (e, f) refl

    first : known_from n (λ q. bytes_eq q.name r.name) (r ∷ rows) ≡ Some (record { place = n; row = r })
    first = rw ((bytes_eq-Decides r.name r.name).1 refl) refl

    other : (k : Known) → known_from (n + 1) (λ q. bytes_eq q.name k.row.name) rows ≡ Some k → (b : Bool)
        → bytes_eq r.name k.row.name ≡ b → bytes_eq r.name k.row.name ≡ false
    other k is false e = e
    other k is true e =
        let same : r.name ≡ k.row.name = (bytes_eq-Decides r.name k.row.name).0 e in
        let any : list_any (λ q. bytes_eq q.name r.name) rows ≡ true =
        subst (λ (t : Text). list_any (λ q. bytes_eq q.name t) rows ≡ true) (sym same)
        (known_any (n + 1) (λ q. bytes_eq q.name k.row.name) rows k is) in
        let none : not (list_any (λ q. bytes_eq q.name r.name) rows) ≡ true =
        and_left (not (list_any (λ q. bytes_eq q.name r.name) rows)) _ alone in
        never (sym (rw any at none))

    rest : (are_distinct rows ≡ true → ((k : Known) → known_from (n + 1) (λ q. bytes_eq q.name k.row.name) rows ≡ Some k → P k.row ≡ true)
        → list_all P rows ≡ true) → list_all P rows ≡ true
    rest all = all (and_right (not (list_any (λ q. bytes_eq q.name r.name) rows)) _ alone)
        (λ k is. each k (rw (other k is (bytes_eq r.name k.row.name) refl) is))

pub all_fit : (rows : List OptionRow) (look : Look) (vs : Values) → are_distinct rows ≡ true → Accepted rows vs
    → ((n : Text) → look n ≡ value_named rows vs n) → all_accepted look rows ≡ true
all_fit rows look vs alone all same =
    all_found (λ row. option_map_or (accepts row.takes) (look row.name) true) 0 rows alone
    (λ k is. go k is (value_at k.place vs) refl)
  where
    go : (k : Known) → option_known k.row.name rows ≡ Some k → (o : Option Text) → value_at k.place vs ≡ o
        → option_map_or (accepts k.row.takes) (look k.row.name) true ≡ true
    go k is None at = rw (same k.row.name ∙ named_at rows vs k.row.name k is ∙ at) refl
    go k is (Some v) at = rw (same k.row.name ∙ named_at rows vs k.row.name k is ∙ at) (all k v is at)
