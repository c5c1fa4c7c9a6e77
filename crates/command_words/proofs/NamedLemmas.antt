-- The rules that `clap` has of a command's options, found as we find the options.
use Rattle.std.proofs.Common.{◌≡◌, ◌∙◌, ◌==◌, ◌&&◌, ◌||◌, ◌+◌, ◌≤◌, ℕ, Bool, true, false, cond, not, List, [], ◌∷◌, Some, None, map, find, bytes_eq, refl, sym, ap, ap₂, is_some, codes, if◌then◌else◌, arith}
use Rattle.std.specs.List.{list_all}
use Rattle.std.specs.Option.{option_map_or}
use Rattle.std.proofs.lemmas.Bool.Decides.{Decides-eqb}
use Rattle.std.proofs.lemmas.Slice.Eq.{bytes_eq-Decides}
use Rattle.std.proofs.Math.Bool.{or-false}
use Rattle.clap.specs.Words.{Rule}
use Rattle.clap.specs.Walk.{arg_by_index, has_long, has_short}
use Rattle.clap.specs.Simple.{filled, filled_from, index_after}
use Rattle.command_words.specs.Words.{Text, begins_with_hyphen, is_hyphen}
use Rattle.command_words.specs.Table.{Known, OptionRow, is_flag, is_free, known_from, option_known}
use Rattle.command_words.specs.Clap.{free_count, has_two_hyphens, is_named, rule_for}
use Rattle.command_words.proofs.ToldLemmas.{and_left, and_right}
use Rattle.command_words.proofs.RowLemmas.{built_rule, free_built, never}
use Rattle.command_words.proofs.VerboseLemmas.{from_least}

abbrev pub rules_from : ℕ → List OptionRow → List Rule
rules_from i rows = filled_from i (map rule_for rows)

-- the index that the first of these options has
abbrev pub index_at : ℕ → (OptionRow → Bool) → List OptionRow → ℕ
index_at i f [] = i
index_at i f (r ∷ rows) = if f r then i else index_at (index_after i (filled (rule_for r))) f rows

abbrev pub Tells : (Rule → Bool) → (OptionRow → Bool) → Type 0
Tells test f = (i : ℕ) (r : OptionRow) → is_named r ≡ true → test (built_rule i r) ≡ f r

pub find_some : (test : Rule → Bool) (f : OptionRow → Bool) → Tells test f → (rows : List OptionRow) → list_all is_named rows ≡ true
    → (i place : ℕ) (k : Known) → known_from place f rows ≡ Some k
    → find test (rules_from i rows) ≡ Some (built_rule (index_at i f rows) k.row)
find_some test f tells [] named i place k is = absurd cc
find_some test f tells (r ∷ rows) named i place k is =
    go (f r) refl (tells i r (and_left (is_named r) _ named)) is
    (find_some test f tells rows (and_right (is_named r) _ named) (index_after i (filled (rule_for r))) (place + 1) k)
  where
    go : (b : Bool) → f r ≡ b → test (built_rule i r) ≡ f r
        → cond b (Some (record { place = place; row = r })) (known_from (place + 1) f rows) ≡ Some k
        → (known_from (place + 1) f rows ≡ Some k
        → find test (rules_from (index_after i (filled (rule_for r))) rows) ≡ Some (built_rule (index_at (index_after i (filled (rule_for r))) f rows) k.row))
        → find test (rules_from i (r ∷ rows)) ≡ Some (built_rule (index_at i f (r ∷ rows)) k.row)
    go true e t at rest = let same : r ≡ k.row = cc in rw (t, e) (ap (λ (q : OptionRow). Some (built_rule i q)) same)
    go false e t at rest = rw (t, e) (rest at)

pub find_none : (test : Rule → Bool) (f : OptionRow → Bool) → Tells test f → (rows : List OptionRow) → list_all is_named rows ≡ true
    → (i place : ℕ) → known_from place f rows ≡ None → find test (rules_from i rows) ≡ None
find_none test f tells [] named i place is = refl
find_none test f tells (r ∷ rows) named i place is =
    go (f r) refl (tells i r (and_left (is_named r) _ named)) is
    (find_none test f tells rows (and_right (is_named r) _ named) (index_after i (filled (rule_for r))) (place + 1))
  where
    go : (b : Bool) → f r ≡ b → test (built_rule i r) ≡ f r
        → cond b (Some (record { place = place; row = r })) (known_from (place + 1) f rows) ≡ None
        → (known_from (place + 1) f rows ≡ None → find test (rules_from (index_after i (filled (rule_for r))) rows) ≡ None)
        → find test (rules_from i (r ∷ rows)) ≡ None
    go true e t at rest = absurd cc
    go false e t at rest = rw (t, e) (rest at)

-- ---- the tests

pub hyphen_is : (c : ℕ) → is_hyphen c ≡ true → c ≡ 45
hyphen_is c e = (Decides-eqb c 45).0 e

pub two_hyphens : (n : Text) → has_two_hyphens n ≡ true → (y : Text) × (n ≡ 45 ∷ 45 ∷ y)
two_hyphens [] e = never (sym e)
two_hyphens (a ∷ []) e = never (sym e)
two_hyphens (a ∷ b ∷ y) e =
    let first = and_left (is_hyphen a) _ e in
    let second = and_left (is_hyphen b) _ (and_right (is_hyphen a) _ e) in
    (y, ap₂ (λ (c d : ℕ). c ∷ d ∷ y) (hyphen_is a first) (hyphen_is b second))

unhyphened : (n x : Text) → not (begins_with_hyphen n) ≡ true → false ≡ bytes_eq n (45 ∷ x)
unhyphened [] x e = refl
unhyphened (c ∷ n) x e = go (is_hyphen c) refl
  where
    go : (b : Bool) → is_hyphen c ≡ b → false ≡ bytes_eq (c ∷ n) (45 ∷ x)
    go true h = never (sym (rw h at e))
    go false h = rw h refl

pub by_id : (n : Text) → Tells (λ a. bytes_eq a.id n) (λ r. bytes_eq r.name n)
by_id n i r named = go (is_free r.takes) (is_flag r.takes) refl refl
  where
    go : (a b : Bool) → is_free r.takes ≡ a → is_flag r.takes ≡ b → bytes_eq (built_rule i r).id n ≡ bytes_eq r.name n
    go true b e f = rw e refl
    go false true e f = rw (e, f) refl
    go false false e f = rw (e, f) refl

pub by_long : (x : Text) → Tells (λ a. not (is_some a.index) && has_long a x) (λ r. bytes_eq r.name (45 ∷ 45 ∷ x))
by_long x i r named = go (is_free r.takes) (is_flag r.takes) refl refl
  where
    go : (a b : Bool) → is_free r.takes ≡ a → is_flag r.takes ≡ b
        → (not (is_some (built_rule i r).index) && has_long (built_rule i r) x) ≡ bytes_eq r.name (45 ∷ 45 ∷ x)
    go true b e f = rw e (unhyphened r.name (45 ∷ x) (rw e at named))
    go false true e f =
        let name = two_hyphens r.name (and_left (has_two_hyphens r.name) _ (rw e at named)) in
        rw (e, f, name.1) (or-false (bytes_eq name.0 x))
    go false false e f =
        let name = two_hyphens r.name (and_left (has_two_hyphens r.name) _ (rw e at named)) in
        rw (e, f, name.1) (or-false (bytes_eq name.0 x))

pub by_letter : Tells (λ a. not (is_some a.index) && has_short a 118) (λ r. bytes_eq r.name (codes "--verbose"))
by_letter i r named = go (is_free r.takes) (is_flag r.takes) refl refl
  where
    lettered : (b : Bool) → (option_map_or (λ (s : ℕ). s == 118) (cond b (Some 118) None) false || false) ≡ b
    lettered true = refl
    lettered false = refl

    go : (a b : Bool) → is_free r.takes ≡ a → is_flag r.takes ≡ b
        → (not (is_some (built_rule i r).index) && has_short (built_rule i r) 118) ≡ bytes_eq r.name (codes "--verbose")
    go true b e f = rw e (unhyphened r.name (45 ∷ 118 ∷ 101 ∷ 114 ∷ 98 ∷ 111 ∷ 115 ∷ 101 ∷ []) (rw e at named))
    go false true e f = rw (e, f) (lettered (bytes_eq r.name (codes "--verbose")))
    go false false e f =
        let no = and_right (has_two_hyphens r.name) _ (rw (e, f) at named) in
        rw (e, f) (turned (bytes_eq r.name (codes "--verbose")) no)
      where
        turned : (b : Bool) → not b ≡ true → false ≡ b
        turned true n = n
        turned false n = refl

-- ---- the word without an option

pub free_some : (rows : List OptionRow) (place : ℕ) (k : Known) → known_from place (λ r. is_free r.takes) rows ≡ Some k
    → arg_by_index (rules_from 1 rows) 1 ≡ Some (free_built 1 k.row.name)
free_some [] place k is = absurd cc
free_some (r ∷ rows) place k is = go (is_free r.takes) (is_flag r.takes) refl refl is (free_some rows (place + 1) k)
  where
    go : (b c : Bool) → is_free r.takes ≡ b → is_flag r.takes ≡ c
        → cond b (Some (record { place = place; row = r })) (known_from (place + 1) (λ r. is_free r.takes) rows) ≡ Some k
        → (known_from (place + 1) (λ r. is_free r.takes) rows ≡ Some k
        → arg_by_index (rules_from 1 rows) 1 ≡ Some (free_built 1 k.row.name))
        → arg_by_index (rules_from 1 (r ∷ rows)) 1 ≡ Some (free_built 1 k.row.name)
    go true c e f at rest =
        let same : r ≡ k.row = cc in
        rw e (ap (λ (q : OptionRow). Some (free_built 1 q.name)) same)
    go false true e f at rest = rw (e, f) (rest at)
    go false false e f at rest = rw (e, f) (rest at)

pub free_none : (rows : List OptionRow) (i p place : ℕ) → known_from place (λ r. is_free r.takes) rows ≡ None
    → arg_by_index (rules_from i rows) p ≡ None
free_none [] i p place is = refl
free_none (r ∷ rows) i p place is =
    go (is_free r.takes) (is_flag r.takes) refl refl is (λ j. free_none rows j p (place + 1))
  where
    go : (b c : Bool) → is_free r.takes ≡ b → is_flag r.takes ≡ c
        → cond b (Some (record { place = place; row = r })) (known_from (place + 1) (λ r. is_free r.takes) rows) ≡ None
        → ((j : ℕ) → known_from (place + 1) (λ r. is_free r.takes) rows ≡ None → arg_by_index (rules_from j rows) p ≡ None)
        → arg_by_index (rules_from i (r ∷ rows)) p ≡ None
    go true c e f at rest = absurd cc
    go false true e f at rest = rw (e, f) (rest i at)
    go false false e f at rest = rw (e, f) (rest i at)

no_free : (rows : List OptionRow) (place : ℕ) → free_count rows ≡ 0 → known_from place (λ r. is_free r.takes) rows ≡ None
no_free [] place e = refl
no_free (r ∷ rows) place e = go (is_free r.takes) refl (no_free rows (place + 1))
  where
    go : (b : Bool) → is_free r.takes ≡ b
        → (free_count rows ≡ 0 → known_from (place + 1) (λ r. is_free r.takes) rows ≡ None)
        → known_from place (λ r. is_free r.takes) (r ∷ rows) ≡ None
    go true f rest = let more : 1 + free_count rows ≡ 0 = rw f at e in absurd (omega (arith, more))
    go false f rest = rw f (rest (rw f at e))

pub no_second : (rows : List OptionRow) → free_count rows ≤ 1 → arg_by_index (rules_from 1 rows) 2 ≡ None
no_second [] few = refl
no_second (r ∷ rows) few = go (is_free r.takes) (is_flag r.takes) refl refl (no_second rows)
  where
    go : (b c : Bool) → is_free r.takes ≡ b → is_flag r.takes ≡ c
        → (free_count rows ≤ 1 → arg_by_index (rules_from 1 rows) 2 ≡ None)
        → arg_by_index (rules_from 1 (r ∷ rows)) 2 ≡ None
    go true c e f rest =
        let more : 1 + free_count rows ≤ 1 = rw e at few in
        let none : free_count rows ≡ 0 = omega (arith, more) in
        rw e (free_none rows 2 2 0 (no_free rows 0 none))
    go false true e f rest = rw (e, f) (rest (rw e at few))
    go false false e f rest = rw (e, f) (rest (rw e at few))

-- ---- places

pub same_row : (n : ℕ) (one other : OptionRow → Bool) (rows : List OptionRow) (a b : Known)
    → known_from n one rows ≡ Some a → known_from n other rows ≡ Some b → a.place ≡ b.place → a.row ≡ b.row
same_row n one other [] a b at bt e = absurd cc
same_row n one other (row ∷ rows) a b at bt e = go (one row) (other row) (same_row (n + 1) one other rows a b) at bt
  where
    go : (s t : Bool)
        → (known_from (n + 1) one rows ≡ Some a → known_from (n + 1) other rows ≡ Some b → a.place ≡ b.place → a.row ≡ b.row)
        → (if s then Some (record { place = n; row = row }) else known_from (n + 1) one rows) ≡ Some a
        → (if t then Some (record { place = n; row = row }) else known_from (n + 1) other rows) ≡ Some b
        → a.row ≡ b.row
    go true true rest at bt = cc
    go true false rest at bt =
        let here : n ≡ a.place = cc in
        let more = from_least (n + 1) other rows b bt in
        absurd (omega (arith, here, more, e))
    go false true rest at bt =
        let here : n ≡ b.place = cc in
        let more = from_least (n + 1) one rows a at in
        absurd (omega (arith, here, more, e))
    go false false rest at bt = rest at bt e

pub passes_it : (n : ℕ) (passes : OptionRow → Bool) (rows : List OptionRow) (k : Known)
    → known_from n passes rows ≡ Some k → passes k.row ≡ true
passes_it n passes [] k is = absurd cc
passes_it n passes (row ∷ rows) k is = go (passes row) refl (passes_it (n + 1) passes rows k) is
  where
    go : (t : Bool) → passes row ≡ t → (known_from (n + 1) passes rows ≡ Some k → passes k.row ≡ true)
        → (if t then Some (record { place = n; row = row }) else known_from (n + 1) passes rows) ≡ Some k
        → passes k.row ≡ true
    go true e rest at = let same : row ≡ k.row = cc in ap passes (sym same) ∙ e
    go false e rest at = rest at

pub name_is : (n : Text) (rows : List OptionRow) (k : Known) → option_known n rows ≡ Some k → k.row.name ≡ n
name_is n rows k is = (bytes_eq-Decides k.row.name n).0 (passes_it 0 (λ r. bytes_eq r.name n) rows k is)
