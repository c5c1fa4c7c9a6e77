-- The faults of `clap` are none exactly where our walk reads, with the same values.
use Rattle.std.proofs.Common.{◌≡◌, ◌∙◌, Bool, true, false, List, [], ◌∷◌, Option, Some, None, Result, Ok, Err, find, bytes_eq, refl, sym, ap, subst, is_some, option_map, is_ok}
use Rattle.std.specs.List.{list_all, list_any}
use Rattle.std.specs.Option.{option_map_or}
use Rattle.std.specs.Prelude.{IfSome}
use Rattle.clap.specs.declared.parser.matches.ArgMatches.{ArgMatches}
use Rattle.clap.specs.Words.{HasMatchesOf, Row, Rule, fault_of, found_of, is_simple, rows_of, first_of, is_simple_and_free, matches_of}
use Rattle.clap.specs.Simple.{filled_from}
use Rattle.command_words.specs.Words.{Reason, Text}
use Rattle.command_words.specs.Table.{OptionRow, accepts}
use Rattle.command_words.specs.Walk.{Values, no_values, value_named, walked}
use Rattle.command_words.specs.Commands.{CommandRow, commands, row_named}
use Rattle.command_words.specs.Clap.{Tells, TellsTaken, all_accepted, app_for, found_for, is_refused, is_told, loosened}
use Rattle.command_words.specs.Clap.{Reads as ReadsBy}
use Rattle.command_words.proofs.ToldLemmas.{all_told, and_left, and_right}
use Rattle.command_words.proofs.RowLemmas.{is_none, never}
use Rattle.command_words.proofs.WalkLemmas.{final, whole}
use Rattle.command_words.proofs.RelLemmas.{Told, named_at, none_given, rel_none}
use Rattle.command_words.proofs.ClaimLemmas.{Agrees, rules_in}
use Rattle.command_words.proofs.StepLemmas.{all_known, is_open, state}
use Rattle.command_words.proofs.ClapLemmas.{claims}
use Rattle.command_words.proofs.LevelLemmas.{faults_are, rows_are, start}
use Rattle.command_words.proofs.RefusedLemmas.{refused_wrong}
use Rattle.command_words.proofs.LooseLemmas.{Accepted, all_fit, distinct_told, loose, named_same, rules_same, tight, told}

abbrev told_of : (c : CommandRow) → is_told c ≡ true → Told (loosened c.options)
told_of c e = told c.options (and_right (is_simple_and_free (app_for c)) _ e)

same_rules : (rows : List OptionRow) → rules_in (loosened rows) ≡ rules_in rows
same_rules rows = ap (filled_from 1) (rules_same rows)

agrees : (c : CommandRow) → is_told c ≡ true → (words : List Text) → list_any is_refused words ≡ false
    → Agrees c.name (loosened c.options) start words (walked (loosened c.options) (state no_values None) words)
agrees c e words sound =
    (claims c.name (loosened c.options) (told_of c e) words sound).0 1 [] None no_values
    (record { fault = refl; rel = rel_none (loosened c.options); size = refl })
    (is_open refl (λ k is. ap (λ (o : Option Text). is_some o) (sym (none_given k.place no_values refl))))

whole_same : (c : CommandRow) (words : List Text)
    → fault_of (app_for c) words ≡ whole c.name (rules_in (loosened c.options)) start words
whole_same c words =
    faults_are c words ∙ ap (λ (rs : List Rule). whole c.name rs start words) (sym (same_rules c.options))

rows_same : (c : CommandRow) (words : List Text) → matches_of (app_for c) words ≡ (final (rules_in (loosened c.options)) start words).rows
rows_same c words = rows_are c words ∙ ap (λ (rs : List Rule). (final rs start words).rows) (sym (same_rules c.options))

pub tells : (c : CommandRow) → is_told c ≡ true → (words : List Text) → list_any is_refused words ≡ false
    → Tells c words (walked (loosened c.options) (state no_values None) words)
tells c e words sound = go (walked (loosened c.options) (state no_values None) words) (agrees c e words sound)
  where
    go : (r : Result Values Reason) → Agrees c.name (loosened c.options) start words r → Tells c words r
    go (Ok vs) a = (
      whole_same c words ∙ a.0,
      λ n. ap (first_of n) (rows_same c words) ∙ (a.1 n).0 ∙ named_same c.options vs n,
    )
    go (Err r) a = λ good. never (sym (ap is_none good) ∙ ap is_none (whole_same c words) ∙ a)

-- the values that are read, which `clap` has
abbrev pub Reads : CommandRow → List Text → Type 0
Reads c words = (vs : Values) × (walked c.options (state no_values None) words ≡ Ok vs)
    × ((n : Text) → first_of n (matches_of (app_for c) words) ≡ value_named c.options vs n)

pub reads : (c : CommandRow) → is_told c ≡ true → (words : List Text) → list_any is_refused words ≡ false
    → fault_of (app_for c) words ≡ [] → all_accepted (λ n. first_of n (matches_of (app_for c) words)) c.options ≡ true
    → Reads c words
reads c e words sound good fits = go (walked (loosened c.options) (state no_values None) words) refl (tells c e words sound)
  where
    go : (r : Result Values Reason) → walked (loosened c.options) (state no_values None) words ≡ r → Tells c words r → Reads c words
    go (Err r) is bad = absurd (bad good)
    go (Ok vs) is t =
        let accepted : Accepted c.options vs = λ k v known value.
        let row : option_map_or (accepts k.row.takes) (first_of k.row.name (matches_of (app_for c) words)) true ≡ true =
        all_known (λ r. option_map_or (accepts r.takes) (first_of r.name (matches_of (app_for c) words)) true)
        c.options fits 0 (λ r. bytes_eq r.name k.row.name) k known in
        let found : first_of k.row.name (matches_of (app_for c) words) ≡ Some v =
        t.1 k.row.name ∙ named_at c.options vs k.row.name k known ∙ value in
        rw found at row in
        (vs, (tight c.options (told_of c e) words no_values vs None (λ k n. absurd cc) refl is).1 accepted, t.1)

-- no value is given yet
none_yet : (rows : List OptionRow) → Accepted rows no_values
none_yet rows = λ k v known at. never (sym (ap (λ (o : Option Text). is_some o) (none_given k.place no_values refl ∙ at)))

-- the other way: what the command reads, `clap` takes, and each value is accepted
pub taken : (c : CommandRow) → is_told c ≡ true → (words : List Text) → list_any is_refused words ≡ false
    → TellsTaken c words (walked c.options (state no_values None) words)
taken c e words sound = go (walked c.options (state no_values None) words) refl
  where
    deny : (r : Reason) → walked c.options (state no_values None) words ≡ Err r → fault_of (app_for c) words ≡ []
        → (b : Bool) → all_accepted (found_for c words) c.options ≡ b → all_accepted (found_for c words) c.options ≡ false
    deny r is good false fits = fits
    deny r is good true fits =
        let read = reads c e words sound good fits in
        let bad : Ok (read.0) ≡ Err r = sym (read.1) ∙ is in
        absurd cc

    go : (r : Result Values Reason) → walked c.options (state no_values None) words ≡ r → TellsTaken c words r
    go (Ok vs) is =
        let free = loose c.options (told_of c e) words no_values vs None (λ k n. absurd cc) refl (none_yet c.options) is in
        let finds = subst (Tells c words) free.0 (tells c e words sound) in
        (finds, all_fit c.options (found_for c words) vs (distinct_told c.options (and_right (is_simple_and_free (app_for c)) _ e)) free.1 finds.1)
    go (Err r) is = λ good. deny r is good (all_accepted (found_for c words) c.options) refl

-- `clap` is given each command that is found
told_in : (cs : List CommandRow) (name : Text) (c : CommandRow) → list_all is_told cs ≡ true
    → find (λ r. bytes_eq r.name name) cs ≡ Some c → is_told c ≡ true
told_in [] name c all is = absurd cc
told_in (r ∷ cs) name c all is = go (bytes_eq r.name name) refl is (told_in cs name c (and_right (is_told r) _ all))
  where
    go : (b : Bool) → bytes_eq r.name name ≡ b → find (λ r. bytes_eq r.name name) (r ∷ cs) ≡ Some c
        → (find (λ r. bytes_eq r.name name) cs ≡ Some c → is_told c ≡ true) → is_told c ≡ true
    go true e at rest =
        let same : r ≡ c = ap (λ (o : Option CommandRow). option_map_or (λ (q : CommandRow). q) o r) (rw e at at) in
        subst (λ (q : CommandRow). is_told q ≡ true) same (and_left (is_told r) _ all)
    go false e at rest = rest (rw e at at)

pub told_named : (name : Text) (c : CommandRow) → row_named name ≡ Some c → is_told c ≡ true
told_named name c is = told_in commands name c all_told is

pub read_by : (c : CommandRow) (words : List Text) (m : ArgMatches) (r : Option ArgMatches) → is_told c ≡ true
    → list_any is_refused words ≡ false → fault_of (app_for c) words ≡ [] → HasMatchesOf (app_for c) words m
    → IfSome r (λ x. x ≡ m) → IfSome r (λ x. all_accepted (λ n. first_of n (rows_of (found_of x))) c.options ≡ true)
    → IfSome r (λ x. ReadsBy c.options words (rows_of (found_of x)))
read_by c words m None e sound good has same fits = tt
read_by c words m (Some x) e sound good has same fits =
    let simple : is_simple (app_for c) ≡ true = and_left (is_simple (app_for c)) _ (and_left (is_simple_and_free (app_for c)) _ e) in
    let rows : rows_of (found_of x) ≡ matches_of (app_for c) words =
    ap (λ (q : ArgMatches). rows_of (found_of q)) same ∙ (has simple).0 in
    subst (ReadsBy c.options words) (sym rows)
    (reads c e words sound good (subst (λ (rs : List Row). all_accepted (λ n. first_of n rs) c.options ≡ true) rows fits))

pub tells_named : (name : Text) (c : CommandRow) (words : List Text) → row_named name ≡ Some c → list_any is_refused words ≡ false
    → Tells c words (walked (loosened c.options) (state no_values None) words)
tells_named name c words is sound = tells c (told_named name c is) words sound

pub taken_named : (name : Text) (c : CommandRow) (words : List Text) → row_named name ≡ Some c → list_any is_refused words ≡ false
    → TellsTaken c words (walked c.options (state no_values None) words)
taken_named name c words is sound = taken c (told_named name c is) words sound

-- what holds a refused word is not read
pub refused_named : (name : Text) (c : CommandRow) (words : List Text) → row_named name ≡ Some c → list_any is_refused words ≡ true
    → is_ok (walked c.options (state no_values None) words) ≡ false
refused_named name c words is refused = go (walked c.options (state no_values None) words) refl
  where
    e : is_told c ≡ true
    e = told_named name c is

    go : (r : Result Values Reason) → walked c.options (state no_values None) words ≡ r
        → is_ok (walked c.options (state no_values None) words) ≡ false
    go (Err r) at = ap is_ok at
    go (Ok vs) at =
        let free = loose c.options (told_of c e) words no_values vs None (λ k n. absurd cc) refl (none_yet c.options) at in
        never (sym (ap is_ok free.0) ∙ refused_wrong (loosened c.options) (told_of c e) words refused (state no_values None))
