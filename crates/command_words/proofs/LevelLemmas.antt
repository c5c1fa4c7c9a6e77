-- The faults and the rows of all words are those of the walk.
use Rattle.std.proofs.Common.{◌≡◌, ◌∙◌, ◌&&◌, ◌||◌, ◌++◌, ℕ, Bool, true, false, cond, not, List, [], ◌∷◌, Option, Some, None, map, refl, sym, ap, ap₂, is_some}
use Rattle.std.proofs.lemmas.List.{append_assoc, append-nil}
use Rattle.std.specs.Prelude.{fold}
use Rattle.std.specs.List.{list_any}
use Rattle.clap.specs.Takes.{is_given}
use Rattle.clap.specs.Words.{App, Kinds, Row, Rule, built, fault_of, matches_of}
use Rattle.clap.specs.Walk.{Held, Walk, finished, has_row, idle, nothing_held, settled, walked, with_default}
use Rattle.clap.specs.Faults.{check_fault, default_fault, defaults_fault, entered_fault, level_fault, settle_fault, turn_fault, walk_fault}
use Rattle.clap.specs.Simple.{entered, filled, index_after}
use Rattle.clap.specs.Kinds.{or_else}
use Rattle.command_words.specs.Words.{Text}
use Rattle.command_words.specs.Table.{OptionRow, is_flag, is_free}
use Rattle.command_words.specs.Commands.{CommandRow}
use Rattle.command_words.specs.Clap.{app_for, plain_app, rule_for, with_rules}
use Rattle.command_words.proofs.RowLemmas.{built_rule, or_nil}
use Rattle.command_words.proofs.WalkLemmas.{final, shape, stands, whole}
use Rattle.command_words.proofs.NamedLemmas.{rules_from}
use Rattle.command_words.proofs.ClaimLemmas.{held, rules_in}

abbrev pub start : Walk
start = stands idle 1 (held [] None)

-- the command with these rules
abbrev plain_with : App → List Rule → App
plain_with app rs = record app { top = record app.top { rules = app.top.rules ++ rs } }

with_rules_is : (app : App) (rows : List OptionRow) → with_rules app rows ≡ plain_with app (map rule_for rows)
with_rules_is app [] = ap (λ (rs : List Rule). record app { top = record app.top { rules = rs } }) (sym (append-nil app.top.rules))
with_rules_is app (r ∷ rows) =
    with_rules_is (plain_with app (rule_for r ∷ [])) rows
    ∙ ap (λ (rs : List Rule). record app { top = record app.top { rules = rs } })
    (append_assoc app.top.rules (rule_for r ∷ []) (map rule_for rows))

app_is : (c : CommandRow) → app_for c ≡ plain_with (plain_app c.name) (map rule_for c.options)
app_is c = with_rules_is (plain_app c.name) c.options

or_assoc : (a b c : Kinds) → or_else (or_else a b) c ≡ or_else a (or_else b c)
or_assoc [] b c = refl
or_assoc (k ∷ ks) b c = refl

abbrev held_after : List Rule → Walk → List Text → Held
held_after rules w words = (fold (walked rules []) w words).held

whole_is : (name : Text) (rules : List Rule) (k : Kinds) (words : List Text) (w : Walk)
    → or_else (walk_fault (shape name rules) [] w words)
    (or_else (settle_fault rules false (held_after rules w words)) k) ≡ or_else (whole name rules w words) k
unfolding walk_fault whole
whole_is name rules k [] w = refl
whole_is name rules k (word ∷ words) w =
    or_assoc (turn_fault (shape name rules) [] w word) (walk_fault (shape name rules) [] (walked rules [] w word) words)
    _
    ∙ ap (or_else (turn_fault (shape name rules) [] w word)) (whole_is name rules k words (walked rules [] w word))
    ∙ sym (or_assoc (turn_fault (shape name rules) [] w word) (whole name rules (walked rules [] w word) words) k)

final_is : (rules : List Rule) (words : List Text) (w : Walk)
    → settled rules (held_after rules w words) ≡ final rules w words
unfolding final
final_is rules [] w = refl
final_is rules (word ∷ words) w = final_is rules words (walked rules [] w word)

-- ---- nothing is required, and nothing has a default

same_cond : {A : Type 0} (b : Bool) (x : A) → cond b x x ≡ x
same_cond true x = refl
same_cond false x = refl

none_cond : (b : Bool) (k : Kinds) → cond (b || true) [] k ≡ []
none_cond true k = refl
none_cond false k = refl

plain_rule : (i : ℕ) (r : OptionRow) → ((built_rule i r).required ≡ false) × ((built_rule i r).defaults ≡ [])
plain_rule i r = go (is_free r.takes) (is_flag r.takes) refl refl
  where
    go : (a b : Bool) → is_free r.takes ≡ a → is_flag r.takes ≡ b
        → ((built_rule i r).required ≡ false) × ((built_rule i r).defaults ≡ [])
    go true b e f = rw e (refl, refl)
    go false true e f = rw (e, f) (refl, refl)
    go false false e f = rw (e, f) (refl, refl)

none_missing : (crows : List Row) (rows : List OptionRow) (i : ℕ)
    → list_any (λ (a : Rule). a.required && not (is_given a.id crows)) (rules_from i rows) ≡ false
none_missing crows [] i = refl
none_missing crows (r ∷ rows) i =
    ap (λ (b : Bool). (b && not (is_given (built_rule i r).id crows))
    || list_any (λ (a : Rule). a.required && not (is_given a.id crows)) (rules_from (index_after i (filled (rule_for r))) rows)) (plain_rule i r).0
    ∙ none_missing crows rows (index_after i (filled (rule_for r)))

default_none : (i : ℕ) (r : OptionRow) (crows : List Row) → with_default crows (built_rule i r) ≡ crows
default_none i r crows = go (is_free r.takes) (is_flag r.takes) refl refl
  where
    go : (a b : Bool) → is_free r.takes ≡ a → is_flag r.takes ≡ b → with_default crows (built_rule i r) ≡ crows
    go true b e f = rw e (same_cond (has_row r.name crows) crows)
    go false true e f = rw (e, f) (same_cond (has_row r.name crows) crows)
    go false false e f = rw (e, f) (same_cond (has_row r.name crows) crows)

fault_none : (i : ℕ) (r : OptionRow) (crows : List Row) → default_fault crows (built_rule i r) ≡ []
fault_none i r crows = go (is_free r.takes) (is_flag r.takes) refl refl
  where
    go : (a b : Bool) → is_free r.takes ≡ a → is_flag r.takes ≡ b → default_fault crows (built_rule i r) ≡ []
    go true b e f = rw e (none_cond (has_row r.name crows) _)
    go false true e f = rw (e, f) (none_cond (has_row r.name crows) _)
    go false false e f = rw (e, f) (none_cond (has_row r.name crows) _)

defaults_none : (rows : List OptionRow) (i : ℕ) (crows : List Row) → fold with_default crows (rules_from i rows) ≡ crows
defaults_none [] i crows = refl
defaults_none (r ∷ rows) i crows =
    ap (λ (rs : List Row). fold with_default rs (rules_from (index_after i (filled (rule_for r))) rows)) (default_none i r crows)
    ∙ defaults_none rows (index_after i (filled (rule_for r))) crows

faults_none : (rows : List OptionRow) (i : ℕ) (crows : List Row) → defaults_fault crows (rules_from i rows) ≡ []
unfolding defaults_fault
faults_none [] i crows = refl
faults_none (r ∷ rows) i crows =
    ap₂ (λ (k : Kinds) (rs : List Row). or_else k (defaults_fault rs (rules_from (index_after i (filled (rule_for r))) rows)))
    (fault_none i r crows) (default_none i r crows)
    ∙ faults_none rows (index_after i (filled (rule_for r))) crows

-- ---- the whole

abbrev top_app : CommandRow → App
top_app c = plain_with (plain_app c.name) (map rule_for c.options)

level_is : (name : Text) (rows : List OptionRow) (words : List Text) (b : Bool) (below : Kinds) → b ≡ false → below ≡ []
    → level_fault (shape name (rules_in rows)) [] nothing_held words b below ≡ whole name (rules_in rows) start words
level_is name rows words b below eb el =
    rw (eb, el) (whole_is name (rules_in rows) (or_else (defaults_fault ends.rows (rules_in rows))
    (check_fault (shape name (rules_in rows)) (finished (rules_in rows) (held_after (rules_in rows) start words)) false)) words start
    ∙ ap (λ (k : Kinds). or_else (whole name (rules_in rows) start words) k) rest
    ∙ or_nil (whole name (rules_in rows) start words))
  where
    ends : Held
    ends = settled (rules_in rows) (held_after (rules_in rows) start words)

    check : (crows : List Row) → check_fault (shape name (rules_in rows)) crows false ≡ []
    check crows = rw (none_missing crows rows 1) refl

    rest : or_else (defaults_fault (settled (rules_in rows) (held_after (rules_in rows) start words)).rows (rules_in rows))
        (check_fault (shape name (rules_in rows)) (finished (rules_in rows) (held_after (rules_in rows) start words)) false) ≡ []
    rest = ap₂ (λ (a b : Kinds). or_else a b)
        (faults_none rows 1 (settled (rules_in rows) (held_after (rules_in rows) start words)).rows)
        (check (finished (rules_in rows) (held_after (rules_in rows) start words)))

no_entry : (c : CommandRow) (s : Option (Text × List Text)) → is_some (entered (built (top_app c)) s) ≡ false
no_entry c None = refl
no_entry c (Some p) = refl

no_entry_fault : (c : CommandRow) (s : Option (Text × List Text)) → entered_fault (built (top_app c)) s ≡ []
no_entry_fault c None = refl
no_entry_fault c (Some p) = refl

pub faults_are : (c : CommandRow) (words : List Text) → fault_of (app_for c) words ≡ whole c.name (rules_in c.options) start words
faults_are c words =
    ap (λ (a : App). fault_of a words) (app_is c)
    ∙ level_is c.name c.options words _ _ (no_entry c _) (no_entry_fault c _)

pub rows_are : (c : CommandRow) (words : List Text) → matches_of (app_for c) words ≡ (final (rules_in c.options) start words).rows
rows_are c words =
    ap (λ (a : App). matches_of a words) (app_is c)
    ∙ defaults_none c.options 1 (settled (rules_in c.options) (held_after (rules_in c.options) start words)).rows
    ∙ ap (λ (h : Held). h.rows) (final_is (rules_in c.options) words start)
