-- The rows that `clap` keeps, and one use of an argument.
use Rattle.std.proofs.Common.{◌≡◌, ◌∙◌, ◌||◌, ℕ, Bool, true, false, cond, List, [], ◌∷◌, Some, None, refl, sym, ap, true≢false}
use Rattle.std.specs.Prelude.{bytes_eq}
use Rattle.std.proofs.lemmas.Slice.Eq.{bytes_eq-Decides}
use Rattle.clap.specs.Words.{Kinds, Row, Rule, first_of}
use Rattle.clap.specs.Walk.{has_row, most_values, reading_by, takes_values, used, with_values, without}
use Rattle.clap.specs.Simple.{filled, with_index}
use Rattle.clap.specs.Faults.{repeat_fault, use_fault}
use Rattle.clap.specs.Kinds.{or_else}
use Rattle.clap.specs.declared.builder.value_parser.Reading.{Reading}
use Rattle.clap.specs.declared.parser.matches.ValueSource.TheVariants.{CommandLine}
use Rattle.command_words.specs.declared.table.Takes.{Takes}
use Rattle.command_words.specs.declared.table.Takes.TheVariants as takes
use Rattle.command_words.specs.Words.{Text}
use Rattle.command_words.specs.Table.{OptionRow, is_flag, is_free}
use Rattle.command_words.specs.Walk.{flag_value}
use Rattle.command_words.specs.Clap.{flag_rule, free_rule, option_rule, rule_for}

pub never : {A : Type 0} → true ≡ false → A
never e = absurd (true≢false e)

pub or_left : (a b : Bool) → (a || b) ≡ false → a ≡ false
or_left true b e = e
or_left false b e = refl

pub or_right : (a b : Bool) → (a || b) ≡ false → b ≡ false
or_right true b e = never e
or_right false b e = e

abbrev pub is_none : Kinds → Bool
is_none [] = true
is_none (k ∷ ks) = false

pub or_nil : (a : Kinds) → or_else a [] ≡ a
or_nil [] = refl
or_nil (k ∷ ks) = refl

-- the rules as they are built
abbrev pub free_built : ℕ → Text → Rule
free_built i n = with_index i (filled (free_rule n))

abbrev pub option_built : ℕ → Text → Rule
option_built i n = with_index i (filled (option_rule n))

abbrev pub flag_built : ℕ → Text → Rule
flag_built i n = with_index i (filled (flag_rule n))

abbrev pub built_rule : ℕ → OptionRow → Rule
built_rule i row = with_index i (filled (rule_for row))

abbrev pub how : Reading
how = reading_by (free_built 1 [])

-- with one more row
abbrev pub added : Text → Text → List Row → List Row
added n v rows = with_values n how CommandLine (v ∷ []) (without n rows)

pub without_fresh : (n : Text) (rows : List Row) → has_row n rows ≡ false → without n rows ≡ rows
without_fresh n [] fresh = refl
without_fresh n (r ∷ rows) fresh =
    rw (or_left (bytes_eq r.id n) _ fresh)
    (ap (λ (rs : List Row). r ∷ rs) (without_fresh n rows (or_right (bytes_eq r.id n) _ fresh)))

has_more : (n m v : Text) (rows : List Row) → has_row n rows ≡ false
    → has_row m (with_values n how CommandLine (v ∷ []) rows) ≡ cond (bytes_eq n m) true (has_row m rows)
has_more n m v [] fresh = go (bytes_eq n m)
  where
    go : (b : Bool) → (b || false) ≡ cond b true false
    go true = refl
    go false = refl
has_more n m v (r ∷ rows) fresh =
    rw (or_left (bytes_eq r.id n) _ fresh)
    (ap (λ (b : Bool). bytes_eq r.id m || b) (has_more n m v rows (or_right (bytes_eq r.id n) _ fresh))
    ∙ go (bytes_eq r.id m) (bytes_eq n m) (has_row m rows))
  where
    go : (a b c : Bool) → (a || cond b true c) ≡ cond b true (a || c)
    go true true c = refl
    go true false c = refl
    go false true c = refl
    go false false c = refl

pub has_added : (n m v : Text) (rows : List Row) → has_row n rows ≡ false
    → has_row m (added n v rows) ≡ cond (bytes_eq n m) true (has_row m rows)
has_added n m v rows fresh =
    ap (λ (rs : List Row). has_row m (with_values n how CommandLine (v ∷ []) rs)) (without_fresh n rows fresh)
    ∙ has_more n m v rows fresh

first_more : (n m v : Text) (rows : List Row) → has_row n rows ≡ false
    → first_of m (with_values n how CommandLine (v ∷ []) rows) ≡ cond (bytes_eq n m) (Some v) (first_of m rows)
first_more n m v [] fresh = go (bytes_eq n m) refl
  where
    go : (b : Bool) → bytes_eq n m ≡ b
        → first_of m (with_values n how CommandLine (v ∷ []) []) ≡ cond b (Some v) None
    go true e = rw e refl
    go false e = rw e refl
first_more n m v (r ∷ rows) fresh = go (bytes_eq r.id m) (bytes_eq n m) refl refl
    (or_left (bytes_eq r.id n) _ fresh) (first_more n m v rows (or_right (bytes_eq r.id n) _ fresh))
  where
    go : (a b : Bool) → bytes_eq r.id m ≡ a → bytes_eq n m ≡ b → bytes_eq r.id n ≡ false
        → first_of m (with_values n how CommandLine (v ∷ []) rows) ≡ cond (bytes_eq n m) (Some v) (first_of m rows)
        → first_of m (with_values n how CommandLine (v ∷ []) (r ∷ rows)) ≡ cond b (Some v) (first_of m (r ∷ rows))
    go true true e f other ih =
        let same : r.id ≡ n = (bytes_eq-Decides r.id m).0 e ∙ sym ((bytes_eq-Decides n m).0 f) in
        never (sym ((bytes_eq-Decides r.id n).1 same) ∙ other)
    go true false e f other ih = rw (other, e) refl
    go false true e f other ih = rw (other, e) (rw f at ih)
    go false false e f other ih = rw (other, e) (rw f at ih)

pub first_added : (n m v : Text) (rows : List Row) → has_row n rows ≡ false
    → first_of m (added n v rows) ≡ cond (bytes_eq n m) (Some v) (first_of m rows)
first_added n m v rows fresh =
    ap (λ (rs : List Row). first_of m (with_values n how CommandLine (v ∷ []) rs)) (without_fresh n rows fresh)
    ∙ first_more n m v rows fresh

-- the argument takes one value, at most once
pub record IsSingle (a : Rule) (n : Text) : Type 0 where
  pub id : a.id ≡ n
  pub takes : takes_values a ≡ true
  pub most : most_values a ≡ 1
  pub one_value : (v : Text) (rows : List Row) → use_fault false a (v ∷ []) rows ≡ repeat_fault false n rows
  pub no_value : (rows : List Row) → is_none (use_fault false a [] rows) ≡ false
  pub uses : (v : Text) (rows : List Row) → used a (v ∷ []) rows ≡ added n v rows

-- the argument takes no value, and is given at most once
pub record IsFlag (a : Rule) (n : Text) : Type 0 where
  pub id : a.id ≡ n
  pub takes : takes_values a ≡ false
  pub alone : (rows : List Row) → use_fault false a [] rows ≡ repeat_fault false n rows
  pub uses : (rows : List Row) → used a [] rows ≡ added n flag_value rows

pub free_single : (i : ℕ) (n : Text) → IsSingle (free_built i n) n
free_single i n = record {
  id = refl;
  takes = refl;
  most = refl;
  one_value = λ v rows. or_nil (repeat_fault false n rows);
  no_value = λ rows. refl;
  uses = λ v rows. refl;
}

pub option_single : (i : ℕ) (n : Text) → IsSingle (option_built i n) n
option_single i n = record {
  id = refl;
  takes = refl;
  most = refl;
  one_value = λ v rows. or_nil (repeat_fault false n rows);
  no_value = λ rows. refl;
  uses = λ v rows. refl;
}

pub flag_alone : (i : ℕ) (n : Text) → IsFlag (flag_built i n) n
flag_alone i n = record {
  id = refl;
  takes = refl;
  alone = λ rows. or_nil (repeat_fault false n rows);
  uses = λ rows. refl;
}

pub free_no_flag : (t : Takes) → is_free t ≡ true → is_flag t ≡ false
free_no_flag takes.Flag e = never (sym e)
free_no_flag takes.Any e = refl
free_no_flag takes.Count e = refl
free_no_flag takes.Name e = refl
free_no_flag takes.System e = refl
free_no_flag takes.Scheme e = refl
free_no_flag takes.SetNumber e = refl
free_no_flag takes.Depth e = refl
free_no_flag takes.Mode e = refl
free_no_flag takes.Encoding e = refl
free_no_flag takes.Set e = refl
free_no_flag takes.Hex e = refl
free_no_flag takes.Number e = refl
free_no_flag takes.Kind e = refl
free_no_flag takes.Time e = refl
free_no_flag takes.Sort e = refl

-- the rule is the one of the option
pub record IsRuleOf (a : Rule) (row : OptionRow) : Type 0 where
  pub id : a.id ≡ row.name
  pub single : is_flag row.takes ≡ false → IsSingle a row.name
  pub flag : is_flag row.takes ≡ true → IsFlag a row.name

pub rule_is : (i : ℕ) (row : OptionRow) → IsRuleOf (built_rule i row) row
rule_is i row = go (is_free row.takes) (is_flag row.takes) refl refl
  where
    go : (a b : Bool) → is_free row.takes ≡ a → is_flag row.takes ≡ b → IsRuleOf (built_rule i row) row
    go true b e f = rw e (record {
      id = refl;
      single = λ s. free_single i row.name;
      flag = λ s. never (sym s ∙ free_no_flag row.takes e);
    })
    go false true e f = rw (e, f) (record {
      id = refl;
      single = λ s. never (sym f ∙ s);
      flag = λ s. flag_alone i row.name;
    })
    go false false e f = rw (e, f) (record {
      id = refl;
      single = λ s. option_single i row.name;
      flag = λ s. never (sym s ∙ f);
    })
