-- `clap` has a fault exactly where our walk has a reason, and else the values that we read.
use Rattle.std.proofs.Common.{◌≡◌, ◌∙◌, ℕ, Bool, true, false, List, [], ◌∷◌, Option, Some, None, Result, Ok, Err, refl, sym, ap, subst, codes, bytes_eq}
use Rattle.clap.specs.Words.{Row, Rule}
use Rattle.clap.specs.Lexer.{long_of}
use Rattle.clap.specs.Walk.{Held, Waiting, Walk, arg_by_id, arg_by_long, arg_by_short}
use Rattle.clap.specs.Faults.{settle_fault, turn_fault}
use Rattle.command_words.specs.Words.{Text, Reason}
use Rattle.command_words.specs.Table.{Known, OptionRow, is_flag, is_free, option_known}
use Rattle.command_words.specs.Walk.{Values, flag_value, walked}
use Rattle.command_words.specs.Clap.{is_named}
use Rattle.command_words.proofs.RowLemmas.{IsFlag, IsRuleOf, IsSingle, built_rule, is_none, never, rule_is}
use Rattle.command_words.proofs.WalkLemmas.{final, final_next, or_blocked, pending, shape, stands, turn_alone, turn_attached, turn_flag, turn_flag_value, turn_unknown, whole, whole_next}
use Rattle.command_words.proofs.NamedLemmas.{by_id, by_long, find_none, find_some, index_at, name_is, passes_it, rules_from}
use Rattle.command_words.proofs.RelLemmas.{Rel, Told}

abbrev pub rules_in : List OptionRow → List Rule
rules_in rows = rules_from 1 rows

abbrev pub held : List Row → Option (Text × List Text) → Held
held crows pend = record { rows = crows; pending = pend; skip = 0 }

abbrev pub Agrees : Text → List OptionRow → Walk → List Text → Result Values Reason → Type 0
Agrees name rows w words (Ok vs) =
    (whole name (rules_in rows) w words ≡ []) × Rel rows vs (final (rules_in rows) w words).rows
Agrees name rows w words (Err e) = is_none (whole name (rules_in rows) w words) ≡ false

pub follow : (name : Text) (rows : List OptionRow) (w next : Walk) (word : Text) (words : List Text) (r : Result Values Reason)
    → turn_fault (shape name (rules_in rows)) [] w word ≡ [] → Rattle.clap.specs.Walk.walked (rules_in rows) [] w word ≡ next
    → Agrees name rows next words r → Agrees name rows w (word ∷ words) r
follow name rows w next word words (Ok vs) t e a = (
  whole_next name (rules_in rows) w next word words t e ∙ a.0,
  subst (λ (h : Held). Rel rows vs h.rows) (sym (final_next (rules_in rows) w next word words e)) a.1,
)
follow name rows w next word words (Err r) t e a =
    ap is_none (whole_next name (rules_in rows) w next word words t e) ∙ a

-- ---- an option that is found

pub record Met (rows : List OptionRow) (k : Known) : Type 0 where
  pub rule : Rule
  pub by_id : arg_by_id (rules_in rows) k.row.name ≡ Some rule
  pub of : IsRuleOf rule k.row
  pub known : option_known k.row.name rows ≡ Some k

pub met_by : (rows : List OptionRow) → Told rows → (n : Text) (k : Known) → option_known n rows ≡ Some k
    → (m : Met rows k) × (m.rule ≡ built_rule (index_at 1 (λ r. bytes_eq r.name n) rows) k.row)
met_by rows told n k is =
    let j = index_at 1 (λ r. bytes_eq r.name n) rows in
    let name : k.row.name ≡ n = name_is n rows k is in (
      record {
        rule = built_rule j k.row;
        by_id = subst (λ (t : Text). arg_by_id (rules_in rows) t ≡ Some (built_rule j k.row)) (sym name)
            (find_some (λ a. bytes_eq a.id n) (λ r. bytes_eq r.name n) (by_id n) rows told.named 1 0 k is);
        of = rule_is j k.row;
        known = subst (λ (t : Text). option_known t rows ≡ Some k) (sym name) is;
      },
      refl,
    )

pub record MetLong (rows : List OptionRow) (x : Text) (k : Known) : Type 0 where
  pub met : Met rows k
  pub long : arg_by_long (rules_in rows) x ≡ Some met.rule

pub met_long : (rows : List OptionRow) → Told rows → (x : Text) (k : Known) → option_known (45 ∷ 45 ∷ x) rows ≡ Some k
    → MetLong rows x k
met_long rows told x k is =
    let m = met_by rows told (45 ∷ 45 ∷ x) k is in
    record {
      met = m.0;
      long = find_some _ (λ r. bytes_eq r.name (45 ∷ 45 ∷ x)) (by_long x) rows told.named 1 0 k is
          ∙ ap (λ (a : Rule). Some a) (sym m.1);
    }

pub unmet_long : (rows : List OptionRow) → Told rows → (x : Text) → option_known (45 ∷ 45 ∷ x) rows ≡ None
    → arg_by_long (rules_in rows) x ≡ None
unmet_long rows told x is =
    find_none _ (λ r. bytes_eq r.name (45 ∷ 45 ∷ x)) (by_long x) rows told.named 1 0 is

-- ---- where what is pending is a fault

abbrev pub Dead : List OptionRow → List Row → Option (Text × List Text) → Type 0
Dead rows crows pend = is_none (settle_fault (rules_in rows) false (held crows pend)) ≡ false

pub long_dead : (name : Text) (rows : List OptionRow) → Told rows → (waiting : Waiting) (p : ℕ) (crows : List Row)
    (pend : Option (Text × List Text)) (w n : Text) (v : Option Text)
    → bytes_eq w (45 ∷ 45 ∷ []) ≡ false → long_of w ≡ Some (n, v) → Dead rows crows pend
    → is_none (turn_fault (shape name (rules_in rows)) [] (stands waiting p (held crows pend)) w) ≡ false
long_dead name rows told waiting p crows pend w n v ne long dead = go (option_known (45 ∷ 45 ∷ n) rows) refl
  where
    rules : List Rule
    rules = rules_in rows

    single : (k : Known) (m : MetLong rows n k) → IsSingle m.met.rule k.row.name → (v : Option Text) → long_of w ≡ Some (n, v)
        → is_none (turn_fault (shape name (rules_in rows)) [] (stands waiting p (held crows pend)) w) ≡ false
    single k m s None long =
        ap is_none (turn_alone name (rules_in rows) waiting p (held crows pend) w n m.met.rule ne long m.long s.takes) ∙ dead
    single k m s (Some t) long =
        ap is_none (turn_attached name (rules_in rows) waiting p (held crows pend) w n t m.met.rule ne long m.long s.takes)
        ∙ or_blocked (settle_fault (rules_in rows) false (held crows pend)) _ dead

    flagged : (k : Known) (m : MetLong rows n k) → IsFlag m.met.rule k.row.name → (v : Option Text) → long_of w ≡ Some (n, v)
        → is_none (turn_fault (shape name (rules_in rows)) [] (stands waiting p (held crows pend)) w) ≡ false
    flagged k m s None long =
        ap is_none (turn_flag name (rules_in rows) waiting p (held crows pend) w n m.met.rule ne long m.long s.takes)
        ∙ or_blocked (settle_fault (rules_in rows) false (held crows pend)) _ dead
    flagged k m s (Some t) long =
        turn_flag_value name (rules_in rows) waiting p (held crows pend) w n t m.met.rule ne long m.long s.takes

    kinds : (k : Known) (m : MetLong rows n k) (b : Bool) → is_flag k.row.takes ≡ b
        → is_none (turn_fault (shape name (rules_in rows)) [] (stands waiting p (held crows pend)) w) ≡ false
    kinds k m true f = flagged k m (m.met.of.flag f) v long
    kinds k m false f = single k m (m.met.of.single f) v long

    go : (o : Option Known) → option_known (45 ∷ 45 ∷ n) rows ≡ o
        → is_none (turn_fault (shape name (rules_in rows)) [] (stands waiting p (held crows pend)) w) ≡ false
    go None is = turn_unknown name (rules_in rows) waiting p (held crows pend) w n v ne long (unmet_long rows told n is)
    go (Some k) is = kinds k (met_long rows told n k is) (is_flag k.row.takes) refl

-- the flag of the letter
pub record Lettered (rows : List OptionRow) (k : Known) : Type 0 where
  pub is : option_known (codes "--verbose") rows ≡ Some k
  pub met : Met rows k
  pub short : arg_by_short (rules_in rows) 118 ≡ Some met.rule
  pub flag : is_flag k.row.takes ≡ true

pub flag_by : (rows : List OptionRow) → Told rows → (k : Known) → option_known (codes "--verbose") rows ≡ Some k
    → is_named k.row ≡ true → is_free k.row.takes ≡ false → is_flag k.row.takes ≡ true
flag_by rows told k is named unfree = go (is_flag k.row.takes) refl
  where
    go : (b : Bool) → is_flag k.row.takes ≡ b → is_flag k.row.takes ≡ true
    go true f = f
    go false f =
        let no = Rattle.command_words.proofs.ToldLemmas.and_right (Rattle.command_words.specs.Clap.has_two_hyphens k.row.name) _ (rw (unfree, f) at named) in
        let yes : bytes_eq k.row.name (codes "--verbose") ≡ true = passes_it 0 (λ r. bytes_eq r.name (codes "--verbose")) rows k is in
        never (sym (rw yes at no))
