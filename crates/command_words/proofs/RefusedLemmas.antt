-- No command takes a word that is refused before `clap` is asked.
use Rattle.std.proofs.Common.{◌≡◌, ◌∙◌, ◌||◌, ◌+◌, ℕ, suc, Bool, true, false, not, List, [], ◌∷◌, Option, Some, None, Result, Ok, Err, refl, sym, ap, subst, is_ok, is_some, codes, bytes_eq, take, arith}
use Rattle.std.specs.List.{before_first, list_any, position_or_len}
use Rattle.std.proofs.lemmas.Slice.Eq.{bytes_eq-Decides}
use Rattle.nt_bytes.specs.Text.{is_equals}
use Rattle.command_words.specs.Words.{Text, Reason, begins_with_hyphen, is_empty_text, is_hyphen}
use Rattle.command_words.specs.Table.{Known, OptionRow, free_known, is_flag, is_free, option_known}
use Rattle.command_words.specs.Walk.{State, Values, and_then, attached_in, long_name, name_in, value_at, walked, with_free, with_known, with_next, with_step}
use Rattle.command_words.specs.Clap.{has_two_hyphens, is_empty_value, is_named, is_refused}
use Rattle.command_words.proofs.ToldLemmas.{and_left}
use Rattle.command_words.proofs.RowLemmas.{never}
use Rattle.command_words.proofs.NamedLemmas.{hyphen_is, name_is}
use Rattle.command_words.proofs.RelLemmas.{Told}
use Rattle.command_words.proofs.StepLemmas.{all_known, lettered}

-- no option's name has one hyphen, or two alone
no_option : (rows : List OptionRow) → Told rows → (n : Text) → begins_with_hyphen n ≡ true → has_two_hyphens n ≡ false
    → option_known n rows ≡ None
no_option rows told n first two = go (option_known n rows) refl
  where
    kind : (k : Known) → k.row.name ≡ n → (b : Bool) → is_free k.row.takes ≡ b → is_named k.row ≡ true → option_known n rows ≡ None
    kind k name true e named =
        let no : not (begins_with_hyphen k.row.name) ≡ true = rw e at named in
        never (sym (rw (ap begins_with_hyphen name ∙ first) at no))
    kind k name false e named =
        let yes : has_two_hyphens k.row.name ≡ true = and_left (has_two_hyphens k.row.name) _ (rw e at named) in
        never (sym yes ∙ ap has_two_hyphens name ∙ two)

    go : (o : Option Known) → option_known n rows ≡ o → option_known n rows ≡ None
    go None is = is
    go (Some k) is =
        kind k (name_is n rows k is) (is_free k.row.takes) refl (all_known is_named rows told.named 0 (λ r. bytes_eq r.name n) k is)

-- ---- what stands before and after the first `=`

name_short : (x : Text) → before_first is_equals (45 ∷ x) ≡ 45 ∷ before_first is_equals x
name_short x = ap (λ (m : ℕ). take m (45 ∷ x)) (next (position_or_len is_equals x))
  where
    next : (n : ℕ) → 1 + n ≡ suc n
    next n = omega arith

before_next : (c : ℕ) (x : Text) → is_equals c ≡ false → before_first is_equals (c ∷ x) ≡ c ∷ before_first is_equals x
before_next c x e = rw e (ap (λ (m : ℕ). take m (c ∷ x)) (next (position_or_len is_equals x)))
  where
    next : (n : ℕ) → 1 + n ≡ suc n
    next n = omega arith

one_hyphen : (b : ℕ) (x : Text) → is_hyphen b ≡ false → has_two_hyphens (45 ∷ before_first is_equals (b ∷ x)) ≡ false
one_hyphen b x e = go (is_equals b) refl
  where
    go : (t : Bool) → is_equals b ≡ t → has_two_hyphens (45 ∷ before_first is_equals (b ∷ x)) ≡ false
    go true f = rw f refl
    go false f = ap (λ (y : Text). has_two_hyphens (45 ∷ y)) (before_next b x f) ∙ rw e refl

whole_before : (x : Text) → attached_in x ≡ None → before_first is_equals x ≡ x
whole_before [] none = refl
whole_before (c ∷ x) none = go (is_equals c) refl (whole_before x)
  where
    go : (t : Bool) → is_equals c ≡ t → (attached_in x ≡ None → before_first is_equals x ≡ x) → before_first is_equals (c ∷ x) ≡ c ∷ x
    go true f rest = let bad : Some x ≡ None = rw f at none in absurd cc
    go false f rest = before_next c x f ∙ ap (λ (y : Text). c ∷ y) (rest (rw f at none))

empty_value : (o : Option Text) → is_empty_value o ≡ true → o ≡ Some []
empty_value None e = never (sym e)
empty_value (Some []) e = refl
empty_value (Some (c ∷ x)) e = never (sym e)

-- ---- one word

known_empty : (vs : Values) (w : Text) (o : Option Known) → is_ok (with_known vs w (Some []) o) ≡ false
known_empty vs w None = refl
known_empty vs w (Some k) = go (is_flag k.row.takes) (is_some (value_at k.place vs)) refl refl
  where
    go : (a b : Bool) → is_flag k.row.takes ≡ a → is_some (value_at k.place vs) ≡ b → is_ok (with_known vs w (Some []) (Some k)) ≡ false
    go true b e f = rw e refl
    go false true e f = rw (e, f) refl
    go false false e f = rw (e, f) refl

known_flag : (vs : Values) (w t : Text) (k : Known) → is_flag k.row.takes ≡ true → is_ok (with_known vs w (Some t) (Some k)) ≡ false
known_flag vs w t k e = rw e refl

-- a word that names no option
unnamed : (rows : List OptionRow) → Told rows → (vs : Values) (w : Text) (v : Option Text) (n : Text) → begins_with_hyphen n ≡ true
    → has_two_hyphens n ≡ false → is_ok (with_known vs w v (option_known n rows)) ≡ false
unnamed rows told vs w v n first two = rw (no_option rows told n first two) refl

-- a word with one hyphen that is not `-v`
short_wrong : (rows : List OptionRow) → Told rows → (vs : Values) (b : ℕ) (x : Text) → is_hyphen b ≡ false
    → bytes_eq (45 ∷ b ∷ x) (codes "-v") ≡ false → is_ok (with_next rows vs (45 ∷ b ∷ x)) ≡ false
short_wrong rows told vs b x one other = go (bytes_eq (45 ∷ before_first is_equals (b ∷ x)) (codes "-v")) refl
  where
    verbose : bytes_eq (45 ∷ before_first is_equals (b ∷ x)) (codes "-v") ≡ true → (v : Option Text) → attached_in (b ∷ x) ≡ v
        → is_ok (with_known vs (45 ∷ b ∷ x) v (option_known (codes "--verbose") rows)) ≡ false
    verbose is None none =
        let same : (45 ∷ b ∷ x) ≡ codes "-v" =
        sym (ap (λ (y : Text). 45 ∷ y) (whole_before (b ∷ x) none))
        ∙ (bytes_eq-Decides (45 ∷ before_first is_equals (b ∷ x)) (codes "-v")).0 is in
        never (sym ((bytes_eq-Decides (45 ∷ b ∷ x) (codes "-v")).1 same) ∙ other)
    verbose is (Some t) some =
        let l = lettered rows told in
        ap (λ (o : Option Known). is_ok (with_known vs (45 ∷ b ∷ x) (Some t) o)) l.1.is
        ∙ known_flag vs (45 ∷ b ∷ x) t l.0 l.1.flag

    go : (t : Bool) → bytes_eq (45 ∷ before_first is_equals (b ∷ x)) (codes "-v") ≡ t
        → is_ok (with_known vs (45 ∷ b ∷ x) (attached_in (b ∷ x)) (option_known (name_in (45 ∷ b ∷ x)) rows)) ≡ false
    go true is =
        let name : name_in (45 ∷ b ∷ x) ≡ codes "--verbose" = ap long_name (name_short (b ∷ x)) ∙ rw is refl in
        ap (λ (n : Text). is_ok (with_known vs (45 ∷ b ∷ x) (attached_in (b ∷ x)) (option_known n rows))) name
        ∙ verbose is (attached_in (b ∷ x)) refl
    go false is =
        let name : name_in (45 ∷ b ∷ x) ≡ 45 ∷ before_first is_equals (b ∷ x) = ap long_name (name_short (b ∷ x)) ∙ rw is refl in
        ap (λ (n : Text). is_ok (with_known vs (45 ∷ b ∷ x) (attached_in (b ∷ x)) (option_known n rows))) name
        ∙ unnamed rows told vs (45 ∷ b ∷ x) (attached_in (b ∷ x)) (45 ∷ before_first is_equals (b ∷ x)) refl (one_hyphen b x one)

-- a word that begins with a hyphen
hyphen_wrong : (rows : List OptionRow) → Told rows → (vs : Values) (x : Text) → is_refused (45 ∷ x) ≡ true
    → is_ok (with_next rows vs (45 ∷ x)) ≡ false
hyphen_wrong rows told vs [] refused = unnamed rows told vs (45 ∷ []) None (45 ∷ []) refl refl
hyphen_wrong rows told vs (b ∷ x) refused = go (is_empty_value (attached_in (b ∷ x))) (is_hyphen b) refl refl
  where
    two : (y : Text) → is_empty_text y ≡ true → is_ok (with_next rows vs (45 ∷ 45 ∷ y)) ≡ false
    two [] e = unnamed rows told vs (45 ∷ 45 ∷ []) None (45 ∷ 45 ∷ []) refl refl
    two (c ∷ y) e = never (sym e)

    one : (t : Bool) → bytes_eq (45 ∷ b ∷ x) (codes "-v") ≡ t → is_hyphen b ≡ false → is_empty_value (attached_in (b ∷ x)) ≡ false
        → is_ok (with_next rows vs (45 ∷ b ∷ x)) ≡ false
    one true s f e = never (sym (rw (s, f, e) at refused))
    one false s f e = short_wrong rows told vs b x f s

    go : (e h : Bool) → is_empty_value (attached_in (b ∷ x)) ≡ e → is_hyphen b ≡ h → is_ok (with_next rows vs (45 ∷ b ∷ x)) ≡ false
    go true h e f =
        ap (λ (v : Option Text). is_ok (with_known vs (45 ∷ b ∷ x) v (option_known (name_in (45 ∷ b ∷ x)) rows)))
        (empty_value (attached_in (b ∷ x)) e)
        ∙ known_empty vs (45 ∷ b ∷ x) (option_known (name_in (45 ∷ b ∷ x)) rows)
    go false true e f =
        subst (λ (c : ℕ). is_ok (with_next rows vs (45 ∷ c ∷ x)) ≡ false) (sym (hyphen_is b f))
        (two x (bare (is_empty_text x) refl e f))
      where
        bare : (t : Bool) → is_empty_text x ≡ t → is_empty_value (attached_in (b ∷ x)) ≡ false → is_hyphen b ≡ true → is_empty_text x ≡ true
        bare true s e f = s
        bare false s e f = never (sym (rw (s, f, e) at refused))
    go false false e f = one (bytes_eq (45 ∷ b ∷ x) (codes "-v")) refl f e

-- a refused word is empty, or begins with a hyphen
refused_looks : (w : Text) → is_refused w ≡ true → (is_empty_text w || begins_with_hyphen w) ≡ true
refused_looks [] refused = refl
refused_looks (a ∷ []) refused = go (is_hyphen a) refl
  where
    go : (t : Bool) → is_hyphen a ≡ t → is_hyphen a ≡ true
    go true e = e
    go false e = never (sym (rw e at refused))
refused_looks (a ∷ b ∷ x) refused = go (is_hyphen a) refl
  where
    go : (t : Bool) → is_hyphen a ≡ t → is_hyphen a ≡ true
    go true e = e
    go false e = never (sym (rw e at refused))

next_wrong : (rows : List OptionRow) → Told rows → (vs : Values) (w : Text) → is_refused w ≡ true → is_ok (with_next rows vs w) ≡ false
next_wrong rows told vs [] refused = go (free_known rows)
  where
    go : (o : Option Known) → is_ok (with_free vs [] o) ≡ false
    go None = refl
    go (Some k) = refl
next_wrong rows told vs (a ∷ x) refused =
    let same : a ≡ 45 = hyphen_is a (refused_looks (a ∷ x) refused) in
    subst (λ (c : ℕ). is_ok (with_next rows vs (c ∷ x)) ≡ false) (sym same)
    (hyphen_wrong rows told vs x (subst (λ (c : ℕ). is_refused (c ∷ x) ≡ true) same refused))

step_wrong : (rows : List OptionRow) → Told rows → (vs : Values) (w : Text) (waiting : Option Known) → is_refused w ≡ true
    → is_ok (with_step rows vs w waiting) ≡ false
step_wrong rows told vs w None refused = next_wrong rows told vs w refused
step_wrong rows told vs w (Some k) refused = rw (refused_looks w refused) refl

-- ---- all words

pub refused_wrong : (rows : List OptionRow) → Told rows → (words : List Text) → list_any is_refused words ≡ true → (s : State)
    → is_ok (walked rows s words) ≡ false
refused_wrong rows told [] any s = never (sym any)
refused_wrong rows told (w ∷ words) any s = go (is_refused w) refl (refused_wrong rows told words)
  where
    ended : (r : Result State Reason) → is_ok r ≡ false → is_ok (and_then r (λ next. walked rows next words)) ≡ false
    ended (Ok next) e = never e
    ended (Err r) e = refl

    later : (r : Result State Reason) → ((next : State) → is_ok (walked rows next words) ≡ false)
        → is_ok (and_then r (λ next. walked rows next words)) ≡ false
    later (Ok next) rest = rest next
    later (Err r) rest = refl

    go : (t : Bool) → is_refused w ≡ t → (list_any is_refused words ≡ true → (next : State) → is_ok (walked rows next words) ≡ false)
        → is_ok (walked rows s (w ∷ words)) ≡ false
    go true e rest = ended (with_step rows s.values w s.waiting) (step_wrong rows told s.values w s.waiting e)
    go false e rest = later (with_step rows s.values w s.waiting) (rest (rw e at any))
