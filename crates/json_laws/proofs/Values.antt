-- The text of a value gives the value, and where it ends.
use Rattle.std.proofs.Common.{◌≡◌, ℕ, zero, suc, ◌/◌, ◌%◌, ◌<◌, ◌==◌, Bool, true, false, ◌&&◌, eqb, cond, List, [], ◌∷◌, ◌++◌, length, refl, sym, ap, ◌∙◌, append_assoc, arith}
use Rattle.std.specs.Prelude.{nat_le, codes}
use Rattle.std.specs.List.{AllByRecursion, list_all, join_by}
use Rattle.std.specs.Fmt.{decimal, digits, digits_onto, digit_glyph}
use Rattle.std.proofs.lemmas.Bool.{false≢true, and_from, and_parts}
use Rattle.std.proofs.lemmas.Bool.Decides.{nat_tests}
use Rattle.std.proofs.lemmas.Fmt.{decimal_injective, decimal_nonempty}
use Rattle.report_text.specs.line_text.Objects.{Value, Number, Text, Numbers, Texts, Flag, Null, value_text}
use Rattle.report_text.specs.line_text.Quoted.{quoted}
use Rattle.report_text.proofs.QuoteLemmas.{parted}
use Rattle.json_laws.specs.Objects.{IsNumber, AreUnits, IsValue, told_value}
use Rattle.json_laws.proofs.Parts.{first_byte, rest_of, cancel, stops, parted_where, apart}
use Rattle.json_laws.proofs.Lists.{parted_list}

-- ---- digits

abbrev pub is_digit : ℕ → Bool
is_digit c = nat_le 48 c && nat_le c 57

-- a digit is no part of what comes after
abbrev pub ends : List ℕ → Bool
ends text = stops is_digit text

glyph : (d : ℕ) → d < 10 → is_digit (digit_glyph false d) ≡ true
glyph d lt = grind (arith, nat_tests)

by_end : (b : Bool) (x y : List ℕ) → list_all is_digit x ≡ true → list_all is_digit y ≡ true
    → list_all is_digit (cond b x y) ≡ true
by_end true x y e f = e
by_end false x y e f = f

digits-digits_onto : (k n : ℕ) (acc : List ℕ) → list_all is_digit acc ≡ true
    → list_all is_digit (digits_onto k 10 false n acc) ≡ true
digits-digits_onto zero n acc e = e
digits-digits_onto (suc k) n acc e =
    let further = and_from _ _ (glyph (n % 10) (omega arith)) e in
    by_end (eqb (n / 10) 0) (digit_glyph false (n % 10) ∷ acc)
    (digits_onto k 10 false (n / 10) (digit_glyph false (n % 10) ∷ acc)) further
    (digits-digits_onto k (n / 10) (digit_glyph false (n % 10) ∷ acc) further)

pub all_digits : (n : ℕ) → list_all is_digit (decimal n) ≡ true
unfolding digits
all_digits n = digits-digits_onto 64 n [] refl

pub parted_number : (n m : ℕ) (after more : List ℕ) → IsNumber n → IsNumber m → ends after ≡ true → ends more ≡ true
    → decimal n ++ after ≡ decimal m ++ more → (n ≡ m) × (after ≡ more)
parted_number n m after more is_n is_m stop_n stop_m e =
    let both = parted_where is_digit (decimal n) (decimal m) after more (all_digits n) (all_digits m) stop_n stop_m e in
    (decimal_injective n m is_n is_m both.0, both.1)

-- ---- what a value begins with

-- the place of a kind of value among them, by its first byte
abbrev kind_at : ℕ → ℕ
kind_at c = cond (is_digit c) 0 (cond (c == 34) 1 (cond (c == 91) 2 (cond (c == 110) 4 3)))

abbrev kind_of : Value → ℕ
kind_of (Number n) = 0
kind_of (Text units) = 1
kind_of (Numbers ns) = 2
kind_of (Texts texts) = 2
kind_of (Flag b) = 3
kind_of Null = 4

digit_first : (text after : List ℕ) → 0 < length text → list_all is_digit text ≡ true
    → is_digit (first_byte (text ++ after)) ≡ true
digit_first [] after some all = absurd (omega arith)
digit_first (c ∷ text) after some all = (and_parts (is_digit c) (list_all is_digit text) all).0

pub number_first : (n : ℕ) (after : List ℕ) → IsNumber n → is_digit (first_byte (decimal n ++ after)) ≡ true
number_first n after is = digit_first (decimal n) after (decimal_nonempty n is) (all_digits n)

digit_kind : (c : ℕ) → is_digit c ≡ true → kind_at c ≡ 0
digit_kind c e = rw e refl

begins : (v : Value) (after : List ℕ) → IsValue v → kind_at (first_byte (value_text v ++ after)) ≡ kind_of v
begins (Number n) after is = digit_kind (first_byte (decimal n ++ after)) (number_first n after is)
begins (Text units) after is = refl
begins (Numbers ns) after is = refl
begins (Texts texts) after is = refl
begins (Flag true) after is = refl
begins (Flag false) after is = refl
begins Null after is = refl

same_kind : (v w : Value) (after more : List ℕ) → IsValue v → IsValue w
    → value_text v ++ after ≡ value_text w ++ more → kind_of v ≡ kind_of w
same_kind v w after more is_v is_w e =
    sym (begins v after is_v) ∙ ap (λ (t : List ℕ). kind_at (first_byte t)) e ∙ begins w more is_w

-- ---- lists

no_digit : (c : ℕ) → is_digit c ≡ false → (text : List ℕ) → is_digit (first_byte text) ≡ true → first_byte text ≡ c → ⊥
no_digit c none text digit e = false≢true (sym none ∙ ap is_digit (sym e) ∙ digit)

number_opens : (n : ℕ) (after : List ℕ) → IsNumber n → first_byte (decimal n ++ after) ≡ 93 → ⊥
number_opens n after is = no_digit 93 refl (decimal n ++ after) (number_first n after is)

text_opens : (units after : List ℕ) → AreUnits units → first_byte (quoted units ++ after) ≡ 93 → ⊥
text_opens units after is e = absurd (apart 34 93 refl e)

parted_text : (a b after more : List ℕ) → AreUnits a → AreUnits b → ends after ≡ true → ends more ≡ true
    → quoted a ++ after ≡ quoted b ++ more → (a ≡ b) × (after ≡ more)
parted_text a b after more is_a is_b stop_a stop_b e = parted a b after more is_a is_b e

parted_numbers : (ns ms after more : List ℕ) → AllByRecursion IsNumber ns → AllByRecursion IsNumber ms
    → join_by decimal (codes ",") ns ++ (93 ∷ after) ≡ join_by decimal (codes ",") ms ++ (93 ∷ more)
    → (ns ≡ ms) × (after ≡ more)
parted_numbers = parted_list decimal IsNumber ends (λ rest. refl) (λ rest. refl) number_opens parted_number

parted_texts : (ts us : List (List ℕ)) (after more : List ℕ) → AllByRecursion AreUnits ts → AllByRecursion AreUnits us
    → join_by quoted (codes ",") ts ++ (93 ∷ after) ≡ join_by quoted (codes ",") us ++ (93 ∷ more)
    → (ts ≡ us) × (after ≡ more)
parted_texts = parted_list quoted AreUnits ends (λ rest. refl) (λ rest. refl) text_opens parted_text

-- the bracket of a list moved to what comes after it
opened : (items after : List ℕ) → (91 ∷ items ++ codes "]") ++ after ≡ 91 ∷ (items ++ (93 ∷ after))
opened items after = ap (λ (t : List ℕ). 91 ∷ t) (append_assoc items (codes "]") after)

both_opened : (items others after more : List ℕ) → (91 ∷ items ++ codes "]") ++ after ≡ (91 ∷ others ++ codes "]") ++ more
    → items ++ (93 ∷ after) ≡ others ++ (93 ∷ more)
both_opened items others after more e = ap rest_of (sym (opened items after) ∙ e ∙ opened others more)

-- ---- values

abbrev pub Told : Value → Value → List ℕ → List ℕ → Type 0
Told v w after more = (told_value v ≡ told_value w) × (after ≡ more)

-- a list of numbers and one of texts are alike where both are empty alone
mixed : (ns : List ℕ) (ts : List (List ℕ)) (after more : List ℕ) → AllByRecursion IsNumber ns
    → join_by decimal (codes ",") ns ++ (93 ∷ after) ≡ join_by quoted (codes ",") ts ++ (93 ∷ more)
    → Told (Numbers ns) (Texts ts) after more
mixed [] [] after more is e = (refl, ap rest_of e)
mixed [] (t ∷ ts) after more is e = absurd (apart 93 34 refl (ap first_byte e))
mixed (n ∷ ns) [] after more is e =
    absurd (number_opens n (_ ++ (93 ∷ after)) is.0
    (ap first_byte (sym (append_assoc (decimal n) _ (93 ∷ after)) ∙ e)))
mixed (n ∷ ns) (t ∷ ts) after more is e =
    absurd (no_digit 34 refl (decimal n ++ (_ ++ (93 ∷ after))) (number_first n (_ ++ (93 ∷ after)) is.0)
    (ap first_byte (sym (append_assoc (decimal n) _ (93 ∷ after)) ∙ e)))

flag_parted : (a b : Bool) (after more : List ℕ) → value_text (Flag a) ++ after ≡ value_text (Flag b) ++ more
    → Told (Flag a) (Flag b) after more
flag_parted true true after more e = (refl, cancel (codes "true") after more e)
flag_parted false false after more e = (refl, cancel (codes "false") after more e)
flag_parted true false after more e = absurd (apart 116 102 refl (ap first_byte e))
flag_parted false true after more e = absurd (apart 102 116 refl (ap first_byte e))

module _ (after more : List ℕ) (stop_v : ends after ≡ true) (stop_w : ends more ≡ true) where
  abbrev Parted : Value → Value → Type 0
  Parted v w = IsValue v → IsValue w → value_text v ++ after ≡ value_text w ++ more → Told v w after more

  by_kind : (v w : Value) → kind_of v ≡ kind_of w → Parted v w
  by_kind (Number n) (Number m) k i j e =
      let both = parted_number n m after more i j stop_v stop_w e in
      (ap (λ (x : ℕ). Number x) both.0, both.1)
  by_kind (Text a) (Text b) k i j e =
      let both = parted a b after more i j e in
      (ap (λ (x : List ℕ). Text x) both.0, both.1)
  by_kind (Numbers ns) (Numbers ms) k i j e =
      let both = parted_numbers ns ms after more i j
      (both_opened (join_by decimal (codes ",") ns) (join_by decimal (codes ",") ms) after more e) in
      (ap (λ (x : List ℕ). told_value (Numbers x)) both.0, both.1)
  by_kind (Texts ts) (Texts us) k i j e =
      let both = parted_texts ts us after more i j
      (both_opened (join_by quoted (codes ",") ts) (join_by quoted (codes ",") us) after more e) in
      (ap (λ (x : List (List ℕ)). Texts x) both.0, both.1)
  by_kind (Numbers ns) (Texts us) k i j e =
      mixed ns us after more i
      (both_opened (join_by decimal (codes ",") ns) (join_by quoted (codes ",") us) after more e)
  by_kind (Texts ts) (Numbers ms) k i j e =
      let both = mixed ms ts more after j
      (both_opened (join_by decimal (codes ",") ms) (join_by quoted (codes ",") ts) more after (sym e)) in
      (sym both.0, sym both.1)
  by_kind (Flag a) (Flag b) k i j e = flag_parted a b after more e
  by_kind Null Null k i j e = (refl, cancel (codes "null") after more e)
  by_kind (Number n) (Text b) k i j e = absurd (apart 0 1 refl k)
  by_kind (Number n) (Numbers ms) k i j e = absurd (apart 0 2 refl k)
  by_kind (Number n) (Texts us) k i j e = absurd (apart 0 2 refl k)
  by_kind (Number n) (Flag b) k i j e = absurd (apart 0 3 refl k)
  by_kind (Number n) Null k i j e = absurd (apart 0 4 refl k)
  by_kind (Text a) (Number m) k i j e = absurd (apart 1 0 refl k)
  by_kind (Text a) (Numbers ms) k i j e = absurd (apart 1 2 refl k)
  by_kind (Text a) (Texts us) k i j e = absurd (apart 1 2 refl k)
  by_kind (Text a) (Flag b) k i j e = absurd (apart 1 3 refl k)
  by_kind (Text a) Null k i j e = absurd (apart 1 4 refl k)
  by_kind (Numbers ns) (Number m) k i j e = absurd (apart 2 0 refl k)
  by_kind (Numbers ns) (Text b) k i j e = absurd (apart 2 1 refl k)
  by_kind (Numbers ns) (Flag b) k i j e = absurd (apart 2 3 refl k)
  by_kind (Numbers ns) Null k i j e = absurd (apart 2 4 refl k)
  by_kind (Texts ts) (Number m) k i j e = absurd (apart 2 0 refl k)
  by_kind (Texts ts) (Text b) k i j e = absurd (apart 2 1 refl k)
  by_kind (Texts ts) (Flag b) k i j e = absurd (apart 2 3 refl k)
  by_kind (Texts ts) Null k i j e = absurd (apart 2 4 refl k)
  by_kind (Flag a) (Number m) k i j e = absurd (apart 3 0 refl k)
  by_kind (Flag a) (Text b) k i j e = absurd (apart 3 1 refl k)
  by_kind (Flag a) (Numbers ms) k i j e = absurd (apart 3 2 refl k)
  by_kind (Flag a) (Texts us) k i j e = absurd (apart 3 2 refl k)
  by_kind (Flag a) Null k i j e = absurd (apart 3 4 refl k)
  by_kind Null (Number m) k i j e = absurd (apart 4 0 refl k)
  by_kind Null (Text b) k i j e = absurd (apart 4 1 refl k)
  by_kind Null (Numbers ms) k i j e = absurd (apart 4 2 refl k)
  by_kind Null (Texts us) k i j e = absurd (apart 4 2 refl k)
  by_kind Null (Flag b) k i j e = absurd (apart 4 3 refl k)

  pub parted_value : (v w : Value) → Parted v w
  parted_value v w i j e = by_kind v w (same_kind v w after more i j e) i j e
