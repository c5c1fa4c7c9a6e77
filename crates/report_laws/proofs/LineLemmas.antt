-- A line, and lines in sequence, determined by their text.
use Rattle.std.proofs.Common.{◌≡◌, ℕ, ◌+◌, ◌/◌, ◌%◌, ◌==◌, Bool, true, false, cond, List, [], ◌∷◌, ◌++◌, length, refl, sym, ap, subst, ◌∙◌, append_assoc, length-append, arith}
use Rattle.std.specs.Prelude.{codes, nat_lt}
use Rattle.std.specs.Int.{w16, to_be_bytes}
use Rattle.std.specs.Fmt.{decimal}
use Rattle.std.proofs.lemmas.Bool.{and_from}
use Rattle.std.proofs.lemmas.Bool.Decides.{nat_tests}
use Rattle.hex.specs.Hex.{IsBytes, encode_lower}
use Rattle.start_model.specs.Lines.{name_text}
use Rattle.hive_model.specs.Tree.{Item}
use Rattle.report_text.specs.declared.line_text.form.ReportForm.TheVariants as forms
use Rattle.report_text.specs.line_text.Quoted.{quoted}
use Rattle.report_text.specs.line_text.Paths.{joined_path, written, written_path}
use Rattle.report_text.proofs.QuoteLemmas.{parted}
use Rattle.json_laws.proofs.Parts.{rest_of, cancel, parted_where}
use Rattle.json_laws.proofs.Values.{is_digit, all_digits}
use Rattle.key_text.specs.Data.{form_of, form_text}
use Rattle.key_text.specs.Dates.{Date, date_of}
use Rattle.key_text.specs.Kinds.{kind_text}
use Rattle.key_text.specs.Lines.{KeyLine, RootLine, KeyAtLine, StampLine, FlagsLine, ClassLine, ClassBytesLine, SecurityLine, ValueLine, SubkeyLine, NoKeyLine, EndLine, counted_text, value_text, line_text, printed_lines}
use Rattle.key_text.specs.Stamps.{day_in, second_in, two_digits, year_text, date_text, clock_text, fraction_text, stamp_text}
use Rattle.key_text.proofs.StampLemmas.{same_stamps}
use Rattle.report_laws.specs.key_laws.Lines.{FitsItem, FitsLine, FitLines}
use Rattle.report_laws.proofs.PartLemmas.{Inner, is_inner, is_joint, both, parted_by, joint_inner, number_inner, name_inner, quoted_inner, written_inner, hex_inner}
use Rattle.report_laws.proofs.PieceLemmas.{same_quoted, same_written, same_name, same_path, same_hex, same_two, same_kind, kind_joint}
use Rattle.report_laws.proofs.FormLemmas.{same_data, form_inner}

-- ---- stamps have no LF

plus : (d : ℕ) → is_inner (48 + d) ≡ true
plus d = grind (arith, nat_tests)

two_inner : (n : ℕ) → Inner (two_digits n)
two_inner n = and_from _ _ (plus (n / 10)) (and_from _ _ (plus (n % 10)) refl)

sign_inner : (b : Bool) → Inner (cond b (codes "+") [])
sign_inner true = refl
sign_inner false = refl

year_inner : (year : ℕ) → Inner (year_text year)
year_inner year = both (cond (nat_lt 9999 year) (codes "+") []) (decimal year) (sign_inner (nat_lt 9999 year)) (number_inner year)

date_inner : (date : Date) → Inner (date_text date)
date_inner date =
    both (year_text date.year ++ codes "-" ++ two_digits date.month ++ codes "-") (two_digits date.day)
    (both (year_text date.year ++ codes "-" ++ two_digits date.month) (codes "-")
    (both (year_text date.year ++ codes "-") (two_digits date.month)
    (both (year_text date.year) (codes "-") (year_inner date.year) refl) (two_inner date.month)) refl)
    (two_inner date.day)

clock_inner : (second : ℕ) → Inner (clock_text second)
clock_inner second =
    both (two_digits (second / 3600)) (58 ∷ (two_digits (second / 60 % 60) ++ (58 ∷ two_digits (second % 60))))
    (two_inner (second / 3600))
    (both (two_digits (second / 60 % 60)) (58 ∷ two_digits (second % 60)) (two_inner (second / 60 % 60))
    (two_inner (second % 60)))

last_inner : (n : ℕ) → Inner ((48 + n % 10) ∷ [])
last_inner n = and_from _ _ (plus (n % 10)) refl

fraction_inner : (n : ℕ) → Inner (fraction_text n)
fraction_inner n =
    both (two_digits (n / 100000)) (two_digits (n / 1000 % 100) ++ (two_digits (n / 10 % 100) ++ ((48 + n % 10) ∷ [])))
    (two_inner (n / 100000))
    (both (two_digits (n / 1000 % 100)) (two_digits (n / 10 % 100) ++ ((48 + n % 10) ∷ [])) (two_inner (n / 1000 % 100))
    (both (two_digits (n / 10 % 100)) ((48 + n % 10) ∷ []) (two_inner (n / 10 % 100)) (last_inner n)))

stamp_inner : (stamp : ℕ) → Inner (stamp_text stamp)
unfolding stamp_text
stamp_inner stamp =
    let date = date_of (day_in stamp) in
    let clock = clock_text (second_in stamp) in
    let fraction = fraction_text (stamp % 10000000) in
    let parts = date_text date ++ codes "T" ++ clock ++ codes "." in
    both (parts ++ fraction) (codes "Z")
    (both parts fraction
    (both (date_text date ++ codes "T" ++ clock) (codes ".")
    (both (date_text date ++ codes "T") clock (both (date_text date) (codes "T") (date_inner date) refl)
    (clock_inner (second_in stamp))) refl) (fraction_inner (stamp % 10000000))) refl

-- ---- lines without their LF

-- what follows the name of a value
abbrev typed : Item → List ℕ
typed v = 32 ∷ (kind_text v.kind ++ (32 ∷ form_text (form_of v.kind v.bytes)))

abbrev body : KeyLine → List ℕ
body (RootLine name) = codes "root " ++ written name
body (KeyAtLine path) = codes "key " ++ written_path path
body (StampLine stamp) = codes "stamp " ++ stamp_text stamp
body (FlagsLine flags) = codes "flags 0x" ++ encode_lower (to_be_bytes w16 flags)
body (ClassLine units) = codes "class " ++ quoted units
body (ClassBytesLine bytes) = codes "class hex " ++ counted_text bytes
body (SecurityLine bytes) = codes "security " ++ counted_text bytes
body (ValueLine v) = codes "value " ++ (quoted v.name ++ typed v)
body (SubkeyLine name) = codes "subkey " ++ name_text name
body NoKeyLine = codes "refused key no-key"
body EndLine = codes "end"

joined : (q k f : List ℕ)
    → q ++ codes " " ++ k ++ codes " " ++ f ++ codes "\n" ≡ (q ++ 32 ∷ (k ++ 32 ∷ f)) ++ 10 ∷ []
joined q k f =
    ap (λ (t : List ℕ). t ++ 10 ∷ [])
    (append_assoc (q ++ codes " " ++ k) (codes " ") f ∙ append_assoc (q ++ codes " ") k (32 ∷ f)
    ∙ append_assoc q (codes " ") (k ++ 32 ∷ f))

value_body : (v : Item) → value_text v ≡ body (ValueLine v) ++ 10 ∷ []
unfolding value_text
value_body v = ap (λ (t : List ℕ). codes "value " ++ t) (joined (quoted v.name) (kind_text v.kind) (form_text (form_of v.kind v.bytes)))

text_body : (l : KeyLine) → line_text l ≡ body l ++ 10 ∷ []
text_body (RootLine name) = refl
text_body (KeyAtLine path) = refl
text_body (StampLine stamp) = refl
text_body (FlagsLine flags) = refl
text_body (ClassLine units) = refl
text_body (ClassBytesLine bytes) = refl
text_body (SecurityLine bytes) = refl
text_body (ValueLine v) = value_body v
text_body (SubkeyLine name) = refl
text_body NoKeyLine = refl
text_body EndLine = refl

counted_inner : (bytes : List ℕ) → Inner (counted_text bytes)
counted_inner bytes =
    both (decimal (length bytes) ++ codes " ") (encode_lower bytes)
    (both (decimal (length bytes)) (codes " ") (number_inner (length bytes)) refl) (hex_inner bytes)

typed_inner : (v : Item) → Inner (typed v)
typed_inner v =
    both (kind_text v.kind) (32 ∷ form_text (form_of v.kind v.bytes))
    (joint_inner (kind_text v.kind) (kind_joint v.kind)) (form_inner (form_of v.kind v.bytes))

body_inner : (l : KeyLine) → Inner (body l)
body_inner (RootLine name) = written_inner name
body_inner (KeyAtLine path) = written_inner (joined_path path)
body_inner (StampLine stamp) = stamp_inner stamp
body_inner (FlagsLine flags) = hex_inner (to_be_bytes w16 flags)
body_inner (ClassLine units) = quoted_inner units
body_inner (ClassBytesLine bytes) = counted_inner bytes
body_inner (SecurityLine bytes) = counted_inner bytes
body_inner (ValueLine v) = both (quoted v.name) (typed v) (quoted_inner v.name) (typed_inner v)
body_inner (SubkeyLine name) = name_inner name
body_inner NoKeyLine = refl
body_inner EndLine = refl

-- ---- the sort of a line, by its first letters

abbrev class_sort : List ℕ → ℕ
class_sort (a ∷ b ∷ c ∷ d ∷ e ∷ rest) = cond (e == 34) 4 5
class_sort other = 5

abbrev sort_at : List ℕ → ℕ
sort_at (a ∷ b ∷ rest) =
    cond (a == 114) (cond (b == 111) 0 9) (cond (a == 107) 1
    (cond (a == 115) (cond (b == 116) 2 (cond (b == 101) 6 8))
    (cond (a == 102) 3 (cond (a == 99) (class_sort rest) (cond (a == 118) 7 10)))))
sort_at other = 11

abbrev pub sort_of : KeyLine → ℕ
sort_of (RootLine name) = 0
sort_of (KeyAtLine path) = 1
sort_of (StampLine stamp) = 2
sort_of (FlagsLine flags) = 3
sort_of (ClassLine units) = 4
sort_of (ClassBytesLine bytes) = 5
sort_of (SecurityLine bytes) = 6
sort_of (ValueLine v) = 7
sort_of (SubkeyLine name) = 8
sort_of NoKeyLine = 9
sort_of EndLine = 10

sorted : (l : KeyLine) → sort_at (body l) ≡ sort_of l
sorted (RootLine name) = refl
sorted (KeyAtLine path) = refl
sorted (StampLine stamp) = refl
sorted (FlagsLine flags) = refl
sorted (ClassLine units) = refl
sorted (ClassBytesLine bytes) = refl
sorted (SecurityLine bytes) = refl
sorted (ValueLine v) = refl
sorted (SubkeyLine name) = refl
sorted NoKeyLine = refl
sorted EndLine = refl

-- what lines of all sorts report
pub record Content : Type 0 where
  pub units : List ℕ
  pub path : List (List ℕ)
  pub number : ℕ
  pub item : Item

abbrev nothing : Content
nothing = record { units = []; path = []; number = 0; item = record { name = []; kind = 0; bytes = [] } }

abbrev content_of : KeyLine → Content
content_of (RootLine name) = record nothing { units = name }
content_of (KeyAtLine path) = record nothing { path = path }
content_of (StampLine stamp) = record nothing { number = stamp }
content_of (FlagsLine flags) = record nothing { number = flags }
content_of (ClassLine units) = record nothing { units = units }
content_of (ClassBytesLine bytes) = record nothing { units = bytes }
content_of (SecurityLine bytes) = record nothing { units = bytes }
content_of (ValueLine v) = record nothing { item = v }
content_of (SubkeyLine name) = record nothing { units = name }
content_of NoKeyLine = nothing
content_of EndLine = nothing

-- the line of a sort with such a content
abbrev pub line_of : ℕ → Content → KeyLine
line_of sort c =
    cond (sort == 0) (RootLine c.units) (cond (sort == 1) (KeyAtLine c.path) (cond (sort == 2) (StampLine c.number)
    (cond (sort == 3) (FlagsLine c.number) (cond (sort == 4) (ClassLine c.units) (cond (sort == 5) (ClassBytesLine c.units)
    (cond (sort == 6) (SecurityLine c.units) (cond (sort == 7) (ValueLine c.item) (cond (sort == 8) (SubkeyLine c.units)
    (cond (sort == 9) NoKeyLine EndLine)))))))))

line_back : (l : KeyLine) → line_of (sort_of l) (content_of l) ≡ l
line_back (RootLine name) = refl
line_back (KeyAtLine path) = refl
line_back (StampLine stamp) = refl
line_back (FlagsLine flags) = refl
line_back (ClassLine units) = refl
line_back (ClassBytesLine bytes) = refl
line_back (SecurityLine bytes) = refl
line_back (ValueLine v) = refl
line_back (SubkeyLine name) = refl
line_back NoKeyLine = refl
line_back EndLine = refl

-- ---- lines of one sort

-- the space moved to what comes after it
counted : (bytes : List ℕ) → counted_text bytes ≡ decimal (length bytes) ++ 32 ∷ encode_lower bytes
counted bytes = append_assoc (decimal (length bytes)) (codes " ") (encode_lower bytes)

same_counted : (a b : List ℕ) → IsBytes a → IsBytes b → counted_text a ≡ counted_text b → a ≡ b
same_counted a b is_a is_b e =
    same_hex a b is_a is_b
    (ap rest_of (parted_where is_digit (decimal (length a)) (decimal (length b)) (32 ∷ encode_lower a)
    (32 ∷ encode_lower b) (all_digits (length a)) (all_digits (length b)) refl refl
    (sym (counted a) ∙ e ∙ counted b)).1)

same_value : (v w : Item) → FitsItem v → FitsItem w → quoted v.name ++ typed v ≡ quoted w.name ++ typed w → v ≡ w
same_value v w is_v is_w e =
    let name = parted v.name w.name (typed v) (typed w) is_v.name is_w.name e in
    let texts = parted_by is_joint (kind_text v.kind) (kind_text w.kind) (32 ∷ form_text (form_of v.kind v.bytes))
    (32 ∷ form_text (form_of w.kind w.bytes)) (kind_joint v.kind) (kind_joint w.kind) refl refl (ap rest_of name.1) in
    let kind = same_kind v.kind w.kind is_v.kind is_w.kind texts.0 in
    let data_text : form_text (form_of v.kind v.bytes) ≡ form_text (form_of v.kind w.bytes) =
    ap rest_of texts.1 ∙ ap (λ (k : ℕ). form_text (form_of k w.bytes)) (sym kind) in
    let bytes = same_data v.kind v.bytes w.bytes is_v.bytes is_w.bytes data_text in
    (λ i. record { name = name.0 i; kind = kind i; bytes = bytes i })

-- what determines the sort of a line, and the line where that is known, determines the line
module _ {X : Type 0} (seen : KeyLine → X) (sort_at : X → ℕ) (sorted : (l : KeyLine) → sort_at (seen l) ≡ sort_of l)
    (a : KeyLine) (sort : ℕ) (is : sort_of a ≡ sort)
    (alike : (c : Content) → FitsLine (line_of sort c) → seen a ≡ seen (line_of sort c) → a ≡ line_of sort c) where
  pub of_sort : (b : KeyLine) → FitsLine b → seen a ≡ seen b → a ≡ b
  of_sort b fits e =
      let same : sort_of b ≡ sort = sym (sorted b) ∙ ap sort_at (sym e) ∙ sorted a ∙ is in
      let back : line_of sort (content_of b) ≡ b = ap (λ (n : ℕ). line_of n (content_of b)) (sym same) ∙ line_back b in
      alike (content_of b) (subst FitsLine (sym back) fits) (e ∙ ap seen (sym back)) ∙ back

same_body : (a b : KeyLine) → FitsLine a → FitsLine b → body a ≡ body b → a ≡ b
same_body (RootLine name) b is_a =
    of_sort body sort_at sorted (RootLine name) 0 refl
    (λ c is e. ap (λ (x : List ℕ). RootLine x)
    (same_written name c.units is_a is (cancel (codes "root ") (written name) (written c.units) e))) b
same_body (KeyAtLine path) b is_a =
    of_sort body sort_at sorted (KeyAtLine path) 1 refl
    (λ c is e. ap (λ (x : List (List ℕ)). KeyAtLine x)
    (same_path path c.path is_a is (cancel (codes "key ") (written_path path) (written_path c.path) e))) b
same_body (StampLine stamp) b is_a =
    of_sort body sort_at sorted (StampLine stamp) 2 refl
    (λ c is e. ap (λ (x : ℕ). StampLine x)
    (same_stamps stamp c.number is_a is (cancel (codes "stamp ") (stamp_text stamp) (stamp_text c.number) e))) b
same_body (FlagsLine flags) b is_a =
    of_sort body sort_at sorted (FlagsLine flags) 3 refl
    (λ c is e. ap (λ (x : ℕ). FlagsLine x)
    (same_two flags c.number is_a is (cancel (codes "flags 0x") (encode_lower (to_be_bytes w16 flags))
    (encode_lower (to_be_bytes w16 c.number)) e))) b
same_body (ClassLine units) b is_a =
    of_sort body sort_at sorted (ClassLine units) 4 refl
    (λ c is e. ap (λ (x : List ℕ). ClassLine x)
    (same_quoted units c.units is_a is (cancel (codes "class ") (quoted units) (quoted c.units) e))) b
same_body (ClassBytesLine bytes) b is_a =
    of_sort body sort_at sorted (ClassBytesLine bytes) 5 refl
    (λ c is e. ap (λ (x : List ℕ). ClassBytesLine x)
    (same_counted bytes c.units is_a.0 is.0 (cancel (codes "class hex ") (counted_text bytes) (counted_text c.units) e))) b
same_body (SecurityLine bytes) b is_a =
    of_sort body sort_at sorted (SecurityLine bytes) 6 refl
    (λ c is e. ap (λ (x : List ℕ). SecurityLine x)
    (same_counted bytes c.units is_a.0 is.0 (cancel (codes "security ") (counted_text bytes) (counted_text c.units) e))) b
same_body (ValueLine v) b is_a =
    of_sort body sort_at sorted (ValueLine v) 7 refl
    (λ c is e. ap (λ (x : Item). ValueLine x)
    (same_value v c.item is_a.0 is.0 (cancel (codes "value ") (quoted v.name ++ typed v) (quoted c.item.name ++ typed c.item) e))) b
same_body (SubkeyLine name) b is_a =
    of_sort body sort_at sorted (SubkeyLine name) 8 refl
    (λ c is e. ap (λ (x : List ℕ). SubkeyLine x)
    (same_name name c.units is_a is (cancel (codes "subkey ") (name_text name) (name_text c.units) e))) b
same_body NoKeyLine b is_a = of_sort body sort_at sorted NoKeyLine 9 refl (λ c is e. refl) b
same_body EndLine b is_a = of_sort body sort_at sorted EndLine 10 refl (λ c is e. refl) b

-- ---- lines in sequence

abbrev texts : List KeyLine → List ℕ
texts ls = printed_lines forms.Text ls

-- a line's LF moved to what comes after it
opened : (l : KeyLine) (ls : List KeyLine) → texts (l ∷ ls) ≡ body l ++ (10 ∷ texts ls)
opened l ls = ap (λ (t : List ℕ). t ++ texts ls) (text_body l) ∙ append_assoc (body l) (10 ∷ []) (texts ls)

some_text : (t rest : List ℕ) → [] ≡ t ++ (10 ∷ rest) → ⊥
some_text t rest e = omega (arith, ap length e, length-append t (10 ∷ rest))

pub same_lines : (a b : List KeyLine) → FitLines a → FitLines b → texts a ≡ texts b → a ≡ b
same_lines [] [] is_a is_b e = refl
same_lines [] (l ∷ ls) is_a is_b e = absurd (some_text (body l) (texts ls) (e ∙ opened l ls))
same_lines (k ∷ ks) [] is_a is_b e = absurd (some_text (body k) (texts ks) (sym e ∙ opened k ks))
same_lines (k ∷ ks) (l ∷ ls) is_a is_b e =
    let parts = parted_by is_inner (body k) (body l) (10 ∷ texts ks) (10 ∷ texts ls) (body_inner k) (body_inner l)
    refl refl (sym (opened k ks) ∙ e ∙ opened l ls) in
    let first = same_body k l is_a.0 is_b.0 parts.0 in
    let others = same_lines ks ls is_a.1 is_b.1 (ap rest_of parts.1) in
    (λ i. first i ∷ others i)
