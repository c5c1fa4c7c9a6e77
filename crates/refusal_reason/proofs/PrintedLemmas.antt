-- A printed fault is read back.
use Rattle.std.proofs.Common.{◌≡◌, ◌∙◌, ◌<◌, ◌≤◌, ◌+◌, ◌-◌, ◌^◌, ℕ, suc, Bool, true, false, not, ◌&&◌, cond, nat_le, List, [], ◌∷◌, ◌++◌, length, take, drop, get_or, Option, Some, None, ap, refl, arith, append_assoc, length-append, lit≤}
use Rattle.std.specs.Prelude.{codes, bytes_eq, find, option_map, if◌then◌else◌, ◌==◌, slice_range, slice_index}
use Rattle.std.specs.Option.{option_or}
use Rattle.std.specs.List.{list_all, prefix_len, position_or_len}
use Rattle.std.specs.Char.{is_ascii_digit, digit_value}
use Rattle.std.specs.Fmt.{decimal}
use Rattle.std.specs.Str.Parse.{AllDigits, digits_value}
use Rattle.std.proofs.Math.Seq.{take-append_seam, drop-append-add, get_or-append_seam}
use Rattle.std.proofs.lemmas.Bool.{false≢true}
use Rattle.std.proofs.lemmas.Bool.Decides.{nat_tests}
use Rattle.std.proofs.lemmas.List.{take_all, get_or-append-add}
use Rattle.std.proofs.lemmas.Fmt.{decimal_is_IsNumeral, length-decimal-le}
use Rattle.std.proofs.lemmas.Slice.Eq.{bytes_eq-Decides}
use Rattle.refusal_reason.specs.reason_lines.Texts.{Text, ends_word, first_word, after_word, is_number, number_of}
use Rattle.refusal_reason.specs.reason_lines.Files.{missing_name}
use Rattle.refusal_reason.specs.reason_lines.Kinds.{Row, PartReason, reason_in, part_reason, of_part, base_rows, bins_rows, log_rows, script_rows, reg_rows, boot_ini_rows}
use Rattle.refusal_reason.specs.reason_lines.Heard.{Heard, at_line, at_byte, line_heard, hive_heard, boot_ini_of, heard_of, of_boot_ini, of_hive, of_other, of_reg, of_script}
use Rattle.refusal_reason.specs.reason_lines.Printed.{boot_ini_fault, hive_fault, no_file, other_fault, reg_fault, script_fault}
use Rattle.refusal_reason.specs.declared.reason_lines.kinds.Part.{Part}
use Rattle.refusal_reason.specs.declared.reason_lines.kinds.Part.TheVariants.{Base, Bins, Log}

-- ---- words

-- no byte ends a word
abbrev pub whole : Text → Bool
whole word = list_all (λ c. not (ends_word c)) word

ends-at : (word rest : Text) (c : ℕ) → ends_word c ≡ true → whole word ≡ true
    → position_or_len ends_word (word ++ c ∷ rest) ≡ length word
ends-at [] rest c e h = ap (λ (b : Bool). cond (not b) (1 + prefix_len (λ x. not (ends_word x)) rest) 0) e
ends-at (d ∷ word) rest c e h = go (ends_word d) (ends-at word rest c e) h
  where
    go : (b : Bool) → (whole word ≡ true → position_or_len ends_word (word ++ c ∷ rest) ≡ length word)
        → (not b && whole word) ≡ true
        → cond (not b) (1 + position_or_len ends_word (word ++ c ∷ rest)) 0 ≡ suc (length word)
    go false again h = omega (arith, again h)
    go true again h = absurd (false≢true h)

pub first_word-at : (word rest : Text) (c : ℕ) → ends_word c ≡ true → whole word ≡ true
    → first_word (word ++ c ∷ rest) ≡ word
first_word-at word rest c e h =
    ap (λ n. take n (word ++ c ∷ rest)) (ends-at word rest c e h) ∙ take-append_seam word (c ∷ rest)

pub after_word-at : (word rest : Text) (c : ℕ) → ends_word c ≡ true → whole word ≡ true
    → after_word (word ++ c ∷ rest) ≡ rest
after_word-at word rest c e h =
    ap (λ n. drop (n + 1) (word ++ c ∷ rest)) (ends-at word rest c e h) ∙ drop-append-add word (c ∷ rest) 1

-- ---- numbers

digit-low : (c : ℕ) → digit_value c < 10 → 48 ≤ c
digit-low c h = grind (arith, nat_tests)

digit-high : (c : ℕ) → digit_value c < 10 → c ≤ 57
digit-high c h = grind (arith, nat_tests)

both : (a b : Bool) → a ≡ true → b ≡ true → (a && b) ≡ true
both true b e f = f
both false b e f = absurd (false≢true e)

pub digits-are : (word : Text) → AllDigits 10 word → list_all is_ascii_digit word ≡ true
digits-are [] h = refl
digits-are (c ∷ word) h =
    let low : 48 ≤ c = digit-low c h.0 in
    let high : c ≤ 57 = digit-high c h.0 in
    both (is_ascii_digit c) (list_all is_ascii_digit word) (grind (arith, nat_tests)) (digits-are word h.1)

pub digits-whole : (word : Text) → AllDigits 10 word → whole word ≡ true
digits-whole [] h = refl
digits-whole (c ∷ word) h =
    let low : 48 ≤ c = digit-low c h.0 in
    both (not (ends_word c)) (whole word) (grind (arith, nat_tests)) (digits-whole word h.1)

taken : (b : Bool) (value n : ℕ) → b ≡ true → value ≡ n → (if b then Some value else None) ≡ Some n
taken true value n e f = ap Some f
taken false value n e f = absurd (false≢true e)

pub number-read : (n : ℕ) → n < 2 ^ 32 → number_of (decimal n) ≡ Some n
number-read n small =
    let numeral = decimal_is_IsNumeral n (omega arith) in
    let some : 0 < length (decimal n) = numeral.0.0 in
    let same : digits_value 10 (decimal n) ≡ n = numeral.1 in
    let few : length (decimal n) ≤ 10 = length-decimal-le 10 n (omega arith) (omega arith) (omega arith) in
    let digits : list_all is_ascii_digit (decimal n) ≡ true = digits-are (decimal n) numeral.0.1 in
    let not_empty : not (length (decimal n) == 0) ≡ true = grind (arith, nat_tests) in
    let short : nat_le (length (decimal n)) 10 ≡ true = grind (arith, nat_tests) in
    let low : nat_le (digits_value 10 (decimal n)) 4294967295 ≡ true = grind (arith, nat_tests) in
    taken (is_number (decimal n) && nat_le (digits_value 10 (decimal n)) 4294967295) (digits_value 10 (decimal n)) n
    (both _ _ (both _ _ not_empty (both _ _ short digits)) low) same

-- ---- the kinds of faults

-- a word with at most 20 bytes, none of which ends it
abbrev pub plain : Text → Bool
plain word = whole word && nat_le (length word) 20

left : (a b : Bool) → (a && b) ≡ true → a ≡ true
left true b e = refl
left false b e = absurd (false≢true e)

right : (a b : Bool) → (a && b) ≡ true → b ≡ true
right true b e = e
right false b e = absurd (false≢true e)

pub reason-plain : (rows : List Row) (kind reason : Text) → list_all (λ (r : Row). plain r.kind) rows ≡ true
    → reason_in rows kind ≡ Some reason → plain kind ≡ true
reason-plain [] kind reason all e = cc
reason-plain (r ∷ rows) kind reason all e = go (bytes_eq kind r.kind) refl
    (reason-plain rows kind reason (right (plain r.kind) (list_all (λ (r : Row). plain r.kind) rows) all)) e
  where
    go : (b : Bool) → bytes_eq kind r.kind ≡ b → (reason_in rows kind ≡ Some reason → plain kind ≡ true)
        → option_map (λ (r : Row). r.reason) (cond b (Some r) (find (λ (r : Row). bytes_eq kind r.kind) rows))
        ≡ Some reason
        → plain kind ≡ true
    go true is again e =
        ap plain ((bytes_eq-Decides kind r.kind).0 is)
        ∙ left (plain r.kind) (list_all (λ (r : Row). plain r.kind) rows) all
    go false is again e = again e

part-cases : (a b c : Option Text) (found : PartReason)
    → option_or (of_part Base a) (option_or (of_part Bins b) (of_part Log c)) ≡ Some found → (P : Bool)
    → ((r : Text) → a ≡ Some r → P ≡ true) → ((r : Text) → b ≡ Some r → P ≡ true) → ((r : Text) → c ≡ Some r → P ≡ true)
    → P ≡ true
part-cases (Some r) b c found e P x y z = x r refl
part-cases None (Some r) c found e P x y z = y r refl
part-cases None None (Some r) found e P x y z = z r refl
part-cases None None None found e P x y z = cc

pub part-plain : (kind : Text) (found : PartReason) → part_reason kind ≡ Some found → plain kind ≡ true
part-plain kind found e =
    part-cases (reason_in base_rows kind) (reason_in bins_rows kind) (reason_in log_rows kind) found e (plain kind)
    (λ r. reason-plain base_rows kind r refl) (λ r. reason-plain bins_rows kind r refl)
    (λ r. reason-plain log_rows kind r refl)

-- ---- lines

-- `KIND at OFFSET`
hive-read : (make : Part → Text → ℕ → Heard) (kind : Text) (at : ℕ) (found : PartReason) → at < 2 ^ 32
    → part_reason kind ≡ Some found
    → hive_heard make (kind ++ (codes " at " ++ (decimal at ++ codes "\n"))) ≡ make found.part found.reason at
hive-read make kind at found small e =
    let rest : Text = codes "at " ++ (decimal at ++ codes "\n") in
    let clean : whole kind ≡ true = left (whole kind) (nat_le (length kind) 20) (part-plain kind found e) in
    let first : first_word (kind ++ 32 ∷ rest) ≡ kind = first_word-at kind rest 32 refl clean in
    let after : after_word (kind ++ 32 ∷ rest) ≡ rest = after_word-at kind rest 32 refl clean in
    let digits : whole (decimal at) ≡ true =
    digits-whole (decimal at) (decimal_is_IsNumeral at (omega arith)).0.1 in
    let number : first_word (decimal at ++ codes "\n") ≡ decimal at = first_word-at (decimal at) [] 10 refl digits in
    let p : part_reason (first_word (kind ++ 32 ∷ rest)) ≡ Some found = ap part_reason first ∙ e in
    let q : number_of (first_word (after_word (after_word (kind ++ 32 ∷ rest)))) ≡ Some at =
    ap (λ (t : Text). number_of (first_word (after_word t))) after ∙ ap number_of number
    ∙ number-read at small in
    ap (λ o. at_byte make o (number_of (first_word (after_word (after_word (kind ++ 32 ∷ rest)))))) p
    ∙ ap (at_byte make (Some found)) q

-- `LINE KIND`
line-read : (make : Text → ℕ → Heard) (rows : List Row) (kind reason : Text) (line : ℕ) → line < 2 ^ 32
    → list_all (λ (r : Row). plain r.kind) rows ≡ true → reason_in rows kind ≡ Some reason
    → line_heard make rows (decimal line ++ (codes " " ++ (kind ++ codes "\n"))) ≡ make reason line
line-read make rows kind reason line small all e =
    let rest : Text = kind ++ codes "\n" in
    let clean : whole kind ≡ true =
    left (whole kind) (nat_le (length kind) 20) (reason-plain rows kind reason all e) in
    let digits : whole (decimal line) ≡ true =
    digits-whole (decimal line) (decimal_is_IsNumeral line (omega arith)).0.1 in
    let first : first_word (decimal line ++ 32 ∷ rest) ≡ decimal line =
    first_word-at (decimal line) rest 32 refl digits in
    let after : after_word (decimal line ++ 32 ∷ rest) ≡ rest = after_word-at (decimal line) rest 32 refl digits in
    let word : first_word (kind ++ codes "\n") ≡ kind = first_word-at kind [] 10 refl clean in
    let p : number_of (first_word (decimal line ++ 32 ∷ rest)) ≡ Some line =
    ap number_of first ∙ number-read line small in
    let q : reason_in rows (first_word (after_word (decimal line ++ 32 ∷ rest))) ≡ Some reason =
    ap (λ (t : Text). reason_in rows (first_word t)) after ∙ ap (reason_in rows) word ∙ e in
    ap (λ o. at_line make o (reason_in rows (first_word (after_word (decimal line ++ 32 ∷ rest))))) p
    ∙ ap (at_line make (Some line)) q

-- ---- the first 128 bytes

grouped : (a b c d e : Text) → a ++ b ++ c ++ d ++ e ≡ a ++ (b ++ (c ++ (d ++ e)))
grouped a b c d e = simp append_assoc

lengths : (a b c d e : Text) → length (a ++ b ++ c ++ d ++ e) ≡ length a + length b + length c + length d + length e
lengths a b c d e = simp length-append

fits : (a b c d e : Text) → length a ≤ 20 → length b ≤ 20 → length c ≤ 20 → length d ≤ 20 → length e ≤ 20
    → take 128 (a ++ b ++ c ++ d ++ e) ≡ a ++ (b ++ (c ++ (d ++ e)))
fits a b c d e la lb lc ld le =
    let all = lengths a b c d e in
    take_all 128 (a ++ b ++ c ++ d ++ e) (omega arith) ∙ grouped a b c d e

fits-three : (a b c : Text) → length a ≤ 20 → length b ≤ 20 → length c ≤ 20 → take 128 (a ++ b ++ c) ≡ a ++ (b ++ c)
fits-three a b c la lb lc =
    let all : length (a ++ b ++ c) ≡ length a + length b + length c = simp length-append in
    take_all 128 (a ++ b ++ c) (omega arith) ∙ append_assoc a b c

few : (n : ℕ) → n < 2 ^ 32 → length (decimal n) ≤ 20
few n small =
    let ten : length (decimal n) ≤ 10 = length-decimal-le 10 n (omega arith) (omega arith) (omega arith) in
    omega arith

short : (kind : Text) → plain kind ≡ true → length kind ≤ 20
short kind e =
    let le : nat_le (length kind) 20 ≡ true = right (whole kind) (nat_le (length kind) 20) e in
    grind (arith, nat_tests)

pub hive-heard : (kind : Text) (at : ℕ) (found : PartReason) → at < 2 ^ 32 → part_reason kind ≡ Some found
    → heard_of (take 128 (hive_fault kind at)) ≡ of_hive found.part found.reason at
hive-heard kind at found small e =
    ap heard_of (fits (codes "hive fault ") kind (codes " at ") (decimal at) (codes "\n") (lit≤ tt)
    (short kind (part-plain kind found e)) (lit≤ tt) (few at small) (lit≤ tt))
    ∙ hive-read of_hive kind at found small e

pub other-heard : (kind : Text) (at : ℕ) (found : PartReason) → at < 2 ^ 32 → part_reason kind ≡ Some found
    → heard_of (take 128 (other_fault kind at)) ≡ of_other found.part found.reason at
other-heard kind at found small e =
    ap heard_of (fits (codes "with fault ") kind (codes " at ") (decimal at) (codes "\n") (lit≤ tt)
    (short kind (part-plain kind found e)) (lit≤ tt) (few at small) (lit≤ tt))
    ∙ hive-read of_other kind at found small e

pub script-heard : (kind reason : Text) (line : ℕ) → line < 2 ^ 32 → reason_in script_rows kind ≡ Some reason
    → heard_of (take 128 (script_fault kind line)) ≡ of_script reason line
script-heard kind reason line small e =
    ap heard_of (fits (codes "script fault ") (decimal line) (codes " ") kind (codes "\n") (lit≤ tt)
    (few line small) (lit≤ tt) (short kind (reason-plain script_rows kind reason refl e)) (lit≤ tt))
    ∙ line-read of_script script_rows kind reason line small refl e

pub reg-heard : (kind reason : Text) (line : ℕ) → line < 2 ^ 32 → reason_in reg_rows kind ≡ Some reason
    → heard_of (take 128 (reg_fault kind line)) ≡ of_reg reason line
reg-heard kind reason line small e =
    ap heard_of (fits (codes "reg fault ") (decimal line) (codes " ") kind (codes "\n") (lit≤ tt)
    (few line small) (lit≤ tt) (short kind (reason-plain reg_rows kind reason refl e)) (lit≤ tt))
    ∙ line-read of_reg reg_rows kind reason line small refl e

pub boot_ini-heard : (kind reason : Text) → reason_in boot_ini_rows kind ≡ Some reason
    → heard_of (take 128 (boot_ini_fault kind)) ≡ of_boot_ini reason
boot_ini-heard kind reason e =
    let clean : whole kind ≡ true =
    left (whole kind) (nat_le (length kind) 20) (reason-plain boot_ini_rows kind reason refl e) in
    let word : first_word (kind ++ codes "\n") ≡ kind = first_word-at kind [] 10 refl clean in
    ap heard_of (fits-three (codes "boot.ini fault ") kind (codes "\n") (lit≤ tt)
    (short kind (reason-plain boot_ini_rows kind reason refl e)) (lit≤ tt))
    ∙ ap (λ (t : Text). boot_ini_of (reason_in boot_ini_rows t)) word ∙ ap boot_ini_of e

-- ---- a file that is absent

last-at : (name : Text) → get_or (codes "no file " ++ (name ++ codes "\n")) (8 + length name) 0 ≡ 10
last-at name =
    get_or-append-add (codes "no file ") (name ++ codes "\n") (length name) 0 ∙ get_or-append_seam name 10 [] 0

named : (b : Bool) (value name : Text) → b ≡ true → value ≡ name → (if b then Some value else None) ≡ Some name
named true value name e f = ap Some f
named false value name e f = absurd (false≢true e)

name-part : (name : Text) → take (8 + length name - 8) (name ++ codes "\n") ≡ name
name-part name =
    let n : 8 + length name - 8 ≡ length name = omega arith in
    ap (λ n. take n (name ++ codes "\n")) n ∙ take-append_seam name (codes "\n")

named-by : (name text : Text) → text ≡ codes "no file " ++ (name ++ codes "\n") → missing_name text ≡ Some name
named-by name text e =
    let whole_length : length text ≡ length (codes "no file " ++ (name ++ codes "\n")) = ap length e in
    let front : length (codes "no file " ++ (name ++ codes "\n"))
    ≡ length (codes "no file ") + length (name ++ codes "\n") =
    length-append (codes "no file ") (name ++ codes "\n") in
    let back : length (name ++ codes "\n") ≡ length name + length (codes "\n") = length-append name (codes "\n") in
    let long : length text ≡ 8 + (length name + 1) = omega arith in
    let enough : nat_le 9 (length text) ≡ true = grind (arith, nat_tests) in
    let begins : bytes_eq (slice_range text 0 8) (codes "no file ") ≡ true = rw e refl in
    let at : length text - 1 ≡ 8 + length name = omega arith in
    let last : slice_index text (8 + length name) ≡ 10 = rw e (last-at name) in
    let ends : (slice_index text (length text - 1) == 10) ≡ true =
    ap (λ n. slice_index text n == 10) at ∙ ap (λ n. n == 10) last in
    let value : slice_range text 8 (8 + length name) ≡ name = rw e (name-part name) in
    named
    (nat_le 9 (length text)
    && (bytes_eq (slice_range text 0 8) (codes "no file ") && slice_index text (length text - 1) == 10))
    (slice_range text 8 (length text - 1)) name (both _ _ enough (both _ _ begins ends))
    (ap (λ n. slice_range text 8 n) at ∙ value)

pub no_file-heard : (name : Text) → missing_name (no_file name) ≡ Some name
no_file-heard name = named-by name (no_file name) (append_assoc (codes "no file ") name (codes "\n"))
