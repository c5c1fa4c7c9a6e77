-- Words are read as an event exactly where they spell it.
use Rattle.std.proofs.Common.{◌≡◌, inl, inr, ℕ, ◌+◌, ◌*◌, ◌%◌, ◌<◌, ◌≤◌, Bool, true, false, cond, eqb, ltb, ◌&&◌, ◌||◌, not, List, [], ◌∷◌, ◌++◌, length, Some, None, Result, Ok, Err, refl, sym, ap, subst, ◌∙◌, arith, codes}
use Rattle.std.specs.List.{All, list_all, join_with_byte, onto_first}
use Rattle.std.specs.Char.{is_ascii_digit, is_ascii_hexdigit, digit_value}
use Rattle.std.specs.Int.{w32, to_le_bytes}
use Rattle.std.specs.Str.{bytes_eq}
use Rattle.std.specs.Str.Parse.{digits_value}
use Rattle.std.proofs.lemmas.Bool.{false≢true, eqb-true, eqb-false, ne_eqb, le-ltb, ltb-false, and_parts, and_from}
use Rattle.std.proofs.lemmas.Bool.Decides.{nat_tests}
use Rattle.std.proofs.lemmas.List.Elements.{All-nil, All-cons}
use Rattle.std.proofs.lemmas.List.Splits.{join_with_byte-slice_split, length-slice_split, slice_split_none, slice_split_at}
use Rattle.std.proofs.lemmas.Slice.Eq.{bytes_eq-Decides}
use Rattle.nt_bytes.specs.Text.{is_digits, is_backslash}
use Rattle.nt_bytes.specs.Reading.{◌>>=◌}
use Rattle.nt_edge.specs.declared.disk.Keep.{Keep}
use Rattle.nt_edge.specs.declared.disk.Keep.TheVariants.{Nothing, Everything, OddOnes, Torn}
use Rattle.nt_edge.specs.declared.disk.DiskCall.{DiskCall}
use Rattle.nt_edge.specs.declared.disk.DiskCall.TheVariants.{Read, Write, Sync}
use Rattle.boot_script.specs.declared.boot_script.event.Event.{Event}
use Rattle.boot_script.specs.declared.boot_script.event.Event.TheVariants.{Boot, Go, Fail, Vital, Set, Delete, Make, Remove, Flush, Logon, Off, CutNow, ArmCut, ArmFault}
use Rattle.boot_script.specs.declared.boot_script.stop.ScriptFaultKind.{ScriptFaultKind}
use Rattle.boot_script.specs.declared.boot_script.stop.ScriptFaultKind.TheVariants.{Word, Number}
use Rattle.boot_script.specs.boot_script.Words.{number_from}
use Rattle.boot_script.specs.boot_script.Values.{path_of, hex_value, hex_bytes, is_hex, dword_of, string_of, binary_of, data_of, text_bytes, texts_bytes}
use Rattle.boot_script.specs.boot_script.Commands.{boot_of, go_of, fail_of, vital_of, set_of, delete_of, make_of, remove_of, alone_of, keep_of, call_of, cut_of, fault_of, edit_of, command_of, event_of}
use Rattle.boot_script.specs.boot_script.Events.{IsNumber, is_in_name, is_name, IsPath, IsPair, IsHex, IsDword, IsString, IsStrings, IsBinary, IsData, good_words, keep_word, call_word, IsSpelledBy}
use Rattle.boot_script.proofs.SpellingLemmas.{not_true}
use Rattle.boot_script.proofs.WordLemmas.{done, ok_is}

-- ---- what a reader that succeeded has found

pub bind_ok : {A B : Type 0} (r : Result A ScriptFaultKind) (f : A → Result B ScriptFaultKind) (y : B)
    → (r >>= f) ≡ Ok y
    → (x : A) × (r ≡ Ok x) × (f x ≡ Ok y)
bind_ok (Ok x) f y e = (x, refl, e)
bind_ok (Err k) f y e = absurd cc

passed : {A : Type 0} (b : Bool) (k : ScriptFaultKind) (r : Result A ScriptFaultKind) (y : A) → cond b (Err k) r ≡ Ok y
    → (b ≡ false) × (r ≡ Ok y)
passed true k r y e = absurd cc
passed false k r y e = (refl, e)

holds : {A : Type 0} (b : Bool) (k : ScriptFaultKind) (r : Result A ScriptFaultKind) (y : A) → cond b r (Err k) ≡ Ok y
    → (b ≡ true) × (r ≡ Ok y)
holds true k r y e = (refl, e)
holds false k r y e = absurd cc

-- by one test, or by what follows it
either : {A : Type 0} (b : Bool) (r s : Result A ScriptFaultKind) (y : A) (P : Type 0) → (b ≡ true → r ≡ Ok y → P)
    → (s ≡ Ok y → P)
    → cond b r s ≡ Ok y → P
either true r s y P f g e = f refl e
either false r s y P f g e = g e

same_text : (a b : List ℕ) → bytes_eq a b ≡ true → a ≡ b
same_text a b e = (bytes_eq-Decides a b).0 e

left_false : (a b : Bool) → (a || b) ≡ false → a ≡ false
left_false true b e = absurd (false≢true (sym e))
left_false false b e = refl

right_false : (a b : Bool) → (a || b) ≡ false → b ≡ false
right_false true b e = absurd (false≢true (sym e))
right_false false b e = e

not_false : (b : Bool) → not b ≡ false → b ≡ true
not_false true e = refl
not_false false e = absurd (false≢true (sym e))

-- ---- numbers

number_found : (low : ℕ) (word : List ℕ) (n : ℕ) → number_from low word ≡ Ok n → IsNumber low n word
unfolding number_from
number_found low word n e =
    let value : ℕ = digits_value 10 word in
    let shape = passed (not (is_digits word) || ltb 10 (length word)) Number _ n e in
    let range = passed (ltb value low || ltb 4294967295 value) Number (Ok value) n shape.1 in
    let digits : is_digits word ≡ true = not_false (is_digits word) (left_false _ _ shape.0) in
    let parts = and_parts (not (eqb (length word) 0)) (list_all is_ascii_digit word) digits in
    let same : value ≡ n = ok_is value n range.1 in
    let some : 0 < length word = omega (arith, eqb-false (length word) 0 (not_true (eqb (length word) 0) parts.0)) in
    let few : length word ≤ 10 = ltb-false 10 (length word) (right_false (not (is_digits word)) _ shape.0) in
    let least : low ≤ value = ltb-false value low (left_false _ _ range.0) in
    let most : value ≤ 4294967295 = ltb-false 4294967295 value (right_false (ltb value low) _ range.0) in
    record { digits = parts.1; some = some; few = few; writes = same; least = omega arith; most = omega arith }

digits_are : (low n : ℕ) (word : List ℕ) → IsNumber low n word → is_digits word ≡ true
digits_are low n word is =
    let some : 0 < length word = is.some in
    rw (ne_eqb (length word) 0 (λ z. absurd (omega arith)), is.digits) refl

number_read : (low n : ℕ) (word : List ℕ) → IsNumber low n word → number_from low word ≡ Ok n
unfolding number_from
number_read low n word is =
    rw (
      digits_are low n word is,
      le-ltb 10 (length word) is.few,
      is.writes,
      le-ltb n low is.least,
      le-ltb 4294967295 n is.most,
    ) refl

-- ---- paths

plain_onto : (c : ℕ) (parts : List (List ℕ)) → is_in_name c ≡ true → list_all is_name parts ≡ true
    → list_all is_name (onto_first c parts) ≡ true
plain_onto c [] e all = and_from _ _ (and_from _ _ e refl) refl
plain_onto c (part ∷ parts) e all = let q = and_parts (is_name part) (list_all is_name parts) all in
    and_from _ _ (and_from _ _ e q.0) q.1

parts_plain : (word : List ℕ) → list_all is_name (path_of word) ≡ true
parts_plain [] = refl
parts_plain (c ∷ word) = by_test (is_backslash c) refl (parts_plain word)
  where
    by_test : (b : Bool) → is_backslash c ≡ b → list_all is_name (path_of word) ≡ true
        → list_all is_name (cond b ([] ∷ path_of word) (onto_first c (path_of word))) ≡ true
    by_test true is all = all
    by_test false is all = plain_onto c (path_of word) (rw is refl) all

path_found : (word : List ℕ) → IsPath (path_of word) word
path_found word = record {
  some = omega (arith, length-slice_split is_backslash word);
  plain = parts_plain word;
  spelled = sym (join_with_byte-slice_split 92 word);
}

no_backslash : (name : List ℕ) → is_name name ≡ true → All (λ c. is_backslash c ≡ false) name
no_backslash [] e = All-nil (λ c. is_backslash c ≡ false)
no_backslash (c ∷ name) e =
    let q = and_parts (is_in_name c) (is_name name) e in
    All-cons (λ c. is_backslash c ≡ false) c name (not_true (is_backslash c) q.0) (no_backslash name q.1)

joined_read : (names : List (List ℕ)) → 0 < length names → list_all is_name names ≡ true
    → path_of (join_with_byte 92 names) ≡ names
joined_read [] some all = absurd (omega arith)
joined_read (x ∷ []) some all = slice_split_none is_backslash x (no_backslash x (and_parts (is_name x) true all).0)
joined_read (x ∷ y ∷ more) some all =
    let q = and_parts (is_name x) (list_all is_name (y ∷ more)) all in
    slice_split_at is_backslash x 92 (join_with_byte 92 (y ∷ more)) (no_backslash x q.0) refl
    ∙ ap (λ (names : List (List ℕ)). x ∷ names) (joined_read (y ∷ more) (omega arith) q.1)

path_read : (names : List (List ℕ)) (word : List ℕ) → IsPath names word → path_of word ≡ names
path_read names word is = ap path_of is.spelled ∙ joined_read names is.some is.plain

-- ---- hexadecimal digits

hex_small : (c : ℕ) → is_ascii_hexdigit c ≡ true → digit_value c < 16
hex_small c e = grind (arith, nat_tests)

hex_same : (c : ℕ) → is_ascii_hexdigit c ≡ true → hex_value c ≡ digit_value c
hex_same c e = grind (arith, nat_tests)

small_hex : (c : ℕ) → digit_value c < 16 → is_ascii_hexdigit c ≡ true
small_hex c lt = grind (arith, nat_tests)

hex_found : (word : List ℕ) → length word % 2 ≡ 0 → list_all is_ascii_hexdigit word ≡ true → IsHex (hex_bytes word) word
hex_found [] even all = refl
hex_found (high ∷ []) even all = absurd (omega arith)
hex_found (high ∷ low ∷ more) even all =
    let h = and_parts (is_ascii_hexdigit high) _ all in
    let l = and_parts (is_ascii_hexdigit low) (list_all is_ascii_hexdigit more) h.1 in
    let rest_even : length more % 2 ≡ 0 = omega arith in
    let pair : IsPair (hex_value high * 16 + hex_value low) high low = record {
      high_digit = hex_small high h.0;
      low_digit = hex_small low l.0;
      writes = rw (hex_same high h.0, hex_same low l.0) refl;
    } in
    (high, low, more, refl, pair, hex_found more rest_even l.1)

record ReadsHex (bytes word : List ℕ) : Type 0 where
  even : length word % 2 ≡ 0
  all : list_all is_ascii_hexdigit word ≡ true
  same : hex_bytes word ≡ bytes

pair_before : (byte high low : ℕ) (bytes rest : List ℕ) → IsPair byte high low → ReadsHex bytes rest
    → ReadsHex (byte ∷ bytes) (high ∷ low ∷ rest)
pair_before byte high low bytes rest pair reads =
    let h : is_ascii_hexdigit high ≡ true = small_hex high pair.high_digit in
    let l : is_ascii_hexdigit low ≡ true = small_hex low pair.low_digit in
    let before : length rest % 2 ≡ 0 = reads.even in
    record {
      even = omega arith;
      all = and_from _ _ h (and_from _ _ l reads.all);
      same = rw (hex_same high h, hex_same low l, reads.same, pair.writes) refl;
    }

hex_read : (bytes word : List ℕ) → IsHex bytes word → ReadsHex bytes word
hex_read [] word is = subst (ReadsHex []) (sym is) (record { even = refl; all = refl; same = refl })
hex_read (byte ∷ bytes) word is =
    subst (ReadsHex (byte ∷ bytes)) (sym is.3) (pair_before byte is.0 is.1 bytes is.2 is.4 (hex_read bytes is.2 is.5))

-- ---- data

dword_found : (words : List (List ℕ)) (d : ℕ × List ℕ) → dword_of words ≡ Ok d → IsDword d.0 d.1 (codes "dword" ∷ words)
unfolding dword_of
dword_found [] d e = absurd cc
dword_found (a ∷ []) d e =
    let n = bind_ok (number_from 0 a) (λ n. Ok (4, to_le_bytes w32 n)) d e in
    let made : ℕ × List ℕ = (4, to_le_bytes w32 n.0) in
    let same : made ≡ d = ok_is made d n.2 in
    record {
      number = n.0;
      word = a;
      spelled = refl;
      written = number_found 0 a n.0 n.1;
      kind_is = sym (ap (λ (x : ℕ × List ℕ). x.0) same);
      bytes_are = sym (ap (λ (x : ℕ × List ℕ). x.1) same);
    }
dword_found (a ∷ b ∷ more) d e = absurd cc

string_found : (words : List (List ℕ)) (d : ℕ × List ℕ) → string_of words ≡ Ok d → IsString d.0 d.1 (codes "sz" ∷ words)
unfolding string_of
string_found [] d e = absurd cc
string_found (a ∷ []) d e =
    let made : ℕ × List ℕ = (1, text_bytes a) in
    let same : made ≡ d = ok_is made d e in
    record {
      text = a;
      spelled = refl;
      kind_is = sym (ap (λ (x : ℕ × List ℕ). x.0) same);
      bytes_are = sym (ap (λ (x : ℕ × List ℕ). x.1) same);
    }
string_found (a ∷ b ∷ more) d e = absurd cc

strings_found : (words : List (List ℕ)) (d : ℕ × List ℕ) → done (7, texts_bytes words) ≡ Ok d
    → IsStrings d.0 d.1 (codes "multi" ∷ words)
strings_found words d e =
    let made : ℕ × List ℕ = (7, texts_bytes words) in
    let same : made ≡ d = ok_is made d e in
    record {
      texts = words;
      spelled = refl;
      kind_is = sym (ap (λ (x : ℕ × List ℕ). x.0) same);
      bytes_are = sym (ap (λ (x : ℕ × List ℕ). x.1) same);
    }

binary_found : (words : List (List ℕ)) (d : ℕ × List ℕ) → binary_of words ≡ Ok d
    → IsBinary d.0 d.1 (codes "binary" ∷ words)
unfolding binary_of is_hex
binary_found [] d e = absurd cc
binary_found (a ∷ []) d e =
    let h = holds (eqb (length a % 2) 0 && list_all is_ascii_hexdigit a) Number _ d e in
    let q = and_parts (eqb (length a % 2) 0) (list_all is_ascii_hexdigit a) h.0 in
    let made : ℕ × List ℕ = (3, hex_bytes a) in
    let same : made ≡ d = ok_is made d h.1 in
    let hex : IsHex (hex_bytes a) a = hex_found a (eqb-true _ 0 q.0) q.1 in
    record {
      word = a;
      spelled = refl;
      written = subst (λ (bytes : List ℕ). IsHex bytes a) (ap (λ (x : ℕ × List ℕ). x.1) same) hex;
      kind_is = sym (ap (λ (x : ℕ × List ℕ). x.0) same);
    }
binary_found (a ∷ b ∷ more) d e = absurd cc

data_found : (kind : List ℕ) (words : List (List ℕ)) (d : ℕ × List ℕ) → data_of kind words ≡ Ok d
    → IsData d.0 d.1 (kind ∷ words)
unfolding data_of
data_found kind words d e =
    let P : List ℕ → Type 0 = λ k. IsData d.0 d.1 (k ∷ words) in
    either _ _ _ d (P kind) (λ is f. subst P (sym (same_text kind (codes "dword") is)) (inl (dword_found words d f)))
    (either _ _ _ d (P kind) (λ is f. subst P (sym (same_text kind (codes "sz") is))
    (inr (inl (string_found words d f))))
    (either _ _ _ d (P kind) (λ is f. subst P (sym (same_text kind (codes "multi") is))
    (inr (inr (inl (strings_found words d f)))))
    (λ f. let h = holds _ Word _ d f in
    subst P (sym (same_text kind (codes "binary") h.0)) (inr (inr (inr (binary_found words d h.1))))))) e

-- data that is spelled is read
record ReadsData (kind : ℕ) (bytes : List ℕ) (words : List (List ℕ)) : Type 0 where
  word : List ℕ
  more : List (List ℕ)
  spelled : words ≡ word ∷ more
  read : data_of word more ≡ Ok (kind, bytes)

data_read : (kind : ℕ) (bytes : List ℕ) (words : List (List ℕ)) → IsData kind bytes words → ReadsData kind bytes words
unfolding data_of dword_of string_of binary_of is_hex
data_read kind bytes words (inl is) = record {
  word = codes "dword";
  more = is.word ∷ [];
  spelled = is.spelled;
  read = rw (number_read 0 is.number is.word is.written, is.kind_is, is.bytes_are) refl;
}
data_read kind bytes words (inr (inl is)) =
    record { word = codes "sz"; more = is.text ∷ []; spelled = is.spelled; read = rw (is.kind_is, is.bytes_are) refl }
data_read kind bytes words (inr (inr (inl is))) =
    record { word = codes "multi"; more = is.texts; spelled = is.spelled; read = rw (is.kind_is, is.bytes_are) refl }
data_read kind bytes words (inr (inr (inr is))) =
    let h : ReadsHex bytes is.word = hex_read bytes is.word is.written in
    record {
      word = codes "binary";
      more = is.word ∷ [];
      spelled = is.spelled;
      read = rw (h.even, h.all, h.same, is.kind_is) refl;
    }

-- ---- what words were found to ask for

yields : (made event : Event) (words : List (List ℕ)) → done made ≡ Ok event → IsSpelledBy made words
    → IsSpelledBy event words
yields made event words e is = subst (λ (x : Event). IsSpelledBy x words) (ok_is made event e) is

boot_found : (words : List (List ℕ)) (event : Event) → boot_of words ≡ Ok event
    → IsSpelledBy event (codes "boot" ∷ words)
unfolding boot_of
boot_found [] event e = yields (Boot None false) event _ e ([], refl, refl)
boot_found (a ∷ []) event e =
    either _ _ _ event (IsSpelledBy event (codes "boot" ∷ a ∷ []))
    (λ is f. yields (Boot None true) event _ f
    ([], refl, ap (λ (w : List ℕ). codes "boot" ∷ w ∷ []) (same_text a (codes "lkg") is)))
    (λ f.
    let h = holds (is_digits a) Word _ event f in
    let n = bind_ok (number_from 1 a) (λ n. Ok (Boot (Some n) false)) event h.1 in
    yields (Boot (Some n.0) false) event _ n.2 (a ∷ [], (a, refl, number_found 1 a n.0 n.1), refl)) e
boot_found (a ∷ b ∷ []) event e =
    let h = holds (is_digits a && bytes_eq b (codes "lkg")) Word _ event e in
    let q = and_parts (is_digits a) (bytes_eq b (codes "lkg")) h.0 in
    let n = bind_ok (number_from 1 a) (λ n. Ok (Boot (Some n) true)) event h.1 in
    yields (Boot (Some n.0) true) event _ n.2 (
      a ∷ [],
      (a, refl, number_found 1 a n.0 n.1),
      ap (λ (w : List ℕ). codes "boot" ∷ a ∷ w ∷ []) (same_text b (codes "lkg") q.1),
    )
boot_found (a ∷ b ∷ c ∷ more) event e = absurd cc

go_found : (words : List (List ℕ)) (event : Event) → go_of words ≡ Ok event → IsSpelledBy event (codes "go" ∷ words)
unfolding go_of
go_found [] event e = yields (Go None) event _ e ([], refl, refl)
go_found (a ∷ []) event e =
    let n = bind_ok (number_from 1 a) (λ n. Ok (Go (Some n))) event e in
    yields (Go (Some n.0)) event _ n.2 (a ∷ [], (a, refl, number_found 1 a n.0 n.1), refl)
go_found (a ∷ b ∷ more) event e = absurd cc

fail_found : (words : List (List ℕ)) (event : Event) → fail_of words ≡ Ok event
    → IsSpelledBy event (codes "fail" ∷ words)
unfolding fail_of
fail_found [] event e = absurd cc
fail_found (a ∷ []) event e = absurd cc
fail_found (a ∷ b ∷ []) event e =
    let n = bind_ok (number_from 0 b) (λ n. Ok (Fail a n)) event e in
    yields (Fail a n.0) event _ n.2 (b, number_found 0 b n.0 n.1, refl)
fail_found (a ∷ b ∷ c ∷ more) event e = absurd cc

vital_found : (words : List (List ℕ)) (event : Event) → vital_of words ≡ Ok event
    → IsSpelledBy event (codes "vital" ∷ words)
unfolding vital_of
vital_found [] event e = absurd cc
vital_found (a ∷ []) event e = yields (Vital a) event _ e refl
vital_found (a ∷ b ∷ more) event e = absurd cc

set_found : (words : List (List ℕ)) (event : Event) → set_of words ≡ Ok event → IsSpelledBy event (codes "set" ∷ words)
unfolding set_of
set_found [] event e = absurd cc
set_found (a ∷ []) event e = absurd cc
set_found (a ∷ b ∷ []) event e = absurd cc
set_found (a ∷ b ∷ c ∷ more) event e =
    let d = bind_ok (data_of c more) (λ d. Ok (Set (path_of a) b d.0 d.1)) event e in
    yields (Set (path_of a) b d.0.0 d.0.1) event _ d.2 (a, c ∷ more, path_found a, data_found c more d.0 d.1, refl)

delete_found : (words : List (List ℕ)) (event : Event) → delete_of words ≡ Ok event
    → IsSpelledBy event (codes "delete" ∷ words)
unfolding delete_of
delete_found [] event e = absurd cc
delete_found (a ∷ []) event e = absurd cc
delete_found (a ∷ b ∷ []) event e = yields (Delete (path_of a) b) event _ e (a, path_found a, refl)
delete_found (a ∷ b ∷ c ∷ more) event e = absurd cc

make_found : (words : List (List ℕ)) (event : Event) → make_of words ≡ Ok event
    → IsSpelledBy event (codes "make" ∷ words)
unfolding make_of
make_found [] event e = absurd cc
make_found (a ∷ []) event e = yields (Make (path_of a)) event _ e (a, path_found a, refl)
make_found (a ∷ b ∷ more) event e = absurd cc

remove_found : (words : List (List ℕ)) (event : Event) → remove_of words ≡ Ok event
    → IsSpelledBy event (codes "remove" ∷ words)
unfolding remove_of
remove_found [] event e = absurd cc
remove_found (a ∷ []) event e = yields (Remove (path_of a)) event _ e (a, path_found a, refl)
remove_found (a ∷ b ∷ more) event e = absurd cc

alone_found : (made event : Event) (name : List ℕ) (words : List (List ℕ)) → alone_of made words ≡ Ok event
    → IsSpelledBy made (name ∷ []) → IsSpelledBy event (name ∷ words)
alone_found made event name [] e is = yields made event _ e is
alone_found made event name (a ∷ more) e is = absurd cc

keep_found : (word : List ℕ) (keep : Keep) → keep_of word ≡ Ok keep → word ≡ keep_word keep
unfolding keep_of
keep_found word keep e =
    either _ _ _ keep (word ≡ keep_word keep)
    (λ is f. same_text word (codes "none") is ∙ ap keep_word (ok_is Nothing keep f))
    (either _ _ _ keep (word ≡ keep_word keep)
    (λ is f. same_text word (codes "all") is ∙ ap keep_word (ok_is Everything keep f))
    (either _ _ _ keep (word ≡ keep_word keep)
    (λ is f. same_text word (codes "odd") is ∙ ap keep_word (ok_is OddOnes keep f))
    (λ f. let h = holds _ Word _ keep f in same_text word (codes "torn") h.0 ∙ ap keep_word (ok_is Torn keep h.1)))) e

call_found : (word : List ℕ) (call : DiskCall) → call_of word ≡ Ok call → word ≡ call_word call
unfolding call_of
call_found word call e =
    either _ _ _ call (word ≡ call_word call)
    (λ is f. same_text word (codes "read") is ∙ ap call_word (ok_is Read call f))
    (either _ _ _ call (word ≡ call_word call)
    (λ is f. same_text word (codes "write") is ∙ ap call_word (ok_is Write call f))
    (λ f. let h = holds _ Word _ call f in same_text word (codes "sync") h.0 ∙ ap call_word (ok_is Sync call h.1))) e

cut_found : (words : List (List ℕ)) (event : Event) → cut_of words ≡ Ok event → IsSpelledBy event (codes "cut" ∷ words)
unfolding cut_of
cut_found [] event e = absurd cc
cut_found (a ∷ []) event e = absurd cc
cut_found (a ∷ b ∷ []) event e =
    let h = holds (bytes_eq a (codes "now")) Word _ event e in
    let k = bind_ok (keep_of b) (λ keep. Ok (CutNow keep)) event h.1 in
    let now : a ≡ codes "now" = same_text a (codes "now") h.0 in
    yields (CutNow k.0) event _ k.2
    (ap (λ (w : List ℕ). codes "cut" ∷ w ∷ b ∷ []) now
    ∙ ap (λ (w : List ℕ). codes "cut" ∷ codes "now" ∷ w ∷ []) (keep_found b k.0 k.1))
cut_found (a ∷ b ∷ c ∷ []) event e =
    let k = bind_ok (call_of a) (λ call. keep_of c >>= λ keep. number_from 1 b >>= λ n. Ok (ArmCut call n keep))
    event e in
    let p = bind_ok (keep_of c) (λ keep. number_from 1 b >>= λ n. Ok (ArmCut k.0 n keep)) event k.2 in
    let n = bind_ok (number_from 1 b) (λ n. Ok (ArmCut k.0 n p.0)) event p.2 in
    let spelled =
    ap (λ (w : List ℕ). codes "cut" ∷ w ∷ b ∷ c ∷ []) (call_found a k.0 k.1)
    ∙ ap (λ (w : List ℕ). codes "cut" ∷ call_word k.0 ∷ b ∷ w ∷ []) (keep_found c p.0 p.1) in
    yields (ArmCut k.0 n.0 p.0) event _ n.2 (b, number_found 1 b n.0 n.1, spelled)
cut_found (a ∷ b ∷ c ∷ d ∷ more) event e = absurd cc

fault_found : (words : List (List ℕ)) (event : Event) → fault_of words ≡ Ok event
    → IsSpelledBy event (codes "fault" ∷ words)
unfolding fault_of
fault_found [] event e = absurd cc
fault_found (a ∷ []) event e = absurd cc
fault_found (a ∷ b ∷ []) event e =
    let k = bind_ok (call_of a) (λ call. number_from 1 b >>= λ n. Ok (ArmFault call n)) event e in
    let n = bind_ok (number_from 1 b) (λ n. Ok (ArmFault k.0 n)) event k.2 in
    yields (ArmFault k.0 n.0) event _ n.2
    (b, number_found 1 b n.0 n.1, ap (λ (w : List ℕ). codes "fault" ∷ w ∷ b ∷ []) (call_found a k.0 k.1))
fault_found (a ∷ b ∷ c ∷ more) event e = absurd cc

-- the command is the one of this name
as_named : (event : Event) (words : List (List ℕ)) (name wanted : List ℕ) → bytes_eq name wanted ≡ true
    → IsSpelledBy event (wanted ∷ words) → IsSpelledBy event (name ∷ words)
as_named event words name wanted is spelled =
    subst (λ (n : List ℕ). IsSpelledBy event (n ∷ words)) (sym (same_text name wanted is)) spelled

edit_found : (name : List ℕ) (words : List (List ℕ)) (event : Event) → edit_of name words ≡ Ok event
    → IsSpelledBy event (name ∷ words)
unfolding edit_of
edit_found name words event e =
    let P : Type 0 = IsSpelledBy event (name ∷ words) in
    either _ _ _ event P (λ is f. as_named event words name (codes "set") is (set_found words event f))
    (either _ _ _ event P (λ is f. as_named event words name (codes "delete") is (delete_found words event f))
    (either _ _ _ event P (λ is f. as_named event words name (codes "make") is (make_found words event f))
    (λ f. let h = holds _ Word _ event f in
    as_named event words name (codes "remove") h.0 (remove_found words event h.1)))) e

pub command_found : (name : List ℕ) (words : List (List ℕ)) (event : Event) → command_of name words ≡ Ok event
    → IsSpelledBy event (name ∷ words)
unfolding command_of
command_found name words event e =
    let P : Type 0 = IsSpelledBy event (name ∷ words) in
    either _ _ _ event P (λ is f. as_named event words name (codes "boot") is (boot_found words event f))
    (either _ _ _ event P (λ is f. as_named event words name (codes "go") is (go_found words event f))
    (either _ _ _ event P (λ is f. as_named event words name (codes "fail") is (fail_found words event f))
    (either _ _ _ event P (λ is f. as_named event words name (codes "vital") is (vital_found words event f))
    (either _ _ _ event P (λ is f. as_named event words name (codes "flush") is
    (alone_found Flush event (codes "flush") words f refl))
    (either _ _ _ event P (λ is f. as_named event words name (codes "logon") is
    (alone_found Logon event (codes "logon") words f refl))
    (either _ _ _ event P (λ is f. as_named event words name (codes "off") is
    (alone_found Off event (codes "off") words f refl))
    (either _ _ _ event P (λ is f. as_named event words name (codes "cut") is (cut_found words event f))
    (either _ _ _ event P (λ is f. as_named event words name (codes "fault") is (fault_found words event f))
    (edit_found name words event))))))))) e

-- ---- what is spelled is read

boot_alone : (good : Bool) → event_of (codes "boot" ∷ good_words good) ≡ Ok (Some (Boot None good))
unfolding event_of command_of boot_of
boot_alone true = refl
boot_alone false = refl

not_lkg : (word : List ℕ) → 0 < length word → list_all is_ascii_digit word ≡ true → bytes_eq word (codes "lkg") ≡ false
not_lkg [] some digits = absurd (omega arith)
not_lkg (c ∷ word) some digits =
    rw (ne_eqb c 108 (λ is. let P : ℕ → Type 0 = λ n. is_ascii_digit n ≡ true in
    false≢true (subst P is (and_parts (is_ascii_digit c) _ digits).0))) refl

boot_entry : (n : ℕ) (word : List ℕ) (good : Bool) → IsNumber 1 n word
    → event_of (codes "boot" ∷ word ∷ good_words good) ≡ Ok (Some (Boot (Some n) good))
unfolding event_of command_of boot_of
boot_entry n word true is = rw (digits_are 1 n word is, number_read 1 n word is) refl
boot_entry n word false is = rw (not_lkg word is.some is.digits, digits_are 1 n word is, number_read 1 n word is) refl

go_alone : event_of (codes "go" ∷ []) ≡ Ok (Some (Go None))
unfolding event_of command_of go_of
go_alone = refl

go_steps : (n : ℕ) (word : List ℕ) → IsNumber 1 n word → event_of (codes "go" ∷ word ∷ []) ≡ Ok (Some (Go (Some n)))
unfolding event_of command_of go_of
go_steps n word is = rw (number_read 1 n word is) refl

fail_read : (name : List ℕ) (n : ℕ) (word : List ℕ) → IsNumber 0 n word
    → event_of (codes "fail" ∷ name ∷ word ∷ []) ≡ Ok (Some (Fail name n))
unfolding event_of command_of fail_of
fail_read name n word is = rw (number_read 0 n word is) refl

vital_read : (name : List ℕ) → event_of (codes "vital" ∷ name ∷ []) ≡ Ok (Some (Vital name))
unfolding event_of command_of vital_of
vital_read name = refl

set_read : (path : List (List ℕ)) (key name : List ℕ) (kind : ℕ) (bytes : List ℕ) (value : List (List ℕ))
    → IsPath path key
    → IsData kind bytes value
    → event_of (codes "set" ∷ key ∷ name ∷ value) ≡ Ok (Some (Set path name kind bytes))
unfolding event_of command_of edit_of set_of
set_read path key name kind bytes value is written =
    let d : ReadsData kind bytes value = data_read kind bytes value written in
    rw (d.spelled, d.read, path_read path key is) refl

delete_read : (path : List (List ℕ)) (key name : List ℕ) → IsPath path key
    → event_of (codes "delete" ∷ key ∷ name ∷ []) ≡ Ok (Some (Delete path name))
unfolding event_of command_of edit_of delete_of
delete_read path key name is = rw (path_read path key is) refl

make_read : (path : List (List ℕ)) (key : List ℕ) → IsPath path key
    → event_of (codes "make" ∷ key ∷ []) ≡ Ok (Some (Make path))
unfolding event_of command_of edit_of make_of
make_read path key is = rw (path_read path key is) refl

remove_read : (path : List (List ℕ)) (key : List ℕ) → IsPath path key
    → event_of (codes "remove" ∷ key ∷ []) ≡ Ok (Some (Remove path))
unfolding event_of command_of edit_of remove_of
remove_read path key is = rw (path_read path key is) refl

flush_read : event_of (codes "flush" ∷ []) ≡ Ok (Some Flush)
unfolding event_of command_of
flush_read = refl

logon_read : event_of (codes "logon" ∷ []) ≡ Ok (Some Logon)
unfolding event_of command_of
logon_read = refl

off_read : event_of (codes "off" ∷ []) ≡ Ok (Some Off)
unfolding event_of command_of
off_read = refl

keep_read : (keep : Keep) → keep_of (keep_word keep) ≡ Ok keep
unfolding keep_of
keep_read Nothing = refl
keep_read Everything = refl
keep_read OddOnes = refl
keep_read Torn = refl

call_read : (call : DiskCall) → call_of (call_word call) ≡ Ok call
unfolding call_of
call_read Read = refl
call_read Write = refl
call_read Sync = refl

now_read : (keep : Keep) → event_of (codes "cut" ∷ codes "now" ∷ keep_word keep ∷ []) ≡ Ok (Some (CutNow keep))
unfolding event_of command_of cut_of
now_read keep = rw (keep_read keep) refl

cut_read : (call : DiskCall) (n : ℕ) (word : List ℕ) (keep : Keep) → IsNumber 1 n word
    → event_of (codes "cut" ∷ call_word call ∷ word ∷ keep_word keep ∷ []) ≡ Ok (Some (ArmCut call n keep))
unfolding event_of command_of cut_of
cut_read call n word keep is = rw (call_read call, keep_read keep, number_read 1 n word is) refl

fault_read : (call : DiskCall) (n : ℕ) (word : List ℕ) → IsNumber 1 n word
    → event_of (codes "fault" ∷ call_word call ∷ word ∷ []) ≡ Ok (Some (ArmFault call n))
unfolding event_of command_of fault_of
fault_read call n word is = rw (call_read call, number_read 1 n word is) refl

pub event_read : (event : Event) (words : List (List ℕ)) → IsSpelledBy event words → event_of words ≡ Ok (Some event)
event_read (Boot None good) words h =
    ap event_of (h.2 ∙ ap (λ (number : List (List ℕ)). codes "boot" ∷ (number ++ good_words good)) h.1)
    ∙ boot_alone good
event_read (Boot (Some n) good) words h =
    let number = h.1 in
    ap event_of (h.2 ∙ ap (λ (number : List (List ℕ)). codes "boot" ∷ (number ++ good_words good)) number.1)
    ∙ boot_entry n number.0 good number.2
event_read (Go None) words h = ap event_of (h.2 ∙ ap (λ (number : List (List ℕ)). codes "go" ∷ number) h.1) ∙ go_alone
event_read (Go (Some n)) words h =
    let number = h.1 in
    ap event_of (h.2 ∙ ap (λ (number : List (List ℕ)). codes "go" ∷ number) number.1) ∙ go_steps n number.0 number.2
event_read (Fail name count) words h = ap event_of h.2 ∙ fail_read name count h.0 h.1
event_read (Vital name) words h = ap event_of h ∙ vital_read name
event_read (Set path name kind bytes) words h = ap event_of h.4 ∙ set_read path h.0 name kind bytes h.1 h.2 h.3
event_read (Delete path name) words h = ap event_of h.2 ∙ delete_read path h.0 name h.1
event_read (Make path) words h = ap event_of h.2 ∙ make_read path h.0 h.1
event_read (Remove path) words h = ap event_of h.2 ∙ remove_read path h.0 h.1
event_read Flush words h = ap event_of h ∙ flush_read
event_read Logon words h = ap event_of h ∙ logon_read
event_read Off words h = ap event_of h ∙ off_read
event_read (CutNow keep) words h = ap event_of h ∙ now_read keep
event_read (ArmCut call n keep) words h = ap event_of h.2 ∙ cut_read call n h.0 keep h.1
event_read (ArmFault call n) words h = ap event_of h.2 ∙ fault_read call n h.0 h.1
