-- A text that spells a path is read as that path; the text that is written spells it.
use Rattle.std.proofs.Common.{◌≡◌, inl, inr, ℕ, zero, suc, ◌+◌, ◌-◌, ◌^◌, ◌<◌, ◌≤◌, ◌/◌, ◌%◌, true, false, eqb, List, [], ◌∷◌, ◌++◌, length, take, Ok, refl, sym, ap, ◌∙◌, arith, append_assoc, codes}
use Rattle.std.specs.List.{list_all, prefix_len, suffix_len}
use Rattle.std.specs.Char.{is_digit, digit_value, to_ascii_lowercase}
use Rattle.std.specs.Fmt.{decimal, digit_glyph}
use Rattle.std.specs.Str.{str_eq_ignore_ascii_case}
use Rattle.std.specs.Str.Parse.{AllDigits}
use Rattle.std.proofs.lemmas.Fmt.{decimal_is_IsNumeral, length-decimal-le}
use Rattle.std.proofs.lemmas.List.{take_at, drop_at, length-append, length-take, append-nil}
use Rattle.std.proofs.lemmas.List.Sums.{prefix_len_passes, suffix_len-le-length}
use Rattle.std.proofs.lemmas.List.Folds.{list_all-append}
use Rattle.std.proofs.lemmas.Bool.{false≢true, eqb-true, lt-ltb, le-ltb, ne_eqb, and_parts}
use Rattle.std.proofs.lemmas.Bool.Decides.{nat_tests}
use Rattle.boot_ini.specs.declared.arc_path.arc.Arc.{Arc}
use Rattle.boot_ini.specs.declared.arc_path.arc.ArcKind.{ArcKind}
use Rattle.boot_ini.specs.declared.arc_path.arc.ArcKind.TheVariants.{Multi, Scsi, Signature}
use Rattle.boot_ini.specs.arc_path.Reading.{number_at, word_at, item_at, kind_at, partition_at, numbers_at, directory_at, parts_at, arc_of, without_last_backslashes, radix_of, most_of}
use Rattle.nt_bytes.specs.Text.{is_backslash, is_printable}
use Rattle.boot_ini.specs.arc_path.Spelling.{IsNumeral, IsItem, word_of, IsDirectory, IsSpelled, IsPath, eight_digits, text_of, first_text, numbers_text, directory_text}
use Rattle.boot_ini.proofs.Ends.{all_from, whole_front, last_fails, end_dropped}
use Rattle.boot_ini.proofs.Found.{IsNamed, no_backslashes}

-- ---- words

pub same_length : (name word : List ℕ) → IsNamed word name → length name ≡ length word
same_length [] [] e = refl
same_length [] (d ∷ word) e = absurd (false≢true e)
same_length (c ∷ name) [] e = absurd (false≢true e)
same_length (c ∷ name) (d ∷ word) e = let same : length name ≡ length word =
    same_length name word (and_parts (eqb (to_ascii_lowercase c) (to_ascii_lowercase d)) _ e).1 in omega arith

pub word_found : (word name rest : List ℕ) → IsNamed word name → word_at word (name ++ rest) ≡ Ok rest
unfolding word_at
word_found word name rest e =
    let n = same_length name word e in
    rw (take_at name rest (length word) n, e, drop_at name rest (length word) n) refl

closing_found : (rest : List ℕ) → word_at (codes ")") (codes ")" ++ rest) ≡ Ok rest
unfolding word_at
closing_found rest = refl

-- a text that begins with another letter is another word
other_word : (d e k : ℕ) (ds es name rest : List ℕ) → eqb (to_ascii_lowercase d) (to_ascii_lowercase e) ≡ false
    → IsNamed (d ∷ ds) name
    → str_eq_ignore_ascii_case (take (suc k) (name ++ rest)) (e ∷ es) ≡ false
other_word d e k ds es [] rest differ is = absurd (false≢true is)
other_word d e k ds es (c ∷ name) rest differ is =
    rw (eqb-true (to_ascii_lowercase c) (to_ascii_lowercase d) (and_parts _ _ is).0, differ) refl

-- so much of the text as another word has is the word's own beginning
same_front : (k : ℕ) (name rest word other : List ℕ) → IsNamed word name → k ≤ length word
    → str_eq_ignore_ascii_case (take k (name ++ rest)) other ≡ str_eq_ignore_ascii_case (take k word) other
same_front zero name rest word other is le = refl
same_front (suc k) [] rest [] other is le = absurd (omega arith)
same_front (suc k) [] rest (d ∷ word) other is le = absurd (false≢true is)
same_front (suc k) (c ∷ name) rest [] other is le = absurd (false≢true is)
same_front (suc k) (c ∷ name) rest (d ∷ word) [] is le = refl
same_front (suc k) (c ∷ name) rest (d ∷ word) (o ∷ other) is le =
    let q = and_parts (eqb (to_ascii_lowercase c) (to_ascii_lowercase d)) _ is in
    rw (eqb-true (to_ascii_lowercase c) (to_ascii_lowercase d) q.0, same_front k name rest word other q.1 (omega arith))
    refl

pub kind_found : (k : ArcKind) (name rest : List ℕ) → IsNamed (word_of k) name → kind_at (name ++ rest) ≡ Ok (k, rest)
unfolding kind_at
kind_found Multi name rest e =
    let n = same_length name (codes "multi(") e in rw (take_at name rest 6 n, e, drop_at name rest 6 n) refl
kind_found Scsi name rest e =
    let n = same_length name (codes "scsi(") e in
    rw (
      other_word 115 109 5 (codes "csi(") (codes "ulti(") name rest refl e,
      take_at name rest 5 n,
      e,
      drop_at name rest 5 n,
    ) refl
kind_found Signature name rest e =
    let n = same_length name (codes "signature(") e in
    let no_multi = same_front 6 name rest (codes "signature(") (codes "multi(") e (omega arith) in
    let no_scsi = same_front 5 name rest (codes "signature(") (codes "scsi(") e (omega arith) in
    rw (no_multi, no_scsi, take_at name rest 10 n, e, drop_at name rest 10 n) refl

-- ---- numbers

digits_counted : (radix : ℕ) (ds rest : List ℕ) → AllDigits radix ds → is_digit 41 radix ≡ false
    → prefix_len (λ c. is_digit c radix) (ds ++ 41 ∷ rest) ≡ length ds
digits_counted radix [] rest all none = rw none refl
digits_counted radix (d ∷ ds) rest all none =
    rw (lt-ltb _ _ all.0, digits_counted radix ds rest all.1 none) (omega arith)

numeral_found : (radix most value : ℕ) (shown rest : List ℕ) → is_digit 41 radix ≡ false
    → IsNumeral radix most value shown
    → number_at radix most (shown ++ (codes ")" ++ rest)) ≡ Ok (value, codes ")" ++ rest)
unfolding number_at
numeral_found radix most value shown rest none is =
    let n = digits_counted radix shown rest is.digits none in
    let some : 0 < length shown = is.some in
    let ne : eqb (length shown) 0 ≡ false = ne_eqb _ 0 (λ z. absurd (omega arith)) in
    rw (n, ne, le-ltb most (length shown) is.few, take_at shown (41 ∷ rest), drop_at shown (41 ∷ rest), is.writes) refl

-- a word, its number and `)`
item_parts : (word : List ℕ) (radix most value : ℕ) (shown rest : List ℕ) (is : IsItem word radix most value shown)
    → shown ++ rest ≡ is.name ++ (is.number ++ (codes ")" ++ rest))
item_parts word radix most value shown rest is = ap (λ (t : List ℕ). t ++ rest) is.spelled ∙ simp append_assoc

item_found : (word : List ℕ) (value : ℕ) (shown rest : List ℕ) → IsItem word 10 9 value shown
    → item_at word (shown ++ rest) ≡ Ok (value, rest)
unfolding item_at
item_found word value shown rest is =
    ap (item_at word) (item_parts word 10 9 value shown rest is)
    ∙ rw (
      word_found word is.name _ is.named,
      numeral_found 10 9 value is.number rest refl is.numeral,
      closing_found rest,
    ) refl

partition_found : (value : ℕ) (shown rest : List ℕ) → IsItem (codes "partition(") 10 9 value shown → 0 < value
    → partition_at (shown ++ rest) ≡ Ok (value, rest)
unfolding partition_at
partition_found value shown rest is some =
    let ne : eqb value 0 ≡ false = ne_eqb _ 0 (λ z. absurd (omega arith)) in
    ap partition_at (item_parts (codes "partition(") 10 9 value shown rest is)
    ∙ rw (
      word_found (codes "partition(") is.name _ is.named,
      numeral_found 10 9 value is.number rest refl is.numeral,
      ne,
      closing_found rest,
    ) refl

no_digit : (k : ArcKind) → is_digit 41 (radix_of k) ≡ false
no_digit Multi = refl
no_digit Scsi = refl
no_digit Signature = refl

-- ---- the directory

backslashes_print : (more : List ℕ) → list_all is_backslash more ≡ true → list_all is_printable more ≡ true
backslashes_print [] e = refl
backslashes_print (c ∷ more) e = let q = and_parts (is_backslash c) (list_all is_backslash more) e in
    rw (eqb-true c 92 q.0, backslashes_print more q.1) refl

directory_behind : (dir more : List ℕ) → list_all is_backslash more ≡ true → list_all is_printable dir ≡ true
    → suffix_len is_backslash dir ≡ 0 → directory_at (92 ∷ (dir ++ more)) ≡ Ok dir
unfolding directory_at
directory_behind dir more dropped printable none =
    let all : list_all is_printable (dir ++ more) ≡ true =
    list_all-append is_printable dir more ∙ rw (printable, backslashes_print more dropped) refl in
    rw (
      whole_front is_printable (dir ++ more) all,
      le-ltb (length (dir ++ more)) (length (dir ++ more)) (omega arith),
      end_dropped is_backslash dir more dropped none,
    ) refl

no_directory : directory_at [] ≡ Ok []
unfolding directory_at
no_directory = refl

directory_found : (dir shown : List ℕ) → IsDirectory dir shown → directory_at shown ≡ Ok dir
directory_found dir shown (inl none) = rw (none.0, none.1) no_directory
directory_found dir shown (inr is) =
    ap directory_at is.spelled ∙ directory_behind dir is.more is.dropped is.printable (no_backslashes dir is.ends)

-- ---- the whole text

numbers_found : (text : List ℕ) (a : Arc) (is : IsSpelled text a)
    → numbers_at text ≡ Ok (
      record
          { kind = a.kind; controller = a.controller; disk = a.disk; rdisk = a.rdisk; partition = a.partition },
      is.directory,
    )
unfolding numbers_at
numbers_found text a is =
    let radix : ℕ = radix_of a.kind in
    let most : ℕ = most_of a.kind in
    let first : IsItem (word_of a.kind) radix most a.controller is.controller = is.is_controller in
    let behind_rdisk : List ℕ = is.partition ++ is.directory in
    let behind_disk : List ℕ = is.rdisk ++ behind_rdisk in
    let behind : List ℕ = is.disk ++ behind_disk in
    let kind = kind_found a.kind first.name (first.number ++ (codes ")" ++ behind)) first.named in
    let controller = numeral_found radix most a.controller first.number behind (no_digit a.kind) first.numeral in
    let disk = item_found (codes "disk(") a.disk is.disk behind_disk is.is_disk in
    let rdisk = item_found (codes "rdisk(") a.rdisk is.rdisk behind_rdisk is.is_rdisk in
    let partition = partition_found a.partition is.partition is.directory is.is_partition is.some_partition in
    ap numbers_at (is.spelled ∙ item_parts (word_of a.kind) radix most a.controller is.controller behind first)
    ∙ rw (kind, controller, closing_found behind, disk, rdisk, partition) refl

pub spelled_is_read : (text : List ℕ) (a : Arc) → IsSpelled text a → arc_of text ≡ Ok a
unfolding arc_of parts_at
spelled_is_read text a is = rw (numbers_found text a is, directory_found a.dir is.directory is.is_directory) refl

-- ---- the text that is written

glyph_value : (d : ℕ) → d < 16 → digit_value (digit_glyph false d) ≡ d
glyph_value d lt = grind (arith, nat_tests)

eight_read : (n : ℕ) → n < 16 ^ 8 → IsNumeral 16 8 n (eight_digits n)
unfolding eight_digits
eight_read n small =
    let g : (k : ℕ) → digit_value (digit_glyph false (k % 16)) ≡ k % 16 = λ k. glyph_value (k % 16) (omega arith) in
    let b : (k : ℕ) → digit_value (digit_glyph false (k % 16)) < 16 = λ k. rw (g k) (omega arith) in
    record {
      digits = (
        b (n / 268435456),
        (
          b (n / 16777216),
          (
            b (n / 1048576),
            (b (n / 65536), (b (n / 4096), (b (n / 256), (b (n / 16), (b n, tt))))),
          ),
        ),
      );
      some = omega arith;
      few = omega arith;
      writes = rw (
        g (n / 268435456),
        g (n / 16777216),
        g (n / 1048576),
        g (n / 65536),
        g (n / 4096),
        g (n / 256),
        g (n / 16),
        g n,
      ) (omega arith);
    }

decimal_read : (n : ℕ) → n < 10 ^ 9 → IsNumeral 10 9 n (decimal n)
decimal_read n small =
    let wide : n < 2 ^ 64 = omega arith in
    let is = decimal_is_IsNumeral n wide in
    record { digits = is.0.1; some = is.0.0; few = length-decimal-le 9 n (omega arith) small wide; writes = is.1 }

number_text : ArcKind → ℕ → List ℕ
number_text Multi n = decimal n
number_text Scsi n = decimal n
number_text Signature n = eight_digits n

number_read : (k : ArcKind) (n : ℕ) → n < radix_of k ^ most_of k
    → IsNumeral (radix_of k) (most_of k) n (number_text k n)
unfolding number_text
number_read Multi n small = decimal_read n small
number_read Scsi n small = decimal_read n small
number_read Signature n small = eight_read n small

first_is : (k : ArcKind) (n : ℕ) → first_text k n ≡ word_of k ++ number_text k n
unfolding number_text
first_is Multi n = refl
first_is Scsi n = refl
first_is Signature n = refl

same_word : (k : ArcKind) → IsNamed (word_of k) (word_of k)
same_word Multi = refl
same_word Scsi = refl
same_word Signature = refl

item_text : (word : List ℕ) (radix most value : ℕ) (digits : List ℕ) → IsNamed word word
    → IsNumeral radix most value digits
    → IsItem word radix most value (word ++ (digits ++ codes ")"))
item_text word radix most value digits named is =
    record { name = word; number = digits; spelled = refl; named = named; numeral = is }

parts_text : (k : ArcKind) (c d r n : ℕ) (dir : List ℕ) → first_text k c ++ numbers_text d r n ++ directory_text dir
    ≡ (word_of k ++ (number_text k c ++ codes ")"))
    ++ ((codes "disk(" ++ (decimal d ++ codes ")"))
    ++ ((codes "rdisk(" ++ (decimal r ++ codes ")"))
    ++ ((codes "partition(" ++ (decimal n ++ codes ")")) ++ directory_text dir)))
parts_text k c d r n dir = rw (first_is k c) (simp append_assoc)

ends_so : (dir front : List ℕ) → without_last_backslashes dir ≡ dir → dir ≡ front ++ codes "\\" → ⊥
ends_so dir front trimmed is =
    let same : length (without_last_backslashes dir) ≡ length dir = ap length trimmed in
    let short : length (front ++ codes "\\") ≡ length front + 1 = length-append front (codes "\\") in
    let long : length dir ≡ length (front ++ codes "\\") = ap length is in
    let none : suffix_len is_backslash dir ≡ 0 =
    omega (arith, length-take (length dir - suffix_len is_backslash dir) dir, suffix_len-le-length is_backslash dir) in
    false≢true (sym (last_fails is_backslash dir front 92 none is))

directory_is : (dir : List ℕ) → prefix_len is_printable dir ≡ length dir → without_last_backslashes dir ≡ dir
    → IsDirectory dir (directory_text dir)
directory_is [] all trimmed = inl (refl, refl)
directory_is (c ∷ dir) all trimmed = inr (record {
  more = [];
  spelled = ap (λ (t : List ℕ). 92 ∷ t) (sym (append-nil (c ∷ dir)));
  dropped = refl;
  printable = all_from is_printable (c ∷ dir) (λ i lt. prefix_len_passes is_printable (c ∷ dir) i 0 (omega arith));
  ends = λ front is. ends_so (c ∷ dir) front trimmed is;
})

-- the text of a path is one of those that spell it
pub text_spells : (a : Arc) → IsPath a → IsSpelled (text_of a) a
text_spells a p =
    let k : ArcKind = a.kind in
    let digits : List ℕ = number_text k a.controller in record {
      controller = word_of k ++ (digits ++ codes ")");
      disk = codes "disk(" ++ (decimal a.disk ++ codes ")");
      rdisk = codes "rdisk(" ++ (decimal a.rdisk ++ codes ")");
      partition = codes "partition(" ++ (decimal a.partition ++ codes ")");
      directory = directory_text a.dir;
      spelled = parts_text k a.controller a.disk a.rdisk a.partition a.dir;
      is_controller = item_text (word_of k) (radix_of k) (most_of k) a.controller digits (same_word k)
          (number_read k a.controller p.controller);
      is_disk = item_text (codes "disk(") 10 9 a.disk (decimal a.disk) refl (decimal_read a.disk p.disk);
      is_rdisk = item_text (codes "rdisk(") 10 9 a.rdisk (decimal a.rdisk) refl (decimal_read a.rdisk p.rdisk);
      is_partition = item_text (codes "partition(") 10 9 a.partition (decimal a.partition) refl
          (decimal_read a.partition p.partition);
      some_partition = p.some_partition;
      is_directory = directory_is a.dir p.printable p.trimmed;
    }
