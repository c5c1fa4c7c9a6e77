-- A text that is read as a path spells it, and so what is read is a path.
use Rattle.std.proofs.Common.{◌≡◌, inl, inr, ℕ, suc, ◌+◌, ◌-◌, ◌^◌, ◌<◌, ◌≤◌, Bool, true, false, cond, ltb, eqb, not, ◌&&◌, ◌||◌, List, [], ◌∷◌, ◌++◌, length, take, drop, Result, Ok, Err, refl, sym, subst, ap, ◌∙◌, arith, append_assoc, codes}
use Rattle.std.specs.List.{list_all, prefix_len, suffix_len}
use Rattle.std.specs.Char.{is_digit, to_ascii_lowercase}
use Rattle.std.specs.Str.{str_eq_ignore_ascii_case}
use Rattle.std.specs.Str.Parse.{AllDigits, digits_value}
use Rattle.std.proofs.lemmas.Int.Digits.{digits_value-lt}
use Rattle.std.proofs.Math.Nat.{pow-le-pow_right}
use Rattle.std.proofs.lemmas.Bool.{false≢true, ltb-true, ltb-false, eqb-true, eqb-false, ne_eqb, and_parts}
use Rattle.std.proofs.lemmas.List.{take_all, take-append-drop}
use Rattle.std.proofs.lemmas.List.Folds.{length-prefix_len, list_all-append}
use Rattle.std.proofs.lemmas.List.Sums.{prefix_len_passes}
use Rattle.boot_ini.proofs.Ends.{all_from, whole_front, no_suffix, all_behind, last_fails, no_end}
use Rattle.boot_ini.specs.declared.arc_path.arc.Arc.{Arc}
use Rattle.boot_ini.specs.declared.arc_path.arc.ArcKind.{ArcKind}
use Rattle.boot_ini.specs.declared.arc_path.arc.ArcKind.TheVariants.{Multi, Scsi, Signature}
use Rattle.boot_ini.specs.declared.arc_path.reading.Early.{Early}
use Rattle.boot_ini.specs.declared.arc_path.reading.Numbers.{Numbers}
use Rattle.boot_ini.specs.arc_path.Reading.{number_at, word_at, item_at, kind_at, partition_at, numbers_at, directory_at, parts_at, arc_of, placed, arc_from, without_last_backslashes, radix_of, most_of}
use Rattle.nt_bytes.specs.Text.{is_backslash, is_printable}
use Rattle.nt_bytes.specs.Reading.{◌>>=◌}
use Rattle.boot_ini.specs.arc_path.Spelling.{IsNumeral, IsItem, word_of, IsBehindBackslash, IsDirectory, IsSpelled, IsPath}

-- ---- what a reader that succeeded has found

pub bind_ok : {A B : Type 0} (r : Result A Early) (f : A → Result B Early) (y : B) → (r >>= f) ≡ Ok y
    → (x : A) × (r ≡ Ok x) × (f x ≡ Ok y)
bind_ok (Ok x) f y e = (x, refl, e)
bind_ok (Err d) f y e = absurd cc

guard_ok : {A : Type 0} (b : Bool) (d : Early) (x y : A) → cond b (Err d) (Ok x) ≡ Ok y → (b ≡ false) × (x ≡ y)
guard_ok true d x y e = absurd cc
guard_ok false d x y e = (refl, cc)

test_ok : {A : Type 0} (b : Bool) (d : Early) (x y : A) → cond b (Ok x) (Err d) ≡ Ok y → (b ≡ true) × (x ≡ y)
test_ok true d x y e = (refl, cc)
test_ok false d x y e = absurd cc

pub passed : {A : Type 0} (b : Bool) (d : Early) (r : Result A Early) (y : A) → cond b (Err d) r ≡ Ok y
    → (b ≡ false) × (r ≡ Ok y)
passed true d r y e = absurd cc
passed false d r y e = (refl, e)

unfoldable pub done : {A : Type 0} → A → Result A Early
done x = Ok x

pub ok_is : {A : Type 0} (x y : A) → done x ≡ done y → x ≡ y
unfolding done
ok_is x y e = cc

-- the front of a text, of which P holds, and the rest
abbrev pub Front : (List ℕ → Type 0) → List ℕ → List ℕ → Type 0
Front P text rest = (shown : List ℕ) × (text ≡ shown ++ rest) × P shown

abbrev pub IsNamed : List ℕ → List ℕ → Type 0
IsNamed word name = str_eq_ignore_ascii_case name word ≡ true

front_at : (P : List ℕ → Type 0) (k : ℕ) (text rest : List ℕ) → drop k text ≡ rest → P (take k text) → Front P text rest
front_at P k text rest e p = (take k text, sym (take-append-drop k text) ∙ ap (λ (t : List ℕ). take k text ++ t) e, p)

pub word_front : (word text rest : List ℕ) → word_at word text ≡ Ok rest → Front (IsNamed word) text rest
unfolding word_at
word_front word text rest e =
    let g = test_ok (str_eq_ignore_ascii_case (take (length word) text) word) _ (drop (length word) text) rest e in
    front_at (IsNamed word) (length word) text rest g.1 g.0

-- ---- numbers

-- how many digits the text begins with
abbrev pub digit_count : ℕ → List ℕ → ℕ
digit_count radix text = prefix_len (λ c. is_digit c radix) text

pub digits_front : (radix : ℕ) (text : List ℕ) → AllDigits radix (take (digit_count radix text) text)
digits_front radix [] = tt
digits_front radix (c ∷ text) = by_test (is_digit c radix) refl (digits_front radix text)
  where
    one : 1 + digit_count radix text ≡ suc (digit_count radix text)
    one = omega arith

    by_test : (b : Bool) → is_digit c radix ≡ b → AllDigits radix (take (digit_count radix text) text)
        → AllDigits radix (take (cond b (1 + digit_count radix text) 0) (c ∷ text))
    by_test true e rest = rw one (ltb-true _ _ e, rest)
    by_test false e rest = tt

left_false : (a b : Bool) → (a || b) ≡ false → a ≡ false
left_false true b e = absurd (false≢true (sym e))
left_false false b e = refl

right_false : (a b : Bool) → (a || b) ≡ false → b ≡ false
right_false true b e = absurd cc
right_false false b e = e

not_zero : (n : ℕ) → eqb n 0 ≡ false → 0 < n
not_zero n e = omega (arith, eqb-false n 0 e)

pub number_front : (radix most : ℕ) (text : List ℕ) (x : ℕ × List ℕ) → number_at radix most text ≡ Ok x
    → Front (IsNumeral radix most x.0) text x.1
unfolding number_at
number_front radix most text x e =
    let n : ℕ = digit_count radix text in
    let g = guard_ok (eqb n 0 || ltb most n) _ (digits_value radix (take n text), drop n text) x e in
    let some : 0 < n = not_zero n (left_false _ _ g.0) in
    let few : n ≤ most = ltb-false _ _ (right_false (eqb n 0) _ g.0) in
    let whole : length (take n text) ≡ n = length-prefix_len (λ c. is_digit c radix) text in
    front_at (IsNumeral radix most x.0) n text x.1 (ap (λ (y : ℕ × List ℕ). y.1) g.1) (record {
      digits = digits_front radix text;
      some = omega arith;
      few = omega arith;
      writes = ap (λ (y : ℕ × List ℕ). y.0) g.1;
    })

-- ---- a word with its number

lower_closing : (c : ℕ) → to_ascii_lowercase c ≡ 41 → c ≡ 41
lower_closing c e = grind (arith, ltb-true, ltb-false)

only_closing : (name : List ℕ) → IsNamed (codes ")") name → name ≡ codes ")"
only_closing [] e = absurd (false≢true e)
only_closing (c ∷ []) e =
    ap (λ (d : ℕ). d ∷ []) (lower_closing c (eqb-true (to_ascii_lowercase c) 41 (and_parts _ true e).0))
only_closing (c ∷ d ∷ name) e = absurd (false≢true (and_parts (eqb (to_ascii_lowercase c) 41) false e).1)

-- what stands after a number: `)`, and the rest
pub closing_behind : (text rest : List ℕ) → word_at (codes ")") text ≡ Ok rest → text ≡ codes ")" ++ rest
closing_behind text rest e =
    let w = word_front (codes ")") text rest e in w.1 ∙ ap (λ (t : List ℕ). t ++ rest) (only_closing w.0 w.2)

-- a word, a number and `)` in sequence
item_of : (word : List ℕ) (radix most : ℕ) (text inside : List ℕ) (x : ℕ × List ℕ) (rest : List ℕ)
    → Front (IsNamed word) text inside
    → Front (IsNumeral radix most x.0) inside x.1
    → x.1 ≡ codes ")" ++ rest → Front (IsItem word radix most x.0) text rest
item_of word radix most text inside x rest name number closing =
    let name_text : List ℕ = name.0 in
    let number_text : List ℕ = number.0 in
    let behind : inside ≡ number_text ++ (codes ")" ++ rest) =
    number.1 ∙ ap (λ (t : List ℕ). number_text ++ t) closing in
    let whole : text ≡ name_text ++ (number_text ++ (codes ")" ++ rest)) =
    name.1 ∙ ap (λ (t : List ℕ). name_text ++ t) behind in (
      name_text ++ (number_text ++ codes ")"),
      whole
          ∙ simp append_assoc,
      record
          { name = name_text; number = number_text; spelled = refl; named = name.2; numeral = number.2 },
    )

item_front : (word text : List ℕ) (x : ℕ × List ℕ) → item_at word text ≡ Ok x → Front (IsItem word 10 9 x.0) text x.1
unfolding item_at done
item_front word text x e =
    let a = bind_ok (word_at word text) _ x e in
    let b = bind_ok (number_at 10 9 a.0) _ x a.2 in
    let c = bind_ok (word_at (codes ")") b.0.1) (λ rest. Ok (b.0.0, rest)) x b.2 in
    let made : ℕ × List ℕ = (b.0.0, c.0) in
    subst (λ (y : ℕ × List ℕ). Front (IsItem word 10 9 y.0) text y.1) {x = made} (ok_is made x c.2)
    (item_of word 10 9 text a.0 b.0 c.0 (word_front word text a.0 a.1) (number_front 10 9 a.0 b.0 b.1)
    (closing_behind b.0.1 c.0 c.1))

partition_front : (text : List ℕ) (x : ℕ × List ℕ) → partition_at text ≡ Ok x
    → Front (IsItem (codes "partition(") 10 9 x.0) text x.1 × (0 < x.0)
unfolding partition_at done
partition_front text x e =
    let a = bind_ok (word_at (codes "partition(") text) _ x e in
    let b = bind_ok (number_at 10 9 a.0) _ x a.2 in
    let c = bind_ok (cond (eqb b.0.0 0) _ (word_at (codes ")") b.0.1)) (λ rest. Ok (b.0.0, rest)) x b.2 in
    let d = passed (eqb b.0.0 0) _ (word_at (codes ")") b.0.1) c.0 c.1 in
    let made : ℕ × List ℕ = (b.0.0, c.0) in
    subst (λ (y : ℕ × List ℕ). Front (IsItem (codes "partition(") 10 9 y.0) text y.1 × (0 < y.0)) {x = made}
    (ok_is made x c.2) (
      item_of (codes "partition(") 10 9 text a.0 b.0 c.0 (word_front (codes "partition(") text a.0 a.1)
          (number_front 10 9 a.0 b.0 b.1) (closing_behind b.0.1 c.0 d.1),
      not_zero b.0.0 d.0,
    )

-- ---- the first word

kind_is : (b : Bool) (kind : ArcKind) (k : ℕ) (text : List ℕ) (other : Result (ArcKind × List ℕ) Early)
    (x : ArcKind × List ℕ)
    → str_eq_ignore_ascii_case (take k text) (word_of kind) ≡ b
    → (other ≡ Ok x → Front (IsNamed (word_of x.0)) text x.1)
    → cond b (Ok (kind, drop k text)) other ≡ Ok x
    → Front (IsNamed (word_of x.0)) text x.1
unfolding done
kind_is true kind k text other x is more e =
    subst (λ (y : ArcKind × List ℕ). Front (IsNamed (word_of y.0)) text y.1) (ok_is (kind, drop k text) x e)
    (front_at (IsNamed (word_of kind)) k text (drop k text) refl is)
kind_is false kind k text other x is more e = more e

pub kind_front : (text : List ℕ) (x : ArcKind × List ℕ) → kind_at text ≡ Ok x → Front (IsNamed (word_of x.0)) text x.1
unfolding kind_at
kind_front text x e =
    kind_is _ Multi 6 text _ x refl
    (λ e. kind_is _ Scsi 5 text _ x refl
    (λ e. kind_is _ Signature 10 text _ x refl (λ e. absurd cc) e) e) e

-- ---- the numbers

record Items (n : Numbers) (text rest : List ℕ) : Type 0 where
  controller : List ℕ
  disk : List ℕ
  rdisk : List ℕ
  partition : List ℕ
  spelled : text ≡ controller ++ (disk ++ (rdisk ++ (partition ++ rest)))
  is_controller : IsItem (word_of n.kind) (radix_of n.kind) (most_of n.kind) n.controller controller
  is_disk : IsItem (codes "disk(") 10 9 n.disk disk
  is_rdisk : IsItem (codes "rdisk(") 10 9 n.rdisk rdisk
  is_partition : IsItem (codes "partition(") 10 9 n.partition partition
  some_partition : 0 < n.partition

numbers_front : (text : List ℕ) (x : Numbers × List ℕ) → numbers_at text ≡ Ok x → Items x.0 text x.1
unfolding numbers_at done
numbers_front text x e =
    let a = bind_ok (kind_at text) _ x e in
    let b = bind_ok (number_at (radix_of a.0.0) (most_of a.0.0) a.0.1) _ x a.2 in
    let c = bind_ok (word_at (codes ")") b.0.1) _ x b.2 in
    let d = bind_ok (item_at (codes "disk(") c.0) _ x c.2 in
    let f = bind_ok (item_at (codes "rdisk(") d.0.1) _ x d.2 in
    let g = bind_ok (partition_at f.0.1) _ x f.2 in
    let radix : ℕ = radix_of a.0.0 in
    let most : ℕ = most_of a.0.0 in
    let controller =
    item_of (word_of a.0.0) radix most text a.0.1 b.0 c.0 (kind_front text a.0 a.1)
    (number_front radix most a.0.1 b.0 b.1) (closing_behind b.0.1 c.0 c.1) in
    let disk = item_front (codes "disk(") c.0 d.0 d.1 in
    let rdisk = item_front (codes "rdisk(") d.0.1 f.0 f.1 in
    let partition = partition_front f.0.1 g.0 g.1 in
    let made : Numbers × List ℕ =
    (record { kind = a.0.0; controller = b.0.0; disk = d.0.0; rdisk = f.0.0; partition = g.0.0 }, g.0.1) in
    let before : (front text rest : List ℕ) → text ≡ rest → front ++ text ≡ front ++ rest =
    λ front text rest same. ap (λ (t : List ℕ). front ++ t) same in
    subst (λ (y : Numbers × List ℕ). Items y.0 text y.1) {x = made} (ok_is made x g.2) (record {
      controller = controller.0;
      disk = disk.0;
      rdisk = rdisk.0;
      partition = partition.0.0;
      spelled = controller.1 ∙ before controller.0 _ _
          (disk.1 ∙ before disk.0 _ _ (rdisk.1 ∙ before rdisk.0 _ _ partition.0.1));
      is_controller = controller.2;
      is_disk = disk.2;
      is_rdisk = rdisk.2;
      is_partition = partition.0.2;
      some_partition = partition.1;
    })

-- ---- the directory

is_92 : (c : ℕ) → not (is_backslash c) ≡ false → c ≡ 92
is_92 c e = by_test (is_backslash c) refl e
  where
    by_test : (b : Bool) → is_backslash c ≡ b → not b ≡ false → c ≡ 92
    by_test true is e = eqb-true c 92 is
    by_test false is e = absurd (false≢true (sym e))

-- a directory that was found, with what was dropped after it
found_dir : (text dir : List ℕ) (k : ℕ) → k ≡ length text - suffix_len is_backslash text → take k text ≡ dir
    → list_all is_printable text ≡ true → IsBehindBackslash dir (92 ∷ text)
found_dir text dir k at is all =
    let parts : text ≡ take k text ++ drop k text = sym (take-append-drop k text) in
    let none : suffix_len is_backslash dir ≡ 0 =
    ap (suffix_len is_backslash) (sym is) ∙ no_suffix is_backslash text k at in
    let printable : (list_all is_printable (take k text) && list_all is_printable (drop k text)) ≡ true =
    sym (list_all-append is_printable (take k text) (drop k text)) ∙ ap (list_all is_printable) (sym parts) ∙ all in
    record {
      more = drop k text;
      spelled = ap (λ (t : List ℕ). 92 ∷ t) (parts ∙ ap (λ (t : List ℕ). t ++ drop k text) is);
      dropped = all_behind is_backslash text k at;
      printable = ap (list_all is_printable) (sym is) ∙ (and_parts _ _ printable).0;
      ends = λ front e. false≢true (sym (last_fails is_backslash dir front 92 none e));
    }

directory_front : (text dir : List ℕ) → directory_at text ≡ Ok dir → IsDirectory dir text
unfolding directory_at done
directory_front [] dir e = inl (sym (ok_is [] dir e), refl)
directory_front (c ∷ text) dir e =
    let n : ℕ = prefix_len is_printable text in
    let first = passed (not (is_backslash c)) _ (cond (ltb n (length text)) _ (Ok (without_last_backslashes text)))
    dir e in
    let g = guard_ok (ltb n (length text)) _ (without_last_backslashes text) dir first.1 in
    let le : length text ≤ n = ltb-false _ _ g.0 in
    let all : list_all is_printable text ≡ true =
    all_from is_printable text (λ i lt. prefix_len_passes is_printable text i 0 (omega arith)) in
    let P : ℕ → Type 0 = λ d. IsBehindBackslash dir (d ∷ text) in
    inr (subst P (sym (is_92 c first.0)) (found_dir text dir (length text - suffix_len is_backslash text) refl g.1 all))

-- ---- the whole text

placed_ok : (text : List ℕ) (r : Result (Numbers × List ℕ) Early) (a : Arc) → placed text r ≡ Ok a
    → (x : Numbers × List ℕ) × (r ≡ Ok x) × (arc_from x.0 x.1 ≡ a)
placed_ok text (Ok x) a e = (x, refl, cc)
placed_ok text (Err f) a e = absurd cc

parts_spelled : (n : Numbers) (dir text rest : List ℕ) → Items n text rest → IsDirectory dir rest
    → IsSpelled text (arc_from n dir)
parts_spelled n dir text rest items is = record {
  controller = items.controller;
  disk = items.disk;
  rdisk = items.rdisk;
  partition = items.partition;
  directory = rest;
  spelled = items.spelled;
  is_controller = items.is_controller;
  is_disk = items.is_disk;
  is_rdisk = items.is_rdisk;
  is_partition = items.is_partition;
  some_partition = items.some_partition;
  is_directory = is;
}

-- a text that is read as a path spells it
pub read_is_spelled : (text : List ℕ) (a : Arc) → arc_of text ≡ Ok a → IsSpelled text a
unfolding arc_of parts_at done
read_is_spelled text a e =
    let p = placed_ok text (parts_at text) a e in
    let b = bind_ok (numbers_at text) _ p.0 p.1 in
    let c = bind_ok (directory_at b.0.1) _ p.0 b.2 in
    let made : Numbers × List ℕ = (b.0.0, c.0) in
    subst (IsSpelled text) p.2
    (subst (λ (y : Numbers × List ℕ). IsSpelled text (arc_from y.0 y.1)) {x = made} (ok_is made p.0 c.2)
    (parts_spelled b.0.0 c.0 text b.0.1 (numbers_front text b.0 b.1) (directory_front b.0.1 c.0 c.1)))

-- ---- what is spelled is a path

numeral_below : (radix most value : ℕ) (shown : List ℕ) → 2 ≤ radix → IsNumeral radix most value shown
    → value < radix ^ most
numeral_below radix most value shown low is =
    let below : digits_value radix shown < radix ^ length shown = digits_value-lt radix shown is.digits in
    let up : radix ^ length shown ≤ radix ^ most = pow-le-pow_right (omega arith) is.few in
    let same : digits_value radix shown ≡ value = is.writes in
    omega arith

two_le_radix : (k : ArcKind) → 2 ≤ radix_of k
two_le_radix Multi = omega arith
two_le_radix Scsi = omega arith
two_le_radix Signature = omega arith

-- a directory that ends with no `\` has no end to drop
pub no_backslashes : (dir : List ℕ) → ((front : List ℕ) → dir ≡ front ++ codes "\\" → ⊥)
    → suffix_len is_backslash dir ≡ 0
no_backslashes dir ends =
    no_end is_backslash dir
    (λ front c is.
    ne_eqb c 92 (λ e. ends front (is ∙ ap (λ (d : ℕ). front ++ d ∷ []) e)))

record IsDir (dir : List ℕ) : Type 0 where
  printable : prefix_len is_printable dir ≡ length dir
  trimmed : without_last_backslashes dir ≡ dir

dir_is : (dir shown : List ℕ) → IsDirectory dir shown → IsDir dir
dir_is dir shown (inl none) = subst IsDir (sym none.0) (record { printable = refl; trimmed = refl })
dir_is dir shown (inr some) = record {
  printable = whole_front is_printable dir some.printable;
  trimmed = rw (no_backslashes dir some.ends) (take_all _ _ (omega arith));
}

pub spelled_is_path : (text : List ℕ) (a : Arc) → IsSpelled text a → IsPath a
spelled_is_path text a is =
    let dir = dir_is a.dir is.directory is.is_directory in record {
      controller = numeral_below _ _ _ _ (two_le_radix a.kind) is.is_controller.numeral;
      disk = numeral_below 10 9 a.disk _ (omega arith) is.is_disk.numeral;
      rdisk = numeral_below 10 9 a.rdisk _ (omega arith) is.is_rdisk.numeral;
      partition = numeral_below 10 9 a.partition _ (omega arith) is.is_partition.numeral;
      some_partition = is.some_partition;
      printable = dir.printable;
      trimmed = dir.trimmed;
    }

pub read_is_path : (text : List ℕ) (a : Arc) → arc_of text ≡ Ok a → IsPath a
read_is_path text a e = spelled_is_path text a (read_is_spelled text a e)

-- what the parts of a text make is a path
pub parts_are_path : (text : List ℕ) (n : Numbers) (dir made : List ℕ) → parts_at text ≡ Ok (n, dir) → made ≡ dir
    → IsPath (arc_from n made)
unfolding arc_of
parts_are_path text n dir made e same =
    let read : arc_of text ≡ Ok (arc_from n dir) = ap (placed text) e in
    rw same (read_is_path text (arc_from n dir) read)
