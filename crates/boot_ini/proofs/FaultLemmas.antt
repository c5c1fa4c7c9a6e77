-- The fault that is named is the first from the left.
use Rattle.std.proofs.Common.{◌≡◌, ◌⊎◌, inl, inr, ℕ, ◌+◌, ◌-◌, ◌<◌, min, Bool, true, false, cond, ltb, eqb, not, ◌||◌, List, [], ◌∷◌, ◌++◌, length, take, drop, Result, Ok, Err, refl, sym, subst, ap, ◌∙◌, arith, codes}
use Rattle.std.specs.List.{list_all, prefix_len}
use Rattle.std.specs.Char.{is_digit}
use Rattle.std.specs.Str.{str_eq_ignore_ascii_case}
use Rattle.std.specs.Str.Parse.{digits_value}
use Rattle.std.proofs.lemmas.Bool.{false≢true, ltb-true, eqb-true, eqb-false}
use Rattle.std.proofs.lemmas.List.{take-append-drop, take_at, length-append, length-drop}
use Rattle.std.proofs.lemmas.List.Folds.{length-prefix_len}
use Rattle.boot_ini.specs.declared.arc_path.arc.ArcFault.{ArcFault}
use Rattle.boot_ini.specs.declared.arc_path.arc.ArcFaultKind.{ArcFaultKind}
use Rattle.boot_ini.specs.declared.arc_path.arc.ArcFaultKind.TheVariants.{Kind, Word, Number, Partition, Tail}
use Rattle.boot_ini.specs.declared.arc_path.arc.ArcKind.{ArcKind}
use Rattle.boot_ini.specs.declared.arc_path.arc.ArcKind.TheVariants.{Multi, Scsi, Signature}
use Rattle.boot_ini.specs.declared.arc_path.reading.Early.{Early}
use Rattle.boot_ini.specs.declared.arc_path.reading.Numbers.{Numbers}
use Rattle.boot_ini.specs.arc_path.Reading.{fault_at, number_at, word_at, item_at, kind_at, partition_at, numbers_at, directory_at, parts_at, arc_of, placed, without_last_backslashes, radix_of, most_of}
use Rattle.nt_bytes.specs.Text.{is_backslash, is_printable}
use Rattle.nt_bytes.specs.Reading.{◌>>=◌}
use Rattle.boot_ini.specs.arc_path.Spelling.{IsNumeral, word_of}
use Rattle.boot_ini.specs.arc_path.Faults.{Piece, Name, Digits, Counted, pieces_of, StartsNoDigit, Stands, HasNoNumber, HasZero, BeginsNot, Lacks, IsFaultIn, IsFaultAt, IsFirstFault}
use Rattle.boot_ini.proofs.Ends.{front_passes, no_front, first_fails}
use Rattle.boot_ini.proofs.Found.{digit_count, digits_front, number_front, word_front, kind_front, bind_ok, passed, done, ok_is}
use Rattle.boot_ini.proofs.Meant.{same_length}

-- a fault of these pieces, at a place from which on that many bytes are left
record Faulty (pieces : List Piece) (e : Early) (text : List ℕ) : Type 0 where
  place : ℕ
  is : IsFaultIn pieces e.kind place text
  left : place + e.left ≡ length text

here : (piece : Piece) (pieces : List Piece) (e : Early) (text : List ℕ) → Lacks piece e.kind text
    → e.left ≡ length text
    → Faulty (piece ∷ pieces) e text
here piece pieces e text lacks left = record { place = 0; is = inl (lacks, refl); left = omega arith }

there : (piece : Piece) (pieces : List Piece) (e : Early) (text shown rest : List ℕ) → text ≡ shown ++ rest
    → Stands piece shown rest → Faulty pieces e rest → Faulty (piece ∷ pieces) e text
there piece pieces e text shown rest is stands behind =
    let sum : behind.place + e.left ≡ length rest = behind.left in
    record {
      place = length shown + behind.place;
      is = inr (shown, rest, behind.place, is, stands, behind.is, refl);
      left = omega (arith, ap length is, length-append shown rest);
    }

-- a reader that failed, or one after it
after : {A B : Type 0} (r : Result A Early) (f : A → Result B Early) (e : Early) (P : Type 0) → (r ≡ Err e → P)
    → ((x : A) → r ≡ Ok x → f x ≡ Err e → P) → (r >>= f) ≡ Err e → P
after (Ok x) f e P bad good h = good x refl h
after (Err d) f e P bad good h = let same : d ≡ e = cc in bad (ap (λ (x : Early). Err x) same)

fails_by : {A : Type 0} (b : Bool) (x : A) (what : ArcFaultKind) (text : List ℕ) (e : Early)
    → cond b (Ok x) (fault_at what text) ≡ Err e → (b ≡ false) × (e.kind ≡ what) × (e.left ≡ length text)
fails_by true x what text e h = absurd cc
fails_by false x what text e h =
    let same : e ≡ record { kind = what; left = length text } = cc in
    (refl, ap (λ (x : Early). x.kind) same, ap (λ (x : Early). x.left) same)

guards_by : {A : Type 0} (b : Bool) (x : A) (what : ArcFaultKind) (text : List ℕ) (e : Early)
    → cond b (fault_at what text) (Ok x) ≡ Err e → (b ≡ true) × (e.kind ≡ what) × (e.left ≡ length text)
guards_by false x what text e h = absurd cc
guards_by true x what text e h =
    let same : e ≡ record { kind = what; left = length text } = cc in
    (refl, ap (λ (x : Early). x.kind) same, ap (λ (x : Early). x.left) same)

-- ---- words

no_beginning : (word text : List ℕ) → str_eq_ignore_ascii_case (take (length word) text) word ≡ false
    → BeginsNot word text
no_beginning word text other name rest is named =
    let front : take (length word) text ≡ name =
    ap (take (length word)) is ∙ take_at name rest (length word) (same_length name word named) in
    false≢true (sym other ∙ ap (λ (t : List ℕ). str_eq_ignore_ascii_case t word) front ∙ named)

word_lacks : (word text : List ℕ) (pieces : List Piece) (e : Early) → word_at word text ≡ Err e
    → Faulty (Name word ∷ pieces) e text
unfolding word_at
word_lacks word text pieces e h =
    let f = fails_by (str_eq_ignore_ascii_case (take (length word) text) word) (drop (length word) text)
    Word text e h in
    here (Name word) pieces e text (f.1, no_beginning word text f.0) f.2

word_stands : (word text rest : List ℕ) (pieces : List Piece) (e : Early) → word_at word text ≡ Ok rest
    → Faulty pieces e rest
    → Faulty (Name word ∷ pieces) e text
word_stands word text rest pieces e h behind =
    let w = word_front word text rest h in there (Name word) pieces e text w.0 rest w.1 w.2 behind

-- ---- numbers

starts_so : (radix : ℕ) (text : List ℕ) → digit_count radix text ≡ 0 → StartsNoDigit radix text
starts_so radix [] none = tt
starts_so radix (c ∷ text) none = first_fails (λ c. is_digit c radix) c text none

-- what stands after the digits begins with none
behind_digits : (radix : ℕ) (text : List ℕ) → StartsNoDigit radix (drop (digit_count radix text) text)
behind_digits radix text = starts_so radix _ (no_front (λ c. is_digit c radix) text)

wrong_count : (n most : ℕ) → (eqb n 0 || ltb most n) ≡ true → (n ≡ 0) ⊎ (most < n)
wrong_count n most e = by_test (eqb n 0) refl e
  where
    by_test : (b : Bool) → eqb n 0 ≡ b → (b || ltb most n) ≡ true → (n ≡ 0) ⊎ (most < n)
    by_test true is f = inl (eqb-true n 0 is)
    by_test false is f = inr (ltb-true most n f)

record LacksNumber (radix most : ℕ) (text : List ℕ) (e : Early) : Type 0 where
  kind_is : e.kind ≡ Number
  none : HasNoNumber radix most text
  left_is : e.left ≡ length text

number_lacks : (radix most : ℕ) (text : List ℕ) (e : Early) → number_at radix most text ≡ Err e
    → LacksNumber radix most text e
unfolding number_at
number_lacks radix most text e h =
    let n : ℕ = digit_count radix text in
    let g = guards_by (eqb n 0 || ltb most n) (digits_value radix (take n text), drop n text) Number text e h in
    let whole : length (take n text) ≡ n = length-prefix_len (λ c. is_digit c radix) text in
    record {
      kind_is = g.1;
      none = record {
        digits = take n text;
        rest = drop n text;
        spelled = sym (take-append-drop n text);
        all = digits_front radix text;
        whole = behind_digits radix text;
        wrong = subst (λ (k : ℕ). (k ≡ 0) ⊎ (most < k)) (sym whole) (wrong_count n most g.0);
      };
      left_is = g.2;
    }

number_behind : (radix most : ℕ) (text : List ℕ) (x : ℕ × List ℕ) → number_at radix most text ≡ Ok x
    → StartsNoDigit radix x.1
unfolding number_at
number_behind radix most text x h =
    let n : ℕ = digit_count radix text in
    let made : ℕ × List ℕ = (digits_value radix (take n text), drop n text) in
    let g = passed (eqb n 0 || ltb most n) _ (Ok made) x h in
    let same : made ≡ x = cc in
    subst (StartsNoDigit radix) (ap (λ (y : ℕ × List ℕ). y.1) same) (behind_digits radix text)

digits_lack : (radix most : ℕ) (text : List ℕ) (pieces : List Piece) (e : Early) → number_at radix most text ≡ Err e
    → Faulty (Digits radix most ∷ pieces) e text
digits_lack radix most text pieces e h =
    let l = number_lacks radix most text e h in here (Digits radix most) pieces e text (l.kind_is, l.none) l.left_is

digits_stand : (radix most : ℕ) (text : List ℕ) (x : ℕ × List ℕ) (pieces : List Piece) (e : Early)
    → number_at radix most text ≡ Ok x → Faulty pieces e x.1 → Faulty (Digits radix most ∷ pieces) e text
digits_stand radix most text x pieces e h behind =
    let n = number_front radix most text x h in
    there (Digits radix most) pieces e text n.0 x.1 n.1 (x.0, n.2, number_behind radix most text x h) behind

-- ---- a word, a number and `)`

abbrev pub item_pieces : List ℕ → List Piece → List Piece
item_pieces word pieces = Name word ∷ Digits 10 9 ∷ Name (codes ")") ∷ pieces

item_lacks : (word text : List ℕ) (pieces : List Piece) (e : Early) → item_at word text ≡ Err e
    → Faulty (item_pieces word pieces) e text
unfolding item_at
item_lacks word text pieces e h =
    let P : Type 0 = Faulty (item_pieces word pieces) e text in
    after (word_at word text) _ e P (λ bad. word_lacks word text _ e bad)
    (λ inside ok rest_h.
    word_stands word text inside _ e ok
    (after (number_at 10 9 inside) _ e (Faulty (Digits 10 9 ∷ Name (codes ")") ∷ pieces) e inside)
    (λ bad. digits_lack 10 9 inside _ e bad)
    (λ number ok rest_h.
    digits_stand 10 9 inside number _ e ok
    (after (word_at (codes ")") number.1) _ e (Faulty (Name (codes ")") ∷ pieces) e number.1)
    (λ bad. word_lacks (codes ")") number.1 _ e bad) (λ rest ok rest_h. absurd cc) rest_h)) rest_h)) h

item_stands : (word text : List ℕ) (x : ℕ × List ℕ) (pieces : List Piece) (e : Early) → item_at word text ≡ Ok x
    → Faulty pieces e x.1 → Faulty (item_pieces word pieces) e text
unfolding item_at
item_stands word text x pieces e h behind =
    let a = bind_ok (word_at word text) _ x h in
    let b = bind_ok (number_at 10 9 a.0) _ x a.2 in
    let c = bind_ok (word_at (codes ")") b.0.1) (λ rest. Ok (b.0.0, rest)) x b.2 in
    let made : ℕ × List ℕ = (b.0.0, c.0) in
    let same : made ≡ x = cc in
    let rest : Faulty pieces e c.0 = subst (Faulty pieces e) (sym (ap (λ (y : ℕ × List ℕ). y.1) same)) behind in
    word_stands word text a.0 _ e a.1
    (digits_stand 10 9 a.0 b.0 _ e b.1 (word_stands (codes ")") b.0.1 c.0 pieces e c.1 rest))

-- ---- the partition

abbrev pub partition_pieces : List Piece → List Piece
partition_pieces pieces = Name (codes "partition(") ∷ Counted ∷ Name (codes ")") ∷ pieces

-- a number that was read, which is zero, or a fault after it
counted_lacks : (text : List ℕ) (x : ℕ × List ℕ) (pieces : List Piece) (e : Early) → number_at 10 9 text ≡ Ok x
    → cond (eqb x.0 0) (fault_at Partition text) (word_at (codes ")") x.1) ≡ Err e
    → Faulty (Counted ∷ Name (codes ")") ∷ pieces) e text
counted_lacks text x pieces e ok h = by_test (eqb x.0 0) refl h
  where
    by_test : (b : Bool) → eqb x.0 0 ≡ b → cond b (fault_at Partition text) (word_at (codes ")") x.1) ≡ Err e
        → Faulty (Counted ∷ Name (codes ")") ∷ pieces) e text
    by_test true zero f =
        let n = number_front 10 9 text x ok in
        let same : e ≡ record { kind = Partition; left = length text } = cc in
        let numeral : IsNumeral 10 9 0 n.0 = subst (λ (v : ℕ). IsNumeral 10 9 v n.0) (eqb-true x.0 0 zero) n.2 in
        let none : HasZero text =
        record { digits = n.0; rest = x.1; spelled = n.1; numeral = numeral; whole = number_behind 10 9 text x ok } in
        here Counted _ e text (inr (ap (λ (x : Early). x.kind) same, none)) (ap (λ (x : Early). x.left) same)
    by_test false some f =
        let n = number_front 10 9 text x ok in
        let one : 0 < x.0 = omega (arith, eqb-false x.0 0 some) in
        there Counted _ e text n.0 x.1 n.1 (x.0, n.2, one, number_behind 10 9 text x ok)
        (word_lacks (codes ")") x.1 pieces e f)

partition_lacks : (text : List ℕ) (pieces : List Piece) (e : Early) → partition_at text ≡ Err e
    → Faulty (partition_pieces pieces) e text
unfolding partition_at
partition_lacks text pieces e h =
    after (word_at (codes "partition(") text) _ e (Faulty (partition_pieces pieces) e text)
    (λ bad. word_lacks (codes "partition(") text _ e bad)
    (λ inside ok rest_h.
    word_stands (codes "partition(") text inside _ e ok
    (after (number_at 10 9 inside) _ e (Faulty (Counted ∷ Name (codes ")") ∷ pieces) e inside)
    (λ bad. let l = number_lacks 10 9 inside e bad in here Counted _ e inside (inl (l.kind_is, l.none)) l.left_is)
    (λ number ok rest_h.
    after (cond (eqb number.0 0) (fault_at Partition inside) (word_at (codes ")") number.1))
    (λ rest. Ok (number.0, rest)) e (Faulty (Counted ∷ Name (codes ")") ∷ pieces) e inside)
    (λ bad. counted_lacks inside number pieces e ok bad) (λ rest ok rest_h. absurd cc) rest_h) rest_h)) h

partition_stands : (text : List ℕ) (x : ℕ × List ℕ) (pieces : List Piece) (e : Early) → partition_at text ≡ Ok x
    → Faulty pieces e x.1 → Faulty (partition_pieces pieces) e text
unfolding partition_at
partition_stands text x pieces e h behind =
    let a = bind_ok (word_at (codes "partition(") text) _ x h in
    let b = bind_ok (number_at 10 9 a.0) _ x a.2 in
    let c = bind_ok (cond (eqb b.0.0 0) _ (word_at (codes ")") b.0.1)) (λ rest. Ok (b.0.0, rest)) x b.2 in
    let d = passed (eqb b.0.0 0) _ (word_at (codes ")") b.0.1) c.0 c.1 in
    let n = number_front 10 9 a.0 b.0 b.1 in
    let one : 0 < b.0.0 = omega (arith, eqb-false b.0.0 0 d.0) in
    let made : ℕ × List ℕ = (b.0.0, c.0) in
    let same : made ≡ x = cc in
    let rest : Faulty pieces e c.0 = subst (Faulty pieces e) (sym (ap (λ (y : ℕ × List ℕ). y.1) same)) behind in
    word_stands (codes "partition(") text a.0 _ e a.1
    (there Counted _ e a.0 n.0 b.0.1 n.1 (b.0.0, n.2, one, number_behind 10 9 a.0 b.0 b.1)
    (word_stands (codes ")") b.0.1 c.0 pieces e d.1 rest))

-- ---- the directory

-- after a `\`, the first byte that can't be printed
unprintable : (c : ℕ) (text rest : List ℕ) (d n : ℕ) (e : Early) → c ≡ 92 → n ≡ prefix_len is_printable text
    → drop n text ≡ d ∷ rest → e.kind ≡ Tail → e.left ≡ length (drop n text) → Faulty [] e (c ∷ text)
unprintable c text rest d n e slash count behind tail left =
    let front : List ℕ = take n text in
    let few : length front ≡ n =
    ap (λ (k : ℕ). length (take k text)) count ∙ length-prefix_len is_printable text ∙ sym count in
    let parts : text ≡ front ++ d ∷ rest = sym (take-append-drop n text) ∙ ap (λ (t : List ℕ). front ++ t) behind in
    let printable : list_all is_printable front ≡ true =
    ap (λ (k : ℕ). list_all is_printable (take k text)) count ∙ front_passes is_printable text in
    let none : prefix_len is_printable (d ∷ rest) ≡ 0 =
    ap (prefix_len is_printable) (sym behind ∙ ap (λ (k : ℕ). drop k text) count) ∙ no_front is_printable text in
    let whole : length text ≡ length front + length (d ∷ rest) = ap length parts ∙ length-append front (d ∷ rest) in
    let more : length (drop n text) ≡ length (d ∷ rest) = ap length behind in
    record {
      place = n + 1;
      is = (
        tail,
        inr (
          front,
          d,
          rest,
          ap (λ (k : ℕ). k ∷ text) slash
              ∙ ap (λ (t : List ℕ). 92 ∷ t) parts,
          printable,
          first_fails is_printable d rest none,
          omega arith,
        ),
      );
      left = omega arith;
    }

tail_lacks : (text : List ℕ) (e : Early) → directory_at text ≡ Err e → Faulty [] e text
unfolding directory_at
tail_lacks [] e h = absurd cc
tail_lacks (c ∷ text) e h = by_test (is_backslash c) refl h
  where
    n : ℕ
    n = prefix_len is_printable text

    by_rest : (t : List ℕ) → drop n text ≡ t → c ≡ 92 → n < length text → e.kind ≡ Tail → e.left ≡ length (drop n text)
        → Faulty [] e (c ∷ text)
    by_rest [] none slash lt tail left = let empty : length (drop n text) ≡ 0 = ap length none in
        absurd (omega (arith, length-drop n text))
    by_rest (d ∷ rest) behind slash lt tail left = unprintable c text rest d n e slash refl behind tail left

    by_test : (b : Bool) → is_backslash c ≡ b
        → cond (not b) (fault_at Tail (c ∷ text))
        (cond (ltb n (length text)) (fault_at Tail (drop n text)) (Ok (without_last_backslashes text))) ≡ Err e
        → Faulty [] e (c ∷ text)
    by_test true slash f =
        let g = guards_by (ltb n (length text)) (without_last_backslashes text) Tail (drop n text) e f in
        by_rest (drop n text) refl (eqb-true c 92 slash) (ltb-true _ _ g.0) g.1 g.2
    by_test false other f =
        let same : e ≡ record { kind = Tail; left = length (c ∷ text) } = cc in
        record {
          place = 0;
          is = (ap (λ (x : Early). x.kind) same, inl (refl, c, text, refl, eqb-false c 92 other));
          left = omega (arith, ap (λ (x : Early). x.left) same);
        }

-- ---- the whole text

other_kind : {A : Type 0} (b : Bool) (x : A) (r : Result A Early) (e : Early) → cond b (Ok x) r ≡ Err e
    → (b ≡ false) × (r ≡ Err e)
other_kind true x r e h = absurd cc
other_kind false x r e h = (refl, h)

kind_lacks : (text : List ℕ) (e : Early) → kind_at text ≡ Err e
    → (e.kind ≡ Kind) × ((k : ArcKind) → BeginsNot (word_of k) text) × (e.left ≡ length text)
unfolding kind_at
kind_lacks text e h =
    let multi = other_kind (str_eq_ignore_ascii_case (take 6 text) (codes "multi(")) (Multi, drop 6 text) _ e h in
    let scsi = other_kind (str_eq_ignore_ascii_case (take 5 text) (codes "scsi(")) (Scsi, drop 5 text) _ e multi.1 in
    let signature =
    fails_by (str_eq_ignore_ascii_case (take 10 text) (codes "signature(")) (Signature, drop 10 text)
    Kind text e scsi.1 in
    let none : (k : ArcKind) → BeginsNot (word_of k) text =
    λ k. elim k as (λ k. BeginsNot (word_of k) text) [
      | Multi ↦ no_beginning (codes "multi(") text multi.0
      | Scsi ↦ no_beginning (codes "scsi(") text scsi.0
      | Signature ↦ no_beginning (codes "signature(") text signature.0
    ] in
    (signature.1, none, signature.2)

record FirstFault (text : List ℕ) (e : Early) : Type 0 where
  place : ℕ
  is : IsFaultAt e.kind place text
  left : place + e.left ≡ length text

behind_kind : (text : List ℕ) (x : ArcKind × List ℕ) (e : Early) → kind_at text ≡ Ok x → Faulty (pieces_of x.0) e x.1
    → FirstFault text e
behind_kind text x e h behind =
    let k = kind_front text x h in
    let sum : behind.place + e.left ≡ length x.1 = behind.left in
    record {
      place = length k.0 + behind.place;
      is = inr (x.0, k.0, x.1, behind.place, k.1, k.2, behind.is, refl);
      left = omega (arith, ap length k.1, length-append k.0 x.1);
    }

numbers_lack : (text : List ℕ) (e : Early) → numbers_at text ≡ Err e → FirstFault text e
unfolding numbers_at
numbers_lack text e h =
    after (kind_at text) _ e (FirstFault text e)
    (λ bad. let k = kind_lacks text e bad in record { place = 0; is = inl (k.0, k.1, refl); left = omega (arith, k.2) })
    (λ kind ok more.
    behind_kind text kind e ok
    (let radix : ℕ = radix_of kind.0 in
    let most : ℕ = most_of kind.0 in
    after (number_at radix most kind.1) _ e (Faulty (pieces_of kind.0) e kind.1)
    (λ bad. digits_lack radix most kind.1 _ e bad)
    (λ controller ok more.
    digits_stand radix most kind.1 controller _ e ok
    (after (word_at (codes ")") controller.1) _ e _ (λ bad. word_lacks (codes ")") controller.1 _ e bad)
    (λ closed ok more.
    word_stands (codes ")") controller.1 closed _ e ok
    (after (item_at (codes "disk(") closed) _ e _ (λ bad. item_lacks (codes "disk(") closed _ e bad)
    (λ disk ok more.
    item_stands (codes "disk(") closed disk _ e ok
    (after (item_at (codes "rdisk(") disk.1) _ e _ (λ bad. item_lacks (codes "rdisk(") disk.1 _ e bad)
    (λ rdisk ok more.
    item_stands (codes "rdisk(") disk.1 rdisk _ e ok
    (after (partition_at rdisk.1) _ e _ (λ bad. partition_lacks rdisk.1 [] e bad) (λ partition ok more. absurd cc)
    more)) more)) more)) more)) more)) h

numbers_stand : (text : List ℕ) (x : Numbers × List ℕ) (e : Early) → numbers_at text ≡ Ok x → Faulty [] e x.1
    → FirstFault text e
unfolding numbers_at done
numbers_stand text x e h tail =
    let a = bind_ok (kind_at text) _ x h in
    let radix : ℕ = radix_of a.0.0 in
    let most : ℕ = most_of a.0.0 in
    let b = bind_ok (number_at radix most a.0.1) _ x a.2 in
    let c = bind_ok (word_at (codes ")") b.0.1) _ x b.2 in
    let d = bind_ok (item_at (codes "disk(") c.0) _ x c.2 in
    let f = bind_ok (item_at (codes "rdisk(") d.0.1) _ x d.2 in
    let g = bind_ok (partition_at f.0.1) _ x f.2 in
    let made : Numbers × List ℕ =
    (record { kind = a.0.0; controller = b.0.0; disk = d.0.0; rdisk = f.0.0; partition = g.0.0 }, g.0.1) in
    let same : made ≡ x = ok_is made x g.2 in
    let rest : Faulty [] e g.0.1 = subst (Faulty [] e) (sym (ap (λ (y : Numbers × List ℕ). y.1) same)) tail in
    let partition = partition_stands f.0.1 g.0 [] e g.1 rest in
    let rdisk = item_stands (codes "rdisk(") d.0.1 f.0 _ e f.1 partition in
    let disk = item_stands (codes "disk(") c.0 d.0 _ e d.1 rdisk in
    let closed = word_stands (codes ")") b.0.1 c.0 _ e c.1 disk in
    behind_kind text a.0 e a.1 (digits_stand radix most a.0.1 b.0 _ e b.1 closed)

placed_fails : (text : List ℕ) (r : Result (Numbers × List ℕ) Early) (fault : ArcFault) → placed text r ≡ Err fault
    → (e : Early) × (r ≡ Err e) × (fault ≡ record { kind = e.kind; at = min (length text - e.left) 4294967295 })
placed_fails text (Ok x) fault h = absurd cc
placed_fails text (Err e) fault h = (e, refl, cc)

parts_lack : (text : List ℕ) (e : Early) → parts_at text ≡ Err e → FirstFault text e
unfolding parts_at
parts_lack text e h =
    after (numbers_at text) _ e (FirstFault text e) (λ bad. numbers_lack text e bad)
    (λ numbers ok more.
    after (directory_at numbers.1) _ e (FirstFault text e)
    (λ bad. numbers_stand text numbers e ok (tail_lacks numbers.1 e bad)) (λ dir ok rest. absurd cc) more) h

pub first_fault : (text : List ℕ) (fault : ArcFault) → arc_of text ≡ Err fault → IsFirstFault fault text
unfolding arc_of
first_fault text fault h =
    let p = placed_fails text (parts_at text) fault h in
    let e : Early = p.0 in
    let f : FirstFault text e = parts_lack text e p.1 in
    let sum : f.place + e.left ≡ length text = f.left in
    let place : length text - e.left ≡ f.place = omega arith in
    let kind : fault.kind ≡ e.kind = ap (λ (x : ArcFault). x.kind) p.2 in
    let at : fault.at ≡ min (length text - e.left) 4294967295 = ap (λ (x : ArcFault). x.at) p.2 in
    let P : ArcFaultKind → Type 0 = λ k. IsFaultAt k f.place text in
    (f.place, subst P (sym kind) f.is, at ∙ ap (λ (n : ℕ). min n 4294967295) place)
