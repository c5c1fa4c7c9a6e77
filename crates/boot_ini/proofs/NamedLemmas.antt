-- The first fault from the left is the one that is named.
use Rattle.std.proofs.Common.{◌≡◌, ◌⊎◌, inl, inr, ℕ, ◌+◌, ◌-◌, ◌<◌, Bool, true, false, cond, ltb, eqb, ◌||◌, List, [], ◌∷◌, ◌++◌, length, take, drop, Result, Ok, Err, refl, sym, subst, ap, ◌∙◌, arith, codes}
use Rattle.std.specs.List.{list_all, prefix_len}
use Rattle.std.specs.Str.{str_eq_ignore_ascii_case}
use Rattle.std.specs.Str.Parse.{AllDigits}
use Rattle.std.proofs.lemmas.Bool.{false≢true, lt-ltb, le-ltb, ne_eqb}
use Rattle.std.proofs.lemmas.List.{take-append-drop, take_at, drop_at, length-append}
use Rattle.boot_ini.specs.declared.arc_path.arc.ArcFault.{ArcFault}
use Rattle.boot_ini.specs.declared.arc_path.arc.ArcFaultKind.{ArcFaultKind}
use Rattle.boot_ini.specs.declared.arc_path.arc.ArcFaultKind.TheVariants.{Kind, Word, Number, Partition, Tail}
use Rattle.boot_ini.specs.declared.arc_path.arc.ArcKind.{ArcKind}
use Rattle.boot_ini.specs.declared.arc_path.arc.ArcKind.TheVariants.{Multi, Scsi, Signature}
use Rattle.boot_ini.specs.declared.arc_path.reading.Early.{Early}
use Rattle.boot_ini.specs.arc_path.Reading.{fault_at, number_at, word_at, item_at, kind_at, partition_at, numbers_at, directory_at, parts_at, arc_of, placed, radix_of, most_of}
use Rattle.nt_bytes.specs.Text.{is_printable}
use Rattle.nt_bytes.specs.Reading.{◌>>=◌}
use Rattle.boot_ini.specs.arc_path.Spelling.{IsNumeral, word_of}
use Rattle.boot_ini.specs.arc_path.Faults.{Piece, Name, Digits, Counted, pieces_of, StartsNoDigit, HasNoNumber, HasZero, BeginsNot, IsFaultIn, IsFaultAt, IsFirstFault}
use Rattle.boot_ini.proofs.Ends.{prefix_whole}
use Rattle.boot_ini.proofs.Found.{digit_count}
use Rattle.boot_ini.proofs.Meant.{word_found, kind_found}
use Rattle.boot_ini.proofs.FaultLemmas.{item_pieces, partition_pieces}

-- the reader fails by this kind of fault, at this place of the text
record Stops {A : Type 0} (r : Result A Early) (what : ArcFaultKind) (place : ℕ) (text : List ℕ) : Type 0 where
  e : Early
  fails : r ≡ Err e
  kind_is : e.kind ≡ what
  left : place + e.left ≡ length text

-- two readers after one, in either grouping
regroup : {A B C : Type 0} (r : Result A Early) (g : A → Result B Early) (f : B → Result C Early) (what : ArcFaultKind)
    (place : ℕ) (text : List ℕ)
    → Stops (r >>= λ x. g x >>= f) what place text → Stops ((r >>= g) >>= f) what place text
regroup (Ok x) g f what place text s = s
regroup (Err e) g f what place text s = s

-- a reader that fails here
stops_here : {A B : Type 0} (r : Result A Early) (f : A → Result B Early) (what : ArcFaultKind) (place : ℕ)
    (text : List ℕ)
    → r ≡ fault_at what text → place ≡ 0 → Stops (r >>= f) what place text
stops_here r f what place text fails zero =
    record {
      e = record { kind = what; left = length text };
      fails = ap (λ (q : Result _ Early). q >>= f) fails;
      kind_is = refl;
      left = omega arith;
    }

-- a reader that goes on, and the next fails
stops_behind : {A B : Type 0} (r : Result A Early) (f : A → Result B Early) (x : A) (what : ArcFaultKind)
    (place behind : ℕ) (text shown rest : List ℕ) → r ≡ Ok x → text ≡ shown ++ rest
    → place ≡ length shown + behind → Stops (f x) what behind rest → Stops (r >>= f) what place text
stops_behind r f x what place behind text shown rest ok parts sum s =
    let more : behind + s.e.left ≡ length rest = s.left in
    record {
      e = s.e;
      fails = ap (λ (q : Result _ Early). q >>= f) ok ∙ s.fails;
      kind_is = s.kind_is;
      left = omega (arith, ap length parts, length-append shown rest);
    }

-- ---- words

word_fails : (word text : List ℕ) → BeginsNot word text → word_at word text ≡ fault_at Word text
unfolding word_at
word_fails word text none = by_test (str_eq_ignore_ascii_case (take (length word) text) word) refl
  where
    by_test : (b : Bool) → str_eq_ignore_ascii_case (take (length word) text) word ≡ b
        → cond b (Ok (drop (length word) text)) (fault_at Word text) ≡ fault_at Word text
    by_test true is = absurd (none (take (length word) text) (drop (length word) text)
        (sym (take-append-drop (length word) text)) is)
    by_test false is = refl

word_then : {B : Type 0} (word text : List ℕ) (pieces : List Piece) (what : ArcFaultKind) (place : ℕ)
    (f : List ℕ → Result B Early)
    → IsFaultIn (Name word ∷ pieces) what place text
    → ((rest : List ℕ) (behind : ℕ) → IsFaultIn pieces what behind rest → Stops (f rest) what behind rest)
    → Stops (word_at word text >>= f) what place text
word_then word text pieces what place f (inl h) next =
    subst (λ (k : ArcFaultKind). Stops (word_at word text >>= f) k place text) (sym h.0.0)
    (stops_here (word_at word text) f Word place text (word_fails word text h.0.1) h.1)
word_then word text pieces what place f (inr h) next =
    let ok : word_at word text ≡ Ok h.1 = ap (word_at word) h.3 ∙ word_found word h.0 h.1 h.4 in
    stops_behind (word_at word text) f h.1 what place h.2 text h.0 h.1 ok h.3 h.6 (next h.1 h.2 h.5)

-- ---- numbers

digits_are : (radix : ℕ) (ds rest : List ℕ) → AllDigits radix ds → StartsNoDigit radix rest
    → digit_count radix (ds ++ rest) ≡ length ds
digits_are radix [] [] all none = refl
digits_are radix [] (c ∷ rest) all none = rw none refl
digits_are radix (d ∷ ds) rest all none = rw (lt-ltb _ _ all.0, digits_are radix ds rest all.1 none) (omega arith)

wrong_count : (n most : ℕ) → (n ≡ 0) ⊎ (most < n) → (eqb n 0 || ltb most n) ≡ true
wrong_count n most (inl zero) = rw zero refl
wrong_count n most (inr many) = rw (ne_eqb n 0 (λ z. absurd (omega arith)), lt-ltb most n many) refl

number_fails : (radix most : ℕ) (text : List ℕ) → HasNoNumber radix most text
    → number_at radix most text ≡ fault_at Number text
unfolding number_at
number_fails radix most text none =
    let count : digit_count radix text ≡ length none.digits =
    ap (digit_count radix) none.spelled ∙ digits_are radix none.digits none.rest none.all none.whole in
    rw (count, wrong_count (length none.digits) most none.wrong) refl

number_goes : (radix most value : ℕ) (shown rest : List ℕ) → IsNumeral radix most value shown → StartsNoDigit radix rest
    → number_at radix most (shown ++ rest) ≡ Ok (value, rest)
unfolding number_at
number_goes radix most value shown rest is none =
    let count = digits_are radix shown rest is.digits none in
    let some : 0 < length shown = is.some in
    rw (
      count,
      ne_eqb (length shown) 0 (λ z. absurd (omega arith)),
      le-ltb most (length shown) is.few,
      take_at shown rest (length shown) refl,
      drop_at shown rest (length shown) refl,
      is.writes,
    ) refl

digits_then : {B : Type 0} (radix most : ℕ) (text : List ℕ) (pieces : List Piece) (what : ArcFaultKind) (place : ℕ)
    (f : ℕ × List ℕ → Result B Early) → IsFaultIn (Digits radix most ∷ pieces) what place text
    → ((x : ℕ × List ℕ) (behind : ℕ) → IsFaultIn pieces what behind x.1 → Stops (f x) what behind x.1)
    → Stops (number_at radix most text >>= f) what place text
digits_then radix most text pieces what place f (inl h) next =
    subst (λ (k : ArcFaultKind). Stops (number_at radix most text >>= f) k place text) (sym h.0.0)
    (stops_here (number_at radix most text) f Number place text (number_fails radix most text h.0.1) h.1)
digits_then radix most text pieces what place f (inr h) next =
    let number = h.4 in
    let ok : number_at radix most text ≡ Ok (number.0, h.1) =
    ap (number_at radix most) h.3 ∙ number_goes radix most number.0 h.0 h.1 number.1 number.2 in
    stops_behind (number_at radix most text) f (number.0, h.1) what place h.2 text h.0 h.1 ok h.3 h.6
    (next (number.0, h.1) h.2 h.5)

item_then : {B : Type 0} (word text : List ℕ) (pieces : List Piece) (what : ArcFaultKind) (place : ℕ)
    (f : ℕ × List ℕ → Result B Early) → IsFaultIn (item_pieces word pieces) what place text
    → ((x : ℕ × List ℕ) (behind : ℕ) → IsFaultIn pieces what behind x.1 → Stops (f x) what behind x.1)
    → Stops (item_at word text >>= f) what place text
unfolding item_at
item_then word text pieces what place f is next =
    regroup (word_at word text) _ f what place text
    (word_then word text (Digits 10 9 ∷ Name (codes ")") ∷ pieces) what place _ is
    (λ inside b is.
    regroup (number_at 10 9 inside) _ f what b inside
    (digits_then 10 9 inside (Name (codes ")") ∷ pieces) what b _ is
    (λ number b is.
    regroup (word_at (codes ")") number.1) _ f what b number.1
    (word_then (codes ")") number.1 pieces what b _ is (λ rest b is. next (number.0, rest) b is))))))

-- ---- the partition

-- what is done with a partition's number
abbrev counted : {B : Type 0} → List ℕ → (ℕ × List ℕ → Result B Early) → ℕ × List ℕ → Result B Early
counted text f x = (cond (eqb x.0 0) (fault_at Partition text) (word_at (codes ")") x.1) >>= λ rest. Ok (x.0, rest))
    >>= f

counted_some : {B : Type 0} (b : Bool) (text : List ℕ) (x : ℕ × List ℕ) (what : ArcFaultKind) (place : ℕ)
    (f : ℕ × List ℕ → Result B Early) → b ≡ false
    → Stops ((word_at (codes ")") x.1 >>= λ rest. Ok (x.0, rest)) >>= f) what place x.1
    → Stops ((cond b (fault_at Partition text) (word_at (codes ")") x.1) >>= λ rest. Ok (x.0, rest)) >>= f)
    what place x.1
counted_some true text x what place f is s = absurd (false≢true (sym is))
counted_some false text x what place f is s = s

counted_then : {B : Type 0} (text : List ℕ) (pieces : List Piece) (what : ArcFaultKind) (place : ℕ)
    (f : ℕ × List ℕ → Result B Early) → IsFaultIn (Counted ∷ Name (codes ")") ∷ pieces) what place text
    → ((x : ℕ × List ℕ) (behind : ℕ) → IsFaultIn pieces what behind x.1 → Stops (f x) what behind x.1)
    → Stops (number_at 10 9 text >>= counted text f) what place text
counted_then text pieces what place f (inl (inl h, zero)) next =
    subst (λ (k : ArcFaultKind). Stops (number_at 10 9 text >>= counted text f) k place text) (sym h.0)
    (stops_here (number_at 10 9 text) (counted text f) Number place text (number_fails 10 9 text h.1) zero)
counted_then text pieces what place f (inl (inr h, zero)) next =
    let none : HasZero text = h.1 in
    let ok : number_at 10 9 text ≡ Ok (0, none.rest) =
    ap (number_at 10 9) none.spelled ∙ number_goes 10 9 0 none.digits none.rest none.numeral none.whole in
    record {
      e = record { kind = Partition; left = length text };
      fails = ap (λ (q : Result (ℕ × List ℕ) Early). q >>= counted text f) ok;
      kind_is = sym h.0;
      left = omega arith;
    }
counted_then text pieces what place f (inr h) next =
    let number = h.4 in
    let ok : number_at 10 9 text ≡ Ok (number.0, h.1) =
    ap (number_at 10 9) h.3 ∙ number_goes 10 9 number.0 h.0 h.1 number.1 number.3 in
    let some : 0 < number.0 = number.2 in
    let ne : eqb number.0 0 ≡ false = ne_eqb number.0 0 (λ z. absurd (omega arith)) in
    stops_behind (number_at 10 9 text) (counted text f) (number.0, h.1) what place h.2 text h.0 h.1 ok h.3 h.6
    (counted_some (eqb number.0 0) text (number.0, h.1) what h.2 f ne
    (regroup (word_at (codes ")") h.1) _ f what h.2 h.1
    (word_then (codes ")") h.1 pieces what h.2 _ h.5 (λ rest b is. next (number.0, rest) b is))))

partition_then : {B : Type 0} (text : List ℕ) (pieces : List Piece) (what : ArcFaultKind) (place : ℕ)
    (f : ℕ × List ℕ → Result B Early) → IsFaultIn (partition_pieces pieces) what place text
    → ((x : ℕ × List ℕ) (behind : ℕ) → IsFaultIn pieces what behind x.1 → Stops (f x) what behind x.1)
    → Stops (partition_at text >>= f) what place text
unfolding partition_at
partition_then text pieces what place f is next =
    regroup (word_at (codes "partition(") text) _ f what place text
    (word_then (codes "partition(") text (Counted ∷ Name (codes ")") ∷ pieces) what place _ is
    (λ inside b is.
    regroup (number_at 10 9 inside) _ f what b inside (counted_then inside pieces what b f is next)))

-- ---- the directory and the whole text

other_tail : (c : ℕ) (rest : List ℕ) → (c ≡ 92 → ⊥) → directory_at (c ∷ rest) ≡ fault_at Tail (c ∷ rest)
unfolding directory_at
other_tail c rest other = rw (ne_eqb c 92 other) refl

printed_tail : (front : List ℕ) (c : ℕ) (rest : List ℕ) → list_all is_printable front ≡ true → is_printable c ≡ false
    → directory_at (92 ∷ (front ++ c ∷ rest)) ≡ fault_at Tail (c ∷ rest)
unfolding directory_at
printed_tail front c rest all none =
    let stop : prefix_len is_printable (c ∷ rest) ≡ 0 = rw none refl in
    let n : prefix_len is_printable (front ++ c ∷ rest) ≡ length front =
    prefix_whole is_printable front (c ∷ rest) all ∙ rw stop (omega arith) in
    let within : ltb (length front) (length (front ++ c ∷ rest)) ≡ true =
    lt-ltb _ _ (omega (arith, length-append front (c ∷ rest))) in
    rw (n, within, drop_at front (c ∷ rest) (length front) refl) refl

tail_stops : {B : Type 0} (text : List ℕ) (what : ArcFaultKind) (place : ℕ) (f : List ℕ → Result B Early)
    → IsFaultIn [] what place text → Stops (directory_at text >>= f) what place text
tail_stops text what place f (is, inl h) =
    let fails : directory_at text ≡ fault_at Tail text =
    ap directory_at h.3 ∙ other_tail h.1 h.2 h.4 ∙ ap (fault_at Tail) (sym h.3) in
    subst (λ (k : ArcFaultKind). Stops (directory_at text >>= f) k place text) (sym is)
    (stops_here (directory_at text) f Tail place text fails h.0)
tail_stops text what place f (is, inr h) =
    let fails : directory_at text ≡ fault_at Tail (h.1 ∷ h.2) =
    ap directory_at h.3 ∙ printed_tail h.0 h.1 h.2 h.4 h.5 in
    let sum : place ≡ length h.0 + 1 = h.6 in
    record {
      e = record { kind = Tail; left = length (h.1 ∷ h.2) };
      fails = ap (λ (q : Result (List ℕ) Early). q >>= f) fails;
      kind_is = sym is;
      left = omega (arith, ap length h.3, length-append h.0 (h.1 ∷ h.2));
    }

begins_no : (word text : List ℕ) → BeginsNot word text → str_eq_ignore_ascii_case (take (length word) text) word ≡ false
begins_no word text none = by_test (str_eq_ignore_ascii_case (take (length word) text) word) refl
  where
    by_test : (b : Bool) → str_eq_ignore_ascii_case (take (length word) text) word ≡ b → b ≡ false
    by_test true is = absurd (none (take (length word) text) (drop (length word) text)
        (sym (take-append-drop (length word) text)) is)
    by_test false is = refl

kind_fails : (text : List ℕ) → ((k : ArcKind) → BeginsNot (word_of k) text) → kind_at text ≡ fault_at Kind text
unfolding kind_at
kind_fails text none = rw (
  begins_no (codes "multi(") text (none Multi),
  begins_no (codes "scsi(") text (none Scsi),
  begins_no (codes "signature(") text (none Signature),
) refl

kind_then : {B : Type 0} (text : List ℕ) (what : ArcFaultKind) (place : ℕ) (f : ArcKind × List ℕ → Result B Early)
    → IsFaultAt what place text
    → ((x : ArcKind × List ℕ) (behind : ℕ) → IsFaultIn (pieces_of x.0) what behind x.1 → Stops (f x) what behind x.1)
    → Stops (kind_at text >>= f) what place text
kind_then text what place f (inl h) next =
    subst (λ (k : ArcFaultKind). Stops (kind_at text >>= f) k place text) (sym h.0)
    (stops_here (kind_at text) f Kind place text (kind_fails text h.1) h.2)
kind_then text what place f (inr h) next =
    let ok : kind_at text ≡ Ok (h.0, h.2) = ap kind_at h.4 ∙ kind_found h.0 h.1 h.2 h.5 in
    stops_behind (kind_at text) f (h.0, h.2) what place h.3 text h.1 h.2 ok h.4 h.7 (next (h.0, h.2) h.3 h.6)

abbrev behind_disk : List Piece
behind_disk = item_pieces (codes "rdisk(") (partition_pieces [])

abbrev behind_closing : List Piece
behind_closing = item_pieces (codes "disk(") behind_disk

parts_stop : (text : List ℕ) (what : ArcFaultKind) (place : ℕ) → IsFaultAt what place text
    → Stops (parts_at text) what place text
unfolding parts_at numbers_at
parts_stop text what place is =
    regroup (kind_at text) _ _ what place text
    (kind_then text what place _ is
    (λ kind b is.
    regroup (number_at (radix_of kind.0) (most_of kind.0) kind.1) _ _ what b kind.1
    (digits_then (radix_of kind.0) (most_of kind.0) kind.1 (Name (codes ")") ∷ behind_closing) what b _ is
    (λ controller b is.
    regroup (word_at (codes ")") controller.1) _ _ what b controller.1
    (word_then (codes ")") controller.1 behind_closing what b _ is
    (λ closed b is.
    regroup (item_at (codes "disk(") closed) _ _ what b closed
    (item_then (codes "disk(") closed behind_disk what b _ is
    (λ disk b is.
    regroup (item_at (codes "rdisk(") disk.1) _ _ what b disk.1
    (item_then (codes "rdisk(") disk.1 (partition_pieces []) what b _ is
    (λ rdisk b is.
    regroup (partition_at rdisk.1) _ _ what b rdisk.1
    (partition_then rdisk.1 [] what b _ is (λ partition b is. tail_stops partition.1 what b _ is))))))))))))

pub fault_named : (text : List ℕ) (fault : ArcFault) → IsFirstFault fault text → arc_of text ≡ Err fault
unfolding arc_of
fault_named text fault h =
    let s : Stops (parts_at text) fault.kind h.0 text = parts_stop text fault.kind h.0 h.1 in
    let sum : h.0 + s.e.left ≡ length text = s.left in
    let place : length text - s.e.left ≡ h.0 = omega arith in
    ap (placed text) s.fails ∙ rw (s.kind_is, place, ← h.2) refl
