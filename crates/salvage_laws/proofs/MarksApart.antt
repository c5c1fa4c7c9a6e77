-- Cells that begin where the layout has a mark lie apart, but for two loose ones.
use Rattle.std.proofs.Common.{◌≡◌, inl, inr, ℕ, zero, suc, ◌+◌, ◌-◌, ◌*◌, ◌/◌, ◌%◌, ◌<◌, ◌≤◌, Bool, true, false, cond, List, [], ◌∷◌, ◌++◌, length, drop, get_or, Result, Ok, Err, refl, sym, ap, subst, ◌∙◌, arith}
use Rattle.std.specs.Prelude.{◌&&◌, ◌==◌, nat_le}
use Rattle.std.proofs.lemmas.Bool.{cases_lt}
use Rattle.std.proofs.lemmas.List.{length-append, length-drop, drop-drop, get_or_append_left, get_or-append_right}
use Rattle.nt_bytes.specs.Fields.{u32_in}
use Rattle.nt_bytes.specs.declared.fault.HiveFault.{HiveFault}
use Rattle.nt_bytes.specs.declared.fault.HiveFaultKind.{HiveFaultKind}
use Rattle.nt_bytes.specs.Reading.{◌>>=◌}
use Rattle.hive_model.specs.Bins.{magnitude, size_at, header_at, with_place}
use Rattle.hive_cells.proofs.Tools.{IsBytes, IsBytes-drop, word_at}
use Rattle.hive_cells.proofs.Taken.{size_passed, header_taken}
use Rattle.salvage_bins.specs.declared.layout.Mark.{Mark}
use Rattle.salvage_bins.specs.declared.layout.Mark.TheVariants.{Nothing, InBin, Loose}
use Rattle.salvage_bins.specs.Ground.{is_loose}
use Rattle.salvage_bins.specs.Whole.{slot_mark, cell_marks, bin_marks}
use Rattle.salvage_bins.specs.Loose.{mark_where, loose_marks, names_itself, loose_length}
use Rattle.salvage_bins.specs.Layout.{Stretch, joined, stretch, stretch_of, laid, layout_of}

-- a cell begins here
abbrev pub begins : Mark → Bool
begins Nothing = false
begins InBin = true
begins Loose = true

abbrev pub mark_of : List Mark → ℕ → Mark
mark_of marks k = get_or marks k Nothing

-- the length of the cell that begins at a place of eight bytes
abbrev pub size_of : List ℕ → ℕ → ℕ
size_of bytes k = magnitude (u32_in bytes (8 * k))

-- each cell ends where marks are, and each but a loose one lies apart from the others
pub record AreTidy (marks : List Mark) (bytes : List ℕ) : Type 0 where
  pub least : (k : ℕ) → begins (mark_of marks k) ≡ true → 8 ≤ size_of bytes k
  pub within : (k : ℕ) → begins (mark_of marks k) ≡ true → 8 * k + size_of bytes k ≤ 8 * length marks
  pub apart : (j k : ℕ) → j < k → begins (mark_of marks j) ≡ true → begins (mark_of marks k) ≡ true
      → (is_loose (mark_of marks j) && is_loose (mark_of marks k)) ≡ false → 8 * j + size_of bytes j ≤ 8 * k

-- a number further on
word-on : (bytes : List ℕ) (m n : ℕ) → u32_in (drop m bytes) n ≡ u32_in bytes (m + n)
word-on bytes m n =
    let e : n + m ≡ m + n = omega arith in
    word_at (drop m bytes) n ∙ ap (λ l. u32_in l 0) (drop-drop n m bytes) ∙ sym (word_at bytes (m + n))

size-on : (bytes : List ℕ) (m k : ℕ) → size_of (drop (8 * m) bytes) k ≡ size_of bytes (m + k)
size-on bytes m k =
    let e : 8 * m + 8 * k ≡ 8 * (m + k) = omega arith in
    ap magnitude (word-on bytes (8 * m) (8 * k) ∙ ap (u32_in bytes) e)

-- ---- marks in sequence

nothing-tidy : (bytes : List ℕ) → AreTidy [] bytes
nothing-tidy bytes = record { least = λ k e. absurd cc; within = λ k e. absurd cc; apart = λ j k lt e f n. absurd cc }

module _ (a b : List Mark) (bytes : List ℕ) (ta : AreTidy a bytes) (tb : AreTidy b (drop (8 * length a) bytes)) where
  all-long : length (a ++ b) ≡ length a + length b
  all-long = length-append a b

  first : (k : ℕ) → k < length a → mark_of (a ++ b) k ≡ mark_of a k
  first k lt = get_or_append_left a b Nothing k lt

  second : (k : ℕ) → length a ≤ k → mark_of (a ++ b) k ≡ mark_of b (k - length a)
  second k le = get_or-append_right a b (length a) k Nothing refl le

  size-second : (k : ℕ) → length a ≤ k → size_of (drop (8 * length a) bytes) (k - length a) ≡ size_of bytes k
  size-second k le =
      let e : length a + (k - length a) ≡ k = omega (arith, le) in
      size-on bytes (length a) (k - length a) ∙ ap (size_of bytes) e

  both-tidy : AreTidy (a ++ b) bytes
  both-tidy = record {
    least = λ k e. elim (cases_lt k (length a)) [
      | inl lt ↦ ta.least k (ap begins (sym (first k lt)) ∙ e)
      | inr le ↦ subst (λ (n : ℕ). 8 ≤ n) (size-second k le) (tb.least (k - length a) (ap begins (sym (second k le)) ∙ e))
    ];
    within = λ k e. elim (cases_lt k (length a)) [
      | inl lt ↦ omega (arith, all-long, ta.within k (ap begins (sym (first k lt)) ∙ e))
      | inr le ↦ omega (arith, all-long, le, size-second k le, tb.within (k - length a) (ap begins (sym (second k le)) ∙ e))
    ];
    apart = λ j k lt e f n. elim (cases_lt k (length a)) [
      | inl ka ↦
          let ja : j < length a = omega (arith, lt, ka) in
          ta.apart j k lt (ap begins (sym (first j ja)) ∙ e) (ap begins (sym (first k ka)) ∙ f)
          (ap (λ m. is_loose m && is_loose (mark_of a k)) (sym (first j ja))
          ∙ ap (λ m. is_loose (mark_of (a ++ b) j) && is_loose m) (sym (first k ka)) ∙ n)
      | inr kb ↦ elim (cases_lt j (length a)) [
        | inl ja ↦ omega (arith, kb, ta.within j (ap begins (sym (first j ja)) ∙ e))
        | inr jb ↦
            omega (
              arith,
              lt,
              jb,
              kb,
              size-second j jb,
              tb.apart (j - length a) (k - length a) (omega (arith, lt, jb, kb)) (ap begins (sym (second j jb)) ∙ e)
                  (ap begins (sym (second k kb)) ∙ f)
                  (ap (λ m. is_loose m && is_loose (mark_of b (k - length a))) (sym (second j jb))
                  ∙ ap (λ m. is_loose (mark_of (a ++ b) j) && is_loose m) (sym (second k kb)) ∙ n),
            )
      ]
    ];
  }

-- ---- loose bytes

-- what is known of marks of loose bytes
record LooseTidy (marks : List Mark) (bytes : List ℕ) : Type 0 where
  pub least : (k : ℕ) → begins (mark_of marks k) ≡ true → 8 ≤ size_of bytes k
  pub within : (k : ℕ) → begins (mark_of marks k) ≡ true → 8 * k + size_of bytes k ≤ 8 * length marks
  pub loose : (k : ℕ) → begins (mark_of marks k) ≡ true → is_loose (mark_of marks k) ≡ true

size-next : (bytes : List ℕ) (k : ℕ) → size_of (drop 8 bytes) k ≡ size_of bytes (suc k)
size-next bytes k = let e : 1 + k ≡ suc k = omega arith in size-on bytes 1 k ∙ ap (size_of bytes) e

loose-long : (n : ℕ) (bytes : List ℕ) → length (loose_marks n bytes) ≡ n
unfolding loose_marks
loose-long zero bytes = refl
loose-long (suc n) bytes = ap (λ k. suc k) (loose-long n (drop 8 bytes))

loose-one : (room : ℕ) (bytes : List ℕ) (r : Result ℕ HiveFaultKind) → size_at room bytes ≡ r → begins (mark_where r) ≡ true
    → (8 ≤ magnitude (u32_in bytes 0)) × (magnitude (u32_in bytes 0) ≤ room) × (is_loose (mark_where r) ≡ true)
loose-one room bytes (Ok size) e b =
    let p = size_passed room size (u32_in bytes 0) bytes refl e in (omega (arith, p.0, p.3), omega (arith, p.2, p.3), refl)
loose-one room bytes (Err k) e b = absurd cc

loose-tidy : (n : ℕ) (bytes : List ℕ) → LooseTidy (loose_marks n bytes) bytes
unfolding loose_marks
loose-tidy zero bytes = record { least = λ k e. absurd cc; within = λ k e. absurd cc; loose = λ k e. absurd cc }
loose-tidy (suc n) bytes = more (loose-tidy n (drop 8 bytes))
  where
    room : length (loose_marks n (drop 8 bytes)) ≡ n
    room = loose-long n (drop 8 bytes)

    more : LooseTidy (loose_marks n (drop 8 bytes)) (drop 8 bytes)
        → LooseTidy (mark_where (size_at (8 * suc n) bytes) ∷ loose_marks n (drop 8 bytes)) bytes
    more t = record {
      least = λ k e. least t k e;
      within = λ k e. within t k e;
      loose = λ k e. loose t k e;
    }
      where
        here : begins (mark_where (size_at (8 * suc n) bytes)) ≡ true
            → (8 ≤ magnitude (u32_in bytes 0)) × (magnitude (u32_in bytes 0) ≤ 8 * suc n)
            × (is_loose (mark_where (size_at (8 * suc n) bytes)) ≡ true)
        here e = loose-one (8 * suc n) bytes (size_at (8 * suc n) bytes) refl e

        least : LooseTidy (loose_marks n (drop 8 bytes)) (drop 8 bytes) → (k : ℕ)
            → begins (mark_of (mark_where (size_at (8 * suc n) bytes) ∷ loose_marks n (drop 8 bytes)) k) ≡ true → 8 ≤ size_of bytes k
        least t zero e = (here e).0
        least t (suc k) e = omega (arith, t.least k e, size-next bytes k)

        within : LooseTidy (loose_marks n (drop 8 bytes)) (drop 8 bytes) → (k : ℕ)
            → begins (mark_of (mark_where (size_at (8 * suc n) bytes) ∷ loose_marks n (drop 8 bytes)) k) ≡ true
            → 8 * k + size_of bytes k ≤ 8 * suc (length (loose_marks n (drop 8 bytes)))
        within t zero e = omega (arith, (here e).1, room)
        within t (suc k) e = omega (arith, t.within k e, size-next bytes k)

        loose : LooseTidy (loose_marks n (drop 8 bytes)) (drop 8 bytes) → (k : ℕ)
            → begins (mark_of (mark_where (size_at (8 * suc n) bytes) ∷ loose_marks n (drop 8 bytes)) k) ≡ true
            → is_loose (mark_of (mark_where (size_at (8 * suc n) bytes) ∷ loose_marks n (drop 8 bytes)) k) ≡ true
        loose t zero e = (here e).2
        loose t (suc k) e = t.loose k e

both-loose : (a b : Bool) → a ≡ true → b ≡ true → (a && b) ≡ false → ⊥
both-loose true true e f n = cc
both-loose true false e f n = cc
both-loose false b e f n = cc

loose-are-tidy : (n : ℕ) (bytes : List ℕ) → AreTidy (loose_marks n bytes) bytes
loose-are-tidy n bytes =
    let t = loose-tidy n bytes in
    record {
      least = t.least;
      within = t.within;
      apart = λ j k lt e f d. absurd (both-loose (is_loose (mark_of (loose_marks n bytes) j)) (is_loose (mark_of (loose_marks n bytes) k))
          (t.loose j e) (t.loose k f) d);
    }

-- ---- bins that are whole

-- what is known of marks of a bin's bytes, of which a cell before covers the first
record CellsTidy (n covered : ℕ) (bytes : List ℕ) (marks : List Mark) : Type 0 where
  pub long : length marks ≡ n
  pub front : (k : ℕ) → k < covered → begins (mark_of marks k) ≡ false
  pub least : (k : ℕ) → begins (mark_of marks k) ≡ true → 8 ≤ size_of bytes k
  pub within : (k : ℕ) → begins (mark_of marks k) ≡ true → 8 * k + size_of bytes k ≤ 8 * n
  pub apart : (j k : ℕ) → j < k → begins (mark_of marks j) ≡ true → begins (mark_of marks k) ≡ true → 8 * j + size_of bytes j ≤ 8 * k

abbrev read : List Mark → Result (List Mark) HiveFault
read ms = Ok ms

read-same : (a b : List Mark) → read a ≡ read b → a ≡ b
read-same a b e = cc

not-both : (m : Mark) → begins m ≡ true → begins m ≡ false → ⊥
not-both m e f = let k : false ≡ true = sym f ∙ e in cc

-- a place that is covered, and the places after it
covered-tidy : (n c : ℕ) (bytes : List ℕ) (ms : List Mark) → CellsTidy n c (drop 8 bytes) ms → CellsTidy (suc n) (suc c) bytes (Nothing ∷ ms)
covered-tidy n c bytes ms t = record {
  long = ap (λ k. suc k) t.long;
  front = front;
  least = least;
  within = within;
  apart = apart;
}
  where
    front : (k : ℕ) → k < suc c → begins (mark_of (Nothing ∷ ms) k) ≡ false
    front zero lt = refl
    front (suc k) lt = t.front k (omega (arith, lt))

    least : (k : ℕ) → begins (mark_of (Nothing ∷ ms) k) ≡ true → 8 ≤ size_of bytes k
    least zero e = absurd cc
    least (suc k) e = omega (arith, t.least k e, size-next bytes k)

    within : (k : ℕ) → begins (mark_of (Nothing ∷ ms) k) ≡ true → 8 * k + size_of bytes k ≤ 8 * suc n
    within zero e = absurd cc
    within (suc k) e = omega (arith, t.within k e, size-next bytes k)

    apart : (j k : ℕ) → j < k → begins (mark_of (Nothing ∷ ms) j) ≡ true → begins (mark_of (Nothing ∷ ms) k) ≡ true
        → 8 * j + size_of bytes j ≤ 8 * k
    apart zero k lt e f = absurd cc
    apart (suc j) zero lt e f = absurd cc
    apart (suc j) (suc k) lt e f = omega (arith, t.apart j k (omega (arith, lt)) e f, size-next bytes j)

-- the mark of a cell of this size, and how many places after it are covered
abbrev one : ℕ → Result (Mark × ℕ) HiveFault
one size = Ok (InBin, size / 8 - 1)

abbrev done : List Mark × ℕ → Result (List Mark × ℕ) HiveFault
done bin = Ok bin

-- a cell, and the places after it
cell-tidy : (n size : ℕ) (bytes : List ℕ) (ms : List Mark) → size_at (8 * suc n) bytes ≡ Ok size
    → CellsTidy n (size / 8 - 1) (drop 8 bytes) ms → CellsTidy (suc n) 0 bytes (InBin ∷ ms)
cell-tidy n size bytes ms e t = record {
  long = ap (λ k. suc k) t.long;
  front = λ k lt. absurd (omega (arith, lt));
  least = least;
  within = within;
  apart = apart;
}
  where
    p : (8 ≤ size) × (size % 8 ≡ 0) × (size ≤ 8 * suc n) × (magnitude (u32_in bytes 0) ≡ size)
    p = size_passed (8 * suc n) size (u32_in bytes 0) bytes refl e

    least : (k : ℕ) → begins (mark_of (InBin ∷ ms) k) ≡ true → 8 ≤ size_of bytes k
    least zero e = omega (arith, p.0, p.3)
    least (suc k) e = omega (arith, t.least k e, size-next bytes k)

    within : (k : ℕ) → begins (mark_of (InBin ∷ ms) k) ≡ true → 8 * k + size_of bytes k ≤ 8 * suc n
    within zero e = omega (arith, p.2, p.3)
    within (suc k) e = omega (arith, t.within k e, size-next bytes k)

    apart : (j k : ℕ) → j < k → begins (mark_of (InBin ∷ ms) j) ≡ true → begins (mark_of (InBin ∷ ms) k) ≡ true
        → 8 * j + size_of bytes j ≤ 8 * k
    apart zero zero lt e f = absurd (omega (arith, lt))
    apart zero (suc k) lt e f =
        elim (cases_lt k (size / 8 - 1)) [
          | inl before ↦ absurd (not-both (mark_of ms k) f (t.front k before))
          | inr after ↦ omega (arith, after, p.0, p.1, p.3)
        ]
    apart (suc j) zero lt e f = absurd (omega (arith, lt))
    apart (suc j) (suc k) lt e f = omega (arith, t.apart j k (omega (arith, lt)) e f, size-next bytes j)

cells-tidy : (n covered at : ℕ) (bytes : List ℕ) (ms : List Mark) → covered ≤ n → cell_marks n covered at bytes ≡ Ok ms
    → CellsTidy n covered bytes ms
unfolding cell_marks slot_mark
cells-tidy zero covered at bytes ms few e =
    subst (CellsTidy zero covered bytes) (read-same [] ms e) (record {
      long = refl;
      front = λ k lt. refl;
      least = λ k b. absurd cc;
      within = λ k b. absurd cc;
      apart = λ j k lt b d. absurd cc;
    })
cells-tidy (suc n) (suc c) at bytes ms few e =
    by (cell_marks n c (at + 8) (drop 8 bytes)) e (λ more d. cells-tidy n c (at + 8) (drop 8 bytes) more (omega (arith, few)) d)
  where
    by : (r : Result (List Mark) HiveFault) → (r >>= λ more. Ok (Nothing ∷ more)) ≡ Ok ms
        → ((more : List Mark) → r ≡ Ok more → CellsTidy n c (drop 8 bytes) more) → CellsTidy (suc n) (suc c) bytes ms
    by (Ok more) e h = subst (CellsTidy (suc n) (suc c) bytes) (read-same (Nothing ∷ more) ms e) (covered-tidy n c bytes more (h more refl))
    by (Err f) e h = absurd cc
cells-tidy (suc n) zero at bytes ms few e =
    sized (size_at (8 * suc n) bytes) refl e
    (λ size more room d. cells-tidy n (size / 8 - 1) (at + 8) (drop 8 bytes) more room d)
  where
    by : (size : ℕ) → size_at (8 * suc n) bytes ≡ Ok size → (r : Result (List Mark) HiveFault)
        → (r >>= λ more. Ok (InBin ∷ more)) ≡ Ok ms → ((more : List Mark) → r ≡ Ok more → CellsTidy n (size / 8 - 1) (drop 8 bytes) more)
        → CellsTidy (suc n) 0 bytes ms
    by size s (Ok more) e h = subst (CellsTidy (suc n) 0 bytes) (read-same (InBin ∷ more) ms e) (cell-tidy n size bytes more s (h more refl))
    by size s (Err f) e h = absurd cc

    sized : (r : Result ℕ HiveFaultKind) → size_at (8 * suc n) bytes ≡ r
        → ((with_place at r >>= one) >>= λ mark. cell_marks n mark.1 (at + 8) (drop 8 bytes) >>= λ more. Ok (mark.0 ∷ more)) ≡ Ok ms
        → ((size : ℕ) (more : List Mark) → size / 8 - 1 ≤ n → cell_marks n (size / 8 - 1) (at + 8) (drop 8 bytes) ≡ Ok more
        → CellsTidy n (size / 8 - 1) (drop 8 bytes) more) → CellsTidy (suc n) 0 bytes ms
    sized (Ok size) s e h =
        let p = size_passed (8 * suc n) size (u32_in bytes 0) bytes refl s in
        by size s (cell_marks n (size / 8 - 1) (at + 8) (drop 8 bytes)) e (λ more d. h size more (omega (arith, p.0, p.1, p.2)) d)
    sized (Err k) s e h = absurd cc

four-tidy : (bytes : List ℕ) → AreTidy (Nothing ∷ Nothing ∷ Nothing ∷ Nothing ∷ []) bytes
four-tidy bytes = record {
  least = λ k e. absurd (not-both (mark_of four k) e (none k));
  within = λ k e. absurd (not-both (mark_of four k) e (none k));
  apart = λ j k lt e f n. absurd (not-both (mark_of four j) e (none j));
}
  where
    four : List Mark
    four = Nothing ∷ Nothing ∷ Nothing ∷ Nothing ∷ []

    none : (k : ℕ) → begins (mark_of (Nothing ∷ Nothing ∷ Nothing ∷ Nothing ∷ []) k) ≡ false
    none zero = refl
    none (suc zero) = refl
    none (suc (suc zero)) = refl
    none (suc (suc (suc zero))) = refl
    none (suc (suc (suc (suc k)))) = refl

-- a stretch of whole eight bytes has a mark for each eight, and its cells lie apart
record StretchTidy (s : Stretch) (bytes : List ℕ) : Type 0 where
  pub tidy : AreTidy s.laid.marks bytes
  pub long : s.long ≡ 8 * length s.laid.marks

bin-tidy : (at : ℕ) (bytes : List ℕ) (bin : List Mark × ℕ) → IsBytes bytes → bin_marks at bytes ≡ Ok bin
    → AreTidy bin.0 bytes × (bin.1 ≡ 8 * length bin.0)
unfolding bin_marks
bin-tidy at bytes bin fits e = headed (header_at at bytes) refl e
  where
    same : (a b : List Mark × ℕ) → done a ≡ done b → a ≡ b
    same a b e = cc

    by : (size : ℕ) → header_at at bytes ≡ Ok size → (r : Result (List Mark) HiveFault)
        → cell_marks (size / 8 - 4) 0 (at + 32) (drop 32 bytes) ≡ r
        → (r >>= λ marks. Ok (Nothing ∷ Nothing ∷ Nothing ∷ Nothing ∷ marks, size)) ≡ Ok bin
        → AreTidy bin.0 bytes × (bin.1 ≡ 8 * length bin.0)
    by size h (Ok marks) c e =
        let taken = header_taken at size bytes fits h in
        let t = cells-tidy (size / 8 - 4) 0 (at + 32) (drop 32 bytes) marks (omega arith) c in
        let cells : AreTidy marks (drop 32 bytes) = record {
          least = t.least;
          within = λ k b. omega (arith, t.long, t.within k b);
          apart = λ j k lt b d n. t.apart j k lt b d;
        } in
        let all = both-tidy (Nothing ∷ Nothing ∷ Nothing ∷ Nothing ∷ []) marks bytes (four-tidy bytes) cells in
        subst (λ (x : List Mark × ℕ). AreTidy x.0 bytes × (x.1 ≡ 8 * length x.0))
        (same (Nothing ∷ Nothing ∷ Nothing ∷ Nothing ∷ marks, size) bin e) (all, omega (arith, t.long, taken.least, taken.whole))
    by size h (Err f) c e = absurd cc

    headed : (r : Result ℕ HiveFaultKind) → header_at at bytes ≡ r
        → (with_place at r >>= λ size. cell_marks (size / 8 - 4) 0 (at + 32) (drop 32 bytes) >>= λ marks.
        Ok (Nothing ∷ Nothing ∷ Nothing ∷ Nothing ∷ marks, size)) ≡ Ok bin
        → AreTidy bin.0 bytes × (bin.1 ≡ 8 * length bin.0)
    headed (Ok size) h e = by size h (cell_marks (size / 8 - 4) 0 (at + 32) (drop 32 bytes)) refl e
    headed (Err k) h e = absurd cc

loose-whole : (n from fault at : ℕ) (bytes : List ℕ) → from % 8 ≡ 0 → length bytes % 8 ≡ 0
    → loose_length n from fault at bytes % 8 ≡ 0
unfolding loose_length
loose-whole zero from fault at bytes f l = l
loose-whole (suc n) from fault at bytes f l =
    go (nat_le fault (at + from) && names_itself (at + from) (drop from bytes))
    (loose-whole n (from + 4096) fault at bytes (omega (arith, f)) l)
  where
    go : (b : Bool) → loose_length n (from + 4096) fault at bytes % 8 ≡ 0
        → cond b from (loose_length n (from + 4096) fault at bytes) % 8 ≡ 0
    go true h = f
    go false h = h

stretch-tidy : (at : ℕ) (bytes : List ℕ) → IsBytes bytes → length bytes % 8 ≡ 0 → StretchTidy (stretch at bytes) bytes
unfolding stretch
stretch-tidy at bytes fits whole = by (bin_marks at bytes) refl
  where
    by : (r : Result (List Mark × ℕ) HiveFault) → bin_marks at bytes ≡ r → StretchTidy (stretch_of at bytes r) bytes
    by (Ok bin) e = let t = bin-tidy at bytes bin fits e in record { tidy = t.0; long = t.1 }
    by (Err fault) e =
        let long = loose_length (length bytes / 4096) 4096 fault.at at bytes in
        record {
          tidy = loose-are-tidy (long / 8) bytes;
          long = omega (
            arith,
            loose-long (long / 8) bytes,
            loose-whole (length bytes / 4096) 4096 fault.at at bytes refl whole,
          );
        }

laid-tidy : (n at : ℕ) (bytes : List ℕ) → IsBytes bytes → length bytes % 8 ≡ 0 → AreTidy (laid n at bytes).marks bytes
unfolding laid
laid-tidy zero at bytes fits whole = nothing-tidy bytes
laid-tidy (suc n) at bytes fits whole =
    let s = stretch at bytes in
    let t = stretch-tidy at bytes fits whole in
    let rest = laid-tidy n (at + s.long) (drop s.long bytes) (IsBytes-drop s.long bytes fits)
    (omega (arith, length-drop s.long bytes, t.long, whole)) in
    let moved : AreTidy (laid n (at + s.long) (drop s.long bytes)).marks (drop (8 * length s.laid.marks) bytes) =
    subst (λ (k : ℕ). AreTidy (laid n (at + s.long) (drop s.long bytes)).marks (drop k bytes)) t.long rest in
    go (length bytes == 0)
    (both-tidy s.laid.marks (laid n (at + s.long) (drop s.long bytes)).marks bytes t.tidy moved)
  where
    go : (b : Bool) → AreTidy (joined (stretch at bytes).laid (laid n (at + (stretch at bytes).long) (drop (stretch at bytes).long bytes))).marks bytes
        → AreTidy (cond b (record { marks = []; broken = [] }) (joined (stretch at bytes).laid
        (laid n (at + (stretch at bytes).long) (drop (stretch at bytes).long bytes)))).marks bytes
    go true t = nothing-tidy bytes
    go false t = t

pub layout-tidy : (bytes : List ℕ) → IsBytes bytes → length bytes % 8 ≡ 0 → AreTidy (layout_of bytes).marks bytes
layout-tidy bytes fits whole = laid-tidy (length bytes) 0 bytes fits whole
