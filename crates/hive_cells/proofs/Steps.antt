-- The steps of the loops that read bins and cells.
use Rattle.std.proofs.Common.{◌≡◌, ℕ, ◌+◌, ◌-◌, ◌/◌, ◌%◌, ◌<◌, ◌≤◌, Bool, true, false, List, [], ◌∷◌, ◌++◌, length, drop, replicate, Result, Ok, Err, refl, sym, ap, ◌∙◌, append_assoc, arith, inr}
use Rattle.std.specs.List.{flat_map}
use Rattle.std.specs.Prelude.{slice_range}
use Rattle.std.proofs.lemmas.List.{drop_at, length-drop, append-nil, drop-drop}
use Rattle.std.proofs.lemmas.List.Concat.{flat_map-append}
use Rattle.nt_bytes.specs.declared.fault.HiveFaultKind.{HiveFaultKind}
use Rattle.nt_bytes.specs.declared.fault.HiveFault.{HiveFault}
use Rattle.hive_model.specs.Bins.{Cell, cell_size, cells_size, bins_size, head_bytes, cell_bytes, bin_bytes, spelled, IsCell, IsBin, IsHeap, header_at, size_at, BinFails, BinsFault, with_place}
use Rattle.hive_cells.specs.Reading.{cell_in, bins_of, cell_marks, bin_marks, marks, IsKept, BinRead, CellsRead, BinsRead}
use Rattle.hive_cells.proofs.Tools.{IsBytes, IsBytes-drop, length_bin, length_spelled, both_hold, cells_size-append, bins_size-append, spelled-append}
use Rattle.hive_cells.proofs.Again.{bins_of_again}
use Rattle.hive_cells.proofs.Taken.{cell_taken, header_taken}

abbrev fine : {A : Type 0} → A → Result A HiveFault
fine x = Ok x

abbrev failed : (A : Type 0) → HiveFault → Result A HiveFault
failed A f = Err f

ok_same : {A : Type 0} (y x : A) → fine y ≡ fine x → y ≡ x
ok_same y x e = cc

err_same : (A : Type 0) (f g : HiveFault) → failed A f ≡ failed A g → f ≡ g
err_same A f g e = cc

pub placed_ok : {A : Type 0} (at : ℕ) (r : Result A HiveFaultKind) (x : A) → with_place at r ≡ Ok x → r ≡ Ok x
placed_ok at (Ok y) x e = ap (λ z. Ok z) (ok_same y x e)
placed_ok at (Err k) x e = absurd cc

pub placed_err : {A : Type 0} (at : ℕ) (r : Result A HiveFaultKind) (f : HiveFault) → with_place at r ≡ Err f
    → (r ≡ Err f.kind) × (f.at ≡ at)
placed_err at (Ok y) f e = absurd cc
placed_err {A = A} at (Err k) f e = let p = err_same A (record { kind = k; at = at }) f e in
    (ap (λ (g : HiveFault). Err g.kind) p, ap (λ (g : HiveFault). g.at) (sym p))

pub cells_start : (at : ℕ) (bytes : List ℕ) (old new : List Bool) (size : ℕ) → IsBytes bytes
    → header_at at bytes ≡ Ok size → new ≡ old ++ replicate 4 false → CellsRead at bytes old new size 32
cells_start at bytes old new size fits e table =
    let h = header_taken at size bytes fits e in
    record { cells = []; sound = tt; parts = sym h.parts; place = refl; table = table }

regroup : (a b d : List Bool)
    → (a ++ (replicate 4 false ++ b) ++ true ∷ []) ++ d ≡ a ++ (replicate 4 false ++ (b ++ ((true ∷ d) ++ [])))
regroup a b d = rw (
  append_assoc (a ++ (replicate 4 false ++ b)) (true ∷ []) d,
  append_assoc a (replicate 4 false ++ b) (true ∷ d),
  append_assoc (replicate 4 false) b (true ∷ d),
  append-nil d,
)
    refl

marked : (old new after : List Bool) (cells : List Cell) (c : Cell) (found : ℕ) → cell_size c ≡ found
    → new ≡ old ++ (replicate 4 false ++ flat_map cell_marks cells)
    → after ≡ (new ++ true ∷ []) ++ replicate (found / 8 - 1) false
    → after ≡ old ++ (replicate 4 false ++ flat_map cell_marks (cells ++ c ∷ []))
marked old new after cells c found sized was is =
    rw (is, was, ← sized, flat_map-append cell_marks cells (c ∷ []))
    (regroup old (flat_map cell_marks cells) (replicate (cell_size c / 8 - 1) false))

pub cells_next : (at : ℕ) (bytes : List ℕ) (old new after : List Bool) (size cell found : ℕ) → IsBytes bytes
    → length bytes ≤ 16777216 → header_at at bytes ≡ Ok size → CellsRead at bytes old new size cell → cell < size
    → cell % 8 ≡ 0
    → size_at (size - cell) (drop cell bytes) ≡ Ok found → after ≡ (new ++ true ∷ []) ++ replicate (found / 8 - 1) false
    → CellsRead at bytes old after size (cell + found) × ((cell + found) % 8 ≡ 0)
cells_next at bytes old new after size cell found fits small header r lt aligned e table =
    let h = header_taken at size bytes fits header in
    let long : size - cell ≤ length (drop cell bytes) = omega (arith, length-drop cell bytes, h.fits) in
    let room : 8 ≤ size - cell = omega (arith, h.whole, aligned, lt) in
    let t = cell_taken (drop cell bytes) (size - cell) found (IsBytes-drop cell bytes fits) (omega (arith, long, room))
    long (omega (arith, h.fits, small)) e in
    let c = cell_in found (drop cell bytes) in
    let rest : drop found (drop cell bytes) ≡ drop (cell + found) bytes = drop-drop found cell bytes in
    let spelled_more : flat_map cell_bytes (r.cells ++ c ∷ []) ++ drop (cell + found) bytes
    ≡ flat_map cell_bytes r.cells ++ drop cell bytes =
    rw (
      flat_map-append cell_bytes r.cells (c ∷ []),
      append_assoc (flat_map cell_bytes r.cells) (cell_bytes c ++ []) (drop (cell + found) bytes),
      append-nil (cell_bytes c),
      ← rest,
      t.parts,
    ) refl in
    let whole : found % 8 ≡ 0 = rw t.sized at t.sound.whole in (
      record {
        cells = r.cells ++ c ∷ [];
        sound = both_hold IsCell r.cells (c ∷ []) r.sound (t.sound, tt);
        parts = r.parts ∙ ap (λ (s : List ℕ). head_bytes at size (slice_range bytes 12 32) ++ s) (sym spelled_more);
        place = omega (arith, r.place, cells_size-append r.cells (c ∷ []), t.sized);
        table = marked old new after r.cells c found t.sized r.table table;
      },
      omega (arith, aligned, whole),
    )

pub cells_end : (at : ℕ) (bytes : List ℕ) (old new : List Bool) (size cell : ℕ) → IsBytes bytes
    → header_at at bytes ≡ Ok size → CellsRead at bytes old new size cell → size ≤ cell → cell ≤ size
    → BinRead at bytes old new size
cells_end at bytes old new size cell fits header r le within =
    let h = header_taken at size bytes fits header in
    let e : 32 + cells_size r.cells ≡ size = omega (arith, r.place, within, le) in
    record {
      bin = record { ignored = slice_range bytes 12 32; cells = r.cells };
      rest = drop cell bytes;
      sound = record { ignored = h.twenty; whole = rw e h.whole; cells = r.sound };
      parts = rw e (r.parts ∙ sym
          (append_assoc (head_bytes at size (slice_range bytes 12 32)) (flat_map cell_bytes r.cells)
          (drop cell bytes)));
      sized = sym e;
      table = r.table;
    }

pub cells_fail : (at : ℕ) (bytes : List ℕ) (old new : List Bool) (size cell : ℕ) (fault : HiveFault) → IsBytes bytes
    → header_at at bytes ≡ Ok size → CellsRead at bytes old new size cell → cell < size
    → with_place (at + cell) (size_at (size - cell) (drop cell bytes)) ≡ Err fault → BinFails at bytes fault
cells_fail at bytes old new size cell fault fits header r lt e =
    let h = header_taken at size bytes fits header in
    let p = placed_err (at + cell) (size_at (size - cell) (drop cell bytes)) fault e in
    inr (record {
      size = size;
      ignored = slice_range bytes 12 32;
      cells = r.cells;
      rest = drop cell bytes;
      parts = r.parts;
      header = header;
      twenty = h.twenty;
      sound = r.sound;
      left = omega (arith, r.place, lt);
      place = omega (arith, p.1, r.place);
      fails = rw (← r.place) p.0;
    })

pub bins_next : (text : List ℕ) (at : ℕ) (starts after : List Bool) (size : ℕ) → BinsRead text at starts
    → BinRead at (drop at text) starts after size → BinsRead text (at + size) after
bins_next text at starts after size r b =
    let place : 0 + bins_size r.bins ≡ at = omega (arith, r.place) in
    let long : length (bin_bytes at b.bin) ≡ size = length_bin at b.bin b.sound.ignored ∙ sym b.sized in
    let rest : drop (at + size) text ≡ b.rest =
    sym (drop-drop size at text) ∙ ap (drop size) b.parts ∙ drop_at (bin_bytes at b.bin) b.rest size long in
    record {
      bins = r.bins ++ b.bin ∷ [];
      sound = both_hold IsBin r.bins (b.bin ∷ []) r.sound (b.sound, tt);
      parts = r.parts ∙ ap (λ (s : List ℕ). spelled 0 r.bins ++ s) b.parts
          ∙ sym (rw (rest, spelled-append 0 r.bins (b.bin ∷ []), place, append-nil (bin_bytes at b.bin))
          (append_assoc (spelled 0 r.bins) (bin_bytes at b.bin) b.rest));
      place = omega (arith, r.place, bins_size-append r.bins (b.bin ∷ []), b.sized);
      table = rw (b.table, r.table, flat_map-append bin_marks r.bins (b.bin ∷ []), append-nil (bin_marks b.bin)) refl;
    }

pub bins_fail : (text : List ℕ) (at : ℕ) (starts : List Bool) (fault : HiveFault) → BinsRead text at starts
    → BinFails at (drop at text) fault → BinsFault text fault
bins_fail text at starts fault r f =
    let place : length (spelled 0 r.bins) ≡ at = length_spelled 0 r.bins r.sound ∙ sym r.place in
    record { front = r.bins; rest = drop at text; sound = r.sound; parts = r.parts; fails = rw place f }

empty : (xs : List ℕ) → length xs ≡ 0 → xs ≡ []
empty [] e = refl
empty (x ∷ xs) e = absurd (omega (arith, e))

drop_none : (xs : List ℕ) (n : ℕ) → length xs ≤ n → drop n xs ≡ []
drop_none xs n le = empty (drop n xs) (omega (arith, length-drop n xs, le))

pub bins_end : (text : List ℕ) (at : ℕ) (starts : List Bool) → length text ≤ 16777216 → BinsRead text at starts
    → length text ≤ at → at ≤ length text → IsKept text starts
bins_end text at starts small r le within =
    let none : drop at text ≡ [] = drop_none text at le in
    record {
      bins = r.bins;
      sound = record { each = r.sound; small = omega (arith, r.place, within, small) };
      bytes = r.parts ∙ ap (λ (s : List ℕ). spelled 0 r.bins ++ s) none ∙ append-nil (spelled 0 r.bins);
      table =
          r.table;
    }

-- what is kept is what is seen
pub kept_seen : (text : List ℕ) (starts : List Bool) → IsKept text starts
    → IsHeap (bins_of text) × (text ≡ spelled 0 (bins_of text)) × (starts ≡ marks (bins_of text))
kept_seen text starts k =
    let e : bins_of text ≡ k.bins = ap bins_of k.bytes ∙ bins_of_again k.bins k.sound in
    rw e (k.sound, k.bytes, k.table)
