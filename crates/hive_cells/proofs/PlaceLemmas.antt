-- A change of the cells from one on, in the bytes, the table and the index.
use Rattle.std.proofs.Common.{◌≡◌, ℕ, ◌+◌, ◌*◌, ◌<◌, ◌≤◌, Bool, false, List, [], ◌∷◌, ◌++◌, length, replicate, Some, refl, sym, ap, ◌∙◌, append_assoc, arith}
use Rattle.std.specs.List.{AllByRecursion, flat_map}
use Rattle.std.proofs.lemmas.Bool.{eq-eqb, ne_eqb}
use Rattle.std.proofs.lemmas.List.{length-append, length-replicate}
use Rattle.std.proofs.lemmas.List.Concat.{flat_map-append}
use Rattle.hive_model.specs.Bins.{Cell, Bin, cell_size, cells_size, bin_size, bins_size, head_bytes, cell_bytes, spelled, IsCell, IsBin, IsHeap, cell_at}
use Rattle.hive_cells.specs.Reading.{cell_marks, bin_marks, marks, bins_of}
use Rattle.hive_cells.proofs.Tools.{length_cells, length_head, length_spelled, both_hold, cells_size-append, bins_size-append, spelled-append}
use Rattle.hive_cells.proofs.Again.{bins_of_again}
use Rattle.hive_cells.proofs.Steps.{kept_seen}
use Rattle.hive_cells.proofs.Spots.{spot, all_first, length_marks}
use Rattle.hive_cells.specs.Holes.{cell_free_sizes, bin_free_sizes, free_sizes}
use Rattle.hive_cells.specs.Changes.{at_cells, at_bins, at_cell}
use Rattle.hive_cells.proofs.Indexed.{IsIndexed}
use Rattle.hive_cells.proofs.SizeLemmas.{length_rooms, length_bins}

-- ---- the change, where the cell lies

cells_early : (cs : List Cell) (o p : ℕ) (f : List Cell → List Cell) → o < p → at_cells o f p cs ≡ cs
cells_early [] o p f lt = refl
cells_early (c ∷ cs) o p f lt =
    rw (ne_eqb p o (λ e. omega (arith, e, lt)), cells_early cs o (p + cell_size c) f (omega (arith, lt))) refl

cells_late : (cs : List Cell) (o p : ℕ) (f : List Cell → List Cell) → p + cells_size cs ≤ o → at_cells o f p cs ≡ cs
cells_late [] o p f le = refl
cells_late (c ∷ cs) o p f le =
    rw (ne_eqb p o (λ e. omega (arith, e, le)), cells_late cs o (p + cell_size c) f (omega (arith, le))) refl

bins_early : (bs : List Bin) (o p : ℕ) (f : List Cell → List Cell) → o < p → at_bins o f p bs ≡ bs
bins_early [] o p f lt = refl
bins_early (b ∷ bs) o p f lt =
    rw (cells_early b.cells o (p + 32) f (omega (arith, lt)), bins_early bs o (p + bin_size b) f (omega (arith, lt)))
    refl

cells_here : (front : List Cell) (c : Cell) (back : List Cell) (o p : ℕ) (f : List Cell → List Cell)
    → o ≡ p + cells_size front → at_cells o f p (front ++ c ∷ back) ≡ front ++ f (c ∷ back)
cells_here [] c back o p f e = rw (eq-eqb p o (omega (arith, e))) refl
cells_here (d ∷ front) c back o p f e =
    rw (ne_eqb p o (λ k. omega (arith, e, k)), cells_here front c back o (p + cell_size d) f (omega (arith, e))) refl

-- a bin with a part of its cells named
abbrev pub bin_with : List ℕ → List Cell → List Cell → Bin
bin_with ignored front tail = record { ignored = ignored; cells = front ++ tail }

pub bins_here : (pre : List Bin) (ignored : List ℕ) (front : List Cell) (c : Cell) (back : List Cell) (post : List Bin)
    (o p : ℕ) (f : List Cell → List Cell)
    → o ≡ p + (bins_size pre + (32 + cells_size front))
    → at_bins o f p (pre ++ bin_with ignored front (c ∷ back) ∷ post) ≡ pre ++ bin_with ignored front (f (c ∷ back))
    ∷ post
bins_here [] ignored front c back post o p f e =
    rw (
      cells_here front c back o (p + 32) f (omega (arith, e)),
      bins_early post o (p + (32 + cells_size (front ++ c ∷ back))) f
          (omega (arith, e, cells_size-append front (c ∷ back))),
    ) refl
bins_here (b ∷ pre) ignored front c back post o p f e =
    rw (
      cells_late b.cells o (p + 32) f (omega (arith, e)),
      bins_here pre ignored front c back post o (p + bin_size b) f (omega (arith, e)),
    ) refl

-- ---- the bytes and the table

abbrev pub bytes_before : List Bin → List ℕ → List Cell → ℕ → List ℕ
bytes_before pre ignored front size =
    spelled 0 pre ++ (head_bytes (bins_size pre) size ignored ++ flat_map cell_bytes front)

abbrev pub marks_before : List Bin → List Cell → List Bool
marks_before pre front = marks pre ++ (replicate 4 false ++ flat_map cell_marks front)

regroup : {X : Type 0} (a h f t r : List X) → a ++ ((h ++ (f ++ t)) ++ r) ≡ (a ++ (h ++ f)) ++ (t ++ r)
regroup a h f t r = rw (
  append_assoc h (f ++ t) r,
  append_assoc f t r,
  append_assoc a (h ++ f) (t ++ r),
  append_assoc h f (t ++ r),
) refl

pub spelled_with : (pre : List Bin) (ignored : List ℕ) (front tail : List Cell) (post : List Bin) (size : ℕ)
    → size ≡ 32 + cells_size (front ++ tail)
    → spelled 0 (pre ++ bin_with ignored front tail ∷ post) ≡ bytes_before pre ignored front size
    ++ (flat_map cell_bytes tail ++ spelled (bins_size pre + size) post)
spelled_with pre ignored front tail post size e =
    let z : 0 + bins_size pre ≡ bins_size pre = omega arith in
    rw (e, spelled-append 0 pre (bin_with ignored front tail ∷ post), z, flat_map-append cell_bytes front tail)
    (regroup (spelled 0 pre) (head_bytes (bins_size pre) (32 + cells_size (front ++ tail)) ignored)
    (flat_map cell_bytes front) (flat_map cell_bytes tail)
    (spelled (bins_size pre + (32 + cells_size (front ++ tail))) post))

pub marks_with : (pre : List Bin) (ignored : List ℕ) (front tail : List Cell) (post : List Bin)
    → marks (pre ++ bin_with ignored front tail ∷ post) ≡ marks_before pre front
    ++ (flat_map cell_marks tail ++ marks post)
marks_with pre ignored front tail post =
    rw (flat_map-append bin_marks pre (bin_with ignored front tail ∷ post), flat_map-append cell_marks front tail)
    (regroup (marks pre) (replicate 4 false) (flat_map cell_marks front) (flat_map cell_marks tail) (marks post))

abbrev pub rooms_before : List Bin → List Cell → List ℕ
rooms_before pre front = free_sizes pre ++ (replicate 4 0 ++ flat_map cell_free_sizes front)

pub rooms_with : (pre : List Bin) (ignored : List ℕ) (front tail : List Cell) (post : List Bin)
    → free_sizes (pre ++ bin_with ignored front tail ∷ post) ≡ rooms_before pre front
    ++ (flat_map cell_free_sizes tail ++ free_sizes post)
rooms_with pre ignored front tail post =
    rw (
      flat_map-append bin_free_sizes pre (bin_with ignored front tail ∷ post),
      flat_map-append cell_free_sizes front tail,
    )
    (regroup (free_sizes pre) (replicate 4 0) (flat_map cell_free_sizes front) (flat_map cell_free_sizes tail)
    (free_sizes post))

-- What is kept is kept by a change to cells as long together, if the bytes and the table follow.
pub record Edited (text : List ℕ) (at : ℕ) (f : List Cell → List Cell) (text2 : List ℕ) (starts2 : List Bool)
    (rooms2 : List ℕ) : Type 0 where
  pub kept : IsIndexed text2 starts2 rooms2
  pub seen : bins_of text2 ≡ at_cell at f (bins_of text)
  pub long : bins_size (bins_of text2) ≡ bins_size (bins_of text)

-- where an allocated or free cell lies in what is kept
pub record Place (text : List ℕ) (starts : List Bool) (rooms : List ℕ) (at : ℕ) (c : Cell) : Type 0 where
  pub pre : List Bin
  pub ignored : List ℕ
  pub front : List Cell
  pub back : List Cell
  pub post : List Bin
  pub size : ℕ
  pub bins : bins_of text ≡ pre ++ bin_with ignored front (c ∷ back) ∷ post
  pub sized : size ≡ 32 + cells_size (front ++ c ∷ back)
  pub heap : IsHeap (bins_of text)
  pub bytes : text ≡ bytes_before pre ignored front size
      ++ (flat_map cell_bytes (c ∷ back) ++ spelled (bins_size pre + size) post)
  pub table : starts ≡ marks_before pre front ++ (flat_map cell_marks (c ∷ back) ++ marks post)
  pub index : rooms ≡ rooms_before pre front ++ (flat_map cell_free_sizes (c ∷ back) ++ free_sizes post)
  pub long : length (bytes_before pre ignored front size) ≡ at
  pub place : at ≡ bins_size pre + (32 + cells_size front)
  pub marked : 8 * length (marks_before pre front) ≡ at
  pub roomed : 8 * length (rooms_before pre front) ≡ at
  pub sound : AllByRecursion IsCell (c ∷ back)

pub marks_long : (bs : List Bin) → AllByRecursion IsBin bs → 8 * length (marks bs) ≡ bins_size bs
marks_long [] h = refl
marks_long (b ∷ bs) h =
    omega (
      arith,
      length-append (bin_marks b) (marks bs),
      length-append (replicate 4 false) (flat_map cell_marks b.cells),
      length-replicate 4 false,
      length_marks b.cells h.0.cells,
      marks_long bs h.1,
    )

pub place_of : (text : List ℕ) (starts : List Bool) (rooms : List ℕ) (at : ℕ) (c : Cell) → IsIndexed text starts rooms
    → cell_at (bins_of text) at ≡ Some c → Place text starts rooms at c
place_of text starts rooms at c k e =
    let seen = kept_seen text starts k.kept in
    let s = spot (bins_of text) at 0 c e in
    let sound = all_first IsBin s.pre (bin_with s.ignored s.front (c ∷ s.back) ∷ s.post) (rw s.parts at seen.0.each) in
    let cells = all_first IsCell s.front (c ∷ s.back) sound.1.0.cells in
    let size = 32 + cells_size (s.front ++ c ∷ s.back) in
    let head = head_bytes (bins_size s.pre) size s.ignored in
    record {
      pre = s.pre;
      ignored = s.ignored;
      front = s.front;
      back = s.back;
      post = s.post;
      size = size;
      bins = s.parts;
      sized = refl;
      heap = seen.0;
      bytes = seen.1 ∙ ap (spelled 0) s.parts ∙ spelled_with s.pre s.ignored s.front (c ∷ s.back) s.post size refl;
      table = seen.2 ∙ ap marks s.parts ∙ marks_with s.pre s.ignored s.front (c ∷ s.back) s.post;
      long = omega (
        arith,
        s.place,
        length-append (spelled 0 s.pre) (head ++ flat_map cell_bytes s.front),
        length-append head (flat_map cell_bytes s.front),
        length_head (bins_size s.pre) size s.ignored,
        sound.1.0.ignored,
        length_cells s.front,
        length_spelled 0 s.pre sound.0,
      );
      index = k.index ∙ ap free_sizes s.parts ∙ rooms_with s.pre s.ignored s.front (c ∷ s.back) s.post;
      place = omega (arith, s.place);
      marked = omega (
        arith,
        s.place,
        length-append (marks s.pre) (replicate 4 false ++ flat_map cell_marks s.front),
        length-append (replicate 4 false) (flat_map cell_marks s.front),
        length-replicate 4 false,
        length_marks s.front cells.0,
        marks_long s.pre sound.0,
      );
      roomed = omega (
        arith,
        s.place,
        length-append (free_sizes s.pre) (replicate 4 0 ++ flat_map cell_free_sizes s.front),
        length-append (replicate {A = ℕ} 4 0) (flat_map cell_free_sizes s.front),
        length-replicate {A = ℕ} 4 0,
        length_rooms s.front cells.0,
        length_bins s.pre sound.0,
      );
      sound = cells.1;
    }

pub edited : (text : List ℕ) (starts : List Bool) (rooms : List ℕ) (at : ℕ) (c : Cell) (f : List Cell → List Cell)
    (tail : List Cell) (text2 : List ℕ) (starts2 : List Bool) (rooms2 : List ℕ) (p : Place text starts rooms at c)
    → f (c ∷ p.back) ≡ tail → AllByRecursion IsCell tail → cells_size tail ≡ cells_size (c ∷ p.back)
    → text2 ≡ bytes_before p.pre p.ignored p.front p.size
    ++ (flat_map cell_bytes tail ++ spelled (bins_size p.pre + p.size) p.post)
    → starts2 ≡ marks_before p.pre p.front ++ (flat_map cell_marks tail ++ marks p.post)
    → rooms2 ≡ rooms_before p.pre p.front ++ (flat_map cell_free_sizes tail ++ free_sizes p.post)
    → Edited text at f text2 starts2 rooms2
edited text starts rooms at c f tail text2 starts2 rooms2 p is sound size bytes table index =
    let bins = p.pre ++ bin_with p.ignored p.front tail ∷ p.post in
    let all = all_first IsBin p.pre (bin_with p.ignored p.front (c ∷ p.back) ∷ p.post) (rw p.bins at p.heap.each) in
    let cells = all_first IsCell p.front (c ∷ p.back) all.1.0.cells in
    let same : cells_size (p.front ++ tail) ≡ cells_size (p.front ++ c ∷ p.back) =
    omega (arith, cells_size-append p.front tail, cells_size-append p.front (c ∷ p.back), size) in
    let bin : IsBin (bin_with p.ignored p.front tail) =
    record {
      ignored = all.1.0.ignored;
      whole = rw same all.1.0.whole;
      cells = both_hold IsCell p.front tail cells.0 sound;
    } in
    let total : bins_size bins ≡ bins_size (bins_of text) =
    omega (
      arith,
      ap bins_size p.bins,
      bins_size-append p.pre (bin_with p.ignored p.front tail ∷ p.post),
      bins_size-append p.pre (bin_with p.ignored p.front (c ∷ p.back) ∷ p.post),
      same,
    ) in
    let heap : IsHeap bins = record {
      each = both_hold IsBin p.pre (bin_with p.ignored p.front tail ∷ p.post) all.0 (bin, all.1.1);
      small = omega (arith, total, p.heap.small);
    } in
    let spelling : text2 ≡ spelled 0 bins =
    bytes ∙ sym (spelled_with p.pre p.ignored p.front tail p.post p.size
    (p.sized ∙ ap (λ (n : ℕ). 32 + n) (sym same))) in
    let here = bins_here p.pre p.ignored p.front c p.back p.post at 0 f (omega (arith, p.place)) in
    let again : bins_of text2 ≡ bins = ap bins_of spelling ∙ bins_of_again bins heap in
    record {
      kept = record {
        kept = record {
          bins = bins;
          sound = heap;
          bytes = spelling;
          table = table ∙ sym (marks_with p.pre p.ignored p.front tail p.post);
        };
        index = index ∙ sym (ap free_sizes again ∙ rooms_with p.pre p.ignored p.front tail p.post);
      };
      long = ap bins_size again ∙ total;
      seen = again ∙ sym (ap (at_cell at f) p.bins ∙ here
          ∙ ap (λ (t : List Cell). p.pre ++ bin_with p.ignored p.front t ∷ p.post) is);
    }
