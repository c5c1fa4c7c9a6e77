-- Marking the cells of a run.
use Rattle.std.proofs.Common.{◌≡◌, ℕ, suc, ◌+◌, ◌-◌, ◌/◌, ◌%◌, ◌<◌, ◌≤◌, Bool, true, false, List, [], ◌∷◌, ◌++◌, length, set, take, drop, replicate, refl, sym, ap, ◌∙◌, append_assoc, arith}
use Rattle.std.specs.List.{AllByRecursion, flat_map}
use Rattle.std.proofs.lemmas.List.{drop_at, set_at, append-nil, length-append, length-take-le, replicate-append-replicate}
use Rattle.std.proofs.lemmas.List.Concat.{flat_map-append}
use Rattle.nt_bytes.specs.Fields.{u32_in}
use Rattle.hive_model.specs.Bins.{Cell, cell_size, cells_size, head_number, cell_bytes, IsCell}
use Rattle.hive_cells.specs.Reading.{cell_marks}
use Rattle.hive_cells.proofs.Tools.{length_cells, cells_size-append, word_at}
use Rattle.hive_cells.proofs.Again.{head_again}
use Rattle.hive_cells.proofs.Spots.{all_first, length_marks, sizes_whole}
use Rattle.hive_cells.specs.Held.{run_cells, IsRun}
use Rattle.hive_cells.specs.Changes.{MarkedSoFar}

pub run_long : (run : List ℕ) → IsRun run → length run ≡ cells_size (run_cells run)
run_long run is = ap length is.spelled ∙ length_cells (run_cells run)

pub mark_start : (old starts : List Bool) (run : List ℕ) (slot : ℕ) → IsRun run
    → starts ≡ take slot old ++ (replicate (slot + length run / 8 - slot) false ++ drop (slot + length run / 8) old)
    → MarkedSoFar old run slot starts 0
mark_start old starts run slot is table =
    let size : slot + length run / 8 - slot ≡ (length run - 0) / 8 = omega arith in
    record {
      front = [];
      back = run_cells run;
      cells = refl;
      place = refl;
      table = table ∙ ap (λ (n : ℕ). take slot old ++ (replicate n false ++ drop (slot + length run / 8) old)) size;
    }

-- the cell that comes next
pub record NextMark (old : List Bool) (run : List ℕ) (slot : ℕ) (starts : List Bool) (at : ℕ) : Type 0 where
  pub size : ℕ
  pub head : u32_in run at ≡ 4294967296 - size
  pub least : 8 ≤ size
  pub fits : size < 2147483648
  pub whole : at % 8 ≡ 0
  pub within : at + size ≤ length run
  pub next : MarkedSoFar old run slot (set starts (slot + at / 8) true) (at + size)

mark_next : (old starts : List Bool) (run : List ℕ) (slot at : ℕ) → IsRun run → slot + length run / 8 ≤ length old
    → at < length run → (front : List Cell) (back : List Cell) → run_cells run ≡ front ++ back → at ≡ cells_size front
    → starts ≡ take slot old ++ (flat_map cell_marks front
    ++ (replicate ((length run - at) / 8) false ++ drop (slot + length run / 8) old))
    → NextMark old run slot starts at
mark_next old starts run slot at is room more front [] cells place table =
    absurd (omega (arith, run_long run is, ap cells_size cells, cells_size-append front []))
mark_next old starts run slot at is room more front (d ∷ back) cells place table =
    let sound = all_first IsCell front (d ∷ back) (rw cells at is.sound) in
    let allocated = all_first (λ (c : Cell). c.allocated ≡ true) front (d ∷ back) (rw cells at is.allocated) in
    let size = cell_size d in
    let long : length run ≡ at + (size + cells_size back) =
    omega (arith, run_long run is, ap cells_size cells, cells_size-append front (d ∷ back)) in
    let text : run ≡ flat_map cell_bytes front ++ (cell_bytes d ++ flat_map cell_bytes back) =
    is.spelled ∙ ap (flat_map cell_bytes) cells ∙ flat_map-append cell_bytes front (d ∷ back) in
    let far : length (flat_map cell_bytes front) ≡ at = length_cells front ∙ sym place in
    let dropped : drop at run ≡ cell_bytes d ++ flat_map cell_bytes back =
    ap (drop at) text ∙ drop_at (flat_map cell_bytes front) (cell_bytes d ++ flat_map cell_bytes back) at far in
    let head : u32_in run at ≡ 4294967296 - size =
    word_at run at ∙ ap (λ (s : List ℕ). u32_in s 0) dropped ∙ head_again d (flat_map cell_bytes back) sound.1.0
    ∙ ap (λ (u : Bool). head_number u size) allocated.1.0 in
    let whole : at % 8 ≡ 0 = omega (arith, place, sizes_whole front sound.0) in
    let rest = sizes_whole back sound.1.1 in
    let end = drop (slot + length run / 8) old in
    let i = size / 8 - 1 in
    let j = (length run - (at + size)) / 8 in
    let count : (length run - at) / 8 ≡ suc (i + j) = omega (arith, long, sound.1.0.least, sound.1.0.whole, rest) in
    let marked = take slot old ++ flat_map cell_marks front in
    let slots : length marked ≡ slot + at / 8 =
    omega (
      arith,
      length-append (take slot old) (flat_map cell_marks front),
      length-take-le slot old (omega (arith, room)),
      length_marks front sound.0,
      place,
    ) in
    let was : starts ≡ marked ++ (false ∷ (replicate (i + j) false ++ end)) =
    table ∙ sym (append_assoc (take slot old) (flat_map cell_marks front)
    (replicate ((length run - at) / 8) false ++ end))
    ∙ ap (λ (n : ℕ). marked ++ (replicate n false ++ end)) count in
    let split : replicate (i + j) false ++ end ≡ replicate i false ++ (replicate j false ++ end) =
    ap (λ (t : List Bool). t ++ end) (sym (replicate-append-replicate i j false))
    ∙ append_assoc (replicate i false) (replicate j false) end in
    let joined : flat_map cell_marks front ++ ((true ∷ replicate i false) ++ (replicate j false ++ end))
    ≡ flat_map cell_marks (front ++ d ∷ []) ++ (replicate j false ++ end) =
    sym (ap (λ (t : List Bool). t ++ (replicate j false ++ end))
    (flat_map-append cell_marks front (d ∷ [])
    ∙ ap (λ (t : List Bool). flat_map cell_marks front ++ t) (append-nil (cell_marks d)))
    ∙ append_assoc (flat_map cell_marks front) (cell_marks d) (replicate j false ++ end)) in
    let now : set starts (slot + at / 8) true ≡ take slot old
    ++ (flat_map cell_marks (front ++ d ∷ []) ++ (replicate j false ++ end)) =
    ap (λ (t : List Bool). set t (slot + at / 8) true) was
    ∙ set_at marked false (replicate (i + j) false ++ end) true (slot + at / 8) slots
    ∙ ap (λ (t : List Bool). marked ++ (true ∷ t)) split
    ∙ append_assoc (take slot old) (flat_map cell_marks front)
    ((true ∷ replicate i false) ++ (replicate j false ++ end))
    ∙ ap (λ (t : List Bool). take slot old ++ t) joined in
    record {
      size = size;
      head = head;
      least = sound.1.0.least;
      fits = sound.1.0.fits;
      whole = whole;
      within = omega (arith, long);
      next = record {
        front = front ++ d ∷ [];
        back = back;
        cells = cells ∙ sym (append_assoc front (d ∷ []) back);
        place = omega (arith, place, cells_size-append front (d ∷ []));
        table = now;
      };
    }

pub mark_step : (old starts : List Bool) (run : List ℕ) (slot at : ℕ) → IsRun run → slot + length run / 8 ≤ length old
    → at < length run → MarkedSoFar old run slot starts at → NextMark old run slot starts at
mark_step old starts run slot at is room more m =
    mark_next old starts run slot at is room more m.front m.back m.cells m.place m.table

pub mark_end : (old starts : List Bool) (run : List ℕ) (slot at : ℕ) → IsRun run → length run ≤ at
    → MarkedSoFar old run slot starts at
    → starts ≡ take slot old ++ (flat_map cell_marks (run_cells run) ++ drop (slot + length run / 8) old)
mark_end old starts run slot at is done m =
    let none : m.back ≡ [] = no_cells m.back (all_first IsCell m.front m.back (rw m.cells at is.sound)).1
    (omega (arith, done, m.place, run_long run is, ap cells_size m.cells, cells_size-append m.front m.back)) in
    let all : run_cells run ≡ m.front = m.cells ∙ ap (λ (t : List Cell). m.front ++ t) none ∙ append-nil m.front in
    let zero : (length run - at) / 8 ≡ 0 = omega (arith, done) in
    m.table ∙ ap (λ (n : ℕ). take slot old
    ++ (flat_map cell_marks m.front ++ (replicate n false ++ drop (slot + length run / 8) old))) zero
    ∙ ap (λ (cs : List Cell). take slot old ++ (flat_map cell_marks cs ++ drop (slot + length run / 8) old))
    (sym all)
  where
    no_cells : (cs : List Cell) → AllByRecursion IsCell cs → cells_size cs ≡ 0 → cs ≡ []
    no_cells [] h e = refl
    no_cells (c ∷ cs) h e = absurd (omega (arith, e, h.0.least))
