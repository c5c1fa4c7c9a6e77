-- Runs put into free cells.
use Rattle.std.proofs.Common.{◌≡◌, ℕ, suc, ◌+◌, ◌-◌, ◌*◌, ◌/◌, ◌%◌, ◌<◌, ◌≤◌, Bool, true, false, cond, List, [], ◌∷◌, ◌++◌, length, get_or, set, take, drop, replicate, Some, refl, sym, ap, ◌∙◌, append_assoc, arith}
use Rattle.std.specs.List.{AllByRecursion, flat_map}
use Rattle.std.specs.Int.{w32, to_le_bytes}
use Rattle.std.proofs.lemmas.Bool.{le-ltb, lt-ltb}
use Rattle.std.proofs.lemmas.List.{take_at, drop_at, drop-drop, drop_all, drop-append-le, drop-replicate, set_at, length-append, length-drop, length-replicate, replicate-append-replicate}
use Rattle.std.proofs.lemmas.List.Concat.{flat_map-append}
use Rattle.hive_model.specs.Bins.{Cell, Bin, cell_size, cells_size, bins_size, cell_bytes, spelled, IsCell, cell_at}
use Rattle.hive_cells.specs.Reading.{cell_marks, marks, bins_of}
use Rattle.hive_cells.proofs.Tools.{length_cell, length_cells, length_spelled, both_hold, cells_size-append}
use Rattle.hive_cells.proofs.Steps.{kept_seen}
use Rattle.hive_cells.proofs.Spots.{there, read_at, length_marks, sizes_whole}
use Rattle.hive_cells.specs.Held.{run_cells, IsRun}
use Rattle.hive_cells.specs.Holes.{cell_free_sizes, free_sizes, IsHole}
use Rattle.hive_cells.specs.Changes.{with_run}
use Rattle.hive_cells.proofs.Indexed.{IsIndexed}
use Rattle.hive_cells.proofs.SizeLemmas.{length_bins, free_room}
use Rattle.hive_cells.proofs.PlaceLemmas.{Place, place_of, Edited, edited, bytes_before, marks_before, rooms_before, marks_long}

-- ---- the bytes

-- a part written over the front of what stands after b
pub put_front : (b x y k : List ℕ) (at n : ℕ) → length b ≡ at → length x ≡ n → n ≤ length y
    → take at (b ++ (y ++ k)) ++ (x ++ drop (at + n) (b ++ (y ++ k))) ≡ b ++ (x ++ (drop n y ++ k))
put_front b x y k at n long sized inside =
    let rest : drop (at + n) (b ++ (y ++ k)) ≡ drop n y ++ k =
    sym (drop-drop n at (b ++ (y ++ k))) ∙ ap (drop n) (drop_at b (y ++ k) at long) ∙ drop-append-le n y k inside in
    rw (take_at b (y ++ k) at long, rest) refl

pub payload_back : (c : Cell) → drop 4 (cell_bytes c) ≡ c.payload
unfolding cell_bytes
payload_back c = refl

rest_payload : (c : Cell) (n : ℕ) → drop 4 (drop n (cell_bytes c)) ≡ drop n c.payload
rest_payload c n =
    let turn : n + 4 ≡ 4 + n = omega arith in
    drop-drop 4 n (cell_bytes c) ∙ ap (λ (m : ℕ). drop m (cell_bytes c)) turn ∙ sym (drop-drop n 4 (cell_bytes c))
    ∙ ap (drop n) (payload_back c)

-- what remains free
abbrev pub left_of : ℕ → Cell → Cell
left_of n c = record { allocated = false; payload = drop n c.payload }

left_size : (n left : ℕ) (c : Cell) → cell_size c ≡ n + left → 8 ≤ left → cell_size (left_of n c) ≡ left
left_size n left c size least = omega (arith, length-drop n c.payload)

left_bytes : (n left : ℕ) (c : Cell) → cell_size (left_of n c) ≡ left
    → to_le_bytes w32 left ++ drop n c.payload ≡ cell_bytes (left_of n c)
unfolding cell_bytes
left_bytes n left c is = ap (λ (m : ℕ). to_le_bytes w32 m ++ drop n c.payload) (sym is)

-- ---- the rooms

zeros_more : (a b n : ℕ) (more : List ℕ) → more ≡ replicate b 0 → suc (a + b) ≡ n
    → 0 ∷ (replicate a 0 ++ more) ≡ replicate n 0
zeros_more a b n more is sum =
    ap (λ (zs : List ℕ). 0 ∷ (replicate a 0 ++ zs)) is ∙ ap (λ (zs : List ℕ). 0 ∷ zs) (replicate-append-replicate a b 0)
    ∙ ap (λ (m : ℕ). replicate m 0) sum

pub allocated_rooms : (cs : List Cell) → AllByRecursion IsCell cs → AllByRecursion (λ (c : Cell). c.allocated ≡ true) cs
    → flat_map cell_free_sizes cs ≡ replicate (cells_size cs / 8) 0
allocated_rooms [] h all = refl
allocated_rooms (c ∷ cs) h all =
    let a = cell_size c / 8 - 1 in
    ap (λ (t : Bool). cond t 0 (cell_size c) ∷ (replicate a 0 ++ flat_map cell_free_sizes cs)) all.0
    ∙ zeros_more a (cells_size cs / 8) ((cell_size c + cells_size cs) / 8) (flat_map cell_free_sizes cs)
    (allocated_rooms cs h.1 all.1) (omega (arith, h.0.least, h.0.whole))

free_rooms : (c : Cell) (size : ℕ) → c.allocated ≡ false → cell_size c ≡ size
    → cell_free_sizes c ≡ size ∷ replicate (size / 8 - 1) 0
free_rooms c size free is =
    ap (λ (t : Bool). cond t 0 (cell_size c) ∷ replicate (cell_size c / 8 - 1) 0) free
    ∙ ap (λ (m : ℕ). m ∷ replicate (m / 8 - 1) 0) is

-- the room of the whole cell is gone
rooms_gone : (r k : List ℕ) (slot size : ℕ) → length r ≡ slot → 8 ≤ size
    → set (r ++ ((size ∷ replicate (size / 8 - 1) 0) ++ k)) slot 0 ≡ r ++ (replicate (size / 8) 0 ++ k)
rooms_gone r k slot size long least =
    let more : suc (size / 8 - 1) ≡ size / 8 = omega arith in
    set_at r size (replicate (size / 8 - 1) 0 ++ k) 0 slot long ∙ ap (λ (m : ℕ). r ++ (replicate m 0 ++ k)) more

-- and that of what remains is there
rooms_left : (r k : List ℕ) (slot front left : ℕ) → length r ≡ slot → 8 ≤ left → left % 8 ≡ 0
    → set (r ++ (replicate (front + left / 8) 0 ++ k)) (slot + front) left ≡ r
    ++ (replicate front 0 ++ ((left ∷ replicate (left / 8 - 1) 0) ++ k))
rooms_left r k slot front left long least whole =
    let more : left / 8 ≡ suc (left / 8 - 1) = omega arith in
    let zeros = replicate {A = ℕ} (left / 8 - 1) 0 in
    let split : replicate {A = ℕ} (front + left / 8) 0 ≡ replicate front 0 ++ (0 ∷ zeros) =
    sym (replicate-append-replicate front (left / 8) 0)
    ∙ ap (λ (m : ℕ). replicate {A = ℕ} front 0 ++ replicate m 0) more in
    let all : length (r ++ replicate {A = ℕ} front 0) ≡ slot + front =
    omega (arith, long, length-append r (replicate front 0), length-replicate {A = ℕ} front 0) in
    ap (λ (zs : List ℕ). set (r ++ (zs ++ k)) (slot + front) left) split
    ∙ ap (λ (zs : List ℕ). set zs (slot + front) left)
    (ap (λ (zs : List ℕ). r ++ zs) (append_assoc (replicate front 0) (0 ∷ zeros) k)
    ∙ sym (append_assoc r (replicate front 0) (0 ∷ (zeros ++ k))))
    ∙ set_at (r ++ replicate front 0) 0 (zeros ++ k) left (slot + front) all
    ∙ append_assoc r (replicate front 0) (left ∷ (zeros ++ k))

-- the head of what remains written after the run
put_second : (b x w d k r : List ℕ) (at n : ℕ) → length b ≡ at → length x ≡ n → length w ≡ 4 → 4 ≤ length d
    → drop 4 d ≡ r
    → take (at + n) (b ++ (x ++ (d ++ k))) ++ (w ++ drop (at + n + 4) (b ++ (x ++ (d ++ k)))) ≡ b
    ++ (x ++ ((w ++ r) ++ k))
put_second b x w d k r at n long sized four inside is =
    let turned : b ++ (x ++ (d ++ k)) ≡ (b ++ x) ++ (d ++ k) = sym (append_assoc b x (d ++ k)) in
    let all : length (b ++ x) ≡ at + n = omega (arith, length-append b x) in
    ap (λ (t : List ℕ). take (at + n) t ++ (w ++ drop (at + n + 4) t)) turned
    ∙ put_front (b ++ x) w d k (at + n) 4 all four inside
    ∙ ap (λ (s : List ℕ). (b ++ x) ++ (w ++ (s ++ k))) is
    ∙ append_assoc b x (w ++ (r ++ k))
    ∙ ap (λ (s : List ℕ). b ++ (x ++ s)) (sym (append_assoc w r k))

-- ---- the table

-- where a cell was, the first flags give place to others
marks_front : (b m k : List Bool) (slot n size : ℕ) → length b ≡ slot → 0 < n → n ≤ size / 8
    → take slot (b ++ ((true ∷ replicate (size / 8 - 1) false) ++ k))
    ++ (m ++ drop (slot + n) (b ++ ((true ∷ replicate (size / 8 - 1) false) ++ k))) ≡ b
    ++ (m ++ (replicate (size / 8 - n) false ++ k))
marks_front b m k slot n size long some inside =
    let cell = true ∷ replicate (size / 8 - 1) false in
    let whole : length cell ≡ size / 8 = omega (arith, length-replicate (size / 8 - 1) false) in
    let less : n ≡ suc (n - 1) = omega arith in
    let count : size / 8 - 1 - (n - 1) ≡ size / 8 - n = omega arith in
    let gone : drop n cell ≡ replicate (size / 8 - n) false =
    ap (λ (i : ℕ). drop i cell) less ∙ drop-replicate (n - 1) (size / 8 - 1) false
    ∙ ap (λ (i : ℕ). replicate i false) count in
    let rest : drop (slot + n) (b ++ (cell ++ k)) ≡ replicate (size / 8 - n) false ++ k =
    sym (drop-drop n slot (b ++ (cell ++ k))) ∙ ap (drop n) (drop_at b (cell ++ k) slot long)
    ∙ drop-append-le n cell k (omega (arith, whole)) ∙ ap (λ (t : List Bool). t ++ k) gone in
    rw (take_at b (cell ++ k) slot long, rest) refl

-- and what remains begins after them
marks_left : (b m k : List Bool) (slot n left : ℕ) → length b ≡ slot → length m ≡ n → 8 ≤ left
    → set (b ++ (m ++ (replicate (left / 8) false ++ k))) (slot + n) true ≡ b
    ++ (m ++ ((true ∷ replicate (left / 8 - 1) false) ++ k))
marks_left b m k slot n left long sized least =
    let more : left / 8 ≡ suc (left / 8 - 1) = omega arith in
    let zeros = replicate (left / 8 - 1) false in
    let all : length (b ++ m) ≡ slot + n = omega (arith, length-append b m) in
    ap (λ (i : ℕ). set (b ++ (m ++ (replicate i false ++ k))) (slot + n) true) more
    ∙ ap (λ (t : List Bool). set t (slot + n) true) (sym (append_assoc b m (false ∷ (zeros ++ k))))
    ∙ set_at (b ++ m) false (zeros ++ k) true (slot + n) all
    ∙ append_assoc b m (true ∷ (zeros ++ k))

-- a part of a list and what stands after the whole
behind : {X : Type 0} (a x k s : List X) → (a ++ (x ++ k)) ++ s ≡ a ++ (x ++ (k ++ s))
behind a x k s = append_assoc a (x ++ k) s ∙ ap (λ t. a ++ t) (append_assoc x k s)

-- ---- what the code knows before it writes

pub record Filling (text : List ℕ) (starts : List Bool) (rooms : List ℕ) (at : ℕ) (run : List ℕ) : Type 0 where
  pub cell : Cell
  pub spot : Place text starts rooms at cell
  pub free : cell.allocated ≡ false
  pub fits : length run ≤ cell_size cell
  pub run_is : IsRun run
  pub run_size : length run ≡ cells_size (run_cells run)
  pub run_whole : length run % 8 ≡ 0
  pub run_some : 8 ≤ length run
  pub whole : at % 8 ≡ 0
  pub cell_whole : cell_size cell % 8 ≡ 0
  pub room : get_or rooms (at / 8) 0 ≡ cell_size cell
  pub within : at + cell_size cell ≤ length text
  pub slots : 8 * length rooms ≡ length text
  pub flags : 8 * length starts ≡ length text
  pub small : length text ≤ 16777216

pub filling : (text : List ℕ) (starts : List Bool) (rooms : List ℕ) (at : ℕ) (run : List ℕ) (bins : List Bin)
    → IsIndexed text starts rooms → bins_of text ≡ bins → IsHole (length run) bins at → IsRun run
    → Filling text starts rooms at run
filling text starts rooms at run bins held seen hole is =
    let here : cell_at (bins_of text) at ≡ Some hole.cell = ap (λ (b : List Bin). cell_at b at) seen ∙ hole.here in
    let p = place_of text starts rooms at hole.cell held here in
    let kept = kept_seen text starts held.kept in
    let sized : length run ≡ cells_size (run_cells run) = ap length is.spelled ∙ length_cells (run_cells run) in
    let rest = sizes_whole (run_cells run) is.sound in
    let long : length text ≡ bins_size (bins_of text) =
    ap length kept.1 ∙ length_spelled 0 (bins_of text) kept.0.each in
    let room = free_room (bins_of text) at hole.cell kept.0.each here hole.free in
    let read = read_at text at hole.cell (there text starts at hole.cell held.kept here) in
    record {
      cell = hole.cell;
      spot = p;
      free = hole.free;
      fits = hole.fits;
      run_is = is;
      run_size = sized;
      run_whole = omega (arith, sized, rest);
      run_some = omega (arith, sized, rest, is.some);
      whole = room.0;
      cell_whole = p.sound.0.whole;
      room = ap (λ (r : List ℕ). get_or r (at / 8) 0) held.index ∙ room.2;
      within = read.long;
      slots = ap (λ (r : List ℕ). 8 * length r) held.index ∙ length_bins (bins_of text) kept.0.each ∙ sym long;
      flags = ap (λ (r : List Bool). 8 * length r) kept.2 ∙ marks_long (bins_of text) kept.0.each ∙ sym long;
      small = omega (arith, long, kept.0.small);
    }

-- ---- the two ways

module _ (text : List ℕ) (starts : List Bool) (rooms : List ℕ) (at : ℕ) (run : List ℕ)
    (f : Filling text starts rooms at run) where
  abbrev cells_put : List Cell
  cells_put = run_cells run

  -- what stands before the cell, and after it
  abbrev front_bytes : List ℕ
  front_bytes = bytes_before f.spot.pre f.spot.ignored f.spot.front f.spot.size

  abbrev last_bytes : List ℕ
  last_bytes = spelled (bins_size f.spot.pre + f.spot.size) f.spot.post

  abbrev back_bytes : List ℕ
  back_bytes = flat_map cell_bytes f.spot.back ++ last_bytes

  abbrev front_marks : List Bool
  front_marks = marks_before f.spot.pre f.spot.front

  abbrev back_marks : List Bool
  back_marks = flat_map cell_marks f.spot.back ++ marks f.spot.post

  abbrev front_rooms : List ℕ
  front_rooms = rooms_before f.spot.pre f.spot.front

  abbrev back_rooms : List ℕ
  back_rooms = flat_map cell_free_sizes f.spot.back ++ free_sizes f.spot.post

  first_written : (text1 : List ℕ) → text1 ≡ take at text ++ (run ++ drop (at + length run) text)
      → text1 ≡ front_bytes ++ (run ++ (drop (length run) (cell_bytes f.cell) ++ back_bytes))
  first_written text1 is =
      is ∙ ap (λ (t : List ℕ). take at t ++ (run ++ drop (at + length run) t))
      (f.spot.bytes ∙ ap (λ (t : List ℕ). front_bytes ++ t)
      (append_assoc (cell_bytes f.cell) (flat_map cell_bytes f.spot.back) last_bytes))
      ∙ put_front front_bytes run (cell_bytes f.cell) back_bytes at (length run) f.spot.long refl
      (omega (arith, length_cell f.cell, f.fits))

  first_marked : (starts1 : List Bool)
      → starts1 ≡ take (at / 8) starts ++ (flat_map cell_marks cells_put ++ drop (at / 8 + length run / 8) starts)
      → starts1 ≡ front_marks ++ (flat_map cell_marks cells_put
      ++ (replicate (cell_size f.cell / 8 - length run / 8) false ++ back_marks))
  first_marked starts1 is =
      is ∙ ap (λ (t : List Bool). take (at / 8) t
      ++ (flat_map cell_marks cells_put ++ drop (at / 8 + length run / 8) t))
      (f.spot.table ∙ ap (λ (t : List Bool). front_marks ++ t)
      (append_assoc (cell_marks f.cell) (flat_map cell_marks f.spot.back) (marks f.spot.post)))
      ∙ marks_front front_marks (flat_map cell_marks cells_put) back_marks (at / 8) (length run / 8) (cell_size f.cell)
      (omega (arith, f.spot.marked)) (omega (arith, f.run_some)) (omega (arith, f.fits, f.run_whole))

  first_set : (rooms1 : List ℕ) → rooms1 ≡ set rooms (at / 8) 0
      → rooms1 ≡ front_rooms ++ (replicate (cell_size f.cell / 8) 0 ++ back_rooms)
  first_set rooms1 is =
      is
      ∙ ap (λ (r : List ℕ). set r (at / 8) 0)
      (f.spot.index ∙ ap (λ (r : List ℕ). front_rooms ++ r)
      (append_assoc (cell_free_sizes f.cell) (flat_map cell_free_sizes f.spot.back) (free_sizes f.spot.post)
      ∙ ap (λ (r : List ℕ). r ++ back_rooms) (free_rooms f.cell (cell_size f.cell) f.free refl)))
      ∙ rooms_gone front_rooms back_rooms (at / 8) (cell_size f.cell) (omega (arith, f.spot.roomed))
      f.spot.sound.0.least

  run_rooms : flat_map cell_free_sizes cells_put ≡ replicate (length run / 8) 0
  run_rooms = allocated_rooms cells_put f.run_is.sound f.run_is.allocated
      ∙ ap (λ (m : ℕ). replicate (m / 8) 0) (sym f.run_size)

  pub filled_whole : (text1 : List ℕ) (starts1 : List Bool) (rooms1 : List ℕ) → length run ≡ cell_size f.cell
      → text1 ≡ take at text ++ (run ++ drop (at + length run) text)
      → starts1 ≡ take (at / 8) starts ++ (flat_map cell_marks cells_put ++ drop (at / 8 + length run / 8) starts)
      → rooms1 ≡ set rooms (at / 8) 0 → Edited text at (with_run cells_put) text1 starts1 rooms1
  filled_whole text1 starts1 rooms1 same bytes table index =
      let is : with_run cells_put (f.cell ∷ f.spot.back) ≡ cells_put ++ f.spot.back =
      rw (le-ltb (cells_size cells_put) (cell_size f.cell) (omega (arith, same, f.run_size))) refl in
      let none : drop (length run) (cell_bytes f.cell) ≡ [] =
      drop_all (length run) (cell_bytes f.cell) (omega (arith, length_cell f.cell, same)) in
      let zero : cell_size f.cell / 8 - length run / 8 ≡ 0 = omega (arith, same) in
      let written = first_written text1 bytes ∙ ap (λ (d : List ℕ). front_bytes ++ (run ++ (d ++ back_bytes))) none
      ∙ ap (λ (r : List ℕ). front_bytes ++ (r ++ back_bytes)) f.run_is.spelled
      ∙ ap (λ (t : List ℕ). front_bytes ++ t)
      (sym (ap (λ (t : List ℕ). t ++ last_bytes) (flat_map-append cell_bytes cells_put f.spot.back)
      ∙ append_assoc (flat_map cell_bytes cells_put) (flat_map cell_bytes f.spot.back) last_bytes)) in
      let marked = first_marked starts1 table
      ∙ ap (λ (n : ℕ). front_marks ++ (flat_map cell_marks cells_put ++ (replicate n false ++ back_marks))) zero
      ∙ ap (λ (t : List Bool). front_marks ++ t)
      (sym (ap (λ (t : List Bool). t ++ marks f.spot.post) (flat_map-append cell_marks cells_put f.spot.back)
      ∙ append_assoc (flat_map cell_marks cells_put) (flat_map cell_marks f.spot.back) (marks f.spot.post))) in
      let roomed = first_set rooms1 index
      ∙ ap (λ (m : ℕ). front_rooms ++ (replicate (m / 8) 0 ++ back_rooms)) (sym same)
      ∙ ap (λ (r : List ℕ). front_rooms ++ (r ++ back_rooms)) (sym run_rooms)
      ∙ ap (λ (t : List ℕ). front_rooms ++ t)
      (sym (ap (λ (t : List ℕ). t ++ free_sizes f.spot.post) (flat_map-append cell_free_sizes cells_put f.spot.back)
      ∙ append_assoc (flat_map cell_free_sizes cells_put) (flat_map cell_free_sizes f.spot.back)
      (free_sizes f.spot.post))) in
      edited text starts rooms at f.cell (with_run cells_put) (cells_put ++ f.spot.back) text1 starts1 rooms1 f.spot is
      (both_hold IsCell cells_put f.spot.back f.run_is.sound f.spot.sound.1)
      (omega (arith, cells_size-append cells_put f.spot.back, same, f.run_size)) written marked roomed

  pub filled_part : (text1 text2 : List ℕ) (starts1 starts2 : List Bool) (rooms1 rooms2 : List ℕ) (left : ℕ)
      → cell_size f.cell ≡ length run + left → 0 < left
      → text1 ≡ take at text ++ (run ++ drop (at + length run) text)
      → text2 ≡ take (at + length run) text1 ++ (to_le_bytes w32 left ++ drop (at + length run + 4) text1)
      → starts1 ≡ take (at / 8) starts ++ (flat_map cell_marks cells_put ++ drop (at / 8 + length run / 8) starts)
      → starts2 ≡ set starts1 ((at + length run) / 8) true
      → rooms1 ≡ set rooms (at / 8) 0 → rooms2 ≡ set rooms1 ((at + length run) / 8) left
      → Edited text at (with_run cells_put) text2 starts2 rooms2
  filled_part text1 text2 starts1 starts2 rooms1 rooms2 left same some bytes1 bytes2 table1 table2 index1 index2 =
      let n = length run in
      let rest = left_of n f.cell in
      let least : 8 ≤ left = omega (arith, same, f.cell_whole, f.run_whole) in
      let whole : left % 8 ≡ 0 = omega (arith, same, f.cell_whole, f.run_whole) in
      let sized : cell_size rest ≡ left = left_size n left f.cell same least in
      let is : with_run cells_put (f.cell ∷ f.spot.back) ≡ cells_put ++ (rest ∷ f.spot.back) =
      rw (lt-ltb (cells_size cells_put) (cell_size f.cell) (omega (arith, same, f.run_size)))
      (ap (λ (m : ℕ). cells_put ++ (left_of m f.cell ∷ f.spot.back)) (sym f.run_size)) in
      let inside : 4 ≤ length (drop n (cell_bytes f.cell)) =
      omega (arith, length-drop n (cell_bytes f.cell), length_cell f.cell, same) in
      let written = bytes2 ∙ ap (λ (t : List ℕ). take (at + n) t ++ (to_le_bytes w32 left ++ drop (at + n + 4) t))
      (first_written text1 bytes1)
      ∙ put_second front_bytes run (to_le_bytes w32 left) (drop n (cell_bytes f.cell)) back_bytes
      (drop n f.cell.payload) at n f.spot.long refl refl inside (rest_payload f.cell n)
      ∙ ap (λ (c : List ℕ). front_bytes ++ (run ++ (c ++ back_bytes))) (left_bytes n left f.cell sized)
      ∙ ap (λ (r : List ℕ). front_bytes ++ (r ++ (cell_bytes rest ++ back_bytes))) f.run_is.spelled
      ∙ ap (λ (t : List ℕ). front_bytes ++ t)
      (sym (ap (λ (t : List ℕ). t ++ last_bytes) (flat_map-append cell_bytes cells_put (rest ∷ f.spot.back))
      ∙ behind (flat_map cell_bytes cells_put) (cell_bytes rest) (flat_map cell_bytes f.spot.back) last_bytes)) in
      let slots : cell_size f.cell / 8 ≡ n / 8 + left / 8 = omega (arith, same, whole, f.run_whole) in
      let after : cell_size f.cell / 8 - n / 8 ≡ left / 8 = omega (arith, slots) in
      let slot : (at + n) / 8 ≡ at / 8 + n / 8 = omega (arith, f.whole, f.run_whole) in
      let run_flags : length (flat_map cell_marks cells_put) ≡ n / 8 =
      omega (arith, length_marks cells_put f.run_is.sound, f.run_size) in
      let marked = table2 ∙ ap (λ (t : List Bool). set t ((at + n) / 8) true) (first_marked starts1 table1)
      ∙ ap (λ (m : ℕ). set (front_marks ++ (flat_map cell_marks cells_put ++ (replicate m false ++ back_marks)))
      ((at + n) / 8) true) after
      ∙ ap (λ (m : ℕ). set (front_marks
      ++ (flat_map cell_marks cells_put ++ (replicate (left / 8) false ++ back_marks))) m true) slot
      ∙ marks_left front_marks (flat_map cell_marks cells_put) back_marks (at / 8) (n / 8) left
      (omega (arith, f.spot.marked)) run_flags least
      ∙ ap (λ (m : ℕ). front_marks
      ++ (flat_map cell_marks cells_put ++ ((true ∷ replicate (m / 8 - 1) false) ++ back_marks))) (sym sized)
      ∙ ap (λ (t : List Bool). front_marks ++ t)
      (sym (ap (λ (t : List Bool). t ++ marks f.spot.post)
      (flat_map-append cell_marks cells_put (rest ∷ f.spot.back))
      ∙ behind (flat_map cell_marks cells_put) (cell_marks rest) (flat_map cell_marks f.spot.back)
      (marks f.spot.post))) in
      let roomed = index2 ∙ ap (λ (r : List ℕ). set r ((at + n) / 8) left) (first_set rooms1 index1)
      ∙ ap (λ (m : ℕ). set (front_rooms ++ (replicate m 0 ++ back_rooms)) ((at + n) / 8) left) slots
      ∙ ap (λ (m : ℕ). set (front_rooms ++ (replicate (n / 8 + left / 8) 0 ++ back_rooms)) m left) slot
      ∙ rooms_left front_rooms back_rooms (at / 8) (n / 8) left (omega (arith, f.spot.roomed)) least whole
      ∙ ap (λ (r : List ℕ). front_rooms ++ (r ++ ((left ∷ replicate (left / 8 - 1) 0) ++ back_rooms))) (sym run_rooms)
      ∙ ap (λ (r : List ℕ). front_rooms ++ (flat_map cell_free_sizes cells_put ++ (r ++ back_rooms)))
      (sym (free_rooms rest left refl sized))
      ∙ ap (λ (t : List ℕ). front_rooms ++ t)
      (sym (ap (λ (t : List ℕ). t ++ free_sizes f.spot.post)
      (flat_map-append cell_free_sizes cells_put (rest ∷ f.spot.back))
      ∙ behind (flat_map cell_free_sizes cells_put) (cell_free_sizes rest) (flat_map cell_free_sizes f.spot.back)
      (free_sizes f.spot.post))) in
      let sound : IsCell rest =
      record {
        least = omega (arith, sized, least);
        whole = rw sized whole;
        fits = omega (arith, sized, same, f.spot.sound.0.fits);
      } in
      edited text starts rooms at f.cell (with_run cells_put) (cells_put ++ (rest ∷ f.spot.back))
      text2 starts2 rooms2 f.spot is
      (both_hold IsCell cells_put (rest ∷ f.spot.back) f.run_is.sound (sound, f.spot.sound.1))
      (omega (arith, cells_size-append cells_put (rest ∷ f.spot.back), same, f.run_size, sized)) written marked roomed
