-- Bins that are whole are laid out as they are, and a bin that isn't has its first fault.
use Rattle.std.proofs.Common.{◌≡◌, inl, inr, ℕ, zero, suc, ◌+◌, ◌-◌, ◌*◌, ◌/◌, ◌%◌, ◌<◌, ◌≤◌, Bool, true, false, cond, eqb, List, [], ◌∷◌, ◌++◌, map, length, drop, replicate, Result, Ok, Err, refl, sym, ap, subst, ◌∙◌, append_assoc, append-nil, arith}
use Rattle.std.specs.List.{AllByRecursion, flat_map}
use Rattle.std.proofs.lemmas.Bool.Decides.{nat_tests}
use Rattle.std.proofs.lemmas.List.{drop_at, drop-drop, length-append, map-append}
use Rattle.nt_bytes.specs.declared.fault.HiveFaultKind.{HiveFaultKind}
use Rattle.nt_bytes.specs.declared.fault.HiveFault.{HiveFault}
use Rattle.nt_bytes.specs.Reading.{◌>>=◌}
use Rattle.hive_model.specs.Bins.{Cell, Bin, cell_size, cells_size, bin_size, bins_size, head_bytes, cell_bytes, bin_bytes, spelled, IsCell, IsBin, IsBins, size_at, with_place, BinFails, BinsFault}
use Rattle.hive_cells.specs.Reading.{cell_marks as marks_of_cell, bin_marks as marks_of_bin, marks as marks_of}
use Rattle.hive_cells.proofs.Tools.{IsBytes, IsBytes-drop, length_cell, length_cells, length_head, length_bin, length_spelled}
use Rattle.hive_cells.proofs.Again.{size_again, header_again}
use Rattle.hive_cells.proofs.Taken.{header_taken}
use Rattle.hive_cells.proofs.Spots.{sizes_whole}
use Rattle.salvage_bins.specs.declared.layout.Mark.{Mark}
use Rattle.salvage_bins.specs.declared.layout.Mark.TheVariants.{Nothing, InBin}
use Rattle.salvage_bins.specs.declared.layout.BrokenBin.{BrokenBin}
use Rattle.salvage_bins.specs.Whole.{slot_mark, cell_marks, bin_marks}
use Rattle.salvage_bins.specs.Loose.{loose_length}
use Rattle.salvage_bins.specs.Layout.{Laid, joined, stretch, stretch_of, laid, layout_of}
use Rattle.salvage_bins.proofs.LayoutLemmas.{after, bin-off, bin-broken, bin-whole}

-- the marks of a table
abbrev pub in_bin : Bool → Mark
in_bin true = InBin
in_bin false = Nothing

abbrev pub marked : List Bool → List Mark
marked starts = map in_bin starts

marked-none : (k : ℕ) → marked (replicate k false) ≡ replicate k Nothing
marked-none zero = refl
marked-none (suc k) = ap (λ ms. Nothing ∷ ms) (marked-none k)

-- ---- cells

-- one mark before what was read
after-mark : (m : Mark) (ms : List Mark) (r : Result (List Mark) HiveFault) → (after ms r >>= λ more. Ok (m ∷ more)) ≡ after (m ∷ ms) r
after-mark m ms (Ok more) = refl
after-mark m ms (Err fault) = refl

after-after : (ms ns : List Mark) (r : Result (List Mark) HiveFault) → after ms (after ns r) ≡ after (ms ++ ns) r
after-after ms ns (Ok more) = ap (λ l. Ok l) (sym (append_assoc ms ns more))
after-after ms ns (Err fault) = refl

after-nothing : (r : Result (List Mark) HiveFault) → r ≡ after [] r
after-nothing (Ok more) = refl
after-nothing (Err fault) = refl

-- places that a cell before covers
covered-marks : (k n at : ℕ) (bytes : List ℕ) → cell_marks (k + n) k at bytes
    ≡ after (replicate k Nothing) (cell_marks n 0 (at + 8 * k) (drop (8 * k) bytes))
unfolding cell_marks slot_mark
covered-marks zero n at bytes =
    let e : 0 + n ≡ n = omega arith in
    let d : at + 8 * 0 ≡ at = omega arith in
    rw (e, d) (after-nothing (cell_marks n 0 at bytes))
covered-marks (suc k) n at bytes =
    let e : suc k + n ≡ suc (k + n) = omega arith in
    let d : at + 8 + 8 * k ≡ at + 8 * suc k = omega arith in
    let l : 8 + 8 * k ≡ 8 * suc k = omega arith in
    ap (λ i. cell_marks i (suc k) at bytes) e
    ∙ ap (λ r. r >>= λ more. Ok (Nothing ∷ more)) (covered-marks k n (at + 8) (drop 8 bytes))
    ∙ ap (λ i. after (replicate k Nothing) (cell_marks n 0 i (drop (8 * k) (drop 8 bytes))) >>= λ more. Ok (Nothing ∷ more)) d
    ∙ ap (λ l. after (replicate k Nothing) (cell_marks n 0 (at + 8 * suc k) l) >>= λ more. Ok (Nothing ∷ more))
    (drop-drop (8 * k) 8 bytes ∙ ap (λ i. drop i bytes) l)
    ∙ after-mark Nothing (replicate k Nothing) (cell_marks n 0 (at + 8 * suc k) (drop (8 * suc k) bytes))

-- the mark of a cell of this size, and how many places after it are covered
abbrev sized : ℕ → Result (Mark × ℕ) HiveFault
sized size = Ok (InBin, size / 8 - 1)

-- a sound cell, and the places after it
cell-step : (c : Cell) (n at : ℕ) (rest : List ℕ) → IsCell c
    → cell_marks (suc (cell_size c / 8 - 1 + n)) 0 at (cell_bytes c ++ rest)
    ≡ after (marked (marks_of_cell c)) (cell_marks n 0 (at + cell_size c) rest)
unfolding cell_marks slot_mark
cell-step c n at rest h =
    let k = cell_size c / 8 - 1 in
    let bytes = cell_bytes c ++ rest in
    let room : cell_size c ≤ 8 * suc (k + n) = omega (arith, h.least, h.whole) in
    let d : at + 8 + 8 * k ≡ at + cell_size c = omega (arith, h.least, h.whole) in
    let l : 8 + 8 * k ≡ cell_size c = omega (arith, h.least, h.whole) in
    ap (λ r. (with_place at r >>= sized) >>= λ mark.
    cell_marks (k + n) mark.1 (at + 8) (drop 8 bytes) >>= λ more. Ok (mark.0 ∷ more)) (size_again (8 * suc (k + n)) c rest h room)
    ∙ ap (λ r. r >>= λ more. Ok (InBin ∷ more)) (covered-marks k n (at + 8) (drop 8 bytes))
    ∙ ap (λ i. after (replicate k Nothing) (cell_marks n 0 i (drop (8 * k) (drop 8 bytes))) >>= λ more. Ok (InBin ∷ more)) d
    ∙ ap (λ l. after (replicate k Nothing) (cell_marks n 0 (at + cell_size c) l) >>= λ more. Ok (InBin ∷ more))
    (drop-drop (8 * k) 8 bytes ∙ ap (λ i. drop i bytes) l ∙ drop_at (cell_bytes c) rest (cell_size c) (length_cell c))
    ∙ after-mark InBin (replicate k Nothing) (cell_marks n 0 (at + cell_size c) rest)
    ∙ ap (λ ms. after (InBin ∷ ms) (cell_marks n 0 (at + cell_size c) rest)) (sym (marked-none k))

-- sound cells, and the places after them
cells-marked : (cs : List Cell) (n m at : ℕ) (rest : List ℕ) → AllByRecursion IsCell cs → 8 * n ≡ cells_size cs + 8 * m
    → cell_marks n 0 at (flat_map cell_bytes cs ++ rest)
    ≡ after (marked (flat_map marks_of_cell cs)) (cell_marks m 0 (at + cells_size cs) rest)
cells-marked [] n m at rest h e =
    let d : n ≡ m = omega (arith, e) in
    let l : at ≡ at + 0 = omega arith in
    ap (λ i. cell_marks i 0 at rest) d ∙ ap (λ i. cell_marks m 0 i rest) l ∙ after-nothing (cell_marks m 0 (at + 0) rest)
cells-marked (c ∷ cs) n m at rest h e =
    let k = cell_size c / 8 - 1 in
    let next = n - suc k in
    let more = flat_map cell_bytes cs ++ rest in
    let d : n ≡ suc (k + next) = omega (arith, e, h.0.least, h.0.whole) in
    let f : 8 * next ≡ cells_size cs + 8 * m = omega (arith, e, h.0.least, h.0.whole) in
    let l : at + cell_size c + cells_size cs ≡ at + (cell_size c + cells_size cs) = omega arith in
    ap (cell_marks n 0 at) (append_assoc (cell_bytes c) (flat_map cell_bytes cs) rest)
    ∙ ap (λ i. cell_marks i 0 at (cell_bytes c ++ more)) d
    ∙ cell-step c next at more h.0
    ∙ ap (after (marked (marks_of_cell c))) (cells-marked cs next m (at + cell_size c) rest h.1 f)
    ∙ after-after (marked (marks_of_cell c)) (marked (flat_map marks_of_cell cs))
    (cell_marks m 0 (at + cell_size c + cells_size cs) rest)
    ∙ ap (λ ms. after ms (cell_marks m 0 (at + cell_size c + cells_size cs) rest))
    (sym (map-append in_bin (marks_of_cell c) (flat_map marks_of_cell cs)))
    ∙ ap (λ i. after (marked (marks_of_cell c ++ flat_map marks_of_cell cs)) (cell_marks m 0 i rest)) l

no-cells : (at : ℕ) (bytes : List ℕ) → cell_marks 0 0 at bytes ≡ Ok []
unfolding cell_marks
no-cells at bytes = refl

-- a cell that fails
cell-fails : (n at : ℕ) (bytes : List ℕ) (kind : HiveFaultKind) → 0 < n → size_at (8 * n) bytes ≡ Err kind
    → cell_marks n 0 at bytes ≡ Err (record { kind = kind; at = at })
unfolding cell_marks slot_mark
cell-fails zero at bytes kind lt e = absurd (omega (arith, lt))
cell-fails (suc n) at bytes kind lt e = rw e refl

-- ---- bins

least-bin : (n : ℕ) → (32 + n) % 4096 ≡ 0 → 4096 ≤ 32 + n
least-bin n e = omega (arith, e)

whole-bin : (b : Bin) (at : ℕ) (rest : List ℕ) → IsBin b → at + bin_size b < 4294967296
    → bin_marks at (bin_bytes at b ++ rest) ≡ Ok (marked (marks_of_bin b), bin_size b)
whole-bin b at rest h low =
    let head = head_bytes at (bin_size b) b.ignored in
    let cells = flat_map cell_bytes b.cells in
    let bytes = head ++ (cells ++ rest) in
    let split : bin_bytes at b ++ rest ≡ bytes = append_assoc head cells rest in
    let least : 4096 ≤ bin_size b = least-bin (cells_size b.cells) h.whole in
    let head_long : length head ≡ 32 = omega (arith, length_head at (bin_size b) b.ignored, h.ignored) in
    let long : bin_size b ≤ length bytes =
    omega (arith, length-append head (cells ++ rest), length-append cells rest, head_long, length_cells b.cells) in
    let header = header_again at (bin_size b) b.ignored (cells ++ rest) (omega (arith, low, least)) (omega (arith, low)) least h.whole long in
    let n = bin_size b / 8 - 4 in
    let count : 8 * n ≡ cells_size b.cells + 8 * 0 = omega (arith, h.whole, least) in
    let marks : cell_marks n 0 (at + 32) (drop 32 bytes) ≡ Ok (marked (flat_map marks_of_cell b.cells)) =
    ap (cell_marks n 0 (at + 32)) (drop_at head (cells ++ rest) 32 head_long)
    ∙ cells-marked b.cells n 0 (at + 32) rest h.cells count
    ∙ ap (after (marked (flat_map marks_of_cell b.cells))) (no-cells (at + 32 + cells_size b.cells) rest)
    ∙ ap (λ l. Ok l) (append-nil (marked (flat_map marks_of_cell b.cells))) in
    ap (bin_marks at) split
    ∙ bin-whole at (bin_size b) bytes (marked (flat_map marks_of_cell b.cells)) (ap (with_place at) header) marks

-- a bin that fails
broken-bin : (at : ℕ) (bytes : List ℕ) (fault : HiveFault) → IsBytes bytes → BinFails at bytes fault → bin_marks at bytes ≡ Err fault
broken-bin at bytes fault fits (inl h) =
    bin-off at bytes fault (ap (with_place at) h.fails ∙ ap (λ i. Err (record { kind = fault.kind; at = i })) (sym h.place))
broken-bin at bytes fault fits (inr h) =
    let head = head_bytes at h.size h.ignored in
    let cells = flat_map cell_bytes h.cells in
    let head_long : length head ≡ 32 = omega (arith, length_head at h.size h.ignored, h.twenty) in
    let dropped : drop 32 bytes ≡ cells ++ h.rest = ap (drop 32) h.parts ∙ drop_at head (cells ++ h.rest) 32 head_long in
    let taken = header_taken at h.size bytes fits h.header in
    let sound = sizes_whole h.cells h.sound in
    let n = h.size / 8 - 4 in
    let m = (h.size - (32 + cells_size h.cells)) / 8 in
    let count : 8 * n ≡ cells_size h.cells + 8 * m = omega (arith, taken.whole, taken.least, h.left, sound) in
    let some : 0 < m = omega (arith, taken.whole, taken.least, h.left, sound) in
    let room : 8 * m ≡ h.size - (32 + cells_size h.cells) = omega (arith, taken.whole, taken.least, h.left, sound) in
    let fails : size_at (8 * m) h.rest ≡ Err fault.kind = ap (λ i. size_at i h.rest) room ∙ h.fails in
    bin-broken at h.size bytes fault (ap (with_place at) h.header)
    (ap (cell_marks n 0 (at + 32)) dropped ∙ cells-marked h.cells n m (at + 32) h.rest h.sound count
    ∙ ap (after (marked (flat_map marks_of_cell h.cells))) (cell-fails m (at + 32 + cells_size h.cells) h.rest fault.kind some fails)
    ∙ ap (λ i. Err (record { kind = fault.kind; at = i })) (sym h.place))

-- ---- the layout

abbrev pub whole_marks : List Bin → Laid
whole_marks bins = record { marks = marked (marks_of bins); broken = [] }

-- the stretch at a bin that is whole, and at one that isn't
stretch-whole : (b : Bin) (at : ℕ) (rest : List ℕ) → IsBin b → at + bin_size b < 4294967296
    → stretch at (bin_bytes at b ++ rest) ≡ record { laid = record { marks = marked (marks_of_bin b); broken = [] }; long = bin_size b }
unfolding stretch
stretch-whole b at rest h low = ap (stretch_of at (bin_bytes at b ++ rest)) (whole-bin b at rest h low)

abbrev loose_bytes : ℕ → List ℕ → HiveFault → ℕ
loose_bytes at bytes fault = loose_length (length bytes / 4096) 4096 fault.at at bytes

stretch-broken : (at : ℕ) (bytes : List ℕ) (fault : HiveFault) → IsBytes bytes → BinFails at bytes fault
    → (stretch at bytes).laid.broken ≡ record { fault = fault; bytes = loose_bytes at bytes fault } ∷ []
unfolding stretch
stretch-broken at bytes fault fits h = ap (λ r. (stretch_of at bytes r).laid.broken) (broken-bin at bytes fault fits h)

some-bytes : (n : ℕ) → 0 < n → eqb n 0 ≡ false
some-bytes n lt = grind (arith, nat_tests)

laid-whole : (b : Bin) (n at : ℕ) (rest : List ℕ) → IsBin b → at + bin_size b < 4294967296
    → laid (suc n) at (bin_bytes at b ++ rest)
    ≡ joined (record { marks = marked (marks_of_bin b); broken = [] }) (laid n (at + bin_size b) rest)
unfolding laid
laid-whole b n at rest h low =
    let bytes = bin_bytes at b ++ rest in
    let least : 4096 ≤ bin_size b = least-bin (cells_size b.cells) h.whole in
    let long : 0 < length bytes = omega (arith, length-append (bin_bytes at b) rest, length_bin at b h.ignored, least) in
    ap (λ t. cond t (record { marks = []; broken = [] }) (joined (stretch at bytes).laid
    (laid n (at + (stretch at bytes).long) (drop (stretch at bytes).long bytes)))) (some-bytes (length bytes) long)
    ∙ ap (λ s. joined s.laid (laid n (at + s.long) (drop s.long bytes))) (stretch-whole b at rest h low)
    ∙ ap (λ l. joined (record { marks = marked (marks_of_bin b); broken = [] }) (laid n (at + bin_size b) l))
    (drop_at (bin_bytes at b) rest (bin_size b) (length_bin at b h.ignored))

joined-whole : (ms ns : List Bool) (l : Laid)
    → joined (record { marks = marked ms; broken = [] }) (joined (record { marks = marked ns; broken = [] }) l)
    ≡ joined (record { marks = marked (ms ++ ns); broken = [] }) l
joined-whole ms ns l =
    ap (λ x. record { marks = x; broken = l.broken })
    (sym (append_assoc (marked ms) (marked ns) l.marks) ∙ ap (λ x. x ++ l.marks) (sym (map-append in_bin ms ns)))

-- bins that are whole, and what comes after them
laid-bins : (bs : List Bin) (n m at : ℕ) (rest : List ℕ) → AllByRecursion IsBin bs → at + bins_size bs < 4294967296 → n ≡ length bs + m
    → laid n at (spelled at bs ++ rest) ≡ joined (whole_marks bs) (laid m (at + bins_size bs) rest)
laid-bins [] n m at rest h low e =
    let d : n ≡ m = omega (arith, e) in
    let l : at ≡ at + 0 = omega arith in
    ap (λ i. laid i at rest) d ∙ ap (λ i. laid m i rest) l
laid-bins (b ∷ bs) n m at rest h low e =
    let next = n - 1 in
    let d : n ≡ suc next = omega (arith, e) in
    let f : next ≡ length bs + m = omega (arith, e) in
    let more = spelled (at + bin_size b) bs ++ rest in
    let l : at + bin_size b + bins_size bs ≡ at + (bin_size b + bins_size bs) = omega arith in
    ap (laid n at) (append_assoc (bin_bytes at b) (spelled (at + bin_size b) bs) rest)
    ∙ ap (λ i. laid i at (bin_bytes at b ++ more)) d
    ∙ laid-whole b next at more h.0 (omega (arith, low))
    ∙ ap (joined (record { marks = marked (marks_of_bin b); broken = [] }))
    (laid-bins bs next m (at + bin_size b) rest h.1 (omega (arith, low)) f)
    ∙ joined-whole (marks_of_bin b) (marks_of bs) (laid m (at + bin_size b + bins_size bs) rest)
    ∙ ap (λ i. joined (whole_marks (b ∷ bs)) (laid m i rest)) l

bins-few : (bs : List Bin) → AllByRecursion IsBin bs → length bs ≤ bins_size bs
bins-few [] h = omega arith
bins-few (b ∷ bs) h = omega (arith, bins-few bs h.1, least-bin (cells_size b.cells) h.0.whole)

laid-nothing : (n at : ℕ) → laid n at [] ≡ record { marks = []; broken = [] }
unfolding laid
laid-nothing zero at = refl
laid-nothing (suc n) at = refl

-- bins that are whole have a mark at each cell, and no bin is broken
pub layout-whole : (bytes : List ℕ) (bins : List Bin) → IsBins bytes bins → layout_of bytes ≡ whole_marks bins
layout-whole bytes bins is =
    let text = spelled 0 bins in
    let long = length_spelled 0 bins is.0.each in
    let n = length text in
    let m = n - length bins in
    let e : n ≡ length bins + m = omega (arith, bins-few bins is.0.each, long) in
    ap layout_of is.1 ∙ ap (laid n 0) (sym (append-nil text))
    ∙ laid-bins bins n m 0 [] is.0.each (omega (arith, is.0.small)) e
    ∙ ap (joined (whole_marks bins)) (laid-nothing m (0 + bins_size bins))
    ∙ ap (λ x. record { marks = x; broken = [] }) (append-nil (marked (marks_of bins)))

laid-broken : (n at : ℕ) (bytes : List ℕ) (fault : HiveFault) → 0 < length bytes → IsBytes bytes → BinFails at bytes fault
    → (more : List BrokenBin) × ((laid (suc n) at bytes).broken ≡ record { fault = fault; bytes = loose_bytes at bytes fault } ∷ more)
unfolding laid
laid-broken n at bytes fault some fits h =
    let s = stretch at bytes in
    let rest = laid n (at + s.long) (drop s.long bytes) in (
      rest.broken,
      ap (λ t. (cond t (record { marks = []; broken = [] }) (joined s.laid rest)).broken) (some-bytes (length bytes) some)
          ∙ ap (λ l. l ++ rest.broken) (stretch-broken at bytes fault fits h),
    )

fails-some : (at : ℕ) (bytes : List ℕ) (fault : HiveFault) → BinFails at bytes fault → 0 < length bytes
fails-some at bytes fault (inl h) = h.some
fails-some at bytes fault (inr h) =
    omega (
      arith,
      ap length h.parts,
      length-append (head_bytes at h.size h.ignored) (flat_map cell_bytes h.cells ++ h.rest),
      length_head at h.size h.ignored,
    )

-- the first broken bin of bytes that have a fault has that fault
pub layout-broken : (bytes : List ℕ) (fault : HiveFault) → IsBytes bytes → length bytes ≤ 16777216 → BinsFault bytes fault
    → (long : ℕ) × (more : List BrokenBin) × ((layout_of bytes).broken ≡ record { fault = fault; bytes = long } ∷ more)
layout-broken bytes fault fits small h =
    let front = spelled 0 h.front in
    let long = length_spelled 0 h.front h.sound in
    let all : length bytes ≡ length front + length h.rest = ap length h.parts ∙ length-append front h.rest in
    let some = fails-some (length front) h.rest fault h.fails in
    let n = length bytes in
    let m = n - length h.front - 1 in
    let e : n ≡ length h.front + suc m = omega (arith, bins-few h.front h.sound, long, all, some) in
    let at : 0 + bins_size h.front ≡ length front = omega (arith, long) in
    let dropped : drop (length front) bytes ≡ h.rest = ap (drop (length front)) h.parts ∙ drop_at front h.rest (length front) refl in
    let rest_fits = subst IsBytes dropped (IsBytes-drop (length front) bytes fits) in
    let broken = laid-broken m (length front) h.rest fault some rest_fits h.fails in (
      loose_bytes (length front) h.rest fault,
      broken.0,
      ap (λ l. (laid n 0 l).broken) h.parts
          ∙ ap (λ l. l.broken) (laid-bins h.front n (suc m) 0 h.rest h.sound (omega (arith, long, all, small)) e)
          ∙ ap (λ i. (laid (suc m) i h.rest).broken) at ∙ broken.1,
    )
