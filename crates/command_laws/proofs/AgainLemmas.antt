-- The files of an image stand for what it stands for.
use Rattle.std.specs.Prelude.{nat_lt, not}
use Rattle.std.proofs.Common.{◌≡◌, inl, ◌<◌, ◌≤◌, ◌+◌, ◌*◌, ◌/◌, ◌==◌, ◌&&◌, ℕ, zero, suc, Bool, true, false, cond, List, [], ◌++◌, length, take, drop, replicate, Option, Some, None, Result, Ok, Err, refl, sym, ◌∙◌, ap, ⊎_elim, arith, length-take, length-append}
use Rattle.std.proofs.lemmas.Bool.{lt-ltb, eqb-true, eq-eqb, cases_lt, and_parts, false≢true}
use Rattle.nt_bytes.specs.declared.fault.HiveFault.{HiveFault}
use Rattle.nt_bytes.specs.declared.fault.HiveFaultKind.TheVariants.{LogAbsent, LogUnreadable, LogSequence, NotRegf}
use Rattle.nt_bytes.specs.Reading.{◌>>=◌}
use Rattle.hive_model.specs.Asked.{primary_at}
use Rattle.hive_model.specs.Base.{Base, base_of, fault_at}
use Rattle.hive_model.specs.Image.{Image, File, Primary, Log, Content, Bytes, Unreadable, padded, sector_of, image_of, bytes_of, IsFileOf}
use Rattle.hive_model.specs.Load.{Loads}
use Rattle.hive_model.specs.Recovery.{Recovered, Sectors, primary_in, log_in, sector, bytes_or, joined, gathered, recovered_with, goes_with, as_log_base, base_at, base_in}
use Rattle.hive_model.specs.State.{HiveState}
use Rattle.hive_model.proofs.BaseLemmas.{base_in_checked}
use Rattle.hive_laws.specs.saved_laws.Saved.{KeepsSectors}
use Rattle.hive_laws.proofs.KeptLemmas.{Stays}
use Rattle.hive_laws.proofs.SavedLemmas.{primary_loads, torn_block, filled, whole}
use Rattle.hive_log.specs.Found.{IsUnfinished}
use Rattle.hive_log.proofs.Appending.{sized}
use Rattle.hive_alt.specs.Schemes.{StandsClean, StandFault}
use Rattle.hive_alt.specs.Twin.{copy_at, absent_at, torn_at, read_in, second_in, has_fields, second_has, is_second, standing, by_second_block, twin_of}
use Rattle.hive_alt.proofs.TwinLemmas.{by_fault, by_clean, by_unfinished, has_same, second_each, each_second}
use Rattle.command_words.specs.declared.asked.AskedScheme.{AskedScheme}
use Rattle.command_words.specs.declared.asked.AskedScheme.TheVariants as schemes
use Rattle.twin_command.specs.Twinned.{stands_by}

-- ---- the sectors of a file

module _ (image : Image) (file : File) (bytes : List ℕ) (is : IsFileOf image file bytes) where
  there : (n : ℕ) (block : List ℕ) → image (copy_at file n) ≡ Some (Bytes block) → n < is.count
  there n block here = ⊎_elim
      (λ below. below)
      (λ past. absurd (let none : Some (Bytes block) ≡ None = sym here ∙ is.no_more n past in cc))
      (cases_lt n is.count)

  -- a sector of the image that has bytes is that of the file
  saved_sector : (n : ℕ) (block : List ℕ) → n < 65536 → image (copy_at file n) ≡ Some (Bytes block)
      → cond (nat_lt n 65536) (sector_of bytes n) None ≡ Some (Bytes block)
  saved_sector n block low here =
      let inside = there n block here in
      let part = take 512 (drop (512 * n) bytes) in
      let same : part ≡ block = sym (is.each n inside) ∙ ap bytes_of here in
      ap (λ t. cond t (sector_of bytes n) None) (lt-ltb n 65536 low)
      ∙ ap (λ t. cond t (Some (Bytes (padded part))) None) (lt-ltb (512 * n) (length bytes) (omega (arith, is.long)))
      ∙ ap (λ b. Some (Bytes b)) (filled part (whole bytes is.count n is.long inside) ∙ same)

  -- and has 512 bytes at most
  short_sector : (n : ℕ) (block : List ℕ) → image (copy_at file n) ≡ Some (Bytes block) → length block ≤ 512
  short_sector n block here =
      let part : take 512 (drop (512 * n) bytes) ≡ block = sym (is.each n (there n block here)) ∙ ap bytes_of here in
      omega (arith, ap length part, length-take 512 (drop (512 * n) bytes))

module _ (image : Image) (primary second : List ℕ) where
  primary_kept : IsFileOf image Primary primary → KeepsSectors Primary image (image_of primary second)
  primary_kept is n block low here = saved_sector image Primary primary is n block low here

  second_kept : IsFileOf image Log second → KeepsSectors Log image (image_of primary second)
  second_kept is n block low here = saved_sector image Log second is n block low here

-- ---- what is read without a fault is read again

joined_stays : (s t r q : Result (List ℕ) HiveFault) → Stays s t → Stays r q → Stays (joined s r) (joined t q)
joined_stays (Err f) t r q first rest b e = absurd cc
joined_stays (Ok one) t (Err f) q first rest b e = absurd cc
joined_stays (Ok one) t (Ok more) q first rest b e =
    ap (λ s. joined s q) (first one refl) ∙ ap (joined (Ok one)) (rest more refl) ∙ e

gathered_stays : (a b : Sectors) (from n : ℕ) → ((j : ℕ) → from ≤ j → j < from + n → Stays (a j) (b j))
    → Stays (gathered a from n) (gathered b from n)
gathered_stays a b from zero each = λ bytes e. e
gathered_stays a b from (suc n) each =
    joined_stays (a from) (b from) (gathered a (suc from) n) (gathered b (suc from) n)
    (each from (omega arith) (omega arith))
    (gathered_stays a b (suc from) n (λ j low high. each j (omega arith) (omega arith)))

-- the bytes of a sector that has some are there again
abbrev HasAgain : Option Content → Option Content → Type 0
HasAgain c d = (bytes : List ℕ) → c ≡ Some (Bytes bytes) → d ≡ Some (Bytes bytes)

bytes_stay : (f g : HiveFault) (o p : Option Content) → HasAgain o p → Stays (bytes_or f g o) (bytes_or f g p)
bytes_stay f g None p keeps b e = absurd cc
bytes_stay f g (Some Unreadable) p keeps b e = absurd cc
bytes_stay f g (Some (Bytes bytes)) p keeps b e = ap (bytes_or f g) (keeps bytes refl) ∙ e

-- the bins data of a copy
abbrev bins_in : File → Image → ℕ → Result (List ℕ) HiveFault
bins_in file image size = gathered (read_in file image) 0 (size / 512)

copy_stays : (file : File) (x y : Image) (size : ℕ) → size ≤ 16777216 → KeepsSectors file x y
    → Stays (bins_in file x size) (bins_in file y size)
copy_stays file x y size few keeps =
    gathered_stays (read_in file x) (read_in file y) 0 (size / 512)
    (λ j low high.
    bytes_stay (absent_at file j) (torn_at file j) (x (copy_at file (8 + j))) (y (copy_at file (8 + j)))
    (λ bytes here. keeps (8 + j) bytes (omega arith) here))

-- ---- how long that is

joined_short : (s r : Result (List ℕ) HiveFault) (a b : ℕ) → ((l : List ℕ) → s ≡ Ok l → length l ≤ a)
    → ((l : List ℕ) → r ≡ Ok l → length l ≤ b) → (l : List ℕ) → joined s r ≡ Ok l → length l ≤ a + b
joined_short (Err f) r a b first rest l is = absurd cc
joined_short (Ok one) (Err f) a b first rest l is = absurd cc
joined_short (Ok one) (Ok more) a b first rest l is =
    let same : one ++ more ≡ l = cc in
    omega (arith, ap length same, length-append one more, first one refl, rest more refl)

gathered_short : (at : Sectors) (from n : ℕ) → ((j : ℕ) (l : List ℕ) → at j ≡ Ok l → length l ≤ 512)
    → (l : List ℕ) → gathered at from n ≡ Ok l → length l ≤ 512 * n
gathered_short at from zero each l is = (let none : [] ≡ l = cc in omega (arith, ap length none))
gathered_short at from (suc n) each l is =
    let long = joined_short (at from) (gathered at (suc from) n) 512 (512 * n) (each from)
    (gathered_short at (suc from) n each) l is in
    omega (arith, long)

bytes_short : (f g : HiveFault) (o : Option Content) → ((l : List ℕ) → o ≡ Some (Bytes l) → length l ≤ 512)
    → (l : List ℕ) → bytes_or f g o ≡ Ok l → length l ≤ 512
bytes_short f g None short l is = absurd cc
bytes_short f g (Some Unreadable) short l is = absurd cc
bytes_short f g (Some (Bytes bytes)) short l is =
    (let same : bytes ≡ l = cc in omega (arith, ap length same, short bytes refl))

-- ---- the second copy

-- the second copy's base block, by what its sector 0 has
abbrev second_at : Option Content → Result Base HiveFault
second_at c = bytes_or (fault_at LogAbsent 0) (fault_at LogUnreadable 0) c >>=
    (λ block. as_log_base (base_of block 0))

second_stays : (c d : Option Content) → HasAgain c d → Stays (second_at c) (second_at d)
second_stays None d keeps b e = absurd cc
second_stays (Some Unreadable) d keeps b e = absurd cc
second_stays (Some (Bytes bytes)) d keeps b e = ap second_at (keeps bytes refl) ∙ e

-- the primary's base block, of a sector that has bytes
abbrev opened_as : Result Base HiveFault → Result (Option Base) HiveFault
opened_as r = r >>= (λ (base : Base). Ok (Some base))

abbrev done : Recovered → Result Recovered HiveFault
done r = Ok r

done_is : (a b : Recovered) → done a ≡ done b → a ≡ b
done_is a b e = cc

never : (a : Recovered) (f : HiveFault) → done a ≡ Err f → ⊥
never a f e = absurd cc

not_false : (b : Bool) → not b ≡ false → b ≡ true
not_false true e = refl
not_false false e = absurd cc

-- where the second copy stands, the primary is to be repaired
dirty_with : (base : Base) (g : Result (List ℕ) HiveFault) (r : Recovered) → recovered_with true base g ≡ Ok r
    → r.dirty ≡ true
dirty_with base (Err f) r e = absurd cc
dirty_with base (Ok bins) r e =
    ap (λ (q : Recovered). q.dirty) (sym (done_is (record { base = base; bins = bins; dirty = true }) r e))

dirty_goes : (t : Bool) (base : Base) (g : Result (List ℕ) HiveFault) (r : Recovered)
    → cond t (recovered_with true base g) (Err (fault_at LogSequence 4)) ≡ Ok r → r.dirty ≡ true
dirty_goes true base g r e = dirty_with base g r e
dirty_goes false base g r e = absurd cc

dirty_block : (image : Image) (opened : Option Base) (s : Result Base HiveFault) (r : Recovered)
    → (s >>= by_second_block image opened) ≡ Ok r → r.dirty ≡ true
dirty_block image opened (Err f) r e = absurd cc
dirty_block image opened (Ok other) r e =
    dirty_goes (goes_with opened other) other (bins_in Log image other.size) r e

module _ (x y : Image) (second : KeepsSectors Log x y) where
  -- a second copy that is the same is so again
  second_again : (base : Base) (bins : List ℕ) → length bins ≤ 16777216 → is_second x base bins ≡ true
      → is_second y base bins ≡ true
  second_again base bins few is =
      let count = length bins / 512 in
      let parts = and_parts (has_fields base (second_in x)) _ is in
      let sx : second_in x ≡ Ok base = has_same base (second_in x) parts.0 in
      let sy : second_in y ≡ Ok base =
      second_stays (log_in x 0) (log_in y 0) (λ bytes here. second 0 bytes (omega arith) here) base sx in
      let each : second_has y bins count ≡ true =
      each_second y bins count
      (λ i below. second (8 + i) (sector bins i) (omega (arith, few)) (second_each x bins count parts.1 i below)) in
      ap (λ s. has_fields base s && second_has y bins count) (sy ∙ sym sx)
      ∙ ap (λ b. b && second_has y bins count) parts.0 ∙ each

-- ---- two copies

module _ (x y : Image) (first : KeepsSectors Primary x y) (second : KeepsSectors Log x y)
    (short : (n : ℕ) (block : List ℕ) → x (copy_at Primary n) ≡ Some (Bytes block) → length block ≤ 512)
    (r : Recovered) (stands : twin_of x ≡ Ok r) (clean : r.dirty ≡ false) where
  faulty : (f : HiveFault) → twin_of x ≡ Err f → twin_of y ≡ Ok r
  faulty f e = absurd (never r f (sym stands ∙ e))

  -- the primary stands
  by_first_again : (base : Base) → base_in x ≡ Ok (Some base) → base_in y ≡ Ok (Some base) → base.first ≡ base.second
      → (g : Result (List ℕ) HiveFault) → bins_in Primary x base.size ≡ g → twin_of y ≡ Ok r
  by_first_again base bx by even (Err f) is = faulty f (by_clean x base bx even ∙ ap (standing x base) is)
  by_first_again base bx by even (Ok bins) is =
      let few = (sized base.size (base_in_checked x base bx).size_is).high in
      let long = gathered_short (read_in Primary x) 0 (base.size / 512)
      (λ j. bytes_short (absent_at Primary j) (torn_at Primary j) (x (copy_at Primary (8 + j))) (short (8 + j)))
      bins is in
      let was : r ≡ record { base = base; bins = bins; dirty = not (is_second x base bins) } =
      done_is r (record { base = base; bins = bins; dirty = not (is_second x base bins) })
      (sym stands ∙ by_clean x base bx even ∙ ap (standing x base) is) in
      let same : is_second x base bins ≡ true =
      not_false (is_second x base bins) (sym (ap (λ (q : Recovered). q.dirty) was) ∙ clean) in
      let again : is_second y base bins ≡ true = second_again x y second base bins (omega (arith, few, long)) same in
      by_clean y base by even ∙ ap (standing y base) (copy_stays Primary x y base.size few first bins is)
      ∙ ap (λ b. done (record { base = base; bins = bins; dirty = not b })) (again ∙ sym same)
      ∙ ap done (sym was)

  -- and not the second copy
  not_second : (opened : Option Base) → base_in x ≡ Ok opened → IsUnfinished opened → ⊥
  not_second opened bx unfinished =
      false≢true (sym clean
      ∙ dirty_block x opened (second_in x) r (sym (by_unfinished x opened bx unfinished) ∙ stands))

  by_numbers : (base : Base) → base_in x ≡ Ok (Some base) → base_in y ≡ Ok (Some base)
      → (t : Bool) → (base.first == base.second) ≡ t → twin_of y ≡ Ok r
  by_numbers base bx by true is =
      by_first_again base bx by (eqb-true base.first base.second is) (bins_in Primary x base.size) refl
  by_numbers base bx by false is =
      absurd (not_second (Some base) bx
      (λ e. absurd (let even : (base.first == base.second) ≡ true = eq-eqb base.first base.second e in cc)))

  by_block_of : (block : List ℕ) → primary_in x 0 ≡ Some (Bytes block) → (b : Result Base HiveFault)
      → base_of block 0 ≡ b
      → twin_of y ≡ Ok r
  by_block_of block here (Err f) is = faulty f (by_fault x f (ap base_at here ∙ ap opened_as is))
  by_block_of block here (Ok base) is =
      by_numbers base (ap base_at here ∙ ap opened_as is)
      (ap base_at (first 0 block (omega arith) here) ∙ ap opened_as is)
      (base.first == base.second) refl

  by_content : (c : Option Content) → primary_in x 0 ≡ c → twin_of y ≡ Ok r
  by_content None here = faulty _ (by_fault x _ (ap base_at here))
  by_content (Some Unreadable) here = absurd (not_second None (ap base_at here) tt)
  by_content (Some (Bytes block)) here = by_block_of block here (base_of block 0) refl

twin_again : (x y : Image) → KeepsSectors Primary x y → KeepsSectors Log x y
    → ((n : ℕ) (block : List ℕ) → x (copy_at Primary n) ≡ Some (Bytes block) → length block ≤ 512)
    → (state : HiveState) → StandsClean twin_of state x → StandsClean twin_of state y
twin_again x y first second short state is =
    let was = is.stands_for in
    record {
      stands_for = record {
        recovered = was.recovered;
        read = by_content x y first second short was.recovered was.read is.clean (primary_in x 0) refl;
        holds = was.holds;
      };
      clean = is.clean;
    }

-- ---- both ways

pub files_stand : (scheme : AskedScheme) (image : Image) (hive other : List ℕ) (state : HiveState)
    → IsFileOf image Primary hive → IsFileOf image Log other
    → StandsClean (stands_by scheme) state image → StandsClean (stands_by scheme) state (image_of hive other)
files_stand schemes.Alt image hive other state hive_is other_is is =
    twin_again image (image_of hive other) (primary_kept image hive other hive_is)
    (second_kept image hive other other_is) (short_sector image Primary hive hive_is) state is
files_stand schemes.Log image hive other state hive_is other_is is =
    let was = is.stands_for in
    let loads : Loads image state false =
    record { recovered = was.recovered; read = was.read; was_dirty = sym is.clean; holds = was.holds } in
    let again = primary_loads image hive other state hive_is loads in
    record {
      stands_for = record { recovered = again.recovered; read = again.read; holds = again.holds };
      clean = sym again.was_dirty;
    }

-- ---- a block that can't be read

is_no_hive : base_of (replicate 512 0) 0 ≡ Err (fault_at NotRegf 0)
unfolding base_of
is_no_hive = refl

torn_there : (image : Image) (hive : List ℕ) (is : IsFileOf image Primary hive) → image (primary_at 0) ≡ Some Unreadable
    → 0 < is.count
torn_there image hive is torn = ⊎_elim
    (λ below. below)
    (λ past. absurd (let none : Some Unreadable ≡ None = sym torn ∙ is.no_more 0 past in cc))
    (cases_lt 0 is.count)

torn_twin : (image : Image) (hive alt : List ℕ) → IsFileOf image Primary hive → image (primary_at 0) ≡ Some Unreadable
    → twin_of (image_of hive alt) ≡ Err (fault_at NotRegf 0)
torn_twin image hive alt is torn =
    let inside = torn_there image hive is torn in
    let part = take 512 (drop (512 * 0) hive) in
    let zeros : replicate 512 0 ≡ part = sym (ap bytes_of torn) ∙ is.each 0 inside in
    let block : primary_in (image_of hive alt) 0 ≡ Some (Bytes (replicate 512 0)) =
    ap (λ t. cond t (Some (Bytes (padded part))) None) (lt-ltb 0 (length hive) (omega (arith, is.long)))
    ∙ ap (λ b. Some (Bytes b)) (filled part (whole hive is.count 0 is.long inside) ∙ sym zeros) in
    by_fault (image_of hive alt) (fault_at NotRegf 0) (ap base_at block ∙ ap opened_as is_no_hive)

pub torn_stands : (scheme : AskedScheme) (image : Image) (hive alt : List ℕ)
    → IsFileOf image Primary hive → image (primary_at 0) ≡ Some Unreadable
    → StandFault (stands_by scheme) (image_of hive alt) (fault_at NotRegf 0)
torn_stands schemes.Alt image hive alt is torn = inl (torn_twin image hive alt is torn)
torn_stands schemes.Log image hive alt is torn = inl (torn_block image hive alt is torn)
