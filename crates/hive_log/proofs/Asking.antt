-- The sectors that were read so far of those that are asked for in sequence.
use Rattle.std.proofs.Common.{◌≡◌, ◌<◌, ◌+◌, ◌-◌, ◌++◌, ◌∷◌, ℕ, zero, suc, Bool, true, false, cond, List, [], Option, Some, None, Ok, Err, refl, sym, ◌∙◌, ap, subst, arith, append_assoc, append-nil}
use Rattle.std.specs.Prelude.{map, filter, not}
use Rattle.std.specs.List.{range_with_len}
use Rattle.std.proofs.lemmas.List.{map-append}
use Rattle.std.proofs.lemmas.List.Elements.{filter-append}
use Rattle.nt_bytes.specs.declared.fault.HiveFault.{HiveFault}
use Rattle.nt_edge.specs.Calls.{Made, ReadAt, reads_of, Makes}
use Rattle.hive_model.specs.Image.{Address, Image, File, Content, Bytes, Unreadable}
use Rattle.hive_log.specs.declared.stops.LoadStop.{LoadStop}
use Rattle.hive_log.specs.declared.stops.LoadStop.TheVariants as load
use Rattle.hive_log.specs.Stops.{IsFaultOf}
use Rattle.nt_bytes.specs.Front.{IsFront}
use Rattle.hive_model.specs.Asked.{bin_at, run_at, unmarked_at, is_readable, one_by_one}
use Rattle.hive_model.specs.Recovery.{bytes_or}
use Rattle.hive_log.specs.Asked.{IsAskedFirst, AsksFirst}

-- reads in turn
pub reads_in_turn : (before between after : List Made → Type 0) (first second : List Address)
    → Makes before between (reads_of first) → Makes between after (reads_of second)
    → Makes before after (reads_of (first ++ second))
reads_in_turn before between after first second makes makes_more = λ earlier was.
    subst after (append_assoc earlier (reads_of first) (reads_of second)
    ∙ ap (λ l. earlier ++ l) (sym (map-append ReadAt first second)))
    (makes_more (earlier ++ reads_of first) (makes earlier was))

-- the sectors are all there
abbrev pub AreThere : Image → List Address → Type 0
AreThere image [] = Unit {0}
AreThere image (at ∷ sectors) = (is_readable (image at) ≡ true) × AreThere image sectors

there_more : (image : Image) (sectors : List Address) (at : Address) → AreThere image sectors
    → is_readable (image at) ≡ true → AreThere image (sectors ++ at ∷ [])
there_more image [] at there is = (is, tt)
there_more image (first ∷ sectors) at there is = (there.0, there_more image sectors at there.1 is)

-- what was read so far: sectors that are all there
pub record AsksSoFar (before after : List Made → Type 0) (tells : Bool) (image : Image)
    (sectors : List Address) : Type 0 where
  pub made : Makes before after (reads_of sectors)
  pub there : tells ≡ true → AreThere image sectors

module _ (image : Image) where
  behind_there : (front rest more : List Address) → AreThere image front
      → one_by_one image (front ++ rest) more ≡ front ++ one_by_one image rest more
  behind_there [] rest more there = refl
  behind_there (at ∷ front) rest more there =
      ap (λ t. at ∷ cond t (one_by_one image (front ++ rest) more) []) there.0
      ∙ ap (λ l. at ∷ l) (behind_there front rest more there.1)

  whole_there : (front more : List Address) → AreThere image front → one_by_one image front more ≡ front ++ more
  whole_there front more there =
      ap (λ l. one_by_one image l more) (sym (append-nil front)) ∙ behind_there front [] more there

-- a sector has bytes, or has none that can be read
pub readable : (absent unreadable : HiveFault) (c : Option Content) (bytes : List ℕ)
    → bytes_or absent unreadable c ≡ Ok bytes → is_readable c ≡ true
readable absent unreadable None bytes is = absurd (cc)
readable absent unreadable (Some Unreadable) bytes is = absurd (cc)
readable absent unreadable (Some (Bytes found)) bytes is = refl

unread : (absent unreadable f : HiveFault) (c : Option Content) → bytes_or absent unreadable c ≡ Err f
    → is_readable c ≡ false
unread absent unreadable f None is = refl
unread absent unreadable f (Some Unreadable) is = refl
unread absent unreadable f (Some (Bytes found)) is = absurd (cc)

-- the last sector was read
pub asks_all : {T : Type 0} {before after : List Made → Type 0} {tells : Bool} {image : Image} {sectors : List Address}
    → AsksSoFar before after tells image sectors → (x : T)
    → AsksFirst before after tells (one_by_one image sectors) (Ok x)
asks_all {image = image} {sectors = sectors} so_far x = record {
  sectors = sectors;
  made = so_far.made;
  are = λ told more. whole_there image sectors more (so_far.there told);
}

-- there was no memory for what is after the sectors so far
pub asks_held : {T : Type 0} {before after : List Made → Type 0} {tells : Bool} {image : Image} {front : List Address}
    → AsksSoFar before after tells image front → (all rest : List Address) → all ≡ front ++ rest
    → AsksFirst {T = T} before after tells (one_by_one image all) (Err load.Memory)
asks_held {image = image} {front = front} so_far all rest is = record {
  sectors = front;
  made = so_far.made;
  are = λ told more. record {
    rest = one_by_one image rest more;
    cut = ap (λ l. one_by_one image l more) is ∙ behind_there image front rest more (so_far.there told);
  };
}

-- the next sector is read
module _ {before between : List Made → Type 0} {tells : Bool} {image : Image} {front : List Address}
    (so_far : AsksSoFar before between tells image front) (at : Address) (after : List Made → Type 0)
    (makes : Makes between after (ReadAt at ∷ [])) where
  next_made : Makes before after (reads_of (front ++ at ∷ []))
  next_made = reads_in_turn before between after front (at ∷ []) so_far.made makes

  pub asks_more : (now : List Address) → front ++ at ∷ [] ≡ now → (tells ≡ true → is_readable (image at) ≡ true)
      → AsksSoFar before after tells image now
  asks_more now is there = subst (AsksSoFar before after tells image) is (record {
    made = next_made;
    there = λ told. there_more image front at (so_far.there told) (there told);
  })

  module _ (all rest : List Address) (is : all ≡ front ++ at ∷ rest) where
    next_front : tells ≡ true → (more : List Address) → IsFront (one_by_one image all more) (front ++ at ∷ [])
    next_front told more =
        let then_more = cond (is_readable (image at)) (one_by_one image rest more) [] in
        record {
          rest = then_more;
          cut = ap (λ l. one_by_one image l more) is ∙ behind_there image front (at ∷ rest) more (so_far.there told)
              ∙ sym (append_assoc front (at ∷ []) then_more);
        }

    pub asks_unheld : (T : Type 0) → AsksFirst {T = T} before after tells (one_by_one image all) (Err load.Memory)
    asks_unheld T = record { sectors = front ++ at ∷ []; made = next_made; are = next_front }

    refusal : (T : Type 0) (e : LoadStop) (absent unreadable : HiveFault)
        → IsFaultOf e (bytes_or absent unreadable (image at)) → tells ≡ true
        → IsAskedFirst {T = T} (one_by_one image all) (Err e) (front ++ at ∷ [])
    refusal T (load.Fault f) absent unreadable fault told = λ more. sym
        (ap (λ l. one_by_one image l more) is
        ∙ behind_there image front (at ∷ rest) more (so_far.there told)
        ∙ ap (λ b. front ++ (at ∷ cond b (one_by_one image rest more) []))
        (unread absent unreadable f (image at) fault))
    refusal T load.PowerLost absent unreadable fault told = next_front told
    refusal T load.Device absent unreadable fault told = next_front told
    refusal T load.Memory absent unreadable fault told = next_front told

    -- where it can't be read, it is the last
    pub asks_refused : (T : Type 0) (e : LoadStop) (absent unreadable : HiveFault)
        → (tells ≡ true → IsFaultOf e (bytes_or absent unreadable (image at)))
        → AsksFirst {T = T} before after tells (one_by_one image all) (Err e)
    asks_refused T e absent unreadable fault =
        record {
          sectors = front ++ at ∷ [];
          made = next_made;
          are = λ told. refusal T e absent unreadable (fault told) told;
        }

-- numbers in turn
pub range_split : (from m n : ℕ) → range_with_len from (m + n) ≡ range_with_len from m ++ range_with_len (from + m) n
range_split from zero n =
    let short : zero + n ≡ n = omega arith in
    let same : from ≡ from + zero = omega arith in
    ap (range_with_len from) short ∙ ap (λ a. range_with_len a n) same
range_split from (suc m) n =
    let long : suc m + n ≡ suc (m + n) = omega arith in
    let same : from + 1 + m ≡ from + suc m = omega arith in
    ap (range_with_len from) long
    ∙ ap (λ l. from ∷ l) (range_split (from + 1) m n ∙ ap (λ a. range_with_len (from + 1) m ++ range_with_len a n) same)

range_at : (i count : ℕ) → i < count
    → range_with_len 0 count ≡ range_with_len 0 i ++ i ∷ range_with_len (i + 1) (count - (i + 1))
range_at i count small =
    let long : count ≡ i + suc (count - (i + 1)) = omega arith in
    let same : 0 + i ≡ i = omega arith in
    ap (range_with_len 0) long ∙ range_split 0 i (suc (count - (i + 1)))
    ∙ ap (λ a. range_with_len 0 i ++ range_with_len a (suc (count - (i + 1)))) same

range_more : (i : ℕ) → range_with_len 0 (i + 1) ≡ range_with_len 0 i ++ i ∷ []
range_more i =
    let same : 0 + i ≡ i = omega arith in
    range_split 0 i 1 ∙ ap (λ a. range_with_len 0 i ++ a ∷ []) same

-- a run of sectors
module _ (file : File) (first : ℕ) where
  abbrev of_run : ℕ → Address
  of_run k = record { file = file; sector = first + k }

  pub run_rest : ℕ → ℕ → List Address
  run_rest i count = map of_run (range_with_len (i + 1) (count - (i + 1)))

  pub run_split : (i count : ℕ) → i < count
      → run_at file first count ≡ run_at file first i ++ of_run i ∷ run_rest i count
  unfolding run_rest
  run_split i count small =
      ap (map of_run) (range_at i count small)
      ∙ map-append of_run (range_with_len 0 i) (i ∷ range_with_len (i + 1) (count - (i + 1)))

  pub run_more : (i : ℕ) → run_at file first i ++ of_run i ∷ [] ≡ run_at file first (i + 1)
  run_more i = sym (ap (map of_run) (range_more i) ∙ map-append of_run (range_with_len 0 i) (i ∷ []))

-- the sectors whose bit is off
module _ (bits : ℕ → Bool) where
  abbrev unmarked_in : List ℕ → List Address
  unmarked_in numbers = map bin_at (filter (λ i. not (bits i)) numbers)

  -- number i in front of others, by its bit
  abbrev with_bit : Bool → ℕ → List ℕ → List Address
  with_bit b i numbers = map bin_at
      (cond (not b) (i ∷ filter (λ i. not (bits i)) numbers) (filter (λ i. not (bits i)) numbers))

  unmarked-append : (xs ys : List ℕ) → unmarked_in (xs ++ ys) ≡ unmarked_in xs ++ unmarked_in ys
  unmarked-append xs ys =
      ap (map bin_at) (filter-append (λ i. not (bits i)) xs ys)
      ∙ map-append bin_at (filter (λ i. not (bits i)) xs) (filter (λ i. not (bits i)) ys)

  pub unmarked_rest : ℕ → ℕ → List Address
  unmarked_rest i count = unmarked_in (range_with_len (i + 1) (count - (i + 1)))

  module _ (i count : ℕ) (small : i < count) where
    abbrev behind : List ℕ
    behind = range_with_len (i + 1) (count - (i + 1))

    split : unmarked_at bits count ≡ unmarked_at bits i ++ with_bit (bits i) i behind
    split = ap unmarked_in (range_at i count small) ∙ unmarked-append (range_with_len 0 i) (i ∷ behind)

    pub unmarked_split : bits i ≡ false
        → unmarked_at bits count ≡ unmarked_at bits i ++ bin_at i ∷ unmarked_rest i count
    unfolding unmarked_rest
    unmarked_split off = split ∙ ap (λ b. unmarked_at bits i ++ with_bit b i behind) off

    pub marked_split : bits i ≡ true → unmarked_at bits count ≡ unmarked_at bits i ++ unmarked_rest i count
    unfolding unmarked_rest
    marked_split on = split ∙ ap (λ b. unmarked_at bits i ++ with_bit b i behind) on

  module _ (i : ℕ) where
    next : unmarked_at bits (i + 1) ≡ unmarked_at bits i ++ with_bit (bits i) i []
    next = ap unmarked_in (range_more i) ∙ unmarked-append (range_with_len 0 i) (i ∷ [])

    pub unmarked_more : bits i ≡ false → unmarked_at bits i ++ bin_at i ∷ [] ≡ unmarked_at bits (i + 1)
    unmarked_more off = sym (next ∙ ap (λ b. unmarked_at bits i ++ with_bit b i []) off)

    pub marked_more : bits i ≡ true → unmarked_at bits i ≡ unmarked_at bits (i + 1)
    marked_more on = sym (next ∙ ap (λ b. unmarked_at bits i ++ with_bit b i []) on ∙ append-nil (unmarked_at bits i))
