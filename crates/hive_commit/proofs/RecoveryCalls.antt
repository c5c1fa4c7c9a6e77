-- The calls of a recovery: all that it asks for is read, and then what was found is written.
use Rattle.std.proofs.Common.{◌≡◌, ◌++◌, ℕ, Bool, true, false, cond, List, [], Result, Ok, Err, refl, sym, ◌∙◌, ap, subst, append_assoc}
use Rattle.std.specs.Result.{IsErrAnd}
use Rattle.std.proofs.lemmas.List.{append-nil, map-append}
use Rattle.hive_model.specs.Base.{Base}
use Rattle.hive_model.specs.Image.{Address, Image}
use Rattle.hive_model.specs.Recovery.{Recovered, bit, bitmap_in, recovered_of}
use Rattle.nt_edge.specs.Calls.{Made, ReadAt, Makes, MakesFront, reads_of}
use Rattle.nt_edge.specs.declared.disk.DiskStop.{DiskStop}
use Rattle.nt_edge.specs.declared.disk.DiskStop.TheVariants as disk
use Rattle.nt_bytes.specs.Front.{IsFront}
use Rattle.hive_model.specs.Asked.{asked_of}
use Rattle.hive_log.specs.Asked.{IsAsked}
use Rattle.hive_log.specs.Found.{Found}
use Rattle.hive_log.specs.Shown.{read_of}
use Rattle.hive_log.specs.Stops.{ReadsAs, load_stop_of}
use Rattle.hive_log.specs.declared.looking.Reading.{Reading}
use Rattle.hive_log.specs.declared.stops.LoadStop.{LoadStop}
use Rattle.hive_log.specs.declared.stops.LoadStop.TheVariants as load
use Rattle.hive_commit.specs.Calls.{closing_calls, restoring_by, restoring_as, recovery_calls, AreAll, MakesRecovery}
use Rattle.hive_commit.proofs.CallLemmas.{made_as, made_then}

-- what is written where the log was needed
module _ (image : Image) (view : Recovered) (exact : recovered_of image ≡ Ok view) where
  restoring_is : (dirty : Bool) → view.dirty ≡ dirty
      → restoring_as image (recovered_of image) ≡ cond dirty (restoring_by view (bitmap_in image view.base.size)) []
  restoring_is dirty is = ap (restoring_as image) exact
      ∙ ap (λ d. cond d (restoring_by view (bitmap_in image view.base.size)) []) is

  restoring_found : (closed : Base) (bitmap bins found : List ℕ) → view.dirty ≡ true
      → Found image view.base found view.bins → closed ≡ view.base → bitmap ≡ found → bins ≡ view.bins
      → closing_calls closed (bit bitmap) bins ≡ restoring_as image (recovered_of image)
  restoring_found closed bitmap bins found dirty f closed_is bitmap_is bins_is = sym
      (restoring_is true dirty
      ∙ ap (λ n. restoring_by view (bitmap_in image n)) (ap (λ (b : Base). b.size) f.closed_is)
      ∙ ap (restoring_by view) f.log.text_there
      ∙ ap (λ l. closing_calls view.base (bit l) view.bins) (sym f.log.bits_are ∙ sym bitmap_is)
      ∙ ap (λ b. closing_calls b (bit bitmap) view.bins) (sym closed_is)
      ∙ ap (λ l. closing_calls closed (bit bitmap) l) (sym bins_is))

-- a base block, no matter what it is
any_base : Base
any_base = record {
  first = 0;
  second = 0;
  stamp = 0;
  minor = 0;
  kind = 0;
  root = 0;
  size = 0;
  cluster = 0;
  name = [];
  rest = [];
}

module _ (a b : List Made → Type 0) (which : List Made → Type 0) (sectors : List Address)
    (read : Makes a b (reads_of sectors)) where
  -- sectors were read, and nothing was written
  pub only_read : which (reads_of sectors) → MakesRecovery a b which
  only_read is =
      let same : reads_of sectors ≡ reads_of sectors ++ [] = sym (append-nil (reads_of sectors)) in
      record {
        sectors = sectors;
        closed = any_base;
        bits = λ i. false;
        bins = [];
        writes = [];
        front = record { rest = closing_calls any_base (λ i. false) []; cut = refl };
        made = made_as a b (reads_of sectors) (reads_of sectors ++ []) same read;
        are = subst which same is;
      }

  -- and then a prefix of what closes a recovery was written
  pub read_then : (c : List Made → Type 0) (closed : Base) (bits : ℕ → Bool) (bins : List ℕ)
      (f : MakesFront b c (closing_calls closed bits bins)) → which (reads_of sectors ++ f.front)
      → MakesRecovery a c which
  read_then c closed bits bins f is = record {
    sectors = sectors;
    closed = closed;
    bits = bits;
    bins = bins;
    writes = f.front;
    front = record { rest = f.rest; cut = f.cut };
    made = made_then a b c (reads_of sectors) f.front read f.made;
    are = is;
  }

-- a prefix of the last calls is one of all
pub front_behind : (first whole : List Made) {last front : List Made} → first ++ last ≡ whole → IsFront last front
    → IsFront whole (first ++ front)
front_behind first whole {last} {front} is cut = record {
  rest = cut.rest;
  cut = sym is ∙ ap (λ (l : List Made). first ++ l) cut.cut ∙ sym (append_assoc first front cut.rest);
}

-- the disk refused a write or a sync
pub stopped_by : {T : Type 0} (r : Result T LoadStop) (stop : DiskStop) (whole calls : List Made)
    → IsErrAnd r (λ made. made ≡ load_stop_of stop) → IsFront whole calls → AreAll whole r calls
stopped_by (Ok x) stop whole calls err front = absurd err
stopped_by {T} (Err e) stop whole calls err front =
    let by_disk : (s : DiskStop) → AreAll {T = T} whole (Err (load_stop_of s)) calls =
    elim [ disk.PowerLost ↦ front | disk.Failed ↦ front | disk.Memory ↦ front ] in
    subst (λ (s : LoadStop). AreAll {T = T} whole (Err s) calls) (sym err) (by_disk stop)

module _ (image : Image) where
  front_read : (sectors : List Address) → IsFront (asked_of image) sectors
      → IsFront (recovery_calls image) (reads_of sectors)
  front_read sectors is = record {
    rest = reads_of is.rest ++ restoring_as image (recovered_of image);
    cut =
        ap (λ (l : List Made). l ++ restoring_as image (recovered_of image))
        (ap reads_of is.cut ∙ map-append ReadAt sectors is.rest)
        ∙ append_assoc (reads_of sectors) (reads_of is.rest) (restoring_as image (recovered_of image));
  }

  refusal : (T : Type 0) (e : LoadStop) (sectors : List Address)
      → IsAsked {T = Reading} (asked_of image) (Err e) sectors → ReadsAs read_of (Err e) (recovered_of image)
      → AreAll {T = T} (recovery_calls image) (Err e) (reads_of sectors)
  refusal T (load.Fault f) sectors is exact =
      ap reads_of is ∙ sym (append-nil (reads_of (asked_of image)))
      ∙ ap (λ r. reads_of (asked_of image) ++ restoring_as image r) (sym exact)
  refusal T load.PowerLost sectors is exact = front_read sectors is
  refusal T load.Device sectors is exact = front_read sectors is
  refusal T load.Memory sectors is exact = front_read sectors is

  -- a refusal while it read, or a fault
  pub refused : {T : Type 0} (r : Result T LoadStop) (e : LoadStop) (sectors : List Address)
      → IsErrAnd r (λ made. made ≡ e) → IsAsked {T = Reading} (asked_of image) (Err e) sectors
      → ReadsAs read_of (Err e) (recovered_of image) → AreAll (recovery_calls image) r (reads_of sectors)
  refused (Ok x) e sectors err is exact = absurd err
  refused {T} (Err y) e sectors err is exact =
      subst (λ (s : LoadStop). AreAll {T = T} (recovery_calls image) (Err s) (reads_of sectors)) (sym err)
      (refusal T e sectors is exact)

  module _ (sectors : List Address) (is : sectors ≡ asked_of image) (view : Recovered)
      (exact : recovered_of image ≡ Ok view) where
    -- the primary was clean
    pub clean_all : view.dirty ≡ false → reads_of sectors ≡ recovery_calls image
    clean_all clean =
        ap reads_of is ∙ sym (append-nil (reads_of (asked_of image)))
        ∙ ap (λ (l : List Made). reads_of (asked_of image) ++ l) (sym (restoring_is image view exact false clean))

    -- the log was needed
    module _ (closed : Base) (bitmap bins found : List ℕ) (dirty : view.dirty ≡ true)
        (f : Found image view.base found view.bins) (closed_is : closed ≡ view.base) (bitmap_is : bitmap ≡ found)
        (bins_is : bins ≡ view.bins) where
      pub restored_all : reads_of sectors ++ closing_calls closed (bit bitmap) bins ≡ recovery_calls image
      restored_all =
          ap (λ l. reads_of l ++ closing_calls closed (bit bitmap) bins) is
          ∙ ap (λ (l : List Made). reads_of (asked_of image) ++ l)
          (restoring_found image view exact closed bitmap bins found dirty f closed_is bitmap_is bins_is)

      pub restored_front : (front : List Made) → IsFront (closing_calls closed (bit bitmap) bins) front
          → IsFront (recovery_calls image) (reads_of sectors ++ front)
      restored_front front cut = front_behind (reads_of sectors) (recovery_calls image) restored_all cut
