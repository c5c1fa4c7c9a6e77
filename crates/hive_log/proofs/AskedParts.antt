-- The parts of what recovery asks for, each with what stands after it, and how they join.
use Rattle.std.proofs.Common.{◌≡◌, ◌++◌, ◌∷◌, Bool, true, List, [], Result, Ok, Err, refl, sym, ◌∙◌, ap, subst, append_assoc, append-nil}
use Rattle.std.specs.Prelude.{IsErrAnd}
use Rattle.std.proofs.lemmas.Result.{err_from_is_err_and}
use Rattle.nt_bytes.specs.declared.fault.HiveFault.{HiveFault}
use Rattle.nt_edge.specs.Calls.{Made, ReadAt, Makes}
use Rattle.nt_edge.specs.declared.disk.DiskStop.{DiskStop}
use Rattle.nt_edge.specs.declared.disk.DiskStop.TheVariants as disk
use Rattle.hive_model.specs.Image.{Address}
use Rattle.nt_bytes.specs.Front.{IsFront}
use Rattle.hive_model.specs.Asked.{asked_if_read}
use Rattle.hive_log.specs.declared.stops.LoadStop.{LoadStop}
use Rattle.hive_log.specs.declared.stops.LoadStop.TheVariants as load
use Rattle.hive_log.specs.Stops.{IsFaultOf, Reads, load_stop_of}
use Rattle.hive_log.specs.Asked.{asked_sector, MakesReads, IsAsked, IsAskedFirst, AsksFirst}
use Rattle.hive_log.proofs.Asking.{reads_in_turn}

-- one sector, by what it is read as
sector_first : {A : Type 0} (at : Address) (read : Result A HiveFault) (result : Result A LoadStop) → Reads result read
    → IsAskedFirst (asked_sector at read) result (at ∷ [])
sector_first at read (Ok x) is = λ more. ap (λ r. at ∷ asked_if_read r (λ x. more)) is
sector_first at read (Err (load.Fault f)) is = λ more. sym (ap (λ r. at ∷ asked_if_read r (λ x. more)) is)
sector_first at read (Err load.PowerLost) is = λ more. record { rest = asked_if_read read (λ x. more); cut = refl }
sector_first at read (Err load.Device) is = λ more. record { rest = asked_if_read read (λ x. more); cut = refl }
sector_first at read (Err load.Memory) is = λ more. record { rest = asked_if_read read (λ x. more); cut = refl }

pub asks_sector : {A : Type 0} (before after : List Made → Type 0) (tells : Bool) (at : Address)
    (read : Result A HiveFault) (result : Result A LoadStop) → Makes before after (ReadAt at ∷ [])
    → (tells ≡ true → Reads result read) → AsksFirst before after tells (asked_sector at read) result
asks_sector before after tells at read result makes reads =
    record { sectors = at ∷ []; made = makes; are = λ told. sector_first at read result (reads told) }

-- nothing is said of what a stop of the disk reads
pub stop_reads : (A : Type 0) (stop : DiskStop) (read : Result A HiveFault) → IsFaultOf (load_stop_of stop) read
stop_reads A disk.PowerLost read = tt
stop_reads A disk.Failed read = tt
stop_reads A disk.Memory read = tt

-- an error that is passed on
pub asks_passed : {T : Type 0} {before after : List Made → Type 0} {tells : Bool} {part : List Address → List Address}
    {e : LoadStop} {r : Result T LoadStop} → IsErrAnd r (λ y. y ≡ e)
    → AsksFirst {T = T} before after tells part (Err e) → AsksFirst before after tells part r
asks_passed {r = r} is asks = let p = err_from_is_err_and r is in rw (p.1, p.2) asks

-- a part after another
module _ (first second : List Address → List Address) (front asked : List Address)
    (whole : (more : List Address) → first more ≡ front ++ more) where
  front_behind : (more : List Address) → IsFront (second more) asked → IsFront (first (second more)) (front ++ asked)
  front_behind more is = record {
    rest = is.rest;
    cut = whole (second more) ∙ ap (λ l. front ++ l) is.cut
        ∙ sym (append_assoc front asked is.rest);
  }

  joined_first : {T : Type 0} (result : Result T LoadStop) → IsAskedFirst second result asked
      → IsAskedFirst (λ more. first (second more)) result (front ++ asked)
  joined_first (Ok y) is = λ more. whole (second more) ∙ ap (λ l. front ++ l) (is more)
      ∙ sym (append_assoc front asked more)
  joined_first (Err (load.Fault f)) is = λ more. ap (λ l. front ++ l) (is more) ∙ sym (whole (second more))
  joined_first (Err load.PowerLost) is = λ more. front_behind more (is more)
  joined_first (Err load.Device) is = λ more. front_behind more (is more)
  joined_first (Err load.Memory) is = λ more. front_behind more (is more)

pub asks_behind : {T U : Type 0} {before between after : List Made → Type 0} {tells : Bool}
    {first second : List Address → List Address} {x : U} {result : Result T LoadStop}
    → AsksFirst before between tells first (Ok x) → AsksFirst between after tells second result
    → AsksFirst before after tells (λ more. first (second more)) result
asks_behind {before = before} {between = between} {after = after} {first = first} {second = second} {x = x}
    {result = result} one two = record {
      sectors = one.sectors ++ two.sectors;
      made = reads_in_turn before between after one.sectors two.sectors one.made two.made;
      are = λ told. joined_first first second one.sectors two.sectors (one.are told) result (two.are told);
    }

-- a part that asks for the same
pub asks_as : {T : Type 0} {before after : List Made → Type 0} {tells : Bool} {part : List Address → List Address}
    {result : Result T LoadStop} → AsksFirst before after tells part result → (same : List Address → List Address)
    → (tells ≡ true → (more : List Address) → part more ≡ same more) → AsksFirst before after tells same result
asks_as {T = T} {part = part} {result = result} asks same is = record {
  sectors = asks.sectors;
  made = asks.made;
  are = λ told. subst (λ (p : List Address → List Address). IsAskedFirst p result asks.sectors)
      (λ i more. is told more i) (asks.are told);
}

-- another answer to the same sectors
pub asks_kept : {T U : Type 0} {before after : List Made → Type 0} {tells : Bool} {part : List Address → List Address}
    {x : U} → AsksFirst before after tells part (Ok x) → (y : T) → AsksFirst before after tells part (Ok y)
asks_kept asks y = record { sectors = asks.sectors; made = asks.made; are = asks.are }

-- there was no memory for what was read
pub asks_unkept : {U : Type 0} {before after : List Made → Type 0} {tells : Bool} {part : List Address → List Address}
    {x : U} → AsksFirst before after tells part (Ok x) → (T : Type 0)
    → AsksFirst {T = T} before after tells part (Err load.Memory)
asks_unkept asks T = record
    { sectors = asks.sectors; made = asks.made; are = λ told more. record { rest = more; cut = asks.are told more } }

-- a part that was refused, with what would have stood after
cut_first : (T U : Type 0) (first second : List Address → List Address) (e : LoadStop) (asked : List Address)
    → IsAskedFirst {T = T} first (Err e) asked → IsAskedFirst {T = U} (λ more. first (second more)) (Err e) asked
cut_first T U first second (load.Fault f) asked is = λ more. is (second more)
cut_first T U first second load.PowerLost asked is = λ more. is (second more)
cut_first T U first second load.Device asked is = λ more. is (second more)
cut_first T U first second load.Memory asked is = λ more. is (second more)

pub asks_cut : {T : Type 0} {before after : List Made → Type 0} {tells : Bool} {first : List Address → List Address}
    {e : LoadStop} → AsksFirst {T = T} before after tells first (Err e)
    → (U : Type 0) (second : List Address → List Address)
    → AsksFirst {T = U} before after tells (λ more. first (second more)) (Err e)
asks_cut {T = T} {first = first} {e = e} asks U second =
    record {
      sectors = asks.sectors;
      made = asks.made;
      are = λ told. cut_first T U first second e asks.sectors (asks.are told);
    }

-- what was read ends the part, whatever would have stood after
pub asks_end : {U : Type 0} {before after : List Made → Type 0} {tells : Bool} {first : List Address → List Address}
    {x : U} → AsksFirst before after tells first (Ok x)
    → (T : Type 0) (f : HiveFault) (part : List Address → List Address)
    → (tells ≡ true → (more : List Address) → part more ≡ first [])
    → AsksFirst {T = T} before after tells part (Err (load.Fault f))
asks_end asks T f part ends = record {
  sectors = asks.sectors;
  made = asks.made;
  are = λ told more. sym (append-nil asks.sectors) ∙ sym (asks.are told []) ∙ sym (ends told more);
}

-- all parts were asked for
pub asks_in_whole : {T : Type 0} {before after : List Made → Type 0} {tells : Bool} {part : List Address → List Address}
    {x : T} → AsksFirst before after tells part (Ok x) → (whole : List Address) → (tells ≡ true → part [] ≡ whole)
    → MakesReads before after (λ sectors. tells ≡ true → sectors ≡ whole)
asks_in_whole asks whole all =
    record {
      sectors = asks.sectors;
      made = asks.made;
      are = λ told. sym (append-nil asks.sectors) ∙ sym (asks.are told []) ∙ all told;
    }

-- a refusal ends what was to be asked for, whatever would have stood after
asked_no_more : (T U : Type 0) (part : List Address → List Address) (more whole : List Address) (e : LoadStop)
    (asked : List Address) → part more ≡ whole → IsAskedFirst {T = T} part (Err e) asked
    → IsAsked {T = U} whole (Err e) asked
asked_no_more T U part more whole (load.Fault f) asked all is = is more ∙ all
asked_no_more T U part more whole load.PowerLost asked all is =
    subst (λ (l : List Address). IsFront l asked) all (is more)
asked_no_more T U part more whole load.Device asked all is = subst (λ (l : List Address). IsFront l asked) all (is more)
asked_no_more T U part more whole load.Memory asked all is = subst (λ (l : List Address). IsFront l asked) all (is more)

pub asks_no_more : {T : Type 0} {before after : List Made → Type 0} {tells : Bool} {part : List Address → List Address}
    {e : LoadStop} → AsksFirst {T = T} before after tells part (Err e) → {U : Type 0} (r : Result U LoadStop)
    → IsErrAnd r (λ y. y ≡ e) → (more whole : List Address) → (tells ≡ true → part more ≡ whole)
    → MakesReads before after (λ sectors. tells ≡ true → IsAsked whole r sectors)
asks_no_more {T = T} {part = part} {e = e} asks {U = U} r is more whole all =
    let p = err_from_is_err_and r is in
    rw (p.1, p.2) (record {
      sectors = asks.sectors;
      made = asks.made;
      are = λ told. asked_no_more T U part more whole e asks.sectors (all told) (asks.are told);
    })

-- what stands after a part was asked for, and nothing more
asked_behind : {T : Type 0} (front asked rest whole : List Address) (result : Result T LoadStop) → front ++ rest ≡ whole
    → IsAsked rest result asked → IsAsked whole result (front ++ asked)
asked_behind front asked rest whole (Ok x) all is = ap (λ l. front ++ l) is ∙ all
asked_behind front asked rest whole (Err (load.Fault f)) all is = ap (λ l. front ++ l) is ∙ all
asked_behind front asked rest whole (Err load.PowerLost) all is =
    record { rest = is.rest; cut = sym all ∙ ap (λ l. front ++ l) is.cut ∙ sym (append_assoc front asked is.rest) }
asked_behind front asked rest whole (Err load.Device) all is =
    record { rest = is.rest; cut = sym all ∙ ap (λ l. front ++ l) is.cut ∙ sym (append_assoc front asked is.rest) }
asked_behind front asked rest whole (Err load.Memory) all is =
    record { rest = is.rest; cut = sym all ∙ ap (λ l. front ++ l) is.cut ∙ sym (append_assoc front asked is.rest) }

pub asks_last : {T U : Type 0} {before between after : List Made → Type 0} {tells : Bool}
    {part : List Address → List Address} {x : U} → AsksFirst before between tells part (Ok x)
    → (rest whole : List Address) (result : Result T LoadStop)
    → MakesReads between after (λ sectors. tells ≡ true → IsAsked rest result sectors)
    → (tells ≡ true → part rest ≡ whole)
    → MakesReads before after (λ sectors. tells ≡ true → IsAsked whole result sectors)
asks_last {before = before} {between = between} {after = after} first rest whole result last all = record {
  sectors = first.sectors ++ last.sectors;
  made = reads_in_turn before between after first.sectors last.sectors first.made last.made;
  are = λ told. asked_behind first.sectors last.sectors rest whole result (sym (first.are told rest) ∙ all told)
      (last.are told);
}
