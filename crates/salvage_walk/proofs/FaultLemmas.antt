-- Why a segment fails after other uses.
use Rattle.std.proofs.Common.{◌≡◌, ℕ, suc, ◌+◌, ◌-◌, ◌*◌, ◌<◌, ◌≤◌, Bool, cond, true, false, Option, None, Some, Ok, Err, List, [], ◌∷◌, ◌++◌, length, take, drop, refl, sym, ap, subst, ◌∙◌, arith}
use Rattle.std.specs.Prelude.{◌==◌, ◌||◌, ◌&&◌, find, is_some, nat_lt}
use Rattle.std.specs.Option.{IfSome}
use Rattle.std.specs.Ordering.{nat_cmp}
use Rattle.std.specs.BTreeMap.{get}
use Rattle.std.proofs.lemmas.List.{length-take-le}
use Rattle.std.proofs.lemmas.List.Folds.{list_any-append}
use Rattle.std.proofs.lemmas.Bool.Decides.{nat_tests}
use Rattle.nt_bytes.specs.declared.fault.HiveFault.{HiveFault}
use Rattle.nt_bytes.specs.declared.fault.HiveFaultKind.{HiveFaultKind}
use Rattle.nt_bytes.specs.declared.fault.HiveFaultKind.TheVariants.{FormShort, Shared}
use Rattle.hive_model.specs.Forms.{bytes_in}
use Rattle.nt_bytes.specs.Fields.{u32_in}
use Rattle.hive_model.specs.Lists.{numbers_in}
use Rattle.hive_model.specs.Size.{segment_bytes, segment_part}
use Rattle.salvage_bins.specs.Ground.{Ground}
use Rattle.salvage_walk.specs.declared.claims.Claim.{Claim}
use Rattle.salvage_walk.specs.Uses.{admitted, claimed, lies_in, claim_of, overlaps}
use Rattle.salvage_walk.specs.Parts.{part}
use Rattle.salvage_walk.specs.Values.{bytes_part}
use Rattle.salvage_walk.specs.Segments.{segments_used}
use Rattle.salvage_walk.specs.Clear.{Stand}
use Rattle.salvage_walk.specs.declared.lists.Lists.{Lists}
use Rattle.salvage_walk.specs.Remembered.{AreClearBelow, Remembers}
use Rattle.salvage_walk.proofs.SegmentLemmas.{numbers-length, used-off}
use Rattle.salvage_walk.proofs.ClearLemmas.{front-stands, numbers-front, numbers-split, stand-used}

abbrev fault : HiveFaultKind → ℕ → HiveFault
fault kind at = record { kind = kind; at = at }

-- ---- by its cell, by a use, by its length and by its bytes

pub fails-absent : (n : ℕ) (hive : Ground) (uses : List Claim) (at : ℕ) (kind : HiveFaultKind)
    → hive.cells.payload at ≡ Err kind → bytes_part n hive uses at ≡ Err (fault kind at)
unfolding bytes_part part admitted
fails-absent n hive uses at kind e = rw e refl

fails-at : (n : ℕ) (hive : Ground) (uses : List Claim) (at : ℕ) (p : List ℕ) (c : Claim)
    → hive.cells.payload at ≡ Ok p → claim_of at uses ≡ Some c → bytes_part n hive uses at ≡ Err (fault Shared at)
unfolding bytes_part part admitted
fails-at n hive uses at p c e d = rw (e, d) refl

pub fails-used : (n : ℕ) (hive : Ground) (uses : List Claim) (at : ℕ) (p : List ℕ)
    → hive.cells.payload at ≡ Ok p → is_some (claim_of at uses) ≡ true → bytes_part n hive uses at ≡ Err (fault Shared at)
fails-used n hive uses at p e t = go (claim_of at uses) refl t
  where
    go : (o : Option Claim) → claim_of at uses ≡ o → is_some o ≡ true → bytes_part n hive uses at ≡ Err (fault Shared at)
    go None d t = absurd cc
    go (Some c) d t = fails-at n hive uses at p c e d

short-at : (n : ℕ) (hive : Ground) (uses : List Claim) (at : ℕ) (p : List ℕ) → hive.cells.payload at ≡ Ok p
    → claim_of at uses ≡ None → nat_lt (length p) n ≡ true → bytes_part n hive uses at ≡ Err (fault FormShort at)
unfolding bytes_part part admitted bytes_in
short-at n hive uses at p e d l = rw (e, d, l) refl

pub fails-short : (n : ℕ) (hive : Ground) (uses : List Claim) (at : ℕ) (p : List ℕ) → hive.cells.payload at ≡ Ok p
    → is_some (claim_of at uses) ≡ false → length p < n → bytes_part n hive uses at ≡ Err (fault FormShort at)
fails-short n hive uses at p e t l = go (claim_of at uses) refl t
  where
    go : (o : Option Claim) → claim_of at uses ≡ o → is_some o ≡ false → bytes_part n hive uses at ≡ Err (fault FormShort at)
    go (Some c) d t = absurd cc
    go None d t = short-at n hive uses at p e d (grind (arith, nat_tests, l))

lies-at : (n : ℕ) (hive : Ground) (uses : List Claim) (at : ℕ) (p : List ℕ) → hive.cells.payload at ≡ Ok p
    → claim_of at uses ≡ None → nat_lt (length p) n ≡ false → length (take n p) ≡ n
    → (hive.loose at && overlaps at (at + (4 + n)) uses) ≡ true → bytes_part n hive uses at ≡ Err (fault Shared at)
unfolding bytes_part part admitted bytes_in claimed
lies-at n hive uses at p e d l k o = rw (e, d, l, k, o) refl

pub fails-shared : (n : ℕ) (hive : Ground) (uses : List Claim) (at : ℕ) (p : List ℕ) → hive.cells.payload at ≡ Ok p
    → n ≤ length p → (hive.loose at && overlaps at (at + (4 + n)) uses) ≡ true
    → bytes_part n hive uses at ≡ Err (fault Shared at)
fails-shared n hive uses at p e l o = go (claim_of at uses) refl
  where
    go : (u : Option Claim) → claim_of at uses ≡ u → bytes_part n hive uses at ≡ Err (fault Shared at)
    go (Some c) d = fails-at n hive uses at p c e d
    go None d = lies-at n hive uses at p e d (grind (arith, nat_tests, l)) (length-take-le n p l) o

-- ---- after uses and others

found-among : (p : Claim → Bool) (xs ys : List Claim)
    → is_some (find p (xs ++ ys)) ≡ (is_some (find p xs) || is_some (find p ys))
found-among p [] ys = refl
found-among p (x ∷ xs) ys = go (p x) (found-among p xs ys)
  where
    go : (b : Bool) → is_some (find p (xs ++ ys)) ≡ (is_some (find p xs) || is_some (find p ys))
        → is_some (cond b (Some x) (find p (xs ++ ys)))
        ≡ (is_some (cond b (Some x) (find p xs)) || is_some (find p ys))
    go true e = refl
    go false e = e

pub used-among : (at : ℕ) (xs ys : List Claim)
    → is_some (claim_of at (xs ++ ys)) ≡ (is_some (claim_of at xs) || is_some (claim_of at ys))
used-among at xs ys = found-among (λ (c : Claim). c.at == at) xs ys

pub lies-among : (l : Bool) (at end : ℕ) (xs ys : List Claim)
    → (l && overlaps at end (xs ++ ys)) ≡ ((l && overlaps at end xs) || (l && overlaps at end ys))
lies-among false at end xs ys = refl
lies-among true at end xs ys = list_any-append (lies_in at end) xs ys

or-left : (a b : Bool) → a ≡ true → (a || b) ≡ true
or-left a b e = rw e refl

pub used-before : (at : ℕ) (xs ys : List Claim) → is_some (claim_of at xs) ≡ true → is_some (claim_of at (xs ++ ys)) ≡ true
used-before at xs ys e = used-among at xs ys ∙ or-left (is_some (claim_of at xs)) (is_some (claim_of at ys)) e

pub lies-before : (l : Bool) (at end : ℕ) (xs ys : List Claim) → (l && overlaps at end xs) ≡ true
    → (l && overlaps at end (xs ++ ys)) ≡ true
lies-before l at end xs ys e = lies-among l at end xs ys ∙ or-left (l && overlaps at end xs) (l && overlaps at end ys) e

-- ---- of a list that is remembered

-- the first segment that fails is the one of a number, where those before it are clear of the uses
pub known-fails : (hive : Ground) (uses list : List Claim) (size count number entry : ℕ) (payload : List ℕ) (f : HiveFault)
    → Stand hive [] (numbers_in 4 (length list) payload) list → AreClearBelow uses list number
    → number ≤ length list → number < count → segment_bytes * number ≤ size
    → entry ≡ u32_in (drop (4 * number) payload) 0
    → bytes_part (segment_part (size - segment_bytes * number)) hive (uses ++ take number list) entry ≡ Err f
    → segments_used hive size (numbers_in 4 count payload) uses ≡ Err f
known-fails hive uses list size count number entry payload f stand clear few below full at e =
    let os = numbers_in 4 number payload in
    let more = numbers_in 4 (count - number - 1) (drop 4 (drop (4 * number) payload)) in
    let k : number + suc (count - number - 1) ≡ count = omega (arith, below) in
    let split : numbers_in 4 count payload ≡ os ++ entry ∷ more
    = ap (λ n. numbers_in 4 n payload) (sym k) ∙ numbers-split number (suc (count - number - 1)) payload
    ∙ ap (λ n. os ++ n ∷ more) (sym at) in
    let front : Stand hive uses os (take number list)
    = subst (λ (xs : List ℕ). Stand hive uses xs (take number list)) (numbers-front number (length list) payload few)
    (front-stands hive uses (numbers_in 4 (length list) payload) list number clear stand) in
    let long : length os ≡ number = numbers-length 4 number payload in
    let fits : segment_bytes * length os ≤ size = omega (arith, full, long) in
    ap (λ (xs : List ℕ). segments_used hive size xs uses) split
    ∙ stand-used hive uses os (take number list) size (entry ∷ more) front fits
    ∙ ap (λ n. segments_used hive (size - segment_bytes * n) (entry ∷ more) (uses ++ take number list)) long
    ∙ used-off hive (size - segment_bytes * number) entry (entry ∷ more) more (uses ++ take number list) f refl e

pub known-at : (hive : Ground) (uses : List Claim) (l : Lists) (list : List Claim) (size count at number entry least bound : ℕ)
    (payload : List ℕ) → Remembers hive uses l → at < 4294967296 → hive.cells.payload at ≡ Ok payload
    → get nat_cmp l.lists at ≡ Some list → get nat_cmp l.least at ≡ Some least
    → (AreClearBelow (take l.seen uses) list bound → AreClearBelow uses list number) → bound ≤ least
    → number ≤ length list → number < count → segment_bytes * number ≤ size
    → entry ≡ u32_in (drop (4 * number) payload) 0
    → (f : HiveFault) → bytes_part (segment_part (size - segment_bytes * number)) hive (uses ++ take number list) entry ≡ Err f
    → segments_used hive size (numbers_in 4 count payload) uses ≡ Err f
known-at hive uses l list size count at number entry least bound payload r small there known low clear few inside below full is f e =
    known-fails hive uses list size count number entry payload f (r.known at list known payload there)
    (clear (λ i s b d. r.follows.watched.clear at list least small known low i s (omega (arith, b, few)) d)) inside below full is e

pub some-on : (o : Option HiveFault) {P Q : HiveFault → Type 0} → IfSome o P → ((f : HiveFault) → P f → Q f) → IfSome o Q
some-on None h k = tt
some-on (Some f) h k = k f h

pub ruleset among = (used-among, lies-among)
