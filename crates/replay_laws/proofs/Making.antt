-- What a result is made of, and that it is read again as it was written.
use Rattle.std.proofs.Common.{◌≡◌, ◌<◌, ◌≤◌, ◌+◌, ◌*◌, ◌/◌, ◌^◌, ℕ, zero, suc, Bool, true, false, cond, map, Some, Result, Ok, List, [], ◌∷◌, length, take, drop, get_or, refl, sym, ◌∙◌, ap, subst, inl, inr, arith, length-take}
use Rattle.std.specs.Prelude.{IfOk}
use Rattle.std.proofs.lemmas.Bool.{eq-eqb, eqb-true}
use Rattle.nt_bytes.specs.declared.fault.HiveFault.{HiveFault}
use Rattle.hive_model.specs.Base.{Base, base_text}
use Rattle.hive_model.specs.Recovery.{sector, first_dirty}
use Rattle.regf_base.specs.Fitting.{NumbersFit, TextsFit}
use Rattle.windows_logs.specs.declared.log_parts.base.FileRole.TheVariants.{Hive, Log}
use Rattle.windows_logs.specs.log_parts.Filled.{filled}
use Rattle.windows_logs.specs.log_parts.Pages.{put_pages}
use Rattle.windows_logs.specs.dirt_log.Dirt.{bits_of, marked_pages, old_pages_of, IsLong}
use Rattle.log_replay.specs.declared.line.ReplayLine.{ReplayLine}
use Rattle.log_replay.specs.declared.line.ReplayLine.TheVariants.{Sequence}
use Rattle.log_replay.specs.declared.replaying.LogFile.{LogFile}
use Rattle.log_replay.specs.declared.replaying.Outcome.{Outcome}
use Rattle.log_replay.specs.Entries.{Chosen, most, roomy}
use Rattle.log_replay.specs.Old.{ChosenOld, chosen_old, with_old}
use Rattle.log_replay.specs.Replay.{after_old, begun, by_entries, dirty_of, given, hive_base_of, kept, outcome_of, replayed_as, replay_of, with_base}
use Rattle.log_replay.proofs.Wholes.{chosen_long, given_whole}
use Rattle.replay_laws.specs.Applied.{IsFoldOf}
use Rattle.replay_laws.specs.Outside.{AreWithin}
use Rattle.replay_laws.specs.Results.{AreBytes, AreByteFiles, IsByEntries, IsByOld, IsMade, stayed, IsAgain}
use Rattle.log_replay.specs.declared.line.ReplayLine.TheVariants as lines
use Rattle.replay_laws.proofs.Bases.{IsRead, read_is, text_long}
use Rattle.replay_laws.proofs.Bytes.{filled_bytes}
use Rattle.replay_laws.proofs.Ending.{Leaves, logs_of, now_of, outcome_is, replay_is, replay_of_hive}
use Rattle.replay_laws.proofs.Folding.{folded}
use Rattle.replay_laws.proofs.Folds.{Holds, within_more, pages_long, roomy_long, roomy_at, filled_at, fold_holds, fold_left, fold_count}
use Rattle.replay_laws.proofs.Hives.{IsHive, hive_is, numbers_fit, texts_fit, IsGood, read_again, filled_long}
use Rattle.replay_laws.proofs.Sources.{one_bytes, fold_from, IsOldFrom, old_from}
use Rattle.replay_laws.proofs.Writing.{elsewhere, left}

-- ---- the sectors of an old log

marked_within : (bits : ℕ → Bool) (log : List ℕ) (next i n : ℕ)
    → AreWithin (4096 + 512 * (i + n)) (marked_pages bits log next i n)
unfolding marked_pages sector
marked_within bits log next i zero = tt
marked_within bits log next i (suc n) =
    let rest : (from : ℕ) → AreWithin (4096 + 512 * (i + suc n)) (marked_pages bits log from (i + 1) n) =
    λ from. within_more (marked_pages bits log from (i + 1) n) (4096 + 512 * ((i + 1) + n)) (4096 + 512 * (i + suc n))
    (omega arith)
    (marked_within bits log from (i + 1) n) in
    here rest (bits i)
  where
    here : ((from : ℕ) → AreWithin (4096 + 512 * (i + suc n)) (marked_pages bits log from (i + 1) n)) → (b : Bool)
        → AreWithin (4096 + 512 * (i + suc n))
        (cond b (record { place = 512 * i; bytes = take 512 (drop (512 * next) log) }
        ∷ marked_pages bits log (next + 1) (i + 1) n) (marked_pages bits log next (i + 1) n))
    here rest true = (omega (arith, length-take 512 (drop (512 * next) log)), rest (next + 1))
    here rest false = rest next

pub old_within : (log : List ℕ) (size : ℕ) → AreWithin (4096 + size) (old_pages_of log size)
old_within log size =
    within_more (old_pages_of log size) (4096 + 512 * (0 + size / 512)) (4096 + size) (omega arith)
    (marked_within (bits_of log) log (first_dirty size) 0 (size / 512))

some_more : (n : ℕ) → (n ≡ 0 → ⊥) → 0 < n
some_more zero some = absurd (some refl)
some_more (suc n) some = omega arith

-- ---- a hive that is read

module _ (file : List ℕ) (hive : Base) (bytes : AreBytes file) (reads : hive_base_of (filled file) ≡ Ok hive) where
  is : IsHive (filled file) hive
  is = hive_is (filled file) hive reads

  numbers : NumbersFit hive
  numbers = numbers_fit (filled file) Hive hive (filled_bytes file bytes) is.read

  texts : TextsFit hive
  texts = texts_fit (filled file) Hive hive (filled_bytes file bytes) (omega (arith, is.room)) is.read

  pub second_fits : hive.second < 2 ^ 32
  second_fits = numbers.second_fits

  begun_holds : Holds (begun (filled file) hive)
  begun_holds = record { room = is.room; sized = is.read.size_is; fits = numbers.second_fits }

  module _ (files : List LogFile) (are : AreByteFiles files) where
    now_fold : (entries : List Chosen) × IsFoldOf (logs_of file files hive) entries (begun (filled file) hive)
        (now_of file files hive)
    now_fold = folded most (logs_of file files hive) (begun (filled file) hive)

    now_holds : Holds (now_of file files hive)
    now_holds =
        fold_holds (logs_of file files hive) (given_whole hive (length (filled file)) files) now_fold.0
        (begun (filled file) hive)
        (now_of file files hive) now_fold.1 begun_holds

    -- ---- after entries

    abbrev next_base : Base
    next_base =
        record hive {
          first = (now_of file files hive).next;
          second = (now_of file files hive).next;
          size =
              (now_of file files hive).size;
        }

    next_good : IsGood next_base
    next_good = record {
      numbers = record {
        first_fits = now_holds.fits;
        second_fits = now_holds.fits;
        stamp_fits = numbers.stamp_fits;
        root_fits = numbers.root_fits;
        cluster_fits = numbers.cluster_fits;
      };
      texts = record {
        name_long = texts.name_long;
        name_bytes = texts.name_bytes;
        rest_long = texts.rest_long;
        rest_bytes = texts.rest_bytes;
      };
      kind_is = eqb-true hive.kind 0 is.read.kind_is;
      minor_is = is.read.minor_is;
      size_is = now_holds.sized;
    }

    next_long : length (base_text next_base) ≡ 512
    next_long = text_long next_base next_good.numbers next_good.texts

    made_entries : (said : List ReplayLine) → ((now_of file files hive).applied ≡ 0 → ⊥)
        → IsByEntries file files hive (by_entries hive said (now_of file files hive))
    made_entries said some =
        let now = now_of file files hive in
        let logs = logs_of file files hive in
        let whole = given_whole hive (length (filled file)) files in
        let count : now.applied ≡ 0 + length now_fold.0 = fold_count logs whole now_fold.0 (begun (filled file) hive)
        now now_fold.1 in
        record {
          entries = now_fold.0;
          now = now;
          folded = now_fold.1;
          from = fold_from files hive (length (filled file)) now_fold.0 (begun (filled file) hive) now are
              numbers.second_fits now_fold.1;
          some = some_more (length now_fold.0) (λ e. some (omega (arith, count, e)));
          file_is = refl;
          first_is = refl;
          second_is = refl;
          left = λ q d low below out.
              elsewhere now.file (base_text next_base) 0 (omega (arith, next_long, now_holds.room)) q d
              (inr (omega (arith, next_long, low)))
              ∙ fold_left logs whole now_fold.0 (begun (filled file) hive) now q d now_fold.1
              (omega (arith, below, filled_long file)) out
              ∙ filled_at file q d below;
        }

    -- ---- after an old log

    module _ (c : ChosenOld) (from : IsOldFrom files hive (length (filled file)) c)
        (needs : IsLong c.log.bytes c.whole.base.size) where
      abbrev log : List ℕ
      log = filled from.log.bytes

      abbrev size : ℕ
      size = c.whole.base.size

      abbrev old_base : Base
      old_base = record c.whole.base { first = hive.first; second = hive.first; kind = 0 }

      old_read : IsRead (take 512 log) Log c.whole.base
      old_read = read_is (take 512 log) Log c.whole.base from.base_is

      log_bytes : AreBytes log
      log_bytes = filled_bytes from.log.bytes (one_bytes from.log files from.listed are)

      log_long : 512 ≤ length log
      log_long = omega (arith, needs.front, ap (λ (l : List ℕ). length l) from.bytes_are)

      old_numbers : NumbersFit c.whole.base
      old_numbers = numbers_fit log Log c.whole.base log_bytes old_read

      old_texts : TextsFit c.whole.base
      old_texts = texts_fit log Log c.whole.base log_bytes log_long old_read

      pub old_good : IsGood old_base
      old_good = record {
        numbers = record {
          first_fits = numbers.first_fits;
          second_fits = numbers.first_fits;
          stamp_fits = old_numbers.stamp_fits;
          root_fits = old_numbers.root_fits;
          cluster_fits = old_numbers.cluster_fits;
        };
        texts = record {
          name_long = old_texts.name_long;
          name_bytes = old_texts.name_bytes;
          rest_long = old_texts.rest_long;
          rest_bytes = old_texts.rest_bytes;
        };
        kind_is = refl;
        minor_is = old_read.minor_is;
        size_is = old_read.size_is;
      }

      abbrev old_file : List ℕ
      old_file = put_pages (roomy (filled file) size) (old_pages_of log size)

      old_inside : AreWithin (length (roomy (filled file) size)) (old_pages_of log size)
      old_inside =
          within_more (old_pages_of log size) (4096 + size) (length (roomy (filled file) size))
          (roomy_long (filled file) size)
          (old_within log size)

      old_room : 4096 + size ≤ length old_file
      old_room = omega (
        arith,
        pages_long (old_pages_of log size) (roomy (filled file) size) old_inside,
        roomy_long
            (filled file) size,
      )

      file_same : with_old (filled file) c ≡ old_file
      file_same = ap (λ (l : List ℕ). put_pages (roomy (filled file) size) (old_pages_of l size)) from.bytes_are

      made_old : (said : List ReplayLine) → (now_of file files hive).applied ≡ 0
          → IsByOld file files hive (after_old (filled file) hive said c)
      made_old said none = record {
        log = from.log;
        listed = from.listed;
        base = c.whole.base;
        number = from.number;
        sectors = from.sectors;
        base_is = from.base_is;
        whole = from.whole;
        none = none;
        file_is = ap (λ (l : List ℕ). with_base l old_base) file_same;
        first_is = refl;
        second_is = refl;
        left = λ q d low below out.
            let long : length (base_text old_base) ≡ 512 = text_long old_base old_good.numbers old_good.texts in
            ap (λ (l : List ℕ). get_or (with_base l old_base) q d) file_same
            ∙ elsewhere old_file (base_text old_base) 0 (omega (arith, long, old_room)) q d
            (inr (omega (arith, long, low)))
            ∙ left (old_pages_of log size) (roomy (filled file) size) q d old_inside out
            ∙ roomy_at (filled file) size q d (omega (arith, below, filled_long file))
            ∙ filled_at file q d below;
      }

      pub old_again : (said : List ReplayLine)
          → hive_base_of (filled (after_old (filled file) hive said c).file) ≡ Ok old_base
      old_again said =
          ap (λ (l : List ℕ). hive_base_of (filled (with_base l old_base))) file_same
          ∙ read_again old_file old_base old_good old_room

    pub old_source : (c : ChosenOld) → chosen_old (logs_of file files hive) hive.first ≡ Some c
        → IsOldFrom files hive (length (filled file)) c × IsLong c.log.bytes c.whole.base.size
    old_source c e = (
      old_from files hive (length (filled file)) hive.first c e,
      chosen_long (logs_of file files hive) hive.first c (given_whole hive (length (filled file)) files) e,
    )

    -- ---- the result

    pub hive_made : IsMade file files hive (outcome_of file hive files)
    hive_made =
        outcome_is file files hive (IsMade file files hive)
        (λ said. inl (record { file_is = refl; first_is = refl; second_is = refl }))
        (λ said some. inr (inl (made_entries said some)))
        (λ said c none e. let source = old_source c e in inr (inr (made_old c source.0 source.1 said none)))

    -- a clean result is read again
    abbrev IsReadAgain : Outcome → Type 0
    IsReadAgain o = o.first ≡ o.second
        → (base : Base) × (hive_base_of (filled o.file) ≡ Ok base) × (base.first ≡ o.first) × (base.second ≡ o.second)

    hive_again : IsReadAgain (outcome_of file hive files)
    hive_again =
        outcome_is file files hive IsReadAgain
        (λ said e. (hive, reads, refl, refl))
        (λ said some e. (
          next_base,
          read_again (now_of file files hive).file next_base next_good now_holds.room,
          refl,
          refl,
        ))
        (λ said c none e h.
        let source = old_source c e in (
          record c.whole.base { first = hive.first; second = hive.first; kind = 0 },
          old_again c source.0 source.1 said,
          refl,
          refl,
        ))

-- ---- a second replay

-- a clean hive, as any logs leave it
clean_again : (g : List ℕ) (base : Base) (files : List LogFile) → hive_base_of (filled g) ≡ Ok base
    → base.first ≡ base.second
    → replay_of g files ≡ Ok (kept g base (Sequence base.first base.second false ∷ []))
unfolding replay_of
clean_again g base files reads even =
    ap (replayed_as g files) reads
    ∙ ap (λ t. Ok (cond t (kept g base (Sequence base.first base.second false ∷ []))
    (dirty_of g base (map (given base (length (filled g))) files)))) (eq-eqb base.first base.second even)

pub no_log_read : (file : List ℕ) (files others : List LogFile) (hive : Base) → hive_base_of (filled file) ≡ Ok hive
    → hive.first ≡ hive.second → replay_of file files ≡ replay_of file others
no_log_read file files others hive reads even =
    clean_again file hive files reads even ∙ sym (clean_again file hive others reads even)

stayed_as : (o : Outcome) (base : Base) → base.first ≡ o.first → base.second ≡ o.second
    → kept o.file base (Sequence base.first base.second false ∷ []) ≡ stayed o
stayed_as o base first second = λ i. record {
  file = o.file;
  first = first i;
  second = second i;
  lines = Sequence (first i) (second i) false ∷ lines.Replayed 0 (first i) (second i) ∷ [];
}

pub replay_stays : (file : List ℕ) (files others : List LogFile) → AreBytes file → AreByteFiles files
    → IfOk (replay_of file files) (λ o. o.first ≡ o.second → replay_of o.file others ≡ Ok (stayed o))
replay_stays file files others bytes are =
    replay_is file files (λ o. o.first ≡ o.second → replay_of o.file others ≡ Ok (stayed o))
    (λ hive reads even.
    let o = outcome_of file hive files in
    let again = hive_again file hive bytes reads files are even in
    clean_again o.file again.0 others again.1 (again.2 ∙ even ∙ sym again.3)
    ∙ ap (λ (x : Outcome). Ok x) (stayed_as o again.0 again.2 again.3))

answered : (file : List ℕ) (files : List LogFile) (hive : Base) → hive_base_of (filled file) ≡ Ok hive
    → replay_of file files ≡ Ok (outcome_of file hive files)
unfolding replay_of
answered file files hive reads = ap (replayed_as file files) reads

again_as : (o p : Outcome) (r : Result Outcome HiveFault) → r ≡ Ok p → p.file ≡ o.file → p.first ≡ o.first
    → p.second ≡ o.second → IsAgain o r
again_as o p r is file first second = subst (IsAgain o) (sym is) (file, (first, second))

pub replay_again : (file : List ℕ) (files : List LogFile) → AreBytes file → AreByteFiles files
    → IfOk (replay_of file files) (λ o. IsAgain o (replay_of o.file files))
replay_again file files bytes are =
    replay_is file files (λ o. IsAgain o (replay_of o.file files))
    (λ hive reads. here hive reads (outcome_is file files hive (Leaves file hive) (λ said. inl (refl, (refl, refl)))
    (λ said some. inr refl)
    (λ said c none is. inr refl)))
  where
    here : (hive : Base) → hive_base_of (filled file) ≡ Ok hive → Leaves file hive (outcome_of file hive files)
        → IsAgain (outcome_of file hive files) (replay_of (outcome_of file hive files).file files)
    here hive reads (inl same) =
        again_as (outcome_of file hive files) (outcome_of file hive files)
        (replay_of (outcome_of file hive files).file files)
        (ap (λ (l : List ℕ). replay_of l files) same.0 ∙ answered file files hive reads) refl refl refl
    here hive reads (inr even) =
        let o = outcome_of file hive files in
        let again = hive_again file hive bytes reads files are even in
        again_as o (stayed o) (replay_of o.file files)
        (clean_again o.file again.0 files again.1 (again.2 ∙ even ∙ sym again.3)
        ∙ ap (λ (x : Outcome). Ok x) (stayed_as o again.0 again.2 again.3)) refl refl refl

pub replay_made : (file : List ℕ) (files : List LogFile) (hive : Base) → AreBytes file → AreByteFiles files
    → hive_base_of (filled file) ≡ Ok hive
    → IfOk (replay_of file files) (IsMade file files hive)
replay_made file files hive bytes are reads =
    replay_of_hive file files hive (IsMade file files hive) reads (hive_made file hive bytes reads files are)
