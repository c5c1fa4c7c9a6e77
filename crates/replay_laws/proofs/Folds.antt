-- What entries leave of a hive.
use Rattle.std.proofs.Common.{◌≡◌, ◌<◌, ◌≤◌, ◌+◌, ◌-◌, ◌*◌, ◌^◌, ◌&&◌, ℕ, zero, suc, true, List, [], ◌∷◌, length, drop, get_or, replicate, refl, sym, ◌∙◌, ap, subst, arith, length-append, length-take}
use Rattle.std.specs.Prelude.{nat_le}
use Rattle.std.proofs.lemmas.Bool.{and_parts}
use Rattle.std.proofs.lemmas.List.{get_or_append_left, length-replicate}
use Rattle.nt_bytes.specs.Fields.{u32_in}
use Rattle.windows_logs.specs.log_parts.Filled.{filled}
use Rattle.windows_logs.specs.log_parts.Pages.{Page, put_at, put_pages}
use Rattle.windows_logs.specs.log_parts.Wide.{is_wide_size}
use Rattle.windows_logs.proofs.Puts.{put_long}
use Rattle.windows_logs.specs.declared.entry_log.entry.Entry.{Entry}
use Rattle.windows_logs.specs.entry_log.Entries.{bytes_of, is_page, are_pages, pages_from, pages_of, IsWhole}
use Rattle.windows_logs.proofs.Steps.{page_fits, known}
use Rattle.log_replay.specs.declared.entries.HiveNow.{HiveNow}
use Rattle.log_replay.specs.declared.reading.GivenLog.{GivenLog}
use Rattle.log_replay.specs.Entries.{Chosen, roomy, with_entry}
use Rattle.log_replay.specs.Reading.{AreWholeLogs}
use Rattle.log_replay.proofs.Wholes.{chosen_whole}
use Rattle.replay_laws.specs.Applied.{IsFoldOf}
use Rattle.replay_laws.specs.Outside.{AreWithin, IsOutside}
use Rattle.replay_laws.specs.Results.{IsOutsideAll}
use Rattle.replay_laws.proofs.Hives.{filled_long}
use Rattle.replay_laws.proofs.Writing.{left}

-- ---- pages

pub within_more : (pages : List Page) (n m : ℕ) → n ≤ m → AreWithin n pages → AreWithin m pages
within_more [] n m more within = tt
within_more (page ∷ pages) n m more within = (omega (arith, more, within.0), within_more pages n m more within.1)

pages_within : (bytes : List ℕ) (size field start n : ℕ) → are_pages bytes size field start n ≡ true
    → AreWithin (4096 + size) (pages_from bytes field start n)
unfolding are_pages pages_from
pages_within bytes size field start zero are = tt
pages_within bytes size field start (suc n) are =
    let place = u32_in bytes field in
    let long = u32_in bytes (field + 4) in
    let parts = and_parts (is_page bytes size start place long) (are_pages bytes size (field + 8) (start + long) n)
    are in
    let fits = page_fits bytes size start place long parts.0 in (
      omega (arith, fits.inside, length-take (start + long - start) (drop start bytes)),
      pages_within bytes size (field + 8) (start + long) n parts.1,
    )

pub entry_within : (log : List ℕ) (entry : Entry) → IsWhole log entry
    → AreWithin (4096 + entry.size) (pages_of log entry)
entry_within log entry whole = pages_within (bytes_of log entry) entry.size 40 (40 + 8 * entry.count) entry.count
    (known log entry whole).pages

entry_sized : (log : List ℕ) (entry : Entry) → IsWhole log entry → is_wide_size entry.size ≡ true
entry_sized log entry whole =
    let parts = and_parts (is_wide_size entry.size && nat_le (40 + 8 * entry.count) (length (bytes_of log entry))) _
    whole.paged in
    (and_parts (is_wide_size entry.size) _ parts.0).0

pub pages_long : (pages : List Page) (file : List ℕ) → AreWithin (length file) pages
    → length (put_pages file pages) ≡ length file
pages_long [] file within = refl
pages_long (page ∷ pages) file within =
    let next : List ℕ = put_at file (4096 + page.place) page.bytes in
    let same : length next ≡ length file = put_long file (4096 + page.place) page.bytes within.0 in
    pages_long pages next (subst (λ n. AreWithin n pages) (sym same) within.1) ∙ same

-- ---- room

pub roomy_long : (file : List ℕ) (size : ℕ) → 4096 + size ≤ length (roomy file size)
roomy_long file size =
    let pad = 4096 + size - length (filled file) in
    omega (arith, length-append (filled file) (replicate pad 0), length-replicate {A = ℕ} pad 0)

pub roomy_more : (file : List ℕ) (size : ℕ) → length file ≤ length (roomy file size)
roomy_more file size =
    omega (arith, filled_long file, length-append (filled file) (replicate (4096 + size - length (filled file)) 0))

pub filled_at : (file : List ℕ) (q d : ℕ) → q < length file → get_or (filled file) q d ≡ get_or file q d
unfolding filled
filled_at file q d below = get_or_append_left file _ d q below

pub roomy_at : (file : List ℕ) (size q d : ℕ) → q < length file → get_or (roomy file size) q d ≡ get_or file q d
roomy_at file size q d below =
    get_or_append_left (filled file) (replicate (4096 + size - length (filled file)) 0) d q
    (omega (arith, filled_long file, below))
    ∙ filled_at file q d below

-- ---- one entry

pub record Holds (hive : HiveNow) : Type 0 where
  pub room : 4096 + hive.size ≤ length hive.file
  pub sized : is_wide_size hive.size ≡ true
  pub fits : hive.next < 2 ^ 32

module _ (hive : HiveNow) (c : Chosen) (whole : IsWhole c.log.bytes c.entry) where
  abbrev file : List ℕ
  file = roomy hive.file c.entry.size

  abbrev pages : List Page
  pages = pages_of c.log.bytes c.entry

  within : AreWithin (length file) pages
  within = within_more pages (4096 + c.entry.size) (length file) (roomy_long hive.file c.entry.size)
      (entry_within c.log.bytes c.entry whole)

  step_long : length (with_entry hive c).file ≡ length file
  step_long = pages_long pages file within

  step_more : length hive.file ≤ length (with_entry hive c).file
  step_more = omega (arith, step_long, roomy_more hive.file c.entry.size)

  step_holds : Holds (with_entry hive c)
  step_holds = record {
    room = omega (arith, step_long, roomy_long hive.file c.entry.size);
    sized = entry_sized c.log.bytes c.entry whole;
    fits = omega arith;
  }

  step_left : (q d : ℕ) → q < length hive.file → IsOutside q pages
      → get_or (with_entry hive c).file q d ≡ get_or hive.file q d
  step_left q d below out = left pages file q d within out ∙ roomy_at hive.file c.entry.size q d below

-- ---- all of them

module _ (logs : List GivenLog) (are : AreWholeLogs logs) where
  pub fold_holds : (cs : List Chosen) (old new : HiveNow) → IsFoldOf logs cs old new → Holds old → Holds new
  fold_holds [] old new is holds = subst Holds (sym is) holds
  fold_holds (c ∷ cs) old new is holds =
      fold_holds cs (with_entry old c) new is.1.1 (step_holds old c (chosen_whole logs old.next c are is.0))

  pub fold_left : (cs : List Chosen) (old new : HiveNow) (q d : ℕ) → IsFoldOf logs cs old new → q < length old.file
      → IsOutsideAll q cs
      → get_or new.file q d ≡ get_or old.file q d
  fold_left [] old new q d is below out = ap (λ (h : HiveNow). get_or h.file q d) is
  fold_left (c ∷ cs) old new q d is below out =
      let whole = chosen_whole logs old.next c are is.0 in
      fold_left cs (with_entry old c) new q d is.1.1 (omega (arith, step_more old c whole, below)) out.1
      ∙ step_left old c whole q d below out.0

  pub fold_count : (cs : List Chosen) (old new : HiveNow) → IsFoldOf logs cs old new
      → new.applied ≡ old.applied + length cs
  fold_count [] old new is = ap (λ (h : HiveNow). h.applied) is ∙ omega arith
  fold_count (c ∷ cs) old new is = omega (arith, fold_count cs (with_entry old c) new is.1.1)
