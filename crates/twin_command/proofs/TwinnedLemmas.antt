-- What `twin` leaves: the lines, the files that are saved, and the disk.
use Rattle.std.proofs.Common.{◌≡◌, ◌≤◌, ◌++◌, inl, inr, ℕ, false, List, Option, Result, Ok, Err, refl, sym, ap, subst, ◌∙◌, arith}
use Rattle.std.specs.Prelude.{IfOk, OnErr}
use Rattle.nt_bytes.specs.declared.fault.HiveFault.{HiveFault}
use Rattle.hive_model.specs.Image.{Image, IsCrashImage}
use Rattle.hive_model.specs.Recovery.{Recovered}
use Rattle.hive_model.specs.Tree.{Tree}
use Rattle.nt_edge.specs.Bench.{woken}
use Rattle.nt_edge.specs.Disk.{DiskState, new_state}
use Rattle.nt_edge.specs.Host.{HostState, KeepsFiles, AsksNone}
use Rattle.nt_edge.specs.declared.host.HostStop.{HostStop}
use Rattle.nt_edge.specs.declared.host.HostStop.TheVariants.{Read, Write, Memory}
use Rattle.nt_edge.proofs.Images.{still_crash}
use Rattle.hive_alt.specs.Schemes.{Standing, StandFault}
use Rattle.command_parts.specs.declared.command_parts.inputs.HiveFiles.{HiveFiles}
use Rattle.command_parts.specs.declared.command_parts.refusal.Refusal.{Refusal}
use Rattle.command_parts.specs.declared.command_parts.refusal.Refusal.TheVariants as refusals
use Rattle.command_parts.specs.declared.command_parts.refusal.Obstacle.TheVariants.{Stopped}
use Rattle.command_parts.specs.declared.command_parts.status.Status.{Status}
use Rattle.command_parts.specs.declared.command_parts.status.Status.TheVariants as statuses
use Rattle.command_parts.specs.command_parts.Decides.{Decides, DecidesAlone}
use Rattle.command_parts.specs.command_parts.Leaves.{Leaves, Looks, more, stopped_as, IsPartDone}
use Rattle.command_parts.specs.command_parts.Placed.{image_in, placed_disk, IsUnrun}
use Rattle.command_parts.specs.command_parts.Refusals.{Ends, IsToldAs, refusal, refusal_text}
use Rattle.command_parts.specs.command_parts.Saves.{Saves, saved_count, Settles, FinishesAs}
use Rattle.command_parts.proofs.DecideLemmas.{memory_decides, refusal_decides, stopped_decides, told_unused, told_unread, refused_unread, unrun}
use Rattle.command_parts.proofs.LeaveLemmas.{no_front}
use Rattle.command_parts.proofs.SaveLemmas.{count_few, done_with, more_few, tells-first, untouched_told, was_said}
use Rattle.twin_command.specs.Awake.{IsAwake, ToldOf}
use Rattle.twin_command.specs.declared.report.Told.{Told}
use Rattle.report_text.specs.declared.line_text.form.ReportForm.{ReportForm}
use Rattle.twin_command.specs.Told.{told_in, told_of}
use Rattle.twin_command.specs.Twinned.{SomeFound, IsTwinned, TwinnedAs, EndsTwinned, EndsFiles, EndsTwin}

-- ---- the disk

-- it woke up with what was placed
abbrev pub awake_disk : HiveFiles → DiskState
awake_disk files = woken (image_in files) (placed_disk files)

pub woke : (files : HiveFiles) (before after : DiskState) → before ≡ placed_disk files → (image : Image)
    → IsCrashImage before.held before.flight image → after ≡ woken image before → after ≡ awake_disk files
woke files before after is image crash woken_is =
    let P : DiskState → Type 0 = λ d. IsCrashImage d.held d.flight image in
    let same : image ≡ image_in files = still_crash (image_in files) image (subst P is crash) in
    woken_is ∙ ap (λ (i : Image). woken i before) same ∙ ap (woken (image_in files)) is

pub is_awake : (files : HiveFiles) (disk : DiskState) → disk ≡ awake_disk files → IsAwake disk
is_awake files disk is = (let P : DiskState → Type 0 = IsAwake in
    subst P (sym is) (record {
      on = refl;
      still = refl;
      unordered = refl;
      uncut = refl;
      no_cuts = refl;
      no_faults = refl;
    }))

pub some_awake : (stands : Standing) (files : HiveFiles) (disk : DiskState) → disk ≡ awake_disk files
    → SomeFound stands (image_in files) → SomeFound stands disk.held
some_awake stands files disk is some =
    (let P : DiskState → Type 0 = λ d. SomeFound stands d.held in subst P (sym is) some)

pub twinned_as : (stands : Standing) (files : HiveFiles) (number : Option ℕ) (told : Told) (before after : DiskState)
    → before ≡ awake_disk files → ToldOf stands number told before after → TwinnedAs stands files number told after
twinned_as stands files number told before after is t =
    let P : DiskState → Type 0 = λ d. ToldOf stands number told d after in
    let t = subst P is t in
    record {
      found = t.found;
      tree = t.tree;
      is_found = t.is_found;
      is_told = t.is_told;
      disk_is = record {
        stands_for = t.stands_for;
        placed = ap (λ h. h.placings) t.history;
        taken = ap (λ h. h.takings) t.history;
        unordered = ap (λ h. h.armings) t.history;
        uncut = ap (λ h. h.cut_calls) t.history;
        no_cuts = t.cuts;
        no_faults = t.faults;
      };
    }

pub twinned_ok : {E : Type 0} (stands : Standing) (files : HiveFiles) (number : Option ℕ) (before after : DiskState)
    → before ≡ awake_disk files → (t : Result Told E)
    → IfOk t (λ told. ToldOf stands number told before after)
    → IfOk t (λ told. TwinnedAs stands files number told after)
twinned_ok stands files number before after is (Ok told) t = twinned_as stands files number told before after is t
twinned_ok stands files number before after is (Err e) t = tt

pub part_by_history : (files : HiveFiles) (before after : DiskState) → before ≡ awake_disk files
    → after.history ≡ before.history → IsPartDone files 0 after
part_by_history files before after is same =
    let history : after.history ≡ (awake_disk files).history = same ∙ ap (λ (d : DiskState). d.history) is in
    record {
      placed = omega (arith, ap (λ h. h.placings) history);
      taken = omega (arith, ap (λ h. h.takings) history);
      unordered = ap (λ h. h.armings) history;
      uncut = ap (λ h. h.cut_calls) history;
    }

pub part_ok : {T E : Type 0} (files : HiveFiles) (before after : DiskState) → before ≡ awake_disk files
    → (t : Result T E) → OnErr t (after.history ≡ before.history) → OnErr t (IsPartDone files 0 after)
part_ok files before after is (Ok told) same = tt
part_ok files before after is (Err e) same = part_by_history files before after is same

pub part_placed : (files : HiveFiles) (disk : DiskState) → disk ≡ placed_disk files → IsPartDone files 0 disk
part_placed files disk is =
    (let P : DiskState → Type 0 = IsPartDone files 0 in
    subst P (sym is) (record { placed = omega arith; taken = omega arith; unordered = refl; uncut = refl }))

pub part_unrun : (files : HiveFiles) (disk : DiskState) → IsUnrun disk → IsPartDone files 0 disk
part_unrun files disk u = record {
  placed = omega (arith, u.few);
  taken = omega (arith, ap (λ (d : DiskState). d.history.takings) u.alone);
  unordered = ap (λ (d : DiskState). d.history.armings) u.alone;
  uncut = ap (λ (d : DiskState). d.history.cut_calls) u.alone;
}

module _ (stands : Standing) (files : HiveFiles) (number : Option ℕ) (found : Recovered) (tree : Tree) where
  takings_are : (n : ℕ) (mid after : DiskState) → n ≤ 2 → mid.history.takings ≡ 0 → Settles n mid after
      → after.history.takings ≡ n
  takings_are n mid after le none s = s.takings ∙ ap (more n) none ∙ more_few n le

  settled : (n : ℕ) (mid after : DiskState) → n ≤ 2 → IsTwinned stands files number found tree 0 mid
      → Settles n mid after → IsTwinned stands files number found tree n after
  settled n mid after le m s = record {
    stands_for = λ c left. m.stands_for c (s.left c left);
    placed = s.placings ∙ m.placed;
    taken = takings_are n mid after le m.taken s;
    unordered = s.armings ∙ m.unordered;
    uncut = s.cut_calls ∙ m.uncut;
    no_cuts = s.cuts ∙ m.no_cuts;
    no_faults = s.faults ∙ m.no_faults;
  }

  pub part_of : (n most : ℕ) (disk : DiskState) → n ≤ most → IsTwinned stands files number found tree n disk
      → IsPartDone files most disk
  part_of n most disk le m =
      record {
        placed = omega (arith, m.placed);
        taken = omega (arith, m.taken, le);
        unordered = m.unordered;
        uncut = m.uncut;
      }

part_more : (files : HiveFiles) (most : ℕ) (disk : DiskState) → IsPartDone files 0 disk
    → IsPartDone files most disk
part_more files most disk p =
    record { placed = p.placed; taken = omega (arith, p.taken); unordered = p.unordered; uncut = p.uncut }

-- ---- the lines

module _ (form : ReportForm) (stands : Standing) (files : HiveFiles) (number : Option ℕ) (saves : Saves) where
  abbrev pub Whole : DiskState → Status → List ℕ → List ℕ → Type 0
  Whole disk = EndsFiles form stands files number saves disk

  -- there was no memory before anything was printed
  pub untold : (some : SomeFound stands (image_in files)) (host : HostState) (disk : DiskState) → disk.on ≡ false
      → IsPartDone files 0 disk
      → DecidesAlone (Whole disk) saves statuses.Memory host host disk
  untold some host disk off part =
      let text = told_in form (told_of number some.0 some.1) in
      memory_decides (Whole disk) saves host disk off
      (inr (inl (record {
        found = some.0;
        tree = some.1;
        is_found = some.2;
        ends = (
          inr (no_front text host.said host.said refl),
          part_more files (saved_count saves) disk part,
          inl (omega (arith, part.taken)),
        );
      })))

  module _ (found : Recovered) (tree : Tree) where
    abbrev text_is : List ℕ
    text_is = told_in form (told_of number found tree)

    ends_twinned : (status : Status) (text old new : List ℕ) (taken : ℕ) (disk : DiskState)
        → IsToldAs statuses.Done status → text ≡ text_is
        → taken ≤ saved_count saves → (status ≡ statuses.Done → taken ≡ saved_count saves)
        → IsTwinned stands files number found tree taken disk → ((taken ≡ 0 → ⊥) → new ≡ old ++ text)
        → Ends (done_with text) status old new
        → EndsTwinned form stands files number saves found tree disk status old new
    ends_twinned status text old new taken disk (inl is) same few all made first end =
        let done = subst (λ (t : List ℕ). Ends (done_with t) statuses.Done old new) same
        (subst (λ (s : Status). Ends (done_with text) s old new) is end) in
        let P : ℕ → Type 0 = λ n. IsTwinned stands files number found tree n disk in
        subst (λ (s : Status). EndsTwinned form stands files number saves found tree disk s old new) (sym is)
        (was_said text_is old new done, subst P (all is) made)
    ends_twinned status text old new taken disk (inr (inl is)) same few all made first end =
        let part = subst (λ (t : List ℕ). Ends (done_with t) statuses.WriteFault old new) same
        (subst (λ (s : Status). Ends (done_with text) s old new) is end) in
        subst (λ (s : Status). EndsTwinned form stands files number saves found tree disk s old new) (sym is) (
          part,
          part_of stands files number found tree taken (saved_count saves) disk few made,
          tells-first text_is taken disk old new made.taken
              (λ some. first some ∙ ap (λ (t : List ℕ). old ++ t) same),
        )
    ends_twinned status text old new taken disk (inr (inr is)) same few all made first end =
        let part = subst (λ (t : List ℕ). Ends (done_with t) statuses.Memory old new) same
        (subst (λ (s : Status). Ends (done_with text) s old new) is end) in
        subst (λ (s : Status). EndsTwinned form stands files number saves found tree disk s old new) (sym is) (
          part,
          part_of stands files number found tree taken (saved_count saves) disk few made,
          tells-first text_is taken disk old new made.taken
              (λ some. first some ∙ ap (λ (t : List ℕ). old ++ t) same),
        )

  -- the lines were printed and the disk saved, or that was stopped
  pub finished_twins : (told : Told) (line : List ℕ) (status : Status) (old new : HostState) (mid after : DiskState)
      → mid.on ≡ false
      → TwinnedAs stands files number told mid → line ≡ told_in form told → FinishesAs line saves status old new mid after
      → DecidesAlone (Whole after) saves status old new after
  finished_twins told line status old new mid after off is is_line f =
      let text : line ≡ told_in form (told_of number is.found is.tree) = is_line ∙ ap (told_in form) is.is_told in
      let two : f.taken ≤ 2 = omega (arith, f.few, count_few saves) in
      let disk = settled stands files number is.found is.tree f.taken mid after two is.disk_is f.settles in
      record {
        decides = record {
          leaves = record {
            keeps = f.leaves.keeps;
            counts = f.leaves.counts;
            said = λ tells. inr (inl (record {
              found = is.found;
              tree = is.tree;
              is_found = is.is_found;
              ends = ends_twinned is.found is.tree status line old.said new.said f.taken after f.told text f.few f.all
                  disk (f.first tells) (f.leaves.said tells);
            }));
          };
          files = f.files;
          off = f.settles.on ∙ off;
          untouched = untouched_told status after f.told;
        };
        unasked = f.unasked;
        kept = told_unused statuses.Done status f.told (λ e. absurd cc);
        unread = told_unread statuses.Done status f.told (λ e. absurd cc);
      }

  -- the first fault was printed
  pub fault_twins : (fault : HiveFault) (status : Status) (old new : HostState) (disk : DiskState)
      → StandFault stands (image_in files) fault → disk ≡ new_state
      → Leaves (Ends (refusal (refusals.HiveFault fault))) status old new → KeepsFiles old new → AsksNone old new
      → IsToldAs statuses.HiveFault status
      → DecidesAlone (Whole disk) saves status old new disk
  fault_twins fault status old new disk is fresh leaves kept unasked told = record {
    decides = refusal_decides (Whole disk) saves (refusals.HiveFault fault) status old new disk fresh leaves kept told
        (λ o n end. inl (fault, is, end, fresh));
    unasked = unasked;
    kept = told_unused statuses.HiveFault status told (λ e. absurd cc);
    unread = refused_unread (refusals.HiveFault fault) status told;
  }

  -- there was no memory for the check
  pub unchecked : (host : HostState) (disk : DiskState) → disk ≡ new_state
      → DecidesAlone (Whole disk) saves statuses.Memory host host disk
  unchecked host disk fresh =
      memory_decides (Whole disk) saves host disk (ap (λ (d : DiskState). d.on) fresh)
      (inr (inr (refl, refl, unrun disk fresh)))

-- the environment stopped the search for the files
pub unsaid_twin : (form : ReportForm) (wanted : Result HiveFiles Refusal) (stands : Standing) (number : Option ℕ) (saves : Saves)
    (disk : DiskState) (stop : HostStop) (old new : List ℕ) → disk ≡ new_state
    → new ≡ old → (stop ≡ Write → ⊥) → EndsTwin form wanted stands number saves disk (stopped_as stop) old new
unsaid_twin form (Err r) stands number saves disk Read old new fresh same unwritten = (inr same, fresh)
unsaid_twin form (Ok files) stands number saves disk Read old new fresh same unwritten = inr (refl, same, fresh)
unsaid_twin form wanted stands number saves disk Write old new fresh same unwritten = absurd (unwritten refl)
unsaid_twin form (Err r) stands number saves disk Memory old new fresh same unwritten =
    (inr (no_front (refusal_text r) old new same), fresh)
unsaid_twin form (Ok files) stands number saves disk Memory old new fresh same unwritten =
    inl (inr (inr (refl, same, unrun disk fresh)))

pub unread_twin : (form : ReportForm) (wanted : Result HiveFiles Refusal) (stands : Standing) (number : Option ℕ) (saves : Saves)
    (stop : HostStop) (status : Status) (old new : HostState) (disk : DiskState)
    → status ≡ stopped_as stop → disk ≡ new_state → Looks wanted (Err (Stopped stop)) old new
    → Decides (EndsTwin form wanted stands number saves disk) saves status old new disk
unread_twin form wanted stands number saves stop status old new disk is fresh looks =
    subst (λ (s : Status). Decides (EndsTwin form wanted stands number saves disk) saves s old new disk) (sym is)
    (stopped_decides wanted (λ (w : Result HiveFiles Refusal). EndsTwin form w stands number saves disk)
    saves stop old new disk fresh
    (λ o n same unwritten. unsaid_twin form wanted stands number saves disk stop o n fresh same unwritten) looks)
