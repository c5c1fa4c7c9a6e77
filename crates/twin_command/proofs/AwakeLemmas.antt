-- A change of the default set on a disk that is on and got no order.
use Rattle.std.proofs.Common.{◌≡◌, ◌⊎◌, ◌≤◌, inl, inr, ℕ, Bool, List, [], Option, None, Some, Result, Ok, Err, refl, sym, ap, subst, ◌∙◌, arith}
use Rattle.nt_bytes.specs.declared.fault.HiveFault.{HiveFault}
use Rattle.hive_model.specs.Base.{version_of}
use Rattle.hive_model.specs.Bins.{Bin, BinsFault, spelled, look_up}
use Rattle.hive_model.specs.Image.{Image, Arming, cut_orders, fault_orders}
use Rattle.hive_model.specs.Load.{Holds, HeldFault}
use Rattle.hive_model.specs.Recovery.{Recovered}
use Rattle.hive_model.specs.State.{HiveState}
use Rattle.hive_model.specs.Tree.{Tree}
use Rattle.hive_model.specs.Walk.{first_fault}
use Rattle.hive_cells.proofs.Again.{one_list, not_both}
use Rattle.hive_read.proofs.Wellformed.{well-formed-passes}
use Rattle.nt_edge.specs.Bench.{KeepsOrders, turned_off}
use Rattle.nt_edge.specs.Crash.{EachCrash}
use Rattle.nt_edge.specs.Disk.{DiskState}
use Rattle.nt_edge.specs.Frames.{GoesOn}
use Rattle.nt_bytes.specs.Counts.{Rises}
use Rattle.nt_bytes.specs.declared.version.HiveVersion.{HiveVersion}
use Rattle.hive_alt.specs.Changes.{Change, nothing, no_select, too_large, changed, change_of, committed_by, Answers, IsLoaded, IsDone, StandsAfter, IsDecided, IsLost, IsFailed, IsLacking}
use Rattle.hive_alt.specs.Plans.{IsFound}
use Rattle.hive_alt.specs.Schemes.{Standing, StandFault}
use Rattle.hive_alt.specs.declared.change.Changed.{Changed}
use Rattle.hive_alt.specs.declared.change.ChangeStop.{ChangeStop}
use Rattle.hive_alt.specs.declared.change.ChangeStop.TheVariants as stops
use Rattle.std.specs.Prelude.{IfOk, OnErr}
use Rattle.std.specs.Result.{IsErr}
use Rattle.std.specs.declared.alloc.AllocError.{AllocError}
use Rattle.std.proofs.lemmas.Bool.{false≢true}
use Rattle.twin_command.specs.Twinned.{SomeFound}
use Rattle.hive_store.specs.Checks.{held_state}
use Rattle.twin_command.specs.Awake.{IsAwake, ToldOf, ToldBy, done_word}
use Rattle.twin_command.specs.declared.report.Told.{Told}
use Rattle.twin_command.specs.declared.report.Word.{Word}
use Rattle.twin_command.specs.declared.report.Word.TheVariants as words
use Rattle.twin_command.specs.Told.{word_of}

-- ---- what stands has no fault

none_some : (o : Option HiveFault) (f : HiveFault) → o ≡ None → o ≡ Some f → ⊥
none_some o f e g = cc

held_sound : (r : Recovered) (s : HiveState) (fault : HiveFault) → Holds r s → HeldFault r fault → ⊥
held_sound r s fault h (inl b) =
    not_both (spelled 0 h.bins) h.bins fault h.cells.0 refl (subst (λ (t : List ℕ). BinsFault t fault) h.cells.1 b)
held_sound r s fault h (inr w) =
    let bins : h.bins ≡ w.bins = one_list h.bins w.bins h.cells.0 w.cells.0 (sym h.cells.1 ∙ w.cells.1) in
    let passes : first_fault (look_up (version_of r.base.minor) w.bins) r.base.root ≡ None =
    subst (λ (bs : List Bin). first_fault (look_up (version_of r.base.minor) bs) r.base.root ≡ None) bins
    (well-formed-passes (look_up (version_of r.base.minor) h.bins) r.base.root s.tree h.tree) in
    none_some (first_fault (look_up (version_of r.base.minor) w.bins) r.base.root) fault passes w.first

abbrev ok : Recovered → Result Recovered HiveFault
ok r = Ok r

ok_same : (x y : Recovered) → ok x ≡ ok y → x ≡ y
ok_same x y e = cc

pub no_fault : (stands : Standing) (image : Image) (found : Recovered) (tree : Tree) → IsFound stands image found tree
    → (fault : HiveFault) → StandFault stands image fault → ⊥
no_fault stands image found tree is fault (inl fails) =
    (let e : ok found ≡ Err fault = sym is.read ∙ fails in absurd (cc))
no_fault stands image found tree is fault (inr held) =
    let same : found ≡ held.0 = ok_same found held.0 (sym is.read ∙ held.1) in
    held_sound held.0 (held_state found tree) fault
    (subst (λ (r : Recovered). Holds r (held_state found tree)) same is.holds) held.2

-- ---- no stop comes without an order

no_cut_orders : (armings : List Arming) → armings ≡ [] → cut_orders armings ≡ 0
no_cut_orders armings none = ap cut_orders none

no_fault_orders : (armings : List Arming) → armings ≡ [] → fault_orders armings ≡ 0
no_fault_orders armings none = ap fault_orders none

no_rise : (before after : ℕ) → before ≡ 0 → after ≤ 0 → Rises before after → ⊥
no_rise before after none few (inl more) = absurd (omega arith)
no_rise before after none few (inr end) = absurd (omega arith)

module _ (old new : DiskState) (lost failed lacked : Type 0) (goes : GoesOn old new lost failed lacked)
    (awake : IsAwake old) (keeps : KeepsOrders new) where
  armings_are : new.history.armings ≡ []
  armings_are = ap (λ h. h.armings) goes.history ∙ awake.unordered

  calls_are : new.history.cut_calls ≡ 0
  calls_are = ap (λ h. h.cut_calls) goes.history ∙ awake.uncut

  pub never_lost : lost → ⊥
  never_lost is = no_rise old.cuts new.cuts awake.no_cuts
      (omega (arith, keeps.cuts, calls_are, no_cut_orders new.history.armings armings_are)) (goes.cut is)

  pub never_failed : failed → ⊥
  never_failed is = no_rise old.faults new.faults awake.no_faults
      (omega (arith, keeps.faults, no_fault_orders new.history.armings armings_are)) (goes.fault is)

-- ---- what is reported

word_done : (number : Option ℕ) (found : Recovered) (change : Change)
    → (change ≡ nothing) ⊎ ((u : Tree) × (change ≡ changed u))
    → done_word number (committed_by found change) ≡ word_of number found change
word_done None found change done = refl
word_done (Some number) found nothing done = refl
word_done (Some number) found (changed u) done = refl
word_done (Some number) found no_select (inl e) = absurd (cc)
word_done (Some number) found no_select (inr x) = (let e = x.1 in absurd (cc))
word_done (Some number) found too_large (inl e) = absurd (cc)
word_done (Some number) found too_large (inr x) = (let e = x.1 in absurd (cc))

word_no_select : (number : Option ℕ) (version : HiveVersion) (found : Recovered) (tree : Tree)
    → change_of version tree number ≡ no_select → words.NoKey ≡ word_of number found no_select
word_no_select None version found tree is = absurd (cc)
word_no_select (Some number) version found tree is = refl

word_full : (number : Option ℕ) (version : HiveVersion) (found : Recovered) (tree : Tree)
    → change_of version tree number ≡ too_large → words.Full ≡ word_of number found too_large
word_full None version found tree is = absurd (cc)
word_full (Some number) version found tree is = refl

module _ (stands : Standing) (number : Option ℕ) (old new off : DiskState) (off_is : off ≡ turned_off new)
    (history : new.history ≡ old.history) (cuts : new.cuts ≡ old.cuts) (faults : new.faults ≡ old.faults) where
  told_off : (told : Told) → ToldOf stands number told old (turned_off new) → ToldOf stands number told old off
  told_off told is = (let P : DiskState → Type 0 = ToldOf stands number told old in subst P (sym off_is) is)

  -- by the word of what was to become of the tree that was found, and what a cut then leaves
  told_as : (change : Change) (word : Word) (loaded : ℕ) (mended : Bool)
      (l : IsLoaded stands old.held number loaded mended change) → word ≡ word_of number l.found change
      → EachCrash new (StandsAfter stands l.found l.tree number)
      → ToldOf stands number (record { loaded = loaded; mended = mended; word = word }) old off
  told_as change word loaded mended l word_is after =
      let told_word : word ≡ word_of number l.found (change_of (version_of l.found.base.minor) l.tree number) =
      word_is ∙ ap (word_of number l.found) (sym l.change_is) in
      told_off (record { loaded = loaded; mended = mended; word = word })
      (record {
        found = l.found;
        tree = l.tree;
        is_found = record { read = l.read; holds = l.holds };
        is_told = λ i. record { loaded = l.number_is i; mended = l.mended_is i; word = told_word i };
        stands_for = after;
        history = history;
        cuts = cuts;
        faults = faults;
      })

  -- a change that was done
  pub done_told : (done : Changed) (is : IsDone stands old.held new.held number done)
      → EachCrash new (StandsAfter stands is.loaded.found is.loaded.tree number)
      → ToldOf stands number
      (record { loaded = done.loaded; mended = done.mended; word = done_word number done.committed }) old off
  done_told done is =
      told_as is.change (done_word number done.committed) done.loaded done.mended is.loaded
      (ap (done_word number) is.committed ∙ word_done number is.loaded.found is.change is.is_done)

  -- a change that was refused
  pub no_select_told : (loaded : ℕ) (mended : Bool) (l : IsLoaded stands old.held number loaded mended no_select)
      → EachCrash new (StandsAfter stands l.found l.tree number)
      → ToldOf stands number (record { loaded = loaded; mended = mended; word = words.NoKey }) old off
  no_select_told loaded mended l =
      told_as no_select words.NoKey loaded mended l
      (word_no_select number (version_of l.found.base.minor) l.found l.tree l.change_is)

  pub full_told : (loaded : ℕ) (mended : Bool) (l : IsLoaded stands old.held number loaded mended too_large)
      → EachCrash new (StandsAfter stands l.found l.tree number)
      → ToldOf stands number (record { loaded = loaded; mended = mended; word = words.Full }) old off
  full_told loaded mended l =
      told_as too_large words.Full loaded mended l
      (word_full number (version_of l.found.base.minor) l.found l.tree l.change_is)

-- ---- by the answer

ok_told : (a b : Told) → ◌≡◌ {A = Result Told AllocError} (Ok a) (Ok b) → a ≡ b
ok_told a b same = cc

-- the disk was on and got no order, and it is off after the change
pub record WasAwake (stands : Standing) (old new off : DiskState) : Type 0 where
  pub off_is : off ≡ turned_off new
  pub awake : IsAwake old
  pub keeps : KeepsOrders new
  pub some : SomeFound stands old.held

module _ (stands : Standing) (number : Option ℕ) (old new off : DiskState) (was_awake : WasAwake stands old new off) where
  -- no fault is answered
  pub sound : (r : Result Changed ChangeStop) → Answers stands old.held new.held number r → (fault : HiveFault)
      → r ≡ Err (stops.Fault fault) → ⊥
  sound r answers fault is =
      no_fault stands old.held was_awake.some.0 was_awake.some.1 was_awake.some.2 fault
      (subst (λ (x : Result Changed ChangeStop). Answers stands old.held new.held number x) is answers)

  pub lost_never : (r : Result Changed ChangeStop) → GoesOn old new (IsLost r) (IsFailed r) (IsLacking r) → IsLost r → ⊥
  lost_never r goes = never_lost old new (IsLost r) (IsFailed r) (IsLacking r) goes was_awake.awake was_awake.keeps

  pub failed_never : (r : Result Changed ChangeStop) → GoesOn old new (IsLost r) (IsFailed r) (IsLacking r) → IsFailed r
      → ⊥
  failed_never r goes = never_failed old new (IsLost r) (IsFailed r) (IsLacking r) goes was_awake.awake was_awake.keeps

  pub told_part : {T E : Type 0} (r : Result Changed ChangeStop) → GoesOn old new (IsLost r) (IsFailed r) (IsLacking r)
      → (t : Result T E) → OnErr t (off.history ≡ old.history)
  told_part r goes (Ok t) = tt
  told_part r goes (Err e) = ap (λ (d : DiskState). d.history) was_awake.off_is ∙ goes.history

  told_ok : (t : Result Told AllocError) (told : Told) → t ≡ Ok told → ToldOf stands number told old off
      → IfOk t (λ x. ToldOf stands number x old off)
  told_ok (Ok x) told is held = subst (λ (y : Told). ToldOf stands number y old off) (sym (ok_told x told is)) held
  told_ok (Err e) told is held = tt

  told_err : (t : Result Told AllocError) → IsErr t → IfOk t (λ x. ToldOf stands number x old off)
  told_err (Ok x) is = absurd (false≢true is)
  told_err (Err e) is = tt

  pub awake_told : (r : Result Changed ChangeStop) → Answers stands old.held new.held number r
      → GoesOn old new (IsLost r) (IsFailed r) (IsLacking r)
      → (IsDecided r → (found : Recovered) (tree : Tree) → IsFound stands old.held found tree
      → EachCrash new (StandsAfter stands found tree number))
      → (t : Result Told AllocError) → ToldBy number r t → IfOk t (λ x. ToldOf stands number x old off)
  awake_told (Ok done) answers goes after t by =
      let l = answers.loaded in
      told_ok t (record { loaded = done.loaded; mended = done.mended; word = done_word number done.committed }) by
      (done_told stands number old new off was_awake.off_is goes.history (goes.no_cut (λ n. absurd n))
      (goes.no_fault (λ n. absurd n) (λ n. absurd n)) done answers
      (after tt l.found l.tree (record { read = l.read; holds = l.holds })))
  awake_told (Err (stops.Fault f)) answers goes after t by = absurd (sound (Err (stops.Fault f)) answers f refl)
  awake_told (Err (stops.NoSelect was mended)) answers goes after t by =
      told_ok t (record { loaded = was; mended = mended; word = words.NoKey }) by
      (no_select_told stands number old new off was_awake.off_is goes.history (goes.no_cut (λ n. absurd n))
      (goes.no_fault (λ n. absurd n) (λ n. absurd n)) was mended answers
      (after tt answers.found answers.tree (record { read = answers.read; holds = answers.holds })))
  awake_told (Err (stops.Full was mended)) answers goes after t by =
      told_ok t (record { loaded = was; mended = mended; word = words.Full }) by
      (full_told stands number old new off was_awake.off_is goes.history (goes.no_cut (λ n. absurd n))
      (goes.no_fault (λ n. absurd n) (λ n. absurd n)) was mended answers
      (after tt answers.found answers.tree (record { read = answers.read; holds = answers.holds })))
  awake_told (Err (stops.PowerLost was)) answers goes after t by =
      absurd (lost_never (Err (stops.PowerLost was)) goes tt)
  awake_told (Err (stops.Device was)) answers goes after t by = absurd (failed_never (Err (stops.Device was)) goes tt)
  awake_told (Err stops.Memory) answers goes after t by = told_err t by
