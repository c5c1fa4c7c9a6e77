-- The scheme of a log.
use Rattle.std.proofs.Common.{◌≡◌, ◌++◌, ℕ, Bool, true, false, Result, List, length, Ok, Err, refl, inl, inr, ⊎_elim}
use Rattle.hive_model.specs.Base.{Base, is_bins_size}
use Rattle.hive_model.specs.Image.{Image}
use Rattle.hive_model.specs.Recovery.{recovered_of}
use Rattle.hive_model.specs.Carries.{Carries, IsRecoveredAs}
use Rattle.nt_bytes.specs.Front.{IsFront}
use Rattle.nt_edge.specs.Calls.{Made, reads_of}
use Rattle.nt_edge.specs.Crash.{EachCrash}
use Rattle.nt_edge.specs.Disk.{DiskState}
use Rattle.nt_edge.specs.Frames.{Goes}
use Rattle.nt_edge.specs.declared.disk.DiskStop.{DiskStop}
use Rattle.nt_edge.specs.declared.disk.DiskStop.TheVariants as disk
use Rattle.hive_log.proofs.Finding.{carries_recovered}
use Rattle.hive_log.specs.declared.stops.LoadStop.{LoadStop}
use Rattle.hive_log.specs.declared.stops.LoadStop.TheVariants as load
use Rattle.hive_commit.specs.Calls.{closing_calls, AreAll, MakesRecovery}
use Rattle.hive_commit.specs.Stages.{IsBeforeOrAfter}
use Rattle.hive_commit.specs.Stops.{commit_stop_of, IsCommitOn}
use Rattle.hive_alt.specs.Calls.{IsRestoring}
use Rattle.hive_alt.specs.Schemes.{IsKeptAs, IsKeptAsEither, AreOf, IsFrontOf, MakesLoad}
use Rattle.hive_alt.proofs.TwinLemmas.{whole_of}

pub carried_is_clean : (image : Image) (base : Base) (bins : List ℕ) → is_bins_size (length bins) ≡ true
    → Carries image base bins → recovered_of image ≡ Ok (record { base = base; bins = bins; dirty = false })
carried_is_clean image base bins size is = carries_recovered image base bins is (whole_of (length bins) size)

pub recovered_crash : (old new : DiskState)
    → ((base : Base) (bins : List ℕ) → IsRecoveredAs old.held base bins
    → EachCrash new (λ (c : Image). IsRecoveredAs c base bins))
    → (base : Base) (bins : List ℕ) → IsKeptAs recovered_of base bins old.held
    → EachCrash new (IsKeptAs recovered_of base bins)
recovered_crash old new each base bins is c crash =
    let one = each base bins (record { dirty = is.dirty; recovered = is.kept }) c crash in
    record { dirty = one.dirty; kept = one.recovered }

pub either_crash : (s : DiskState) (base closed : Base) (old new : List ℕ)
    → EachCrash s (IsBeforeOrAfter base old closed new) → EachCrash s (IsKeptAsEither recovered_of base old closed new)
either_crash s base closed old new each c crash = ⊎_elim
    (λ is. inl (record { dirty = is.dirty; kept = is.recovered }))
    (λ is. inr (record { dirty = is.dirty; kept = is.recovered }))
    (each c crash)

-- the calls of a recovery are those of a load
module _ (whole calls : List Made) where
  abbrev is_whole : List Made → Type 0
  is_whole l = l ≡ whole

  front_of : IsFront whole calls → IsFrontOf is_whole calls
  front_of is = record { whole = whole; is = refl; front = is }

  all_of : {T : Type 0} (r : Result T LoadStop) → AreAll whole r calls → AreOf is_whole r calls
  all_of (Ok x) is = is
  all_of (Err (load.Fault f)) is = is
  all_of (Err load.PowerLost) is = front_of is
  all_of (Err load.Device) is = front_of is
  all_of (Err load.Memory) is = front_of is

pub recovery_load : {T : Type 0} (a b : List Made → Type 0) (tells : Bool) (whole : List Made) (r : Result T LoadStop)
    → MakesRecovery a b (λ calls. tells ≡ true → AreAll whole r calls)
    → MakesLoad a b IsRestoring (λ calls. tells ≡ true → AreOf (λ l. l ≡ whole) r calls)
recovery_load a b tells whole r m = record {
  sectors = m.sectors;
  writes = m.writes;
  written = inr (record {
    whole = closing_calls m.closed m.bits m.bins;
    is = record { closed = m.closed; bits = m.bits; bins = m.bins; calls_are = refl };
    front = m.front;
  });
  made = m.made;
  are = λ told. all_of whole (reads_of m.sectors ++ m.writes) r (m.are told);
}

-- a refusal of the disk, as a commit calls it
pub commit_goes : {T U : Type 0} (old new : DiskState) (e : DiskStop) → Goes {T = T} old new (Err e)
    → IsCommitOn {T = U} old new (Err (commit_stop_of e))
commit_goes old new disk.PowerLost is = record {
  goes_on = record {
    history = is.goes_on.history;
    counts = is.goes_on.counts;
    cut = λ e. is.goes_on.cut refl;
    fault = λ e. absurd (cc);
    no_cut = λ e. absurd (e refl);
    no_fault = λ e other. absurd (e refl);
    no_lack = λ e. is.goes_on.no_lack (λ x. absurd (cc));
    off = λ e. is.goes_on.off refl;
    on = λ e. absurd (e refl);
  };
  lack = λ e. absurd (cc);
}
commit_goes old new disk.Failed is = record {
  goes_on = record {
    history = is.goes_on.history;
    counts = is.goes_on.counts;
    cut = λ e. absurd (cc);
    fault = λ e. is.goes_on.fault refl;
    no_cut = λ e. is.goes_on.no_cut (λ x. absurd (cc));
    no_fault = λ e other. absurd (other refl);
    no_lack = λ e. is.goes_on.no_lack (λ x. absurd (cc));
    off = λ e. absurd (cc);
    on = λ e. is.goes_on.on (λ x. absurd (cc));
  };
  lack = λ e. absurd (cc);
}
commit_goes old new disk.Memory is = record {
  goes_on = record {
    history = is.goes_on.history;
    counts = is.goes_on.counts;
    cut = λ e. absurd (cc);
    fault = λ e. absurd (cc);
    no_cut = λ e. is.goes_on.no_cut (λ x. absurd (cc));
    no_fault = λ e other. is.goes_on.no_fault (λ x. absurd (cc)) (λ x. absurd (cc));
    no_lack = λ e. absurd (e refl);
    off = λ e. absurd (cc);
    on = λ e. is.goes_on.on (λ x. absurd (cc));
  };
  lack = λ e. is.lack refl;
}
