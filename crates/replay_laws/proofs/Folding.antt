-- The fold of the entries, and where it ends.
use Rattle.std.proofs.Common.{◌≡◌, ◌*◌, ℕ, zero, suc, Option, Some, None, Bool, true, false, cond, List, [], ◌∷◌, refl, inl, inr, arith}
use Rattle.windows_logs.specs.entry_log.Growing.{grows_whole, page_bytes}
use Rattle.windows_logs.specs.declared.log_parts.fault.LogFaultKind.TheVariants.{EntryGrow}
use Rattle.log_replay.specs.declared.line.ReplayLine.TheVariants.{Fault, Apply}
use Rattle.log_replay.specs.declared.entries.HiveNow.{HiveNow}
use Rattle.log_replay.specs.declared.reading.GivenLog.{GivenLog}
use Rattle.log_replay.specs.Entries.{Chosen, chosen, with_entry, Step, stepped, step_of, going, replay_by}
use Rattle.replay_laws.specs.Applied.{EndsSo, IsFold}

-- a step by a chosen entry, where its new sectors are in its pages or not
abbrev chosen_step : Chosen → HiveNow → Bool → Step
chosen_step c hive t =
    cond t (record {
      hive = with_entry hive c;
      lines = Apply c.log.name c.entry.number (page_bytes c.log.bytes c.entry)
          ∷ [];
      goes = true;
    })
    (record { hive = hive; lines = Fault EntryGrow c.log.name (512 * c.entry.sector) ∷ []; goes = false })

pub folded : (n : ℕ) (logs : List GivenLog) (hive : HiveNow) → IsFold logs hive (replay_by n logs hive).hive
unfolding replay_by step_of
folded zero logs hive = ([], refl)
folded (suc n) logs hive = at (folded n logs) (chosen logs hive.next) refl
  where
    grown : ((h : HiveNow) → IsFold logs h (replay_by n logs h).hive) → (c : Chosen) → chosen logs hive.next ≡ Some c
        → (t : Bool) → grows_whole c.log.bytes c.entry hive.size ≡ t
        → IsFold logs hive (going (chosen_step c hive t) (replay_by n logs)).hive
    grown rest c is false grows = ([], refl)
    grown rest c is true grows = let more = rest (with_entry hive c) in (c ∷ more.0, (is, (grows, more.1)))

    at : ((h : HiveNow) → IsFold logs h (replay_by n logs h).hive) → (x : Option Chosen) → chosen logs hive.next ≡ x
        → IsFold logs hive (going (stepped x hive) (replay_by n logs)).hive
    at rest None is = ([], refl)
    at rest (Some c) is = grown rest c is (grows_whole c.log.bytes c.entry hive.size) refl

pub ends : (n : ℕ) (logs : List GivenLog) (hive : HiveNow) → EndsSo n logs hive (replay_by n logs hive).hive
unfolding replay_by step_of
ends zero logs hive = inr (inr (omega arith))
ends (suc n) logs hive = at (ends n logs) (chosen logs hive.next) refl
  where
    later : (c : Chosen) (new : HiveNow) → EndsSo n logs (with_entry hive c) new → EndsSo (suc n) logs hive new
    later c new (inl none) = inl none
    later c new (inr (inl held)) = inr (inl held)
    later c new (inr (inr count)) = inr (inr (omega (arith, count)))

    grown : ((h : HiveNow) → EndsSo n logs h (replay_by n logs h).hive) → (c : Chosen) → chosen logs hive.next ≡ Some c
        → (t : Bool) → grows_whole c.log.bytes c.entry hive.size ≡ t
        → EndsSo (suc n) logs hive (going (chosen_step c hive t) (replay_by n logs)).hive
    grown rest c is false grows = inr (inl (c, (is, grows)))
    grown rest c is true grows = later c (replay_by n logs (with_entry hive c)).hive (rest (with_entry hive c))

    at : ((h : HiveNow) → EndsSo n logs h (replay_by n logs h).hive) → (x : Option Chosen) → chosen logs hive.next ≡ x
        → EndsSo (suc n) logs hive (going (stepped x hive) (replay_by n logs)).hive
    at rest None is = inl is
    at rest (Some c) is = grown rest c is (grows_whole c.log.bytes c.entry hive.size) refl
