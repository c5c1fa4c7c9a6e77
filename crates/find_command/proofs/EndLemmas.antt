-- How the command ends, by what was printed.
use Rattle.std.proofs.Common.{◌≡◌, inl, inr, ℕ, Some, refl, sym, ap, ◌∙◌}
use Rattle.std.specs.Prelude.{None, Result, Ok, Err}
use Rattle.hive_model.specs.Load.{Loads, LoadFault}
use Rattle.nt_bytes.specs.declared.fault.HiveFault.{HiveFault}
use Rattle.nt_edge.specs.Disk.{new_state}
use Rattle.nt_edge.specs.Host.{Files, HostState, KeepsFiles, AsksNone}
use Rattle.nt_edge.specs.declared.host.HostStop.{HostStop}
use Rattle.nt_edge.specs.declared.host.HostStop.TheVariants.{Read, Write, Memory}
use Rattle.start_model.specs.Possible.{Woken}
use Rattle.command_parts.specs.declared.command_parts.status.Status.{Status}
use Rattle.command_parts.specs.declared.command_parts.status.Status.TheVariants as statuses
use Rattle.command_parts.specs.declared.command_parts.refusal.Refusal.{Refusal}
use Rattle.command_parts.specs.declared.command_parts.refusal.Refusal.TheVariants.{HiveFault as BadHive}
use Rattle.command_parts.specs.declared.command_parts.refusal.Obstacle.{Obstacle}
use Rattle.command_parts.specs.declared.command_parts.refusal.Obstacle.TheVariants.{Refused, Stopped}
use Rattle.command_parts.specs.declared.command_parts.answering.Told.{Told}
use Rattle.command_parts.specs.command_parts.Decides.{DecidesAlone}
use Rattle.command_parts.specs.command_parts.Leaves.{AsksUntil, Leaves, Looks, Gives, CountsObstacle, stop_in, stopped_as}
use Rattle.command_parts.specs.command_parts.OnHive.{Question, EndsOnHive, SeeksAnswer, AnswersAfter}
use Rattle.command_parts.specs.command_parts.Refusals.{Answer, Ends, IsToldAs, refusal, refusal_status}
use Rattle.command_parts.specs.command_parts.Saves.{FilesAs, no_saves}
use Rattle.command_parts.proofs.DecideLemmas.{unsaved, untouched_by, refused_unread, told_unused, memory_decides, refusal_decides}
use Rattle.find_command.specs.Prints.{Prints, Answers}
use Rattle.find_command.proofs.PrintLemmas.{lacked}

-- ---- a report that was printed in pieces

pub ends_printed : {y : Unit {0}} (answer : Answer) (status : Status) (a b : HostState) → stop_in status ≡ None → (status ≡ statuses.Usage → ⊥)
    → answer.status ≡ status → Prints answer.text (Ok y) a b → Answers answer status a b
ends_printed answer status a b ends used is p = record {
  keeps = p.keeps;
  files = p.files;
  unasked = p.unasked;
  counts = rw ends p.counts;
  said = λ tells. inl (sym is, p.said tells);
  used = used;
  unread = λ e. unstopped status ends e;
}
  where
    unstopped : (s : Status) → stop_in s ≡ None → s ≡ statuses.ReadFault → ⊥
    unstopped s none e = (let never : Some Read ≡ None = sym (ap stop_in e) ∙ none in absurd cc)

pub ends_stopped : (answer : Answer) (stop : HostStop) (a b : HostState) → Prints answer.text (Err stop) a b
    → Answers answer (stopped_as stop) a b
ends_stopped answer Read a b p = absurd (p.unread refl)
ends_stopped answer Write a b p = record {
  keeps = p.keeps;
  files = p.files;
  unasked = p.unasked;
  counts = p.counts;
  said = λ tells. inr (p.front tells);
  used = λ e. absurd cc;
  unread = λ e. absurd cc;
}
ends_stopped answer Memory a b p = record {
  keeps = p.keeps;
  files = p.files;
  unasked = p.unasked;
  counts = p.counts;
  said = λ tells. inr (p.front tells);
  used = λ e. absurd cc;
  unread = λ e. absurd cc;
}

-- there was no memory
pub answers_lack : (answer : Answer) (s : HostState) → Answers answer statuses.Memory s s
answers_lack answer s = ends_stopped answer Memory s s (lacked answer.text s)

-- ---- of the whole command

-- nothing is saved
kept_files : (status : Status) (old new : Files) → new ≡ old → FilesAs no_saves status new_state old new
kept_files statuses.Done old new same = (record { hive = tt; log = tt }, λ name unsaved. ap (λ (f : Files). f name) same)
kept_files statuses.Usage old new same = same
kept_files statuses.NoFile old new same = same
kept_files statuses.ScriptFault old new same = same
kept_files statuses.BootIniFault old new same = same
kept_files statuses.HiveFault old new same = same
kept_files statuses.RegFault old new same = same
kept_files statuses.Found old new same = same
kept_files statuses.ReadFault old new same = same
kept_files statuses.WriteFault old new same = unsaved no_saves new_state old new same
kept_files statuses.Memory old new same = unsaved no_saves new_state old new same

-- the answer to what the hive loads as
pub answers_alone : (q : Question) (placed : Woken) (status : Status) (a b : HostState)
    → Loads q.image placed.state placed.dirty → Answers (q.answer placed) status a b
    → DecidesAlone (EndsOnHive (Ok q)) no_saves status a b new_state
answers_alone q placed status a b loads p = record {
  decides = record {
    leaves = record { keeps = p.keeps; counts = p.counts; said = λ tells. inr (inl (placed, loads, p.said tells)) };
    files = λ tells. kept_files status a.files b.files (p.files tells);
    off = refl;
    untouched = untouched_by status new_state refl;
  };
  unasked = p.unasked;
  kept = p.used;
  unread = p.unread;
}

-- its first fault
pub fault_alone : (q : Question) (fault : HiveFault) (status : Status) (a b : HostState)
    → LoadFault q.image fault → Leaves (Ends (refusal (BadHive fault))) status a b → KeepsFiles a b → AsksNone a b
    → IsToldAs (refusal_status (BadHive fault)) status
    → DecidesAlone (EndsOnHive (Ok q)) no_saves status a b new_state
fault_alone q fault status a b is leaves files unasked told = record {
  decides = refusal_decides (EndsOnHive (Ok q)) no_saves (BadHive fault) status a b new_state refl leaves files told
      (λ o n end. inl (fault, is, end));
  unasked = unasked;
  kept = told_unused (refusal_status (BadHive fault)) status told (λ e. absurd cc);
  unread = refused_unread (BadHive fault) status told;
}

-- there was no memory
pub memory_alone : (q : Question) (s : HostState) → DecidesAlone (EndsOnHive (Ok q)) no_saves statuses.Memory s s new_state
memory_alone q s = memory_decides (EndsOnHive (Ok q)) no_saves s new_state refl (inr (inr (inl refl, refl)))

-- a search for the files that ended in an obstacle
pub seeks_obstacle : {A : Type 0} (wanted : Result A Refusal) (whole : Result Question Refusal) (obstacle : Obstacle) (a b : HostState)
    → ((r : Refusal) → wanted ≡ Err r → whole ≡ Err r) → Looks wanted (Err obstacle) a b → SeeksAnswer whole (Err obstacle) a b
seeks_obstacle {A} wanted whole obstacle a b by looks = record {
  keeps = looks.keeps;
  files = looks.files;
  unsaid = looks.unsaid;
  answers = λ tells. answers_so obstacle (looks.found tells);
  counts = counts_so obstacle looks.counts;
  unwritten = looks.unwritten;
}
  where
    answers_so : (o : Obstacle) → Gives {A = A} wanted (Err o) → AnswersAfter whole (Err o)
    answers_so (Refused r) gives = inl (by r gives)
    answers_so (Stopped stop) gives = tt

    counts_so : (o : Obstacle) → CountsObstacle {A = A} (Err o) a b → CountsObstacle {A = Told} (Err o) a b
    counts_so (Refused r) c = c
    counts_so (Stopped stop) c = c

-- which files a search for the files asked for that ended in an obstacle
pub asks_obstacle : (A : Type 0) (n : ℕ) (o : Obstacle) (g h : ℕ) → AsksUntil {A = A} n (Err o) g h → AsksUntil {A = Told} n (Err o) g h
asks_obstacle A n (Refused r) g h a = a
asks_obstacle A n (Stopped stop) g h a = a
