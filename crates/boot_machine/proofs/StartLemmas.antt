-- A start whose next entry is attempted, and the entries of a plan that wait.
use Rattle.std.proofs.Common.{◌≡◌, ℕ, Bool, List, [], ◌∷◌, ◌++◌, map, sym, ap, ◌∙◌}
use Rattle.std.specs.Prelude.{slice_get, remove, if◌then◌else◌, Result, Ok, Err, IfOk}
use Rattle.nt_bytes.specs.Folding.{folded}
use Rattle.hive_model.specs.Tree.{Tree}
use Rattle.start_model.specs.Entries.{Entry, Phase, need_of}
use Rattle.start_model.specs.Order.{plan_of}
use Rattle.start_model.specs.Ready.{Label, next_of}
use Rattle.start_model.specs.Machine.{Start, label_of}
use Rattle.boot_phases.specs.boot_phases.Lists.{Lists, lists_of, plan_among}
use Rattle.boot_machine.specs.boot_machine.Steps.{AttemptsNext}
use Rattle.boot_machine.specs.boot_machine.Queue.{QueueState, TakesFirst}

pub attempts : (s : Start) (q q' : QueueState) (e : Entry) (ok : Bool) (tried : List (List ℕ)) → TakesFirst q q' e ok
    → s.waiting ≡ q.waiting → s.started ≡ q.started
    → tried ≡ s.tried ++ folded e.name ∷ []
    → AttemptsNext s (record s { waiting = q'.waiting; tried = tried; started = q'.started }) e ok
attempts s q q' e ok tried takes waits same name = record {
  place = takes.place;
  next = (λ i. next_of (same i) (map need_of (waits i))) ∙ takes.next;
  entry = ap (λ w. slice_get w takes.place) waits ∙ takes.entry;
  after =
      λ i. record s {
        waiting = (takes.waiting ∙ ap (λ w. remove w takes.place) (sym waits)) i;
        tried = name i;
        started = (takes.started ∙ ap (λ l. if ok then l ++ label_of e ∷ [] else l) (sym same)) i;
      };
}

abbrev queue_of : List Entry → List Label → QueueState
queue_of waiting started = record { waiting = waiting; started = started }

-- what a plan takes of the lists of a set waits
pub planned_by : {E : Type 0} (r : Result QueueState E) (lists : Lists) (phase : Phase) (tried : List (List ℕ))
    (started : List Label) (entries items : List Entry) → entries ≡ plan_among lists phase tried → items ≡ entries
    → IfOk r (λ q. q ≡ record { waiting = items; started = started })
    → IfOk r (λ q. (set : Tree) → lists ≡ lists_of set
    → q ≡ record { waiting = plan_of set phase tried; started = started })
planned_by (Ok q) lists phase tried started entries items plan same h =
    λ set is. h ∙ ap (λ w. queue_of w started) (same ∙ plan ∙ ap (λ (l : Lists). plan_among l phase tried) is)
planned_by (Err e) lists phase tried started entries items plan same h = tt
