-- A run whose operations were all done leaves nothing open.
use Rattle.std.proofs.Common.{◌≡◌, ◌⊎◌, inl, inr, ⊎_elim, ℕ, Bool, false, List, [], ◌∷◌, Option, Some, None, refl, subst}
use Rattle.hive_model.specs.Image.{Image}
use Rattle.hive_model.specs.State.{HiveState}
use Rattle.hive_model.specs.Load.{Loads}
use Rattle.start_model.specs.Machine.{Start}
use Rattle.start_model.specs.Events.{Event}
use Rattle.start_model.specs.Possible.{Possible, Woken, Outcome, Finished, PowerCut, DeviceFault, settled_at}
use Rattle.start_model.specs.Act.{RunState, Note, Woke, Held, Saved, Ordered, Cuts, Ended}
use Rattle.start_model.specs.Boot.{Choice}
use Rattle.start_model.specs.Run.{run_of, first_state}
use Rattle.start_model.specs.Fits.{MayLoad}
use Rattle.run_laws.specs.run_laws.Quiet.{AllFinished}
use Rattle.run_laws.specs.run_laws.Told.{ended_in}
use Rattle.run_laws.proofs.KeptLemmas.{Law, AtRest, IsStop, push, with_wake}
use Rattle.run_laws.proofs.AlongLemmas.{run_from-along}
use Rattle.run_laws.specs.rest_laws.Rest.{IsAtRest}

-- ---- the operations of notes that were all done

abbrev Done : List Note → Type 0
Done h = AllFinished (ended_in h)

before : (h : List Note) (n : Note) → Done (push h n) → Done h
before [] n d = tt
before (Woke p ∷ h) n d = before h n d
before (Held t ∷ h) n d = before h n d
before (Saved t ∷ h) n d = before h n d
before (Ordered arming ∷ h) n d = before h n d
before (Cuts ∷ h) n d = before h n d
before (Ended Finished ∷ h) n d = before h n d
before (Ended PowerCut ∷ h) n d = absurd d
before (Ended DeviceFault ∷ h) n d = absurd d

stop_here : (o : Outcome) → IsStop o → Done (Ended o ∷ []) → ⊥
stop_here Finished stop d = stop
stop_here PowerCut stop d = d
stop_here DeviceFault stop d = d

not_stopped : (h : List Note) (o : Outcome) → IsStop o → Done (push h (Ended o)) → ⊥
not_stopped [] o stop d = stop_here o stop d
not_stopped (Woke p ∷ h) o stop d = not_stopped h o stop d
not_stopped (Held t ∷ h) o stop d = not_stopped h o stop d
not_stopped (Saved t ∷ h) o stop d = not_stopped h o stop d
not_stopped (Ordered arming ∷ h) o stop d = not_stopped h o stop d
not_stopped (Cuts ∷ h) o stop d = not_stopped h o stop d
not_stopped (Ended Finished ∷ h) o stop d = not_stopped h o stop d
not_stopped (Ended PowerCut ∷ h) o stop d = d
not_stopped (Ended DeviceFault ∷ h) o stop d = d

-- ---- the law

abbrev rests : Woken → Law
rests placed = record {
  Down = λ h m. Done h → IsAtRest placed m.disk;
  Up = λ h m. m.disk ≡ settled_at m.disk.settled;
  Asks = λ h p. Unit {0};
  Wakes = λ h p. Unit {0};
  down = λ h m machine changed starts d. d;
  up = λ h m machine live changed u. u;
  over = λ h m u d. inl u;
  ordered_down = λ h m arming d all. d (before h (Ordered arming) all);
  ordered_up = λ h m arming u. u;
  saved = λ h m clone u. u;
  cutting = λ h m u. tt;
  cut = λ h m o u d. inl u;
  committing = λ h m tree u. tt;
  commits = λ h m tree u. refl;
  opens = λ h m tree o stop u d. absurd (not_stopped h o stop d);
  waking = λ h m d. tt;
  loading = λ h m w d. tt;
  loads = λ h m w d. refl;
  stops = λ h m w o stop d all. absurd (not_stopped (with_wake h m.disk w) o stop all);
}

by_start : (placed : Woken) (h : List Note) (m : RunState) (o : Option Start) → AtRest (rests placed) h m o → Done h
    → IsAtRest placed m.disk
by_start placed h m None r d = r d
by_start placed h m (Some s) r d = inl r

pub run_of-rests : (choice : Option ℕ → Choice) (script : List Event) (placed : Woken) (wakes : List Woken)
    (outcomes : List Outcome) (last : RunState) (left : List Woken) (over : List Outcome)
    → (run_of choice script placed wakes outcomes).rest ≡ Some (last, left, over)
    → Done (run_of choice script placed wakes outcomes).notes → IsAtRest placed last.disk
unfolding run_of
run_of-rests choice script placed wakes outcomes last left over is d =
    let a = run_from-along (rests placed) choice script [] (first_state placed) (λ all. inr refl) wakes outcomes in
    by_start placed (run_of choice script placed wakes outcomes).notes last last.machine.start (a.rest last left over is) d

pub settled_loads : (p : Possible) (c : Image) → p ≡ settled_at p.settled → MayLoad p c → Loads c p.settled false
settled_loads p c is may =
    let P : Possible → Type 0 = λ q. MayLoad q c in
    let here : MayLoad (settled_at p.settled) c = subst P is may in
    let Other : None ≡ Some here.woken.state → here.woken.state ≡ p.settled = λ e. absurd cc in
    let state : here.woken.state ≡ p.settled = ⊎_elim (λ e. e) Other here.possible.state in
    let Q : HiveState → Type 0 = λ s. Loads c s false in
    let R : Bool → Type 0 = λ b. Loads c here.woken.state b in
    subst Q state (subst R here.possible.dirty here.loads)
