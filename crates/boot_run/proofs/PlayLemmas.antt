-- Parts of an event under another name, one after another and given up, and what a sound runner's disk may load as.
use Rattle.std.proofs.Common.{◌≡◌, Bool, true, [], ◌∷◌, Option, Some, None, refl, sym, ap, subst, ◌∙◌}
use Rattle.std.specs.Prelude.{Result, Ok, Err, IfOk, OnOk}
use Rattle.std.specs.Result.{is_err}
use Rattle.hive_model.specs.Image.{Image}
use Rattle.hive_model.specs.Tree.{Tree}
use Rattle.nt_edge.specs.Disk.{DiskState}
use Rattle.nt_edge.specs.Crash.{EachCrash}
use Rattle.nt_edge.specs.Host.{SaysFront}
use Rattle.hive_store.specs.Session.{Session}
use Rattle.report_words.specs.declared.words.Verdict.{Verdict}
use Rattle.report_words.specs.declared.line.Line.{Line}
use Rattle.start_model.specs.Fits.{outcomes_in, MayLoad}
use Rattle.start_model.specs.Machine.{Start, MachineState}
use Rattle.start_model.specs.Possible.{Possible}
use Rattle.start_model.specs.Act.{Act, RunState, done, say, end_with}
use Rattle.start_model.specs.Run.{play}
use Rattle.report_text.specs.line_objects.Objects.{printed}
use Rattle.run_parts.specs.run_parts.Parts.{Stays}
use Rattle.run_parts.proofs.CountLemmas.{still}
use Rattle.run_parts.specs.printed_parts.Parts.{Told, Tells, Goes, PlaysOr, TellsOr}
use Rattle.run_parts.proofs.GoesLemmas.{Idle, idle, goes-then, goes-line, goes-nothing}
use Rattle.run_parts.proofs.BreakLemmas.{or-breaks, breaks-silent, breaks-then, breaks-line}
use Rattle.boot_run.specs.declared.runner.Runner.{Runner}
use Rattle.boot_run.specs.declared.stop.RunStop.{RunStop}
use Rattle.boot_run.specs.Agrees.{IsUp, IsStored, IsLive, IsSound, IsRunningBy, Counts, AgreesBy, TurnLeft, OffLeft, OnLeft}
use Rattle.boot_run.specs.Hosts.{LeavesHost}
use Rattle.boot_run.specs.Turns.{Stage, Turns, Ends}
use Rattle.boot_run.specs.Views.{Moment, moment, RunsTo}
use Rattle.run_parts.proofs.ChainLemmas.{still_leaves}
use Rattle.boot_run.proofs.DiskLemmas.{settled_loads}

-- what was reported, and the disk
abbrev pub seen : Told → DiskState → Moment
seen told disk = record { told = told; disk = disk }

-- ---- the same part

-- the same act under another name
pub plays-as : {T : Type 0} {a b : Act} {x y : Moment} {r : Result T RunStop} {Left : T → Act → Type 0} → a ≡ b
    → RunsTo a x y r Left → RunsTo b x y r Left
plays-as is p = rw is at p

left_by : {T : Type 0} → (r : Result T RunStop) (Left Left' : T → Act → Type 0) (a : Act) (x y : Told) (d e : DiskState)
    → PlaysOr a x y d e r Left → ((v : T) (rest : Act) → Left v rest → Left' v rest) → PlaysOr a x y d e r Left'
left_by (Ok v) Left Left' a x y d e p f = (p.0, (p.1.0, f v p.0 p.1.1))
left_by (Err stop) Left Left' a x y d e p f = p

-- other things are known of its rest
pub plays-left : {T : Type 0} {a : Act} {x y : Moment} {r : Result T RunStop} {Left Left' : T → Act → Type 0}
    → RunsTo a x y r Left → ((v : T) (rest : Act) → Left v rest → Left' v rest) → RunsTo a x y r Left'
plays-left {a = a} {x = x} {y = y} {r = r} p f =
    record { is = left_by r _ _ a x.told y.told x.disk y.disk p.is f }

-- a part that was played, by another answer
pub plays-ok : {T U : Type 0} {a : Act} {x y : Moment} {v : U} {w : T} {L : U → Act → Type 0} {Left : T → Act → Type 0}
    → RunsTo a x y (Ok v) L → ((rest : Act) → L v rest → Left w rest) → RunsTo a x y (Ok w) Left
plays-ok p f = record { is = (p.is.0, (p.is.1.0, f p.is.0 p.is.1.1)) }

-- a part that was given up, by another refusal
pub plays-err : {T U : Type 0} {a : Act} {x y : Moment} {r : Result T RunStop} {Left : T → Act → Type 0} {stop : RunStop}
    {L : U → Act → Type 0} → is_err r ≡ true → RunsTo {T = U} a x y (Err stop) L → RunsTo a x y r Left
plays-err {a = a} {x = x} {y = y} {r = r} {Left = Left} h p =
    record { is = or-breaks Left r h a x.told y.told x.disk y.disk p.is }

-- ---- one after another

then_by : {T : Type 0} → (r : Result T RunStop) (Left : T → Act → Type 0) (a b : Act) (x y z : Told) (d e f : DiskState)
    → Goes (play a) (play b) x y d e → PlaysOr b y z e f r Left → PlaysOr a x z d f r Left
then_by (Ok v) Left a b x y z d e f g p =
    (p.0, (goes-then (play a) (play b) (play p.0) x y z d e f g p.1.0, p.1.1))
then_by (Err stop) Left a b x y z d e f g p = breaks-then a b x y z.said d e f g p

pub plays-then : {T : Type 0} {a b : Act} {x y z : Moment} {r : Result T RunStop} {Left : T → Act → Type 0}
    → Goes (play a) (play b) x.told y.told x.disk y.disk → RunsTo b y z r Left → RunsTo a x z r Left
plays-then {a = a} {b = b} {x = x} {y = y} {z = z} {r = r} {Left = Left} g p =
    record { is = then_by r Left a b x.told y.told z.told x.disk y.disk z.disk g p.is }

-- what was left of the first is played by the second
pub plays-on : {T U : Type 0} {a : Act} {x y z : Moment} {v : U} {L : U → Act → Type 0} {r : Result T RunStop}
    {Left : T → Act → Type 0} → RunsTo a x y (Ok v) L → ((rest : Act) → L v rest → RunsTo rest y z r Left)
    → RunsTo a x z r Left
plays-on p q = plays-then p.is.1.0 (q p.is.0 p.is.1.1)

-- ---- a line that reports no outcome

-- it was reported, and the rest was played
pub plays-line : {T : Type 0} {l : Line} {rest : Act} {t : Told} {x z : Moment} {r : Result T RunStop}
    {Left : T → Act → Type 0} → outcomes_in (l ∷ []) ≡ [] → Tells x.told t (l ∷ [])
    → RunsTo rest (seen t x.disk) z r Left → RunsTo (say l rest) x z r Left
plays-line {l = l} {rest = rest} {t = t} {x = x} none said p =
    plays-then (goes-line l rest x.told t x.disk x.disk (idle x.disk) none said) p

-- a prefix of it was printed, and the call was refused
pub plays-front : {T : Type 0} {l : Line} {rest : Act} {t : Told} {x : Moment} {r : Result T RunStop}
    {Left : T → Act → Type 0} → is_err r ≡ true → outcomes_in (l ∷ []) ≡ []
    → SaysFront x.told.said t.said (printed x.told.form l) → EachCrash x.disk (MayLoad (play rest [] []).disk)
    → RunsTo (say l rest) x (seen t x.disk) r Left
plays-front {l = l} {rest = rest} {t = t} {x = x} {r = r} {Left = Left} h none front left =
    record {
      is = or-breaks Left r h (say l rest) x.told t x.disk x.disk
          (breaks-line l rest x.told t.said x.disk x.disk (idle x.disk) none front left);
    }

said_by : {T : Type 0} → (r : Result T RunStop) (Left : T → Act → Type 0) (l : Line) (rest : Act) (x y : Told)
    (d e : DiskState) → Idle d e → outcomes_in (l ∷ []) ≡ [] → TellsOr l x y r
    → EachCrash e (MayLoad (play rest [] []).disk) → ((v : T) → Left v rest) → PlaysOr (say l rest) x y d e r Left
said_by (Ok v) Left l rest x y d e s none said left f = (rest, (goes-line l rest x y d e s none said, f v))
said_by (Err stop) Left l rest x y d e s none said left f = breaks-line l rest x y.said d e s none said left

-- either, and the rest is left
pub plays-said : {T : Type 0} {l : Line} {rest : Act} {x y : Moment} {r : Result T RunStop} {Left : T → Act → Type 0}
    → Idle x.disk y.disk → outcomes_in (l ∷ []) ≡ [] → TellsOr l x.told y.told r
    → EachCrash y.disk (MayLoad (play rest [] []).disk) → ((v : T) → Left v rest) → RunsTo (say l rest) x y r Left
plays-said {l = l} {rest = rest} {x = x} {y = y} {r = r} {Left = Left} s none said left f =
    record { is = said_by r Left l rest x.told y.told x.disk y.disk s none said left f }

-- the same line
pub say_as : {l k : Line} {rest whole : Act} → l ≡ k → say k rest ≡ whole → say l rest ≡ whole
say_as {rest = rest} is same = ap (λ (n : Line). say n rest) is ∙ same

-- ---- nothing was done

-- the act is left as it was
pub plays-here : {T : Type 0} {a rest : Act} {x : Moment} {v : T} {Left : T → Act → Type 0} → rest ≡ a → Left v rest
    → RunsTo a x x (Ok v) Left
plays-here {a = a} {rest = rest} {x = x} is left =
    plays-as is (record { is = (rest, (goes-nothing (play rest) x.told x.disk x.disk (idle x.disk), left)) })

-- nothing was printed, and the call was refused
pub plays-silent : {T : Type 0} {a : Act} {x : Moment} {r : Result T RunStop} {Left : T → Act → Type 0} → is_err r ≡ true
    → EachCrash x.disk (MayLoad (play a [] []).disk) → RunsTo a x x r Left
plays-silent {a = a} {x = x} {r = r} {Left = Left} h left =
    record {
      is = or-breaks Left r h a x.told x.told x.disk x.disk (breaks-silent a x.told x.disk x.disk (still x.disk) left);
    }

-- ---- a session and its disk

pub stored : {m : RunState} {s : Session} {d : DiskState} → IsLive m s d → IsStored m s d
stored live = record
    { sequence = live.sequence; version = live.version; settled = live.settled; loads = live.loads }

-- what the disk of a session may load as
pub live_left : {m : RunState} {s : Session} {d : DiskState} → IsUp s d → IsLive m s d → EachCrash d (MayLoad m.disk)
live_left {m = m} {d = d} up live =
    let P : Possible → Type 0 = λ p. MayLoad p d.held in
    still_leaves d (MayLoad m.disk) up.still
    (subst P (sym live.settled) (settled_loads d.held m.disk.settled live.loads))

pub none_open : {m : RunState} {s : Session} {d : DiskState} → IsLive m s d → m.disk.other ≡ None
none_open live = ap (λ (p : Possible). p.other) live.settled

-- the act leaves the disk as the state has it, where nothing more happens
abbrev pub Rests : RunState → Act → Type 0
Rests m a = (c : Image) → m.disk.other ≡ None → MayLoad m.disk c → MayLoad (play a [] []).disk c

pub rests_left : {m : RunState} {s : Session} {d : DiskState} → (a : Act) → Rests m a → IsUp s d → IsLive m s d
    → EachCrash d (MayLoad (play a [] []).disk)
rests_left a rests up live = λ image crash. rests image (none_open live) (live_left up live image crash)

-- nothing of it was printed, and the call was refused
pub rests-silent : {T : Type 0} {a : Act} {m : RunState} {s : Session} {x : Moment} {r : Result T RunStop}
    {Left : T → Act → Type 0} → is_err r ≡ true → Rests m a → IsUp s x.disk → IsLive m s x.disk → RunsTo a x x r Left
rests-silent {a = a} h rests up live = plays-silent h (rests_left a rests up live)

-- a prefix of its first line was printed, and the call was refused
pub rests-front : {T : Type 0} {l : Line} {rest : Act} {t : Told} {m : RunState} {s : Session} {x : Moment}
    {r : Result T RunStop} {Left : T → Act → Type 0} → is_err r ≡ true → outcomes_in (l ∷ []) ≡ []
    → SaysFront x.told.said t.said (printed x.told.form l) → Rests m rest → IsUp s x.disk → IsLive m s x.disk
    → RunsTo (say l rest) x (seen t x.disk) r Left
rests-front {rest = rest} h none front rests up live = plays-front h none front (rests_left rest rests up live)

pub agrees_left : (m : RunState) (r : Runner) (d : DiskState) (hive : Option Session) → IsSound r d hive
    → AgreesBy m d hive → EachCrash d (MayLoad m.disk)
agrees_left m r d None sound by = by
agrees_left m r d (Some s) sound by = live_left sound.0 by

pub stays_done : Stays done
stays_done m c none h = h

pub stays_end : (word : Verdict) (falls : Bool) → Stays (end_with word falls)
stays_end word falls m c none h = h

-- an act at its end
pub here_turn : {m : RunState} {r : Runner} {d : DiskState} {hive : Option Session} → Counts m r → AgreesBy m d hive
    → TurnLeft r d hive (done m)
here_turn {m = m} counts by = record { after = m; is = refl; agrees = record { counts = counts; by = by } }

-- an act that is at its end
pub turn_left : {n : RunState} {r : Runner} {d : DiskState} {rest : Act} → (hive : Option Session)
    → (rest ≡ done n) × (Counts n r × AgreesBy n d hive) → TurnLeft r d hive rest
turn_left {n = n} hive h = record { after = n; is = h.0; agrees = record { counts = h.1.0; by = h.1.1 } }

-- the run goes on from the state
pub on_left : (next : RunState → Act) {m : RunState} {r : Runner} {s : Session} {d : DiskState} → Counts m r
    → IsLive m s d → OnLeft next r d (Some s) (next m)
on_left next {m = m} counts live = (m, (refl, record { counts = counts; by = live }))

-- ---- the runner's machine

pub counted : (m : RunState) (r : Runner) → Counts m r → m.machine.start ≡ r.machine.start
counted m r counts = ap (λ (k : MachineState). k.start) counts.machine

-- a start runs
pub started : {m : RunState} {r : Runner} (tree : Tree) → Counts m r → IsRunningBy r.machine.start tree
    → (s : Start) × (m.machine.start ≡ Some s)
started {m = m} {r = r} tree counts on = let p = by_start r.machine.start on in (p.0, counted m r counts ∙ p.1)
  where
    by_start : (o : Option Start) → IsRunningBy o tree → (s : Start) × (o ≡ Some s)
    by_start None h = absurd h
    by_start (Some s) h = (s, refl)

-- ---- all that a call leaves

pub turns : {act : RunState → Act} {hive : Option Session} {x y : Stage} {result : Result (Option Session) RunStop}
    → IfOk result (IsSound y.runner y.disk) → LeavesHost result x.host y.host
    → ((m : RunState) → x.host.tells ≡ true → Counts m x.runner → AgreesBy m x.disk hive
    → RunsTo (act m) (moment x.host x.runner x.disk) (moment y.host y.runner y.disk) result (TurnLeft y.runner y.disk))
    → Turns act hive x y result
turns sound host plays = record { sound = sound; plays = plays; host = host }

pub ends : {act : RunState → Act} {hive : Option Session} {x y : Stage} {result : Result (Unit {0}) RunStop}
    → OnOk result (IsSound y.runner y.disk None) → LeavesHost result x.host y.host
    → ((m : RunState) → x.host.tells ≡ true → Counts m x.runner → AgreesBy m x.disk hive
    → RunsTo (act m) (moment x.host x.runner x.disk) (moment y.host y.runner y.disk) result (OffLeft y.runner y.disk))
    → Ends act hive x y result
ends sound host plays = record { sound = sound; plays = plays; host = host }
