-- Events without an order for the disk, and the probe after them.
use Rattle.std.proofs.Common.{◌≡◌, ℕ, length, List, [], ◌∷◌, ◌++◌, map, sym, ap, subst, ◌∙◌}
use Rattle.std.specs.Prelude.{Option, take}
use Rattle.std.specs.List.{All}
use Rattle.std.proofs.Math.Seq.{take-append_seam}
use Rattle.std.proofs.lemmas.List.Elements.{All-head, All-tail, All-push, All-take, All-same}
use Rattle.boot_script.specs.declared.boot_script.event.Event.{Event}
use Rattle.boot_script.specs.declared.boot_script.event.Event.TheVariants as events
use Rattle.boot_machine.specs.boot_machine.Views.{event_in}
use Rattle.command_parts.specs.declared.command_parts.inputs.HiveFiles.{HiveFiles}
use Rattle.start_model.specs.Boot.{Choice}
use Rattle.kept_laws.specs.order_laws.Unordered.{AreUnordered, IsUnordered as OrdersNone}
use Rattle.boot_script.specs.sweep_script.Sweep.{events_of, IsUnordered}
use Rattle.sweep_command.specs.declared.sweep_run.playing.Played.{Played}
use Rattle.boot_script.specs.declared.sweep_script.reading.SweepScript.{SweepScript}
use Rattle.sweep_command.specs.sweep_command.Answer.{probe_event, PlaysProbed, ArePlayed, PlaysAll}

orders_none : (e : Event) → IsUnordered e → OrdersNone (event_in e)
orders_none (events.Boot entry good) is = tt
orders_none (events.Go steps) is = tt
orders_none (events.Fail name count) is = tt
orders_none (events.Vital name) is = tt
orders_none (events.Set path name kind bytes) is = tt
orders_none (events.Delete path name) is = tt
orders_none (events.Make path) is = tt
orders_none (events.Remove path) is = tt
orders_none events.Flush is = tt
orders_none events.Logon is = tt
orders_none events.Off is = tt
orders_none (events.CutNow keep) is = absurd is
orders_none (events.ArmCut call n keep) is = absurd is
orders_none (events.ArmFault call n) is = absurd is

pub order_none : (es : List Event) → All IsUnordered es → AreUnordered (map event_in es)
order_none [] all = tt
order_none (e ∷ es) all = (orders_none e (All-head IsUnordered e es all), order_none es (All-tail IsUnordered e es all))

-- what is true of the events and of the probe is true of these with the probe after them
pub all_probed : (P : Event → Type 0) (events probed : List Event) (e : Event)
    → probed ≡ events ++ e ∷ [] → e ≡ probe_event → All P events → P probe_event → All P probed
all_probed P events probed e is named all one =
    subst (All P) (sym (is ∙ ap (λ (x : Event). events ++ x ∷ []) named)) (All-push P events probe_event all one)

-- what is true of all events of a script is true of those before the last
pub all_before : (P : Event → Type 0) (script : SweepScript) (before : List Event)
    → before ≡ script.before → All P (events_of script) → All P before
all_before P script before is all =
    All-same P before script.before is
    (subst (All P) (take-append_seam script.before (script.event ∷ [])) (All-take P (length script.before) (events_of script) all))

-- and of them all
pub all_given : (P : Event → Type 0) (script : SweepScript) (before back whole : List Event)
    → before ≡ script.before → back ≡ before → whole ≡ back ++ script.event ∷ [] → All P (events_of script) → All P whole
all_given P script before back whole is given added all =
    All-same P whole (events_of script) (added ∙ ap (λ (es : List Event). es ++ script.event ∷ []) (given ∙ is)) all

-- and the events are given back
pub given_back : (events probed back : List Event) (count : ℕ) (e : Event)
    → count ≡ length events → probed ≡ events ++ e ∷ [] → back ≡ take count probed → back ≡ events
given_back events probed back count e counted is cut =
    cut ∙ ap (λ (n : ℕ). take n probed) counted ∙ ap (take (length events)) is ∙ take-append_seam events (e ∷ [])

pub played_probed : (choice : Option ℕ → Choice) (hive : HiveFiles) (events probed : List Event) (e : Event) (played : Played)
    → probed ≡ events ++ e ∷ [] → e ≡ probe_event → PlaysAll choice hive probed played
    → PlaysAll choice hive (events ++ probe_event ∷ []) played
played_probed choice hive events probed e played is named plays =
    subst (λ (es : List Event). PlaysAll choice hive es played)
    (is ∙ ap (λ (x : Event). events ++ x ∷ []) named) plays

-- the events before were played, and then these with the event
pub both : (choice : Option ℕ → Choice) (hive : HiveFiles) (script : SweepScript) (before back whole rest : List Event) (e : Event)
    (first second : Played)
    → before ≡ script.before → PlaysProbed choice hive before (first, back)
    → whole ≡ back ++ e ∷ [] → e ≡ script.event → PlaysProbed choice hive whole (second, rest)
    → ArePlayed choice hive script (first, second)
both choice hive script before back whole rest e first second is one added named two = λ placed loads. (
  subst (λ (es : List Event). PlaysAll choice hive (es ++ probe_event ∷ []) first) is one.1 placed loads,
  subst (λ (es : List Event). PlaysAll choice hive (es ++ probe_event ∷ []) second)
      (added ∙ ap (λ (es : List Event). es ++ e ∷ []) (one.0 ∙ is) ∙ ap (λ (x : Event). script.before ++ x ∷ []) named)
      two.1 placed loads,
)
