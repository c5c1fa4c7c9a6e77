-- Acts of the book with what follows left open. (this project's own)
use Rattle.std.specs.Prelude.{false}
use Rattle.start_model.specs.Possible.{Woken, Outcome, Finished, PowerCut, DeviceFault, woken_at}
use Rattle.start_model.specs.Act.{Act, RunState, ask, say, mark, wake, Held, end_with}
use Rattle.start_model.specs.Boot.{woken_state, loaded_state}
use Rattle.report_words.specs.declared.words.Verdict.TheVariants as verdicts
use Rattle.report_words.specs.declared.line.Line.TheVariants.{Load as LoadLine}

-- the hive was loaded, its line is printed, and the run goes on; or the load was stopped, and the start ends
abbrev pub loaded : RunState → (RunState → Act) → Woken → Outcome → Act
loaded m next w Finished = say (LoadLine w.state.sequence w.dirty) (next (loaded_state m w))
loaded m next w PowerCut = end_with verdicts.Cut false (woken_state m w)
loaded m next w DeviceFault = end_with verdicts.Device false (woken_state m w)

-- the disk is turned on
abbrev pub woken : RunState → (RunState → Act) → Woken → Act
woken m next w = mark (Held w.state.tree) (ask (woken_at w) (loaded m next w))

-- a load: the disk wakes up, and then is asked for the hive
abbrev pub load : RunState → (RunState → Act) → Act
load m next = wake m.disk (woken m next)
