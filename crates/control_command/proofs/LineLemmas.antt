-- Lines in sequence, as the loop reads them.
use Rattle.std.proofs.Common.{◌≡◌, ℕ, ◌+◌, List, [], ◌∷◌, ◌++◌, length, Result, Ok, Err, refl, sym, ap, ◌∙◌, append_assoc, arith}
use Rattle.std.proofs.lemmas.List.{append-nil}
use Rattle.std.specs.Prelude.{option_to_list}
use Rattle.std.specs.Str.Lines.{lines}
use Rattle.boot_script.specs.declared.boot_script.stop.ScriptFault.{ScriptFault}
use Rattle.boot_script.specs.declared.boot_script.stop.ScriptStop.{ScriptStop}
use Rattle.boot_script.specs.declared.boot_script.stop.ScriptStop.TheVariants as stops
use Rattle.control_command.specs.declared.command.ControlCommand.{ControlCommand}
use Rattle.control_command.specs.Commands.{commands_from, TakesLine, RefusesLine}
use Rattle.boot_script.specs.boot_script.Script.{FailsBy, put_before}

regroup : (front adds : List ControlCommand) (read : Result (List ControlCommand) ScriptFault)
    → put_before front (put_before adds read) ≡ put_before (front ++ adds) read
regroup front adds (Ok commands) = ap (λ (cs : List ControlCommand). Ok cs) (sym (append_assoc front adds commands))
regroup front adds (Err f) = refl

pub goes_on : (front new : List ControlCommand) (n : ℕ) (text line rest : List ℕ)
    (total : Result (List ControlCommand) ScriptFault)
    → lines text ≡ line ∷ lines rest → TakesLine front new line
    → put_before front (commands_from n (lines text)) ≡ total
    → put_before new (commands_from (n + 1) (lines rest)) ≡ total
unfolding commands_from
goes_on front new n text line rest total first takes so_far =
    let one : put_before front (commands_from n (lines text)) ≡ put_before new (commands_from (n + 1) (lines rest)) =
    rw (first, takes.reads) (regroup front (option_to_list takes.command) (commands_from (n + 1) (lines rest))
    ∙ rw takes.adds refl) in
    sym one ∙ so_far

pub refuses : (stop : ScriptStop) (front : List ControlCommand) (n : ℕ) (text line rest : List ℕ)
    (total : Result (List ControlCommand) ScriptFault) → lines text ≡ line ∷ lines rest → RefusesLine line n stop
    → put_before front (commands_from n (lines text)) ≡ total → FailsBy stop total
unfolding commands_from
refuses stops.Memory front n text line rest total first refused so_far = tt
refuses (stops.Fault f) front n text line rest total first refused so_far =
    sym so_far ∙ rw first (ap (put_before front) (refused (commands_from (n + 1) (lines rest))))

pub ends : (front : List ControlCommand) (n : ℕ) (text : List ℕ) (total : Result (List ControlCommand) ScriptFault)
    → length text ≡ 0
    → put_before front (commands_from n (lines text)) ≡ total → total ≡ Ok front
unfolding commands_from
ends front n [] total none so_far = sym so_far ∙ ap (λ (cs : List ControlCommand). Ok cs) (append-nil front)
ends front n (c ∷ text) total none so_far = absurd (omega arith)
