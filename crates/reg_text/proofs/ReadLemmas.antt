-- Lines in sequence, as the loop reads them.
use Rattle.std.proofs.Common.{◌≡◌, ℕ, List, [], ◌∷◌, ◌++◌, length, map, Result, Ok, Err, refl, sym, ap, ◌∙◌, append_assoc, arith}
use Rattle.std.proofs.lemmas.List.{append-nil}
use Rattle.std.specs.Str.Lines.{lines}
use Rattle.hive_model.specs.Edit.{Step}
use Rattle.reg_tree.specs.declared.steps.TreeStep.{TreeStep}
use Rattle.reg_tree.specs.Makes.{step_of}
use Rattle.reg_text.specs.declared.stop.RegFault.{RegFault}
use Rattle.reg_text.specs.declared.stop.RegStop.{RegStop}
use Rattle.reg_text.specs.declared.stop.RegStop.TheVariants as stops
use Rattle.reg_text.specs.declared.state.State.{State}
use Rattle.reg_text.specs.Gives.{at_line, FailsBy}
use Rattle.reg_text.specs.Reading.{number_of, line_said, with_edits, then_lines, lines_said}
use Rattle.reg_text.specs.Takes.{TakesLine}

abbrev Read : Type 0
Read = Result (List Step × State) RegFault

pub regroup : (front edits : List Step) (read : Read)
    → with_edits front (with_edits edits read) ≡ with_edits (front ++ edits) read
regroup front edits (Ok r) = ap (λ (es : List Step). Ok (es, r.1)) (sym (append_assoc front edits r.0))
regroup front edits (Err f) = refl

pub one_line : (state after : State) (line : List ℕ) (more : List (List ℕ)) (edits : List Step)
    → line_said state line ≡ Ok (edits, after)
    → lines_said state (line ∷ more) ≡ with_edits edits (lines_said after more)
unfolding lines_said
one_line state after line more edits read = rw read refl

pub goes_on : (old new : List TreeStep) (state after : State) (text line rest : List ℕ) (total : Read)
    → lines text ≡ line ∷ lines rest
    → TakesLine old new (line_said state line) after
    → with_edits (map step_of old) (lines_said state (lines text)) ≡ total
    → with_edits (map step_of new) (lines_said after (lines rest)) ≡ total
goes_on old new state after text line rest total first takes so_far =
    let front : List Step = map step_of old in
    let one : with_edits front (lines_said state (lines text))
    ≡ with_edits (map step_of new) (lines_said after (lines rest)) =
    ap (λ (ls : List (List ℕ)). with_edits front (lines_said state ls)) first
    ∙ ap (with_edits front) (one_line state after line (lines rest) takes.edits takes.reads)
    ∙ regroup front takes.edits (lines_said after (lines rest))
    ∙ ap (λ (es : List Step). with_edits es (lines_said after (lines rest))) (sym takes.adds) in
    sym one ∙ so_far

no_line : (state : State) (line : List ℕ) (more : List (List ℕ)) (f : RegFault)
    → at_line (number_of state) (line_said state line) ≡ Err f
    → lines_said state (line ∷ more) ≡ Err f
unfolding lines_said
no_line state line more f read = ap (λ (r : Read). then_lines r (λ next. lines_said next more)) read

pub refuses : (stop : RegStop) (front : List Step) (state : State) (text line rest : List ℕ) (total : Read)
    → lines text ≡ line ∷ lines rest
    → FailsBy stop (at_line (number_of state) (line_said state line))
    → with_edits front (lines_said state (lines text)) ≡ total
    → FailsBy stop total
refuses stops.Memory front state text line rest total first refused so_far = tt
refuses (stops.Fault f) front state text line rest total first refused so_far =
    sym so_far ∙ ap (λ (ls : List (List ℕ)). with_edits front (lines_said state ls)) first
    ∙ ap (with_edits front) (no_line state line (lines rest) f refused)

pub ends : (front : List Step) (state : State) (text : List ℕ) (total : Read) → length text ≡ 0
    → with_edits front (lines_said state (lines text)) ≡ total → total ≡ Ok (front, state)
unfolding lines_said
ends front state [] total none so_far = sym so_far ∙ ap (λ (es : List Step). Ok (es, state)) (append-nil front)
ends front state (c ∷ text) total none so_far = absurd (omega arith)
