-- No edit of a text brings a key along.
use Rattle.std.proofs.Common.{ℕ, Bool, eqb, List, [], ◌∷◌, ◌++◌, length, ◌%◌, map, Option, Some, None, Result, Ok, Err, subst}
use Rattle.std.specs.Prelude.{IfOk}
use Rattle.std.specs.List.{All}
use Rattle.std.specs.Option.{option_map_or}
use Rattle.std.specs.Str.Lines.{lines}
use Rattle.std.proofs.lemmas.List.Elements.{All-nil, All-cons, All-append}
use Rattle.nt_bytes.specs.Text.{wide_of, trimmed}
use Rattle.nt_bytes.specs.Reading.{◌>>=◌}
use Rattle.hive_model.specs.Edit.{Step, set_value, delete_value, make_key, delete_key}
use Rattle.reg_tree.specs.declared.steps.TreeStep.{TreeStep}
use Rattle.reg_tree.specs.Makes.{step_of}
use Rattle.reg_tree.specs.Fitting.{Fits}
use Rattle.reg_text.specs.declared.stop.RegFaultKind.{RegFaultKind}
use Rattle.reg_text.specs.declared.stop.RegFaultKind.TheVariants.{Mark, Line}
use Rattle.reg_text.specs.declared.stop.RegFault.{RegFault}
use Rattle.reg_text.specs.declared.stop.RegStop.{RegStop}
use Rattle.reg_text.specs.declared.item.LineItem.{LineItem}
use Rattle.reg_text.specs.declared.item.LineItem.TheVariants.{Nothing, InKey, NoKey, Named, NoValue, GoesOn}
use Rattle.reg_text.specs.declared.state.State.{State}
use Rattle.reg_text.specs.Gives.{at_line, GivesSteps}
use Rattle.reg_text.specs.Items.{item_at}
use Rattle.reg_text.specs.Reading.{making, edits_of, number_of, state_after, line_said, with_edits, then_lines, lines_said, first_state, body_of, unended, closed, lines_behind, units_said, behind_mark, reg_steps_of}

abbrev Fit : List Step → Type 0
Fit steps = All Fits steps

no_step : Fit []
no_step = All-nil Fits

one_step : (step : Step) → Fits step → Fit (step ∷ [])
one_step step fits = All-cons Fits step [] fits no_step

making_fit : (above path : List (List ℕ)) → Fit (making above path)
making_fit above [] = no_step
making_fit above (name ∷ path) =
    All-cons Fits (make_key above name) (making (above ++ name ∷ []) path) tt (making_fit (above ++ name ∷ []) path)

-- the edits of a result, if it is one
abbrev FitsRead : Result (List Step) RegFaultKind → Type 0
FitsRead (Ok steps) = Fit steps
FitsRead (Err kind) = Unit {0}

edits_fit : (key : Option (List (List ℕ))) (item : LineItem) → FitsRead (edits_of key item)
edits_fit key Nothing = no_step
edits_fit key (InKey path) = making_fit [] path
edits_fit key (NoKey path) = one_step (delete_key path) tt
edits_fit None (Named name kind bytes) = tt
edits_fit (Some path) (Named name kind bytes) = one_step (set_value path name kind bytes) tt
edits_fit None (NoValue name) = tt
edits_fit (Some path) (NoValue name) = one_step (delete_value path name) tt
edits_fit None (GoesOn begun) = tt
edits_fit (Some path) (GoesOn begun) = no_step

abbrev FitsLine : Result (List Step × State) RegFaultKind → Type 0
FitsLine (Ok r) = Fit r.0
FitsLine (Err kind) = Unit {0}

abbrev FitsLines : Result (List Step × State) RegFault → Type 0
FitsLines (Ok r) = Fit r.0
FitsLines (Err f) = Unit {0}

edits_kept : (state : State) (item : LineItem) (r : Result (List Step) RegFaultKind) → FitsRead r
    → FitsLine (r >>= λ edits. Ok (edits, state_after state item))
edits_kept state item (Ok edits) fits = fits
edits_kept state item (Err kind) fits = tt

item_fits : (state : State) (r : Result LineItem RegFaultKind)
    → FitsLine (r >>= λ item. edits_of state.key item >>= λ edits. Ok (edits, state_after state item))
item_fits state (Ok item) = edits_kept state item (edits_of state.key item) (edits_fit state.key item)
item_fits state (Err kind) = tt

line_fits : (state : State) (line : List ℕ) → FitsLine (line_said state line)
unfolding line_said
line_fits state line = item_fits state (item_at state.begun (trimmed line))

placed_fits : (n : ℕ) (r : Result (List Step × State) RegFaultKind) → FitsLine r → FitsLines (at_line n r)
placed_fits n (Ok r) fits = fits
placed_fits n (Err kind) fits = tt

front_fits : (edits : List Step) (r : Result (List Step × State) RegFault) → Fit edits → FitsLines r
    → FitsLines (with_edits edits r)
front_fits edits (Ok r) fits more = All-append Fits edits r.0 fits more
front_fits edits (Err f) fits more = tt

then_fits : (r : Result (List Step × State) RegFault) (next : State → Result (List Step × State) RegFault) → FitsLines r
    → ((s : State) → FitsLines (next s)) → FitsLines (then_lines r next)
then_fits (Ok r) next fits more = front_fits r.0 (next r.1) fits (more r.1)
then_fits (Err f) next fits more = tt

lines_fit : (ls : List (List ℕ)) (state : State) → FitsLines (lines_said state ls)
unfolding lines_said
lines_fit [] state = no_step
lines_fit (line ∷ more) state =
    then_fits (at_line (number_of state) (line_said state line)) (λ next. lines_said next more)
    (placed_fits (number_of state) (line_said state line) (line_fits state line)) (lines_fit more)

behind_fits : (body : Result (List (List ℕ)) RegFaultKind) → FitsLines (lines_behind body)
behind_fits (Ok body) = lines_fit body first_state
behind_fits (Err kind) = tt

abbrev FitsText : Result (List Step) RegFault → Type 0
FitsText (Ok steps) = Fit steps
FitsText (Err f) = Unit {0}

whole_fits : (o : Option ℕ) (steps : List Step) → Fit steps
    → FitsText (option_map_or (λ n. Err (record { kind = Line; line = n })) o (Ok steps))
whole_fits None steps fits = fits
whole_fits (Some n) steps fits = tt

closed_fits : (units : List ℕ) (odd : Bool) (r : Result (List Step × State) RegFault) → FitsLines r
    → FitsText (closed units odd r)
closed_fits units odd (Ok r) fits = whole_fits (unended r.1 units odd) r.0 fits
closed_fits units odd (Err f) fits = tt

units_fit : (units : List ℕ) (odd : Bool) → FitsText (units_said units odd)
unfolding units_said
units_fit units odd = closed_fits units odd (lines_behind (body_of (lines units))) (behind_fits (body_of (lines units)))

marked_fits : (o : Option (List ℕ)) (odd : List ℕ → Bool)
    → FitsText (option_map_or (λ bytes. units_said (wide_of bytes) (odd bytes)) o
    (Err (record { kind = Mark; line = 0 })))
marked_fits None odd = tt
marked_fits (Some bytes) odd = units_fit (wide_of bytes) (odd bytes)

text_fits : (text : List ℕ) → FitsText (reg_steps_of text)
unfolding reg_steps_of
text_fits text = marked_fits (behind_mark text) (λ bytes. eqb (length bytes % 2) 1)

-- what was read fits
pub read_fits : (r : Result (List TreeStep) RegStop) (text : List ℕ) → GivesSteps r (reg_steps_of text)
    → IfOk r (λ steps. All Fits (map step_of steps))
read_fits (Ok steps) text gives = subst FitsText gives (text_fits text)
read_fits (Err stop) text gives = tt
