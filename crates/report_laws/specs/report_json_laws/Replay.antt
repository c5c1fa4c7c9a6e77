-- How is a line of `replay` read from its object? (this project's own)
use Rattle.std.specs.Prelude.{ℕ, if◌then◌else◌, List, [], ◌∷◌, ◌++◌, codes}
use Rattle.std.specs.Str.{bytes_eq}
use Rattle.std.specs.Fmt.{decimal}
use Rattle.report_text.specs.line_text.Objects.{Number, Text}
use Rattle.json_laws.specs.Reports.{Fields, Reader, Said, said}
use Rattle.log_replay.specs.declared.line.ReplayLine.{ReplayLine}
use Rattle.repair_commands.specs.replay_text.Lines.{line_text, word_of, fields_of}

abbrev pub said_of : ReplayLine → Said
said_of line = said (line_text line) (word_of line) (fields_of line)

-- ---- a log, by its name and its form

abbrev pub log_front : List ℕ → List ℕ → List ℕ
log_front name form = codes "log " ++ name ++ codes " " ++ form

abbrev pub log_line : Fields → List ℕ
log_line ((a, Text name) ∷ (b, Text form) ∷ []) = log_front name (form ++ codes "\n")
log_line ((a, Text name) ∷ (b, Text form) ∷ (c, Number none) ∷ []) = log_front name (form ++ codes " 0\n")
log_line ((a, Text name) ∷ (b, Text form) ∷ (c, Number count) ∷ (d, Number from) ∷ (e, Number to) ∷ []) =
    log_front name (form ++ codes " ") ++ decimal count ++ codes " " ++ decimal from ++ codes " " ++ decimal to ++ codes "\n"
log_line ((a, Text name) ∷ (b, Text form) ∷ (c, Number number) ∷ (d, Number sectors) ∷ []) =
    log_front name (form ++ codes " ") ++ decimal number ++ codes " sectors " ++ decimal sectors ++ codes "\n"
log_line ((a, Text name) ∷ (b, Text form) ∷ (c, Number number) ∷ (d, Text other) ∷ []) =
    log_front name (form ++ codes " ") ++ decimal number ++ codes " other " ++ other ++ codes "\n"
log_line other = []

-- ---- the others

abbrev pub fault_line : Fields → List ℕ
fault_line ((a, Text kind) ∷ (b, Text name) ∷ (c, Number at) ∷ []) = codes "fault " ++ kind ++ codes " " ++ name ++ codes " " ++ decimal at ++ codes "\n"
fault_line other = []

abbrev pub apply_line : Fields → List ℕ
apply_line ((a, Text name) ∷ (b, Number number) ∷ (c, Number bytes) ∷ []) =
    codes "apply " ++ name ++ codes " " ++ decimal number ++ codes " bytes " ++ decimal bytes ++ codes "\n"
apply_line other = []

abbrev pub other_line : List ℕ → Fields → List ℕ
other_line word [] = word ++ codes "\n"
other_line word ((a, Text refused) ∷ []) = word ++ codes " refused " ++ refused ++ codes "\n"
other_line word ((a, Number n) ∷ (b, Number m) ∷ []) = codes "saved " ++ decimal n ++ codes " " ++ decimal m ++ codes "\n"
other_line word ((a, Number first) ∷ (b, Number second) ∷ (c, Text state) ∷ []) =
    codes "sequence " ++ decimal first ++ codes " " ++ decimal second ++ codes " " ++ state ++ codes "\n"
other_line word ((a, Number applied) ∷ (b, Number first) ∷ (c, Number second) ∷ []) =
    codes "replayed " ++ decimal applied ++ codes " sequence " ++ decimal first ++ codes " " ++ decimal second ++ codes "\n"
other_line word other = []

abbrev pub replay_reader : Reader
replay_reader word fields =
    if bytes_eq word (codes "log") then log_line fields
    else if bytes_eq word (codes "fault") then fault_line fields
    else if bytes_eq word (codes "apply") then apply_line fields
    else other_line word fields
