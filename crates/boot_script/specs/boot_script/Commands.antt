-- What event do the words of a line stand for? (this project's own)
--
--     boot [K] [lkg]           set PATH VALUE dword N      delete PATH VALUE    cut now KEEP
--     go [N]                   set PATH VALUE sz TEXT      make PATH            cut read|write|sync N KEEP
--     fail NAME N              set PATH VALUE multi TEXT.. remove PATH          fault read|write|sync N
--     vital NAME               set PATH VALUE binary HEX                        KEEP: none, all, odd, torn
--     flush  logon  off
--
-- A word that is missing, too many or unknown comes before a number that is out of its range.
use Rattle.std.specs.Prelude.{ℕ, true, false, ◌&&◌, List, [], ◌∷◌, Option, Some, None, Result, Ok, Err, if◌then◌else◌, codes}
use Rattle.std.specs.Str.{bytes_eq}
use Rattle.nt_bytes.specs.Text.{is_digits}
use Rattle.nt_bytes.specs.Reading.{◌>>=◌}
use Rattle.nt_edge.specs.declared.disk.Keep.{Keep}
use Rattle.nt_edge.specs.declared.disk.Keep.TheVariants.{Nothing, Everything, OddOnes, Torn}
use Rattle.nt_edge.specs.declared.disk.DiskCall.{DiskCall}
use Rattle.nt_edge.specs.declared.disk.DiskCall.TheVariants.{Read, Write, Sync}
use Rattle.boot_script.specs.declared.boot_script.event.Event.{Event}
use Rattle.boot_script.specs.declared.boot_script.event.Event.TheVariants.{Boot, Go, Fail, Vital, Set, Delete, Make, Remove, Flush, Logon, Off, CutNow, ArmCut, ArmFault}
use Rattle.boot_script.specs.declared.boot_script.stop.ScriptFaultKind.{ScriptFaultKind}
use Rattle.boot_script.specs.declared.boot_script.stop.ScriptFaultKind.TheVariants.{Word}
use Rattle.boot_script.specs.boot_script.Words.{number_from}
use Rattle.boot_script.specs.boot_script.Values.{path_of, data_of}

-- `boot [K] [lkg]`, K from 1
unfoldable pub boot_of : List (List ℕ) → Result Event ScriptFaultKind
boot_of [] = Ok (Boot None false)
boot_of (a ∷ []) =
    if bytes_eq a (codes "lkg") then Ok (Boot None true)
    else if is_digits a then (number_from 1 a >>= λ n. Ok (Boot (Some n) false)) else Err Word
boot_of (a ∷ b ∷ []) = if is_digits a && bytes_eq b (codes "lkg") then (number_from 1 a >>= λ n. Ok (Boot (Some n) true)) else Err Word
boot_of (a ∷ b ∷ c ∷ more) = Err Word

-- `go [N]`, N from 1
unfoldable pub go_of : List (List ℕ) → Result Event ScriptFaultKind
go_of [] = Ok (Go None)
go_of (a ∷ []) = number_from 1 a >>= λ n. Ok (Go (Some n))
go_of (a ∷ b ∷ more) = Err Word

-- `fail NAME N`, N from 0
unfoldable pub fail_of : List (List ℕ) → Result Event ScriptFaultKind
fail_of [] = Err Word
fail_of (a ∷ []) = Err Word
fail_of (a ∷ b ∷ []) = number_from 0 b >>= λ n. Ok (Fail a n)
fail_of (a ∷ b ∷ c ∷ more) = Err Word

-- `vital NAME`
unfoldable pub vital_of : List (List ℕ) → Result Event ScriptFaultKind
vital_of [] = Err Word
vital_of (a ∷ []) = Ok (Vital a)
vital_of (a ∷ b ∷ more) = Err Word

-- `set PATH VALUE ..`
unfoldable pub set_of : List (List ℕ) → Result Event ScriptFaultKind
set_of [] = Err Word
set_of (a ∷ []) = Err Word
set_of (a ∷ b ∷ []) = Err Word
set_of (a ∷ b ∷ c ∷ more) = data_of c more >>= λ d. Ok (Set (path_of a) b d.0 d.1)

-- `delete PATH VALUE`
unfoldable pub delete_of : List (List ℕ) → Result Event ScriptFaultKind
delete_of [] = Err Word
delete_of (a ∷ []) = Err Word
delete_of (a ∷ b ∷ []) = Ok (Delete (path_of a) b)
delete_of (a ∷ b ∷ c ∷ more) = Err Word

-- `make PATH`
unfoldable pub make_of : List (List ℕ) → Result Event ScriptFaultKind
make_of [] = Err Word
make_of (a ∷ []) = Ok (Make (path_of a))
make_of (a ∷ b ∷ more) = Err Word

-- `remove PATH`
unfoldable pub remove_of : List (List ℕ) → Result Event ScriptFaultKind
remove_of [] = Err Word
remove_of (a ∷ []) = Ok (Remove (path_of a))
remove_of (a ∷ b ∷ more) = Err Word

-- a command that is alone
abbrev pub alone_of : Event → List (List ℕ) → Result Event ScriptFaultKind
alone_of event [] = Ok event
alone_of event (a ∷ more) = Err Word

unfoldable pub keep_of : List ℕ → Result Keep ScriptFaultKind
keep_of word =
    if bytes_eq word (codes "none") then Ok Nothing
    else if bytes_eq word (codes "all") then Ok Everything
    else if bytes_eq word (codes "odd") then Ok OddOnes
    else if bytes_eq word (codes "torn") then Ok Torn
    else Err Word

unfoldable pub call_of : List ℕ → Result DiskCall ScriptFaultKind
call_of word =
    if bytes_eq word (codes "read") then Ok Read
    else if bytes_eq word (codes "write") then Ok Write
    else if bytes_eq word (codes "sync") then Ok Sync
    else Err Word

-- `cut now KEEP`, `cut CALL N KEEP`, N from 1
unfoldable pub cut_of : List (List ℕ) → Result Event ScriptFaultKind
cut_of [] = Err Word
cut_of (a ∷ []) = Err Word
cut_of (a ∷ b ∷ []) = if bytes_eq a (codes "now") then (keep_of b >>= λ keep. Ok (CutNow keep)) else Err Word
cut_of (a ∷ b ∷ c ∷ []) = call_of a >>= λ call. keep_of c >>= λ keep. number_from 1 b >>= λ n. Ok (ArmCut call n keep)
cut_of (a ∷ b ∷ c ∷ d ∷ more) = Err Word

-- `fault CALL N`, N from 1
unfoldable pub fault_of : List (List ℕ) → Result Event ScriptFaultKind
fault_of [] = Err Word
fault_of (a ∷ []) = Err Word
fault_of (a ∷ b ∷ []) = call_of a >>= λ call. number_from 1 b >>= λ n. Ok (ArmFault call n)
fault_of (a ∷ b ∷ c ∷ more) = Err Word

-- the commands that change the tree
unfoldable pub edit_of : List ℕ → List (List ℕ) → Result Event ScriptFaultKind
edit_of name words =
    if bytes_eq name (codes "set") then set_of words
    else if bytes_eq name (codes "delete") then delete_of words
    else if bytes_eq name (codes "make") then make_of words
    else if bytes_eq name (codes "remove") then remove_of words
    else Err Word

-- the event of a command with these words after it
unfoldable pub command_of : List ℕ → List (List ℕ) → Result Event ScriptFaultKind
command_of name words =
    if bytes_eq name (codes "boot") then boot_of words
    else if bytes_eq name (codes "go") then go_of words
    else if bytes_eq name (codes "fail") then fail_of words
    else if bytes_eq name (codes "vital") then vital_of words
    else if bytes_eq name (codes "flush") then alone_of Flush words
    else if bytes_eq name (codes "logon") then alone_of Logon words
    else if bytes_eq name (codes "off") then alone_of Off words
    else if bytes_eq name (codes "cut") then cut_of words
    else if bytes_eq name (codes "fault") then fault_of words
    else edit_of name words

-- the event of a line with these words; a line without words has none
unfoldable pub event_of : List (List ℕ) → Result (Option Event) ScriptFaultKind
event_of [] = Ok None
event_of (name ∷ words) = command_of name words >>= λ e. Ok (Some e)
