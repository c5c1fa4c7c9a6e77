-- The lines of boot.ini, the sections in which they stand, and the keys and values of `[boot loader]` (Microsoft's
-- documentation of boot.ini; what is done with odd lines is this project's own).
use Rattle.std.specs.Prelude.{ℕ, Bool, true, false, not, List, [], ◌∷◌, length, map, filter, drop, Option, Some, None, nat_lt, ◌==◌, if◌then◌else◌, codes}
use Rattle.std.specs.List.{position_or_len, before_first, after_first}
use Rattle.std.specs.Str.Lines.{lines}
use Rattle.nt_bytes.specs.Text.{trimmed, names_same, is_equals}
use Rattle.boot_ini.specs.declared.boot_ini.keys.Section.{Section}
use Rattle.boot_ini.specs.declared.boot_ini.keys.Section.TheVariants.{Loader, Systems, Other}

-- an empty line and one that begins with `;` say nothing
abbrev pub says_something : List ℕ → Bool
says_something [] = false
says_something (c ∷ line) = not (c == 59)

-- the lines that say something, without blanks at their ends
abbrev pub said_lines : List (List ℕ) → List (List ℕ)
said_lines raw = filter says_something (map trimmed raw)

-- the same of a text, whose lines end at LF, or CR and LF
abbrev pub said_in : List ℕ → List (List ℕ)
said_in text = said_lines (lines text)

-- a line that begins with `[` opens a section
abbrev pub opens_section : List ℕ → Bool
opens_section [] = false
opens_section (c ∷ line) = c == 91

abbrev pub is_closing : ℕ → Bool
is_closing c = c == 93

-- what stands after the `[`, up to the first `]` or the line's end
abbrev pub section_name : List ℕ → List ℕ
section_name line = before_first is_closing (drop 1 line)

abbrev pub section_of_name : List ℕ → Section
section_of_name name =
    if names_same name (codes "boot loader") then Loader
    else if names_same name (codes "operating systems") then Systems
    else Other

-- the section that the line opens
abbrev pub section_named : List ℕ → Section
section_named line = section_of_name (section_name line)

abbrev pub same_section : Section → Section → Bool
same_section Loader Loader = true
same_section Systems Systems = true
same_section Other Other = true
same_section _ _ = false

-- the lines of the wanted section, where the first of them is in the section `here`; a section may stand several times
abbrev pub lines_in : Section → Section → List (List ℕ) → List (List ℕ)
lines_in wanted here [] = []
lines_in wanted here (line ∷ more) =
    if opens_section line then lines_in wanted (section_named line) more
    else if same_section wanted here then line ∷ lines_in wanted here more
    else lines_in wanted here more

-- what stands before and after the first `=`
abbrev pub sides : List ℕ → Option (List ℕ × List ℕ)
sides line = if nat_lt (position_or_len is_equals line) (length line) then Some (before_first is_equals line, after_first is_equals line) else None

abbrev pub value_beside : List ℕ → Option (List ℕ × List ℕ) → Option (List ℕ)
value_beside key None = None
value_beside key (Some p) = if names_same (trimmed p.0) key then Some (trimmed p.1) else None

-- the value of `key=value`, both without blanks at their ends
abbrev pub value_of : List ℕ → List ℕ → Option (List ℕ)
value_of key line = value_beside key (sides line)
