-- The entries of `[operating systems]` (Microsoft's documentation of boot.ini; what is done with odd lines is this
-- project's own).
use Rattle.std.specs.Prelude.{ℕ, Bool, false, List, [], ◌∷◌, length, filter, drop, Option, Some, None, ◌==◌, if◌then◌else◌}
use Rattle.std.specs.List.{position_or_len, before_first, after_first, slice_split}
use Rattle.nt_bytes.specs.Text.{is_blank, trimmed}
use Rattle.boot_ini.specs.declared.boot_ini.ini.OsEntry.{OsEntry}
use Rattle.boot_ini.specs.boot_ini.Keys.{sides}

abbrev pub is_quote : ℕ → Bool
is_quote c = c == 34

abbrev pub is_slash : ℕ → Bool
is_slash c = c == 47

-- a text that begins with `"`
abbrev pub is_quoted : List ℕ → Bool
is_quoted [] = false
is_quoted (c ∷ text) = is_quote c

-- the title: what is quoted, up to the next `"` or the line's end; else what stands before the first `/`, without blanks at its
-- ends
abbrev pub title_of : List ℕ → List ℕ
title_of text = if is_quoted text then before_first is_quote (drop 1 text) else trimmed (before_first is_slash text)

-- what stands after the title
abbrev pub behind_title : List ℕ → List ℕ
behind_title text = if is_quoted text then after_first is_quote (drop 1 text) else drop (position_or_len is_slash text) text

-- a word that begins with `/`
abbrev pub is_switch : List ℕ → Bool
is_switch [] = false
is_switch (c ∷ word) = is_slash c

-- the switches among the words of a text, which are parted by blanks
abbrev pub switches_in : List ℕ → List (List ℕ)
switches_in text = filter is_switch (slice_split is_blank text)

abbrev pub entry_beside : Option (List ℕ × List ℕ) → Option OsEntry
entry_beside None = None
entry_beside (Some p) =
    if length p.0 == 0 then None
    else Some (record { path = p.0; title = title_of p.1; switches = switches_in (behind_title p.1) })

-- the entry of `path=title and switches`: none where there is no `=` or no path
abbrev pub entry_of : List ℕ → Option OsEntry
entry_of line = entry_beside (sides line)
