-- One more line of boot.ini.
use Rattle.std.proofs.Common.{◌≡◌, ℕ, List, [], ◌∷◌, ◌++◌, Option, Some, None, refl, ap, ◌∙◌, append_assoc}
use Rattle.std.proofs.lemmas.List.Elements.{filter_map-append}
use Rattle.std.specs.List.{filter_map}
use Rattle.std.specs.Option.{option_or}
use Rattle.std.specs.Str.Lines.{lines}
use Rattle.boot_ini.specs.declared.boot_ini.keys.Section.{Section}
use Rattle.boot_ini.specs.declared.boot_ini.keys.Section.TheVariants.{Loader, Systems}
use Rattle.boot_ini.specs.declared.boot_ini.ini.OsEntry.{OsEntry}
use Rattle.boot_ini.specs.boot_ini.Keys.{said_lines, said_in, lines_in, value_of}
use Rattle.boot_ini.specs.boot_ini.Entries.{entry_of}
use Rattle.boot_ini.specs.boot_ini.Ini.{first_of, values_from, entries_from}

first_append : {A : Type 0} (xs ys : List A) → first_of (xs ++ ys) ≡ option_or (first_of xs) (first_of ys)
first_append [] ys = refl
first_append (x ∷ xs) ys = refl

or_assoc : {A : Type 0} (a b c : Option A) → option_or (option_or a b) c ≡ option_or a (option_or b c)
or_assoc None b c = refl
or_assoc (Some x) b c = refl

-- the section after the line goes on with the lines after it
abbrev pub Splits : Section → Section → List ℕ → Type 0
Splits here after line = (wanted : Section) (more : List (List ℕ))
    → lines_in wanted here (said_lines (line ∷ more)) ≡ lines_in wanted here (said_lines (line ∷ []))
    ++ lines_in wanted after (said_lines more)

pub value_step : (before now : Option (List ℕ)) (key : List ℕ) (here after : Section) (text line rest : List ℕ)
    (total : Option (List ℕ)) → lines text ≡ line ∷ lines rest → Splits here after line
    → now ≡ option_or before (first_of (values_from key here (said_lines (line ∷ []))))
    → option_or before (first_of (values_from key here (said_in text))) ≡ total
    → option_or now (first_of (values_from key after (said_in rest))) ≡ total
value_step before now key here after text line rest total first splits found so_far =
    let parts : values_from key here (said_in text) ≡ values_from key here (said_lines (line ∷ []))
    ++ values_from key after (said_in rest) =
    rw first (ap (filter_map (value_of key)) (splits Loader (lines rest))
    ∙ filter_map-append (value_of key) (lines_in Loader here (said_lines (line ∷ [])))
    (lines_in Loader after (said_in rest))) in
    let one : option_or now (first_of (values_from key after (said_in rest)))
    ≡ option_or before (first_of (values_from key here (said_in text))) =
    rw (found, parts, first_append)
    (or_assoc before (first_of (values_from key here (said_lines (line ∷ []))))
    (first_of (values_from key after (said_in rest)))) in
    one ∙ so_far

pub entry_step : (before now : List OsEntry) (here after : Section) (text line rest : List ℕ) (total : List OsEntry)
    → lines text ≡ line ∷ lines rest → Splits here after line
    → now ≡ before ++ entries_from here (said_lines (line ∷ []))
    → before ++ entries_from here (said_in text) ≡ total → now ++ entries_from after (said_in rest) ≡ total
entry_step before now here after text line rest total first splits found so_far =
    let parts : entries_from here (said_in text) ≡ entries_from here (said_lines (line ∷ []))
    ++ entries_from after (said_in rest) =
    rw first (ap (filter_map entry_of) (splits Systems (lines rest))
    ∙ filter_map-append entry_of (lines_in Systems here (said_lines (line ∷ [])))
    (lines_in Systems after (said_in rest))) in
    let one : now ++ entries_from after (said_in rest) ≡ before ++ entries_from here (said_in text) =
    rw (found, parts) (append_assoc before (entries_from here (said_lines (line ∷ [])))
    (entries_from after (said_in rest))) in
    one ∙ so_far
