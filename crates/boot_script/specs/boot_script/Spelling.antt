-- How is a line written that has these words, and a text that asks for these events? (this project's own)
--
-- Said of the whole line and the whole text, without reading them: `Words.antt` and `Script.antt` say how words and
-- events are found, and the laws `words_are_those_written` and `a_script_reads_as_what_it_spells` that both say the same.
use Rattle.std.specs.Prelude.{◌≡◌, ◌⊎◌, ◌<◌, ◌≤◌, ℕ, Bool, true, List, [], ◌∷◌, ◌++◌, length, Option, Some, None, option_to_list}
use Rattle.std.specs.List.{list_all}
use Rattle.std.specs.Str.Lines.{lines}
use Rattle.boot_script.specs.declared.boot_script.event.Event.{Event}
use Rattle.boot_script.specs.boot_script.Words.{is_plain, is_quotable, is_space}
use Rattle.boot_script.specs.boot_script.Script.{starts_in}
use Rattle.boot_script.specs.boot_script.Events.{IsSpelledBy}

-- the word as it is: not empty, and no byte of it has to be quoted
abbrev pub IsBare : List ℕ → List ℕ → Type 0
IsBare word shown = (shown ≡ word) × (0 < length word) × (list_all is_plain word ≡ true)

-- the word between two `"`
abbrev pub IsQuoted : List ℕ → List ℕ → Type 0
IsQuoted word shown = (shown ≡ 34 ∷ word ++ 34 ∷ []) × (list_all is_quotable word ≡ true)

-- nothing, or a space first
abbrev pub ends_word : List ℕ → Bool
ends_word [] = true
ends_word (c ∷ rest) = is_space c

-- the line begins with spaces and the word, and the rest is after it
pub record Opens (word line rest : List ℕ) : Type 0 where
  pub gap : List ℕ
  pub shown : List ℕ
  pub spelled : line ≡ gap ++ (shown ++ rest)
  pub spaces : list_all is_space gap ≡ true
  pub is_shown : IsBare word shown ⊎ IsQuoted word shown
  pub ends : ends_word rest ≡ true

-- the line is these words, each after spaces, and spaces in the end
abbrev pub IsLineOf : List (List ℕ) → List ℕ → Type 0
IsLineOf [] line = list_all is_space line ≡ true
IsLineOf (word ∷ words) line = (rest : List ℕ) × Opens word line rest × IsLineOf words rest

-- ---- lines and the whole text

-- a line that says nothing: spaces, and perhaps `#` with anything after it
abbrev pub IsSilent : List ℕ → Type 0
IsSilent line = (list_all is_space line ≡ true) ⊎ ((gap : List ℕ) × (rest : List ℕ) × (list_all is_space gap ≡ true) × (line ≡ gap ++ 35 ∷ rest))

-- what the line asks for: nothing, or the event of its words
abbrev pub AsksFor : Option Event → List ℕ → Type 0
AsksFor None line = IsSilent line
AsksFor (Some event) line = (words : List (List ℕ)) × IsLineOf words line × IsSpelledBy event words

-- the lines, in sequence, ask for these events
abbrev pub AskFor : List Event → List (List ℕ) → Type 0
AskFor events [] = events ≡ []
AskFor events (line ∷ more) =
    (event : Option Event) × (others : List Event) × AsksFor event line × (events ≡ option_to_list event ++ others) × AskFor others more

-- the text is a script of these events; its lines end with LF, and a CR before it is no part of them
pub record IsScript (text : List ℕ) (events : List Event) : Type 0 where
  pub short : length text ≤ 65536
  pub few : starts_in events ≤ 64
  pub asked : AskFor events (lines text)
