-- Which texts say what a boot.ini says? (Microsoft's documentation of boot.ini; what is done with odd lines is this
-- project's own)
--
-- Said of the whole text, from its parts and without reading it: `Keys.antt`, `Entries.antt` and `Ini.antt` say how a
-- text is read, and the law `a_boot_ini_reads_as_what_it_spells` that both say the same.
use Rattle.std.specs.Prelude.{◌≡◌, ◌≢◌, ◌⊎◌, ℕ, ◌<◌, true, not, List, [], ◌∷◌, ◌++◌, length, filter, Option, Some, None, codes}
use Rattle.std.specs.List.{list_all}
use Rattle.std.specs.Str.Lines.{lines}
use Rattle.nt_bytes.specs.Text.{is_blank, names_same}
use Rattle.boot_ini.specs.declared.boot_ini.keys.Section.TheVariants.{Loader, Systems}
use Rattle.boot_ini.specs.declared.boot_ini.ini.OsEntry.{OsEntry}
use Rattle.boot_ini.specs.declared.boot_ini.ini.BootIni.{BootIni}
use Rattle.boot_ini.specs.boot_ini.Entries.{is_switch}
use Rattle.boot_ini.specs.boot_ini.Ini.{timeout_of, entries_or, chosen_of}
use Rattle.boot_ini.specs.boot_ini.Parts.{has_no, IsNothingOr, IsBetweenBlanks, AreSaid, stays, Part, AreParts, lines_of}

-- ---- keys

-- `key=value`, the key in either case, blanks around both
pub record IsSetting (key value line : List ℕ) : Type 0 where
  pub left : List ℕ
  pub right : List ℕ
  pub spelled : line ≡ left ++ (codes "=" ++ right)
  pub no_equals : has_no 61 left ≡ true
  pub name : List ℕ
  pub is_name : IsBetweenBlanks name left
  pub named : names_same name key ≡ true
  pub is_value : IsBetweenBlanks value right

-- the first value of the key in the lines, if there is one
abbrev pub IsFirst : List ℕ → Option (List ℕ) → List (List ℕ) → Type 0
IsFirst key value [] = value ≡ None
IsFirst key value (line ∷ more) =
    ((first : List ℕ) × IsSetting key first line × (value ≡ Some first)) ⊎ (((any : List ℕ) → IsSetting key any line → ⊥) × IsFirst key value more)

-- ---- entries

-- the title in quotes, where the last one may lack, and what is after it
pub record IsQuoted (title behind text : List ℕ) : Type 0 where
  pub shown : List ℕ
  pub spelled : text ≡ codes "\"" ++ (title ++ shown)
  pub no_quote : has_no 34 title ≡ true
  pub closed : ((shown ≡ []) × (behind ≡ [])) ⊎ (shown ≡ codes "\"" ++ behind)

-- the title, between blanks, and what is after it, from the first `/` on
pub record IsPlain (title behind text : List ℕ) : Type 0 where
  pub front : List ℕ
  pub spelled : text ≡ front ++ behind
  pub no_quote : (rest : List ℕ) → text ≢ codes "\"" ++ rest
  pub no_slash : has_no 47 front ≡ true
  pub is_title : IsBetweenBlanks title front
  pub ends : IsNothingOr 47 behind

-- the words, which have no blanks and may be empty, with one blank between each two
abbrev pub AreWords : List (List ℕ) → List ℕ → Type 0
AreWords [] text = ⊥
AreWords (word ∷ []) text = (text ≡ word) × (list_all (λ c. not (is_blank c)) word ≡ true)
AreWords (word ∷ next ∷ words) text =
    (blank : ℕ) × (rest : List ℕ) × (text ≡ word ++ blank ∷ rest) × (list_all (λ c. not (is_blank c)) word ≡ true) × (is_blank blank ≡ true)
    × AreWords (next ∷ words) rest

-- `path=title switches`; the path keeps its blanks, and words that are no switches are dropped
pub record IsEntry (entry : OsEntry) (line : List ℕ) : Type 0 where
  pub right : List ℕ
  pub spelled : line ≡ entry.path ++ (codes "=" ++ right)
  pub some_path : 0 < length entry.path
  pub no_equals : has_no 61 entry.path ≡ true
  pub behind : List ℕ
  pub titled : IsQuoted entry.title behind right ⊎ IsPlain entry.title behind right
  pub words : List (List ℕ)
  pub are_words : AreWords words behind
  pub switches : entry.switches ≡ filter is_switch words

-- the entries of the lines, in order; other lines are passed by
abbrev pub AreEntries : List OsEntry → List (List ℕ) → Type 0
AreEntries entries [] = entries ≡ []
AreEntries entries (line ∷ more) =
    ((first : OsEntry) × (others : List OsEntry) × IsEntry first line × (entries ≡ first ∷ others) × AreEntries others more)
    ⊎ (((any : OsEntry) → IsEntry any line → ⊥) × AreEntries entries more)

-- ---- the whole text

-- the text says this, where the system is at this path
pub record IsSpelled (text system : List ℕ) (ini : BootIni) : Type 0 where
  pub said : List (List ℕ)
  pub are_said : AreSaid said (lines text)
  pub head : List (List ℕ)
  pub parts : List Part
  pub rest : List (List ℕ)
  pub divided : said ≡ head ++ rest
  pub head_stays : list_all stays head ≡ true
  pub are_parts : AreParts parts rest
  pub timeout : Option (List ℕ)
  pub is_timeout : IsFirst (codes "timeout") timeout (lines_of Loader parts)
  pub default : Option (List ℕ)
  pub is_default : IsFirst (codes "default") default (lines_of Loader parts)
  pub entries : List OsEntry
  pub are_entries : AreEntries entries (lines_of Systems parts)
  pub says_timeout : ini.timeout ≡ timeout_of timeout
  pub says_entries : ini.entries ≡ entries_or system entries
  pub says_chosen : ini.chosen ≡ chosen_of default (entries_or system entries)
