-- Which lines of a text say something, and in which sections do they stand? (Microsoft's documentation of boot.ini; what is
-- done with odd lines is this project's own)
--
-- Said from the parts, without reading them; `Keys.antt` says how they are read.
use Rattle.std.specs.Prelude.{◌≡◌, ◌≢◌, ◌⊎◌, ℕ, ◌<◌, Bool, true, false, not, List, [], ◌∷◌, ◌++◌, length, ◌==◌, if◌then◌else◌, codes}
use Rattle.std.specs.List.{list_all, flat_map}
use Rattle.nt_bytes.specs.Text.{is_blank, names_same}
use Rattle.boot_ini.specs.declared.boot_ini.keys.Section.{Section}
use Rattle.boot_ini.specs.declared.boot_ini.keys.Section.TheVariants.{Loader, Systems, Other}
use Rattle.boot_ini.specs.boot_ini.Keys.{same_section}

-- no byte of the text is this one
abbrev pub has_no : ℕ → List ℕ → Bool
has_no c text = list_all (λ d. not (d == c)) text

-- nothing, or this byte first
abbrev pub IsNothingOr : ℕ → List ℕ → Type 0
IsNothingOr c text = (text ≡ []) ⊎ ((rest : List ℕ) × (text ≡ c ∷ rest))

-- the inner text, which neither begins nor ends with a blank, and blanks around it
pub record IsBetweenBlanks (inner text : List ℕ) : Type 0 where
  pub front : List ℕ
  pub back : List ℕ
  pub spelled : text ≡ front ++ (inner ++ back)
  pub front_blank : list_all is_blank front ≡ true
  pub back_blank : list_all is_blank back ≡ true
  pub starts : (c : ℕ) (rest : List ℕ) → inner ≡ c ∷ rest → is_blank c ≡ false
  pub ends : (front : List ℕ) (c : ℕ) → inner ≡ front ++ c ∷ [] → is_blank c ≡ false

-- ---- what lines say

-- the line says this: something that is no comment
pub record Says (said line : List ℕ) : Type 0 where
  pub between : IsBetweenBlanks said line
  pub some : 0 < length said
  pub no_comment : (rest : List ℕ) → said ≢ codes ";" ++ rest

-- the line says nothing: blanks alone, or `;` first after them
abbrev pub IsSilent : List ℕ → Type 0
IsSilent line = (list_all is_blank line ≡ true)
    ⊎ ((front : List ℕ) × (rest : List ℕ) × (list_all is_blank front ≡ true) × (line ≡ front ++ (codes ";" ++ rest)))

-- what the lines say, in sequence
abbrev pub AreSaid : List (List ℕ) → List (List ℕ) → Type 0
AreSaid said [] = said ≡ []
AreSaid said (line ∷ more) =
    ((first : List ℕ) × (others : List (List ℕ)) × Says first line × (said ≡ first ∷ others) × AreSaid others more) ⊎ (IsSilent line × AreSaid said more)

-- ---- sections

abbrev pub IsNameOf : Section → List ℕ → Type 0
IsNameOf Loader name = names_same name (codes "boot loader") ≡ true
IsNameOf Systems name = names_same name (codes "operating systems") ≡ true
IsNameOf Other name = (names_same name (codes "boot loader") ≡ false) × (names_same name (codes "operating systems") ≡ false)

-- the line opens the section: `[`, its name, and perhaps `]` with anything after it
pub record Opens (section : Section) (line : List ℕ) : Type 0 where
  pub name : List ℕ
  pub behind : List ℕ
  pub spelled : line ≡ codes "[" ++ (name ++ behind)
  pub no_closing : has_no 93 name ≡ true
  pub closed : IsNothingOr 93 behind
  pub named : IsNameOf section name

-- the line is no opening one
abbrev pub stays : List ℕ → Bool
stays [] = true
stays (c ∷ line) = not (c == 91)

-- a section and the lines in it
pub record Part : Type 0 where
  pub section : Section
  pub body : List (List ℕ)

-- the parts, each a line that opens the section and lines that open none
abbrev pub AreParts : List Part → List (List ℕ) → Type 0
AreParts [] said = said ≡ []
AreParts (part ∷ parts) said =
    (line : List ℕ) × (rest : List (List ℕ)) × (said ≡ line ∷ (part.body ++ rest)) × Opens part.section line × (list_all stays part.body ≡ true)
    × AreParts parts rest

abbrev pub body_in : Section → Part → List (List ℕ)
body_in section part = if same_section section part.section then part.body else []

-- the lines of all parts of the section, which may stand several times
abbrev pub lines_of : Section → List Part → List (List ℕ)
lines_of section parts = flat_map (body_in section) parts
