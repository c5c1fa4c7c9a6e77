-- What does `key` print of a key, and of those below it? (this project's own)
use Rattle.std.specs.Prelude.{◌≡◌, ℕ, ◌-◌, ◌%◌, Bool, ◌==◌, ◌&&◌, not, if◌then◌else◌, List, [], ◌∷◌, ◌++◌, length, map}
use Rattle.nt_bytes.specs.Text.{wide_of}
use Rattle.hive_model.specs.Tree.{Head, Tree, Trees, key, none, more, head, listed}
use Rattle.key_text.specs.Lines.{KeyLine, RootLine, KeyAtLine, StampLine, FlagsLine, ClassLine, ClassBytesLine, SecurityLine, ValueLine, SubkeyLine}

-- the first line of a key's block: the root's path is empty
abbrev pub title_line : List (List ℕ) → List ℕ → KeyLine
title_line [] name = RootLine name
title_line (first ∷ rest) name = KeyAtLine (first ∷ rest)

-- the flags, where they aren't 0
abbrev pub flags_lines : ℕ → List KeyLine
flags_lines flags = if flags == 0 then [] else FlagsLine flags ∷ []

-- the class, where it isn't empty
abbrev pub class_lines : List ℕ → List KeyLine
class_lines class =
    if length class == 0 then []
    else if length class % 2 == 0 then ClassLine (wide_of class) ∷ []
    else ClassBytesLine class ∷ []

-- the security descriptor, where it is asked for and isn't empty
abbrev pub security_lines : Bool → List ℕ → List KeyLine
security_lines asked security = if asked && not (length security == 0) then SecurityLine security ∷ [] else []

-- what a key has but its name and children
unfoldable pub head_lines : Bool → Head → List KeyLine
head_lines security h =
    StampLine h.stamp ∷ flags_lines h.flags ++ class_lines h.class ++ security_lines security h.security ++ map ValueLine h.values

-- the line of a child
abbrev pub subkey_line : Tree → KeyLine
subkey_line t = SubkeyLine (head t).name

-- the lines of a key without those below it
abbrev pub block_lines : Bool → List (List ℕ) → Head → List Tree → List KeyLine
block_lines security path h keys = title_line path h.name ∷ head_lines security h ++ map subkey_line keys

-- the lines of a key, and of that many levels below it
abbrev mutual
  pub key_lines : Bool → ℕ → List (List ℕ) → Tree → List KeyLine
  key_lines security depth path (key h ts) =
      block_lines security path h (listed ts) ++ (if depth == 0 then [] else keys_lines security (depth - 1) path ts)

  -- the lines of the children of a key at this path, in sequence
  pub keys_lines : Bool → ℕ → List (List ℕ) → Trees → List KeyLine
  keys_lines security depth path none = []
  keys_lines security depth path (more t ts) = key_lines security depth (path ++ (head t).name ∷ []) t ++ keys_lines security depth path ts

-- two keys have one path and one content, and children of the same names in the same order
pub record AreAlike (path way : List (List ℕ)) (h k : Head) (ts us : List Tree) : Type 0 where
  pub paths : path ≡ way
  pub stamps : h.stamp ≡ k.stamp
  pub flags : h.flags ≡ k.flags
  pub classes : h.class ≡ k.class
  pub descriptors : h.security ≡ k.security
  pub values : h.values ≡ k.values
  pub names : map (λ (t : Tree). (head t).name) ts ≡ map (λ (t : Tree). (head t).name) us
