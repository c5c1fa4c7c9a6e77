-- What does `find` find in a part of a tree? (this project's own)
--
-- All that can be hit, as a list, in the order of the tree: a key's name; then for each of its values the name and the data; then
-- the children with all below them. What is hit of it is what passes the test.
use Rattle.std.specs.Prelude.{ℕ, Bool, false, ◌&&◌, ◌||◌, not, ◌==◌, if◌then◌else◌, List, [], ◌∷◌, ◌++◌, length, filter, Option, Some, None, option_map}
use Rattle.std.specs.List.{flat_map, list_any, slice_split}
use Rattle.std.specs.Option.{option_map_or}
use Rattle.nt_bytes.specs.Folding.{folded}
use Rattle.nt_bytes.specs.Text.{wide_of, is_zero}
use Rattle.hive_model.specs.Tree.{Item, Tree, Trees, key, none, more, head, find_key}
use Rattle.key_text.specs.Data.{is_string_kind}
use Rattle.key_text.specs.Found.{true_path, spelled}
use Rattle.find_rule.specs.declared.wanted.Wanted.{Wanted}
use Rattle.find_rule.specs.Matching.{stands}

-- ---- what stands where

-- the text occurs in a name or a string, both folded
abbrev pub text_stands : Wanted → List ℕ → Bool
text_stands w units = option_map_or (λ (text : List ℕ). stands w.exact (folded text) (folded units)) w.text false

-- the bytes occur in data
abbrev pub bytes_stand : Wanted → List ℕ → Bool
bytes_stand w whole = option_map_or (λ (bytes : List ℕ). stands w.exact bytes whole) w.bytes false

-- the strings of a value of the types 1, 2, 6 and 7: its units, parted at each zero unit
abbrev pub strings_in : Item → List (List ℕ)
strings_in v = if is_string_kind v.kind then slice_split is_zero (wide_of v.bytes) else []

-- ---- what can be hit

pub data Hit : Type 0 where
  -- the name of the key at this path; the root's is empty
  KeyName : List (List ℕ) → List ℕ → Hit
  -- the name of a value of that key
  ValueName : List (List ℕ) → List ℕ → Hit
  -- the data of a value of that key
  Data : List (List ℕ) → Item → Hit

-- of a value
abbrev pub value_places : List (List ℕ) → Item → List Hit
value_places path v = ValueName path v.name ∷ Data path v ∷ []

-- of the values of a key
abbrev pub values_places : List (List ℕ) → List Item → List Hit
values_places path vs = flat_map (value_places path) vs

abbrev mutual
  -- of the key at this path, and of all below it
  pub places : List (List ℕ) → Tree → List Hit
  places path (key h ts) = KeyName path h.name ∷ values_places path h.values ++ places_below path ts

  -- of the children of the key at this path
  pub places_below : List (List ℕ) → Trees → List Hit
  places_below path none = []
  places_below path (more t ts) = places (path ++ (head t).name ∷ []) t ++ places_below path ts

-- ---- what is hit

abbrev pub is_name_hit : Wanted → List ℕ → Bool
is_name_hit w name = w.names && text_stands w name

-- by the text in one of the strings
abbrev pub is_string_hit : Wanted → Item → Bool
is_string_hit w v = w.strings && list_any (text_stands w) (strings_in v)

abbrev pub is_data_hit : Wanted → Item → Bool
is_data_hit w v = is_string_hit w v || bytes_stand w v.bytes

abbrev pub is_hit : Wanted → Hit → Bool
is_hit w (KeyName path name) = is_name_hit w name
is_hit w (ValueName path name) = is_name_hit w name
is_hit w (Data path v) = is_data_hit w v

-- those of these places that are hit
abbrev pub hits_of : Wanted → List Hit → List Hit
hits_of w all = filter (is_hit w) all

-- the hits in the key at this path and in all below it
abbrev pub hits : Wanted → List (List ℕ) → Tree → List Hit
hits w path t = hits_of w (places path t)

-- ---- in the part that a path means

-- the hits where there is such a key
abbrev pub part_hits : Wanted → List (List ℕ) → Option Tree → Option (List Hit)
part_hits w path part = option_map (hits w path) part

-- the hits at a path from the root, if it is one
abbrev pub path_hits : Wanted → Tree → Option (List (List ℕ)) → Option (List Hit)
path_hits w root None = None
path_hits w root (Some path) = part_hits w (spelled path root) (find_key path root)

-- the hits at a path as it was asked for: there are none where it finds nothing
abbrev pub hits_at : Wanted → Tree → List (List ℕ) → Option (List Hit)
hits_at w root path = path_hits w root (true_path root path)

-- something was found
abbrev pub has_hit : Option (List Hit) → Bool
has_hit None = false
has_hit (Some found) = not (length found == 0)
