-- Which services does a safe mode list, and what does it leave of a control set?
--
-- The lists are the keys `Control\SafeBoot\Minimal` and `Control\SafeBoot\Network` (Windows Internals, 4th edition, safe mode).
-- That an entry is listed by its name or its group, or a driver by its image where images count, and that drivers of Start 0 are never
-- left out, is this project's own.
use Rattle.std.specs.Prelude.{ℕ, Bool, false, not, ◌&&◌, ◌||◌, ◌==◌, List, [], ◌∷◌, length, filter, map, Option, codes}
use Rattle.std.specs.Option.{option_map_or}
use Rattle.std.specs.List.{list_any}
use Rattle.nt_bytes.specs.Folding.{folds_same}
use Rattle.hive_model.specs.Tree.{Tree, head, children, find_key}
use Rattle.hive_model.specs.Edit.{of_children, at_key}
use Rattle.start_model.specs.Entries.{Entry, entry_of, is_driver}
use Rattle.safe_boot.specs.declared.mode.SafeMode.{SafeMode}
use Rattle.safe_boot.specs.declared.mode.SafeMode.TheVariants.{Minimal, Network}
use Rattle.safe_boot.specs.Images.{image_of}

-- the name of a mode's list
abbrev pub list_name : SafeMode → List ℕ
list_name Minimal = codes "Minimal"
list_name Network = codes "Network"

-- the names that a mode lists in a set: those of the children of its key; without that key none
abbrev pub listed_names : Tree → SafeMode → List (List ℕ)
listed_names set mode =
    map (λ t. (head t).name) (option_map_or children (find_key (codes "Control" ∷ codes "SafeBoot" ∷ list_name mode ∷ []) set) [])

-- one of the names folds to this one
abbrev pub has_name : List (List ℕ) → List ℕ → Bool
has_name names name = list_any (folds_same name) names

-- the names have this name, or the name of this group
abbrev pub is_among : List (List ℕ) → List ℕ → Option (List ℕ) → Bool
is_among names name group = has_name names name || option_map_or (has_name names) group false

-- the mode lists the entry, by its name or by its group
abbrev pub is_listed : Tree → SafeMode → Entry → Bool
is_listed set mode e = is_among (listed_names set mode) e.name e.group

-- the names have this file, which isn't empty
abbrev pub has_file : List (List ℕ) → List ℕ → Bool
has_file names file = not (length file == 0) && has_name names file

-- the entry of a key is a driver, and the names have its image
abbrev pub has_image : List (List ℕ) → Tree → Entry → Bool
has_image names t e = is_driver e.kind && has_file names (image_of t)

-- the names have the entry of a key: by its name or its group, or by its image where images count
abbrev pub has_entry : Bool → List (List ℕ) → Tree → Entry → Bool
has_entry images names t e = (images && has_image names t e) || is_among names e.name e.group

-- the entry of a key is left out where its Start is not 0 and the names don't have it
abbrev pub is_left_out : Bool → List (List ℕ) → Tree → Entry → Bool
is_left_out images names t e = not (e.start == 0) && not (has_entry images names t e)

-- a child of `Services` stays unless it is an entry that is left out
abbrev pub stays : Bool → List (List ℕ) → Tree → Bool
stays images names t = not (option_map_or (is_left_out images names t) (entry_of t) false)

-- the set with those children of `Services` that stay, and all else as it was
abbrev pub reduced_of : Tree → SafeMode → Bool → Tree
reduced_of set mode images = at_key (codes "Services" ∷ []) (of_children (filter (stays images (listed_names set mode)))) set
