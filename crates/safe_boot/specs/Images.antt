-- Which name is the image of a driver? (this project's own; that lists have the files of drivers: Windows Internals, 4th edition, safe mode)
use Rattle.std.specs.Prelude.{ℕ, List, [], ◌∷◌, ◌++◌, codes, if◌then◌else◌}
use Rattle.std.specs.Option.{option_map_or}
use Rattle.nt_bytes.specs.Text.{is_backslash}
use Rattle.hive_model.specs.Tree.{Tree, head, find_string}

-- what follows the last backslash of a text, or this where there is none
abbrev pub after_last : List ℕ → List ℕ → List ℕ
after_last last [] = last
after_last last (c ∷ text) = if is_backslash c then after_last text text else after_last last text

-- the part of a path after its last backslash, or all of it where there is none
abbrev pub file_of : List ℕ → List ℕ
file_of path = after_last path path

-- the image of a driver's key: the file of its ImagePath, where that is a text; else the key's name with `.sys` after it
abbrev pub image_of : Tree → List ℕ
image_of t = option_map_or file_of (find_string (codes "ImagePath") t) ((head t).name ++ codes ".sys")
