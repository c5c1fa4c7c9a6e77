-- Words for the laws of the options of `import`. (this project's own)
use Rattle.std.specs.Prelude.{ℕ, ◌==◌, Bool, false, length, List, [], ◌∷◌, map, Some, Result, Ok, Err}
use Rattle.nt_bytes.specs.Folding.{folds_same}
use Rattle.hive_model.specs.Edit.{Step, set_value, delete_value, make_key, delete_key, copy_child, add_child}
use Rattle.command_words.specs.declared.asked.AskedEncoding.{AskedEncoding}
use Rattle.reg_text.specs.declared.item.LineItem.{LineItem}
use Rattle.reg_text.specs.declared.item.LineItem.TheVariants.{InKey, NoKey}
use Rattle.reg_text.specs.declared.stop.RegFaultKind.{RegFaultKind}
use Rattle.import_steps.specs.Current.{current_name, path_in, step_in}
use Rattle.text_commands.specs.declared.said.How.{How}
use Rattle.text_commands.specs.Changed.{Change}

-- the same, of a text that is encoded so
abbrev pub encoded : AskedEncoding → How → How
encoded encoding how = record how { encoding = encoding }

-- the same, with the number of the set said first
abbrev pub announced : ℕ → Change → Change
announced n change = record change { said = record change.said { current = Some n } }

-- what a line says, with the set's name in the path of its key
abbrev pub item_in : List ℕ → LineItem → LineItem
item_in set (InKey path) = InKey (path_in set path)
item_in set (NoKey path) = NoKey (path_in set path)
item_in set item = item

-- the edits of a line with that name
abbrev pub edits_in : List ℕ → Result (List Step) RegFaultKind → Result (List Step) RegFaultKind
edits_in set (Ok steps) = Ok (map (step_in set) steps)
edits_in set (Err kind) = Err kind

-- the path begins with `CurrentControlSet`, in any case
abbrev pub begins_current : List (List ℕ) → Bool
begins_current [] = false
begins_current (name ∷ path) = folds_same current_name name

-- the step makes, changes or deletes something under that name
abbrev pub names_current : Step → Bool
names_current (set_value path name kind bytes) = begins_current path
names_current (delete_value path name) = begins_current path
names_current (make_key [] name) = folds_same current_name name
names_current (make_key (above ∷ path) name) = folds_same current_name above
names_current (delete_key path) = begins_current path
names_current (copy_child from to) = false
names_current (add_child name tree) = false

-- the step deletes the root
abbrev pub deletes_root : Step → Bool
deletes_root (set_value path name kind bytes) = false
deletes_root (delete_value path name) = false
deletes_root (make_key parent name) = false
deletes_root (delete_key path) = length path == 0
deletes_root (copy_child from to) = false
deletes_root (add_child name tree) = false

-- the step is one that a text may have
abbrev pub IsOfText : Step → Type 0
IsOfText (set_value path name kind bytes) = Unit {0}
IsOfText (delete_value path name) = Unit {0}
IsOfText (make_key parent name) = Unit {0}
IsOfText (delete_key path) = Unit {0}
IsOfText (copy_child from to) = ⊥
IsOfText (add_child name tree) = ⊥
