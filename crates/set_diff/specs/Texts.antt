-- What of a service's key is read beside its entry? (this project's own)
use Rattle.std.specs.Prelude.{Bool, codes}
use Rattle.std.specs.Option.{is_some}
use Rattle.hive_model.specs.Tree.{Tree, find_string}
use Rattle.start_model.specs.Entries.{Entry, entry_of}
use Rattle.set_diff.specs.declared.service.Service.{Service}
use Rattle.set_diff.specs.declared.service.Texts.{Texts}

-- the texts of a key
abbrev pub texts_of : Tree → Texts
texts_of t = record { image = find_string (codes "ImagePath") t; account = find_string (codes "ObjectName") t }

-- the key is an entry
abbrev pub is_entry : Tree → Bool
is_entry t = is_some (entry_of t)

-- an entry with its texts
abbrev pub with_texts : Entry × Texts → Service
with_texts both = record { entry = both.0; image = both.1.image; account = both.1.account }
