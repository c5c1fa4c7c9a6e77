-- Does a line say of its key what the other laws speak of? (this project's own)
use Rattle.std.specs.Prelude.{◌≡◌, None, codes}
use Rattle.hive_model.specs.Tree.{Tree, head}
use Rattle.safe_boot.specs.Played.{safe_lines_of}
use Rattle.service_list.specs.declared.entry.ServiceEntry.{ServiceEntry}
use Rattle.service_list.specs.Entries.{entry_of}
use Rattle.service_list.specs.Fields.{number_field}
use Rattle.service_list.specs.Kinds.{kind_of}
use Rattle.service_list.specs.Marks.{marks_of}
use Rattle.service_list.specs.Turns.{turns_of}
use Rattle.services_laws.specs.Started.{place_of}

abbrev pub said_of : Tree → Tree → ServiceEntry
said_of set t = entry_of (turns_of set) t

-- the numbers, the place of its name in the lines of the quiet start, the stamp and the marks
pub record SaysOf (set t : Tree) : Type 0 where
  pub kind : (said_of set t).kind ≡ kind_of t
  pub start : (said_of set t).numbers.start ≡ number_field (codes "Start") t
  pub service_type : (said_of set t).numbers.service_type ≡ number_field (codes "Type") t
  pub control : (said_of set t).numbers.control ≡ number_field (codes "ErrorControl") t
  pub tag : (said_of set t).numbers.tag ≡ number_field (codes "Tag") t
  pub place : (said_of set t).place ≡ place_of (safe_lines_of set None) (head t).name
  pub written : (said_of set t).written ≡ (head t).stamp
  pub marks : (said_of set t).marks ≡ marks_of (kind_of t) t

abbrev pub LinesSayThese : Type 0
LinesSayThese = (set t : Tree) → SaysOf set t
