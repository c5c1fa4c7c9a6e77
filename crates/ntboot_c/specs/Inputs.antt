-- Which files does a call find? (this project's own)
use Rattle.std.specs.Prelude.{◌&&◌, ℕ, Bool, List, None, Some, codes, bytes_eq, if◌then◌else◌}
use Rattle.nt_edge.specs.Host.{Files}
use Rattle.ntboot_c.specs.declared.inputs.Given.{Given}
use Rattle.ntboot_c.specs.declared.inputs.Inputs.{Inputs}

-- these files and, where it is there, one more, which stands before one of its name
abbrev pub with_file : Bool → List ℕ → List ℕ → Files → Files
with_file is_there name bytes files = λ q. if is_there && bytes_eq q name then Some bytes else files q

abbrev pub no_files : Files
no_files = λ q. None

-- the four files that are there, under their names
abbrev pub files_of : Given → List ℕ → List ℕ → List ℕ → List ℕ → Files
files_of given hive log boot_ini text =
    with_file given.text (codes "text") text
    (with_file given.boot_ini (codes "boot.ini") boot_ini
    (with_file given.log (codes "log") log
    (with_file given.hive (codes "hive") hive no_files)))

abbrev pub files_in : Inputs → Files
files_in i = files_of i.given i.hive.now i.log.now i.boot_ini.now i.text.now
