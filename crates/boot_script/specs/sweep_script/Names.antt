-- What is the first word of an event's line? (this project's own)
use Rattle.std.specs.Prelude.{ℕ, List, codes}
use Rattle.boot_script.specs.declared.boot_script.event.Event.{Event}
use Rattle.boot_script.specs.declared.boot_script.event.Event.TheVariants.{Boot, Go, Fail, Vital, Set, Delete, Make, Remove, Flush, Logon, Off, CutNow, ArmCut, ArmFault}

abbrev pub first_word : Event → List ℕ
first_word (Boot entry good) = codes "boot"
first_word (Go steps) = codes "go"
first_word (Fail name count) = codes "fail"
first_word (Vital name) = codes "vital"
first_word (Set path name kind bytes) = codes "set"
first_word (Delete path name) = codes "delete"
first_word (Make path) = codes "make"
first_word (Remove path) = codes "remove"
first_word Flush = codes "flush"
first_word Logon = codes "logon"
first_word Off = codes "off"
first_word (CutNow keep) = codes "cut"
first_word (ArmCut call n keep) = codes "cut"
first_word (ArmFault call n) = codes "fault"
