-- What does the program print of these runs, byte by byte? (this project's own)
use Rattle.std.specs.Prelude.{ℕ, List, [], ◌∷◌, ◌++◌, codes}

-- of `boot`, `go`, `logon` and `off`
abbrev pub plain_report : List ℕ
plain_report =
    codes "start 1\n"
    ++ codes "entry 1 multi(0)disk(0)rdisk(0)partition(1)\\WINDOWS\n"
    ++ codes "load 1 clean\n"
    ++ codes "set 1 default\n"
    ++ codes "commit begin 2\n"
    ++ codes "select 1 1 0 2\n"
    ++ codes "phase boot\n"
    ++ codes "try Svc00000 ok\n"
    ++ codes "phase system\n"
    ++ codes "try Svc00001 ok\n"
    ++ codes "phase automatic\n"
    ++ codes "try Svc00002 ok\n"
    ++ codes "phase done\n"
    ++ codes "logon\n"
    ++ codes "commit save 3\n"
    ++ codes "select 1 1 0 3\n"
    ++ codes "verdict good\n"
    ++ codes "end\n"

-- of `boot`, `go`, `cut now none`, `boot` and `go`
abbrev pub cut_report : List ℕ
cut_report =
    codes "start 1\n"
    ++ codes "entry 1 multi(0)disk(0)rdisk(0)partition(1)\\WINDOWS\n"
    ++ codes "load 1 clean\n"
    ++ codes "set 1 default\n"
    ++ codes "commit begin 2\n"
    ++ codes "select 1 1 0 2\n"
    ++ codes "phase boot\n"
    ++ codes "try Svc00000 ok\n"
    ++ codes "phase system\n"
    ++ codes "try Svc00001 ok\n"
    ++ codes "phase automatic\n"
    ++ codes "try Svc00002 ok\n"
    ++ codes "phase done\n"
    ++ codes "verdict cut\n"
    ++ codes "start 2\n"
    ++ codes "entry 1 multi(0)disk(0)rdisk(0)partition(1)\\WINDOWS\n"
    ++ codes "load 2 clean\n"
    ++ codes "set 1 default\n"
    ++ codes "select 1 1 0 2\n"
    ++ codes "phase boot\n"
    ++ codes "try Svc00000 ok\n"
    ++ codes "phase system\n"
    ++ codes "try Svc00001 ok\n"
    ++ codes "phase automatic\n"
    ++ codes "try Svc00002 ok\n"
    ++ codes "phase done\n"
    ++ codes "verdict running\n"
    ++ codes "end\n"

-- ---- of `cut sync 1 none`, `boot` and `boot`

-- where the cut came in the load of the first start
abbrev pub cut_in_load : List ℕ
cut_in_load =
    codes "start 1\n"
    ++ codes "entry 1 multi(0)disk(0)rdisk(0)partition(1)\\WINDOWS\n"
    ++ codes "verdict cut\n"
    ++ codes "start 2\n"
    ++ codes "entry 1 multi(0)disk(0)rdisk(0)partition(1)\\WINDOWS\n"

-- where it came in its commit
abbrev pub cut_in_commit : List ℕ
cut_in_commit =
    codes "start 1\n"
    ++ codes "entry 1 multi(0)disk(0)rdisk(0)partition(1)\\WINDOWS\n"
    ++ codes "load 1 clean\n"
    ++ codes "set 1 default\n"
    ++ codes "verdict cut\n"
    ++ codes "start 2\n"
    ++ codes "entry 1 multi(0)disk(0)rdisk(0)partition(1)\\WINDOWS\n"

-- the second start, where nothing was committed before
abbrev pub commits : List ℕ
commits =
    codes "set 1 default\n"
    ++ codes "commit begin 2\n"
    ++ codes "select 1 1 0 2\n"
    ++ codes "phase boot\n"
    ++ codes "verdict running\n"
    ++ codes "end\n"

-- the second start, where the commit is there
abbrev pub goes_on : List ℕ
goes_on =
    codes "set 1 default\n"
    ++ codes "select 1 1 0 2\n"
    ++ codes "phase boot\n"
    ++ codes "verdict running\n"
    ++ codes "end\n"

-- where no cut came
abbrev pub uncut : List ℕ
uncut =
    codes "start 1\n"
    ++ codes "entry 1 multi(0)disk(0)rdisk(0)partition(1)\\WINDOWS\n"
    ++ codes "load 1 clean\n"
    ++ codes "set 1 default\n"
    ++ codes "commit begin 2\n"
    ++ codes "select 1 1 0 2\n"
    ++ codes "phase boot\n"
    ++ codes "refused boot running\n"
    ++ codes "verdict running\n"
    ++ codes "end\n"

-- all that the rules allow
abbrev pub ordered_reports : List (List ℕ)
ordered_reports =
    uncut
    ∷ (cut_in_load ++ codes "load 1 clean\n" ++ commits)
    ∷ (cut_in_load ++ codes "load 1 recovered\n" ++ commits)
    ∷ (cut_in_commit ++ codes "load 1 clean\n" ++ commits)
    ∷ (cut_in_commit ++ codes "load 1 recovered\n" ++ commits)
    ∷ (cut_in_commit ++ codes "load 2 clean\n" ++ goes_on)
    ∷ (cut_in_commit ++ codes "load 2 recovered\n" ++ goes_on)
    ∷ []
