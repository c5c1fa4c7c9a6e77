-- Which lines do the pages of `export`, of the commands that repair a hive, and of those that teach have? (this project's own)
use Rattle.std.specs.Prelude.{ℕ, List, [], ◌∷◌, codes}

abbrev pub export_lines : List (List ℕ)
export_lines =
    codes "Usage: ntboot export --hive F --reg F [OPTIONS]"
    ∷ codes ""
    ∷ codes "Write a key with all below it as registry text (UTF-16, version 5.00)."
    ∷ codes ""
    ∷ codes "  --hive F     the hive"
    ∷ codes "  --reg F      the file to write"
    ∷ codes "  --log F      the hive's log, which recovers a dirty hive"
    ∷ codes "  --key PATH   the key, as ControlSet001\\Services [default: the root]"
    ∷ []

abbrev pub import_lines : List (List ℕ)
import_lines =
    codes "Usage: ntboot import --hive F --reg F [OPTIONS]"
    ∷ codes ""
    ∷ codes "Apply a registry text (version 5.00) to a copy of the hive, all or nothing."
    ∷ codes ""
    ∷ codes "  --hive F          the hive"
    ∷ codes "  --reg F           the registry text"
    ∷ codes "  --log F           the hive's log, which recovers a dirty hive"
    ∷ codes "  --save-hive F     write the changed hive; without it nothing is kept"
    ∷ codes "  --save-log F      write its log"
    ∷ codes "  --encoding E      utf-16 or utf-8 [default: utf-16]"
    ∷ codes "  --current N       take keys under CurrentControlSet to set N, 1 to 999, or"
    ∷ codes "                    to the Default set with the word default"
    ∷ codes "  --lenient         pass over deletions of what is not there"
    ∷ []

abbrev pub twin_lines : List (List ℕ)
twin_lines =
    codes "Usage: ntboot twin --hive F [OPTIONS]"
    ∷ codes ""
    ∷ codes "Load a hive kept as two whole copies, repair the one that is not whole, and set"
    ∷ codes "the Default control set."
    ∷ codes ""
    ∷ codes "  --hive F        the first copy"
    ∷ codes "  --alt F         the second copy, or the log with --scheme log"
    ∷ codes "  --scheme S      alt (two copies) or log (a hive and its log) [default: alt]"
    ∷ codes "  --default N     set Select\\Default to N, from 1 to 999"
    ∷ codes "  --save-hive F   write the first copy"
    ∷ codes "  --save-alt F    write the second copy or the log"
    ∷ []

abbrev pub salvage_lines : List (List ℕ)
salvage_lines =
    codes "Usage: ntboot salvage --hive F [OPTIONS]"
    ∷ codes ""
    ∷ codes "Read what can be read of a damaged hive, or of a dirty one without its log, and"
    ∷ codes "print each fault and what it takes away. The exit is 8 where a fault was found."
    ∷ codes ""
    ∷ codes "  --hive F        the hive"
    ∷ codes "  --log F         its log"
    ∷ codes "  --save-hive F   write a sound hive of everything that was read"
    ∷ codes "  --by-parent     also look for children that no list leads to"
    ∷ []

abbrev pub replay_lines : List (List ℕ)
replay_lines =
    codes "Usage: ntboot replay --hive F [OPTIONS]"
    ∷ codes ""
    ∷ codes "Apply the transaction logs that Windows writes to a dirty hive. The exit is 8"
    ∷ codes "where they end at a broken entry, or do not make the hive clean."
    ∷ codes ""
    ∷ codes "  --hive F        the hive"
    ∷ codes "  --log F         its log: SYSTEM.LOG"
    ∷ codes "  --log1 F        SYSTEM.LOG1"
    ∷ codes "  --log2 F        SYSTEM.LOG2"
    ∷ codes "  --save-hive F   write the hive as the logs leave it, clean"
    ∷ []

abbrev pub make_lines : List (List ℕ)
make_lines =
    codes "Usage: ntboot make N [--save-hive F]"
    ∷ codes ""
    ∷ codes "Make a hive of N services, from 1 to 10000, boot it once up to a logon, and"
    ∷ codes "print a line of totals."
    ∷ codes ""
    ∷ codes "  --save-hive F   write the hive as the boot left it"
    ∷ []

abbrev pub sweep_lines : List (List ℕ)
sweep_lines =
    codes "Usage: ntboot sweep --hive F --script F [OPTIONS]"
    ∷ codes ""
    ∷ codes "Cut the power at each write and sync that one event makes, and print whether"
    ∷ codes "the hive then loads as before the event or as after it."
    ∷ codes ""
    ∷ codes "  --hive F        the SYSTEM hive"
    ∷ codes "  --script F      a script with a line sweep in front of the event, and no cut"
    ∷ codes "                  or fault; lines after the event are not played"
    ∷ codes "  --log F         the hive's log, which recovers a dirty hive"
    ∷ codes "  --boot-ini F    boot.ini"
    ∷ codes "  --system ARC    this system's ARC path"
    ∷ codes "                  [default: multi(0)disk(0)rdisk(0)partition(1)\\WINDOWS]"
    ∷ codes ""
    ∷ codes "Each line has a result for none, all, every other one (odd) of the sectors not"
    ∷ codes "yet synced kept, and for all of them unreadable (torn)."
    ∷ []
