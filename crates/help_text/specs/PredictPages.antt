-- Which lines do the pages of the commands that predict what a boot starts have? (this project's own)
use Rattle.std.specs.Prelude.{ℕ, List, [], ◌∷◌, codes}

abbrev pub run_lines : List (List ℕ)
run_lines =
    codes "Usage: ntboot run --hive F --script F [OPTIONS]"
    ∷ codes ""
    ∷ codes "Play a script on a copy of the hive and print what each boot does."
    ∷ codes ""
    ∷ codes "  --hive F        the SYSTEM hive"
    ∷ codes "  --script F      the script ('ntboot help script')"
    ∷ codes "  --log F         the hive's log (SYSTEM.LOG), which recovers a dirty hive"
    ∷ codes "  --boot-ini F    boot.ini"
    ∷ codes "  --system ARC    this system's ARC path"
    ∷ codes "                  [default: multi(0)disk(0)rdisk(0)partition(1)\\WINDOWS]"
    ∷ codes "  --save-hive F   write the hive as the disk holds it at the end"
    ∷ codes "  --save-log F    write the log as the disk holds it at the end"
    ∷ codes ""
    ∷ codes "Example: a script of the lines boot, go, logon, off plays one good boot."
    ∷ codes "The report: 'ntboot help report'."
    ∷ []

abbrev pub safe_lines : List (List ℕ)
safe_lines =
    codes "Usage: ntboot safe --hive F [OPTIONS]"
    ∷ codes ""
    ∷ codes "Print what a boot in safe mode would start, if nothing fails."
    ∷ codes ""
    ∷ codes "  --hive F        the SYSTEM hive"
    ∷ codes "  --log F         its log, which recovers a dirty hive"
    ∷ codes "  --boot-ini F    boot.ini; its default entry has the switch /SAFEBOOT:"
    ∷ codes "  --system ARC    this system's ARC path"
    ∷ codes "                  [default: multi(0)disk(0)rdisk(0)partition(1)\\WINDOWS]"
    ∷ codes "  --mode MODE     minimal or network, whatever boot.ini says"
    ∷ codes "  --images        list a driver by the name of its image, as vga.sys, too"
    ∷ codes ""
    ∷ codes "Without --mode and without a switch nothing is left out."
    ∷ []

abbrev pub control_lines : List (List ℕ)
control_lines =
    codes "Usage: ntboot control --hive F --commands F [--log F]"
    ∷ codes ""
    ∷ codes "Boot the Default set with no failures, then start and stop services."
    ∷ codes ""
    ∷ codes "  --hive F       the SYSTEM hive"
    ∷ codes "  --commands F   a command a line: start NAME, stop NAME, stopall NAME, list"
    ∷ codes "  --log F        the hive's log, which recovers a dirty hive"
    ∷ codes ""
    ∷ codes "start starts what NAME needs first. stop is refused while another service needs"
    ∷ codes "NAME; stopall stops those first."
    ∷ []

abbrev pub why_lines : List (List ℕ)
why_lines =
    codes "Usage: ntboot why --hive F [OPTIONS] NAME"
    ∷ codes ""
    ∷ codes "Print where an entry stands in the last boot, what became of it, and what it"
    ∷ codes "lacked, down to the root."
    ∷ codes ""
    ∷ codes "  --hive F       the SYSTEM hive"
    ∷ codes "  --script F     a script to play first, without ordered cuts and faults"
    ∷ codes "                 [default: boot, go]"
    ∷ codes "  --log F        the hive's log, which recovers a dirty hive"
    ∷ codes "  --boot-ini F   boot.ini"
    ∷ codes "  --system ARC   this system's ARC path"
    ∷ codes "                 [default: multi(0)disk(0)rdisk(0)partition(1)\\WINDOWS]"
    ∷ codes ""
    ∷ codes "NAME is a key below Services; \\u and four hexadecimal digits are one unit."
    ∷ []

abbrev pub whatif_lines : List (List ℕ)
whatif_lines =
    codes "Usage: ntboot whatif --hive F [OPTIONS]"
    ∷ codes ""
    ∷ codes "For each entry that a boot starts, print what is lost when it fails, and when it"
    ∷ codes "is disabled."
    ∷ codes ""
    ∷ codes "  --hive F       the SYSTEM hive"
    ∷ codes "  --of NAME      only this entry, and everything that leans on it"
    ∷ codes "  --log F        the hive's log, which recovers a dirty hive"
    ∷ codes "  --boot-ini F   boot.ini"
    ∷ codes "  --system ARC   this system's ARC path"
    ∷ codes "                 [default: multi(0)disk(0)rdisk(0)partition(1)\\WINDOWS]"
    ∷ []

abbrev pub graph_lines : List (List ℕ)
graph_lines =
    codes "Usage: ntboot graph --hive F [OPTIONS]"
    ∷ codes ""
    ∷ codes "Print the entries of the last boot and their needs as a graph in the language of"
    ∷ codes "Graphviz: ntboot graph --hive SYSTEM | dot -Tsvg > boot.svg"
    ∷ codes ""
    ∷ codes "  --hive F       the SYSTEM hive"
    ∷ codes "  --of NAME      only what NAME needs and what needs NAME"
    ∷ codes "  --script F     a script to play first, without ordered cuts and faults"
    ∷ codes "                 [default: boot, go]"
    ∷ codes "  --log F        the hive's log, which recovers a dirty hive"
    ∷ codes "  --boot-ini F   boot.ini"
    ∷ codes "  --system ARC   this system's ARC path"
    ∷ codes "                 [default: multi(0)disk(0)rdisk(0)partition(1)\\WINDOWS]"
    ∷ []
