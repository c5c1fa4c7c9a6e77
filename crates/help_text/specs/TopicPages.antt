-- Which lines do the pages of what is no command have? (this project's own)
use Rattle.std.specs.Prelude.{ℕ, List, [], ◌∷◌, codes}

abbrev pub help_lines : List (List ℕ)
help_lines =
    codes "Usage: ntboot help [COMMAND | TOPIC]"
    ∷ codes ""
    ∷ codes "Print the page of a command, or of one of the topics exits, script and report."
    ∷ codes "'ntboot COMMAND --help' prints the same page."
    ∷ []

abbrev pub version_lines : List (List ℕ)
version_lines =
    codes "Usage: ntboot version"
    ∷ codes ""
    ∷ codes "Print the name of the program and its version."
    ∷ []

abbrev pub exits_lines : List (List ℕ)
exits_lines =
    codes "Exit status:"
    ∷ codes ""
    ∷ codes "   0  done, or a line of the report says what was refused"
    ∷ codes "   1  bad usage: the words or the system's path could not be read"
    ∷ codes "   2  a file to read is not there"
    ∷ codes "   3  the script, or the text of commands, has a fault"
    ∷ codes "   4  boot.ini is too long or has too many entries"
    ∷ codes "   5  the hive with its log has a fault"
    ∷ codes "   6  a file could not be read"
    ∷ codes "   7  the report or a file could not be written"
    ∷ codes "   8  something was found, where a command looks for something (find: nothing"
    ∷ codes "      was found)"
    ∷ codes "   9  out of memory"
    ∷ codes "  10  the registry text has a fault"
    ∷ codes ""
    ∷ codes "Add -v to see on standard error why a command was refused. A boot that fails is"
    ∷ codes "no error: look for the line verdict."
    ∷ []

abbrev pub script_lines : List (List ℕ)
script_lines =
    codes "A script has one event a line. Words with spaces stand in \"quotes\"; lines that"
    ∷ codes "begin with # are comments."
    ∷ codes ""
    ∷ codes "  boot [K] [lkg]            boot entry K of boot.ini, lkg: LastKnownGood"
    ∷ codes "  go [N]                    N steps of the boot, or all"
    ∷ codes "  logon                     a user logs on"
    ∷ codes "  off                       shut down"
    ∷ codes "  fail NAME N               the next N attempts to start NAME fail"
    ∷ codes "  vital NAME                a boot without NAME at the end of phase boot stops"
    ∷ codes "  set PATH VALUE dword N    set a value; also: sz TEXT, multi TEXT.., binary HEX"
    ∷ codes "  delete PATH VALUE         delete a value"
    ∷ codes "  make PATH                 make a key"
    ∷ codes "  remove PATH               delete a key and all below it"
    ∷ codes "  flush                     commit the edits"
    ∷ codes "  cut now KEEP              cut the power; KEEP is none, all, odd or torn"
    ∷ codes "  cut CALL N KEEP           cut it at the N-th CALL: read, write or sync"
    ∷ codes "  fault CALL N              let the N-th CALL fail"
    ∷ codes ""
    ∷ codes "PATH is as CurrentControlSet\\Services\\Disk. N is decimal."
    ∷ []

abbrev pub report_lines : List (List ℕ)
report_lines =
    codes "The report of a run, a fact a line:"
    ∷ codes ""
    ∷ codes "  start K                   boot K of the script"
    ∷ codes "  entry K PATH              the entry of boot.ini"
    ∷ codes "  load SEQ clean            the hive was loaded; recovered: by its log"
    ∷ codes "  set N default             the control set taken; or last-known-good"
    ∷ codes "  select C D F L            Current, Default, Failed, LastKnownGood"
    ∷ codes "  phase WORD                boot, system, automatic or done begins"
    ∷ codes "  try NAME ok               NAME was started; or failed ignored, failed logged,"
    ∷ codes "                            failed fall-back, failed stop"
    ∷ codes "  unmet NAME                NAME was not tried: what it needs was not started"
    ∷ codes "  vital NAME missing        a vital driver was not started"
    ∷ codes "  commit WHAT SEQ           a change is on the disk: begin, save, flush or off"
    ∷ codes "  save refused WORD         full or no-number: a good boot could not be saved"
    ∷ codes "  logon, edit ok, flush nothing"
    ∷ codes "  refused EVENT WORD        the event was refused"
    ∷ codes "  verdict WORD              how the boot ended: good, good-unsaved, running,"
    ∷ codes "                            fall-back, stopped, cut, device, full, no-number,"
    ∷ codes "                            no-entry, other-loader, no-system, no-control-set,"
    ∷ codes "                            no-last-known-good"
    ∷ codes "  end                       the script is at its end"
    ∷ []
