-- Which lines do the pages of the commands that look at a hive have? (this project's own)
use Rattle.std.specs.Prelude.{ℕ, List, [], ◌∷◌, codes}

abbrev pub show_lines : List (List ℕ)
show_lines =
    codes "Usage: ntboot show --hive F [--log F]"
    ∷ codes ""
    ∷ codes "Print the hive as text: keys indented by two spaces a level, and each value as"
    ∷ codes "= NAME TYPE LENGTH DATA, the data in hexadecimal."
    ∷ codes ""
    ∷ codes "  --hive F   the hive"
    ∷ codes "  --log F    its log, which recovers a dirty hive"
    ∷ []

abbrev pub key_lines : List (List ℕ)
key_lines =
    codes "Usage: ntboot key --hive F [OPTIONS]"
    ∷ codes ""
    ∷ codes "Print one key readably: when it was written, its class, values and subkeys."
    ∷ codes ""
    ∷ codes "  --hive F     the hive"
    ∷ codes "  --key PATH   the key [default: the root]; CurrentControlSet is the Default set"
    ∷ codes "  --depth N    also N levels below it [default: 0]"
    ∷ codes "  --security   also the security descriptors"
    ∷ codes "  --log F      the hive's log, which recovers a dirty hive"
    ∷ []

abbrev pub find_lines : List (List ℕ)
find_lines =
    codes "Usage: ntboot find --hive F --text T [OPTIONS]"
    ∷ codes "       ntboot find --hive F --hex BYTES [OPTIONS]"
    ∷ codes ""
    ∷ codes "Print where a text stands in a hive: in names of keys and values, and in data"
    ∷ codes "that are text. The exit is 8 where it stands nowhere."
    ∷ codes ""
    ∷ codes "  --hive F     the hive"
    ∷ codes "  --text T     the text, upper or lower case; \\u and four hexadecimal digits"
    ∷ codes "               are one unit"
    ∷ codes "  --hex BYTES  these bytes in data of any type, as 4d5a90; also with --text"
    ∷ codes "  --names      look for T in names alone"
    ∷ codes "  --data       look for T in data alone"
    ∷ codes "  --exact      the whole name, text or data, not a part of it"
    ∷ codes "  --key PATH   only this key and those below it; CurrentControlSet is the"
    ∷ codes "               Default set"
    ∷ codes "  --log F      the hive's log, which recovers a dirty hive"
    ∷ []

abbrev pub services_lines : List (List ℕ)
services_lines =
    codes "Usage: ntboot services --hive F [OPTIONS]"
    ∷ codes ""
    ∷ codes "List the drivers and services of a control set, one a line, with everything that"
    ∷ codes "a boot asks of them and when their keys were last written."
    ∷ codes ""
    ∷ codes "  --hive F       the SYSTEM hive"
    ∷ codes "  --log F        its log, which recovers a dirty hive"
    ∷ codes "  --set N        control set N [default: the Default set]"
    ∷ codes "  --start N      only those of Start N: 0 boot, 1 system, 2 automatic,"
    ∷ codes "                 3 demand, 4 disabled"
    ∷ codes "  --kind KIND    only drivers (driver) or services (service)"
    ∷ codes "  --since TIME   only those whose key was written at that time or later, as"
    ∷ codes "                 2012-04-04 or 2012-04-04T11:47:06Z (UTC)"
    ∷ codes "  --sort BY      name, written (the newest first) or order (the boot's)"
    ∷ codes "                 [default: as in the registry]"
    ∷ codes ""
    ∷ codes "A field that is not there is -, one that is not well formed (TYPE DATA). Marks"
    ∷ codes "at the end of a line: no-image, image-outside, no-dll, dll-outside; outside is"
    ∷ codes "outside of the Windows folder. order: the phase and the number of the attempt."
    ∷ []

abbrev pub check_lines : List (List ℕ)
check_lines =
    codes "Usage: ntboot check --hive F [OPTIONS]"
    ∷ codes ""
    ∷ codes "Print everything suspicious about the services of a control set. The exit is 8"
    ∷ codes "where something was found."
    ∷ codes ""
    ∷ codes "  --hive F   the SYSTEM hive"
    ∷ codes "  --log F    its log, which recovers a dirty hive"
    ∷ codes "  --set N    judge control set N alone [default: the Default set, and Select]"
    ∷ codes "  --order    also entries of unlisted groups and tags"
    ∷ []

abbrev pub devices_lines : List (List ℕ)
devices_lines =
    codes "Usage: ntboot devices --hive F [OPTIONS]"
    ∷ codes ""
    ∷ codes "Print the drivers that Plug and Play loads for each device instance, in load"
    ∷ codes "order, and what prevents it. The exit is 8 where something was found."
    ∷ codes ""
    ∷ codes "  --hive F     the SYSTEM hive"
    ∷ codes "  --log F      its log, which recovers a dirty hive"
    ∷ codes "  --set N      use control set N [default: the Default set]"
    ∷ codes "  --of NAME    only the devices that use the driver NAME"
    ∷ codes "  --findings   only the devices with a finding"
    ∷ codes "  --ids        also which entry of CriticalDeviceDatabase matches each device"
    ∷ codes "  --critical   also the entries of that database whose driver is not Start 0"
    ∷ codes ""
    ∷ codes "NAME is a key below Services; \\u and four hexadecimal digits are one unit."
    ∷ []

abbrev pub diff_lines : List (List ℕ)
diff_lines =
    codes "Usage: ntboot diff --hive F [OPTIONS]"
    ∷ codes ""
    ∷ codes "Compare the services and orders of two control sets, and the boots they give."
    ∷ codes "The exit is 8 where something differs."
    ∷ codes ""
    ∷ codes "  --hive F       the first hive"
    ∷ codes "  --set N        its control set [default: the Default set]"
    ∷ codes "  --with F       the second hive [default: the first]"
    ∷ codes "  --with-set N   its control set [default: Default; in one hive LastKnownGood]"
    ∷ codes "  --log F        the log of the first hive"
    ∷ codes "  --with-log F   the log of the second"
    ∷ codes "  --all          compare every key and value of the two sets"
    ∷ []
