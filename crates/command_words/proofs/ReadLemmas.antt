-- What holds of all that each command may be asked for holds of what is read.
use Rattle.std.proofs.Common.{◌≡◌, ◌≤◌, ◌&&◌, ℕ, Bool, true, false, List, [], ◌∷◌, Option, Some, None, Result, Ok, Err, if◌then◌else◌, refl, subst}
use Rattle.std.specs.Prelude.{IfOk, IfSome, bytes_eq, codes, length, nat_le, option_and_then}
use Rattle.std.specs.Str.Parse.{digits_value}
use Rattle.std.proofs.lemmas.Bool.{and_parts, leb-true}
use Rattle.nt_bytes.specs.Text.{is_digits}
use Rattle.command_words.specs.declared.asked.CommandName.{CommandName}
use Rattle.command_words.specs.declared.asked.CommandName.TheVariants as names
use Rattle.command_words.specs.declared.asked.Page.{Page}
use Rattle.command_words.specs.declared.asked.Page.TheVariants as pages
use Rattle.command_words.specs.Words.{Text, Asked, Reading, Reason, asks, help, version}
use Rattle.command_words.specs.Words.{run, show, make, safe, control, twin, export, import, key, replay, check, whatif, salvage, diff, why, graph, sweep, devices, find, services}
use Rattle.command_words.specs.Words.{RunAsked, ShowAsked, MakeAsked, SafeAsked, ControlAsked, TwinAsked, ExportAsked, ImportAsked, KeyAsked, ReplayAsked, CheckAsked, WhatifAsked, SalvageAsked}
use Rattle.command_words.specs.Words.{DiffAsked, WhyAsked, GraphAsked, SweepAsked, DevicesAsked, FindAsked, ServicesAsked}
use Rattle.command_words.specs.Table.{count_of, dword_of, is_hex, kind_of, mode_of, sort_of}
use Rattle.command_words.specs.Times.{time_of}
use Rattle.command_words.specs.Walk.{Values, and_then, no_values, value_named, walked}
use Rattle.command_words.specs.Commands.{CommandRow, Look, asks_of, counted, row_named}
use Rattle.command_words.specs.Commands.{current_in, encoding_in, flag_in, hexed, levels_in, needed_in, paired, scheme_of, set_in, sought, system_in}
use Rattle.command_words.specs.Reading.{alone, asked_by, asked_of, asked_read, asks_help, command_read, first_read, help_read, help_topic}
use Rattle.command_words.specs.Reading.{is_help, page_named, page_of_row, page_read, reading_of, version_read}
use Rattle.command_words.specs.Laws.{IsSought}

-- ---- a step after another

by_then : {A B : Type 0} (P : B → Type 0) (f : A → Result B Reason) (r : Result A Reason) → ((a : A) → IfOk (f a) P)
    → IfOk (and_then r f) P
by_then P f (Ok a) each = each a
by_then P f (Err e) each = tt

-- a step after a text that was found
by_text : (P : Asked → Type 0) (look : Look) (name : Text) (f : Text → Result Asked Reason) → ((t : Text) → IfOk (f t) P)
    → IfOk (and_then (needed_in look name) f) P
by_text P look name f each = by_then P f (needed_in look name) each

-- a command of one text, and one of two
by_one : (P : Asked → Type 0) (look : Look) (name : Text) (f : Text → Asked) → ((t : Text) → P (f t))
    → IfOk (and_then (needed_in look name) (λ t. Ok (f t))) P
by_one P look name f each = by_text P look name (λ t. Ok (f t)) each

by_two : (P : Asked → Type 0) (look : Look) (name other : Text) (f : Text → Text → Asked) → ((t u : Text) → P (f t u))
    → IfOk (and_then (needed_in look name) (λ t. and_then (needed_in look other) (λ u. Ok (f t u)))) P
by_two P look name other f each =
    by_text P look name (λ t. and_then (needed_in look other) (λ u. Ok (f t u))) (λ t. by_one P look other (f t) (each t))

by_found : {A B : Type 0} (Q : A → Type 0) (P : B → Type 0) (f : A → Result B Reason) (r : Result A Reason)
    → IfOk r Q → ((a : A) → Q a → IfOk (f a) P) → IfOk (and_then r f) P
by_found Q P f (Ok a) here each = each a here
by_found Q P f (Err e) here each = tt

-- ---- a number to be made is one of those that can be made

abbrev IsInRange : ℕ → Type 0
IsInRange n = (1 ≤ n) × (n ≤ 10000)

in_range : (a b : Bool) (n : ℕ) → (a && (b && (nat_le 1 n && nat_le n 10000))) ≡ true → IsInRange n
in_range a b n e =
    let first = and_parts a (b && (nat_le 1 n && nat_le n 10000)) e in
    let second = and_parts b (nat_le 1 n && nat_le n 10000) first.1 in
    let last = and_parts (nat_le 1 n) (nat_le n 10000) second.1 in
    (leb-true 1 n last.0, leb-true n 10000 last.1)

by_test : (b : Bool) (n : ℕ) → (b ≡ true → IsInRange n) → IfSome (if b then Some n else None) IsInRange
by_test true n here = here refl
by_test false n here = tt

count_counted : (text : Text) → IfSome (count_of text) IsInRange
count_counted text =
    let value : ℕ = digits_value 10 text in
    by_test (is_digits text && (nat_le (length text) 5 && (nat_le 1 value && nat_le value 10000))) value
    (in_range (is_digits text) (nat_le (length text) 5) value)

number_counted : (text : Text) (o : Option ℕ) → IfSome o IsInRange → IfOk (counted text o) IsInRange
number_counted text (Some n) here = here
number_counted text None here = tt

-- ---- the commands

-- what the values ask of `make`, with this number
abbrev make_with : Look → Text → Result Asked Reason
make_with look text = and_then (counted text (count_of text)) (λ n. Ok (make record { count = n; save_hive = look (codes "--save-hive") }))

-- what the values ask of `diff`, with this second hive
abbrev diff_with : Look → Text → Option Text → Result Asked Reason
diff_with look hive with = Ok (diff record {
  hive = hive;
  log = look (codes "--log");
  set = set_in look (codes "--set");
  with = with;
  with_log = look (codes "--with-log");
  with_set = set_in look (codes "--with-set");
  all = flag_in look (codes "--all");
})

-- what the values ask of `find`, with these bytes and this text
abbrev find_with : Look → Text → Option Text → Option Text → Result Asked Reason
find_with look hive hex text = Ok (find record {
  hive = hive;
  log = look (codes "--log");
  text = text;
  hex = hex;
  names = flag_in look (codes "--names");
  «data» = flag_in look (codes "--data");
  exact = flag_in look (codes "--exact");
  key = look (codes "--key");
})

-- the same with the text that the values have
abbrev find_sought : Look → Text → Option Text → Result Asked Reason
find_sought look hive hex = and_then (sought (look (codes "--text")) hex) (find_with look hive hex)

-- the same with the bytes that they have
abbrev find_hexed : Look → Text → Result Asked Reason
find_hexed look hive = and_then (hexed (look (codes "--hex"))) (find_sought look hive)

make_each : (P : Asked → Type 0) → ((w : MakeAsked) → 1 ≤ w.count → w.count ≤ 10000 → P (make w)) → (look : Look) (text : Text)
    → IfOk (make_with look text) P
make_each P each look text =
    by_found IsInRange P (λ n. Ok (make record { count = n; save_hive = look (codes "--save-hive") })) (counted text (count_of text))
    (number_counted text (count_of text) (count_counted text)) (λ n range. each _ range.0 range.1)

find_each : (P : Asked → Type 0) → ((w : FindAsked) → IsSought w → P (find w)) → (look : Look) (hive : Text) → IfOk (find_hexed look hive) P
find_each P each look hive = by_hex (look (codes "--hex")) (look (codes "--text"))
  where
    by_hex : (hexs texts : Option Text) → IfOk (and_then (hexed hexs) (λ hex. and_then (sought texts hex) (find_with look hive hex))) P
    by_hex None None = tt
    by_hex None (Some text) = each _ (record { given = refl; pairs = refl })
    by_hex (Some hex) texts = by_test (is_hex hex) refl texts
      where
        by_test : (b : Bool) → is_hex hex ≡ b → (texts : Option Text)
            → IfOk (and_then (hexed (Some hex)) (λ h. and_then (sought texts h) (find_with look hive h))) P
        by_test true is None = rw is (each _ (record { given = refl; pairs = is }))
        by_test true is (Some text) = rw is (each _ (record { given = refl; pairs = is }))
        by_test false is texts = rw is tt

-- it holds of all that each command may be asked for
pub record OfEach (P : Asked → Type 0) : Type 0 where
  pub of_run : (w : RunAsked) → P (run w)
  pub of_show : (w : ShowAsked) → P (show w)
  pub of_make : (w : MakeAsked) → 1 ≤ w.count → w.count ≤ 10000 → P (make w)
  pub of_safe : (w : SafeAsked) → P (safe w)
  pub of_control : (w : ControlAsked) → P (control w)
  pub of_twin : (w : TwinAsked) → P (twin w)
  pub of_export : (w : ExportAsked) → P (export w)
  pub of_import : (w : ImportAsked) → P (import w)
  pub of_key : (w : KeyAsked) → P (key w)
  pub of_replay : (w : ReplayAsked) → P (replay w)
  pub of_check : (w : CheckAsked) → P (check w)
  pub of_whatif : (w : WhatifAsked) → P (whatif w)
  pub of_salvage : (w : SalvageAsked) → P (salvage w)
  pub of_diff : (w : DiffAsked) → P (diff w)
  pub of_why : (w : WhyAsked) → P (why w)
  pub of_graph : (w : GraphAsked) → P (graph w)
  pub of_sweep : (w : SweepAsked) → P (sweep w)
  pub of_devices : (w : DevicesAsked) → P (devices w)
  pub of_find : (w : FindAsked) → IsSought w → P (find w)
  pub of_services : (w : ServicesAsked) → P (services w)

asks_each : (P : Asked → Type 0) → OfEach P → (command : CommandName) (look : Look) → IfOk (asks_of command look) P
asks_each P e names.Run look = by_two P look (codes "--hive") (codes "--script") (λ hive script. run record {
  hive = hive;
  log = look (codes "--log");
  script = script;
  boot_ini = look (codes "--boot-ini");
  system = system_in look;
  save_hive = look (codes "--save-hive");
  save_log = look (codes "--save-log");
}) (λ hive script. e.of_run _)
asks_each P e names.Show look =
    by_one P look (codes "--hive") (λ hive. show record { hive = hive; log = look (codes "--log") }) (λ hive. e.of_show _)
asks_each P e names.Make look = by_text P look (codes "N") (make_with look) (make_each P e.of_make look)
asks_each P e names.Safe look = by_one P look (codes "--hive") (λ hive. safe record {
  hive = hive;
  log = look (codes "--log");
  boot_ini = look (codes "--boot-ini");
  system = system_in look;
  mode = option_and_then mode_of (look (codes "--mode"));
  images = flag_in look (codes "--images");
}) (λ hive. e.of_safe _)
asks_each P e names.Control look = by_two P look (codes "--hive") (codes "--commands")
    (λ hive commands. control record { hive = hive; log = look (codes "--log"); commands = commands })
    (λ hive commands. e.of_control _)
asks_each P e names.Twin look = by_one P look (codes "--hive") (λ hive. twin record {
  hive = hive;
  alt = look (codes "--alt");
  scheme = scheme_of (look (codes "--scheme"));
  default = set_in look (codes "--default");
  save_hive = look (codes "--save-hive");
  save_alt = look (codes "--save-alt");
}) (λ hive. e.of_twin _)
asks_each P e names.Export look = by_two P look (codes "--hive") (codes "--reg")
    (λ hive reg. export record { hive = hive; log = look (codes "--log"); reg = reg; key = look (codes "--key") })
    (λ hive reg. e.of_export _)
asks_each P e names.Import look = by_two P look (codes "--hive") (codes "--reg") (λ hive reg. import record {
  hive = hive;
  log = look (codes "--log");
  reg = reg;
  save_hive = look (codes "--save-hive");
  save_log = look (codes "--save-log");
  encoding = encoding_in look;
  current = current_in look;
  lenient = flag_in look (codes "--lenient");
}) (λ hive reg. e.of_import _)
asks_each P e names.Key look = by_one P look (codes "--hive") (λ hive. key record {
  hive = hive;
  log = look (codes "--log");
  key = look (codes "--key");
  depth = levels_in look;
  security = flag_in look (codes "--security");
}) (λ hive. e.of_key _)
asks_each P e names.Replay look = by_one P look (codes "--hive") (λ hive. replay record {
  hive = hive;
  log = look (codes "--log");
  log1 = look (codes "--log1");
  log2 = look (codes "--log2");
  save_hive = look (codes "--save-hive");
}) (λ hive. e.of_replay _)
asks_each P e names.Check look = by_one P look (codes "--hive") (λ hive. check record {
  hive = hive;
  log = look (codes "--log");
  set = set_in look (codes "--set");
  order = flag_in look (codes "--order");
}) (λ hive. e.of_check _)
asks_each P e names.Whatif look = by_one P look (codes "--hive") (λ hive. whatif record {
  hive = hive;
  log = look (codes "--log");
  boot_ini = look (codes "--boot-ini");
  system = system_in look;
  of = look (codes "--of");
}) (λ hive. e.of_whatif _)
asks_each P e names.Salvage look = by_one P look (codes "--hive") (λ hive. salvage record {
  hive = hive;
  log = look (codes "--log");
  save_hive = look (codes "--save-hive");
  by_parent = flag_in look (codes "--by-parent");
}) (λ hive. e.of_salvage _)
asks_each P e names.Diff look = by_text P look (codes "--hive")
    (λ hive. and_then (paired (look (codes "--with")) (look (codes "--with-log"))) (diff_with look hive))
    (λ hive. by_then P (diff_with look hive) (paired (look (codes "--with")) (look (codes "--with-log"))) (λ with. e.of_diff _))
asks_each P e names.Why look = by_two P look (codes "--hive") (codes "NAME") (λ hive name. why record {
  hive = hive;
  log = look (codes "--log");
  boot_ini = look (codes "--boot-ini");
  system = system_in look;
  script = look (codes "--script");
  name = name;
}) (λ hive name. e.of_why _)
asks_each P e names.Graph look = by_one P look (codes "--hive") (λ hive. graph record {
  hive = hive;
  log = look (codes "--log");
  boot_ini = look (codes "--boot-ini");
  system = system_in look;
  script = look (codes "--script");
  of = look (codes "--of");
}) (λ hive. e.of_graph _)
asks_each P e names.Sweep look = by_two P look (codes "--hive") (codes "--script") (λ hive script. sweep record {
  hive = hive;
  log = look (codes "--log");
  script = script;
  boot_ini = look (codes "--boot-ini");
  system = system_in look;
}) (λ hive script. e.of_sweep _)
asks_each P e names.Devices look = by_one P look (codes "--hive") (λ hive. devices record {
  hive = hive;
  log = look (codes "--log");
  set = set_in look (codes "--set");
  of = look (codes "--of");
  findings = flag_in look (codes "--findings");
  ids = flag_in look (codes "--ids");
  critical = flag_in look (codes "--critical");
}) (λ hive. e.of_devices _)
asks_each P e names.Find look = by_text P look (codes "--hive") (find_hexed look) (find_each P e.of_find look)
asks_each P e names.Services look = by_one P look (codes "--hive") (λ hive. services record {
  hive = hive;
  log = look (codes "--log");
  set = set_in look (codes "--set");
  start = option_and_then dword_of (look (codes "--start"));
  kind = option_and_then kind_of (look (codes "--kind"));
  since = option_and_then time_of (look (codes "--since"));
  sort = option_and_then sort_of (look (codes "--sort"));
}) (λ hive. e.of_services _)

-- ---- the reading

module _ (P : Asked → Type 0) (each : OfEach P) where
  -- it holds of the command that is read, if one is
  abbrev Holds : Reading → Type 0
  Holds (asks asked json) = P asked
  Holds other = Unit {0}

  by_if : (b : Bool) (x y : Reading) → Holds x → Holds y → Holds (if b then x else y)
  by_if true x y p q = p
  by_if false x y p q = q

  read_holds : (r : Result Asked Reason) (json : Bool) → IfOk r P → Holds (asked_read (and_then r (λ asked. Ok (asked, json))))
  read_holds (Ok asked) json here = here
  read_holds (Err e) json here = tt

  values_hold : (row : CommandRow) (r : Result Values Reason) → Holds (asked_read (and_then r (asked_by row)))
  values_hold row (Err e) = tt
  values_hold row (Ok values) =
      let look : Look = value_named row.options values in
      read_holds (asks_of row.command look) (flag_in look (codes "--json")) (asks_each P each row.command look)

  command_holds : (first : Text) (words : List Text) (row : Option CommandRow) → Holds (command_read first words row)
  command_holds first words None = tt
  command_holds first words (Some row) =
      by_if (asks_help words) (help (page_of_row row)) (asked_read (asked_of row words)) tt
      (values_hold row (walked row.options (record { values = no_values; waiting = None }) words))

  alone_holds : (reading : Reading) (words : List Text) → Holds reading → Holds (alone reading words)
  alone_holds reading [] here = here
  alone_holds reading (word ∷ words) here = tt

  page_holds : (page : Option Page) → Holds (page_read page)
  page_holds None = tt
  page_holds (Some page) = tt

  topic_holds : (words : List Text) → Holds (help_topic words)
  topic_holds [] = tt
  topic_holds (name ∷ words) = alone_holds (page_read (page_named name)) words (page_holds (page_named name))

  help_holds : (words : List Text) → Holds (help_read words)
  help_holds words = by_if (asks_help words) (help pages.Help) (help_topic words) tt (topic_holds words)

  version_holds : (words : List Text) → Holds (version_read words)
  version_holds words = by_if (asks_help words) (help pages.Version) (alone version words) tt (alone_holds version words tt)

  first_holds : (first : Text) (words : List Text) → Holds (first_read first words)
  first_holds first words =
      let command : Reading = command_read first words (row_named first) in
      let numbered : Reading = if bytes_eq first (codes "--version") then alone version words else command in
      let helped : Reading = if is_help first then alone (help pages.Overview) words else numbered in
      let versioned : Reading = if bytes_eq first (codes "version") then version_read words else helped in
      by_if (bytes_eq first (codes "help")) (help_read words) versioned (help_holds words)
      (by_if (bytes_eq first (codes "version")) (version_read words) helped (version_holds words)
      (by_if (is_help first) (alone (help pages.Overview) words) numbered (alone_holds (help pages.Overview) words tt)
      (by_if (bytes_eq first (codes "--version")) (alone version words) command (alone_holds version words tt)
      (command_holds first words (row_named first)))))

  all_hold : (words : List Text) → Holds (reading_of words)
  unfolding reading_of
  all_hold [] = tt
  all_hold (first ∷ words) = first_holds first words

  pub all_read : (words : List Text) (asked : Asked) (json : Bool) → reading_of words ≡ asks asked json → P asked
  all_read words asked json is = subst Holds is (all_hold words)
