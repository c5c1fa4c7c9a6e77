-- What a comparison finds of trees is what it finds of parts that stand for them.
use Rattle.std.proofs.Common.{◌≡◌, ℕ, zero, suc, Bool, true, false, List, [], ◌∷◌, ◌++◌, length, map, Option, Some, None, refl, sym, ap, ◌∙◌, arith}
use Rattle.std.specs.Prelude.{filter_map}
use Rattle.std.specs.Option.{option_map_or}
use Rattle.hive_model.specs.Tree.{Tree}
use Rattle.start_model.specs.Entries.{Entry, Phase, Boot}
use Rattle.start_model.specs.Order.{plan_of}
use Rattle.report_words.specs.declared.line.Line.{Line}
use Rattle.report_words.specs.declared.line.Line.TheVariants.{Unmet as UnmetLine}
use Rattle.start_model.specs.Machine.{unmet_in, phase_after}
use Rattle.start_model.specs.Starter.{phase_line}
use Rattle.boot_machine.specs.boot_machine.Steps.{without_clone}
use Rattle.safe_boot.specs.Played.{Course, next_entry, tried_at, attempts_of, phase_played, course_begun, start_lines_of}
use Rattle.answer_lines.specs.declared.diff_lines.lines.DiffLine.{DiffLine}
use Rattle.answer_lines.specs.declared.diff_lines.lines.DiffLine.TheVariants.{Sets}
use Rattle.set_diff.specs.Boots.{no_boot, boot_from, boot_of}
use Rattle.set_diff.specs.Services.{service_of}
use Rattle.set_diff.specs.Sets.{compared_of, compared_lines, both_lines, sets_lines}
use Rattle.select_keys.specs.Sets.{usable_set}
use Rattle.set_commands.specs.hive_sets.Shows.{ShowsSet, ShowsFound}
use Rattle.set_commands.proofs.StartLemmas.{services_same, listed_same, orders_same, plan_same}
use Rattle.set_commands.specs.diff_command.Compared.{found_lines}
use Rattle.set_commands.specs.diff_command.Read.{StandsFor}

-- ---- a boot: it prints the same whatever set it keeps a copy of

abbrev plain : Course → Course
plain c = record { lines = c.lines; start = without_clone c.start }

attempts_plain : (n : ℕ) (c : Course) → plain (attempts_of n c) ≡ attempts_of n (plain c)
unfolding attempts_of
attempts_plain zero c = refl
attempts_plain (suc n) c = by (λ d. attempts_plain n d) (next_entry c.start)
  where
    by : ((d : Course) → plain (attempts_of n d) ≡ attempts_of n (plain d)) → (o : Option (ℕ × Entry))
        → plain (option_map_or (λ (next : ℕ × Entry). attempts_of n (tried_at c next.0 next.1)) o c)
        ≡ option_map_or (λ (next : ℕ × Entry). attempts_of n (tried_at (plain c) next.0 next.1)) o (plain c)
    by rest None = refl
    by rest (Some next) = rest (tried_at c next.0 next.1)

abbrev Plans : Type 0
Plans = Phase → List (List ℕ) → List Entry

-- a phase at its end, where the next takes its entries from these plans
abbrev ended_by : Plans → Course → Course
ended_by plans c = record {
  lines = c.lines ++ map UnmetLine (unmet_in c.start) ++ phase_line (phase_after c.start.phase) ∷ [];
  start = record c.start {
    phase = phase_after c.start.phase;
    waiting = plans (phase_after c.start.phase) c.start.tried;
  };
}

abbrev played_by : Plans → Course → Course
played_by plans c = ended_by plans (attempts_of (length c.start.waiting) c)

abbrev begun_by : Plans → Course
begun_by plans = record {
  lines = phase_line Boot ∷ [];
  start = record {
    number = 0;
    on_good = false;
    phase = Boot;
    waiting = plans Boot [];
    tried = [];
    started = [];
    logged_on = false;
    saved = None;
    clone = None;
  };
}

played_plain : (set : Tree) (c : Course) → plain (phase_played set c) ≡ played_by (plan_of set) (plain c)
unfolding phase_played
played_plain set c = ap (ended_by (plan_of set)) (attempts_plain (length c.start.waiting) c)

begun_plain : (set : Tree) → plain (course_begun set) ≡ begun_by (plan_of set)
unfolding course_begun
begun_plain set = refl

abbrev lines_by : Plans → List Line
lines_by plans = (played_by plans (played_by plans (played_by plans (begun_by plans)))).lines

-- the lines of a start, by what its phases take
lines_plain : (set : Tree) → start_lines_of set ≡ lines_by (plan_of set)
lines_plain set =
    let plans = plan_of set in
    let first = course_begun set in
    let second = phase_played set first in
    let third = phase_played set second in
    ap (λ (c : Course). c.lines)
    (played_plain set third
    ∙ ap (played_by plans) (played_plain set second ∙ ap (played_by plans) (played_plain set first ∙ ap (played_by plans) (begun_plain set))))

-- a set and what stands for it are started alike
pub start_same : (set part : Tree) → ShowsSet set part → start_lines_of part ≡ start_lines_of set
start_same set part shows =
    lines_plain part ∙ (λ i. lines_by (λ phase tried. plan_same set part shows phase tried i)) ∙ sym (lines_plain set)

boot_same : (set part : Tree) → ShowsSet set part → boot_of part ≡ boot_of set
boot_same set part shows = ap (boot_from no_boot) (start_same set part shows)

-- ---- two sets

compared_same : (set part : Tree) → ShowsSet set part → compared_of part ≡ compared_of set
compared_same set part shows = λ i. record {
  services = filter_map service_of (services_same set part shows i);
  listed = listed_same set part shows i;
  groups = orders_same set part shows i;
  boot = boot_same set part shows i;
}

sets_same : (n m : ℕ) (a b p q : Option Tree) → ShowsFound a p → ShowsFound b q → sets_lines n p m q ≡ sets_lines n a m b
unfolding both_lines
sets_same n m (Some a) (Some b) (Some p) (Some q) first second =
    λ i. Sets n m ∷ compared_lines (compared_same a p first i) (compared_same b q second i)
sets_same n m (Some a) None (Some p) None first second = refl
sets_same n m None (Some b) None (Some q) first second = refl
sets_same n m None None None None first second = refl
sets_same n m (Some a) b None q first second = absurd first
sets_same n m None b (Some p) q first second = absurd first
sets_same n m (Some a) (Some b) (Some p) None first second = absurd second
sets_same n m (Some a) None (Some p) (Some q) first second = absurd second
sets_same n m None (Some b) None None first second = absurd second
sets_same n m None None None (Some q) first second = absurd second

-- ---- the hives

-- two sets of one hive
pub alone_same : (all : Bool) (tree part : Tree) (n m : ℕ) → StandsFor all (n ∷ m ∷ []) tree part
    → found_lines all part n part m ≡ found_lines all tree n tree m
alone_same true tree part n m same = ap (λ (t : Tree). found_lines true t n t m) same
alone_same false tree part n m shows =
    ap (λ (lines : List DiffLine). lines ++ [])
    (sets_same n m (usable_set tree n) (usable_set tree m) (usable_set part n) (usable_set part m)
    (shows.sets n (0, omega arith, refl)) (shows.sets m (1, omega arith, refl)))

-- sets of two hives
pub between_same : (all : Bool) (first second a b : Tree) (n m : ℕ) → StandsFor all (n ∷ []) first a
    → StandsFor all (m ∷ []) second b → found_lines all a n b m ≡ found_lines all first n second m
between_same true first second a b n m same alike = λ i. found_lines true (same i) n (alike i) m
between_same false first second a b n m shows too =
    ap (λ (lines : List DiffLine). lines ++ [])
    (sets_same n m (usable_set first n) (usable_set second m) (usable_set a n) (usable_set b m)
    (shows.sets n (0, omega arith, refl)) (too.sets m (0, omega arith, refl)))
