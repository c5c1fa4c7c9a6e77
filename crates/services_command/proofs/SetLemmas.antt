-- The lines on a set of a tree are those on what stands for it.
use Rattle.std.proofs.Common.{◌≡◌, ℕ, List, [], ◌∷◌, ◌++◌, Option, Some, None, refl, ap, ◌∙◌, arith}
use Rattle.std.specs.Prelude.{count_by}
use Rattle.std.specs.Option.{option_map_or}
use Rattle.hive_model.specs.Tree.{Tree, children}
use Rattle.select_keys.specs.Sets.{usable_set}
use Rattle.set_commands.specs.hive_sets.Parts.{service_list}
use Rattle.set_commands.specs.hive_sets.Shows.{ShowsSet, ShowsFound, ShowsHive}
use Rattle.set_commands.proofs.DiffCommandPartLemmas.{start_same}
use Rattle.service_list.specs.declared.kinds.Selection.{Selection}
use Rattle.service_list.specs.declared.listing.ServiceLine.{ServiceLine}
use Rattle.service_list.specs.declared.listing.ServiceLine.TheVariants.{NoSet, Set, End}
use Rattle.service_list.specs.declared.turns.Turn.{Turn}
use Rattle.service_list.specs.Entries.{entries_of}
use Rattle.service_list.specs.Kinds.{is_listed}
use Rattle.service_list.specs.Listing.{shown_by, found_lines, set_lines, service_lines}
use Rattle.service_list.specs.Sorting.{arranged}
use Rattle.service_list.specs.Turns.{no_turns, turns_from, turns_of}

turns_same : (set part : Tree) → ShowsSet set part → turns_of part ≡ turns_of set
unfolding turns_of
turns_same set part shows = λ i. (turns_from no_turns (start_same set part shows i)).turns

found_same : (set part : Tree) → ShowsSet set part → (s : Selection) (services : Option Tree)
    → found_lines s part services ≡ found_lines s set services
found_same set part shows s None = refl
found_same set part shows s (Some services) =
    ap (λ (turns : List Turn).
    shown_by (count_by is_listed (children services)) (arranged s.sort (entries_of turns s (children services))))
    (turns_same set part shows)

on_set_same : (set part : Tree) → ShowsSet set part → (s : Selection) (n : ℕ) → set_lines s n part ≡ set_lines s n set
on_set_same set part shows s n =
    ap (λ (lines : List ServiceLine). Set n ∷ lines)
    (found_same set part shows s (service_list part) ∙ ap (found_lines s set) shows.services)

number_same : (s : Selection) (n : ℕ) (whole shown : Option Tree) → ShowsFound whole shown
    → option_map_or (set_lines s n) shown (NoSet n ∷ []) ≡ option_map_or (set_lines s n) whole (NoSet n ∷ [])
number_same s n (Some set) (Some part) shows = on_set_same set part shows s n
number_same s n (Some set) None shows = absurd shows
number_same s n None (Some part) shows = absurd shows
number_same s n None None shows = refl

pub lines_same : (tree part : Tree) (n : ℕ) (s : Selection) → ShowsHive (n ∷ []) tree part
    → service_lines part n s ≡ service_lines tree n s
unfolding service_lines
lines_same tree part n s shows =
    ap (λ (lines : List ServiceLine). lines ++ End ∷ [])
    (number_same s n (usable_set tree n) (usable_set part n) (shows.sets n (0, omega arith, refl)))
