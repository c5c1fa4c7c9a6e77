-- Which lines are printed of entries that were unmet? (this project's own)
--
-- Each entry's line, then its lacking names, then its lacking groups. The members of a group follow its first line in that phase.
use Rattle.std.specs.Prelude.{ℕ, ◌+◌, nat_lt, Bool, List, [], ◌∷◌, ◌++◌, map, length, slice_get, if◌then◌else◌}
use Rattle.std.specs.Option.{option_map_or}
use Rattle.std.specs.List.{flat_map}
use Rattle.hive_model.specs.Tree.{Tree, head}
use Rattle.start_model.specs.Entries.{Entry}
use Rattle.quiet_run.specs.declared.last.BegunPhase.{BegunPhase}
use Rattle.answer_lines.specs.declared.why_lines.lines.WhyLine.{WhyLine}
use Rattle.answer_lines.specs.declared.why_lines.lines.WhyLine.TheVariants as lines
use Rattle.why_needs.specs.declared.why_state.views.PhaseView.{PhaseView}
use Rattle.why_needs.specs.why_state.States.{key_named, need_of}
use Rattle.why_needs.specs.why_needs.Lacking.{is_first}
use Rattle.why_lacks.specs.declared.why_items.needs.NeedsRun.{NeedsRun}
use Rattle.why_lacks.specs.why_items.Vertices.{places_from}
use Rattle.why_lacks.specs.why_items.Items.{lacks_services, lacks_groups, members_at}

-- what holds of the entry of a number, with the place of its phase; nothing where there is none
abbrev pub of_entry : {X : Type 0} → NeedsRun → (ℕ → PhaseView → Entry → List X) → ℕ → List X
of_entry n f number =
    option_map_or (λ (place : ℕ × ℕ).
    option_map_or (λ (v : PhaseView). option_map_or (f place.0 v) (slice_get v.plan place.1) []) (slice_get n.run.views place.0) [])
    (places_from 0 n.run.views number) []

-- ---- names

-- a name as the set spells it, else as it is
abbrev pub spelled : Tree → List ℕ → List ℕ
spelled set name = option_map_or (λ (t : Tree). (head t).name) (key_named set name) name

-- the same in the set that the phase at a place read
abbrev pub spelled_at : NeedsRun → ℕ → List ℕ → List ℕ
spelled_at n at name = option_map_or (λ (p : BegunPhase). spelled p.set name) (slice_get n.run.run.start.phases at) name

abbrev pub service_line : NeedsRun → ℕ → PhaseView → List ℕ → WhyLine
service_line n at v name = lines.LackService (need_of n.run at v name) (spelled_at n at name)

abbrev pub member_line : NeedsRun → ℕ → PhaseView → List ℕ → WhyLine
member_line n at v name = lines.Member (need_of n.run at v name) name

-- ---- groups

-- a group in a phase, as one name: the place of the phase, and then the group
abbrev pub key_at : ℕ → List ℕ → List ℕ
key_at at group = at ∷ group

-- the lacking groups of an entry so
abbrev pub keys_of : NeedsRun → ℕ → List (List ℕ)
keys_of n number = of_entry n (λ at v e. map (key_at at) (lacks_groups n v e)) number

-- those of these entries
abbrev pub all_keys : NeedsRun → List ℕ → List (List ℕ)
all_keys n numbers = flat_map (keys_of n) numbers

-- a group's line, and its members where `shown`
abbrev pub group_lines : NeedsRun → ℕ → PhaseView → List ℕ → Bool → List WhyLine
group_lines n at v group shown =
    lines.LackGroup (nat_lt 0 (length (members_at n at group))) group
    ∷ (if shown then map (member_line n at v) (members_at n at group) else [])

-- the lines of groups, the first of which is that at a place of all
abbrev pub groups_from : NeedsRun → List (List ℕ) → ℕ → PhaseView → ℕ → List (List ℕ) → List WhyLine
groups_from n keys at v k [] = []
groups_from n keys at v k (g ∷ gs) = group_lines n at v g (is_first keys k (key_at at g)) ++ groups_from n keys at v (k + 1) gs

-- ---- entries

-- the lines of an entry whose first group is that at a place of all
abbrev pub entry_lines : NeedsRun → List (List ℕ) → ℕ → ℕ → PhaseView → Entry → List WhyLine
entry_lines n keys k at v e =
    lines.Unmet v.phase e.name
    ∷ map (service_line n at v) (lacks_services n v e)
    ++ groups_from n keys at v k (lacks_groups n v e)

-- the lines of entries, in order
abbrev pub entries_from : NeedsRun → List (List ℕ) → ℕ → List ℕ → List WhyLine
entries_from n keys k [] = []
entries_from n keys k (x ∷ xs) = of_entry n (entry_lines n keys k) x ++ entries_from n keys (k + length (keys_of n x)) xs

-- the lines of these entries
unfoldable pub lack_lines : NeedsRun → List ℕ → List WhyLine
lack_lines n numbers = entries_from n (all_keys n numbers) 0 numbers
