-- Which groups were gone through, so that all that their members lead to is found? (this project's own)
--
-- A group stands for the place of its phase and its first place among the groups of the members there.
use Rattle.std.specs.Prelude.{◌≡◌, ℕ, nat_eq, Bool, true, ◌&&◌, List, position, slice_get, Option, Some}
use Rattle.std.specs.Option.{option_and_then}
use Rattle.std.specs.List.{list_any, filter_map}
use Rattle.nt_bytes.specs.Folding.{folds_same}
use Rattle.why_needs.specs.declared.why_state.views.PhaseView.{PhaseView}
use Rattle.why_needs.specs.declared.why_needs.members.GroupMembers.{GroupMembers}
use Rattle.why_lacks.specs.declared.why_items.needs.NeedsRun.{NeedsRun}
use Rattle.why_lacks.specs.why_items.Items.{members_at, leads}

abbrev pub same_pair : ℕ × ℕ → ℕ × ℕ → Bool
same_pair a b = nat_eq a.0 b.0 && nat_eq a.1 b.1

-- the first place of a group among the groups of the members, in the set that the phase at a place read
abbrev pub first_place : NeedsRun → ℕ → List ℕ → Option ℕ
first_place n at group = option_and_then (λ (m : GroupMembers). position (folds_same group) m.groups) (slice_get n.members at)

-- where the members of a group lead
abbrev pub group_leads : NeedsRun → ℕ → PhaseView → List ℕ → List ℕ
group_leads n at v group = filter_map (leads n at v) (members_at n at group)

-- all that the members of these groups lead to is found
pub record AreGone (n : NeedsRun) (gone : List (ℕ × ℕ)) (found : List ℕ) : Type 0 where
  pub each : (at first : ℕ) (group : List ℕ) (v : PhaseView) → list_any (same_pair (at, first)) gone ≡ true
      → first_place n at group ≡ Some first → slice_get n.run.views at ≡ Some v
      → (to : ℕ) → list_any (nat_eq to) (group_leads n at v group) ≡ true → list_any (nat_eq to) found ≡ true
