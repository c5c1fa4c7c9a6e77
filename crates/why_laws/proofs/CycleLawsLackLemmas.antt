-- Where each need was met there is no lack.
use Rattle.std.proofs.Common.{◌≡◌, ◌⊎◌, ℕ, Bool, true, false, List, [], ◌∷◌, map, None, refl, sym, ap, subst, ◌∙◌, inl, inr}
use Rattle.std.specs.Prelude.{Contains}
use Rattle.std.specs.List.{list_all}
use Rattle.std.specs.Option.{is_some}
use Rattle.std.proofs.lemmas.Bool.{false≢true, and_from, and_parts}
use Rattle.wait_cycles.proofs.InverseLemmas.{none_in}
use Rattle.wait_cycles.proofs.MetLemmas.{first_in, all_from, all_gives, all_weaker, any_from}
use Rattle.service_control.proofs.LeanLemmas.{mapped_to}
use Rattle.boot_phases.proofs.TriedLemmas.{some_place}
use Rattle.start_model.specs.Entries.{Entry, need_of}
use Rattle.start_model.specs.Ready.{Label, has_name, has_group, is_ready, next_of}
use Rattle.why_needs.specs.declared.why_state.views.PhaseView.{PhaseView}
use Rattle.why_lacks.specs.declared.why_items.needs.NeedsRun.{NeedsRun}
use Rattle.why_lacks.specs.why_items.Items.{lacks_services, lacks_groups}
use Rattle.why_laws.specs.why_laws.Lacks.{AreLacks, is_service_met, is_group_met}
use Rattle.why_laws.proofs.WhyLawsLackLemmas.{lacks_are_unmet_needs}
use Rattle.why_laws.specs.cycle_laws.Lacks.{HasLack, LacksNothingWhereMet}

none_lacked : (met : List ℕ → Bool) (names lacks : List (List ℕ)) → AreLacks met names lacks → list_all met names ≡ true → lacks ≡ []
none_lacked met names [] are all = refl
none_lacked met names (lack ∷ lacks) are all =
    let l = are.unmet lack (first_in lack lacks) in absurd (false≢true (sym l.1 ∙ all_gives met names lack all l.0))

all_met : (met : List ℕ → Bool) (names lacks : List (List ℕ)) → AreLacks met names lacks → lacks ≡ [] → list_all met names ≡ true
all_met met names lacks are none = all_from met names (λ name c. by name c (met name) refl)
  where
    by : (name : List ℕ) → Contains names name → (b : Bool) → met name ≡ b → b ≡ true
    by name c true is = refl
    by name c false is =
        let l = are.all name c is in absurd (none_in l.0 (subst (λ (ls : List (List ℕ)). Contains ls l.0) none l.1))

pub nothing_where_met : LacksNothingWhereMet
nothing_where_met n v e =
    let are = lacks_are_unmet_needs n v e in (
      λ none. and_from (list_all (is_service_met n v) e.services) (list_all (is_group_met n v) e.groups)
          (all_met (is_service_met n v) e.services (lacks_services n v e) are.0 none.0)
          (all_met (is_group_met n v) e.groups (lacks_groups n v e) are.1 none.1),
      λ all. let both = and_parts (list_all (is_service_met n v) e.services) (list_all (is_group_met n v) e.groups) all in (
        none_lacked (is_service_met n v) e.services (lacks_services n v e) are.0 both.0,
        none_lacked (is_group_met n v) e.groups (lacks_groups n v e) are.1 both.1,
      ),
    )

-- ---- an entry that is not ready

-- what was met by the end of the phase is among what was started
pub record HasMet (n : NeedsRun) (v : PhaseView) (started : List Label) : Type 0 where
  pub services : (name : List ℕ) → is_service_met n v name ≡ true → has_name started name ≡ true
  pub groups : (group : List ℕ) → is_group_met n v group ≡ true → has_group started group ≡ true

not_ready : (started : List Label) (waiting : List Entry) → next_of started (map need_of waiting) ≡ None → (e : Entry) → Contains waiting e
    → is_ready started (need_of e) ≡ true → ⊥
not_ready started waiting none e c ready =
    false≢true (sym (ap is_some none) ∙ some_place (is_ready started) (map need_of waiting)
    ∙ any_from (is_ready started) (map need_of waiting) (need_of e) (mapped_to need_of waiting e c) ready)

-- where no waiting entry is ready, each lacks something
pub waiting_has_lack : (n : NeedsRun) (v : PhaseView) (started : List Label) (waiting : List Entry) → HasMet n v started
    → next_of started (map need_of waiting) ≡ None → (e : Entry) → Contains waiting e → HasLack n v e
waiting_has_lack n v started waiting met none e c = by (lacks_services n v e) (lacks_groups n v e) refl refl
  where
    by : (services groups : List (List ℕ)) → lacks_services n v e ≡ services → lacks_groups n v e ≡ groups
        → ((name : List ℕ) × Contains services name) ⊎ ((group : List ℕ) × Contains groups group)
    by (name ∷ services) groups one two = inl (name, first_in name services)
    by [] (group ∷ groups) one two = inr (group, first_in group groups)
    by [] [] one two =
        let both = and_parts (list_all (is_service_met n v) e.services) (list_all (is_group_met n v) e.groups) ((nothing_where_met n v e).0 (one, two)) in
        absurd (not_ready started waiting none e c
        (and_from (list_all (has_name started) e.services) (list_all (has_group started) e.groups)
        (all_weaker (is_service_met n v) (has_name started) e.services (λ name i is. met.services name is) both.0)
        (all_weaker (is_group_met n v) (has_group started) e.groups (λ group i is. met.groups group is) both.1)))
