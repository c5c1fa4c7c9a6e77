-- The items that are found are those that the first one leads to.
use Rattle.std.proofs.Common.{◌≡◌, ℕ, zero, suc, ◌+◌, ◌<◌, nat_eq, List, [], ◌∷◌, slice_get, Option, Some, None, refl, sym, subst, inl, inr}
use Rattle.std.specs.Prelude.{Contains}
use Rattle.std.specs.Option.{option_map_or}
use Rattle.indexmap.specs.IndexSet.{insert_all}
use Rattle.wait_cycles.proofs.MetLemmas.{first_in}
use Rattle.service_control.proofs.LeanLemmas.{alone_from}
use Rattle.check_laws.proofs.TakenLemmas.{item_here}
use Rattle.why_needs.specs.why_state.Views.{viewed_of}
use Rattle.why_lacks.specs.declared.why_items.needs.NeedsRun.{NeedsRun}
use Rattle.why_lacks.specs.why_items.Items.{needs_run_of, next_of, grown, items_of}
use Rattle.why_lacks.specs.why_items.Vertices.{entry_count}
use Rattle.why_laws.specs.cycle_laws.Reached.{LeadsTo, itself, further, ItemsAreAllReached}
use Rattle.why_laws.proofs.RoundLemmas.{put_only}
use Rattle.why_laws.proofs.GrownLemmas.{items_first, items_next}
use Rattle.why_laws.proofs.StepLemmas.{AreNamed, are_named}

module _ (n : NeedsRun) (first : ℕ) where
  abbrev pub AreReached : List ℕ → Type 0
  AreReached found = (x : ℕ) → Contains found x → LeadsTo n first x

  grown_reached : (steps at : ℕ) (found : List ℕ) → AreReached found → AreReached (grown (next_of n) steps at found)
  unfolding grown
  grown_reached zero at found all = all
  grown_reached (suc steps) at found all = by (slice_get found at) refl (grown_reached steps (at + 1))
    where
      by : (o : Option ℕ) → slice_get found at ≡ o → ((found : List ℕ) → AreReached found → AreReached (grown (next_of n) steps (at + 1) found))
          → AreReached (option_map_or (λ v. grown (next_of n) steps (at + 1) (insert_all nat_eq found (next_of n v))) o found)
      by None is deep = all
      by (Some v) is deep = deep (insert_all nat_eq found (next_of n v)) (λ x c. elim (put_only found (next_of n v) x c) [
        | inl i ↦ all x i
        | inr i ↦ further v x (all v (item_here found at v is)) i
      ])

  pub items_reached : AreReached (items_of n first)
  unfolding items_of
  items_reached =
      grown_reached (entry_count n.run.views) 0 (first ∷ [])
      (λ x c. subst (LeadsTo n first) (alone_from first x c) itself)

  reached_items : AreNamed n → first < entry_count n.run.views → (x : ℕ) → LeadsTo n first x → Contains (items_of n first) x
  reached_items named lt x itself =
      let is = items_first n first in subst (λ (xs : List ℕ). Contains xs first) (sym is.1) (first_in first is.0)
  reached_items named lt x (further by to led c) = items_next n named first lt by to (reached_items named lt by led) c

pub items_are_all_reached : ItemsAreAllReached
items_are_all_reached run number lt to =
    let n : NeedsRun = needs_run_of (viewed_of run) in
    (items_reached n number to, reached_items n number (are_named run) lt to)
