-- What a phase takes of a set it takes of each set that has its entries.
use Rattle.std.proofs.Common.{◌≡◌, ℕ, true, false, List, [], Some, sym, subst}
use Rattle.std.specs.Prelude.{Contains, slice_get}
use Rattle.hive_model.specs.Tree.{Tree}
use Rattle.hive_model.specs.Valid.{HoldsKeys}
use Rattle.start_model.specs.Entries.{Entry, Phase, Boot, System, Automatic, Done, entry_of, services_of, entries_of, is_driver_of, places_of}
use Rattle.start_model.specs.Order.{plan_of}
use Rattle.wait_cycles.proofs.InverseLemmas.{none_in}
use Rattle.wait_cycles.proofs.CycleLemmas.{filter_in, filter_out}
use Rattle.service_control.proofs.LeastLemmas.{from}
use Rattle.check_laws.proofs.TakenLemmas.{item_here, item_place, mapped_on, plan_from, plan_in, place_passes, passing_place, AreOpenToo, auto_from, auto_taken, auto_into}
use Rattle.check_laws.proofs.SetLemmas.{entries_apart}
use Rattle.safe_boot.specs.declared.mode.SafeMode.{SafeMode}
use Rattle.safe_boot.specs.Listed.{listed_names, stays, reduced_of}
use Rattle.safe_boot.proofs.SetLemmas.{services_reduced}
use Rattle.safe_boot.proofs.MoreLemmas.{images_leave_more}
use Rattle.command_laws.specs.safe_laws.Images.{HasEntriesOf}

-- ---- plans

module _ (fewer more : Tree) (holds : HoldsKeys more) (into : HasEntriesOf fewer more) where
  driver_more : (start : ℕ) (e : Entry) (p : ℕ) → slice_get (entries_of fewer) p ≡ Some e
      → is_driver_of start [] e ≡ true
      → (q : ℕ) × (slice_get (entries_of more) q ≡ Some e) × Contains (places_of (is_driver_of start []) (entries_of more)) q
  driver_more start e p here passes =
      let q = item_place (entries_of more) e (into e (item_here (entries_of fewer) p e here)) in
      (q.0, q.1, passing_place (is_driver_of start []) (entries_of more) q.0 e q.1 passes)

  open_more : AreOpenToo (entries_of fewer) [] (entries_of more) []
  open_more e there open' late = (into e there, open')

  -- what a phase takes of the one it takes of the other
  pub plan_more : (phase : Phase) (e : Entry) → Contains (plan_of fewer phase []) e → Contains (plan_of more phase []) e
  plan_more Boot e c =
      let t = plan_from fewer Boot [] e c in
      let q = driver_more 0 e t.place t.here (place_passes (is_driver_of 0 []) (entries_of fewer) t.place e t.taken t.here) in
      plan_in more Boot [] e (record { place = q.0; taken = q.2; here = q.1 })
  plan_more System e c =
      let t = plan_from fewer System [] e c in
      let q = driver_more 1 e t.place t.here (place_passes (is_driver_of 1 []) (entries_of fewer) t.place e t.taken t.here) in
      plan_in more System [] e (record { place = q.0; taken = q.2; here = q.1 })
  plan_more Automatic e c =
      plan_in more Automatic [] e (auto_taken (entries_of more) [] e
      (auto_into (entries_of fewer) [] (entries_of more) [] open_more (entries_apart more holds) e
      (auto_from (entries_of fewer) [] e (plan_from fewer Automatic [] e c))))
  plan_more Done e c = absurd (none_in e c)

-- ---- entries

-- where images count, what a safe mode leaves of a set has the entries of what it leaves where they don't
pub images_have_entries : (set : Tree) (mode : SafeMode) → HasEntriesOf (reduced_of set mode false) (reduced_of set mode true)
images_have_entries set mode e c =
    let t = from entry_of (services_of (reduced_of set mode false)) e c in
    let kept = filter_out (stays false (listed_names set mode)) (services_of set) t.item
    (subst (λ (ts : List Tree). Contains ts t.item) (services_reduced set mode false) t.there) in
    mapped_on entry_of (services_of (reduced_of set mode true)) t.item e
    (subst (λ (ts : List Tree). Contains ts t.item) (sym (services_reduced set mode true))
    (filter_in (stays true (listed_names set mode)) (services_of set) t.item kept.0
    (images_leave_more (listed_names set mode) t.item kept.1))) t.is
