-- What a repair leaves: with nothing committed, and after new bins data were committed or a stop came.
use Rattle.std.proofs.Common.{◌≡◌, inl, ℕ, Bool, false, List, [], Option, Some, None, Err, refl, sym, subst}
use Rattle.std.proofs.lemmas.List.{append-nil}
use Rattle.hive_model.specs.Base.{version_of}
use Rattle.hive_model.specs.Image.{Image}
use Rattle.hive_model.specs.Carries.{Carries}
use Rattle.hive_model.specs.State.{HiveState}
use Rattle.hive_model.specs.Load.{Loads}
use Rattle.nt_edge.specs.Disk.{DiskState}
use Rattle.nt_edge.specs.Calls.{Made}
use Rattle.nt_edge.specs.Crash.{EachCrash}
use Rattle.hive_cells.proofs.Again.{one_list}
use Rattle.hive_read.proofs.Loading.{one-load}
use Rattle.hive_commit.specs.Alone.{KeepsAll}
use Rattle.hive_commit.specs.Calls.{change_calls}
use Rattle.hive_commit.specs.Stages.{closed_of, IsBeforeOrAfter}
use Rattle.hive_store.specs.Session.{HasTree}
use Rattle.hive_store.proofs.Holding.{tree_holds, tree_loads, either_loads}
use Rattle.hive_store.proofs.LoadingLemmas.{kept_loads, restored_loads}
use Rattle.mend_command.specs.hive_mend.Loaded.{Loaded, loaded_state}
use Rattle.mend_command.specs.hive_mend.Loading.{KeepsHive}
use Rattle.mend_command.specs.hive_mend.Mending.{CallsBy, next_state, LoadsAsOrNext}

-- bins data in which its tree stands
abbrev pub HasItsTree : Loaded → List ℕ → ℕ → Type 0
HasItsTree h bins root = HasTree (version_of h.base.minor) bins root h.tree

-- what is recovered as before or as the change loads as the tree under its number or the next
pub replaced_crash : (h : Loaded) → HasItsTree h h.bins h.base.root → (new : List ℕ) → HasItsTree h new 32
    → (state : DiskState)
    → EachCrash state (IsBeforeOrAfter h.base h.bins (closed_of h.base new 32) new)
    → EachCrash state (LoadsAsOrNext (loaded_state h))
replaced_crash h was new has state each =
    let closed = closed_of h.base new 32 in
    either_loads h.base h.bins (loaded_state h) (tree_holds h.base h.bins h.tree was)
    closed new (next_state (loaded_state h)) (tree_holds closed new h.tree has) state each

-- what a disk loads as that carries a hive is the hive's tree
pub carried_is : (h : Loaded) → HasItsTree h h.bins h.base.root → (held : Image) → Carries held h.base h.bins
    → (s : HiveState) (dirty : Bool) → Loads held s dirty → loaded_state h ≡ s
carried_is h has held carries s dirty loads =
    (one-load one_list held (loaded_state h) s false dirty (tree_loads h.base h.bins h.tree has held carries) loads).0

-- so a cut leaves what loads as the disk did
pub crash_again : (h : Loaded) → HasItsTree h h.bins h.base.root → (held : Image) → Carries held h.base h.bins
    → (state : DiskState)
    → EachCrash state (LoadsAsOrNext (loaded_state h))
    → (s : HiveState) (dirty : Bool) → Loads held s dirty → EachCrash state (LoadsAsOrNext s)
crash_again h has held carries state each s dirty loads =
    subst (λ (t : HiveState). EachCrash state (LoadsAsOrNext t)) (carried_is h has held carries s dirty loads) each

-- with nothing in flight, and nothing done
pub kept_crash : (state : DiskState) → state.flight ≡ [] → (s : HiveState) (dirty : Bool) → Loads state.held s dirty
    → EachCrash state (LoadsAsOrNext s)
kept_crash state none s dirty loads c crash = inl (kept_loads state state refl none s dirty loads c crash)

-- no call is a prefix of those of any repair
pub no_calls : (T E : Type 0) (at : List Made → Type 0) (h : Loaded) (new : Option (List ℕ)) (stop : E)
    → CallsBy {T = T} {E = E} at at h new (Err stop)
no_calls T E at h None stop = λ earlier said. said
no_calls T E at h (Some new) stop = record {
  front = [];
  rest = change_calls h.base h.bins new 32;
  cut = refl;
  made = λ earlier said. subst at (sym (append-nil earlier)) said;
}

-- what keeps all keeps what the disk loads as
pub keeps_hive : (old new : DiskState) → KeepsAll old new → KeepsHive old new
keeps_hive old new all = record {
  crash = λ s dirty loads.
      let r = loads.recovered in
      restored_loads old.held r loads.read r.base r.bins refl refl new
      (all.crash r.base r.bins (record { dirty = r.dirty; recovered = loads.read })) s dirty loads;
  kept = all;
}
