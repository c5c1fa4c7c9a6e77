-- What a change of the default set makes of a tree, and what a disk stands for at its end.
use Rattle.std.proofs.Common.{◌≡◌, ◌∷◌, ℕ, Bool, true, false, cond, List, [], length, Option, Some, None, Result, Ok, Err, refl, sym, ◌∙◌, ap, subst, inl, inr, ⊎_elim}
use Rattle.std.specs.Prelude.{nat_lt, is_some, is_none, IfOk, IfErr, OnOk}
use Rattle.std.specs.Int.{w32, to_le_bytes}
use Rattle.nt_bytes.specs.declared.fault.HiveFault.{HiveFault}
use Rattle.nt_bytes.specs.declared.fault.ReadStop.{ReadStop}
use Rattle.nt_bytes.specs.declared.fault.ReadStop.TheVariants as read
use Rattle.nt_bytes.specs.declared.version.HiveVersion.{HiveVersion}
use Rattle.nt_bytes.specs.Reading.{◌>>=◌}
use Rattle.hive_model.specs.Base.{Base, version_of}
use Rattle.hive_model.specs.Bins.{Bin, look_up}
use Rattle.hive_model.specs.Stands.{IsWellFormed}
use Rattle.hive_cells.proofs.Again.{one_list}
use Rattle.hive_read.proofs.One.{one_stands}
use Rattle.hive_log.specs.Stops.{ReadsFiles}
use Rattle.hive_model.specs.Edit.{Step, Refusal, no_key, name_too_long, data_too_long, full, unless, most_bulk, edited}
use Rattle.hive_model.specs.Image.{Image}
use Rattle.hive_model.specs.Load.{Holds}
use Rattle.hive_model.specs.Recovery.{Recovered}
use Rattle.hive_model.specs.Size.{bulk_of}
use Rattle.hive_model.specs.State.{HiveState}
use Rattle.hive_model.specs.Tree.{Tree, find_key}
use Rattle.hive_model.specs.Valid.{longest_value_name}
use Rattle.nt_edge.specs.Crash.{EachCrash}
use Rattle.nt_edge.specs.Disk.{DiskState}
use Rattle.hive_commit.specs.Stages.{next_number, closed_of}
use Rattle.hive_commit.proofs.Kept.{only_held}
use Rattle.hive_store.specs.Checks.{held_state}
use Rattle.hive_store.specs.Session.{HasTree}
use Rattle.hive_alt.specs.Changes.{Change, nothing, too_large, changed, select_path, default_name, defaulted, unless_large, change_of, after_change, IsLoaded, IsDone, IsEitherOf, StandsAfter, IsDecided, WasLoaded, IsStopped, Answers}
use Rattle.hive_alt.specs.Plans.{default_steps, IsFound, ChecksFor, HeldAs, committed_to, IsCommitStop}
use Rattle.hive_alt.proofs.KeptLemmas.{ok_is}
use Rattle.hive_alt.specs.declared.change.Changed.{Changed}
use Rattle.hive_alt.specs.declared.change.ChangeStop.{ChangeStop}
use Rattle.hive_alt.specs.declared.change.ChangeStop.TheVariants as stops
use Rattle.hive_alt.specs.Schemes.{Standing, IsKeptAs, IsKeptAsEither, StandsFor, StandsClean}

-- ---- the edit

abbrev by_bulk : HiveVersion → Tree → Result Tree Refusal
by_bulk version u = cond (nat_lt most_bulk (bulk_of version u)) (Err full) (Ok u)

set_there : (version : HiveVersion) (number : ℕ) (u : Tree) (k : Option Tree) → is_some k ≡ true
    → (((unless
    ((is_none k, no_key) ∷ (nat_lt longest_value_name (length default_name), name_too_long)
    ∷ (nat_lt 1048576 (length (to_le_bytes w32 number)), data_too_long) ∷ []) u) >>= λ v. Ok v) >>= by_bulk version)
    ≡ by_bulk version u
set_there version number u None is = absurd (cc)
set_there version number u (Some select) is = refl

edit_there : (version : HiveVersion) (t : Tree) (number : ℕ) → is_some (find_key select_path t) ≡ true
    → edited version t (default_steps number) ≡ by_bulk version (defaulted number t)
unfolding edited
edit_there version t number there = set_there version number (defaulted number t) (find_key select_path t) there

large_or : (b : Bool) (v u : Tree) → ◌≡◌ {A = Result Tree Refusal} (cond b (Err full) (Ok v)) (Ok u)
    → cond b too_large (changed v) ≡ changed u
large_or true v u is = absurd (cc)
large_or false v u is = let same : v ≡ u = cc in ap changed same

large : (b : Bool) (v : Tree) → ◌≡◌ {A = Result Tree Refusal} (cond b (Err full) (Ok v)) (Err full)
    → cond b too_large (changed v) ≡ too_large
large true v is = refl
large false v is = absurd (cc)

pub plan_made : (version : HiveVersion) (t u : Tree) (number : ℕ) (steps : List Step)
    → is_some (find_key select_path t) ≡ true → steps ≡ default_steps number → edited version t steps ≡ Ok u
    → unless_large version (defaulted number t) ≡ changed u
plan_made version t u number steps there same made =
    large_or (nat_lt most_bulk (bulk_of version (defaulted number t))) (defaulted number t) u
    (sym (edit_there version t number there) ∙ sym (ap (edited version t) same) ∙ made)

pub plan_full : (version : HiveVersion) (t : Tree) (number : ℕ) (steps : List Step)
    → is_some (find_key select_path t) ≡ true → steps ≡ default_steps number → edited version t steps ≡ Err full
    → unless_large version (defaulted number t) ≡ too_large
plan_full version t number steps there same refused =
    large (nat_lt most_bulk (bulk_of version (defaulted number t))) (defaulted number t)
    (sym (edit_there version t number there) ∙ sym (ap (edited version t) same) ∙ refused)

-- ---- what stands

-- what was found holds one tree at most
pub one_tree : (r : Recovered) (t u : Tree) → Holds r (held_state r t) → Holds r (held_state r u) → t ≡ u
one_tree r t u h g =
    let bins : h.bins ≡ g.bins = one_list h.bins g.bins h.cells.0 g.cells.0 (sym h.cells.1 ∙ g.cells.1) in
    let moved : IsWellFormed (look_up (version_of r.base.minor) g.bins) r.base.root t =
    subst (λ (bs : List Bin). IsWellFormed (look_up (version_of r.base.minor) bs) r.base.root t) bins h.tree in
    one_stands (look_up (version_of r.base.minor) g.bins) r.base.root t u moved.stands g.tree.stands

pub kept_found : (stands : Standing) (image : Image) (found : Recovered) → stands image ≡ Ok found
    → IsKeptAs stands found.base found.bins image
kept_found stands image found is = record { dirty = found.dirty; kept = is }

-- the image stands for this base block and these bins data, and there is nothing to repair
abbrev pub IsCleanAs : Standing → Base → List ℕ → Image → Type 0
IsCleanAs stands base bins image = stands image ≡ Ok (record { base = base; bins = bins; dirty = false })

-- what follows of a success
pub on_ok_then : {T E A B : Type 0} (r : Result T E) → (A → B) → OnOk r A → OnOk r B
on_ok_then (Ok x) each is = each is
on_ok_then (Err e) each is = tt

-- what was loaded is what was found
pub of_found : (P : Recovered → Tree → Type 0) (stands : Standing) (image : Image) (found loaded : Recovered)
    (tree held : Tree) → IsFound stands image found tree → IsFound stands image loaded held → P loaded held
    → P found tree
of_found P stands image found loaded tree held is other each =
    let one : loaded ≡ found = ok_is {E = HiveFault} loaded found (sym other.read ∙ is.read) in
    let moved : Holds found (held_state found held) =
    subst (λ (r : Recovered). Holds r (held_state r held)) one other.holds in
    let same : held ≡ tree = one_tree found held tree moved is.holds in
    subst (λ (t : Tree). P found t) same (subst (λ (r : Recovered). P r held) one each)

-- ---- two files

pub kept_stop : (stands : Standing) (image : Image) (stop : ReadStop)
    → ReadsFiles {T = Recovered} (Err stop) (stands image) → ChecksFor stands image (Err stop)
kept_stop stands image (read.Fault f) is = inl is
kept_stop stands image read.Memory is = tt

pub tree_stop : (stands : Standing) (image : Image) (found : Recovered) → stands image ≡ Ok found → (stop : ReadStop)
    → HeldAs found (Err stop) → ChecksFor stands image (Err stop)
tree_stop stands image found is (read.Fault f) held = inr (found, is, held)
tree_stop stands image found is read.Memory held = tt

-- ---- what is reported

module _ (stands : Standing) (found : Recovered) (tree : Tree) (number : Option ℕ)
    (holds : Holds found (held_state found tree)) where
  abbrev kept_state : (c : Image) → IsKeptAs stands found.base found.bins c
      → StandsFor stands (held_state found tree) c
  kept_state c is = record {
    recovered = record { base = found.base; bins = found.bins; dirty = is.dirty };
    read = is.kept;
    holds = record {
      bins = holds.bins;
      cells = holds.cells;
      tree = holds.tree;
      sequence = holds.sequence;
      version = holds.version;
    };
  }

  clean_state : (c : Image) → IsCleanAs stands found.base found.bins c → StandsClean stands (held_state found tree) c
  clean_state c is = record { stands_for = kept_state c (record { dirty = false; kept = is }); clean = refl }

  module _ (loaded : ℕ) (was_mended : Bool) (loaded_is : loaded ≡ found.base.first)
      (mended_is : was_mended ≡ found.dirty) where
    abbrev pub loaded_as : (image : Image) (change : Change) (version : HiveVersion)
        → version ≡ version_of found.base.minor → stands image ≡ Ok found → change_of version tree number ≡ change
        → IsLoaded stands image number loaded was_mended change
    loaded_as image change version same read is = record {
      found = found;
      tree = tree;
      read = read;
      holds = holds;
      number_is = loaded_is;
      mended_is = mended_is;
      change_is = ap (λ (v : HiveVersion). change_of v tree number) (sym same) ∙ is;
    }

    pub nothing_done : (image after : Image) (version : HiveVersion) → version ≡ version_of found.base.minor
        → stands image ≡ Ok found → change_of version tree number ≡ nothing
        → IsCleanAs stands found.base found.bins after
        → IsDone stands image after number (record { loaded = loaded; mended = was_mended; committed = None })
    nothing_done image after version same read is clean =
        record {
          change = nothing;
          loaded = loaded_as image nothing version same read is;
          is_done = inl refl;
          committed = refl;
          stands_for = clean_state after clean;
        }

  pub kept_crash : (s : DiskState) → EachCrash s (IsKeptAs stands found.base found.bins)
      → EachCrash s (IsEitherOf stands found tree number)
  kept_crash s each c crash =
      record { state = held_state found tree; stands_for = kept_state c (each c crash); is_one = inl refl }

  -- a change that leaves the tree, with nothing in flight
  pub left_mended : (change : Change) (version : HiveVersion) → version ≡ version_of found.base.minor
      → change_of version tree number ≡ change → after_change found tree change ≡ held_state found tree
      → (s : DiskState) → s.flight ≡ [] → IsCleanAs stands found.base found.bins s.held
      → EachCrash s (StandsAfter stands found tree number)
  left_mended change version same is left s still clean c crash =
      let change_is : change ≡ change_of (version_of found.base.minor) tree number =
      sym is ∙ ap (λ (v : HiveVersion). change_of v tree number) same in
      subst (λ (x : HiveState). StandsClean stands x c) (sym left ∙ ap (after_change found tree) change_is)
      (subst (λ (i : Image). StandsClean stands (held_state found tree) i) (sym (only_held s c still crash))
      (clean_state s.held clean))

  module _ (u : Tree) (new : List ℕ) (version : HiveVersion) (same : version ≡ version_of found.base.minor)
      (is : change_of version tree number ≡ changed u) (has : HasTree version new 32 u)
      (given : Base) (old packed : List ℕ) (given_is : given ≡ found.base) (old_is : old ≡ found.bins)
      (packed_is : packed ≡ new) where
    abbrev closed : Base
    closed = closed_of found.base new 32

    has_tree : HasTree (version_of found.base.minor) new 32 u
    has_tree = subst (λ (v : HiveVersion). HasTree v new 32 u) same has

    change_is : change_of (version_of found.base.minor) tree number ≡ changed u
    change_is = ap (λ (v : HiveVersion). change_of v tree number) (sym same) ∙ is

    abbrev new_state : (c : Image) → IsKeptAs stands closed new c
        → StandsFor stands (after_change found tree (changed u)) c
    new_state c kept =
        let has = has_tree in
        record {
          recovered = record { base = closed; bins = new; dirty = kept.dirty };
          read = kept.kept;
          holds = record { bins = has.heap; cells = has.cells; tree = has.stands; sequence = refl; version = refl };
        }

    -- what was given to the commit is what was found and packed
    of_new : (P : Base → List ℕ → Type 0) → P (closed_of given packed 32) packed → P closed new
    of_new P is = subst (λ (b : Base). P (closed_of b new 32) new) given_is
        (subst (λ (l : List ℕ). P (closed_of given l 32) l) packed_is is)

    clean_new : (c : Image) → IsCleanAs stands (closed_of given packed 32) packed c
        → StandsClean stands (after_change found tree (changed u)) c
    clean_new c is =
        let kept = of_new (λ (b : Base) (l : List ℕ). IsCleanAs stands b l c) is in
        record { stands_for = new_state c (record { dirty = false; kept = kept }); clean = refl }

    kept_old : (c : Image) → IsKeptAs stands given old c → IsKeptAs stands found.base found.bins c
    kept_old c kept = subst (λ (b : Base). IsKeptAs stands b found.bins c) given_is
        (subst (λ (l : List ℕ). IsKeptAs stands given l c) old_is kept)

    pub change_done : (loaded : ℕ) (was_mended : Bool) → loaded ≡ found.base.first → was_mended ≡ found.dirty
        → (image after : Image) → stands image ≡ Ok found → IsCleanAs stands (closed_of given packed 32) packed after
        → IsDone stands image after number (committed_to loaded was_mended given)
    change_done loaded was_mended loaded_is mended_is image after read clean = record {
      change = changed u;
      loaded = loaded_as loaded was_mended loaded_is mended_is image (changed u) version same read is;
      is_done = inr (u, refl);
      committed = ap (λ (b : Base). Some (next_number b.first)) given_is;
      stands_for = clean_new after clean;
    }

    -- a stop of the commit
    pub change_stopped : (loaded : ℕ) (was_mended : Bool) → loaded ≡ found.base.first → was_mended ≡ found.dirty
        → (image : Image) → stands image ≡ Ok found
        → (stop : ChangeStop) → IsCommitStop loaded was_mended stop → IsStopped stands image number stop
    change_stopped loaded was_mended loaded_is mended_is image read (stops.Fault f) is_stop = absurd is_stop
    change_stopped loaded was_mended loaded_is mended_is image read (stops.NoSelect n m) is_stop = absurd is_stop
    change_stopped loaded was_mended loaded_is mended_is image read (stops.Full n m) is_stop = absurd is_stop
    change_stopped loaded was_mended loaded_is mended_is image read (stops.PowerLost x) is_stop =
        subst (WasLoaded stands image number) (sym is_stop)
        (u, loaded_as loaded was_mended loaded_is mended_is image (changed u) version same read is)
    change_stopped loaded was_mended loaded_is mended_is image read (stops.Device x) is_stop =
        subst (WasLoaded stands image number) (sym is_stop)
        (u, loaded_as loaded was_mended loaded_is mended_is image (changed u) version same read is)
    change_stopped loaded was_mended loaded_is mended_is image read stops.Memory is_stop = tt

    pub change_crash : (s : DiskState)
        → EachCrash s (IsKeptAsEither stands given old (closed_of given packed 32) packed)
        → EachCrash s (IsEitherOf stands found tree number)
    change_crash s each c crash = ⊎_elim
        (λ kept. record {
          state = held_state found tree;
          stands_for = kept_state c (kept_old c kept);
          is_one = inl refl;
        })
        (λ kept. record {
          state = after_change found tree (changed u);
          stands_for = new_state c (of_new (λ (b : Base) (l : List ℕ). IsKeptAs stands b l c) kept);
          is_one = inr (ap (after_change found tree) (sym change_is));
        })
        (each c crash)

    -- by what the commit answered
    pub change_answers : (loaded : ℕ) (was_mended : Bool) → loaded ≡ found.base.first → was_mended ≡ found.dirty
        → (image after : Image) → stands image ≡ Ok found → (r : Result Changed ChangeStop)
        → IfOk r (λ done. done ≡ committed_to loaded was_mended given) → IfErr r (IsCommitStop loaded was_mended)
        → OnOk r (IsCleanAs stands (closed_of given packed 32) packed after) → Answers stands image after number r
    change_answers loaded was_mended loaded_is mended_is image after read (Ok done) answered refused clean =
        subst (IsDone stands image after number) (sym answered)
        (change_done loaded was_mended loaded_is mended_is image after read clean)
    change_answers loaded was_mended loaded_is mended_is image after read (Err stop) answered refused clean =
        change_stopped loaded was_mended loaded_is mended_is image read stop refused

    -- what a commit leaves that was done
    done_mended : (s : DiskState) → s.flight ≡ [] → IsCleanAs stands (closed_of given packed 32) packed s.held
        → EachCrash s (StandsAfter stands found tree number)
    done_mended s still clean c crash =
        subst (λ (x : Change). StandsClean stands (after_change found tree x) c) (sym change_is)
        (subst (λ (i : Image). StandsClean stands (after_change found tree (changed u)) i)
        (sym (only_held s c still crash)) (clean_new s.held clean))

    pub change_mended : (loaded : ℕ) (was_mended : Bool) (s : DiskState)
        → (r : Result Changed ChangeStop) → IfErr r (IsCommitStop loaded was_mended)
        → OnOk r (IsCleanAs stands (closed_of given packed 32) packed s.held)
        → OnOk r (s.flight ≡ []) → IsDecided r → EachCrash s (StandsAfter stands found tree number)
    change_mended loaded was_mended s (Ok done) refused clean still decided = done_mended s still clean
    change_mended loaded was_mended s (Err (stops.Fault f)) refused clean still decided = absurd refused
    change_mended loaded was_mended s (Err (stops.NoSelect n m)) refused clean still decided = absurd refused
    change_mended loaded was_mended s (Err (stops.Full n m)) refused clean still decided = absurd refused
    change_mended loaded was_mended s (Err (stops.PowerLost x)) refused clean still decided = absurd decided
    change_mended loaded was_mended s (Err (stops.Device x)) refused clean still decided = absurd decided
    change_mended loaded was_mended s (Err stops.Memory) refused clean still decided = absurd decided
