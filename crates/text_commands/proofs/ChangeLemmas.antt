-- What becomes of a disk by an import.
use Rattle.std.proofs.Common.{◌≡◌, ◌⊎◌, inr, ⊎_elim, ℕ, ◌+◌, Bool, true, false, cond, not, List, [], length, Option, Some, None, Result, Ok, Err, refl, sym, ap, subst, ◌∙◌, arith}
use Rattle.std.specs.Prelude.{◌↔◌, IfOk}
use Rattle.std.specs.Bool.{Decides}
use Rattle.std.proofs.lemmas.Bool.{false≢true}
use Rattle.hive_model.specs.Base.{Base, version_of, is_bins_size}
use Rattle.hive_model.specs.Carries.{Carries, IsRecoveredAs}
use Rattle.hive_model.specs.Recovery.{recovered_of}
use Rattle.hive_model.specs.Edit.{Step, Refusal, no_key, no_value, bad_name, exists, name_too_long, too_deep, data_too_long, full, edited}
use Rattle.hive_model.specs.Image.{Image, IsCrashImage}
use Rattle.hive_model.specs.Load.{Loads, Holds, state_of}
use Rattle.hive_model.specs.State.{HiveState}
use Rattle.hive_model.specs.Tree.{Tree, same_tree}
use Rattle.hive_model.proofs.BaseLemmas.{base_in_checked}
use Rattle.hive_commit.specs.Stages.{next_number}
use Rattle.hive_store.specs.Commits.{committed_state, next_base, HasCommitted}
use Rattle.hive_store.specs.Loading.{loaded_state}
use Rattle.hive_store.specs.Session.{Session, next_bins}
use Rattle.hive_store.proofs.Holding.{clean, held_by, carried}
use Rattle.nt_edge.specs.Crash.{EachCrash}
use Rattle.nt_edge.specs.Disk.{DiskState, History}
use Rattle.nt_edge.specs.Bench.{woken}
use Rattle.nt_edge.proofs.Images.{still_crash}
use Rattle.run_laws.proofs.SameLemmas.{same-Decides}
use Rattle.hive_edit.specs.Edits.{IsEditedInPlace, IsPackedForRoom}
use Rattle.start_model.specs.Sets.{is_usable}
use Rattle.reg_tree.specs.declared.stop.EditStop.{EditStop}
use Rattle.reg_tree.specs.declared.stop.EditStop.TheVariants as stops
use Rattle.reg_tree.specs.Makes.{IsRefused}
use Rattle.command_parts.specs.declared.command_parts.inputs.HiveFiles.{HiveFiles}
use Rattle.command_parts.specs.command_parts.Leaves.{named}
use Rattle.command_parts.specs.command_parts.Placed.{image_in, placed_disk}
use Rattle.import_steps.specs.Current.{SetSteps, set_steps}
use Rattle.import_steps.specs.Left.{LeftSteps, left_of}
use Rattle.command_words.specs.declared.asked.AskedSet.{AskedSet}
use Rattle.text_commands.specs.declared.said.Done.{Done}
use Rattle.text_commands.specs.declared.said.Done.TheVariants as dones
use Rattle.text_commands.specs.declared.said.How.{How}
use Rattle.text_commands.specs.declared.said.ImportStop.{ImportStop}
use Rattle.text_commands.specs.declared.said.ImportStop.TheVariants as import_stops
use Rattle.text_commands.specs.declared.said.Said.{Said}
use Rattle.text_commands.specs.Changed.{Change, as_edited, as_protected, tree_by, done_by, state_by, said_of, change_left, change_made, change_in, change_for, number_in, change_of}
use Rattle.text_commands.specs.Committed.{AreCellsOf, IsCommitOf, IsCommitWhere}
use Rattle.text_commands.specs.Imports.{SettlesAs, Settles, IsRefusedAs, EndsProtected, IsMade, MakesTree, Makes, MakesIn, MakesSteps, usable_in, MakesFor, SaysOf, Changes, ChangesHeld, ChangesAwake, ImportsOn}

-- with nothing in flight only what is held may be left
still_leaves : (disk : DiskState) (P : Image → Type 0) → disk.flight ≡ [] → P disk.held → EachCrash disk P
still_leaves disk P still here c crash = subst P (sym (still_crash disk.held c (rw still at crash))) here

still_loads : (disk : DiskState) (s : HiveState) (dirty : Bool) → disk.flight ≡ [] → Loads disk.held s dirty
    → EachCrash disk (λ (c : Image). Loads c s dirty)
still_loads disk s dirty still loads = still_leaves disk (λ (c : Image). Loads c s dirty) still loads

-- the base block and the bins data that an image carries hold what it loads as
carried_holds : (image : Image) (base : Base) (bins : List ℕ) (state : HiveState) → Carries image base bins
    → Loads image state false → Holds (clean base bins) state
carried_holds image base bins state is loads =
    let size : is_bins_size (length bins) ≡ true =
    ap is_bins_size (sym is.size) ∙ (base_in_checked image base is.block).size_is in
    held_by image state false (clean base bins) loads (carried image base bins size is)

-- a session to which steps led from a loaded one, whose tree is in its cells
pub record Edits (h k : Session) (steps : List Step) : Type 0 where
  pub base : k.base ≡ h.base
  pub bins : k.bins ≡ h.bins
  pub made : edited (version_of h.base.minor) h.tree steps ≡ Ok k.tree
  pub unchanged : h.changed ≡ false
  pub changed : k.changed ≡ true ↔ (h.changed ≡ true) ⊎ (k.tree ≡ h.tree → ⊥)
  pub read : AreCellsOf h.base h.bins (loaded_state h) h.cells
  pub cells : (k ≡ h) ⊎ (IsEditedInPlace h.cells steps k.cells ⊎ IsPackedForRoom h.cells steps k.cells)

-- what is so of a base block and bins data is so of the same ones
carried_over : (P : Base → List ℕ → Type 0) (b c : Base) (l m : List ℕ) → b ≡ c → l ≡ m → P c m → P b l
carried_over P b c l m first second p =
    subst (λ (x : Base). P x l) (sym first) (subst (λ (y : List ℕ). P c y) (sym second) p)

-- what is held after the commit of an edited session is the image of that commit
settled_commit : (image : Image) (h k : Session) (steps : List Step) (number : ℕ) (old new : DiskState)
    → Loads old.held (loaded_state h) false → IsRecoveredAs image h.base h.bins → Edits h k steps
    → SettlesAs k number old new → IsCommitOf image (loaded_state h) steps (committed_state k) new.held
settled_commit image h k steps number old new loads recovered e settles = record {
  logged = record {
    opened = k.base;
    old = k.bins;
    closed = next_base k;
    new = next_bins k;
    was = carried_holds old.held k.base k.bins (loaded_state h) settles.opened loads;
    is = carried_holds new.held (next_base k) (next_bins k) (committed_state k) settles.closed settles.loads;
    carries = settles.closed;
    log = settles.log;
  };
  recovered = carried_over (IsRecoveredAs image) k.base h.base k.bins h.bins e.base e.bins recovered;
  read = h.cells;
  written = k.cells;
  read_of = carried_over (λ (b : Base) (l : List ℕ). AreCellsOf b l (loaded_state h) h.cells) k.base h.base k.bins
      h.bins e.base e.bins e.read;
  written_of = record {
    carried = record { bytes = refl; root = refl };
    version = settles.version;
    tree = settles.tree;
  };
  cells = ⊎_elim
      (λ same. absurd (false≢true (sym e.unchanged ∙ sym (ap (λ (s : Session). s.changed) same) ∙ settles.changed)))
      (λ edit. edit) e.cells;
}

-- where nothing was committed, nothing is stated of a commit
refused_commit : (stop : ImportStop) (done : Done) (image : Image) (before : HiveState) (steps : List Step)
    (after : HiveState) (left : Image) → done ≡ dones.Refused stop → IsCommitWhere done image before steps after left
refused_commit stop done image before steps after left is number commit =
    let both : dones.Refused stop ≡ dones.Commit number = sym is ∙ commit in absurd cc

unchanged_commit : (image : Image) (before : HiveState) (steps : List Step) (after : HiveState) (left : Image)
    → IsCommitWhere dones.Nothing image before steps after left
unchanged_commit image before steps after left number commit = absurd cc

-- whether an edit gave another tree is known from a test
changed_is : (same now : Bool) (t u : Tree) → Decides same (t ≡ u) → (now ≡ true ↔ (false ≡ true) ⊎ (u ≡ t → ⊥))
    → now ≡ not same
changed_is true true t u d f = ⊎_elim (λ e. absurd (false≢true e)) (λ n. absurd (n (sym (d.0 refl)))) (f.0 refl)
changed_is true false t u d f = refl
changed_is false now t u d f = f.1 (inr (λ e. false≢true (d.1 (sym e))))

-- the edits gave this tree, which is the same or another one
made_same : (image : Image) (s : HiveState) (steps : List Step) (t : Tree) (disk : DiskState)
    → same_tree s.tree t ≡ true → EachCrash disk (λ (c : Image). Loads c s false)
    → IsMade image s steps (Ok t) disk dones.Nothing
made_same image s steps t disk is left = record {
  done_is = rw is refl;
  loads = rw is left;
  logged = λ c crash. unchanged_commit image s steps (state_by s (Ok t)) c;
}

made_other : (image : Image) (s : HiveState) (steps : List Step) (t : Tree) (disk : DiskState) (number : ℕ)
    → same_tree s.tree t ≡ false → number ≡ next_number s.sequence
    → EachCrash disk (λ (c : Image). Loads c (record s { tree = t; sequence = next_number s.sequence }) false)
    → EachCrash disk (IsCommitOf image s steps (record s { tree = t; sequence = next_number s.sequence }))
    → IsMade image s steps (Ok t) disk (dones.Commit number)
made_other image s steps t disk number is numbered left logged = record {
  done_is = rw is (ap (λ (n : ℕ). dones.Commit n) numbered);
  loads = rw is left;
  logged = rw is (λ c crash n commit. logged c crash);
}

not_flips : (b c : Bool) → c ≡ not b → c ≡ false → b ≡ true
not_flips true c e f = refl
not_flips false c e f = absurd (false≢true (sym f ∙ e))

not_turns : (b c : Bool) → c ≡ not b → c ≡ true → b ≡ false
not_turns true c e f = absurd (false≢true (sym e ∙ f))
not_turns false c e f = refl

-- the edits were made in the session, which was settled then
settled_made : (image : Image) (h k : Session) (steps : List Step) (done : Done) (old new : DiskState)
    → old.flight ≡ [] → Loads old.held (loaded_state h) false → IsRecoveredAs image h.base h.bins → Edits h k steps
    → Settles k old new done → IsMade image (loaded_state h) steps (Ok k.tree) new done
settled_made image h k steps (dones.Refused stop) old new still loads recovered e settles = absurd settles
settled_made image h k steps dones.Nothing old new still loads recovered e settles =
    let s : HiveState = loaded_state h in
    let now : k.changed ≡ not (same_tree h.tree k.tree) =
    changed_is (same_tree h.tree k.tree) k.changed h.tree k.tree (same-Decides h.tree k.tree)
    (rw e.unchanged at e.changed) in
    let same : same_tree h.tree k.tree ≡ true = not_flips (same_tree h.tree k.tree) k.changed now settles.0 in
    let P : DiskState → Type 0 = λ d. EachCrash d (λ (c : Image). Loads c s false) in
    made_same image s steps k.tree new same (subst P (sym settles.1) (still_loads old s false still loads))
settled_made image h k steps (dones.Commit number) old new still loads recovered e settles =
    let s : HiveState = loaded_state h in
    let after : HiveState = state_of k.tree (next_number h.base.first) (version_of h.base.minor) in
    let now : k.changed ≡ not (same_tree h.tree k.tree) =
    changed_is (same_tree h.tree k.tree) k.changed h.tree k.tree (same-Decides h.tree k.tree)
    (rw e.unchanged at e.changed) in
    let other : same_tree h.tree k.tree ≡ false =
    not_turns (same_tree h.tree k.tree) k.changed now settles.changed in
    let numbered : number ≡ next_number h.base.first =
    settles.number_is ∙ ap (λ (b : Base). next_number b.first) e.base in
    let state : committed_state k ≡ after =
    ap (λ (b : Base). state_of k.tree (next_number b.first) (version_of b.minor)) e.base in
    let left : EachCrash new (λ (c : Image). Loads c after false) =
    subst (λ (t : HiveState). EachCrash new (λ (c : Image). Loads c t false)) state
    (still_loads new (committed_state k) false settles.still settles.loads) in
    let logged : EachCrash new (IsCommitOf image s steps after) =
    subst (λ (t : HiveState). EachCrash new (IsCommitOf image s steps t)) state
    (still_leaves new (IsCommitOf image s steps (committed_state k)) settles.still
    (settled_commit image h k steps number old new loads recovered e settles)) in
    made_other image s steps k.tree new number other numbered left logged

-- the edits were refused, and nothing was done
refused_is : (stop : EditStop) (edit : Result Tree Refusal) → (stop ≡ stops.Memory → ⊥) → IsRefused edit stop
    → as_edited edit ≡ Err (import_stops.Edit stop)
refused_is stops.NoKey edit kept is = ap as_edited is
refused_is stops.NoValue edit kept is = ap as_edited is
refused_is stops.BadName edit kept is = ap as_edited is
refused_is stops.Exists edit kept is = ap as_edited is
refused_is stops.NameTooLong edit kept is = ap as_edited is
refused_is stops.TooDeep edit kept is = ap as_edited is
refused_is stops.DataTooLong edit kept is = ap as_edited is
refused_is stops.Full edit kept is = ap as_edited is
refused_is stops.Memory edit kept is = absurd (kept refl)

refused_made : (image : Image) (s : HiveState) (steps : List Step) (edit : Result Tree Refusal) (stop : EditStop)
    (done : Done) (disk : DiskState) → disk.flight ≡ [] → Loads disk.held s false → IsRefused edit stop
    → (done ≡ dones.Refused (import_stops.Edit stop)) × (stop ≡ stops.Memory → ⊥)
    → IsMade image s steps (as_edited edit) disk done
refused_made image s steps edit stop done disk still loads is refused =
    let same : as_edited edit ≡ Err (import_stops.Edit stop) = refused_is stop edit refused.1 is in
    let P : Result Tree ImportStop → Type 0 = λ r. IsMade image s steps r disk done in
    subst P (sym same) (record {
      done_is = refused.0;
      loads = still_loads disk s false still loads;
      logged = λ c crash. refused_commit (import_stops.Edit stop) done image s steps s c refused.0;
    })

-- ---- where a step after them is refused

never_made : (edit : Result Tree Refusal) → (stop : ImportStop) × (as_protected edit ≡ Err stop)
never_made (Ok t) = (import_stops.Protected, refl)
never_made (Err no_key) = (import_stops.Edit stops.NoKey, refl)
never_made (Err no_value) = (import_stops.Edit stops.NoValue, refl)
never_made (Err bad_name) = (import_stops.Edit stops.BadName, refl)
never_made (Err exists) = (import_stops.Edit stops.Exists, refl)
never_made (Err name_too_long) = (import_stops.Edit stops.NameTooLong, refl)
never_made (Err too_deep) = (import_stops.Edit stops.TooDeep, refl)
never_made (Err data_too_long) = (import_stops.Edit stops.DataTooLong, refl)
never_made (Err full) = (import_stops.Protected, refl)

-- nothing was done to the disk
pub protected_ends : {E : Type 0} (tells : Bool) (protected : Bool) (result : Result Done E) (h : Session)
    (steps : List Step)
    (disk : DiskState) → protected ≡ true → (tells ≡ true → disk.flight ≡ [])
    → (tells ≡ true → Loads disk.held (loaded_state h) false) → IfOk result (EndsProtected (loaded_state h) steps)
    → tells ≡ true → IfOk result (MakesTree protected h steps disk)
protected_ends tells protected (Ok done) h steps disk is still loads ends told =
    let s : HiveState = loaded_state h in
    let edit : Result Tree Refusal = edited s.version s.tree steps in
    let refused : (stop : ImportStop) × (as_protected edit ≡ Err stop) = never_made edit in
    let P : HiveState → Type 0 = λ t. EachCrash disk (λ (c : Image). Loads c t false) in
    let left : P (state_by s (as_protected edit)) =
    subst P (sym (ap (state_by s) refused.1)) (still_loads disk s false (still told) (loads told)) in
    subst (λ (b : Bool). MakesTree b h steps disk done) (sym is) (λ image recovered. record {
      done_is = ends;
      loads = left;
      logged = λ c crash. refused_commit refused.0 done image s steps (state_by s (as_protected edit)) c
          (ends ∙ ap (done_by s) refused.1);
    })
protected_ends tells protected (Err e) h steps disk is still loads ends told = tt

-- ---- what is printed

said_done : (current passed : Option ℕ) (done : Done) → (said_of current passed done).done ≡ done
said_done current passed (dones.Refused stop) = refl
said_done current passed dones.Nothing = refl
said_done current passed (dones.Commit number) = refl

-- what was done with what is printed for it
said_made : {E : Type 0} (h : Session) (current passed : Option ℕ) (protected : Bool) (steps : List Step)
    (done : Result Done E) (said : Result Said E) (disk : DiskState)
    → IfOk done (MakesTree protected h steps disk) → SaysOf current passed done said
    → IfOk said (MakesIn h (change_left current passed (loaded_state h) (record { steps = steps; protected = protected })) disk)
said_made h current passed protected steps (Ok done) (Ok said) disk makes says = λ image recovered.
    let s : HiveState = loaded_state h in
    let edit : Result Tree ImportStop = tree_by protected (edited s.version s.tree steps) in
    let made : IsMade image s steps edit disk done = makes image recovered in
    record {
      said_is = says ∙ ap (said_of current passed) made.done_is;
      loads = made.loads;
      logged = λ c crash number commit. made.logged c crash number
          (made.done_is ∙ sym (said_done current passed (done_by s edit)) ∙ commit);
    }
said_made h current passed protected steps (Ok done) (Err e) disk makes says = absurd says
said_made h current passed protected steps (Err d) (Ok said) disk makes says = absurd says
said_made h current passed protected steps (Err d) (Err e) disk makes says = tt

-- all the steps were made
pub all_made : {E : Type 0} (h : Session) (current : Option ℕ) (lenient protected : Bool) (steps : List Step)
    (done : Result Done E) (said : Result Said E) (disk : DiskState) → lenient ≡ false
    → IfOk done (MakesTree protected h steps disk) → SaysOf current None done said
    → IfOk said (MakesSteps current lenient h (record { steps = steps; protected = protected }) disk)
all_made h current lenient protected steps done (Ok said) disk is made says =
    let made_in : MakesSteps current false h (record { steps = steps; protected = protected }) disk said =
    said_made h current None protected steps done (Ok said) disk made says in
    subst (λ (b : Bool). MakesSteps current b h (record { steps = steps; protected = protected }) disk said) (sym is) made_in
all_made h current lenient protected steps done (Err e) disk is made says = tt

-- ---- the steps that are left

left_said : (s : HiveState) (current : Option ℕ) (protected : Bool) (steps left : List Step) (passed : ℕ) (tree : Tree)
    → tree ≡ s.tree → record { steps = left; passed = passed } ≡ left_of tree steps
    → change_left current (Some passed) s (record { steps = left; protected = protected })
    ≡ change_made current true s (record { steps = steps; protected = protected })
left_said s current protected steps left passed tree is are =
    ap (λ (l : LeftSteps). change_left current (Some l.passed) s (record { steps = l.steps; protected = protected }))
    (are ∙ ap (λ (t : Tree). left_of t steps) is)

pub left_made : {E : Type 0} (h : Session) (current : Option ℕ) (protected : Bool) (steps left : List Step)
    (passed : ℕ)
    (tree : Tree) (done : Result Done E) (said : Result Said E) (disk : DiskState)
    → tree ≡ h.tree → record { steps = left; passed = passed } ≡ left_of tree steps
    → IfOk done (MakesTree protected h left disk) → SaysOf current (Some passed) done said
    → IfOk said (MakesSteps current true h (record { steps = steps; protected = protected }) disk)
left_made h current protected steps left passed tree done said disk is are made says =
    subst (λ (c : Change). IfOk said (MakesIn h c disk))
    (left_said (loaded_state h) current protected steps left passed tree is are)
    (said_made h current (Some passed) protected left done said disk made says)

-- ---- which set

-- the change for a set, by whether its number is usable
set_made : {E : Type 0} (h : Session) (n : ℕ) (lenient : Bool) (steps : List Step) (number : Option ℕ)
    (result : Result Said E) (disk : DiskState) → number ≡ usable_in n h.tree
    → IfOk result (MakesFor number lenient h steps disk)
    → IfOk result (MakesIn h (change_in n lenient (loaded_state h) steps) disk)
set_made h n lenient steps number (Ok said) disk is made =
    go (is_usable h.tree n) refl
    (subst (λ (o : Option ℕ). MakesFor o lenient h steps disk said) is made)
  where
    go : (b : Bool) → is_usable h.tree n ≡ b → MakesFor (cond (is_usable h.tree n)
        (Some n) None) lenient h steps disk said
        → MakesIn h (change_in n lenient (loaded_state h) steps) disk said
    go true e m = rw e (rw e at m)
    go false e m = rw e (rw e at m)
set_made h n lenient steps number (Err e) disk is made = tt

pub set_changes : {E : Type 0} (how : How) (set : AskedSet) (h : Session) (steps : List Step) (number : Option ℕ)
    (result : Result Said E) (disk : DiskState) → how.current ≡ Some set
    → number ≡ usable_in (number_in set h.tree) h.tree
    → IfOk result (MakesFor number how.lenient h steps disk) → IfOk result (Changes how h steps disk)
set_changes how set h steps number result disk asked is made =
    subst (λ (o : Option AskedSet). IfOk result (MakesIn h (change_for o how.lenient (loaded_state h) steps) disk))
    (sym asked)
    (set_made h (number_in set h.tree) how.lenient steps number result disk is made)

-- the steps were made with the set of this number
pub numbered_made : {E : Type 0} (h k : Session) (number : Option ℕ) (n : ℕ) (lenient : Bool) (steps : List Step)
    (made : SetSteps) (result : Result Said E) (disk : DiskState) → number ≡ Some n → k ≡ h → made ≡ set_steps n steps
    → IfOk result (MakesSteps (Some n) lenient k made disk) → IfOk result (MakesFor number lenient h steps disk)
numbered_made h k number n lenient steps made (Ok said) disk is same are makes =
    let done : MakesFor (Some n) lenient h steps disk said =
    subst (λ (m : SetSteps). MakesSteps (Some n) lenient h m disk said) are
    (subst (λ (s : Session). MakesSteps (Some n) lenient s made disk said) same makes) in
    subst (λ (o : Option ℕ). MakesFor o lenient h steps disk said) (sym is) done
numbered_made h k number n lenient steps made (Err e) disk is same are makes = tt

-- without a set nothing was done to the disk
pub unset_made : (h : Session) (lenient : Bool) (steps : List Step) (number : Option ℕ) (said : Said) (disk : DiskState)
    → number ≡ None → said ≡ said_of None None (dones.Refused import_stops.NoControlSet) → disk.flight ≡ []
    → Loads disk.held (loaded_state h) false → MakesFor number lenient h steps disk said
unset_made h lenient steps number said disk is says still loads =
    subst (λ (o : Option ℕ). MakesFor o lenient h steps disk said) (sym is) (λ image recovered. record {
      said_is = says;
      loads = still_loads disk (loaded_state h) false still loads;
      logged = λ c crash. refused_commit import_stops.NoControlSet (dones.Refused import_stops.NoControlSet) image
          (loaded_state h) [] (loaded_state h) c refl;
    })

-- ---- what was done from outside

-- the edits were made in what the disk loaded as
loaded_changes : {E : Type 0} (how : How) (result : Result Said E) (h : Session) (dirty : Bool) (steps : List Step)
    (old : Image) (new : DiskState) → Loads old (loaded_state h) dirty → IsRecoveredAs old h.base h.bins
    → IfOk result (Changes how h steps new) → IfOk result (ChangesHeld how old steps new)
loaded_changes how (Ok said) h dirty steps old new loads recovered changes =
    (record { state = loaded_state h; dirty = dirty }, loads, changes old recovered)
loaded_changes how (Err e) h dirty steps old new loads recovered changes = tt

-- ---- on a new disk

woken_held : (files : HiveFiles) (image : Image) (old : DiskState) → old ≡ placed_disk files
    → IsCrashImage old.held old.flight image → image ≡ image_in files
woken_held files image old is crash =
    let P : DiskState → Type 0 = λ d. IsCrashImage d.held d.flight image in
    still_crash (image_in files) image (subst P is crash)

woken_history : {E : Type 0} (how : How) (files : HiveFiles) (steps : List Step) (result : Result Said E)
    (image : Image)
    (old mid new : DiskState) → old ≡ placed_disk files
    → mid ≡ woken image old → ChangesAwake how steps result mid new
    → new.history ≡ (woken image (placed_disk files)).history
woken_history how files steps result image old mid new is wakes a =
    ap (λ (d : DiskState). d.history) a.off ∙ a.unmoved.history ∙ ap (λ (d : DiskState). d.history) wakes
    ∙ ap (λ (d : DiskState). (woken image d).history) is

-- the files were placed, the disk woke up, the hive was changed, and the disk was turned off
imports_on : {E : Type 0} (how : How) (files : HiveFiles) (steps : List Step) (result : Result Said E) (image : Image)
    (old mid new : DiskState) → old ≡ placed_disk files
    → IsCrashImage old.held old.flight image → mid ≡ woken image old → ChangesAwake how steps result mid new
    → ImportsOn how files steps result new
imports_on how files steps (Ok said) image old mid new is crash wakes a =
    let held : mid.held ≡ image_in files = ap (λ (d : DiskState). d.held) wakes ∙ woken_held files image old is crash in
    let here : ChangesHeld how (image_in files) steps a.late said =
    subst (λ (i : Image). ChangesHeld how i steps a.late said) held a.changed in
    let change : Change = change_of how here.0.state steps in
    let made : Makes (image_in files) change a.late said = here.2 in
    let P : DiskState → Type 0 = λ d. EachCrash d (λ (c : Image). Loads c change.state false) in
    let loads : P new = subst P (sym a.off) made.loads in
    let Q : DiskState → Type 0 =
    λ d. EachCrash d (IsCommitWhere change.said.done (image_in files) change.before change.steps change.state) in
    let logged : Q new = subst Q (sym a.off) made.logged in
    let same : new.history ≡ (woken image (placed_disk files)).history =
    woken_history how files steps (Ok said) image old mid new is wakes a in (
      here.0,
      here.1,
      made.said_is,
      record {
        loads = loads;
        logged = logged;
        placed = ap (λ (h : History). h.placings) same;
        taken = ap (λ (h : History). h.takings) same;
        unordered = ap (λ (h : History). h.armings) same;
        uncut = ap (λ (h : History). h.cut_calls) same;
        no_cuts = ap (λ (d : DiskState). d.cuts) a.off ∙ a.unmoved.quiet.cuts ∙ ap (λ (d : DiskState). d.cuts) wakes
            ∙ ap (λ (d : DiskState). d.cuts) is;
        no_faults = ap (λ (d : DiskState). d.faults) a.off ∙ a.unmoved.quiet.faults
            ∙ ap (λ (d : DiskState). d.faults) wakes ∙ ap (λ (d : DiskState). d.faults) is;
      },
    )
imports_on how files steps (Err e) image old mid new is crash wakes a =
    let same : new.history ≡ (woken image (placed_disk files)).history =
    woken_history how files steps (Err e) image old mid new is wakes a in
    let placings : new.history.placings ≡ 1 + named files.log = ap (λ (h : History). h.placings) same in
    let takings : new.history.takings ≡ 0 = ap (λ (h : History). h.takings) same in
    record {
      placed = omega (arith, placings);
      taken = omega (arith, takings);
      unordered = ap (λ (h : History). h.armings) same;
      uncut = ap (λ (h : History). h.cut_calls) same;
    }

-- the same on the disk of any files
pub imports_any : {E : Type 0} (how : How) (steps : List Step) (result : Result Said E) (old mid new : DiskState)
    → (image : Image) × IsCrashImage old.held old.flight image × (mid ≡ woken image old)
    → ChangesAwake how steps result mid new
    → (files : HiveFiles) → old ≡ placed_disk files → ImportsOn how files steps result new
imports_any how steps result old mid new wakes a files is =
    imports_on how files steps result wakes.0 old mid new is wakes.1 wakes.2 a

-- ---- the same of a disk that may tell what it holds

-- the edits were made, and the session was settled
pub edit_settles : {E : Type 0} (tells : Bool) (result : Result Done E) (h k : Session) (steps : List Step)
    (old new : DiskState) → (tells ≡ true → old.flight ≡ [])
    → (tells ≡ true → Loads old.held (loaded_state h) false) → Edits h k steps
    → (tells ≡ true → IfOk result (Settles k old new))
    → tells ≡ true → IfOk result (MakesTree false h steps new)
edit_settles tells (Ok done) h k steps old new still loads e settles told = λ image recovered.
    subst (λ (r : Result Tree Refusal). IsMade image (loaded_state h) steps (as_edited r) new done) (sym e.made)
    (settled_made image h k steps done old new (still told) (loads told) recovered e (settles told))
edit_settles tells (Err stop) h k steps old new still loads e settles told = tt

-- they were refused
pub edit_refused : {E : Type 0} (tells : Bool) (result : Result Done E) (h : Session) (steps : List Step)
    (stop : EditStop)
    (disk : DiskState) → (tells ≡ true → disk.flight ≡ []) → (tells ≡ true → Loads disk.held (loaded_state h) false)
    → IsRefused (edited (version_of h.base.minor) h.tree steps) stop → IsRefusedAs stop result
    → tells ≡ true → IfOk result (MakesTree false h steps disk)
edit_refused tells (Ok done) h steps stop disk still loads is refused told = λ image recovered.
    refused_made image (loaded_state h) steps (edited (version_of h.base.minor) h.tree steps) stop done disk
    (still told) (loads told)
    is refused
edit_refused tells (Err e) h steps stop disk still loads is refused told = tt

-- they were made in what the disk loaded as
pub change_loads : {E : Type 0} (how : How) (tells : Bool) (result : Result Said E) (h : Session) (dirty : Bool)
    (steps : List Step) (old : Image) (new : DiskState)
    → (tells ≡ true → Loads old (loaded_state h) dirty)
    → (tells ≡ true → recovered_of old ≡ Ok (record { base = h.base; bins = h.bins; dirty = dirty }))
    → (tells ≡ true → IfOk result (Changes how h steps new))
    → tells ≡ true → IfOk result (ChangesHeld how old steps new)
change_loads how tells result h dirty steps old new loads recovered changes told =
    loaded_changes how result h dirty steps old new (loads told)
    (record { dirty = dirty; recovered = recovered told }) (changes told)

-- a session with a change is settled by its commit
pub settled_by : (tells : Bool) (s : Session) (old new : DiskState) (answer : Session × ℕ) → s.changed ≡ true
    → HasCommitted tells new s answer → Carries old.held s.base s.bins → s.cells.version ≡ version_of s.base.minor
    → s.cells.tree ≡ s.tree → tells ≡ true → SettlesAs s answer.1 old new
settled_by tells s old new answer changed done opened version tree told = record {
  changed = changed;
  number_is = done.number;
  still = done.clean.still told;
  loads = done.loads told;
  opened = opened;
  closed = done.clean.carries told;
  log = done.logged told;
  version = version;
  tree = tree;
}

-- what is answered says so
pub ok_settles : {E : Type 0} {s : Session} {old new : DiskState} {result : Result Done E} {number : ℕ}
    → result ≡ Ok (dones.Commit number) → SettlesAs s number old new → IfOk result (Settles s old new)
ok_settles {E} {s} {old} {new} is settled = subst (λ (r : Result Done E). IfOk r (Settles s old new)) (sym is) settled

pub err_settles : {E : Type 0} {result : Result Done E} {e : E} (s : Session) (old new : DiskState)
    → result ≡ Err e → IfOk result (Settles s old new)
err_settles {E} s old new is = subst (λ (r : Result Done E). IfOk r (Settles s old new)) (sym is) tt
