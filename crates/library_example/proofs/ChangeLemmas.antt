-- What a change leaves on a disk, by its steps.
use Rattle.std.proofs.Common.{◌≡◌, ◌<◌, ℕ, zero, suc, Bool, true, false, List, [], Option, Some, None, get_or, sym, ap, subst, arith}
use Rattle.std.specs.Prelude.{Result, Ok, Err, IfSome, OnOk}
use Rattle.std.specs.List.{All}
use Rattle.hive_model.specs.Base.{Base, version_of}
use Rattle.hive_model.specs.Edit.{Step, edited}
use Rattle.hive_model.specs.Image.{Image, IsCrashImage}
use Rattle.hive_model.specs.Load.{Loads, state_of}
use Rattle.hive_store.specs.Commits.{HasCommitted}
use Rattle.hive_store.specs.Loading.{loaded_state}
use Rattle.hive_store.specs.Session.{Session}
use Rattle.nt_edge.specs.Bench.{woken}
use Rattle.nt_edge.specs.Disk.{DiskState}
use Rattle.reg_tree.specs.Fitting.{Fits}
use Rattle.library_example.specs.Changes.{change, IsChanged, IsEdited}

-- the edit brings no key along
change_fits : All Fits change
change_fits = at
  where
    at : (k : ℕ) (d : Step) → k < 1 → Fits (get_or change k d)
    at zero d lt = tt
    at (suc k) d lt = absurd (omega (arith, lt))

pub steps_fit : (steps : List Step) → steps ≡ change → All Fits steps
steps_fit steps is = (let P : List Step → Type 0 = λ ss. All Fits ss in subst P (sym is) change_fits)

-- the disk loads as the tree that was committed, under the number that is answered
pub written_by : (tells : Bool) (disk : DiskState) (s : Session) (answer : Session × ℕ) → HasCommitted tells disk s answer
    → tells ≡ true → Loads disk.held (state_of s.tree answer.1 (version_of s.base.minor)) false
written_by tells disk s answer done told =
    let P : ℕ → Type 0 = λ n. Loads disk.held (state_of s.tree n (version_of s.base.minor)) false in
    subst P (sym done.number) (done.loads told)

-- what is written is the tree that the edit gives
pub edited_by : (r : Option ℕ) (s t : Session) (steps : List Step) (new : Image) → steps ≡ change → t.base ≡ s.base
    → edited (version_of s.base.minor) s.tree steps ≡ Ok t.tree
    → IfSome r (λ n. Loads new (state_of t.tree n (version_of t.base.minor)) false) → IfSome r (IsEdited s new)
edited_by None s t steps new is base made loads = tt
edited_by (Some n) s t steps new is base made loads =
    let P : List Step → Type 0 = λ ss. edited (version_of s.base.minor) s.tree ss ≡ Ok t.tree in
    let Q : Base → Type 0 = λ b. Loads new (state_of t.tree n (version_of b.minor)) false in
    record { tree = t.tree; made = subst P is made; loads = subst Q base loads }

pub changed_by : (r : Option ℕ) (old new : Image) (s : Session) (dirty : Bool) → Loads old (loaded_state s) dirty
    → IfSome r (IsEdited s new) → IfSome r (IsChanged old new)
changed_by None old new s dirty read e = tt
changed_by (Some n) old new s dirty read e =
    record { before = loaded_state s; dirty = dirty; tree = e.tree; read = read; made = e.made; loads = e.loads }

-- a disk that woke up is on, and nothing is in flight
pub woke_on : {E : Type 0} (r : Result (Unit {0}) E) (old new : DiskState)
    → OnOk r ((image : Image) × IsCrashImage old.held old.flight image × (new ≡ woken image old)) → OnOk r (new.on ≡ true)
woke_on (Ok u) old new (image, left, woke) = ap (λ (d : DiskState). d.on) woke
woke_on (Err e) old new none = tt

pub woke_still : {E : Type 0} (r : Result (Unit {0}) E) (old new : DiskState)
    → OnOk r ((image : Image) × IsCrashImage old.held old.flight image × (new ≡ woken image old)) → OnOk r (new.flight ≡ [])
woke_still (Ok u) old new (image, left, woke) = ap (λ (d : DiskState). d.flight) woke
woke_still (Err e) old new none = tt
