-- What is kept of the entries of a phase? (this project's own)
use Rattle.std.specs.Prelude.{◌≡◌, ℕ, Bool, ◌++◌, ◌∷◌, [], List, Option, Some, map, slice_get, remove, if◌then◌else◌}
use Rattle.start_model.specs.Entries.{Entry, need_of}
use Rattle.start_model.specs.Ready.{Label, next_of}
use Rattle.start_model.specs.Machine.{label_of}

-- the entries of a phase that wait, in its order, and who was started
pub record QueueState : Type 0 where
  pub waiting : List Entry
  pub started : List Label

-- the place among the waiting of the next one
abbrev pub next_among : QueueState → Option ℕ
next_among q = next_of q.started (map need_of q.waiting)

-- the entry is the next one
pub record IsFirst (q : QueueState) (e : Entry) : Type 0 where
  pub place : ℕ
  pub next : next_among q ≡ Some place
  pub entry : slice_get q.waiting place ≡ Some e

-- the next entry, which is this one, waits no more, and was started where `ok`
pub record TakesFirst (old new : QueueState) (e : Entry) (ok : Bool) : Type 0 where
  pub place : ℕ
  pub next : next_among old ≡ Some place
  pub entry : slice_get old.waiting place ≡ Some e
  pub waiting : new.waiting ≡ remove old.waiting place
  pub started : new.started ≡ (if ok then old.started ++ label_of e ∷ [] else old.started)
