-- What a write or a sync leaves, by its answer.
use Rattle.std.proofs.Common.{◌≡◌, ◌⊎◌, ◌++◌, ◌∷◌, [], Bool, true, Result, Ok, Err}
use Rattle.std.specs.Prelude.{OnOk, OnErr}
use Rattle.hive_model.specs.Image.{Address, Write, put}
use Rattle.nt_edge.specs.Disk.{DiskState, now_of}
use Rattle.nt_edge.specs.Crash.{EachCrash, AgreeOutside, Writing}
use Rattle.nt_edge.proofs.Writing.{writing_crash, writing_more, writing_err, writing_same, synced_crash, now_more}

module _ {T E : Type 0} (p : Address → Bool) (first s t : DiskState) where
  pub after_write : (r : Result T E) (w : Write) → p w.0 ≡ true → Writing p first s → t.held ≡ s.held
      → OnOk r (t.flight ≡ s.flight ++ w ∷ []) → OnErr r ((t.flight ≡ s.flight) ⊎ (t.flight ≡ s.flight ++ w ∷ []))
      → Writing p first t
  after_write (Ok x) w is so_far held written perhaps = writing_more p first s t w so_far is held written
  after_write (Err e) w is so_far held written perhaps = writing_err p first s t w so_far is held perhaps

  pub after_sync : (r : Result T E) → Writing p first s → OnOk r (t.held ≡ now_of s) → OnOk r (t.flight ≡ [])
      → OnErr r (t.held ≡ s.held) → OnErr r (t.flight ≡ s.flight)
      → EachCrash t (AgreeOutside p first.held)
  after_sync (Ok x) so_far held none before same = synced_crash p first s t so_far held none
  after_sync (Err e) so_far held none before same =
      writing_crash p first t (writing_same p first s t so_far before same)

  pub put_after : (r : Result T E) (w : Write) → t.held ≡ s.held → OnOk r (t.flight ≡ s.flight ++ w ∷ [])
      → OnOk r (now_of t ≡ put (now_of s) w)
  put_after (Ok x) w held written = now_more p first s t w held written
  put_after (Err e) w held written = tt
