-- How a run of writes goes on, and what a cut in it may leave.
use Rattle.std.proofs.Common.{◌≡◌, ◌⊎◌, Bool, true, false, [], ◌∷◌, ◌++◌, refl, sym, ◌∙◌, ap, subst, ⊎_elim}
use Rattle.hive_model.specs.Image.{Address, Image, Write, put, overlaid}
use Rattle.nt_edge.specs.Disk.{DiskState, now_of}
use Rattle.nt_edge.specs.Crash.{EachWrite, AgreeOutside, EachCrash, Writing}
use Rattle.nt_edge.proofs.Images.{each_push, crash_outside, now_outside, overlaid_push}

module _ (p : Address → Bool) (first s : DiskState) where
  pub writing_start : s.held ≡ first.held → s.flight ≡ [] → Writing p first s
  writing_start held none = record { held = held; only = subst (EachWrite p) (sym none) tt }

  pub writing_crash : Writing p first s → EachCrash s (AgreeOutside p first.held)
  writing_crash w c crash =
      subst (λ (h : Image). AgreeOutside p h c) w.held (crash_outside p s.held s.flight c w.only crash)

  module _ (t : DiskState) where
    pub writing_same : Writing p first s → t.held ≡ s.held → t.flight ≡ s.flight → Writing p first t
    writing_same w held flight = record { held = held ∙ w.held; only = subst (EachWrite p) (sym flight) w.only }

    pub writing_more : (w : Write) → Writing p first s → p w.0 ≡ true → t.held ≡ s.held → t.flight ≡ s.flight ++ w ∷ []
        → Writing p first t
    writing_more w so_far is held flight =
        record {
          held = held ∙ so_far.held;
          only = subst (EachWrite p) (sym flight) (each_push p s.flight w so_far.only is);
        }

    -- a write that was refused
    pub writing_err : (w : Write) → Writing p first s → p w.0 ≡ true → t.held ≡ s.held
        → (t.flight ≡ s.flight) ⊎ (t.flight ≡ s.flight ++ w ∷ []) → Writing p first t
    writing_err w so_far is held flight = ⊎_elim (writing_same so_far held) (writing_more w so_far is held) flight

    -- after a sync, what is on the disk agrees outside, and a cut leaves that
    pub synced_held : Writing p first s → t.held ≡ now_of s → AgreeOutside p first.held t.held
    synced_held so_far held =
        subst (λ (h : Image). AgreeOutside p first.held h) (sym held)
        (subst (λ (h : Image). AgreeOutside p h (now_of s)) so_far.held (now_outside p s.held s.flight so_far.only))

    pub synced_crash : Writing p first s → t.held ≡ now_of s → t.flight ≡ [] → EachCrash t (AgreeOutside p first.held)
    synced_crash so_far held none c crash a not =
        crash_outside (λ _. false) t.held t.flight c (subst (EachWrite (λ _. false)) (sym none) tt) crash a refl
        ∙ synced_held so_far held a not

    -- what a read gives after one more write
    pub now_more : (w : Write) → t.held ≡ s.held → t.flight ≡ s.flight ++ w ∷ [] → now_of t ≡ put (now_of s) w
    now_more w held flight = ap (λ (h : Image). overlaid h t.flight) held ∙ ap (overlaid s.held) flight
        ∙ overlaid_push s.held s.flight w
