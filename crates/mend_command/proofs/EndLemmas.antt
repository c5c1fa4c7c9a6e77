-- What was printed, one part after another, and a disk to which nothing was done.
use Rattle.std.proofs.Common.{arith, ◌≡◌, inl, inr, ⊎_elim, ◌++◌, ℕ, true, List, [], refl, sym, ap, ◌∙◌, append_assoc}
use Rattle.std.proofs.lemmas.List.{append-nil}
use Rattle.nt_edge.specs.Disk.{DiskState, IsBounded}
use Rattle.nt_edge.specs.Host.{HostState, SaysFront}
use Rattle.mend_command.specs.declared.mend_command.status.MendStatus.{MendStatus}
use Rattle.mend_command.specs.declared.mend_command.status.MendStatus.TheVariants.{Done, WriteFault, Memory, Device, Cut}
use Rattle.mend_command.specs.mend_command.Ends.{Told, DiskGoes}

-- ---- what was printed

-- nothing is a prefix of every text
front_none : (said text : List ℕ) → SaysFront said said text
front_none said text = record { front = []; rest = text; cut = refl; said = sym (append-nil said) }

-- a prefix of a text is one of a longer text
front_more : (old new first rest : List ℕ) → SaysFront old new first → SaysFront old new (first ++ rest)
front_more old new first rest f = record {
  front = f.front;
  rest = f.rest ++ rest;
  cut = ap (λ (l : List ℕ). l ++ rest) f.cut ∙ append_assoc f.front f.rest rest;
  said = f.said;
}

-- what was printed after a first text is the longer text
front_behind : (old mid new first rest : List ℕ) → mid ≡ old ++ first → SaysFront mid new rest
    → SaysFront old new (first ++ rest)
front_behind old mid new first rest is f = record {
  front = first ++ f.front;
  rest = f.rest;
  cut = ap (λ (l : List ℕ). first ++ l) f.cut ∙ sym (append_assoc first f.front f.rest);
  said = f.said ∙ ap (λ (l : List ℕ). l ++ f.front) is ∙ append_assoc old first f.front;
}

whole_behind : (old mid new first rest : List ℕ) → mid ≡ old ++ first → new ≡ mid ++ rest → new ≡ old ++ (first ++ rest)
whole_behind old mid new first rest is e = e ∙ ap (λ (l : List ℕ). l ++ rest) is ∙ append_assoc old first rest

pub told_behind : (told : MendStatus) (first rest : List ℕ) (status : MendStatus) (old mid new : HostState)
    → mid.tells ≡ old.tells
    → (old.tells ≡ true → mid.said ≡ old.said ++ first) → Told told rest status mid new
    → Told told (first ++ rest) status old new
told_behind told first rest status old mid new same said t =
    ⊎_elim
    (λ all. inl (
      all.0,
      λ tells. whole_behind old.said mid.said new.said first rest (said tells)
          (all.1 (same ∙ tells)),
    ))
    (λ cut. inr (
      cut.0,
      λ tells. front_behind old.said mid.said new.said first rest (said tells)
          (cut.1 (same ∙ tells)),
    ))
    t

-- where the first text was stopped, so was the whole
pub told_cut : (other : MendStatus) (first rest : List ℕ) (status : MendStatus) (old new : HostState)
    → (status ≡ Done → ⊥)
    → Told Done first status old new → Told other (first ++ rest) status old new
told_cut other first rest status old new not t =
    ⊎_elim
    (λ all. absurd (not all.0))
    (λ cut. inr (cut.0, λ tells. front_more old.said new.said first rest (cut.1 tells)))
    t

-- where the first text was printed, it was printed whole
pub told_whole : (first : List ℕ) (status : MendStatus) (old new : HostState) → status ≡ Done
    → Told Done first status old new
    → old.tells ≡ true → new.said ≡ old.said ++ first
told_whole first status old new is t tells =
    ⊎_elim
    (λ all. all.1 tells)
    (λ cut. absurd (⊎_elim (λ w. write_done status is w) (λ m. memory_done status is m) cut.0))
    t
  where
    write_done : (s : MendStatus) → s ≡ Done → s ≡ WriteFault → ⊥
    write_done s d w = cc

    memory_done : (s : MendStatus) → s ≡ Done → s ≡ Memory → ⊥
    memory_done s d m = cc

-- memory was lacking before anything was printed
pub told_nothing : (told : MendStatus) (text : List ℕ) (s : HostState) → Told told text Memory s s
told_nothing told text s = inr (inr refl, λ tells. front_none s.said text)

-- a status is the one that goes with the text, or that of a stop of the host or the memory
pub not_as : (told other : MendStatus) (text : List ℕ) (status : MendStatus) (old new : HostState)
    → Told told text status old new
    → (told ≡ other → ⊥) → (WriteFault ≡ other → ⊥) → (Memory ≡ other → ⊥) → status ≡ other → ⊥
not_as told other text status old new t one two three e =
    ⊎_elim (λ all. one (sym all.0 ∙ e)) (λ cut. ⊎_elim (λ w. two (sym w ∙ e)) (λ m. three (sym m ∙ e)) cut.0) t

-- ---- the disk

pub disk_same : (status : MendStatus) (s : DiskState) → IsBounded s → (status ≡ Cut → ⊥) → (status ≡ Device → ⊥)
    → DiskGoes status s s
disk_same status s ends cut device = record {
  history = refl;
  counts = record {
    cuts = omega arith;
    faults = omega arith;
    lacks = omega arith;
    cuts_end = ends.cuts;
    faults_end = ends.faults;
    lacks_end = ends.lacks;
  };
  cut = λ e. absurd (cut e);
  fault = λ e. absurd (device e);
  no_cut = λ other. inr refl;
  no_fault = λ other more. inr refl;
  off = λ e. absurd (cut e);
}
