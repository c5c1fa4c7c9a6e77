-- What a commit and a recovery leave alone.
use Rattle.std.proofs.Common.{◌≡◌, ◌+◌, ℕ, Bool, List, [], length, Ok, sym, ◌∙◌, ap, subst, refl, arith}
use Rattle.std.proofs.lemmas.Bool.{ne_eqb}
use Rattle.hive_model.specs.Base.{Base}
use Rattle.hive_model.specs.Image.{Image}
use Rattle.hive_model.specs.Recovery.{Recovered, primary_in, recovered_of}
use Rattle.hive_model.specs.Carries.{IsRecoveredAs}
use Rattle.nt_edge.specs.Disk.{DiskState}
use Rattle.nt_edge.specs.Crash.{AgreeOutside, EachCrash}
use Rattle.hive_commit.specs.Stages.{in_log, is_base, is_marked}
use Rattle.hive_model.specs.Asked.{primary_at, bin_at}
use Rattle.hive_commit.specs.Alone.{KeepsRest, KeepsAll}
use Rattle.hive_commit.specs.Cuts.{IsCutOfRestoring}
use Rattle.hive_commit.proofs.Growth.{unmarked_before, unmarked_behind}
use Rattle.hive_commit.proofs.Four.{no_base}
use Rattle.hive_commit.proofs.Kept.{only_held, kept, kept_log, log_behind, one_recovery, recovered_along}

module _ (size : ℕ) (before after : Image) where
  pub rest_log : AgreeOutside in_log before after → KeepsRest size before after
  rest_log agree = record {
    head = λ n _ _. agree (primary_at n) refl;
    behind = λ i _. agree (bin_at i) refl;
  }

  pub rest_base : AgreeOutside is_base before after → KeepsRest size before after
  rest_base agree = record {
    head = λ n more _. agree (primary_at n) (ne_eqb n 0 (λ e. absurd (omega arith)));
    behind = λ i _. agree (bin_at i) (no_base i);
  }

  pub rest_marked : (bits : ℕ → Bool) → AgreeOutside (is_marked size bits) before after → KeepsRest size before after
  rest_marked bits agree = record {
    head = λ n _ small. agree (primary_at n) (unmarked_before size bits n small);
    behind = λ i far. agree (bin_at i) (unmarked_behind size bits i far);
  }

  pub rest_same : after ≡ before → KeepsRest size before after
  rest_same same = record {
    head = λ n _ _. ap (λ (i : Image). primary_in i n) same;
    behind = λ i _. ap (λ (m : Image). primary_in m (8 + i)) same;
  }

  -- one change after another
  pub rest_then : (last : Image) → KeepsRest size before after → KeepsRest size after last → KeepsRest size before last
  rest_then last one two = record {
    head = λ n more small. two.head n more small ∙ one.head n more small;
    behind = λ i far. two.behind i far ∙ one.behind i far;
  }

-- what a recovery that wrote nothing leaves
pub rest_kept : (old new : DiskState) (size : ℕ) → new.held ≡ old.held → new.flight ≡ []
    → EachCrash new (KeepsRest size old.held)
rest_kept old new size held none c crash = rest_same size old.held c (only_held new c none crash ∙ held)

-- what a restoring leaves, where it was given what was read
pub rest_restored : (old new : DiskState) (held : Image) (base : Base) (bins : List ℕ) (view : Recovered)
    (data_read : List ℕ) → held ≡ old.held → recovered_of old.held ≡ Ok view → data_read ≡ view.bins
    → IsRecoveredAs old.held base bins
    → EachCrash new (KeepsRest (length data_read) held) → EachCrash new (KeepsRest (length bins) old.held)
rest_restored old new held base bins view data_read held_is exact data_is is each c crash =
    let other : IsRecoveredAs old.held view.base view.bins = record { dirty = view.dirty; recovered = exact } in
    let same = one_recovery old.held base view.base bins view.bins is other in
    subst (λ (l : List ℕ). KeepsRest (length l) old.held c) (data_is ∙ same.1)
    (subst (λ (h : Image). KeepsRest (length data_read) h c) held_is (each c crash))

-- where nothing was written
pub all_kept : (old new : DiskState) → new.held ≡ old.held → new.flight ≡ [] → KeepsAll old new
all_kept old new held none = record {
  crash = kept old new held none;
  log = kept_log old new held none;
  rest = λ base bins is. rest_kept old new (length bins) held none;
}

-- and after a restoring that was given what was read
pub all_restored : (old read new : DiskState) (view : Recovered) (closed : Base) (data_read : List ℕ)
    → read.held ≡ old.held → recovered_of old.held ≡ Ok view → closed ≡ view.base → data_read ≡ view.bins
    → EachCrash new (IsCutOfRestoring read.held closed data_read) → KeepsAll old new
all_restored old read new view closed data_read same exact closed_is data_is cut = record {
  crash = λ base bins is. recovered_along old.held base closed bins data_read is
      (record {
        dirty = view.dirty;
        recovered = exact ∙ (λ i. Ok (record { base = (sym closed_is) i; bins = (sym data_is) i; dirty = view.dirty }));
      }) new (λ c left. (cut c left).recovered);
  log = log_behind old.held read.held new same (λ c left. (cut c left).log);
  rest = λ base bins is. rest_restored old new read.held base bins view data_read same exact data_is is
      (λ c left. (cut c left).rest);
}
