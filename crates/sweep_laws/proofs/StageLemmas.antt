-- What the cuts of one stage leave.
use Rattle.std.proofs.Common.{◌≡◌, ℕ, zero, suc, Bool, true, false, cond, List, [], ◌∷◌, length, take, nat_lt, refl, sym, subst, arith, ap, ◌∙◌}
use Rattle.hive_model.specs.Image.{Image, Write, put, overlaid}
use Rattle.nt_edge.specs.Crash.{unreadable_at}
use Rattle.nt_edge.specs.declared.disk.Keep.{Keep}
use Rattle.nt_edge.specs.declared.disk.Keep.TheVariants.{Nothing, Everything, OddOnes, Torn}
use Rattle.mem_edge.specs.Views.{left}
use Rattle.sweep_text.specs.declared.sweep_text.stages.Leaves.{Leaves}
use Rattle.sweep_text.specs.sweep_text.Stages.{Stage, leaves_either}
use Rattle.sweep_laws.specs.Leaving.{sync_word, word_at, StageLeaves, EachCallLeaves}

abbrev always : Bool → Leaves
always b = record { written = b; none = b; others = b }

same_sync : (b : Bool) (keep : Keep) → sync_word (always b) keep ≡ b
same_sync b Nothing = refl
same_sync b Everything = refl
same_sync b OddOnes = refl
same_sync b Torn = refl

same_either : (b test : Bool) → cond test b b ≡ b
same_either b true = refl
same_either b false = refl

same_word : (b : Bool) (keep : Keep) (writes k : ℕ) → word_at (always b) keep writes k ≡ b
same_word b keep writes k = ap (cond (nat_lt k writes) b) (same_sync b keep) ∙ same_either b (nat_lt k writes)

module _ (P : Bool → Image → Type 0) (held : Image) where
  -- each cut leaves the same
  pub always_leaves : (b : Bool) (writes : List Write)
      → ((k : ℕ) (keep : Keep) → P b (left keep held (take k writes)))
      → StageLeaves P held (always b) writes
  always_leaves b writes each k keep within =
      subst (λ (w : Bool). P w (left keep held (take k writes))) (sym (same_word b keep (length writes) k)) (each k keep)

  -- with nothing in flight it leaves what is held
  none_left : (b : Bool) (keep : Keep) → P b held → P b (left keep held [])
  none_left b Nothing is = is
  none_left b Everything is = is
  none_left b OddOnes is = is
  none_left b Torn is = is

  -- one write
  module _ (w : Write) (is : P false held) (there : P true (put held w)) (gone : P true (unreadable_at w.0 held)) where
    one_left : (keep : Keep) → P (sync_word leaves_either keep) (left keep held (w ∷ []))
    one_left Nothing = is
    one_left Everything = there
    one_left OddOnes = there
    one_left Torn = gone

    pub either_leaves : StageLeaves P held leaves_either (w ∷ [])
    either_leaves zero keep within = none_left false keep is
    either_leaves (suc zero) keep within = one_left keep
    either_leaves (suc (suc k)) keep within = absurd (omega (arith, within))

-- what one thing says of each cut, another does that follows from it
stage_along : (P Q : Bool → Image → Type 0) → ((after : Bool) (cut : Image) → P after cut → Q after cut) → (held : Image)
    (leaves : Leaves) (writes : List Write) → StageLeaves P held leaves writes → StageLeaves Q held leaves writes
stage_along P Q step held leaves writes each k keep within =
    step (word_at leaves keep (length writes) k) (left keep held (take k writes)) (each k keep within)

pub calls_along : (P Q : Bool → Image → Type 0) → ((after : Bool) (cut : Image) → P after cut → Q after cut) → (held : Image)
    (stages : List Stage) (writes : List (List Write)) → EachCallLeaves P held stages writes → EachCallLeaves Q held stages writes
calls_along P Q step held [] [] each = tt
calls_along P Q step held [] (writes ∷ more) each = each
calls_along P Q step held (s ∷ stages) [] each = each
calls_along P Q step held (s ∷ stages) (writes ∷ more) each =
    (stage_along P Q step held s.leaves writes each.0, calls_along P Q step (overlaid held writes) stages more each.1)
