-- What does a cut at each call of a commit or a recovery leave, and which word does the table have for it? (This project's own.)
use Rattle.std.specs.Prelude.{◌≡◌, ◌≤◌, Bool, false, ℕ, List, [], ◌∷◌, ◌++◌, length, take, nat_lt, if◌then◌else◌}
use Rattle.hive_model.specs.Base.{Base, base_text}
use Rattle.hive_model.specs.Image.{Image, Write, overlaid}
use Rattle.hive_model.specs.Asked.{primary_at}
use Rattle.hive_model.specs.Log.{log_of}
use Rattle.hive_model.specs.Carries.{IsRecoveredAs}
use Rattle.hive_model.specs.State.{HiveState}
use Rattle.hive_model.specs.Load.{Loads, LoadsAs}
use Rattle.nt_edge.specs.Calls.{Made, Synced, writes_of}
use Rattle.nt_edge.specs.declared.disk.Keep.{Keep}
use Rattle.nt_edge.specs.declared.disk.Keep.TheVariants.{Nothing, Everything, OddOnes, Torn}
use Rattle.mem_edge.specs.Views.{left}
use Rattle.hive_commit.specs.Stages.{opened_of, closed_of}
use Rattle.hive_commit.specs.Calls.{log_writes, bins_writes}
use Rattle.sweep_text.specs.declared.sweep_text.stages.Leaves.{Leaves}
use Rattle.sweep_text.specs.sweep_text.Stages.{Stage}

-- ---- the writes of each stage; a sync ends it

abbrev pub recovery_writes : Base → (ℕ → Bool) → List ℕ → List (List Write)
recovery_writes closed bits bins =
    bins_writes bits bins
    ∷ ((primary_at 0, base_text closed) ∷ [])
    ∷ []

abbrev pub commit_writes : Base → (ℕ → Bool) → List ℕ → ℕ → List (List Write)
commit_writes base bits new root =
    log_writes (log_of bits new (closed_of base new root))
    ∷ ((primary_at 0, base_text (opened_of base)) ∷ [])
    ∷ bins_writes bits new
    ∷ ((primary_at 0, base_text (closed_of base new root)) ∷ [])
    ∷ []

abbrev pub calls_of : List (List Write) → List Made
calls_of [] = []
calls_of (writes ∷ more) = writes_of writes ++ Synced ∷ calls_of more

-- what is held once all these stages are done
abbrev pub held_after : Image → List (List Write) → Image
held_after held [] = held
held_after held (writes ∷ more) = held_after (overlaid held writes) more

-- ---- the word of a call: whether it is `after`

-- of a sync
abbrev pub sync_word : Leaves → Keep → Bool
sync_word leaves Nothing = leaves.none
sync_word leaves Everything = leaves.others
sync_word leaves OddOnes = leaves.others
sync_word leaves Torn = leaves.others

-- of the call after k writes of a stage that has that number: the next write, or the sync
abbrev pub word_at : Leaves → Keep → ℕ → ℕ → Bool
word_at leaves keep writes k = if nat_lt k writes then leaves.written else sync_word leaves keep

-- ---- what a cut leaves

-- Whatever a cut leaves, at each call of a stage and in each of the four ways, has P by the word of the table. What the stage
-- began with is held, and the writes before the call are in flight; a write that is itself the call is not.
abbrev pub StageLeaves : (Bool → Image → Type 0) → Image → Leaves → List Write → Type 0
StageLeaves P held leaves writes =
    (k : ℕ) (keep : Keep) → k ≤ length writes → P (word_at leaves keep (length writes) k) (left keep held (take k writes))

-- so at each call of each stage, in order, each of which the table has
abbrev pub EachCallLeaves : (Bool → Image → Type 0) → Image → List Stage → List (List Write) → Type 0
EachCallLeaves P held [] [] = Unit {0}
EachCallLeaves P held [] (writes ∷ more) = ⊥
EachCallLeaves P held (s ∷ stages) [] = ⊥
EachCallLeaves P held (s ∷ stages) (writes ∷ more) =
    StageLeaves P held s.leaves writes × EachCallLeaves P (overlaid held writes) stages more

-- ---- what it is recovered as

-- as the old data, or where the word is `after` as the new
abbrev pub IsRecoveredBy : Base → List ℕ → Base → List ℕ → Bool → Image → Type 0
IsRecoveredBy base old closed new after cut = IsRecoveredAs cut (if after then closed else base) (if after then new else old)

-- as these data, and the word is `before`
abbrev pub IsRecoveredBefore : Base → List ℕ → Bool → Image → Type 0
IsRecoveredBefore base bins after cut = (after ≡ false) × IsRecoveredAs cut base bins

-- ---- what it loads as

-- as the old state, or where the word is `after` as the new one
abbrev pub LoadsBy : HiveState → HiveState → Bool → Image → Type 0
LoadsBy old new after cut = LoadsAs cut (if after then new else old)

-- as no other
abbrev pub LoadsNoOther : HiveState → HiveState → Bool → Image → Type 0
LoadsNoOther old new after cut = (found : HiveState) (dirty : Bool) → Loads cut found dirty → found ≡ (if after then new else old)

-- as this state, and the word is `before`
abbrev pub LoadsBefore : HiveState → Bool → Image → Type 0
LoadsBefore state after cut = (after ≡ false) × LoadsAs cut state
