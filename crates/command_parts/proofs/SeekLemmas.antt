-- What a search leaves that answers by what a hive loads as.
use Rattle.std.proofs.Common.{◌≡◌, inr, ℕ, Bool, sym, subst}
use Rattle.std.specs.Prelude.{Result, Ok, Err, IfErr}
use Rattle.nt_bytes.specs.declared.version.HiveVersion.{HiveVersion}
use Rattle.nt_edge.specs.Host.{HostState, KeepsCounts, Counts}
use Rattle.nt_edge.specs.declared.host.HostStop.{HostStop}
use Rattle.nt_edge.specs.declared.host.HostStop.TheVariants.{Write}
use Rattle.hive_model.specs.Image.{Image}
use Rattle.hive_model.specs.Load.{state_of}
use Rattle.hive_model.specs.Tree.{Tree}
use Rattle.hive_store.specs.Checks.{ChecksAs}
use Rattle.start_model.specs.Possible.{Woken}
use Rattle.command_parts.specs.declared.command_parts.answering.Told.{Told}
use Rattle.command_parts.specs.declared.command_parts.refusal.Refusal.{Refusal}
use Rattle.command_parts.specs.declared.command_parts.refusal.Obstacle.{Obstacle}
use Rattle.command_parts.specs.declared.command_parts.refusal.Obstacle.TheVariants.{Refused, Stopped}
use Rattle.command_parts.specs.command_parts.Leaves.{Looks, CountsObstacle}
use Rattle.command_parts.specs.command_parts.OnHive.{Question, told_answer, AnswersOnHive, AnswersAfter, SeeksAnswer}
use Rattle.command_parts.specs.command_parts.Refusals.{Answer}

-- the answer is that to the tree that was read
pub told_at : (image : Image) (answer : Woken → Answer) (root : Tree) (sequence : ℕ) (version : HiveVersion) (told : Told)
    → ChecksAs image (Ok (root, sequence, version))
    → ((dirty : Bool) → told_answer told ≡ answer (record { state = state_of root sequence version; dirty = dirty }))
    → AnswersOnHive (record { image = image; answer = answer }) (Ok told)
told_at image answer root sequence version told loads is =
    (record { state = state_of root sequence version; dirty = loads.0 }, loads.1, is loads.0)

answers : (q : Question) (wanted : Result Question Refusal) (told : Result Told Obstacle) → wanted ≡ Ok q
    → AnswersOnHive q told → AnswersAfter wanted told
answers q wanted (Ok told) is a = (q, is, a)
answers q wanted (Err (Refused why)) is a = inr (q, is, a)
answers q wanted (Err (Stopped stop)) is a = tt

counts : (q : Question) (told : Result Told Obstacle) (old new : HostState) → AnswersOnHive q told
    → KeepsCounts old new → CountsObstacle told old new
counts q (Ok told) old new a kept = kept
counts q (Err (Refused why)) old new a kept = kept
counts q (Err (Stopped stop)) old new a kept = subst (λ (s : HostStop). Counts old new s) (sym a) kept

unwritten : (q : Question) (told : Result Told Obstacle) → AnswersOnHive q told
    → IfErr told (λ obstacle. obstacle ≡ Stopped Write → ⊥)
unwritten q (Ok told) a = tt
unwritten q (Err (Refused why)) a = λ e. absurd cc
unwritten q (Err (Stopped stop)) a = λ e. absurd cc

-- the inputs were found, and what is asked follows from them
pub seeks_after : {A : Type 0} (wanted : Result A Refusal) (inputs : A) (q : Question) (whole : Result Question Refusal)
    (told : Result Told Obstacle) (old new : HostState) → (wanted ≡ Ok inputs → whole ≡ Ok q)
    → Looks wanted (Ok inputs) old new → AnswersOnHive q told → SeeksAnswer whole told old new
seeks_after wanted inputs q whole told old new by looks a = record {
  keeps = looks.keeps;
  files = looks.files;
  unsaid = looks.unsaid;
  answers = λ tells. answers q whole told (by (looks.found tells)) a;
  counts = counts q told old new a looks.counts;
  unwritten = unwritten q told a;
}
