-- What a search for the answer leaves, step by step.
use Rattle.std.proofs.Common.{◌≡◌, inr, ℕ, None, subst}
use Rattle.std.specs.Prelude.{Result, Ok, Err}
use Rattle.nt_bytes.specs.declared.fault.HiveFault.{HiveFault}
use Rattle.nt_bytes.specs.declared.version.HiveVersion.{HiveVersion}
use Rattle.nt_edge.specs.Host.{Files, HostState}
use Rattle.hive_model.specs.Image.{Image}
use Rattle.hive_model.specs.Load.{state_of}
use Rattle.hive_model.specs.Tree.{Tree}
use Rattle.hive_store.specs.Checks.{ChecksAs}
use Rattle.command_parts.specs.declared.command_parts.refusal.Obstacle.{Obstacle}
use Rattle.command_parts.specs.declared.command_parts.refusal.Obstacle.TheVariants.{Refused, Stopped}
use Rattle.command_parts.specs.declared.command_parts.status.Status.{Status}
use Rattle.command_parts.specs.declared.command_parts.status.Status.TheVariants as statuses
use Rattle.command_parts.specs.command_parts.Leaves.{stop_in}
use Rattle.command_parts.specs.command_parts.Refusals.{Answer, refusal}
use Rattle.set_commands.specs.declared.diff_command.command.Finding.{Finding}
use Rattle.set_commands.specs.diff_command.Answer.{Allowed, IsOnImage, finding_answer, AllowsResult, FindsBy, SeeksBy}

-- ---- what is found, without a call of the host

-- each answer that the one allows the other does too
finds_more : (p q : Allowed) (r : Result Finding Obstacle) → ((a : Answer) → p a → q a) → FindsBy p r → FindsBy q r
finds_more p q (Ok f) more found = (more (finding_answer f) found.0, found.1, found.2)
finds_more p q (Err (Refused why)) more found = more (refusal why) found
finds_more p q (Err (Stopped stop)) more found = found

-- after the hive was loaded
pub loaded_finds : (image : Image) (told : HiveFault → Answer) (rest : Tree → Allowed) (root : Tree) (sequence : ℕ)
    (version : HiveVersion) (r : Result Finding Obstacle)
    → ChecksAs image (Ok (root, sequence, version)) → FindsBy (rest root) r → FindsBy (IsOnImage image told rest) r
loaded_finds image told rest root sequence version r loads =
    finds_more (rest root) (IsOnImage image told rest) r
    (λ a is. inr (record { state = state_of root sequence version; dirty = loads.0 }, loads.1, is))

-- ---- the same in a search

allows_more : (p q : Allowed) (r : Result Finding Obstacle) → ((a : Answer) → p a → q a) → AllowsResult p r → AllowsResult q r
allows_more p q (Ok f) more found = more (finding_answer f) found
allows_more p q (Err (Refused why)) more found = more (refusal why) found
allows_more p q (Err (Stopped stop)) more found = tt

-- each answer that the one allows the other does too
pub seeks_more : (p q : Files → Allowed) (r : Result Finding Obstacle) (old new : HostState)
    → ((f : Files) (a : Answer) → p f a → q f a) → SeeksBy p r old new → SeeksBy q r old new
seeks_more p q r old new more s = record {
  keeps = s.keeps;
  files = s.files;
  unsaid = s.unsaid;
  answers = λ tells. allows_more (p old.files) (q old.files) r (more old.files) (s.answers tells);
  counts = s.counts;
  unwritten = s.unwritten;
  ends = s.ends;
  used = s.used;
}

-- after the hive was loaded
pub loaded_seeks : (image : Image) (told : HiveFault → Answer) (rest : Files → Tree → Allowed) (root : Tree) (sequence : ℕ)
    (version : HiveVersion) (r : Result Finding Obstacle) (old new : HostState)
    → ChecksAs image (Ok (root, sequence, version)) → SeeksBy (λ held. rest held root) r old new
    → SeeksBy (λ held. IsOnImage image told (rest held)) r old new
loaded_seeks image told rest root sequence version r old new loads s =
    seeks_more (λ held. rest held root) (λ held. IsOnImage image told (rest held)) r old new
    (λ held a is. inr (record { state = state_of root sequence version; dirty = loads.0 }, loads.1, is)) s

-- ---- the second hive

-- ---- the end

-- what is no stop of the environment is no read fault
pub no_read : (status : Status) → stop_in status ≡ None → status ≡ statuses.ReadFault → ⊥
no_read status ends is = absurd (none_read (subst (λ (s : Status). stop_in s ≡ None) is ends))
  where
    none_read : stop_in statuses.ReadFault ≡ None → ⊥
    none_read e = absurd cc
