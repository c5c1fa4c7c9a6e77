-- How many files `diff` asked for.
use Rattle.std.proofs.Common.{◌≡◌, ◌⊎◌, ◌+◌, inl, inr, ℕ, sym, ap, subst, ◌∙◌, arith}
use Rattle.std.specs.Prelude.{Result, Ok, Err}
use Rattle.nt_bytes.specs.declared.version.HiveVersion.{HiveVersion}
use Rattle.nt_edge.specs.Host.{Files, HostState}
use Rattle.nt_edge.specs.declared.host.HostStop.TheVariants.{Read, Write, Memory}
use Rattle.hive_model.specs.Load.{state_of}
use Rattle.hive_model.specs.Tree.{Tree}
use Rattle.hive_store.specs.Checks.{ChecksAs}
use Rattle.command_words.specs.Words.{DiffAsked}
use Rattle.command_parts.specs.declared.command_parts.inputs.HiveFiles.{HiveFiles}
use Rattle.command_parts.specs.declared.command_parts.refusal.Refusal.{Refusal}
use Rattle.command_parts.specs.declared.command_parts.refusal.Obstacle.{Obstacle}
use Rattle.command_parts.specs.declared.command_parts.refusal.Obstacle.TheVariants.{Refused, Stopped}
use Rattle.command_parts.specs.declared.command_parts.status.Status.{Status}
use Rattle.command_parts.specs.declared.command_parts.status.Status.TheVariants as statuses
use Rattle.command_parts.specs.command_parts.Inputs.{hive_in, asks_hive, AsksHive}
use Rattle.command_parts.specs.command_parts.Leaves.{Looks, AsksBy, AsksUntil, more, stop_in}
use Rattle.command_parts.specs.command_parts.Placed.{image_in}
use Rattle.command_parts.proofs.AskLemmas.{asks_on, more_behind, some_behind}
use Rattle.command_parts.proofs.DecideLemmas.{not_read}
use Rattle.set_commands.specs.declared.diff_command.command.Finding.{Finding}
use Rattle.set_commands.specs.diff_command.Asks.{AsksOn, AsksIn, asks_with, AsksDiff, IsHalted, AsksWith, AsksAfter, AsksSearch}

-- ---- another count of the same files

on_more : (files : HiveFiles) (before more : ℕ) (asks bsks : ℕ → Type 0) (stopped halted : Type 0)
    → ((n : ℕ) → asks n → bsks n) → (stopped → halted)
    → AsksOn files before more asks stopped → AsksOn files before more bsks halted
on_more files before more asks bsks stopped halted f g (inl fault) = inl (fault.0, fault.1, f before fault.2)
on_more files before more asks bsks stopped halted f g (inr (inl loads)) = inr (inl (loads.0, loads.1, f (before + more) loads.2))
on_more files before more asks bsks stopped halted f g (inr (inr halt)) = inr (inr (g halt.0, f before halt.1))

in_more : (wanted : Result HiveFiles Refusal) (before more : ℕ) (asks bsks : ℕ → Type 0) (stopped halted : Type 0)
    → ((n : ℕ) → asks n → bsks n) → (stopped → halted)
    → AsksIn wanted before more asks stopped → AsksIn wanted before more bsks halted
in_more (Err why) before more asks bsks stopped halted f g a = f before a
in_more (Ok files) before more asks bsks stopped halted f g a = on_more files before more asks bsks stopped halted f g a

-- ---- the second hive

-- ---- the first hive

zero_more : (k : ℕ) → k ≡ 0 + k
zero_more k = omega arith

-- it loads
pub loaded_asked : (files : HiveFiles) (asked : DiffAsked) (root : Tree) (sequence : ℕ) (version : HiveVersion)
    (r : Result Finding Obstacle) (old new : HostState) → ChecksAs (image_in files) (Ok (root, sequence, version))
    → AsksWith asked r old new → AsksAfter files asked r old new
loaded_asked files asked root sequence version r old new loads a = λ tells.
    inr (inl (
      record { state = state_of root sequence version; dirty = loads.0 },
      loads.1,
      subst (λ (n : ℕ). AsksUntil n r old.gets new.gets) (zero_more (asks_with old.files asked.with asked.with_log)) (a tells),
    ))

-- ---- both

behind_until : (whole n k : ℕ) (r : Result Finding Obstacle) (g m h : ℕ) → whole ≡ n + k → m ≡ more n g → AsksUntil k r m h
    → AsksUntil whole r g h
behind_until whole n k (Ok f) g m h is before a = more_behind whole n k g m h is before a
behind_until whole n k (Err (Refused why)) g m h is before a = more_behind whole n k g m h is before a
behind_until whole n k (Err (Stopped Read)) g m h is before a = some_behind 1 whole n k g m h is before a
behind_until whole n k (Err (Stopped Write)) g m h is before a = more_behind whole n k g m h is before a
behind_until whole n k (Err (Stopped Memory)) g m h is before a = some_behind 0 whole n k g m h is before a

none_more : (n : ℕ) → n ≡ n + 0
none_more n = omega arith

behind_on : (files : HiveFiles) (n k : ℕ) (r : Result Finding Obstacle) (g m h : ℕ) → m ≡ more n g
    → AsksOn files 0 k (λ a. AsksUntil a r m h) (IsHalted r) → AsksOn files n k (λ a. AsksUntil a r g h) (IsHalted r)
behind_on files n k r g m h before (inl fault) =
    inl (fault.0, fault.1, behind_until n n 0 r g m h (none_more n) before fault.2)
behind_on files n k r g m h before (inr (inl loads)) =
    inr (inl (loads.0, loads.1, behind_until (n + k) n (0 + k) r g m h (ap (λ (i : ℕ). n + i) (zero_more k)) before loads.2))
behind_on files n k r g m h before (inr (inr halt)) =
    inr (inr (halt.0, behind_until n n 0 r g m h (none_more n) before halt.1))

-- the first hive was got
pub got_asked : (asked : DiffAsked) (files : HiveFiles) (r : Result Finding Obstacle) (old mid new : HostState)
    → Looks (hive_in old.files asked.hive asked.log) (Ok files) old mid
    → AsksHive {A = HiveFiles} asked.hive asked.log (Ok files) old mid → AsksAfter files asked r mid new → AsksSearch asked r old new
got_asked asked files r old mid new looks asks after = λ tells.
    let n : ℕ = asks_hive old.files asked.hive asked.log in
    let later : AsksOn files 0 (asks_with old.files asked.with asked.with_log) (λ a. AsksUntil a r mid.gets new.gets) (IsHalted r) =
    subst (λ (held : Files). AsksOn files 0 (asks_with held asked.with asked.with_log) (λ a. AsksUntil a r mid.gets new.gets) (IsHalted r))
    (looks.files tells) (after (looks.keeps.tells ∙ tells)) in
    subst (λ (w : Result HiveFiles Refusal). AsksIn w n (asks_with old.files asked.with asked.with_log)
    (λ a. AsksUntil a r old.gets new.gets) (IsHalted r)) (sym (looks.found tells))
    (behind_on files n (asks_with old.files asked.with asked.with_log) r old.gets mid.gets new.gets (asks tells) later)

-- ---- the end

-- a text was printed, and no file asked for
pub told_asked : (asked : DiffAsked) (r : Result Finding Obstacle) (status : Status) (old mid new : HostState)
    → AsksSearch asked r old mid → ((n g h : ℕ) → AsksUntil n r g h → h ≡ more n g) → (IsHalted r → ⊥)
    → new.gets ≡ mid.gets → (status ≡ statuses.ReadFault → ⊥) → AsksDiff asked status old new
told_asked asked r status old mid new search whole halts same unread = λ tells.
    in_more (hive_in old.files asked.hive asked.log) (asks_hive old.files asked.hive asked.log)
    (asks_with old.files asked.with asked.with_log) (λ n. AsksUntil n r old.gets mid.gets)
    (λ n. AsksBy n (stop_in status) old.gets new.gets) (IsHalted r) ((status ≡ statuses.Memory) ⊎ (status ≡ statuses.ReadFault))
    (λ n a. asks_on n (stop_in status) old.gets mid.gets new.gets (λ e. unread (not_read status e)) (whole n old.gets mid.gets a) same)
    (λ halted. absurd (halts halted)) (search tells)
