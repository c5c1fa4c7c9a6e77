-- How many files `import` asked for.
use Rattle.std.proofs.Common.{◌≡◌, ◌+◌, inl, inr, ℕ, Option, Some, None, refl, sym, ap, subst, arith}
use Rattle.std.specs.Prelude.{Result, Ok, Err}
use Rattle.nt_edge.specs.Host.{HostState}
use Rattle.nt_edge.specs.declared.host.HostStop.{HostStop}
use Rattle.nt_edge.specs.declared.host.HostStop.TheVariants.{Read, Write, Memory}
use Rattle.command_words.specs.Words.{ImportAsked}
use Rattle.command_parts.specs.declared.command_parts.inputs.HiveFiles.{HiveFiles}
use Rattle.command_parts.specs.declared.command_parts.refusal.Refusal.{Refusal}
use Rattle.command_parts.specs.declared.command_parts.refusal.Obstacle.TheVariants.{Stopped}
use Rattle.command_parts.specs.declared.command_parts.status.Status.{Status}
use Rattle.command_parts.specs.declared.command_parts.status.Status.TheVariants as statuses
use Rattle.command_parts.specs.command_parts.Inputs.{hive_in, asks_hive, AsksHive}
use Rattle.command_parts.specs.command_parts.Leaves.{Looks, AsksBy, more, stop_in, stopped_as}
use Rattle.command_parts.proofs.AskLemmas.{asks_on, asks_stop, more_behind, some_behind}
use Rattle.command_parts.proofs.DecideLemmas.{not_read}
use Rattle.text_commands.specs.Asks.{AsksBehind, AsksText, AsksImport}
use Rattle.text_commands.specs.Imports.{IsLoadable}

-- ---- after the check of the hive

-- the text was got, or it is absent
pub text_asked : (files : HiveFiles) (status : Status) (old mid new : ℕ) → IsLoadable files → mid ≡ more 1 old
    → new ≡ mid
    → (status ≡ statuses.ReadFault → ⊥) → AsksBehind files 0 status old new
text_asked files status old mid new loads asked unasked unread =
    inr (inl (loads.0, loads.1, asks_on 1 (stop_in status) old mid new (λ e. unread (not_read status e)) asked unasked))

-- ---- after the search for the hive

none_more : (n : ℕ) → n ≡ n + 0
none_more n = omega arith

behind_by : (whole n k : ℕ) (stop : Option HostStop) (old mid new : ℕ) → whole ≡ n + k → mid ≡ more n old
    → AsksBy k stop mid new
    → AsksBy whole stop old new
behind_by whole n k None old mid new is before asks = more_behind whole n k old mid new is before asks
behind_by whole n k (Some Read) old mid new is before asks = some_behind 1 whole n k old mid new is before asks
behind_by whole n k (Some Write) old mid new is before asks = more_behind whole n k old mid new is before asks
behind_by whole n k (Some Memory) old mid new is before asks = some_behind 0 whole n k old mid new is before asks

behind_asked : (files : HiveFiles) (n : ℕ) (status : Status) (old mid new : ℕ) → mid ≡ more n old
    → AsksBehind files 0 status mid new
    → AsksBehind files n status old new
behind_asked files n status old mid new before (inl fault) =
    inl (fault.0, fault.1, behind_by n n 0 (stop_in status) old mid new (none_more n) before fault.2)
behind_asked files n status old mid new before (inr (inl loads)) =
    inr (inl (loads.0, loads.1, behind_by (n + 1) n 1 (stop_in status) old mid new refl before loads.2))
behind_asked files n status old mid new before (inr (inr stopped)) =
    inr (inr (stopped.0, behind_by n n 0 (stop_in status) old mid new (none_more n) before stopped.1))

-- hive and log were found
pub found_asked : (words : ImportAsked) (files : HiveFiles) (status : Status) (old mid new : HostState)
    → Looks (hive_in old.files words.hive words.log) (Ok files) old mid
    → AsksHive {A = HiveFiles} words.hive words.log (Ok files) old mid
    → AsksBehind files 0 status mid.gets new.gets → AsksImport words status old new
found_asked words files status old mid new looks asks behind = λ tells.
    let n : ℕ = asks_hive old.files words.hive words.log in
    subst (λ (w : Result HiveFiles Refusal). AsksText w n status old.gets new.gets) (sym (looks.found tells))
    (behind_asked files n status old.gets mid.gets new.gets (asks tells) behind)

stopped_search : (wanted : Result HiveFiles Refusal) (n : ℕ) (stop : HostStop) (old new : ℕ) → (stop ≡ Write → ⊥)
    → AsksBy n (stop_in (stopped_as stop)) old new → AsksText wanted n (stopped_as stop) old new
stopped_search (Err r) n stop old new unwritten asks = asks
stopped_search (Ok files) n Read old new unwritten asks = inr (inr (inr refl, asks))
stopped_search (Ok files) n Write old new unwritten asks = absurd (unwritten refl)
stopped_search (Ok files) n Memory old new unwritten asks = inr (inr (inl refl, asks))

-- the environment stopped the search
pub stopped_asked : (words : ImportAsked) (stop : HostStop) (old new : HostState)
    → Looks {A = HiveFiles} (hive_in old.files words.hive words.log) (Err (Stopped stop)) old new
    → AsksHive {A = HiveFiles} words.hive words.log (Err (Stopped stop)) old new
    → AsksImport words (stopped_as stop) old new
stopped_asked words stop old new looks asks = λ tells.
    let n : ℕ = asks_hive old.files words.hive words.log in
    stopped_search (hive_in old.files words.hive words.log) n stop old.gets new.gets
    (λ e. looks.unwritten (ap (λ (s : HostStop). Stopped s) e))
    (asks_stop n stop old.gets new.gets (asks tells))
