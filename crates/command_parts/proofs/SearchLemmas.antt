-- A search and then another, and what calls leave that make them.
use Rattle.std.proofs.Common.{◌≡◌, ◌≤◌, ℕ, ◌+◌, List, Some, refl, sym, ap, subst, ◌∙◌, arith}
use Rattle.std.specs.Prelude.{Option, Result, Ok, Err, IfErr}
use Rattle.std.specs.Result.{IsErrAnd}
use Rattle.nt_bytes.specs.Reading.{◌>>=◌ as ok_then}
use Rattle.nt_edge.specs.Host.{Files, HostState, KeepsHost, KeepsCounts, Counts, Asks}
use Rattle.nt_edge.specs.declared.host.HostStop.{HostStop}
use Rattle.nt_edge.specs.declared.host.HostStop.TheVariants.{Read, Write, Memory}
use Rattle.command_parts.specs.declared.command_parts.inputs.HiveFiles.{HiveFiles}
use Rattle.command_parts.specs.declared.command_parts.refusal.Refusal.{Refusal}
use Rattle.command_parts.specs.declared.command_parts.refusal.Obstacle.{Obstacle}
use Rattle.command_parts.specs.declared.command_parts.refusal.Obstacle.TheVariants.{Refused, Stopped}
use Rattle.command_parts.specs.command_parts.Inputs.{file_in, bytes_in, hive_in, behind_step, AsksHive}
use Rattle.command_parts.specs.command_parts.Leaves.{AsksUntil, AsksSome, AsksStopped, CountsObstacle, Gives, Looks, Reads, more, named}
use Rattle.command_parts.proofs.AskLemmas.{more_behind, some_behind}
use Rattle.command_parts.proofs.LeaveLemmas.{keeps_then, files_then, counts_by}
use Rattle.command_parts.specs.input_search.Search.{Search, Seeks, AsksFor, searched, reads, finds, file, file_or_empty, hive}

-- ---- a search that found something, and then another

asks_then : {B : Type 0} (n p k : ℕ) (r : Result B Obstacle) (g m h : ℕ) → n ≡ p + k → m ≡ more p g → AsksUntil k r m h
    → AsksUntil n r g h
asks_then n p k (Ok b) g m h whole before asks = more_behind n p k g m h whole before asks
asks_then n p k (Err (Refused r)) g m h whole before asks = more_behind n p k g m h whole before asks
asks_then n p k (Err (Stopped Read)) g m h whole before asks = some_behind 1 n p k g m h whole before asks
asks_then n p k (Err (Stopped Write)) g m h whole before asks = more_behind n p k g m h whole before asks
asks_then n p k (Err (Stopped Memory)) g m h whole before asks = some_behind 0 n p k g m h whole before asks

obstacle_then : {B : Type 0} (r : Result B Obstacle) (old mid new : HostState) → KeepsHost old mid → KeepsCounts old mid
    → CountsObstacle r mid new → CountsObstacle r old new
obstacle_then (Ok b) old mid new keeps k c = record { reads = c.reads ∙ k.reads; writes = c.writes ∙ k.writes }
obstacle_then (Err (Refused r)) old mid new keeps k c = record { reads = c.reads ∙ k.reads; writes = c.writes ∙ k.writes }
obstacle_then (Err (Stopped stop)) old mid new keeps k c = counts_by (Some stop) old mid new keeps k c

pub then : {A B : Type 0} {one : Search A} (next : A → Search B) {a : A} {r : Result B Obstacle} {old mid new : HostState}
    → Seeks one (Ok a) old mid → Seeks (next a) r mid new → Seeks (searched one next) r old new
unfolding searched
then {A} {B} {one} next {a} {r} {old} {mid} {new} s t = record {
  looks = record {
    keeps = keeps_then old mid new s.looks.keeps t.looks.keeps;
    files = files_then old mid new s.looks.keeps s.looks.files t.looks.files;
    unsaid = λ tells. t.looks.unsaid (s.looks.keeps.tells ∙ tells) ∙ s.looks.unsaid tells;
    found = λ tells.
        let here : Gives ((next a).found old.files) r = subst (λ (f : Files). Gives ((next a).found f) r) (s.looks.files tells)
        (t.looks.found (s.looks.keeps.tells ∙ tells)) in
        subst (λ (x : Result A Refusal). Gives (ok_then x (λ (y : A). (next y).found old.files)) r)
        (sym (s.looks.found tells)) here;
    counts = obstacle_then r old mid new s.looks.keeps s.looks.counts t.looks.counts;
    unwritten = t.looks.unwritten;
  };
  asks = λ tells.
      let found = s.looks.found tells in
      let here = subst (λ (f : Files). AsksUntil ((next a).asked f) r mid.gets new.gets) (s.looks.files tells)
      (t.asks (s.looks.keeps.tells ∙ tells)) in
      asks_then _ (one.asked old.files) ((next a).asked old.files) r old.gets mid.gets new.gets
      (ap (λ (x : Result A Refusal). one.asked old.files + behind_step x (λ (y : A). (next y).asked old.files)) found)
      (s.asks tells) here;
}

-- ---- a search that ended in an obstacle

wider : (least n m g h : ℕ) → n ≤ m → AsksSome least n g h → AsksSome least m g h
wider least n m g h le some = record {
  asked = some.asked;
  not_less = some.not_less;
  not_more = omega (arith, some.not_more, le);
  gets = some.gets;
}

module _ {A B : Type 0} (one : Search A) (next : A → Search B) (old new : HostState) where
  gives_still : (e : Obstacle) → Gives (one.found old.files) (Err e) → Gives {A = B} ((searched one next).found old.files) (Err e)
  unfolding searched
  gives_still (Refused r) gives = ap (λ (x : Result A Refusal). ok_then x (λ (a : A). (next a).found old.files)) gives
  gives_still (Stopped stop) gives = tt

  asks_still : (e : Obstacle) → Gives (one.found old.files) (Err e) → (e ≡ Stopped Write → ⊥)
      → AsksUntil {A = A} (one.asked old.files) (Err e) old.gets new.gets
      → AsksUntil {A = B} ((searched one next).asked old.files) (Err e) old.gets new.gets
  unfolding searched
  asks_still (Refused r) gives unwritten asks =
      let all : (searched one next).asked old.files ≡ one.asked old.files + 0 =
      ap (λ (x : Result A Refusal). one.asked old.files + behind_step x (λ (a : A). (next a).asked old.files)) gives in
      let same : one.asked old.files ≡ (searched one next).asked old.files = omega (arith, all) in
      asks ∙ ap (λ (m : ℕ). more m old.gets) same
  asks_still (Stopped Read) gives unwritten asks = wider 1 _ _ old.gets new.gets (omega arith) asks
  asks_still (Stopped Write) gives unwritten asks = absurd (unwritten refl)
  asks_still (Stopped Memory) gives unwritten asks = wider 0 _ _ old.gets new.gets (omega arith) asks

  counts_still : (e : Obstacle) → CountsObstacle {A = A} (Err e) old new → CountsObstacle {A = B} (Err e) old new
  counts_still (Refused r) c = c
  counts_still (Stopped stop) c = c

  stops_so : (e : Obstacle) → Seeks one (Err e) old new → Seeks (searched one next) (Err e) old new
  stops_so e s = record {
    looks = record {
      keeps = s.looks.keeps;
      files = s.looks.files;
      unsaid = s.looks.unsaid;
      found = λ tells. gives_still e (s.looks.found tells);
      counts = counts_still e s.looks.counts;
      unwritten = s.looks.unwritten;
    };
    asks = λ tells. asks_still e (s.looks.found tells) s.looks.unwritten (s.asks tells);
  }

  by_result : (e : Obstacle) (q : Result B Obstacle) → Seeks one (Err e) old new → IsErrAnd q (λ x. x ≡ e)
      → Seeks (searched one next) q old new
  by_result e (Ok b) s is = absurd is
  by_result e (Err x) s is = subst (λ (y : Obstacle). Seeks (searched one next) (Err y) old new) (sym is) (stops_so e s)

pub stops : {A B : Type 0} {one : Search A} (next : A → Search B) {e : Obstacle} {q : Result B Obstacle} {old new : HostState}
    → Seeks one (Err e) old new → IsErrAnd q (λ x. x ≡ e) → Seeks (searched one next) q old new
stops {A} {B} {one} next {e} {q} {old} {new} s is = by_result one next old new e q s is

-- ---- steps

-- nothing was asked of the host
pub reads_so : {A : Type 0} {s : Result A Refusal} {r : Result A Obstacle} {host : HostState} → Reads s r
    → Seeks (reads s) r host host
reads_so {A} {s} {r} {host} is = record {
  looks = record {
    keeps = record { tells = refl; quiet = λ q. q; errors = refl; warned = refl };
    files = λ tells. refl;
    unsaid = λ tells. refl;
    found = λ tells. found_so r is;
    counts = counts_so r is;
    unwritten = unwritten_so r is;
  };
  asks = λ tells. asks_so r is;
}
  where
    found_so : (r : Result A Obstacle) → Reads s r → Gives s r
    found_so (Ok a) is = is
    found_so (Err (Refused x)) is = is
    found_so (Err (Stopped stop)) is = tt

    counts_so : (r : Result A Obstacle) → Reads s r → CountsObstacle r host host
    counts_so (Ok a) is = record { reads = refl; writes = refl }
    counts_so (Err (Refused x)) is = record { reads = refl; writes = refl }
    counts_so (Err (Stopped stop)) is = subst (λ (t : HostStop). Counts host host t) (sym is) (record { reads = refl; writes = refl })

    unwritten_so : (r : Result A Obstacle) → Reads s r → IfErr r (λ obstacle. obstacle ≡ Stopped Write → ⊥)
    unwritten_so (Ok a) is = tt
    unwritten_so (Err (Refused x)) is = λ e. absurd cc
    unwritten_so (Err (Stopped stop)) is = λ e. absurd cc

    asks_so : (r : Result A Obstacle) → Reads s r → AsksUntil 0 r host.gets host.gets
    asks_so (Ok a) is = refl
    asks_so (Err (Refused x)) is = refl
    asks_so (Err (Stopped stop)) is = subst (λ (t : HostStop). AsksStopped t 0 host.gets host.gets) (sym is)
        (record { asked = 0; not_less = omega arith; not_more = omega arith; gets = refl })

pub finds_so : {A : Type 0} (a : A) {host : HostState} → Seeks (finds a) (Ok a) host host
finds_so a = reads_so refl

-- a file was asked for
pub file_so : (name : List ℕ) {r : Result (List ℕ) Obstacle} {old new : HostState}
    → Looks (file_in name (old.files name)) r old new → Asks old new → Seeks (file name) r old new
file_so name {r} {old} {new} looks asked = record { looks = looks; asks = λ tells. asks_so r looks.unwritten }
  where
    asks_so : (r : Result (List ℕ) Obstacle) → IfErr r (λ obstacle. obstacle ≡ Stopped Write → ⊥)
        → AsksUntil 1 r old.gets new.gets
    asks_so (Ok a) unwritten = asked
    asks_so (Err (Refused x)) unwritten = asked
    asks_so (Err (Stopped Read)) unwritten = record { asked = 1; not_less = omega arith; not_more = omega arith; gets = asked }
    asks_so (Err (Stopped Write)) unwritten = absurd (unwritten refl)
    asks_so (Err (Stopped Memory)) unwritten = record { asked = 1; not_less = omega arith; not_more = omega arith; gets = asked }

-- a file that the command line may leave out was asked for
pub empty_so : (name : Option (List ℕ)) {r : Result (List ℕ) Obstacle} {old new : HostState}
    → Looks (bytes_in old.files name) r old new → AsksUntil (named name) r old.gets new.gets → Seeks (file_or_empty name) r old new
empty_so name looks until = record { looks = looks; asks = λ tells. until }

-- a hive and its log were asked for
pub hive_so : (name : List ℕ) (log : Option (List ℕ)) {r : Result HiveFiles Obstacle} {old new : HostState}
    → Looks (hive_in old.files name log) r old new → AsksHive name log r old new → Seeks (hive name log) r old new
hive_so name log looks asks = record { looks = looks; asks = asks }

-- which files a call asked for that made a search
pub asks_of : {A : Type 0} (search : Search A) {r : Result A Obstacle} {old new : HostState} → Seeks search r old new
    → AsksFor search r old new
asks_of search s = s.asks
