-- How many files were asked for.
use Rattle.std.proofs.Common.{◌≡◌, ◌≤◌, ℕ, zero, suc, ◌+◌, Some, None, refl, sym, ap, subst, ◌∙◌, arith}
use Rattle.std.specs.Prelude.{List, Option, Result, Ok, Err, min}
use Rattle.std.specs.Result.{IsErrAnd}
use Rattle.nt_edge.specs.Host.{Files}
use Rattle.nt_edge.specs.declared.host.HostStop.{HostStop}
use Rattle.nt_edge.specs.declared.host.HostStop.TheVariants.{Read, Write, Memory}
use Rattle.command_parts.specs.declared.command_parts.refusal.Refusal.{Refusal}
use Rattle.command_parts.specs.declared.command_parts.refusal.Obstacle.{Obstacle}
use Rattle.command_parts.specs.declared.command_parts.refusal.Obstacle.TheVariants.{Refused, Stopped}
use Rattle.command_parts.specs.command_parts.Inputs.{file_in, behind_step, asks_hive}
use Rattle.command_parts.specs.command_parts.Leaves.{more, named, AsksSome, AsksStopped, AsksUntil, AsksBy, stop_in, stopped_as}

pub more_more : (a b n : ℕ) → more a (more b n) ≡ more (a + b) n
more_more zero b n = (let same : b ≡ 0 + b = omega arith in ap (λ (k : ℕ). more k n) same)
more_more (suc a) b n =
    let same : suc (a + b) ≡ suc a + b = omega arith in
    ap (λ (k : ℕ). min (k + 1) 18446744073709551615) (more_more a b n) ∙ ap (λ (k : ℕ). more k n) same

-- it asked for the last of all n files
pub last_asks : {B : Type 0} (n : ℕ) (e : Obstacle) (q : Result B Obstacle) (g h : ℕ)
    → (e ≡ Stopped Write → ⊥) → IsErrAnd q (λ x. x ≡ e) → 1 ≤ n → h ≡ more n g → AsksUntil n q g h
last_asks n e (Ok x) g h unwritten is some asked = absurd is
last_asks {B} n e (Err x) g h unwritten is some asked =
    subst (λ (y : Obstacle). AsksUntil {A = B} n (Err y) g h) (sym is) (by_kind e unwritten)
  where
    by_kind : (y : Obstacle) → (y ≡ Stopped Write → ⊥) → AsksUntil {A = B} n (Err y) g h
    by_kind (Refused r) unwritten = asked
    by_kind (Stopped Read) unwritten = record { asked = n; not_less = some; not_more = omega arith; gets = asked }
    by_kind (Stopped Write) unwritten = absurd (unwritten refl)
    by_kind (Stopped Memory) unwritten = record {
      asked = n;
      not_less = omega arith;
      not_more = omega arith;
      gets = asked;
    }

-- that many files after p others
pub more_behind : (n p k : ℕ) (g m h : ℕ) → n ≡ p + k → m ≡ more p g → h ≡ more k m → h ≡ more n g
more_behind n p k g m h whole before asked =
    let all : k + p ≡ n = omega (arith, whole) in
    asked ∙ ap (λ (i : ℕ). more k i) before ∙ more_more k p g ∙ ap (λ (i : ℕ). more i g) all

pub some_behind : (least n p k : ℕ) (g m h : ℕ) → n ≡ p + k → m ≡ more p g → AsksSome least k m h → AsksSome least n g h
some_behind least n p k g m h whole before some =
    record {
      asked = p + some.asked;
      not_less = omega (arith, some.not_less);
      not_more = omega (arith, whole, some.not_more);
      gets = more_behind (p + some.asked) p some.asked g m h refl before some.gets;
    }

-- ---- the files that are asked for, step by step

pub log_asked : (files : Files) (hive : List ℕ) (log : Option (List ℕ)) (primary : List ℕ)
    → file_in hive (files hive) ≡ Ok primary → asks_hive files hive log ≡ named log + 1
log_asked files hive log primary found =
    let all : asks_hive files hive log ≡ 1 + named log =
    ap (λ (r : Result (List ℕ) Refusal). 1 + behind_step r (λ (p : List ℕ). named log)) found in
    omega (arith, all)

-- ---- what the call came to

pub asks_on : (n : ℕ) (stop : Option HostStop) (old mid new : ℕ) → (stop ≡ Some Read → ⊥) → mid ≡ more n old → new ≡ mid
    → AsksBy n stop old new
asks_on n None old mid new unread asked same = same ∙ asked
asks_on n (Some Read) old mid new unread asked same = absurd (unread refl)
asks_on n (Some Write) old mid new unread asked same = same ∙ asked
asks_on n (Some Memory) old mid new unread asked same = record {
  asked = n;
  not_less = omega arith;
  not_more = omega arith;
  gets = same ∙ asked;
}

pub asks_stop : (n : ℕ) (stop : HostStop) (old new : ℕ) → AsksStopped stop n old new
    → AsksBy n (stop_in (stopped_as stop)) old new
asks_stop n Read old new a = a
asks_stop n Write old new a = a
asks_stop n Memory old new a = a
