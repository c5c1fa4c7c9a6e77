-- What steps of the starter amount to, in sequence.
use Rattle.std.proofs.Common.{◌≡◌, ℕ, suc, ◌≤◌, Bool, false, ◌+◌, length, Option, Some, None, sym, ap, subst, ◌∙◌, arith}
use Rattle.std.specs.Prelude.{Result, Ok, Err, IfOk, option_map}
use Rattle.std.specs.Option.{unwrap_or}
use Rattle.hive_model.specs.Tree.{Tree}
use Rattle.nt_edge.specs.Disk.{DiskState}
use Rattle.hive_store.specs.Session.{Session}
use Rattle.start_model.specs.Entries.{services_of}
use Rattle.start_model.specs.Machine.{Start, MachineState}
use Rattle.start_model.specs.Sets.{set_of}
use Rattle.start_model.specs.Act.{Act, RunState}
use Rattle.start_model.specs.Starter.{no_set, live_set, stepping, go_steps, enough_steps}
use Rattle.boot_run.specs.declared.runner.Runner.{Runner}
use Rattle.boot_run.specs.Agrees.{IsLive, IsRunningBy, Counts, TurnLeft, OnLeft}
use Rattle.boot_run.specs.Starts.{is_under_way}
use Rattle.boot_run.proofs.StepLemmas.{go_none, go_zero, go_next}

-- ---- enough

pub enough_most : (o : Option Start) (m : RunState) (tree : Tree) (q : ℕ × Bool) (count : ℕ)
    → option_map (λ (s : Start). (s.number, s.on_good)) o ≡ Some q → m.live ≡ tree
    → length (services_of (unwrap_or (set_of tree q.0) no_set)) ≤ count → IsRunningBy o tree
    → enough_steps o m ≤ count + 4294967295 + 3
enough_most None m tree q count is live many h = absurd h
enough_most (Some s) m tree q count is live many h =
    let here : ℕ × Bool = (s.number, s.on_good) in
    let same : here ≡ q = cc in
    let number : s.number ≡ q.0 = ap (λ (p : ℕ × Bool). p.0) same in
    let at : live_set m s.number ≡ unwrap_or (set_of tree q.0) no_set =
    ap (λ (t : Tree). unwrap_or (set_of t s.number) no_set) live
    ∙ ap (λ (n : ℕ). unwrap_or (set_of tree n) no_set) number in
    let P : Tree → Type 0 = λ t. length (services_of t) ≤ count in
    omega (arith, h.few, subst P (sym at) many)

pub if_ok_map : {T E : Type 0} → (P Q : T → Type 0) (r : Result T E) → ((x : T) → P x → Q x) → IfOk r P → IfOk r Q
if_ok_map P Q (Ok x) f h = f x h
if_ok_map P Q (Err e) f h = h

-- ---- steps

-- no step is left
pub none_left : {rest : Act} {left : ℕ} (r : Runner) (d : DiskState) (o : Option Session) → left ≡ 0
    → OnLeft (go_steps left) r d o rest → TurnLeft r d o rest
none_left r d None is h = h
none_left r d (Some hive) is h =
    record { after = h.0; is = h.1.0 ∙ ap (λ (n : ℕ). go_steps n h.0) is ∙ go_zero h.0; agrees = h.1.1 }

-- no start is under way
pub none_goes : {rest : Act} (left : ℕ) (r : Runner) (d : DiskState) (o : Option Session)
    → is_under_way r.machine.start ≡ false → OnLeft (go_steps left) r d o rest → TurnLeft r d o rest
none_goes left r d None is h = h
none_goes left r d (Some hive) is h =
    let over : is_under_way h.0.machine.start ≡ false =
    ap (λ (k : MachineState). is_under_way k.start) h.1.1.counts.machine ∙ is in
    record { after = h.0; is = h.1.0 ∙ go_none left h.0 over; agrees = h.1.1 }

-- the state from which the next step goes on
pub record AtStep (more : ℕ) (r : Runner) (d : DiskState) (hive : Session) (rest : Act) : Type 0 where
  pub state : RunState
  pub counts : Counts state r
  pub live : IsLive state hive d
  pub is : stepping state.machine.start state (go_steps more) ≡ rest

pub at_step : {rest : Act} {left : ℕ} (more : ℕ) (r : Runner) (d : DiskState) (o : Option Session) (hive : Session)
    → o ≡ Some hive → left ≡ suc more → OnLeft (go_steps left) r d o rest → AtStep more r d hive rest
at_step more r d None hive some is h = absurd cc
at_step more r d (Some there) hive some is h =
    let same : there ≡ hive = cc in
    let P : Session → Type 0 = λ s. IsLive h.0 s d in
    record {
      state = h.0;
      counts = h.1.1.counts;
      live = subst P same h.1.1.by;
      is = sym (h.1.0 ∙ ap (λ (n : ℕ). go_steps n h.0) is ∙ go_next more h.0);
    }
