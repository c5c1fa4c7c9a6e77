-- What a change of one key makes, from what its children were and are; and what a call that stops says of an edit.
use Rattle.std.proofs.Common.{◌≡◌, ℕ, suc, ◌+◌, ◌-◌, ◌≤◌, take, get_or, ◌++◌, [], arith, inl, inr, ◌∙◌, length, Bool, true, false, List, ◌∷◌, Option, Some, None, Result, Ok, Err, refl, sym, ap, subst}
use Rattle.std.specs.Prelude.{find, nat_lt, OnOk, IfErr}
use Rattle.std.specs.Option.{is_some, IfSome}
use Rattle.std.proofs.lemmas.Bool.{cases_lt, lt-ltb, le-ltb}
use Rattle.hive_model.specs.Tree.{Head, Tree, key, trees, is_named}
use Rattle.hive_model.specs.Edit.{Refusal, no_key, is_bad_name, at_first, without_first, placed, new_key}
use Rattle.hive_model.specs.Edit.{Step, after_steps, edited}
use Rattle.nt_bytes.specs.declared.version.HiveVersion.{HiveVersion}
use Rattle.reg_tree.specs.declared.stop.EditStop.{EditStop}
use Rattle.reg_tree.specs.Makes.{IsRefused, refusal_of}
use Rattle.reg_tree.proofs.Trees.{listed_trees}
use Rattle.tree_draft.specs.declared.stop.DraftStop.{DraftStop}
use Rattle.tree_draft.specs.declared.stop.DraftStop.TheVariants.{Refused, Disorder}
use Rattle.tree_draft.specs.declared.change.Change.TheVariants.{PutKey, DropKey}
use Rattle.tree_draft.specs.Change.{changed_here, changed_among, changed_at, then_be}
use Rattle.tree_draft.specs.Stops.{Drafts, IsStopped, RefusesNothing}

-- a stop that refuses nothing says nothing
pub says_nothing : (A : Type 0) (edit : Result A Refusal) (stop : DraftStop) → RefusesNothing stop → IsStopped edit stop
says_nothing A edit (Refused stop) none = rw none tt
says_nothing A edit Disorder none = tt

-- what stops an edit stops what is made of it
stopped_too : {A B : Type 0} (f : A → B) (stop : DraftStop) (edit : Result A Refusal) → IsStopped edit stop
    → IsStopped (then_be f edit) stop
stopped_too f (Refused stop) edit s = go (refusal_of stop) s
  where
    go : (o : Option Refusal) → IfSome o (λ why. edit ≡ Err why) → IfSome o (λ why. then_be f edit ≡ Err why)
    go None h = tt
    go (Some why) h = ap (then_be f) h
stopped_too f Disorder edit s = tt

pub drafted : (A : Type 0) (new : A) (r : Result (Unit {0}) DraftStop) (edit : Result A Refusal)
    → OnOk r (edit ≡ Ok new) → IfErr r RefusesNothing → Drafts new r edit
drafted A new (Ok _) edit made stopped = made
drafted A new (Err stop) edit made stopped = says_nothing A edit stop stopped

pub gone_here : (h : Head) (ts us : List Tree) (name : List ℕ) (t : Tree) → key h (trees ts) ≡ t
    → is_some (find (is_named name) ts) ≡ true → us ≡ without_first (is_named name) ts
    → changed_here (DropKey name) t ≡ Ok (key h (trees us))
gone_here h ts us name t whole there gone =
    subst (λ (u : Tree). changed_here (DropKey name) u ≡ Ok (key h (trees us))) whole
    (rw (listed_trees ts, there, gone) refl)

pub absent_here : (h : Head) (ts : List Tree) (name : List ℕ) (t : Tree) → key h (trees ts) ≡ t
    → is_some (find (is_named name) ts) ≡ false → changed_here (DropKey name) t ≡ Err no_key
absent_here h ts name t whole absent =
    subst (λ (u : Tree). changed_here (DropKey name) u ≡ Err no_key) whole (rw (listed_trees ts, absent) refl)

pub there_here : (h : Head) (ts us : List Tree) (name : List ℕ) (deep : Bool) (t : Tree) → key h (trees ts) ≡ t
    → is_bad_name name ≡ false → length name ≤ 255 → deep ≡ false
    → is_some (find (is_named name) ts) ≡ true → us ≡ ts
    → changed_here (PutKey name deep) t ≡ Ok (key h (trees us))
there_here h ts us name deep t whole good short low there same =
    subst (λ (u : Tree). changed_here (PutKey name deep) u ≡ Ok (key h (trees us))) whole
    (rw (good, le-ltb 255 (length name) short, low, listed_trees ts, there, same) refl)

pub new_here : (h : Head) (ts us : List Tree) (name : List ℕ) (deep : Bool) (k t : Tree) → key h (trees ts) ≡ t
    → is_bad_name name ≡ false → length name ≤ 255 → deep ≡ false
    → is_some (find (is_named name) ts) ≡ false → k ≡ new_key name (key h (trees ts)) → us ≡ placed k ts
    → changed_here (PutKey name deep) t ≡ Ok (key h (trees us))
new_here h ts us name deep k t whole good short low absent new put =
    subst (λ (u : Tree). changed_here (PutKey name deep) u ≡ Ok (key h (trees us))) whole
    (rw (good, le-ltb 255 (length name) short, low, listed_trees ts, absent, put, new) refl)

-- ---- along a path

-- a key changed along a path is its child changed
pub changed_below : (h : Head) (ts us : List Tree) (t : Tree) (r : Result (Unit {0}) DraftStop) (name : List ℕ)
    (more path : List (List ℕ)) (change : Tree → Result Tree Refusal)
    → key h (trees ts) ≡ t → path ≡ name ∷ more → Drafts us r (changed_among name (changed_at more change) ts)
    → Drafts (key h (trees us)) r (changed_at path change t)
changed_below h ts us t r name more path change whole first below =
    subst (λ (u : Tree). Drafts (key h (trees us)) r (changed_at path change u)) whole
    (subst (λ (p : List (List ℕ)). Drafts (key h (trees us)) r (changed_at p change (key h (trees ts)))) (sym first)
    (rw (listed_trees ts) (go r (changed_among name (changed_at more change) ts) below)))
  where
    go : (r : Result (Unit {0}) DraftStop) (edit : Result (List Tree) Refusal) → Drafts us r edit
        → Drafts (key h (trees us)) r (then_be (λ ws. key h (trees ws)) edit)
    go (Ok _) edit e = ap (then_be (λ ws. key h (trees ws))) e
    go (Err stop) edit e = stopped_too (λ ws. key h (trees ws)) stop edit e

pub none_among : (name : List ℕ) (change : Tree → Result Tree Refusal) (ts : List Tree)
    → find (is_named name) ts ≡ None → changed_among name change ts ≡ Err no_key
none_among name change ts none = rw none refl

pub one_among : (name : List ℕ) (change : Tree → Result Tree Refusal) (ts us : List Tree) (k u : Tree)
    → find (is_named name) ts ≡ Some k → change k ≡ Ok u → at_first (is_named name) (λ _. u) ts ≡ us
    → changed_among name change ts ≡ Ok us
one_among name change ts us k u found made put = rw (found, made, put) refl

-- what stops the change of the child stops the change
pub stopped_among : (name : List ℕ) (change : Tree → Result Tree Refusal) (ts : List Tree) (k : Tree) (stop : DraftStop)
    → find (is_named name) ts ≡ Some k → IsStopped (change k) stop → IsStopped (changed_among name change ts) stop
stopped_among name change ts k stop found s =
    rw found (stopped_too (λ u. at_first (is_named name) (λ _. u) ts) stop (change k) s)

-- a path of over 510 names leads to a key whose children lie too deep
pub deep_path : (n : ℕ) → nat_lt 510 n ≡ nat_lt 512 (n + 2)
deep_path n = elim (cases_lt 510 n) [
  | inl more ↦ lt-ltb 510 n more ∙ sym (lt-ltb 512 (n + 2) (omega (arith, more)))
  | inr few ↦ le-ltb 510 n few ∙ sym (le-ltb 512 (n + 2) (omega (arith, few)))
]

-- a path by its last name and those before, as a slice pattern gives them
pub split_last : (path : List (List ℕ)) (last : List ℕ) → 1 ≤ length path → last ≡ get_or path (length path - 1) last
    → path ≡ take (length path - 1) path ++ last ∷ []
split_last [] last h e = absurd (omega arith)
split_last (name ∷ []) last h e = rw e refl
split_last (name ∷ next ∷ path) last h e =
    let n : length (name ∷ next ∷ path) - 1 ≡ suc (length (next ∷ path) - 1) = omega arith in
    let same : last ≡ get_or (next ∷ path) (length (next ∷ path) - 1) last =
    e ∙ ap (λ (k : ℕ). get_or (name ∷ next ∷ path) k last) n in
    rw n (ap (λ (q : List (List ℕ)). name ∷ q) (split_last (next ∷ path) last (omega arith) same))

-- ---- all steps

-- the step that stops the steps stops the edit
pub refused_whole : (version : HiveVersion) (t : Tree) (steps : List Step) (stop : EditStop)
    → IsStopped (after_steps t steps) (Refused stop) → IsRefused (edited version t steps) stop
unfolding edited
refused_whole version t steps stop r = go (refusal_of stop) r
  where
    go : (o : Option Refusal) → IfSome o (λ why. after_steps t steps ≡ Err why)
        → IfSome o (λ why. edited version t steps ≡ Err why)
    go None h = tt
    go (Some why) h = rw h refl
