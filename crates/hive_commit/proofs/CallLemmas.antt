-- The calls of one step after those of another, and a prefix of them.
use Rattle.std.proofs.Common.{◌≡◌, ◌++◌, List, [], Result, Ok, Err, refl, sym, ◌∙◌, ap, subst, append_assoc}
use Rattle.std.specs.Result.{IsErr}
use Rattle.std.proofs.lemmas.Bool.{false≢true}
use Rattle.std.proofs.lemmas.List.{append-nil}
use Rattle.nt_edge.specs.Calls.{Made, Makes, MakesFront, MakesUntil}

module _ (a b : List Made → Type 0) where
  pub all_made : {T E : Type 0} (r : Result T E) (calls : List Made) → Makes a b calls → MakesUntil a b calls r
  all_made (Ok x) calls made = made
  all_made (Err e) calls made = record { front = calls; rest = []; cut = sym (append-nil calls); made = made }

  pub stopped : {T E : Type 0} (r : Result T E) (calls : List Made) → IsErr r → MakesFront a b calls
      → MakesUntil a b calls r
  stopped (Ok x) calls err front = absurd (false≢true err)
  stopped (Err e) calls err front = front

  pub front_made : (first second : List Made) → Makes a b first → MakesFront a b (first ++ second)
  front_made first second made = record { front = first; rest = second; cut = refl; made = made }

  -- a prefix of the first is one of both
  pub front_longer : (first second : List Made) → MakesFront a b first → MakesFront a b (first ++ second)
  front_longer first second f = record {
    front = f.front;
    rest = f.rest ++ second;
    cut = ap (λ (l : List Made). l ++ second) f.cut ∙ append_assoc f.front f.rest second;
    made = f.made;
  }

  pub made_as : (calls same : List Made) → calls ≡ same → Makes a b calls → Makes a b same
  made_as calls same is made = subst (Makes a b) is made

  pub front_as : (calls same : List Made) → calls ≡ same → MakesFront a b calls → MakesFront a b same
  front_as calls same is made = subst (MakesFront a b) is made

  module _ (c : List Made → Type 0) (first second : List Made) (one : Makes a b first) where
    pub made_then : Makes b c second → Makes a c (first ++ second)
    made_then two = λ earlier is. subst c (append_assoc earlier first second) (two (earlier ++ first) (one earlier is))

    pub front_then : MakesFront b c second → MakesFront a c (first ++ second)
    front_then two = record {
      front = first ++ two.front;
      rest = two.rest;
      cut = ap (λ (l : List Made). first ++ l) two.cut ∙ sym (append_assoc first two.front two.rest);
      made = λ earlier is. subst c (append_assoc earlier first two.front)
          (two.made (earlier ++ first) (one earlier is));
    }
