-- What a crash image has, by the addresses of the writes in flight.
use Rattle.std.proofs.Common.{◌≡◌, ◌⊎◌, ◌==◌, ℕ, Bool, true, false, cond, List, [], ◌∷◌, ◌++◌, Option, Some, refl, sym, ◌∙◌, ap, inl, inr, ⊎_elim}
use Rattle.std.proofs.lemmas.Bool.{eqb-true, eq-eqb, and_parts, false_from_ne_true}
use Rattle.hive_model.specs.Image.{File, Primary, Log, Address, Content, Bytes, Unreadable, Image, Write, same_file, same_address, put, overlaid, IsInFlight, IsCrashImage}
use Rattle.nt_edge.specs.Crash.{EachWrite, AgreeOutside, unreadable_at, torn}

same_file_true : (a b : File) → same_file a b ≡ true → a ≡ b
same_file_true Primary Primary h = refl
same_file_true Log Log h = refl
same_file_true Primary Log h = cc
same_file_true Log Primary h = cc

pub same_address_true : (a b : Address) → same_address a b ≡ true → a ≡ b
same_address_true a b h =
    let parts = and_parts (same_file a.file b.file) (a.sector == b.sector) h in
    let file = same_file_true a.file b.file parts.0 in
    let sector = eqb-true a.sector b.sector parts.1 in
    let at : File → ℕ → Address = λ f n. record { file = f; sector = n } in
    ap (λ f. at f a.sector) file ∙ ap (at b.file) sector

pub same_address_refl : (a : Address) → same_address a a ≡ true
same_address_refl a =
    let file : (f : File) → same_file f f ≡ true = elim [ Primary ↦ refl | Log ↦ refl ] in
    rw (file a.file) (eq-eqb a.sector a.sector refl)

-- of an address of this kind and one that isn't
pub differ : (p : Address → Bool) (a b : Address) → p a ≡ true → p b ≡ false → same_address a b ≡ false
differ p a b is not = false_from_ne_true _
    (λ same. let e = same_address_true a b same in let e2 : p b ≡ true = sym (ap p e) ∙ is in cc)

-- one more write in flight
pub overlaid_push : (image : Image) (ws : List Write) (w : Write)
    → overlaid image (ws ++ w ∷ []) ≡ put (overlaid image ws) w
overlaid_push image [] w = refl
overlaid_push image (v ∷ ws) w = overlaid_push (put image v) ws w

pub each_push : (p : Address → Bool) (ws : List Write) (w : Write) → EachWrite p ws → p w.0 ≡ true
    → EachWrite p (ws ++ w ∷ [])
each_push p [] w each here = (here, tt)
each_push p (v ∷ ws) w each here = (each.0, each_push p ws w each.1 here)

-- where no write is in flight, nothing is in flight
pub none_in_flight : (p : Address → Bool) (ws : List Write) (a : Address) (content : Option Content) → EachWrite p ws
    → p a ≡ false → IsInFlight ws a content → ⊥
none_in_flight p [] a content each not h = h
none_in_flight p (w ∷ ws) a content each not (inl here) =
    let same : w.0 ≡ a = same_address_true w.0 a here.0 in
    let yes : p w.0 ≡ true = each.0 in
    let no : p w.0 ≡ false = ap p same ∙ not in cc
none_in_flight p (w ∷ ws) a content each not (inr rest) = none_in_flight p ws a content each.1 not rest

-- a crash image agrees with what is held at every address with no write in flight
pub crash_outside : (p : Address → Bool) (held : Image) (ws : List Write) (c : Image) → EachWrite p ws
    → IsCrashImage held ws c → AgreeOutside p held c
crash_outside p held ws c each crash a not =
    ⊎_elim (λ same. same) (λ flying. absurd (none_in_flight p ws a (c a) each not flying)) (crash a)

put_outside : (p : Address → Bool) (held : Image) (w : Write) (a : Address) → p w.0 ≡ true → p a ≡ false
    → put held w a ≡ held a
put_outside p held w a is not = ap (λ b. cond b (Some (Bytes w.1)) (held a)) (differ p w.0 a is not)

-- and so does what a read gives
pub now_outside : (p : Address → Bool) (held : Image) (ws : List Write) → EachWrite p ws
    → AgreeOutside p held (overlaid held ws)
now_outside p held [] each a not = refl
now_outside p held (w ∷ ws) each a not =
    now_outside p (put held w) ws each.1 a not ∙ put_outside p held w a each.0 not

-- after one more write: its bytes there, and the rest as before
pub put_here : (image : Image) (at : Address) (bytes : List ℕ) → put image (at, bytes) at ≡ Some (Bytes bytes)
put_here image at bytes = ap (λ b. cond b (Some (Bytes bytes)) (image at)) (same_address_refl at)

pub put_other : (image : Image) (w : Write) (a : Address) → same_address w.0 a ≡ false → put image w a ≡ image a
put_other image w a not = ap (λ b. cond b (Some (Bytes w.1)) (image a)) not

-- images that agree at each address are one
pub same_images : (f g : Image) → ((a : Address) → f a ≡ g a) → f ≡ g
same_images f g h = λ i a. h a i

put_crash : (held : Image) (w : Write) (ws : List Write) (a : Address) (x : Option Content) (b : Bool)
    → same_address w.0 a ≡ b → x ≡ cond b (Some (Bytes w.1)) (held a) → (x ≡ held a) ⊎ IsInFlight (w ∷ ws) a x
put_crash held w ws a x true test is = inr (inl (test, inl is))
put_crash held w ws a x false test is = inl is

-- what a read gives is held there, or in flight to there
pub overlaid_crash : (held : Image) (ws : List Write) (a : Address)
    → (overlaid held ws a ≡ held a) ⊎ IsInFlight ws a (overlaid held ws a)
overlaid_crash held [] a = inl refl
overlaid_crash held (w ∷ ws) a = ⊎_elim
    (λ same. put_crash held w ws a (overlaid (put held w) ws a) (same_address w.0 a) refl same)
    (λ flying. inr (inr flying))
    (overlaid_crash (put held w) ws a)

tear_crash : (held : Image) (w : Write) (ws : List Write) (a : Address) (x : Option Content) (b : Bool)
    → same_address w.0 a ≡ b → x ≡ cond b (Some Unreadable) (held a)
    → (x ≡ held a) ⊎ IsInFlight (w ∷ ws) a x
tear_crash held w ws a x true test is = inr (inl (test, inr is))
tear_crash held w ws a x false test is = inl is

-- each sector with a write in flight may be left unreadable
pub torn_crash : (held : Image) (ws : List Write) → IsCrashImage held ws (torn held ws)
torn_crash held [] a = inl refl
torn_crash held (w ∷ ws) a = ⊎_elim
    (λ same. tear_crash held w ws a (torn (unreadable_at w.0 held) ws a) (same_address w.0 a) refl same)
    (λ flying. inr (inr flying))
    (torn_crash (unreadable_at w.0 held) ws a)

-- what is held may itself be left
pub held_crash : (held : Image) (ws : List Write) → IsCrashImage held ws held
held_crash held ws a = inl refl

-- with nothing in flight what is held is left, and nothing else
pub still_crash : (held c : Image) → IsCrashImage held [] c → c ≡ held
still_crash held c crash = same_images c held (λ a. ⊎_elim (λ same. same) (λ none. absurd none) (crash a))

longer_in_flight : (ws vs : List Write) (a : Address) (x : Option Content) → IsInFlight ws a x
    → IsInFlight (ws ++ vs) a x
longer_in_flight [] vs a x h = absurd h
longer_in_flight (w ∷ ws) vs a x (inl here) = inl here
longer_in_flight (w ∷ ws) vs a x (inr rest) = inr (longer_in_flight ws vs a x rest)

-- a longer flight allows every crash image that a shorter one allows
pub longer_crash : (held : Image) (ws vs : List Write) (c : Image) → IsCrashImage held ws c
    → IsCrashImage held (ws ++ vs) c
longer_crash held ws vs c crash a =
    ⊎_elim (λ same. inl same) (λ flying. inr (longer_in_flight ws vs a (c a) flying)) (crash a)

-- what all the writes together make may be left
pub now_crash : (held : Image) (ws : List Write) → IsCrashImage held ws (overlaid held ws)
now_crash held ws a = overlaid_crash held ws a
