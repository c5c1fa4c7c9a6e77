-- What the writes in flight bring to an address, over what is held there.
use Rattle.std.proofs.Common.{◌≡◌, Bool, true, false, List, [], ◌∷◌, ◌++◌, map, cond, Option, Some, None, refl, sym, ◌∙◌, ap}
use Rattle.std.specs.List.{AllZip}
use Rattle.hive_model.specs.Image.{Address, Bytes, Content, Image, Write, overlaid, put, same_address}
use Rattle.nt_edge.proofs.Images.{overlaid_push}
use Rattle.mem_edge.specs.Views.{flying}

-- the writes laid over what was found at one address
abbrev over : Option Content → List Write → Address → Option Content
over found [] a = found
over found (w ∷ ws) a = over (cond (same_address w.0 a) (Some (Bytes w.1)) found) ws a

over_is : (image : Image) (ws : List Write) (a : Address) → overlaid image ws a ≡ over (image a) ws a
over_is image [] a = refl
over_is image (w ∷ ws) a = over_is (put image w) ws a

-- the first, or else the second
abbrev pub or_else : Option Content → Option Content → Option Content
or_else (Some x) y = Some x
or_else None y = y

or_else_cond : (x : Option Content) (t : Bool) (b : Content) (found : Option Content)
    → or_else x (cond t (Some b) found) ≡ or_else (or_else x (cond t (Some b) None)) found
or_else_cond (Some x) t b found = refl
or_else_cond None true b found = refl
or_else_cond None false b found = refl

over_else : (found : Option Content) (ws : List Write) (a : Address) → over found ws a ≡ or_else (over None ws a) found
over_else found [] a = refl
over_else found (w ∷ ws) a =
    let t = same_address w.0 a in
    over_else (cond t (Some (Bytes w.1)) found) ws a
    ∙ or_else_cond (over None ws a) t (Bytes w.1) found
    ∙ ap (λ x. or_else x found) (sym (over_else (cond t (Some (Bytes w.1)) None) ws a))

-- a read finds what is in flight, or else what is held
pub overlaid_else : (image : Image) (ws : List Write) (a : Address)
    → overlaid image ws a ≡ or_else (flying ws a) (image a)
overlaid_else image ws a =
    over_is image ws a ∙ over_else (image a) ws a ∙ ap (λ x. or_else x (image a)) (sym (over_is (λ _. None) ws a))

-- clones that are the same by a function
pub map_clones : {A B : Type 0} (f : A → B) (xs ys : List A) → AllZip (λ x y. f y ≡ f x) xs ys → map f ys ≡ map f xs
map_clones f [] [] same = refl
map_clones f [] (y ∷ ys) same = absurd same
map_clones f (x ∷ xs) [] same = absurd same
map_clones f (x ∷ xs) (y ∷ ys) same = λ i. same.0 i ∷ map_clones f xs ys same.1 i

pub map_push : {A B : Type 0} (f : A → B) (xs : List A) (x : A) → map f (xs ++ x ∷ []) ≡ map f xs ++ f x ∷ []
map_push f [] x = refl
map_push f (y ∷ ys) x = ap (λ l. f y ∷ l) (map_push f ys x)

-- one more write in flight, and the latest to its address
pub flying_push : (latest new : Image) (ws : List Write) (w : Write) (a : Address) → latest a ≡ flying ws a
    → new a ≡ put latest w a → new a ≡ flying (ws ++ w ∷ []) a
flying_push latest new ws w a was is =
    is ∙ ap (λ x. cond (same_address w.0 a) (Some (Bytes w.1)) x) was
    ∙ sym (ap (λ (f : Image). f a) (overlaid_push (λ _. None) ws w))
