-- The bytes of one item more.
use Rattle.std.proofs.Common.{◌≡◌, ◌∙◌, ◌++◌, ◌∷◌, [], List, ap, sym, append_assoc}
use Rattle.std.specs.List.{flat_map}
use Rattle.std.proofs.lemmas.List.{append-nil}

pub flat_map-more : {A B : Type 0} (g : A → List B) (xs : List A) (x : A) → flat_map g (xs ++ x ∷ []) ≡ flat_map g xs ++ g x
flat_map-more g [] x = append-nil (g x)
flat_map-more g (y ∷ ys) x = ap (λ zs. g y ++ zs) (flat_map-more g ys x) ∙ sym (append_assoc (g y) (flat_map g ys) (g x))

-- appended behind what stood there
pub more_bytes : {A B : Type 0} (g : A → List B) (front old new : List B) (xs : List A) (x : A) → old ≡ front ++ flat_map g xs → new ≡ old ++ g x → new ≡ front ++ flat_map g (xs ++ x ∷ [])
more_bytes g front old new xs x o n =
    n ∙ ap (λ l. l ++ g x) o ∙ append_assoc front (flat_map g xs) (g x) ∙ ap (λ l. front ++ l) (sym (flat_map-more g xs x))
