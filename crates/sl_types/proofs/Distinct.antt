-- Names of which each stands once: the first stands once and the others do, and one that isn't among them comes after them.
use Rattle.std.proofs.Common.{◌≡◌, ℕ, suc, Bool, true, false, ◌&&◌, cond, List, [], ◌∷◌, ◌++◌, length, Option, Some, None, true≢false, refl, sym, ap, ap₂, ◌∙◌}
use Rattle.std.specs.Cmp.Lexicographic.{bytes_decides}
use Rattle.std.specs.Option.{option_map, option_or}
use Rattle.std.specs.Prelude.{is_none}
use Rattle.std.specs.Str.{bytes_eq}
use Rattle.fixed_math.specs.Names.{last_place}
use Rattle.fixed_math.proofs.LastPlaces.{last_place-push}
use Rattle.sl_types.specs.Distinct.{are_distinct}

none_and : (o : Option ℕ) (rest : Bool) → (is_none o && rest) ≡ true → (o ≡ None) × (rest ≡ true)
none_and None rest h = (refl, h)
none_and (Some k) rest h = absurd (cc h)

pub distinct_parts : (n : List ℕ) (ns : List (List ℕ)) → are_distinct (n ∷ ns) ≡ true → (last_place n ns ≡ None) × (are_distinct ns ≡ true)
distinct_parts n ns h = none_and (last_place n ns) (are_distinct ns) h

differ : (a b : List ℕ) → bytes_eq a b ≡ false → bytes_eq b a ≡ false
differ a b e = by (bytes_eq b a) refl
  where
    by : (t : Bool) → bytes_eq b a ≡ t → t ≡ false
    by true f = absurd (true≢false (sym ((bytes_decides a b).1 (sym ((bytes_decides b a).0 f))) ∙ e))
    by false f = refl

nowhere : (o : Option ℕ) (b : Bool) → option_or (option_map suc o) (cond b (Some 0) None) ≡ None → (o ≡ None) × (b ≡ false)
nowhere None true h = absurd (cc h)
nowhere None false h = (refl, refl)
nowhere (Some k) b h = absurd (cc h)

pub distinct_push : (ns : List (List ℕ)) (n : List ℕ) → are_distinct ns ≡ true → last_place n ns ≡ None → are_distinct (ns ++ n ∷ []) ≡ true
distinct_push [] n d h = refl
distinct_push (m ∷ ms) n d h =
    let parts = nowhere (last_place n ms) (bytes_eq m n) h in
    let apart = distinct_parts m ms d in
    let once = last_place-push ms n m ∙ ap (λ b. cond b (Some (length ms)) (last_place m ms)) (differ m n parts.1) ∙ apart.0 in
    ap₂ (λ o b. is_none o && b) once (distinct_push ms n apart.1 parts.0)
