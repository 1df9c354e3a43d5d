-- Declarations found by their places.
use Rattle.std.proofs.Common.{◌≡◌, ℕ, suc, ◌∷◌, [], ◌++◌, List, Option, Some, None, Bool, true, false, cond, is_some, option_map, length, refl, sym, ap, ◌∙◌, arith}
use Rattle.std.specs.Option.{option_or}
use Rattle.std.specs.Str.{bytes_eq}
use Rattle.fixed_math.specs.Names.{last_place}
use Rattle.scene.specs.declared.params.Class.{Class}
use Rattle.scene.specs.declared.params.Kind.{Kind}
use Rattle.rib_reader.specs.Words.{with_type, last_type}
use Rattle.rib_reader.specs.Declarations.{declared_in, type_at}

pub one_more : (ns : List (List ℕ)) (ts : List (Class × Kind)) (n : List ℕ) (t : Class × Kind) → length ns ≡ length ts
    → declared_in (ns ++ n ∷ []) (ts ++ t ∷ []) ≡ declared_in ns ts ++ with_type n t ∷ []
one_more [] [] n t e = refl
one_more [] (u ∷ ts) n t e = absurd (omega arith)
one_more (m ∷ ns) [] n t e = absurd (omega arith)
one_more (m ∷ ns) (u ∷ ts) n t e = ap (λ ds. with_type m u ∷ ds) (one_more ns ts n t (omega arith))

found : (ns : List (List ℕ)) (ts : List (Class × Kind)) (name : List ℕ) → length ns ≡ length ts
    → (is_some (type_at ts (last_place name ns)) ≡ is_some (last_place name ns)) × (type_at ts (last_place name ns) ≡ last_type (declared_in ns ts) name)
found [] [] name e = (refl, refl)
found [] (u ∷ ts) name e = absurd (omega arith)
found (m ∷ ns) [] name e = absurd (omega arith)
found (m ∷ ns) (u ∷ ts) name e =
    let rest = found ns ts name (omega arith) in
    further (last_place name ns) (bytes_eq m name) (last_type (declared_in ns ts) name) rest.0 rest.1
  where
    further : (o : Option ℕ) (b : Bool) (r : Option (Class × Kind)) → is_some (type_at ts o) ≡ is_some o → type_at ts o ≡ r
        → (is_some (type_at (u ∷ ts) (option_or (option_map suc o) (cond b (Some 0) None))) ≡ is_some (option_or (option_map suc o) (cond b (Some 0) None)))
        × (type_at (u ∷ ts) (option_or (option_map suc o) (cond b (Some 0) None)) ≡ option_or r (cond b (Some (u.0, u.1)) None))
    further None true r t s = (refl, ap (λ r. option_or r (Some u)) s)
    further None false r t s = (refl, ap (λ r. option_or r None) s)
    further (Some i) b r t s = (t, s ∙ taken r (sym (ap is_some s) ∙ t))
      where
        taken : (r : Option (Class × Kind)) → is_some r ≡ true → r ≡ option_or r (cond b (Some (u.0, u.1)) None)
        taken (Some x) h = refl
        taken None h = absurd cc

pub last_is : (ns : List (List ℕ)) (ts : List (Class × Kind)) (name : List ℕ) → length ns ≡ length ts → type_at ts (last_place name ns) ≡ last_type (declared_in ns ts) name
last_is ns ts name e = (found ns ts name e).1
