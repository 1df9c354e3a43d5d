-- What is seen of a light within cones.
use Rattle.std.proofs.Common.{◌≡◌, ℕ, Bool, true, false, cond, refl, sym, ap, ◌∙◌, true≢false}
use Rattle.std.specs.Prelude.{Option, Some, None, is_some}
use Rattle.fixed_math.specs.declared.vec3.Vec3.{Vec3}
use Rattle.builtins.specs.Lights.{Light}
use Rattle.builtins.specs.Values.{is_nonzero}
use Rattle.number_rows.specs.Planes.{plane_at, triple_at}
use Rattle.light_rows.specs.declared.viewing.View.{View}
use Rattle.light_rows.specs.Seen.{option_bind, shown_by, IsShown}

some_back : (d : Bool) (x : Vec3 × Vec3) → is_some (cond d (Some x) None) ≡ true → cond d (Some x) None ≡ Some x
some_back true x h = refl
some_back false x h = absurd (true≢false (sym h))

some_there : (b n : Bool) (x : Vec3 × Vec3) (p : Vec3 → Bool) → is_some (option_bind (cond b None (cond n (Some x) None)) (λ y. cond (p y.0) (Some y) None)) ≡ true → option_bind (cond b None (cond n (Some x) None)) (λ y. cond (p y.0) (Some y) None) ≡ Some x
some_there true n x p h = absurd (true≢false (sym h))
some_there false true x p h = some_back (p x.0) x h
some_there false false x p h = absurd (true≢false (sym h))

-- what is seen is the direction and the colour in the planes
pub shown_there : (v : View) (i : ℕ) (l : Light) (p : Vec3 → Bool) → IsShown v i l → is_some (shown_by p l) ≡ true → shown_by p l ≡ Some (triple_at v.towards i, triple_at v.colours i)
shown_there v i l p is h =
    let by : Option (Vec3 × Vec3) → Option (Vec3 × Vec3) = λ o. option_bind o (λ y. cond (p y.0) (Some y) None) in
    ap by is.seen ∙ some_there v.ambient (is_nonzero (plane_at v.lit i)) (triple_at v.towards i, triple_at v.colours i) p (sym (ap (λ o. is_some (by o)) is.seen) ∙ h)
