-- The tangent of a camera.
use Rattle.std.proofs.Common.{◌≡◌, ℕ, ◌<◌, Bool, true, false, ℤ, pos, Option, Some, None, arith, sym, unsigned_abs, subst}
use Rattle.std.specs.Prelude.{option_map, IfSome, int_lt, ◌&&◌}
use Rattle.std.proofs.lemmas.Int.{ints}
use Rattle.transforms.specs.declared.view.View.{View}
use Rattle.transforms.specs.Field.{tangent, is_field, is_seen, scale_of, IsView}

pub field_some : (f : ℤ) → is_field f ≡ true → 0 < unsigned_abs (tangent f)
unfolding is_field
field_some f h = above (tangent f) (last (int_lt (pos 0) f && int_lt f (pos 11796480)) (int_lt (pos 0) (tangent f)) h)
  where
    last : (a b : Bool) → (a && b) ≡ true → b ≡ true
    last true b h = h
    last false b h = absurd (cc)

    above : (t : ℤ) → int_lt (pos 0) t ≡ true → 0 < unsigned_abs t
    above t h = grind (arith, ints)

seen_some : (f : Option ℤ) → is_seen f ≡ true → IfSome (option_map (λ f. unsigned_abs (tangent f)) f) (λ t. 0 < t)
seen_some None h = tt
seen_some (Some f) h = field_some f h

-- it is above 0
pub scale_some : (v : View) → IsView v → IfSome (scale_of v) (λ t. 0 < t)
scale_some v h = seen_some v.fov h.seen

pub scale_is_some : (s : Option ℕ) (v : View) → (s ≡ scale_of v) × IsView v → IfSome s (λ t. 0 < t)
scale_is_some s v h = let P : Option ℕ → Type 0 = λ s. IfSome s (λ t. 0 < t) in subst P (sym h.0) (scale_some v h.1)
