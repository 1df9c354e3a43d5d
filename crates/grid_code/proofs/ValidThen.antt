-- What is known of one block behind another.
use Rattle.std.proofs.Common.{◌≡◌, refl, ap, ◌∙◌, ℕ, ◌+◌, ◌≤◌, Bool, true, false, ◌&&◌, ◌||◌, max, arith}
use Rattle.std.specs.List.{list_all}
use Rattle.sl_ast.specs.declared.kinds.SlKind.{SlKind}
use Rattle.sl_ast.specs.Names.{has_surface, is_surface, has_lights}
use Rattle.builtins.specs.declared.shape.Shape.TheVariants as shapes
use Rattle.grid_code.specs.declared.code.Register.{Register}
use Rattle.grid_code.specs.Code.{Block, end, put, differ, sum, texture, branch, loops, lights, breaks, continues, ◌then◌}
use Rattle.grid_code.specs.Masked.{same_shape}
use Rattle.grid_code.specs.Shapes.{register_class, register_shape, difference_shape, source_shape}
use Rattle.grid_code.specs.Uses.{source_within, within, looks_within}
use Rattle.grid_code.specs.Valid.{has_operands, at_most_three, are_three, is_placed, nesting, has_light_statement}
use Rattle.grid_code.proofs.Both.{both, left, right, or_two, or_three}

pub within_then : (p : Register → Bool) (x y : Block) → within p x ≡ true → within p y ≡ true → within p (x then y) ≡ true
within_then p end y h g = g
within_then p (put r o x) y h g =
    let k = right (p r) _ h in
    both _ _ (left (p r) _ h) (both _ _ (left (source_within p o) _ k) (within_then p x y (right (source_within p o) _ k) g))
within_then p (differ r d q x) y h g =
    let k = right (p r) _ h in
    both _ _ (left (p r) _ h) (both _ _ (left (p q) _ k) (within_then p x y (right (p q) _ k) g))
within_then p (sum r w qs x) y h g =
    let k = right (p r) _ h in
    both _ _ (left (p r) _ h) (both _ _ (left (list_all p qs) _ k) (within_then p x y (right (list_all p qs) _ k) g))
within_then p (texture r m qs x) y h g =
    let k = right (p r) _ h in
    both _ _ (left (p r) _ h) (both _ _ (left (list_all p qs) _ k) (within_then p x y (right (list_all p qs) _ k) g))
within_then p (branch t a b x) y h g =
    let k = right (p t) _ h in
    let m = right (within p a) _ k in
    both _ _ (left (p t) _ h) (both _ _ (left (within p a) _ k) (both _ _ (left (within p b) _ m) (within_then p x y (right (within p b) _ m) g)))
within_then p (loops u d t e a x) y h g =
    let k = right (within p d) _ h in
    let m = right (p t) _ k in
    let n = right (within p e) _ m in
    both _ _ (left (within p d) _ h) (both _ _ (left (p t) _ k) (both _ _ (left (within p e) _ m) (both _ _ (left (within p a) _ n) (within_then p x y (right (within p a) _ n) g))))
within_then p (lights w qs a x) y h g =
    let k = right (list_all p qs) _ h in
    both _ _ (left (list_all p qs) _ h) (both _ _ (left (within p a) _ k) (within_then p x y (right (within p a) _ k) g))
within_then p (breaks x) y h g = within_then p x y h g
within_then p (continues x) y h g = within_then p x y h g

pub placed_then : (k : SlKind) (l u : Bool) (x y : Block) → is_placed k l u x ≡ true → is_placed k l u y ≡ true → is_placed k l u (x then y) ≡ true
placed_then k l u end y h g = g
placed_then k l u (put r o x) y h g =
    let m = right (same_shape (source_shape o) (register_shape r)) _ h in
    both _ _ (left (same_shape (source_shape o) (register_shape r)) _ h)
    (both _ _ (left (has_operands o) _ m) (placed_then k l u x y (right (has_operands o) _ m) g))
placed_then k l u (differ r d q x) y h g =
    let a = right u _ h in
    let b = right (has_surface k) _ a in
    both _ _ (left u _ h) (both _ _ (left (has_surface k) _ a) (both _ _ (left (same_shape (difference_shape d (register_shape q)) (register_shape r)) _ b)
    (placed_then k l u x y (right (same_shape (difference_shape d (register_shape q)) (register_shape r)) _ b) g)))
placed_then k l u (sum r w qs x) y h g =
    let a = right (is_surface k) _ h in
    let b = right (same_shape shapes.Triple (register_shape r)) _ a in
    both _ _ (left (is_surface k) _ h) (both _ _ (left (same_shape shapes.Triple (register_shape r)) _ a) (both _ _ (left (at_most_three qs) _ b)
    (placed_then k l u x y (right (at_most_three qs) _ b) g)))
placed_then k l u (texture r m qs x) y h g =
    let a = right u _ h in
    let b = right (has_surface k) _ a in
    let d = right (same_shape shapes.Triple (register_shape r)) _ b in
    both _ _ (left u _ h) (both _ _ (left (has_surface k) _ a) (both _ _ (left (same_shape shapes.Triple (register_shape r)) _ b) (both _ _ (left (are_three qs) _ d)
    (placed_then k l u x y (right (are_three qs) _ d) g))))
placed_then k l u (branch t a b x) y h g =
    let one = is_placed k l (u && register_class t) a in
    let other = is_placed k l (u && register_class t) b in
    let m = right one _ h in
    both _ _ (left one _ h) (both _ _ (left other _ m) (placed_then k l u x y (right other _ m) g))
placed_then k l u (loops v d t e a x) y h g =
    let ask = is_placed k false (u && v) d in
    let step = is_placed k false (u && v) e in
    let body = is_placed k true (u && v) a in
    let m = right ask _ h in
    let n = right step _ m in
    both _ _ (left ask _ h) (both _ _ (left step _ m) (both _ _ (left body _ n) (placed_then k l u x y (right body _ n) g)))
placed_then k l u (lights w qs a x) y h g =
    let m = right (has_lights k w) _ h in
    let n = right (at_most_three qs) _ m in
    both _ _ (left (has_lights k w) _ h) (both _ _ (left (at_most_three qs) _ m) (both _ _ (left (is_placed k l false a) _ n)
    (placed_then k l u x y (right (is_placed k l false a) _ n) g)))
placed_then k l u (breaks x) y h g = both _ _ (left l _ h) (placed_then k l u x y (right l _ h) g)
placed_then k l u (continues x) y h g = both _ _ (left l _ h) (placed_then k l u x y (right l _ h) g)

max_fits : (a b c : ℕ) → a ≤ c → b ≤ c → max a b ≤ c
max_fits a b c h g = grind (arith, h, g)

max_first : (a b c : ℕ) → max a b ≤ c → a ≤ c
max_first a b c h = grind (arith, h)

max_second : (a b c : ℕ) → max a b ≤ c → b ≤ c
max_second a b c h = grind (arith, h)

pub nesting_then : (n : ℕ) (x y : Block) → nesting x ≤ n → nesting y ≤ n → nesting (x then y) ≤ n
nesting_then n end y h g = g
nesting_then n (put r o x) y h g = nesting_then n x y h g
nesting_then n (differ r d q x) y h g = nesting_then n x y h g
nesting_then n (sum r w qs x) y h g = nesting_then n x y h g
nesting_then n (texture r k qs x) y h g = nesting_then n x y h g
nesting_then n (branch t a b x) y h g =
    max_fits (1 + max (nesting a) (nesting b)) (nesting (x then y)) n (max_first _ (nesting x) n h) (nesting_then n x y (max_second _ (nesting x) n h) g)
nesting_then n (loops u d t e a x) y h g =
    max_fits (1 + max (nesting d) (max (nesting e) (nesting a))) (nesting (x then y)) n (max_first _ (nesting x) n h) (nesting_then n x y (max_second _ (nesting x) n h) g)
nesting_then n (lights w qs a x) y h g =
    max_fits (1 + nesting a) (nesting (x then y)) n (max_first _ (nesting x) n h) (nesting_then n x y (max_second _ (nesting x) n h) g)
nesting_then n (breaks x) y h g = nesting_then n x y h g
nesting_then n (continues x) y h g = nesting_then n x y h g

pub lights_then : (x y : Block) → has_light_statement (x then y) ≡ has_light_statement x || has_light_statement y
lights_then end y = refl
lights_then (put r o x) y = lights_then x y
lights_then (differ r d q x) y = lights_then x y
lights_then (sum r w qs x) y = lights_then x y
lights_then (texture r k qs x) y = lights_then x y
lights_then (branch t a b x) y = ap (λ z. has_light_statement a || (has_light_statement b || z)) (lights_then x y) ∙ or_two (has_light_statement a) (has_light_statement b) (has_light_statement x) (has_light_statement y)
lights_then (loops u d t e a x) y =
    ap (λ z. has_light_statement d || (has_light_statement e || (has_light_statement a || z))) (lights_then x y) ∙ or_three (has_light_statement d) (has_light_statement e) (has_light_statement a) (has_light_statement x) (has_light_statement y)
lights_then (lights w qs a x) y = refl
lights_then (breaks x) y = lights_then x y
lights_then (continues x) y = lights_then x y

pub looks_then : (p : ℕ → Bool) (x y : Block) → looks_within p x ≡ true → looks_within p y ≡ true → looks_within p (x then y) ≡ true
looks_then p end y h g = g
looks_then p (put r o x) y h g = looks_then p x y h g
looks_then p (differ r d q x) y h g = looks_then p x y h g
looks_then p (sum r w qs x) y h g = looks_then p x y h g
looks_then p (texture r k qs x) y h g = both _ _ (left (p k) _ h) (looks_then p x y (right (p k) _ h) g)
looks_then p (branch t a b x) y h g =
    let m = right (looks_within p a) _ h in
    both _ _ (left (looks_within p a) _ h) (both _ _ (left (looks_within p b) _ m) (looks_then p x y (right (looks_within p b) _ m) g))
looks_then p (loops u d t e a x) y h g =
    let m = right (looks_within p d) _ h in
    let n = right (looks_within p e) _ m in
    both _ _ (left (looks_within p d) _ h) (both _ _ (left (looks_within p e) _ m) (both _ _ (left (looks_within p a) _ n) (looks_then p x y (right (looks_within p a) _ n) g)))
looks_then p (lights w qs a x) y h g = both _ _ (left (looks_within p a) _ h) (looks_then p x y (right (looks_within p a) _ h) g)
looks_then p (breaks x) y h g = looks_then p x y h g
looks_then p (continues x) y h g = looks_then p x y h g
