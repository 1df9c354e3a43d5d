-- Elements of rows that are triples.
use Rattle.std.proofs.Common.{◌≡◌, ℕ, ℤ, pos, ◌+◌, ◌*◌, List, get_or, ap, ◌∙◌}
use Rattle.fixed_math.specs.declared.vec3.Vec3.{Vec3}
use Rattle.sl_ast.specs.declared.typed.Value.TheVariants as values
use Rattle.builtins.specs.declared.shape.Shape.TheVariants as shapes
use Rattle.grid_machine.specs.Run.{value_in}

-- a triple, by its parts in three rows
pub triple_of_parts : (rows : List ℤ) (w a : ℕ) (t : Vec3) → get_or rows a (pos 0) ≡ t.x → get_or rows (a + w) (pos 0) ≡ t.y → get_or rows (a + 2 * w) (pos 0) ≡ t.z → value_in shapes.Triple rows w a ≡ values.Triple t
triple_of_parts rows w a t x y z =
    ap (λ n. values.Triple (record { x = n; y = get_or rows (a + w) (pos 0); z = get_or rows (a + 2 * w) (pos 0) })) x
    ∙ ap (λ n. values.Triple (record { x = t.x; y = n; z = get_or rows (a + 2 * w) (pos 0) })) y
    ∙ ap (λ n. values.Triple (record { x = t.x; y = t.y; z = n })) z

pub same_triple_at : (old new : List ℤ) (w a : ℕ) → get_or new a (pos 0) ≡ get_or old a (pos 0) → get_or new (a + w) (pos 0) ≡ get_or old (a + w) (pos 0) → get_or new (a + 2 * w) (pos 0) ≡ get_or old (a + 2 * w) (pos 0) → value_in shapes.Triple new w a ≡ value_in shapes.Triple old w a
same_triple_at old new w a x y z = triple_of_parts new w a (record { x = get_or old a (pos 0); y = get_or old (a + w) (pos 0); z = get_or old (a + 2 * w) (pos 0) }) x y z
