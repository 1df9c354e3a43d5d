use Rattle.std.proofs.Common.{◌∙◌, ap, sym, add-zero, ◌*◌, ◌^◌}
use Rattle.fixed_math.specs.Axes.{part_of, origin}
use Rattle.std.specs.Prelude.{slice_index_or}
use Rattle.fixed_math.proofs.Fits.{read_back}
use Rattle.mesh_basis.proofs.Blends.{blend_same}
use Rattle.mesh_basis.proofs.bezier.across.Goals as goal

pub returns-clause-value : goal.returns-clause-value
returns-clause-value c =
    let first = read_back c.control_at-a.result c.control_at-a.type_inv ∙ c.control_at-a.ensures.value ∙ ap (λ k. part_of c.args.axis (slice_index_or c.args.net.now k origin)) (sym (add-zero (4 * c.args.y))) in
    read_back c.blend.result c.blend.type_inv ∙ c.blend.ensures.value
    ∙ blend_same c.args.weights _ _ _ _ _ _ _ _ first
    (read_back c.control_at-b.result c.control_at-b.type_inv ∙ c.control_at-b.ensures.value)
    (read_back c.control_at-c.result c.control_at-c.type_inv ∙ c.control_at-c.ensures.value)
    (read_back c.control_at-d.result c.control_at-d.type_inv ∙ c.control_at-d.ensures.value)

pub returns-clause-bound : goal.returns-clause-bound
returns-clause-bound c =
    rw (read_back c.blend.result c.blend.type_inv)
    (c.blend.ensures.bound (2 ^ 31)
    (rw (read_back c.control_at-a.result c.control_at-a.type_inv) c.control_at-a.ensures.bound)
    (rw (read_back c.control_at-b.result c.control_at-b.type_inv) c.control_at-b.ensures.bound)
    (rw (read_back c.control_at-c.result c.control_at-c.type_inv) c.control_at-c.ensures.bound)
    (rw (read_back c.control_at-d.result c.control_at-d.type_inv) c.control_at-d.ensures.bound))
