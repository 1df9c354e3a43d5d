use Rattle.std.proofs.Common.{◌≡◌, ◌∙◌, refl, to_z, of_z}
use Rattle.std.specs.Int.{w64}
use Rattle.std.specs.Prelude.{◌-ℤ◌}
use Rattle.fixed_math.specs.Edges.{edge, owns}
use Rattle.hider.specs.Coverage.{areas_at}
use Rattle.hider.proofs.Between.{areas_weigh, read_area}
use Rattle.hider.proofs.Sides.{inside_by, first_out, second_out, third_out, all_in}
use Rattle.hider.proofs.facing.Facing.areas.Goals as goal

pub returns-then-not-is_inner-clause-covers : goal.returns-then-not-is_inner-clause-covers
returns-then-not-is_inner-clause-covers c =
    let t = c.args.self.now in let s = c.args.s in
    let p = inside_by t.a.now.place t.b.now.place s c.edge_at-at_c.result (owns (t.b.now.place.x -ℤ t.a.now.place.x) (t.b.now.place.y -ℤ t.a.now.place.y)) _ c.edge_at-at_c.type_inv c.if-not-is_inner.ensures c.edge_at-at_c.ensures.value refl in
    first_out t.a.now.place t.b.now.place t.c.now.place s p

pub returns-then-not-is_inner-2-clause-covers : goal.returns-then-not-is_inner-2-clause-covers
returns-then-not-is_inner-2-clause-covers c =
    let t = c.args.self.now in let s = c.args.s in
    let p = inside_by t.a.now.place t.b.now.place s c.edge_at-at_c.result (owns (t.b.now.place.x -ℤ t.a.now.place.x) (t.b.now.place.y -ℤ t.a.now.place.y)) _ c.edge_at-at_c.type_inv c.if-not-is_inner.ensures c.edge_at-at_c.ensures.value refl in
    let q = inside_by t.b.now.place t.c.now.place s c.edge_at-at_a.result (owns (t.c.now.place.x -ℤ t.b.now.place.x) (t.c.now.place.y -ℤ t.b.now.place.y)) _ c.edge_at-at_a.type_inv c.if-not-is_inner-2.ensures c.edge_at-at_a.ensures.value refl in
    second_out t.a.now.place t.b.now.place t.c.now.place s p q

pub returns-then-not-is_inner-3-clause-covers : goal.returns-then-not-is_inner-3-clause-covers
returns-then-not-is_inner-3-clause-covers c =
    let t = c.args.self.now in let s = c.args.s in
    let p = inside_by t.a.now.place t.b.now.place s c.edge_at-at_c.result (owns (t.b.now.place.x -ℤ t.a.now.place.x) (t.b.now.place.y -ℤ t.a.now.place.y)) _ c.edge_at-at_c.type_inv c.if-not-is_inner.ensures c.edge_at-at_c.ensures.value refl in
    let q = inside_by t.b.now.place t.c.now.place s c.edge_at-at_a.result (owns (t.c.now.place.x -ℤ t.b.now.place.x) (t.c.now.place.y -ℤ t.b.now.place.y)) _ c.edge_at-at_a.type_inv c.if-not-is_inner-2.ensures c.edge_at-at_a.ensures.value refl in
    let r = inside_by t.c.now.place t.a.now.place s c.edge_at-at_b.result (owns (t.a.now.place.x -ℤ t.c.now.place.x) (t.a.now.place.y -ℤ t.c.now.place.y)) _ c.edge_at-at_b.type_inv c.if-not-is_inner-3.ensures c.edge_at-at_b.ensures.value refl in
    third_out t.a.now.place t.b.now.place t.c.now.place s p q r

pub returns-clause-covers : goal.returns-clause-covers
returns-clause-covers c =
    let t = c.args.self.now in let s = c.args.s in
    let p = inside_by t.a.now.place t.b.now.place s c.edge_at-at_c.result (owns (t.b.now.place.x -ℤ t.a.now.place.x) (t.b.now.place.y -ℤ t.a.now.place.y)) _ c.edge_at-at_c.type_inv c.if-not-is_inner.ensures c.edge_at-at_c.ensures.value refl in
    let q = inside_by t.b.now.place t.c.now.place s c.edge_at-at_a.result (owns (t.c.now.place.x -ℤ t.b.now.place.x) (t.c.now.place.y -ℤ t.b.now.place.y)) _ c.edge_at-at_a.type_inv c.if-not-is_inner-2.ensures c.edge_at-at_a.ensures.value refl in
    let r = inside_by t.c.now.place t.a.now.place s c.edge_at-at_b.result (owns (t.a.now.place.x -ℤ t.c.now.place.x) (t.a.now.place.y -ℤ t.c.now.place.y)) _ c.edge_at-at_b.type_inv c.if-not-is_inner-3.ensures c.edge_at-at_b.ensures.value refl in
    all_in t.a.now.place t.b.now.place t.c.now.place s p q r

pub returns-clause-areas : goal.returns-clause-areas
unfolding areas_at
returns-clause-areas c =
    let t = c.args.self.now in let s = c.args.s in
    let at_a : to_z w64 (of_z w64 c.edge_at-at_a.result) ≡ edge t.b.now.place t.c.now.place s = read_area c.edge_at-at_a.result c.edge_at-at_a.ensures.bound ∙ c.edge_at-at_a.ensures.value in
    let at_b : to_z w64 (of_z w64 c.edge_at-at_b.result) ≡ edge t.c.now.place t.a.now.place s = read_area c.edge_at-at_b.result c.edge_at-at_b.ensures.bound ∙ c.edge_at-at_b.ensures.value in
    let at_c : to_z w64 (of_z w64 c.edge_at-at_c.result) ≡ edge t.a.now.place t.b.now.place s = read_area c.edge_at-at_c.result c.edge_at-at_c.ensures.bound ∙ c.edge_at-at_c.ensures.value in
    let whole : to_z w64 (of_z w64 t.whole) ≡ edge t.a.now.place t.b.now.place t.c.now.place = read_area t.whole t.small ∙ t.whole_is in
    rw (at_a, at_b, at_c, whole) refl

pub returns-clause-parts : goal.returns-clause-parts
unfolding areas_at
returns-clause-parts c =
    let t = c.args.self.now in let s = c.args.s in
    let p = inside_by t.a.now.place t.b.now.place s c.edge_at-at_c.result (owns (t.b.now.place.x -ℤ t.a.now.place.x) (t.b.now.place.y -ℤ t.a.now.place.y)) _ c.edge_at-at_c.type_inv c.if-not-is_inner.ensures c.edge_at-at_c.ensures.value refl in
    let q = inside_by t.b.now.place t.c.now.place s c.edge_at-at_a.result (owns (t.c.now.place.x -ℤ t.b.now.place.x) (t.c.now.place.y -ℤ t.b.now.place.y)) _ c.edge_at-at_a.type_inv c.if-not-is_inner-2.ensures c.edge_at-at_a.ensures.value refl in
    let r = inside_by t.c.now.place t.a.now.place s c.edge_at-at_b.result (owns (t.a.now.place.x -ℤ t.c.now.place.x) (t.a.now.place.y -ℤ t.c.now.place.y)) _ c.edge_at-at_b.type_inv c.if-not-is_inner-3.ensures c.edge_at-at_b.ensures.value refl in
    let at_a : to_z w64 (of_z w64 c.edge_at-at_a.result) ≡ edge t.b.now.place t.c.now.place s = read_area c.edge_at-at_a.result c.edge_at-at_a.ensures.bound ∙ c.edge_at-at_a.ensures.value in
    let at_b : to_z w64 (of_z w64 c.edge_at-at_b.result) ≡ edge t.c.now.place t.a.now.place s = read_area c.edge_at-at_b.result c.edge_at-at_b.ensures.bound ∙ c.edge_at-at_b.ensures.value in
    let at_c : to_z w64 (of_z w64 c.edge_at-at_c.result) ≡ edge t.a.now.place t.b.now.place s = read_area c.edge_at-at_c.result c.edge_at-at_c.ensures.bound ∙ c.edge_at-at_c.ensures.value in
    let whole : to_z w64 (of_z w64 t.whole) ≡ edge t.a.now.place t.b.now.place t.c.now.place = read_area t.whole t.small ∙ t.whole_is in
    rw (at_a, at_b, at_c, whole) (areas_weigh t.a.now.place t.b.now.place t.c.now.place s (all_in t.a.now.place t.b.now.place t.c.now.place s p q r) (rw t.whole_is at t.some))
