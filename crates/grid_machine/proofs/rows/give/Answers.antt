use Rattle.std.proofs.Common.{◌≡◌, ◌+◌, ◌*◌, pos, get_or, ap, ◌∙◌, arith}
use Rattle.number_rows.specs.Planes.{plane_at, triple_at}
use Rattle.grid_machine.proofs.Elements.{triple_of_parts}
use Rattle.grid_machine.proofs.rows.give.Goals as goal

pub returns-clause-each : goal.returns-clause-each
returns-clause-each c i l =
    let w = c.args.width in
    let s = c.args.start in
    let wide = c.requires.count in
    let two = c.give_raws-2.new.out in
    let three = c.give_raws-3.new.out in
    let t = c.args.triples.now in
    let y_there : s + i + w ≡ s + w + i = omega arith in
    let z_there : s + i + 2 * w ≡ s + 2 * w + i = omega arith in
    let x : get_or three (s + i) (pos 0) ≡ plane_at t.x i = c.give_raws-3.ensures.before (s + i) (omega arith) ∙ c.give_raws-2.ensures.before (s + i) (omega arith) ∙ c.give_raws.ensures.each i l in
    let y : get_or three (s + i + w) (pos 0) ≡ plane_at t.y i = c.give_raws-3.ensures.before (s + i + w) (omega arith) ∙ ap (λ k. get_or two k (pos 0)) y_there ∙ c.give_raws-2.ensures.each i l in
    let z : get_or three (s + i + 2 * w) (pos 0) ≡ plane_at t.z i = ap (λ k. get_or three k (pos 0)) z_there ∙ c.give_raws-3.ensures.each i l in
    triple_of_parts three w (s + i) (triple_at t i) x y z

pub returns-clause-raws : goal.returns-clause-raws
returns-clause-raws c h = c.give_raws-3.ensures.raws (c.give_raws-2.ensures.raws (c.give_raws.ensures.raws h))
