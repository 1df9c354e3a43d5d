use Rattle.std.proofs.Common.{◌≡◌, ◌∙◌, ap, sym, subst, arith}
use Rattle.fixed_math.specs.declared.vec3.Vec3.{Vec3}
use Rattle.patches.specs.Boxes.{IsWithin}
use Rattle.moving.specs.Closing.{closing_place, IsNearBox}
use Rattle.moving.specs.Ways.{place_on_way}
use Rattle.moving.specs.MovingBoxes.{moving_box}
use Rattle.moving.specs.MovingLaws.{stays_near}
use Rattle.moving.proofs.moving.Moving.closing_at.Goals as goal

pub returns-clause-stays : goal.returns-clause-stays
returns-clause-stays g c = λ bound r n near hr at_ h.
    let first = c.args.self.now.first.now in
    let last = c.args.self.now.last.now in
    let opening : Vec3 = g.S.Surface.point_of first c.args.u c.args.v in
    let closing : Vec3 = g.S.Surface.point_of last c.args.u c.args.v in
    let e : c.closing_place.result ≡ closing_place closing opening c.args.after =
    c.closing_place.ensures.value
    ∙ ap (λ (p : Vec3). closing_place p c.point-2.result c.args.after) c.point.ensures.value
    ∙ ap (λ (p : Vec3). closing_place closing p c.args.after) c.point-2.ensures.value in
    let small : IsWithin 2147483647 closing = subst (IsWithin 2147483647) c.point.ensures.value (λ a. let s = c.point.ensures.small a in omega (arith, s)) in
    subst (λ (q : Vec3). IsNearBox bound (moving_box g.S.Surface.box_in first last r) (place_on_way n c.args.after q)) (sym e)
    (stays_near g.S.Surface.point_of g.S.Surface.box_in g.met.S.Surface.inside first last r c.args.u c.args.v n bound c.args.after hr at_ h small near)
