use Rattle.std.proofs.Common.{◌≡◌, ◌<◌, map, length, get_or, refl, sym, ap, ◌∙◌, subst, arith}
use Rattle.std.proofs.lemmas.List.{length-map}
use Rattle.fixed_math.specs.Axes.{origin}
use Rattle.number_rows.specs.Planes.{triple_in}
use Rattle.light_rows.specs.Seen.{at_place, unasked, gain_at, with_gain, gained, answers_at, HasBegun}
use Rattle.light_rows.proofs.Totals.{totals_next, none_left}
use Rattle.grid_machine.specs.Lamps.{asked_by}
use Rattle.grid_machine.proofs.lamps.LampsIllumination.totals.Goals as goal

pub loop-n-preserved : goal.loop-n-preserved
loop-n-preserved c =
    let s0 = c.turn.new.self in
    let sum = c.args.sum.now in
    let n = c.loop-n.n in
    let inv = c.loop-n.invariant in
    let a = c.add_light.ensures in
    let new = c.add_light.new in
    let fs = map asked_by s0.lanterns.items in
    let l : n < length fs = let z = c.len-n-end.ensures in let m = length-map s0.lanterns.items asked_by in omega arith in
    record {
      places = a.places ∙ inv.places;
      lamps = a.lamps ∙ inv.lamps;
      points = λ i b. ap (λ t. at_place t i) a.points ∙ inv.points i b;
      begun = subst (λ p. HasBegun p sum new.self.work) inv.places a.begun;
      x_long = a.x ∙ inv.x_long;
      y_long = a.y ∙ inv.y_long;
      z_long = a.z ∙ inv.z_long;
      rest = λ q e i b.
          totals_next (gain_at sum i) fs q i n (triple_in c.loop-n.x c.loop-n.y c.loop-n.z i) (triple_in new.x new.y new.z i) (get_or fs n unasked q i) _ l refl
          (subst (λ gs. triple_in new.x new.y new.z i ≡ with_gain (triple_in c.loop-n.x c.loop-n.y c.loop-n.z i) (gain_at sum i (get_or gs n unasked q i))) inv.lamps
          (a.each q (λ j k. let m = subst (λ p. j < p) inv.places k in e j m ∙ sym (inv.points j m)) i (subst (λ p. i < p) (sym inv.places) b)))
          (inv.rest q e i b);
    }

pub returns-clause-each : goal.returns-clause-each
returns-clause-each c q e i b =
    let s0 = c.turn.new.self in
    let t = c.turn.ensures in
    let fs = map asked_by s0.lanterns.items in
    let f = gain_at c.args.sum.now i in
    let none = none_left fs c.loop-n.n (let z = c.len-n-end.ensures in let m = length-map s0.lanterns.items asked_by in omega arith) in
    sym (ap (λ gs. gained f (triple_in c.loop-n.x c.loop-n.y c.loop-n.z i) (answers_at gs q i)) none)
    ∙ c.loop-n.invariant.rest q (λ j k. e j (subst (λ p. j < p) t.places k)) i (subst (λ p. i < p) (sym t.places) b)
    ∙ ap (λ gs. gained f origin (answers_at gs q i)) t.lamps
