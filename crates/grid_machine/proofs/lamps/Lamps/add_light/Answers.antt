use Rattle.std.proofs.Common.{◌<◌, Bool, false, length, sym, ap, ◌∙◌, subst}
use Rattle.std.proofs.lemmas.List.{get_or-map, length-map}
use Rattle.std.proofs.lemmas.List.Elements.{All-get_or}
use Rattle.std.specs.Prelude.{get_or}
use Rattle.number_rows.specs.Planes.{triple_in}
use Rattle.light_rows.specs.Seen.{at_place, gain_at, with_gain, unasked, counts_in, HasPlaces, HasRows, HasBegun, IsSum, size}
use Rattle.grid_machine.specs.Lamps.{IsLevel, IsKept, asked_by}
use Rattle.grid_machine.specs.declared.lamp.Lamp.{Lamp}
use Rattle.grid_machine.specs.declared.lamps.Lantern.{Lantern}
use Rattle.grid_machine.proofs.Lanterns.{asked_there, uncounted_by, get_or_any}
use Rattle.grid_machine.proofs.lamps.Lamps.add_light.Goals as goal

pub add-requires-clause-rows : goal.add-requires-clause-rows
add-requires-clause-rows c =
    let s = c.args.self.now in
    let n = c.args.n in
    let t = c.light.new.self in
    let ks = t.lanterns.items in
    let k = c.index-then-counts.result.now in
    let l = subst (λ m. n < m) (sym (sym (length-map ks asked_by) ∙ ap length c.light.ensures.lamps ∙ length-map s.lanterns.items asked_by)) c.requires.many in
    let level = subst (IsLevel t.places t.room) (sym c.index-then-counts.ensures) (All-get_or (IsLevel t.places t.room) ks n k l t.level) in
    subst (λ p. HasRows p t.work) (sym level.rows.colours) t.rows

pub add-requires-clause-answers : goal.add-requires-clause-answers
add-requires-clause-answers c =
    let s = c.args.self.now in
    let n = c.args.n in
    let t = c.light.new.self in
    let ks = t.lanterns.items in
    let k = c.index-then-counts.result.now in
    let l = subst (λ m. n < m) (sym (sym (length-map ks asked_by) ∙ ap length c.light.ensures.lamps ∙ length-map s.lanterns.items asked_by)) c.requires.many in
    let level = subst (IsLevel t.places t.room) (sym c.index-then-counts.ensures) (All-get_or (IsLevel t.places t.room) ks n k l t.level) in
    subst (λ p. HasPlaces p k.answers) (sym level.rows.colours) level.rows

pub add-requires-clause-sum : goal.add-requires-clause-sum
add-requires-clause-sum c =
    let s = c.args.self.now in
    let n = c.args.n in
    let t = c.light.new.self in
    let ks = t.lanterns.items in
    let k = c.index-then-counts.result.now in
    let l = subst (λ m. n < m) (sym (sym (length-map ks asked_by) ∙ ap length c.light.ensures.lamps ∙ length-map s.lanterns.items asked_by)) c.requires.many in
    let level = subst (IsLevel t.places t.room) (sym c.index-then-counts.ensures) (All-get_or (IsLevel t.places t.room) ks n k l t.level) in
    let e = level.rows.colours ∙ c.light.ensures.places in
    subst (λ p. IsSum p c.args.sum.now) (sym e) c.requires.sum

pub add-requires-clause-begun : goal.add-requires-clause-begun
add-requires-clause-begun c =
    let s = c.args.self.now in
    let n = c.args.n in
    let t = c.light.new.self in
    let ks = t.lanterns.items in
    let k = c.index-then-counts.result.now in
    let l = subst (λ m. n < m) (sym (sym (length-map ks asked_by) ∙ ap length c.light.ensures.lamps ∙ length-map s.lanterns.items asked_by)) c.requires.many in
    let level = subst (IsLevel t.places t.room) (sym c.index-then-counts.ensures) (All-get_or (IsLevel t.places t.room) ks n k l t.level) in
    let e = level.rows.colours ∙ c.light.ensures.places in
    subst (HasBegun (size k.answers.colours) c.args.sum.now) (sym c.light.ensures.work) (subst (λ p. HasBegun p c.args.sum.now s.work) (sym e) c.requires.begun)

pub add-requires-clause-counts : goal.add-requires-clause-counts
add-requires-clause-counts c =
    let s = c.args.self.now in
    let n = c.args.n in
    let t = c.light.new.self in
    let ks = t.lanterns.items in
    let k = c.index-then-counts.result.now in
    let l = subst (λ m. n < m) (sym (sym (length-map ks asked_by) ∙ ap length c.light.ensures.lamps ∙ length-map s.lanterns.items asked_by)) c.requires.many in
    let level = subst (IsLevel t.places t.room) (sym c.index-then-counts.ensures) (All-get_or (IsLevel t.places t.room) ks n k l t.level) in
    let before = c.index.result.now in
    let same = ap (λ x. x.lamp) c.index-then-counts.ensures ∙ c.light.ensures.lamp k ∙ ap (λ x. x.lamp) (get_or_any s.lanterns.items n k before c.requires.many ∙ sym c.index.ensures) in
    ap (counts_in c.args.sum.now) (level.ambient ∙ ap (λ (x : Lamp). x.code.now.ambient) same) ∙ sym c.counts.ensures ∙ c.if-counts.true

pub add-requires-clause-x : goal.add-requires-clause-x
add-requires-clause-x c =
    let s = c.args.self.now in
    let n = c.args.n in
    let t = c.light.new.self in
    let ks = t.lanterns.items in
    let k = c.index-then-counts.result.now in
    let l = subst (λ m. n < m) (sym (sym (length-map ks asked_by) ∙ ap length c.light.ensures.lamps ∙ length-map s.lanterns.items asked_by)) c.requires.many in
    let level = subst (IsLevel t.places t.room) (sym c.index-then-counts.ensures) (All-get_or (IsLevel t.places t.room) ks n k l t.level) in
    let e = level.rows.colours ∙ c.light.ensures.places in
    c.requires.x ∙ sym e

pub add-requires-clause-y : goal.add-requires-clause-y
add-requires-clause-y c =
    let s = c.args.self.now in
    let n = c.args.n in
    let t = c.light.new.self in
    let ks = t.lanterns.items in
    let k = c.index-then-counts.result.now in
    let l = subst (λ m. n < m) (sym (sym (length-map ks asked_by) ∙ ap length c.light.ensures.lamps ∙ length-map s.lanterns.items asked_by)) c.requires.many in
    let level = subst (IsLevel t.places t.room) (sym c.index-then-counts.ensures) (All-get_or (IsLevel t.places t.room) ks n k l t.level) in
    let e = level.rows.colours ∙ c.light.ensures.places in
    c.requires.y ∙ sym e

pub add-requires-clause-z : goal.add-requires-clause-z
add-requires-clause-z c =
    let s = c.args.self.now in
    let n = c.args.n in
    let t = c.light.new.self in
    let ks = t.lanterns.items in
    let k = c.index-then-counts.result.now in
    let l = subst (λ m. n < m) (sym (sym (length-map ks asked_by) ∙ ap length c.light.ensures.lamps ∙ length-map s.lanterns.items asked_by)) c.requires.many in
    let level = subst (IsLevel t.places t.room) (sym c.index-then-counts.ensures) (All-get_or (IsLevel t.places t.room) ks n k l t.level) in
    let e = level.rows.colours ∙ c.light.ensures.places in
    c.requires.z ∙ sym e

pub invariant_of-self-then-counts : goal.invariant_of-self-then-counts
invariant_of-self-then-counts c =
    let s = c.args.self.now in
    let n = c.args.n in
    let t = c.light.new.self in
    let ks = t.lanterns.items in
    let k = c.index-then-counts.result.now in
    let l = subst (λ m. n < m) (sym (sym (length-map ks asked_by) ∙ ap length c.light.ensures.lamps ∙ length-map s.lanterns.items asked_by)) c.requires.many in
    let level = subst (IsLevel t.places t.room) (sym c.index-then-counts.ensures) (All-get_or (IsLevel t.places t.room) ks n k l t.level) in
    record { level = t.level; kept = t.kept; long = t.long; rows = subst (λ p. HasRows p c.add.new.self) level.rows.colours c.add.ensures.rows; whole = t.whole; of_room = t.of_room }

pub returns-then-counts-clause-each : goal.returns-then-counts-clause-each
returns-then-counts-clause-each c q e i m =
    let s = c.args.self.now in
    let n = c.args.n in
    let t = c.light.new.self in
    let ks = t.lanterns.items in
    let k = c.index-then-counts.result.now in
    let l = subst (λ m. n < m) (sym (sym (length-map ks asked_by) ∙ ap length c.light.ensures.lamps ∙ length-map s.lanterns.items asked_by)) c.requires.many in
    let level = subst (IsLevel t.places t.room) (sym c.index-then-counts.ensures) (All-get_or (IsLevel t.places t.room) ks n k l t.level) in
    let is = c.index-then-counts.ensures in
    let given : Lantern → Bool = λ x. x.given in
    let kept = subst (IsKept t.places t.points) (sym is) (All-get_or (IsKept t.places t.points) ks n k l t.kept) in
    let answered = kept.answered (ap given is ∙ sym (get_or-map given ks n k false l) ∙ c.light.ensures.given) q (λ j b. e j (subst (λ p. j < p) c.light.ensures.places b) ∙ ap (λ x. at_place x j) (sym c.light.ensures.points)) in
    let asked = ap (λ x. asked_by x q i) is ∙ asked_there ks n k q i l ∙ ap (λ gs. get_or gs n unasked q i) c.light.ensures.lamps in
    c.add.ensures.each (asked_by k q) (λ j b. answered j (subst (λ p. j < p) level.rows.colours b)) i (subst (λ p. i < p) (sym (level.rows.colours ∙ c.light.ensures.places)) m)
    ∙ ap (λ x. with_gain (triple_in c.args.x.now c.args.y.now c.args.z.now i) (gain_at c.args.sum.now i x)) asked

pub returns-else-counts-clause-each : goal.returns-else-counts-clause-each
returns-else-counts-clause-each c q e i m =
    let ks = c.args.self.now.lanterns.items in
    let n = c.args.n in
    let k = c.index.result.now in
    let sum = c.args.sum.now in
    let asked = ap (λ x. asked_by x q i) c.index.ensures ∙ asked_there ks n k q i c.requires.many in
    sym (ap (with_gain (triple_in c.args.x.now c.args.y.now c.args.z.now i)) (sym (ap (gain_at sum i) asked) ∙ uncounted_by sum i k q i (sym c.counts.ensures ∙ c.if-counts.false)))
