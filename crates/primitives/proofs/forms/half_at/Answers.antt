use Rattle.std.proofs.Common.{◌≡◌, ◌∙◌, ap, rules}
use Rattle.std.specs.Prelude.{pos, neg_ℤ}
use Rattle.primitives.specs.Quadrics.{round_at, circle}
use Rattle.primitives.proofs.Halves.{is_south, is_north}
use Rattle.primitives.proofs.forms.half_at.Goals as goal

pub returns-then-half-eq0 : goal.returns-then-half-eq0
returns-then-half-eq0 c =
    let m = c.args.object.now in
    let q = c.args.quarter in
    let r = c.args.radius in
    let pole : c.new-pole.result ≡ circle (pos 0) (neg_ℤ r) =
    c.new-pole.ensures ∙ ap (λ x. circle x c.neg.result) c.sat-then-half-eq0.ensures ∙ ap (circle (pos 0)) c.neg.ensures in
    let corner : c.new-corner.result ≡ circle r (neg_ℤ r) = c.new-corner.ensures ∙ ap (circle r) c.neg-then-half-eq0.ensures in
    let equator : c.new-equator.result ≡ circle r (pos 0) = c.new-equator.ensures ∙ ap (circle r) c.sat.ensures in
    c.round_at.ensures
    ∙ ap (λ x. round_at m q x c.new-corner.result c.new-equator.result) pole
    ∙ ap (λ x. round_at m q (circle (pos 0) (neg_ℤ r)) x c.new-equator.result) corner
    ∙ ap (round_at m q (circle (pos 0) (neg_ℤ r)) (circle r (neg_ℤ r))) equator
    ∙ is_south m q c.args.half r (search rules)

pub returns-else-half-eq0 : goal.returns-else-half-eq0
returns-else-half-eq0 c =
    let m = c.args.object.now in
    let q = c.args.quarter in
    let r = c.args.radius in
    let equator : c.new-equator.result ≡ circle r (pos 0) = c.new-equator.ensures ∙ ap (circle r) c.sat.ensures in
    let corner : c.new-corner-else-half-eq0.result ≡ circle r r = c.new-corner-else-half-eq0.ensures in
    let pole : c.new-pole-else-half-eq0.result ≡ circle (pos 0) r = c.new-pole-else-half-eq0.ensures ∙ ap (λ x. circle x r) c.sat-else-half-eq0.ensures in
    c.round_at-else-half-eq0.ensures
    ∙ ap (λ x. round_at m q x c.new-corner-else-half-eq0.result c.new-pole-else-half-eq0.result) equator
    ∙ ap (λ x. round_at m q (circle r (pos 0)) x c.new-pole-else-half-eq0.result) corner
    ∙ ap (round_at m q (circle r (pos 0)) (circle r r)) pole
    ∙ is_north m q c.args.half r (λ e. search rules)
