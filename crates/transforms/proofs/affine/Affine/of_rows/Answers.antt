use Rattle.std.proofs.Common.{rules, ◌≡◌, ◌∙◌, arith, false, ap, to_z, of_z}
use Rattle.std.specs.Int.{w128}
use Rattle.std.proofs.lemmas.Grind.{common_steps}
use Rattle.std.proofs.lemmas.Int.{to_z-of_z}
use Rattle.transforms.specs.Matrix.{fitted}
use Rattle.transforms.specs.Map.{is_zero, widened_row}
use Rattle.transforms.specs.Concat.{determinant, inverted, map_of_rows}
use Rattle.transforms.proofs.Signs.{is_zero-false}
use Rattle.transforms.proofs.affine.Affine.of_rows.Goals as goal
use Rattle.transforms.proofs.affine.Affine.of_rows.Goals.{After-inverted}

module _ (c : After-inverted) where
  read : to_z w128 (of_z w128 c.determinant-d.result) ≡ determinant c.args.a.now c.args.b.now c.args.c.now
  read = to_z-of_z w128 c.determinant-d.result (record { sfits = c.determinant-d.type_inv }) ∙ c.determinant-d.ensures.value

  nonzero : is_zero (determinant c.args.a.now c.args.b.now c.args.c.now) ≡ false
  nonzero = is_zero-false (determinant c.args.a.now c.args.b.now c.args.c.now) (λ e. c.if-d-eq0.false (ap (of_z w128) (c.determinant-d.ensures.value ∙ e)))

  back : c.inverted.result ≡ fitted (inverted c.args.a.now c.args.b.now c.args.c.now (widened_row c.args.t.now))
  back = search rules

pub returns-in_err-back : goal.returns-in_err-back
unfolding map_of_rows
returns-in_err-back c =
    let here = (goal.at.returns-in_err-back c).After-inverted in
    let n = nonzero here in
    let i = back here in
    grind (arith, common_steps, n, i)

pub returns : goal.returns
unfolding map_of_rows
returns c =
    let here = (goal.at.returns c).After-inverted in
    let n = nonzero here in
    let i = back here in
    let e = read here in
    grind (arith, common_steps, n, i, e)
