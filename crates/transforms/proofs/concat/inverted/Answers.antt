use Rattle.std.proofs.Common.{rules, ◌≡◌, arith}
use Rattle.std.proofs.lemmas.Grind.{common_steps}
use Rattle.std.proofs.lemmas.Int.{to_z-of_z}
use Rattle.transforms.specs.Matrix.{fitted_row}
use Rattle.transforms.specs.Concat.{cross, determinant, inverse_row, inverted}
use Rattle.transforms.proofs.concat.inverted.Goals as goal
use Rattle.transforms.proofs.concat.inverted.Goals.{After-inverse_row, After-inverse_row-2, After-inverse_row-3}

module _ (c : After-inverse_row) where
  row_x : c.inverse_row.result ≡ fitted_row (inverse_row (cross c.args.b.now c.args.c.now).x (cross c.args.c.now c.args.a.now).x (cross c.args.a.now c.args.b.now).x (determinant c.args.a.now c.args.b.now c.args.c.now))
  row_x = search (rules, to_z-of_z)

module _ (c : After-inverse_row-2) where
  row_y : c.inverse_row-2.result ≡ fitted_row (inverse_row (cross c.args.b.now c.args.c.now).y (cross c.args.c.now c.args.a.now).y (cross c.args.a.now c.args.b.now).y (determinant c.args.a.now c.args.b.now c.args.c.now))
  row_y = search (rules, to_z-of_z)

module _ (c : After-inverse_row-3) where
  row_z : c.inverse_row-3.result ≡ fitted_row (inverse_row (cross c.args.b.now c.args.c.now).z (cross c.args.c.now c.args.a.now).z (cross c.args.a.now c.args.b.now).z (determinant c.args.a.now c.args.b.now c.args.c.now))
  row_z = search (rules, to_z-of_z)

pub returns-in_err-x : goal.returns-in_err-x
unfolding inverted
returns-in_err-x c = let x = row_x (goal.at.returns-in_err-x c).After-inverse_row in grind (arith, common_steps, x)

pub returns-in_err-y : goal.returns-in_err-y
unfolding inverted
returns-in_err-y c =
    let x = row_x (goal.at.returns-in_err-y c).After-inverse_row in
    let y = row_y (goal.at.returns-in_err-y c).After-inverse_row-2 in
    grind (arith, common_steps, x, y)

pub returns-in_err-z : goal.returns-in_err-z
unfolding inverted
returns-in_err-z c =
    let x = row_x (goal.at.returns-in_err-z c).After-inverse_row in
    let y = row_y (goal.at.returns-in_err-z c).After-inverse_row-2 in
    let z = row_z (goal.at.returns-in_err-z c).After-inverse_row-3 in
    grind (arith, common_steps, x, y, z)

pub returns-in_err-shift : goal.returns-in_err-shift
unfolding inverted
returns-in_err-shift c =
    let x = row_x (goal.at.returns-in_err-shift c).After-inverse_row in
    let y = row_y (goal.at.returns-in_err-shift c).After-inverse_row-2 in
    let z = row_z (goal.at.returns-in_err-shift c).After-inverse_row-3 in
    grind (arith, common_steps, x, y, z)

pub returns : goal.returns
unfolding inverted
returns c =
    let x = row_x (goal.at.returns c).After-inverse_row in
    let y = row_y (goal.at.returns c).After-inverse_row-2 in
    let z = row_z (goal.at.returns c).After-inverse_row-3 in
    grind (arith, common_steps, x, y, z)
