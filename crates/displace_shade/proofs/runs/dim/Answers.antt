use Rattle.std.proofs.Common.{arith, length, refl, ap, ◌∙◌, ◌++◌}
use Rattle.sl_ast.specs.Names.{is_light}
use Rattle.sl_ast.specs.TreeView.{tree_of}
use Rattle.sl_ast.specs.declared.kinds.SlKind.TheVariants as kinds
use Rattle.place_rows.specs.Layout.{row_length}
use Rattle.grid_machine.specs.Run.{rows_of, written_names}
use Rattle.grid_variables.specs.Variables.{values_at}
use Rattle.sl_look_ups.specs.Naming.{binding_params}
use Rattle.grid_variables.specs.Places.{point_count}
use Rattle.grid_variables.proofs.Over.{over_long}
use Rattle.grid_rows.specs.Given.{param_rows, wanted_rows, all_rows}
use Rattle.grid_rows.specs.Rows.{triple_in}
use Rattle.grid_rows.specs.Wanted.{given_order}
use Rattle.displace_shade.proofs.BoundLaws.{bound_values, bound_rows, rows_given, uniforms_given}
use Rattle.displace_shade.proofs.GivenRows.{volume_rows_held}
use Rattle.displace_shade.proofs.Laws.{given_as, given_long, volume_shapes, volume_law}
use Rattle.displace_shade.proofs.runs.dim.Goals as goal

pub left_behind-requires-clause-given : goal.left_behind-requires-clause-given
left_behind-requires-clause-given c =
    let l = c.args.leaf.now in
    let b = c.args.bound.now in
    let t = tree_of b.compiled.now.tree in
    let code = b.compiled.now.code in
    let r = c.requires.on.runs in
    let fit = c.requires.on.variables in
    let w = c.wanted_by-wanted.result.named.now in
    let covers = c.wanted_by-wanted.ensures.named in
    let vs = values_at l (binding_params t) b.values.now in
    let front = param_rows l (binding_params t) code.params b.values.now in
    let given = given_as l t code b.values.now b.look_ups.now b.textures.now b.space.now r.code w covers vs (bound_values b r l fit) front (bound_rows b r l fit) c.args.variables.now c.requires.sized kinds.Volume c.requires.on.kind (volume_rows_held l c.args.variables.now c.requires.sized c.requires.coloured) _ c.wanted_by-wanted.ensures.kind c.in_ok-rows.rows.now
    (c.in_ok-rows.ensures.value ∙ ap (λ ps. ps ++ all_rows (wanted_rows c.wanted_by-wanted.result.kind w l c.args.variables.now) (given_order c.wanted_by-wanted.result.kind)) (rows_given l b _ c.parameters_of-parameters.ensures)) in
    let steps = c.in_ok-uniforms.ensures ∙ uniforms_given l b _ c.parameters_of-parameters.ensures in
    record {
      kind = ap is_light (r.code.kind ∙ c.requires.on.kind);
      written = ap (λ k. rows_of (written_names k)) (r.code.kind ∙ c.requires.on.kind);
      lamps = λ k d m. absurd (omega arith);
      uniforms = volume_shapes l t code b.values.now b.look_ups.now b.textures.now b.space.now r.code w covers vs (bound_values b r l fit) front (bound_rows b r l fit) c.requires.on.kind c.in_ok-uniforms.uniforms.items steps;
      rows = given_long l t code b.values.now b.look_ups.now b.textures.now b.space.now r.code w covers vs (bound_values b r l fit) front (bound_rows b r l fit) c.args.variables.now c.in_ok-rows.rows.now given;
    }

pub left_behind-requires-clause-small : goal.left_behind-requires-clause-small
left_behind-requires-clause-small c = c.in_ok-rows.ensures.small

pub returns-clause-coloured : goal.returns-clause-coloured
returns-clause-coloured c =
    let n = point_count c.args.leaf.now in
    record {
      colours = ap (λ xs. length xs) c.in_ok-left.ensures.values.in_first ∙ over_long (triple_in c.in_ok-left.ensures.values.out (row_length n) 0) n;
      opacities = ap (λ xs. length xs) c.in_ok-left.ensures.values.in_second ∙ over_long (triple_in c.in_ok-left.ensures.values.out (row_length n) 3) n;
    }

pub returns-clause-sized : goal.returns-clause-sized
returns-clause-sized c =
    let n = point_count c.args.leaf.now in
    let a = ap (λ xs. length xs) c.in_ok-left.ensures.values.in_first ∙ over_long (triple_in c.in_ok-left.ensures.values.out (row_length n) 0) n in
    let b = ap (λ xs. length xs) c.in_ok-left.ensures.values.in_second ∙ over_long (triple_in c.in_ok-left.ensures.values.out (row_length n) 3) n in
    record { points = c.requires.sized.points; normals = c.requires.sized.normals; sights = c.requires.sized.sights; colours = omega (arith, a); opacities = omega (arith, b) }

pub returns-clause-hold : goal.returns-clause-hold
returns-clause-hold c =
    let l = c.args.leaf.now in
    let b = c.args.bound.now in
    let t = tree_of b.compiled.now.tree in
    let code = b.compiled.now.code in
    let r = c.requires.on.runs in
    let fit = c.requires.on.variables in
    let w = c.wanted_by-wanted.result.named.now in
    let covers = c.wanted_by-wanted.ensures.named in
    let vs = values_at l (binding_params t) b.values.now in
    let front = param_rows l (binding_params t) code.params b.values.now in
    let given = given_as l t code b.values.now b.look_ups.now b.textures.now b.space.now r.code w covers vs (bound_values b r l fit) front (bound_rows b r l fit) c.args.variables.now c.requires.sized kinds.Volume c.requires.on.kind (volume_rows_held l c.args.variables.now c.requires.sized c.requires.coloured) _ c.wanted_by-wanted.ensures.kind c.in_ok-rows.rows.now
    (c.in_ok-rows.ensures.value ∙ ap (λ ps. ps ++ all_rows (wanted_rows c.wanted_by-wanted.result.kind w l c.args.variables.now) (given_order c.wanted_by-wanted.result.kind)) (rows_given l b _ c.parameters_of-parameters.ensures)) in
    let steps = c.in_ok-uniforms.ensures ∙ uniforms_given l b _ c.parameters_of-parameters.ensures in
    λ f h. volume_law l t code b.values.now b.look_ups.now b.textures.now b.space.now r.code w covers vs (bound_values b r l fit) front (bound_rows b r l fit) c.requires.on.kind code.placed c.args.variables.now _ c.in_ok-uniforms.uniforms.items c.in_ok-rows.rows.now c.in_ok-left.ensures.values.out given steps c.in_ok-left.ensures.values.left
    c.in_ok-left.ensures.values.in_first c.in_ok-left.ensures.values.in_second refl refl refl f h
