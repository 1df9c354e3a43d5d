use Rattle.std.proofs.Common.{arith, length, map, refl, ap, ◌∙◌, subst, [], ◌∷◌, ◌++◌}
use Rattle.sl_ast.specs.Names.{is_light}
use Rattle.sl_ast.specs.TreeView.{tree_of}
use Rattle.sl_ast.specs.declared.kinds.SlKind.TheVariants as kinds
use Rattle.sl_ast.specs.declared.typed.Value.TheVariants.{Number}
use Rattle.place_rows.specs.Layout.{row_length}
use Rattle.grid_machine.specs.Run.{rows_of, written_names}
use Rattle.grid_variables.specs.Points.{lines}
use Rattle.grid_variables.specs.Variables.{values_at}
use Rattle.sl_look_ups.specs.Naming.{binding_params}
use Rattle.grid_variables.specs.Places.{point_count}
use Rattle.grid_variables.proofs.Over.{over_long}
use Rattle.grid_rows.specs.Given.{param_rows, wanted_rows, all_rows}
use Rattle.grid_rows.specs.Rows.{triple_in}
use Rattle.grid_rows.specs.Wanted.{given_order}
use Rattle.displace_shade.proofs.BoundLaws.{bound_values, bound_rows, rows_given, uniforms_given}
use Rattle.displace_shade.proofs.GivenRows.{surface_rows_held}
use Rattle.displace_shade.proofs.Laws.{given_as, given_long, look_shapes, surface_law}
use Rattle.grid_code.specs.Masked.{State}
use Rattle.grid_code.specs.View.{block_of}
use Rattle.grid_machine.specs.Run.{lines_given, begun, Leaves}
use Rattle.dice.proofs.Directions.{cells_from}
use Rattle.core_codegen.specs.Correct.{Answers}
use Rattle.displace_shade.specs.Lamps.{lamp_light, lamp_asked, IsLeftUnder}
use Rattle.displace_shade.specs.Shaded.{image_at, spaces_of}
use Rattle.displace_shade.specs.Shop.{bound_value}
use Rattle.grid_variables.specs.Points.{columns, rows}
use Rattle.displace_shade.proofs.Unlit.{lights_unread, asked_as, asked_answer}
use Rattle.displace_shade.proofs.LampLaws.{lamps_answer}
use Rattle.displace_shade.proofs.runs.colour.Goals as goal

pub left_behind-requires-clause-given : goal.left_behind-requires-clause-given
left_behind-requires-clause-given c =
    let l = c.args.leaf.now in
    let b = c.args.bound.now in
    let t = tree_of b.compiled.now.tree in
    let code = b.compiled.now.code in
    let r = c.requires.on.runs in
    let fit = c.requires.on.variables in
    let w = c.wanted_by-wanted.result.named.now in
    let covers = c.wanted_by-wanted.ensures.named in
    let vs = values_at l (binding_params t) b.values.now in
    let front = param_rows l (binding_params t) code.params b.values.now in
    let given = given_as l t code b.values.now b.look_ups.now b.textures.now b.space.now r.code w covers vs (bound_values b r l fit) front (bound_rows b r l fit) c.args.variables.now c.requires.sized kinds.Surface c.requires.on.kind (surface_rows_held l c.args.variables.now c.requires.sized) _ c.wanted_by-wanted.ensures.kind c.in_ok-rows.rows.now
    (c.in_ok-rows.ensures.value ∙ ap (λ ps. ps ++ all_rows (wanted_rows c.wanted_by-wanted.result.kind w l c.args.variables.now) (given_order c.wanted_by-wanted.result.kind)) (rows_given l b _ c.parameters_of-parameters.ensures)) in
    let steps = c.in_ok-uniforms.ensures ∙ ap (λ us. us ++ Number (lines l).du ∷ Number (lines l).dv ∷ []) (uniforms_given l b _ c.parameters_of-parameters.ensures) in
    record {
      kind = ap is_light (r.code.kind ∙ c.requires.on.kind);
      written = ap (λ k. rows_of (written_names k)) (r.code.kind ∙ c.requires.on.kind);
      lamps = c.requires.lamps;
      uniforms = look_shapes l t code b.values.now b.look_ups.now b.textures.now b.space.now r.code w covers vs (bound_values b r l fit) front (bound_rows b r l fit) c.requires.on.kind c.in_ok-uniforms.uniforms.items steps;
      rows = given_long l t code b.values.now b.look_ups.now b.textures.now b.space.now r.code w covers vs (bound_values b r l fit) front (bound_rows b r l fit) c.args.variables.now c.in_ok-rows.rows.now given;
    }

pub left_behind-requires-clause-small : goal.left_behind-requires-clause-small
left_behind-requires-clause-small c = c.in_ok-rows.ensures.small

pub returns-clause-coloured : goal.returns-clause-coloured
returns-clause-coloured c =
    let n = point_count c.args.leaf.now in
    record {
      colours = ap (λ xs. length xs) c.in_ok-left.ensures.values.in_first ∙ over_long (triple_in c.in_ok-left.ensures.values.out (row_length n) 0) n;
      opacities = ap (λ xs. length xs) c.in_ok-left.ensures.values.in_second ∙ over_long (triple_in c.in_ok-left.ensures.values.out (row_length n) 3) n;
    }

pub returns-clause-sized : goal.returns-clause-sized
returns-clause-sized c =
    let n = point_count c.args.leaf.now in
    let a = ap (λ xs. length xs) c.in_ok-left.ensures.values.in_first ∙ over_long (triple_in c.in_ok-left.ensures.values.out (row_length n) 0) n in
    let b = ap (λ xs. length xs) c.in_ok-left.ensures.values.in_second ∙ over_long (triple_in c.in_ok-left.ensures.values.out (row_length n) 3) n in
    record { points = c.requires.sized.points; normals = c.requires.sized.normals; sights = c.requires.sized.sights; colours = omega (arith, a); opacities = omega (arith, b) }

pub returns-clause-hold : goal.returns-clause-hold
returns-clause-hold c =
    let l = c.args.leaf.now in
    let b = c.args.bound.now in
    let t = tree_of b.compiled.now.tree in
    let code = b.compiled.now.code in
    let r = c.requires.on.runs in
    let fit = c.requires.on.variables in
    let w = c.wanted_by-wanted.result.named.now in
    let covers = c.wanted_by-wanted.ensures.named in
    let vs = values_at l (binding_params t) b.values.now in
    let front = param_rows l (binding_params t) code.params b.values.now in
    let given = given_as l t code b.values.now b.look_ups.now b.textures.now b.space.now r.code w covers vs (bound_values b r l fit) front (bound_rows b r l fit) c.args.variables.now c.requires.sized kinds.Surface c.requires.on.kind (surface_rows_held l c.args.variables.now c.requires.sized) _ c.wanted_by-wanted.ensures.kind c.in_ok-rows.rows.now
    (c.in_ok-rows.ensures.value ∙ ap (λ ps. ps ++ all_rows (wanted_rows c.wanted_by-wanted.result.kind w l c.args.variables.now) (given_order c.wanted_by-wanted.result.kind)) (rows_given l b _ c.parameters_of-parameters.ensures)) in
    let steps = c.in_ok-uniforms.ensures ∙ ap (λ us. us ++ Number (lines l).du ∷ Number (lines l).dv ∷ []) (uniforms_given l b _ c.parameters_of-parameters.ensures) in
    let n = point_count l in
    let ls = lines_given (columns l) (rows l) code.params c.in_ok-uniforms.uniforms.items in
    let asked = map (lamp_asked ls n) c.args.lamps.now in
    let lights = map (lamp_light l) c.args.lamps.now in
    let answers : Answers n asked lights = lamps_answer l ls (cells_from l.p) (cells_from l.q) c.args.lamps.now c.requires.lamps in
    λ f h. surface_law l t code b.values.now b.look_ups.now b.textures.now b.space.now r.code w covers vs (bound_values b r l fit) front (bound_rows b r l fit) c.requires.on.kind c.args.variables.now _ asked lights c.in_ok-uniforms.uniforms.items c.in_ok-rows.rows.now c.in_ok-left.ensures.values.out answers given steps c.in_ok-left.ensures.values.left
    c.in_ok-left.ensures.values.in_first c.in_ok-left.ensures.values.in_second refl refl refl f h

pub returns-clause-unlit : goal.returns-clause-unlit
returns-clause-unlit c = λ asks lights.
    let l = c.args.leaf.now in
    let b = c.args.bound.now in
    let t = tree_of b.compiled.now.tree in
    let code = b.compiled.now.code in
    let r = c.requires.on.runs in
    let fit = c.requires.on.variables in
    let w = c.wanted_by-wanted.result.named.now in
    let covers = c.wanted_by-wanted.ensures.named in
    let vs = values_at l (binding_params t) b.values.now in
    let front = param_rows l (binding_params t) code.params b.values.now in
    let given = given_as l t code b.values.now b.look_ups.now b.textures.now b.space.now r.code w covers vs (bound_values b r l fit) front (bound_rows b r l fit) c.args.variables.now c.requires.sized kinds.Surface c.requires.on.kind (surface_rows_held l c.args.variables.now c.requires.sized) _ c.wanted_by-wanted.ensures.kind c.in_ok-rows.rows.now
    (c.in_ok-rows.ensures.value ∙ ap (λ ps. ps ++ all_rows (wanted_rows c.wanted_by-wanted.result.kind w l c.args.variables.now) (given_order c.wanted_by-wanted.result.kind)) (rows_given l b _ c.parameters_of-parameters.ensures)) in
    let steps = c.in_ok-uniforms.ensures ∙ ap (λ us. us ++ Number (lines l).du ∷ Number (lines l).dv ∷ []) (uniforms_given l b _ c.parameters_of-parameters.ensures) in
    let n = point_count l in
    let ls = lines_given (columns l) (rows l) code.params c.in_ok-uniforms.uniforms.items in
    let asked = map asked_as lights in
    let answers : Answers n asked lights = asked_answer n lights in
    let same = lights_unread ls (spaces_of l (bound_value b)) (image_at (bound_value b)) (map (lamp_asked ls n) c.args.lamps.now) asked n 65536 (block_of code.nodes) asks in
    let left : IsLeftUnder l b asked c.in_ok-uniforms.uniforms.items c.in_ok-rows.rows.now c.in_ok-left.ensures.values.out =
    subst (λ (k : State → State). Leaves code.kind n c.in_ok-left.ensures.values.out (k (begun code.kind code.params n c.in_ok-uniforms.uniforms.items c.in_ok-rows.rows.now))) same c.in_ok-left.ensures.values.left in
    λ f h. surface_law l t code b.values.now b.look_ups.now b.textures.now b.space.now r.code w covers vs (bound_values b r l fit) front (bound_rows b r l fit) c.requires.on.kind c.args.variables.now _ asked lights c.in_ok-uniforms.uniforms.items c.in_ok-rows.rows.now c.in_ok-left.ensures.values.out answers given steps left
    c.in_ok-left.ensures.values.in_first c.in_ok-left.ensures.values.in_second refl refl refl f h
