-- The statements that are nodes, and what stands behind the word or the name of a node.
use Rattle.std.specs.Prelude.{ℕ, Bool, false, List, [], ◌∷◌, ◌++◌, ◌&&◌}
use Rattle.sl_ast.specs.declared.kinds.SlType.{SlType}
use Rattle.sl_ast.specs.declared.kinds.ControlCode.TheVariants.{T3}
use Rattle.sl_ast.specs.declared.kinds.LightStmt.{LightStmt}
use Rattle.sl_ast.specs.declared.operations.Operation.{Operation}
use Rattle.sl_ast.specs.declared.typed.TreeFormal.{TreeFormal}
use Rattle.sl_ast.specs.Typed.{Expr, Exprs, Stmt, Stmts, group}
use Rattle.sl_ast.specs.Classes.{classes, classes_args, classes_stmt, classes_stmts, formal_classes, after_all, is_uniform, stmt_uniform, stmts_uniform, is_uniform_loop}
use Rattle.sl_ast.specs.Settled.{Spot, Settles, ◌then◌, unless, goes_wrong, settled_formals, in_control, in_loop, in_lights, settled_word, settled_operation, settled_declare, settled_set, settled_expr, settled_args, settled_stmt, settled_stmts}

-- what a statement itself adds to the list of classes: a group is no node
abbrev pub node_class : Stmt → Bool → List Bool
node_class (group body) u = []
node_class _ u = u ∷ []

-- the classes behind that of an `if`, of a `while`, and of a statement over lights
abbrev pub branch_classes : Expr → Stmt → List Bool → Bool → List Bool
branch_classes e s us u = classes e us u ++ classes_stmt s us (u && is_uniform e us)

abbrev pub branches_classes : Expr → Stmt → Stmt → List Bool → Bool → List Bool
branches_classes e s r us u = classes e us u ++ (classes_stmt s us (u && is_uniform e us) ++ classes_stmt r us (u && is_uniform e us))

abbrev pub while_classes : Expr → Stmt → List Bool → Bool → List Bool
while_classes e s us u = classes e us (is_uniform_loop e s us u) ++ classes_stmt s us (is_uniform_loop e s us u)

abbrev pub lights_classes : Exprs → Stmt → List Bool → Bool → List Bool
lights_classes args s us u = classes_args args us u ++ classes_stmt s us false

-- the classes behind that of a `for`
abbrev pub for_classes : Stmts → Expr → Stmts → Stmt → List Bool → Bool → List Bool
for_classes a e b s us u =
    classes_stmts a us u ++ (classes e us (is_uniform_loop e s us u) ++
    (classes_stmts b us (is_uniform_loop e s us u) ++ classes_stmt s us (is_uniform_loop e s us u)))

-- nothing varying stands in the parts of an `if` with an `else`, and of a `for`
abbrev pub branches_uniform : Expr → Stmt → Stmt → List Bool → Bool
branches_uniform e s r us = is_uniform e us && (stmt_uniform s us && stmt_uniform r us)

abbrev pub for_uniform : Stmts → Expr → Stmts → Stmt → List Bool → Bool
for_uniform a e b s us = stmts_uniform a us && (is_uniform e us && (stmts_uniform b us && stmt_uniform s us))

-- the faults of an operation, a call and its inside
abbrev pub settled_applied : Operation → Exprs → ℕ → List Bool → Spot → Bool → Settles
settled_applied operation args line us c lit = settled_operation operation args line us c lit then settled_args args us c

abbrev pub settled_inside : List TreeFormal → Stmts → Expr → Spot → Bool → Settles
settled_inside formals body value c lit =
    settled_stmts body (formal_classes formals) c lit then settled_expr value (after_all body (formal_classes formals)) c

abbrev pub settled_call : Exprs → List TreeFormal → Stmts → Expr → ℕ → List Bool → Spot → Bool → Settles
settled_call args formals body value line us c lit =
    unless (goes_wrong args formals us) T3 line
    (settled_formals formals lit then settled_stmts body (formal_classes formals) c
    then settled_expr value (after_all body (formal_classes formals)) c then settled_args args us c)

-- those of statements
abbrev pub settled_declared : Bool → SlType → Expr → ℕ → List Bool → Spot → Bool → Settles
settled_declared uniform kind e line us c lit = settled_declare uniform kind e line us lit then settled_expr e us c

abbrev pub settled_assigned : Bool → Expr → ℕ → List Bool → Spot → Bool → Settles
settled_assigned uniform e line us c lit = settled_set uniform e line us c lit then settled_expr e us c

abbrev pub settled_branch : Expr → Stmt → List Bool → Spot → Bool → Settles
settled_branch e s us c lit = settled_expr e us c lit then settled_stmt s us (in_control (c.uniform && is_uniform e us) c)

abbrev pub settled_branches : Expr → Stmt → Stmt → List Bool → Spot → Bool → Settles
settled_branches e s r us c lit =
    settled_branch e s us c lit then settled_stmt r us (in_control (c.uniform && is_uniform e us) c)

abbrev pub settled_while : Expr → Stmt → List Bool → Spot → Bool → Settles
settled_while e s us c lit =
    settled_expr e us (in_loop (is_uniform_loop e s us c.uniform) c) lit then settled_stmt s us (in_loop (is_uniform_loop e s us c.uniform) c)

abbrev pub settled_for : Stmts → Expr → Stmts → Stmt → List Bool → Spot → Bool → Settles
settled_for a e b s us c lit =
    settled_stmts a us c lit then settled_expr e us (in_loop (is_uniform_loop e s us c.uniform) c)
    then settled_stmts b us (in_loop (is_uniform_loop e s us c.uniform) c)
    then settled_stmt s us (in_loop (is_uniform_loop e s us c.uniform) c)

abbrev pub settled_lights : LightStmt → Exprs → Stmt → ℕ → List Bool → Spot → Bool → Settles
settled_lights over args s line us c lit =
    settled_word over line c lit then settled_args args us c then settled_stmt s us (in_lights over c)
