-- What the nodes of a core tree keep of their parts: reads, operations and assigned values.
use Rattle.std.proofs.Common.{◌≡◌, ℕ, pos, false, List}
use Rattle.sl_ast.specs.declared.kinds.Predefined.{Predefined}
use Rattle.sl_ast.specs.declared.kinds.Predefined.TheVariants as names
use Rattle.sl_ast.specs.declared.kinds.SetOperator.{SetOperator}
use Rattle.sl_ast.specs.declared.kinds.SetOperator.TheVariants as sets
use Rattle.sl_ast.specs.declared.operations.Difference.{Difference}
use Rattle.sl_ast.specs.declared.operations.Look.TheVariants as looks
use Rattle.sl_ast.specs.declared.operations.Operation.{Operation}
use Rattle.sl_ast.specs.declared.operations.Operation.TheVariants as operations
use Rattle.sl_ast.specs.declared.operations.ValueOperation.{ValueOperation}
use Rattle.sl_ast.specs.declared.operations.ValueOperation.TheVariants as ops
use Rattle.sl_ast.specs.declared.typed.Value.{Value}
use Rattle.sl_ast.specs.declared.typed.Value.TheVariants.{Number}
use Rattle.sl_ast.specs.declared.typed.Variable.{Variable}
use Rattle.sl_ast.specs.declared.typed.Variable.TheVariants as variables
use Rattle.sl_ast.specs.Settled.{asks_neighbours}
use Rattle.sl_meaning.specs.Core as C
use Rattle.sl_meaning.specs.Core.{Slot}
use Rattle.sl_meaning.specs.Lowered as lowered
use Rattle.sl_meaning.specs.Lowered.{put_into, read, with_last}
use Rattle.core_codegen.specs.Fine.{InScope, FineExpr, FineExprs, GridExpr, GridExprs}

-- in varying control
fine_predefined : (p : Predefined) (ss : List Slot) → FineExpr (read (variables.Predefined p)) ss
fine_predefined names.Pi ss = tt
fine_predefined p ss = tt

pub fine_read : (x : Variable) (ss : List Slot) → InScope x ss → FineExpr (read x) ss
fine_read (variables.Predefined p) ss h = fine_predefined p ss
fine_read (variables.Level k) ss h = h

fine_last : (es : C.Exprs) (ss : List Slot) → FineExprs es ss → FineExprs (lowered.last es) ss
fine_last C.none ss h = tt
fine_last (C.more e C.none) ss h = h
fine_last (C.more e (C.more d rest)) ss h = fine_last (C.more d rest) ss h.1

fine_operands : (op : ValueOperation) (es : C.Exprs) (ss : List Slot) → FineExprs es ss → FineExprs (lowered.operands op es) ss
fine_operands (ops.Transform from into) es ss h = fine_last es ss h
fine_operands (ops.VTransform from into) es ss h = fine_last es ss h
fine_operands (ops.NTransform from into) es ss h = fine_last es ss h
fine_operands op es ss h = h

fine_with_last : (es : C.Exprs) (p : Predefined) (ss : List Slot) → FineExprs es ss → FineExprs (with_last es (C.read (variables.Predefined p))) ss
fine_with_last C.none p ss h = (tt, tt)
fine_with_last (C.more e rest) p ss h = (h.0, fine_with_last rest p ss h.1)

fine_with_literal : (es : C.Exprs) (v : Value) (ss : List Slot) → FineExprs es ss → FineExprs (with_last es (C.literal v)) ss
fine_with_literal C.none v ss h = (tt, tt)
fine_with_literal (C.more e rest) v ss h = (h.0, fine_with_literal rest v ss h.1)

pub fine_operated : (operation : Operation) (n : ℕ) (es : C.Exprs) (ss : List Slot) → asks_neighbours operation ≡ false → FineExprs es ss → FineExpr (lowered.operated operation n es) ss
fine_operated (operations.Value op) n es ss k h = fine_operands op es ss h
fine_operated operations.FaceForwardNg n es ss k h = fine_with_last es names.Ng ss h
fine_operated (operations.Difference d) n es ss k h = absurd (cc k)
fine_operated (operations.Sum s) n es ss k h = h
fine_operated (operations.Look looks.At) n es ss k h = absurd (cc k)
fine_operated (operations.Look looks.Here) n es ss k h = absurd (cc k)
fine_operated (operations.Look looks.First) n es ss k h = fine_with_literal es (Number (pos 0)) ss h

pub fine_put : (x : Variable) (operator : SetOperator) (e : C.Expr) (ss : List Slot) → InScope x ss → FineExpr e ss → FineExpr (put_into operator x e) ss
fine_put x sets.Set e ss i h = h
fine_put x sets.Add e ss i h = (i, (h, tt))
fine_put x sets.Subtract e ss i h = (i, (h, tt))
fine_put x sets.Multiply e ss i h = (i, (h, tt))
fine_put x sets.Divide e ss i h = (i, (h, tt))

-- in uniform control
grid_predefined : (p : Predefined) (ss : List Slot) → GridExpr (read (variables.Predefined p)) ss
grid_predefined names.Pi ss = tt
grid_predefined p ss = tt

pub grid_read : (x : Variable) (ss : List Slot) → InScope x ss → GridExpr (read x) ss
grid_read (variables.Predefined p) ss h = grid_predefined p ss
grid_read (variables.Level k) ss h = h

grid_last : (es : C.Exprs) (ss : List Slot) → GridExprs es ss → GridExprs (lowered.last es) ss
grid_last C.none ss h = tt
grid_last (C.more e C.none) ss h = h
grid_last (C.more e (C.more d rest)) ss h = grid_last (C.more d rest) ss h.1

grid_operands : (op : ValueOperation) (es : C.Exprs) (ss : List Slot) → GridExprs es ss → GridExprs (lowered.operands op es) ss
grid_operands (ops.Transform from into) es ss h = grid_last es ss h
grid_operands (ops.VTransform from into) es ss h = grid_last es ss h
grid_operands (ops.NTransform from into) es ss h = grid_last es ss h
grid_operands op es ss h = h

grid_with_last : (es : C.Exprs) (p : Predefined) (ss : List Slot) → GridExprs es ss → GridExprs (with_last es (C.read (variables.Predefined p))) ss
grid_with_last C.none p ss h = (tt, tt)
grid_with_last (C.more e rest) p ss h = (h.0, grid_with_last rest p ss h.1)

pub grid_difference : (d : Difference) (es : C.Exprs) (ss : List Slot) → GridExprs es ss → GridExpr (lowered.difference_of d es) ss
grid_difference d C.none ss h = tt
grid_difference d (C.more e rest) ss h = h.0

grid_with_literal : (es : C.Exprs) (v : Value) (ss : List Slot) → GridExprs es ss → GridExprs (with_last es (C.literal v)) ss
grid_with_literal C.none v ss h = (tt, tt)
grid_with_literal (C.more e rest) v ss h = (h.0, grid_with_literal rest v ss h.1)

pub grid_operated : (operation : Operation) (n : ℕ) (es : C.Exprs) (ss : List Slot) → GridExprs es ss → GridExpr (lowered.operated operation n es) ss
grid_operated (operations.Value op) n es ss h = grid_operands op es ss h
grid_operated operations.FaceForwardNg n es ss h = grid_with_last es names.Ng ss h
grid_operated (operations.Difference d) n es ss h = grid_difference d es ss h
grid_operated (operations.Sum s) n es ss h = h
grid_operated (operations.Look looks.At) n es ss h = h
grid_operated (operations.Look looks.Here) n es ss h = grid_with_last (with_last es (C.read (variables.Predefined names.S))) names.T ss (grid_with_last es names.S ss h)
grid_operated (operations.Look looks.First) n es ss h = grid_with_literal es (Number (pos 0)) ss h

pub grid_put : (x : Variable) (operator : SetOperator) (e : C.Expr) (ss : List Slot) → InScope x ss → GridExpr e ss → GridExpr (put_into operator x e) ss
grid_put x sets.Set e ss i h = h
grid_put x sets.Add e ss i h = (i, (h, tt))
grid_put x sets.Subtract e ss i h = (i, (h, tt))
grid_put x sets.Multiply e ss i h = (i, (h, tt))
grid_put x sets.Divide e ss i h = (i, (h, tt))
