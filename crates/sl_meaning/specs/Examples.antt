-- Worked values of the meaning at a point, and of defaults.
use Rattle.std.specs.Prelude.{ℕ, pos, codes, true, false, [], ◌∷◌, ◌≡◌, refl}
use Rattle.transforms.specs.declared.spaces.Spaces.{Spaces}
use Rattle.sl_ast.specs.declared.kinds.NodeType.{NodeType}
use Rattle.sl_ast.specs.declared.kinds.NodeType.TheVariants as nodes
use Rattle.sl_ast.specs.declared.kinds.Predefined.TheVariants as names
use Rattle.sl_ast.specs.declared.kinds.SetOperator.TheVariants as sets
use Rattle.sl_ast.specs.declared.kinds.SlKind.TheVariants.{Surface}
use Rattle.sl_ast.specs.declared.kinds.SlType.TheVariants as types
use Rattle.sl_ast.specs.declared.kinds.SpaceName.TheVariants.{Current, World}
use Rattle.sl_ast.specs.declared.operations.Operation.TheVariants as operations
use Rattle.sl_ast.specs.declared.operations.ValueOperation.TheVariants as ops
use Rattle.sl_ast.specs.declared.typed.Variable.TheVariants.{Level, Predefined}
use Rattle.sl_ast.specs.declared.typed.Value.{Value}
use Rattle.sl_ast.specs.declared.typed.Value.TheVariants.{Number, Triple}
use Rattle.sl_ast.specs.Examples.{at}
use Rattle.sl_ast.specs.Typed.{Tree, Expr, number, word, variable, apply, call, none, more, Stmt, leave, again, block, declare, assign, test, steps, Stmts, done, first}
use Rattle.builtins.specs.Table.{applied, of_two}
use Rattle.sl_meaning.specs.Defaults.{default_of}
use Rattle.sl_meaning.specs.Environment.{Env, Next, bare, with_name}
use Rattle.sl_meaning.specs.Alone.{value, run_all}
use Rattle.sl_meaning.specs.Dark.{dark}

-- so many whole ones
abbrev one : ℕ → Value
one n = Number (pos n)

abbrev of : ℕ → Expr
of n = number (pos n) (at 0)

abbrev level : ℕ → Expr
level k = variable (Level k) nodes.Float (at 0)

abbrev two : ops.the_data → Expr → Expr → Expr
two op a b = apply (operations.Value op) (more a (more b none)) nodes.Float (at 0)

abbrev float : ℕ → Stmt
float n = declare true types.Float (of n) (at 0)

abbrev add : ℕ → ℕ → Stmt
add k n = assign (Level k) sets.Add types.Float (of n) (at 0)

-- float i = 0; float n = 0; for (; i < 5; i += 1) { if (i == 1) continue; if (i == 3) break; n += 2; }
abbrev body : Stmts
body =
    first (test (two ops.Equal (level 0) (of 1)) (again (at 0)) (at 0))
    (first (test (two ops.Equal (level 0) (of 3)) (leave (at 0)) (at 0))
    (first (add 1 2) done))

abbrev counting : Stmts
counting = first (float 0) (first (float 0) (first (steps done (two ops.Less (level 0) (of 5)) (first (add 0 1) done) (block body (at 0)) (at 0)) done))

-- the step runs behind a `continue` and not behind a `break`; four turns are taken
counted : (sp : Spaces) → run_all counting [] true (dark sp) 9 (bare 9 7) ≡ (Next, record (bare 5 7) { values = one 3 ∷ one 4 ∷ [] })
unfolding of_two
counted sp = refl

-- with a budget of two turns the loop ends before its third
stopped : (sp : Spaces) → run_all counting [] true (dark sp) 9 (bare 2 7) ≡ (Next, record (bare 0 7) { values = one 2 ∷ one 2 ∷ [] })
unfolding of_two
stopped sp = refl

-- in varying control the turns are the point's own
counted_apart : (sp : Spaces) → run_all counting [] false (dark sp) 9 (bare 2 7) ≡ (Next, record (bare 2 3) { values = one 3 ∷ one 4 ∷ [] })
unfolding of_two
counted_apart sp = refl

-- a float goes into a colour as three equal parts, and the variables of a block end with it
gray : (sp : Spaces) → run_all (first (declare false types.Color (of 7) (at 0)) (first (block (first (float 1) done) (at 0)) done)) [] true (dark sp) 9 (bare 2 7) ≡ (Next, record (bare 2 7) { values = Triple (record { x = pos 7; y = pos 7; z = pos 7 }) ∷ [] })
gray sp = refl

-- a call's body sees its formals alone, and the caller's variables are as they were
called : (sp : Spaces) → value (call (more (level 1) none) (record { kind = types.Float; uniform = true; line = 1 } ∷ []) (first (add 0 1) done) (at 0) (level 0) nodes.Float (at 0)) (true ∷ true ∷ []) true (dark sp) 9 record (bare 2 7) { values = one 4 ∷ one 6 ∷ [] } ≡ (one 7, record (bare 2 7) { values = one 4 ∷ one 6 ∷ [] })
unfolding of_two
called sp = refl

-- a predefined variable, and the point where P, N, I and Ng have those values and nothing else is
abbrev named : names.the_data → NodeType → Expr
named name kind = variable (Predefined name) kind (at 0)

abbrev facing : Value → Value → Value → Env
facing n i ng = with_name names.N n (with_name names.I i (with_name names.Ng ng (bare 2 7)))

-- faceforward(N, I) is turned by Ng
faced : (sp : Spaces) (n i ng : Value) →
    (value (apply operations.FaceForwardNg (more (named names.N nodes.Normal) (more (named names.I nodes.Vector) none)) nodes.Vector (at 0)) [] true (dark sp) 9 (facing n i ng)).0 ≡
    applied ops.FaceForward sp (n ∷ i ∷ ng ∷ [])
faced sp n i ng = refl

-- transform("world", P): the string is no operand
transformed : (sp : Spaces) (p : Value) →
    (value (apply (operations.Value (ops.Transform Current World)) (more (word (codes "world") (at 0)) (more (named names.P nodes.Point) none)) nodes.Point (at 0)) [] true (dark sp) 9
    (with_name names.P p (bare 2 7))).0 ≡ applied (ops.Transform Current World) sp (p ∷ [])
transformed sp p = refl

-- a call of `float next(uniform float k) { k += 1; return k; }` on `PI`
abbrev next_of_pi : Expr
next_of_pi =
    call (more (named names.Pi nodes.Float) none) (record { kind = types.Float; uniform = true; line = 1 } ∷ []) (first (add 0 65536) done) (at 3) (level 0) nodes.Float (at 0)

-- surface plain(float a = 1; color b = next(PI)) { }
abbrev plain : Tree
plain = record {
  kind = Surface;
  params = record { name = codes "a"; kind = types.Float; uniform = true } ∷ record { name = codes "b"; kind = types.Color; uniform = true } ∷ [];
  defaults = record { value = of 65536; place = at 1 } ∷ record { value = next_of_pi; place = at 3 } ∷ [];
  body = done;
  place = at 0;
}

first_value : (sp : Spaces) → default_of plain 0 sp ≡ one 65536
first_value sp = refl

second_value : (sp : Spaces) → default_of plain 1 sp ≡ Triple (record { x = pos 271423; y = pos 271423; z = pos 271423 })
unfolding of_two
second_value sp = refl
