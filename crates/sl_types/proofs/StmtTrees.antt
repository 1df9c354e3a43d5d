-- The tree of a statement that holds others, from the trees of its parts, with the number after it.
use Rattle.std.proofs.Common.{◌≡◌, ℕ, Bool, ◌+◌, List, arith}
use Rattle.sl_ast.specs.Typed as A
use Rattle.sl_ast.specs.declared.kinds.LightStmt.{LightStmt}
use Rattle.sl_ast.specs.declared.kinds.NodeType.{NodeType}
use Rattle.sl_ast.specs.declared.kinds.SetOperator.{SetOperator}
use Rattle.sl_ast.specs.declared.kinds.SlType.{SlType}
use Rattle.sl_ast.specs.declared.operations.Operation.{Operation}
use Rattle.sl_ast.specs.declared.typed.Place.{Place}
use Rattle.sl_ast.specs.declared.typed.Variable.{Variable}
use Rattle.sl_expressions.specs.Typed as T
use Rattle.sl_types.specs.Inline.{Built, at, count, count_args, count_stmt, inline, inline_args, inline_stmt, inline_stmts}

pub apply_tree : (fs : List Built) (n m line : ℕ) (operation : Operation) (kind : NodeType) (es : T.Exprs) (v : A.Exprs) (place : Place) → place ≡ at line n → m ≡ n + 1
    → v ≡ inline_args fs m es → A.apply operation v kind place ≡ inline fs n (T.apply operation es kind line)
apply_tree fs n m line operation kind es v place p q r = cc (p, q, r)

pub block_tree : (fs : List Built) (n m line : ℕ) (ss : T.Stmts) (v : A.Stmts) (place : Place) → place ≡ at line n → m ≡ n + 1 → v ≡ inline_stmts fs m ss
    → A.block v place ≡ inline_stmt fs n (T.block ss line)
block_tree fs n m line ss v place p q r = cc (p, q, r)

pub declare_tree : (fs : List Built) (n m line : ℕ) (uniform : Bool) (kind : SlType) (e : T.Expr) (v : A.Expr) (place : Place) → place ≡ at line n → m ≡ n + 1 → v ≡ inline fs m e
    → A.declare uniform kind v place ≡ inline_stmt fs n (T.declare uniform kind e line)
declare_tree fs n m line uniform kind e v place p q r = cc (p, q, r)

pub set_tree : (fs : List Built) (n m line : ℕ) (x : Variable) (operator : SetOperator) (kind : SlType) (e : T.Expr) (v : A.Expr) (place : Place)
    → place ≡ at line n → m ≡ n + 1 → v ≡ inline fs m e → A.assign x operator kind v place ≡ inline_stmt fs n (T.assign x operator kind e line)
set_tree fs n m line x operator kind e v place p q r = cc (p, q, r)

pub test_tree : (fs : List Built) (n m j line : ℕ) (e : T.Expr) (s : T.Stmt) (v : A.Expr) (w : A.Stmt) (place : Place)
    → place ≡ at line n → m ≡ n + 1 → v ≡ inline fs m e → j ≡ m + count fs e → w ≡ inline_stmt fs j s → A.test v w place ≡ inline_stmt fs n (T.test e s line)
test_tree fs n m j line e s v w place p q r i h = cc (p, q, r, i, h)

pub else_tree : (fs : List Built) (n m j k line : ℕ) (e : T.Expr) (s r : T.Stmt) (v : A.Expr) (w x : A.Stmt) (place : Place)
    → place ≡ at line n → m ≡ n + 1 → v ≡ inline fs m e → j ≡ m + count fs e → w ≡ inline_stmt fs j s → k ≡ j + count_stmt fs s → x ≡ inline_stmt fs k r
    → A.test_else v w x place ≡ inline_stmt fs n (T.test_else e s r line)
else_tree fs n m j k line e s r v w x place p q a i b l h = cc (p, q, a, i, b, l, h)

pub repeat_tree : (fs : List Built) (n m j line : ℕ) (e : T.Expr) (s : T.Stmt) (v : A.Expr) (w : A.Stmt) (place : Place)
    → place ≡ at line n → m ≡ n + 1 → v ≡ inline fs m e → j ≡ m + count fs e → w ≡ inline_stmt fs j s → A.repeat v w place ≡ inline_stmt fs n (T.repeat e s line)
repeat_tree fs n m j line e s v w place p q r i h = cc (p, q, r, i, h)

pub lights_tree : (fs : List Built) (n m j line : ℕ) (word : LightStmt) (es : T.Exprs) (s : T.Stmt) (v : A.Exprs) (w : A.Stmt) (place : Place)
    → place ≡ at line n → m ≡ n + 1 → v ≡ inline_args fs m es → j ≡ m + count_args fs es → w ≡ inline_stmt fs j s
    → A.lights word v w place ≡ inline_stmt fs n (T.lights word es s line)
lights_tree fs n m j line word es s v w place p q r i h = cc (p, q, r, i, h)

-- the number after one part, two and three
pub after_one : (n m k a : ℕ) → m ≡ n + 1 → k ≡ m + a → k ≡ n + (1 + a)
after_one n m k a p q = omega arith

pub after_two : (n m j k a b : ℕ) → m ≡ n + 1 → j ≡ m + a → k ≡ j + b → k ≡ n + (1 + (a + b))
after_two n m j k a b p q r = omega arith

pub after_three : (n m i j k a b c : ℕ) → m ≡ n + 1 → i ≡ m + a → j ≡ i + b → k ≡ j + c → k ≡ n + (1 + (a + (b + c)))
after_three n m i j k a b c p q r s = omega arith

pub after_four : (n m h i j k a b c d : ℕ) → m ≡ n + 1 → h ≡ m + a → i ≡ h + b → j ≡ i + c → k ≡ j + d → k ≡ n + (1 + (a + (b + (c + d))))
after_four n m h i j k a b c d p q r s t = omega arith
