-- The tree with functions in place: a call holds its arguments, the formals of its function, what that does and the value that it returns.
-- The nodes are numbered in the order of the text, a node before its parts, a call's arguments before what its function does.
use Rattle.std.specs.Prelude.{ℕ, ◌+◌, pos, Bool, true, false, List, [], ◌∷◌, ◌++◌, map, get_or, Ok, Err}
use Rattle.sl_ast.specs.Syntax as U
use Rattle.sl_ast.specs.Typed as A
use Rattle.sl_ast.specs.declared.kinds.NodeType.{NodeType}
use Rattle.sl_ast.specs.declared.typed.Place.{Place}
use Rattle.sl_ast.specs.declared.typed.TreeFormal.{TreeFormal}
use Rattle.sl_expressions.specs.Found.{Found}
use Rattle.sl_expressions.specs.Typed.{Expr, number, word, variable, apply, call, Exprs, none, more, Stmt, empty, leave, again, block, group, declare, start, assign, test, test_else, repeat, steps, lights, Stmts, done, first, Body, stmts}
use Rattle.sl_expressions.specs.Scope.{Local, Callee, body_in}
use Rattle.sl_typing.specs.Functions.{Param, Program}
use Rattle.sl_types.specs.Folds.{fold, fold_args, fold_stmt, fold_stmts, fold_body}
use Rattle.sl_types.specs.Extents.{Extent, absent, extent_params, counting}

-- what a call of a function puts in place, by the number of its first node
pub record Built : Type 0 where
  pub formals : List TreeFormal
  pub body : ℕ → A.Stmts
  pub returned : ℕ
  pub value : ℕ → A.Expr
  pub before : ℕ
  pub extent : Extent

abbrev pub at : ℕ → ℕ → Place
at line n = record { line = line; number = n }

-- a function that has a fault and is never called
abbrev pub nothing : Built
nothing = record { formals = []; body = λ n. A.done; returned = 0; value = λ n. A.number (pos 0) (at 0 n); before = 0; extent = absent }

abbrev pub extents_of : List Built → List Extent
extents_of fs = map (λ b. b.extent) fs

-- how many nodes an expression has with functions in place
abbrev pub count : List Built → Expr → ℕ
count fs e = (fold counting (extents_of fs) e).nodes

abbrev pub count_args : List Built → Exprs → ℕ
count_args fs es = (fold_args counting (extents_of fs) es).nodes

abbrev pub count_stmt : List Built → Stmt → ℕ
count_stmt fs s = (fold_stmt counting (extents_of fs) s).nodes

abbrev pub count_stmts : List Built → Stmts → ℕ
count_stmts fs ss = (fold_stmts counting (extents_of fs) ss).nodes

-- a call of that function, which does something from number m on
abbrev pub called_at : Built → ℕ → A.Exprs → NodeType → Place → A.Expr
called_at b m args kind p = A.call args b.formals (b.body m) (at b.returned (m + b.before)) (b.value (m + b.before + 1)) kind p

-- `n` is the number of the first node
abbrev mutual
  pub inline : List Built → ℕ → Expr → A.Expr
  inline fs n (number value line) = A.number value (at line n)
  inline fs n (word text line) = A.word text (at line n)
  inline fs n (variable x kind line) = A.variable x kind (at line n)
  inline fs n (apply op args kind line) = A.apply op (inline_args fs (n + 1) args) kind (at line n)
  inline fs n (call k args kind line) = called_at (get_or fs k nothing) (n + 1 + count_args fs args) (inline_args fs (n + 1) args) kind (at line n)

  pub inline_args : List Built → ℕ → Exprs → A.Exprs
  inline_args fs n none = A.none
  inline_args fs n (more e rest) = A.more (inline fs n e) (inline_args fs (n + count fs e) rest)

abbrev mutual
  pub inline_stmt : List Built → ℕ → Stmt → A.Stmt
  inline_stmt fs n (empty line) = A.empty (at line n)
  inline_stmt fs n (leave line) = A.leave (at line n)
  inline_stmt fs n (again line) = A.again (at line n)
  inline_stmt fs n (block ss line) = A.block (inline_stmts fs (n + 1) ss) (at line n)
  inline_stmt fs n (group ss) = A.group (inline_stmts fs n ss)
  inline_stmt fs n (declare uniform kind e line) = A.declare uniform kind (inline fs (n + 1) e) (at line n)
  inline_stmt fs n (start uniform kind line) = A.start uniform kind (at line n)
  inline_stmt fs n (assign x operator kind e line) = A.assign x operator kind (inline fs (n + 1) e) (at line n)
  inline_stmt fs n (test e s line) = A.test (inline fs (n + 1) e) (inline_stmt fs (n + 1 + count fs e) s) (at line n)
  inline_stmt fs n (test_else e s r line) =
      A.test_else (inline fs (n + 1) e) (inline_stmt fs (n + 1 + count fs e) s) (inline_stmt fs (n + 1 + count fs e + count_stmt fs s) r) (at line n)
  inline_stmt fs n (repeat e s line) = A.repeat (inline fs (n + 1) e) (inline_stmt fs (n + 1 + count fs e) s) (at line n)
  inline_stmt fs n (steps a e b s line) =
      A.steps (inline_stmts fs (n + 1) a) (inline fs (n + 1 + count_stmts fs a) e) (inline_stmts fs (n + 1 + count_stmts fs a + count fs e) b)
      (inline_stmt fs (n + 1 + count_stmts fs a + count fs e + count_stmts fs b) s) (at line n)
  inline_stmt fs n (lights over args s line) =
      A.lights over (inline_args fs (n + 1) args) (inline_stmt fs (n + 1 + count_args fs args) s) (at line n)

  pub inline_stmts : List Built → ℕ → Stmts → A.Stmts
  inline_stmts fs n done = A.done
  inline_stmts fs n (first s rest) = A.first (inline_stmt fs n s) (inline_stmts fs (n + count_stmt fs s) rest)

abbrev pub tree_formal : Local → TreeFormal
tree_formal l = record { kind = l.kind; uniform = l.uniform; line = l.line }

-- a function over those before it
abbrev pub built_in : List Built → List Local → Found Body → Built
built_in fs formals (Ok b) = record {
  formals = map tree_formal formals;
  body = λ n. inline_stmts fs n b.stmts;
  returned = b.returned;
  value = λ n. inline fs n b.value;
  before = count_stmts fs b.stmts;
  extent = fold_body counting (extents_of fs) (Ok b);
}
built_in fs formals (Err e) = nothing

abbrev pub built_from : Bool → List Built → List Callee → List Built
built_from default fs [] = fs
built_from default fs (c ∷ cs) = built_from default (fs ++ built_in fs c.formals (body_in default c) ∷ []) cs

-- the parameters' defaults, the first of number n
abbrev pub defaults_at : List Built → ℕ → List Param → List A.Default
defaults_at fs n [] = []
defaults_at fs n (p ∷ ps) = record { value = inline fs (n + 1) p.value; place = at p.local.line n } ∷ defaults_at fs (n + 1 + count fs p.value) ps

abbrev pub declared_of : Param → A.Local
declared_of p = record { name = p.local.name; kind = p.local.kind; uniform = p.local.uniform }

abbrev pub count_params : List Built → List Param → ℕ
count_params fs ps = (extent_params (extents_of fs) ps).nodes

-- the tree of a shader with its parameters' defaults and functions in place
abbrev pub tree_over : List Built → List Built → U.Shader → Program → A.Tree
tree_over defaults fs s p = record {
  kind = s.kind;
  params = map declared_of p.params;
  defaults = defaults_at defaults 1 p.params;
  body = inline_stmts fs (1 + count_params defaults p.params) (stmts p.body);
  place = at s.line 0;
}

-- the tree of a file
abbrev pub tree_of : U.Shader → Program → A.Tree
tree_of s p = tree_over (built_from true [] p.known) (built_from false [] p.known) s p
