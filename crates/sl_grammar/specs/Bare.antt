-- A tree without its lines: each is 0.
use Rattle.std.specs.Prelude.{map, Option, Some, None, option_map}
use Rattle.sl_ast.specs.Syntax.{Expr, number, string, name, call, paren, triple, typed, prefixed, chain, choice, Exprs, none, more, Links, end, link, Assignment, Declared, Stmt, empty, leave, again, block, assign, give, declare, test, test_else, repeat, steps, lights, solar, Stmts, done, first, Group, Function, Shader}
use Rattle.sl_ast.specs.declared.syntax.Space.{Space}

abbrev pub bare_space : Option Space → Option Space
bare_space None = None
bare_space (Some space) = Some (record { name = space.name; line = 0 })

abbrev mutual
  pub bare : Expr → Expr
  bare (number text line) = number text 0
  bare (string text line) = string text 0
  bare (name text line) = name text 0
  bare (call text args line) = call text (bare_args args) 0
  bare (paren e line) = paren (bare e) 0
  bare (triple kind space x y z line) = triple kind (bare_space space) (bare x) (bare y) (bare z) 0
  bare (typed kind space e line) = typed kind (bare_space space) (bare e) 0
  bare (prefixed operator e line) = prefixed operator (bare e) 0
  bare (chain row e rest) = chain row (bare e) (bare_links rest)
  bare (choice t e f line) = choice (bare t) (bare e) (bare f) 0

  pub bare_args : Exprs → Exprs
  bare_args none = none
  bare_args (more e rest) = more (bare e) (bare_args rest)

  pub bare_links : Links → Links
  bare_links end = end
  bare_links (link operator line e rest) = link operator 0 (bare e) (bare_links rest)

abbrev pub bare_set : Assignment → Assignment
bare_set a = record { name = a.name; operator = a.operator; value = bare a.value; line = 0; set_line = 0 }

abbrev pub bare_declared : Declared → Declared
bare_declared d = record { name = d.name; value = option_map bare d.value; line = 0; set_line = 0 }

abbrev pub bare_pair : Expr × Expr → Expr × Expr
bare_pair c = (bare c.0, bare c.1)

abbrev mutual
  pub bare_stmt : Stmt → Stmt
  bare_stmt (empty line) = empty 0
  bare_stmt (leave line) = leave 0
  bare_stmt (again line) = again 0
  bare_stmt (block body line) = block (bare_stmts body) 0
  bare_stmt (assign a) = assign (bare_set a)
  bare_stmt (give e line) = give (bare e) 0
  bare_stmt (declare class kind names line) = declare class kind (map bare_declared names) 0
  bare_stmt (test e s line) = test (bare e) (bare_stmt s) 0
  bare_stmt (test_else e s r line) = test_else (bare e) (bare_stmt s) (bare_stmt r) 0
  bare_stmt (repeat e s line) = repeat (bare e) (bare_stmt s) 0
  bare_stmt (steps a e b s line) = steps (option_map bare_set a) (bare e) (option_map bare_set b) (bare_stmt s) 0
  bare_stmt (lights word e c s line) = lights word (bare e) (option_map bare_pair c) (bare_stmt s) 0
  bare_stmt (solar e f s line) = solar (bare e) (bare f) (bare_stmt s) 0

  pub bare_stmts : Stmts → Stmts
  bare_stmts done = done
  bare_stmts (first s rest) = first (bare_stmt s) (bare_stmts rest)

abbrev pub bare_group : Group → Group
bare_group g = record { class = g.class; kind = g.kind; names = map bare_declared g.names }

abbrev pub bare_function : Function → Function
bare_function f = record { returns = f.returns; name = f.name; formals = map bare_group f.formals; ended = f.ended; body = bare_stmts f.body; line = 0 }

abbrev pub bare_shader : Shader → Shader
bare_shader s = record {
  functions = map bare_function s.functions;
  kind = s.kind;
  name = s.name;
  params = map bare_group s.params;
  ended = s.ended;
  body = bare_stmts s.body;
  line = 0;
}
