-- How great an untyped expression is, by which the recursion over it ends.
use Rattle.std.specs.Prelude.{ℕ, ◌+◌}
use Rattle.sl_ast.specs.Syntax.{Expr, number, string, name, call, paren, triple, typed, prefixed, chain, choice, Exprs, none, more, Links, end, link}

abbrev mutual
  pub size : Expr → ℕ
  size (number text line) = 1
  size (string text line) = 1
  size (name text line) = 1
  size (call text args line) = 1 + size_args args
  size (paren e line) = 1 + size e
  size (triple kind space x y z line) = 2 + (size x + (size y + size z))
  size (typed kind space e line) = 1 + size e
  size (prefixed operator e line) = 1 + size e
  size (chain row e rest) = 1 + (size e + size_links rest)
  size (choice t e f line) = 2 + (size t + (size e + size f))

  pub size_args : Exprs → ℕ
  size_args none = 1
  size_args (more e rest) = 1 + (size e + size_args rest)

  pub size_links : Links → ℕ
  size_links end = 1
  size_links (link operator line e rest) = 1 + (size e + size_links rest)
