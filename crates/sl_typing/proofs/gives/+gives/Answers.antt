use Rattle.std.proofs.Common.{map, arith, ap, sym, ◌∙◌}
use Rattle.sl_ast.specs.Syntax as U
use Rattle.sl_ast.specs.SyntaxView.{stmt_of}
use Rattle.sl_typing.specs.Functions.{gives, gives_any}
use Rattle.sl_typing.specs.Measures.{size_stmt, size_rows}
use Rattle.sl_typing.proofs.Nodes.{block_is, small_stmt}
use Rattle.sl_typing.proofs.gives.+gives.Goals as goal

pub gives_any-gives-requires : goal.gives_any-gives-requires
gives_any-gives-requires t c =
    let small = small_stmt c.args.body.now c.loop-s.s-index c.s-item.result (omega arith) c.s-item.is in
    (omega (arith, c.decreases, small), tt)

pub gives-gives_any-requires : goal.gives-gives_any-requires
gives-gives_any-requires t c =
    let q = ap size_stmt (block_is c.args.s.now c.in-Block.body c.in-Block._line c.in-Block.is) in
    let d = ap (λ xs. size_rows (U.stmts (map stmt_of xs))) c.as_slice.ensures in
    (omega (arith, c.decreases, q, d), tt)

pub gives-returns-in-Block : goal.gives-returns-in-Block
gives-returns-in-Block t c =
    c.gives_any.ensures ∙ ap (λ xs. gives_any (U.stmts (map stmt_of xs))) c.as_slice.ensures
    ∙ sym (ap gives (block_is c.args.s.now c.in-Block.body c.in-Block._line c.in-Block.is))
