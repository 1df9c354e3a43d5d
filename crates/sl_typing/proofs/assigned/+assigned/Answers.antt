use Rattle.std.proofs.Common.{OnOk, ◌≡◌, ◌≤◌, ◌++◌, ◌+◌, drop, take, length, map, arith, ap, ap₂, sym, subst, ◌∙◌}
use Rattle.sl_ast.specs.Syntax as U
use Rattle.sl_ast.specs.SyntaxView.{stmt_of}
use Rattle.sl_typing.specs.Assigned.{declared_names, sets, sets_all}
use Rattle.sl_typing.specs.Measures.{size_stmt, size_rows}
use Rattle.sl_typing.proofs.Nodes.{block_is, small_stmt}
use Rattle.sl_typing.proofs.SetNames.{sets_step, sets_end, begins_still, longer_still}
use Rattle.sl_typing.proofs.assigned.+assigned.Goals as goal

pub note_block-note_stmt-requires : goal.note_block-note_stmt-requires
note_block-note_stmt-requires t c =
    let small = small_stmt c.args.body.now c.loop-s.s-index c.s-item.result (omega arith) c.s-item.is in
    (omega (arith, c.decreases, small), tt)

pub note_stmt-note_block-requires : goal.note_stmt-note_block-requires
note_stmt-note_block-requires t c =
    let q = ap size_stmt (block_is c.args.s.now c.in-Block.body c.in-Block.line c.in-Block.is) in
    let d = ap (λ xs. size_rows (U.stmts (map stmt_of xs))) c.as_slice-in-Block.ensures in
    (omega (arith, c.decreases, q, d), tt)

pub note_block-loop-s-preserved : goal.note_block-loop-s-preserved
note_block-loop-s-preserved t c =
    let own = c.loop-s.own in
    let more = declared_names (stmt_of c.s-item.result) in
    let rest = U.stmts (map stmt_of (drop (c.loop-s.s-index + 1) c.args.body.now)) in
    let step = sets_step own c.loop-s.set c.args.body.now c.loop-s.s-index c.s-item.result (omega arith) c.s-item.is in
    record {
      same = ap₂ (λ xs ys. xs ++ sets_all ys rest) c.in_ok-note_stmt.ensures.set c.in_ok-note_stmt.ensures.own ∙ sym step ∙ c.loop-s.invariant.same;
      begins = subst (λ ys. take (length c.args.own.now) ys ≡ c.args.own.now) (sym c.in_ok-note_stmt.ensures.own) (begins_still c.args.own.now own more c.loop-s.invariant.long c.loop-s.invariant.begins);
      long = subst (λ ys. length c.args.own.now ≤ length ys) (sym c.in_ok-note_stmt.ensures.own) (longer_still c.args.own.now own more c.loop-s.invariant.long);
    }

pub note_block-returns : goal.note_block-returns
note_block-returns t c =
    let end = sets_end c.loop-s.own c.loop-s.set c.args.body.now c.loop-s.s-index (omega arith) in
    record {
      set = sym end ∙ c.loop-s.invariant.same;
      own = c.truncate.ensures ∙ ap (λ n. take n c.loop-s.own) c.len-count.ensures ∙ c.loop-s.invariant.begins;
    }

pub note_stmt-returns-in-Block-clause-set : goal.note_stmt-returns-in-Block-clause-set
note_stmt-returns-in-Block-clause-set t c =
    let own = c.args.own.now in
    let is = ap (λ xs. sets_all own (U.stmts (map stmt_of xs))) c.as_slice-in-Block.ensures ∙ sym (ap (sets own) (block_is c.args.s.now c.in-Block.body c.in-Block.line c.in-Block.is)) in
    subst (λ names. OnOk c.note_block.result (c.note_block.new.set ≡ c.args.set.now ++ names)) is c.note_block.ensures.set
