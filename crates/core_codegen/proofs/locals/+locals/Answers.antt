use Rattle.std.proofs.Common.{arith, ap}
use Rattle.sl_meaning.specs.CoreView.{stmts_of}
use Rattle.sl_meaning.proofs.CoreRows.{block_shown, test_shown, repeat_shown, lights_shown}
use Rattle.core_codegen.specs.Compile.{locals, all_locals}
use Rattle.core_codegen.specs.Sizes.{stmt_size, all_size}
use Rattle.core_codegen.proofs.locals.+locals.Goals as goal

pub declared-all_declared-requires : goal.declared-all_declared-requires
declared-all_declared-requires t c =
    let q = block_shown c.args.s.now c.in-Block.body c.in-Block.is in
    let z = ap stmt_size q in
    let l = ap locals q in
    let dz = ap (λ k. all_size (stmts_of k)) c.as_slice.ensures in
    let dl = ap (λ k. all_locals (stmts_of k)) c.as_slice.ensures in
    let fits = c.requires in
    (omega (arith, c.decreases), omega arith)

pub declared-all_declared-requires-in-Test : goal.declared-all_declared-requires-in-Test
declared-all_declared-requires-in-Test t c =
    let q = test_shown c.args.s.now c.in-Test.field-0 c.in-Test.then c.in-Test.otherwise c.in-Test.is in
    let z = ap stmt_size q in
    let l = ap locals q in
    let dz = ap (λ k. all_size (stmts_of k)) c.as_slice-in-Test.ensures in
    let dl = ap (λ k. all_locals (stmts_of k)) c.as_slice-in-Test.ensures in
    let fits = c.requires in
    (omega (arith, c.decreases), omega arith)

pub declared-all_declared-requires-in-Test-2 : goal.declared-all_declared-requires-in-Test-2
declared-all_declared-requires-in-Test-2 t c =
    let q = test_shown c.args.s.now c.in-Test.field-0 c.in-Test.then c.in-Test.otherwise c.in-Test.is in
    let z = ap stmt_size q in
    let l = ap locals q in
    let dz = ap (λ k. all_size (stmts_of k)) c.as_slice-in-Test-2.ensures in
    let dl = ap (λ k. all_locals (stmts_of k)) c.as_slice-in-Test-2.ensures in
    let fits = c.requires in
    (omega (arith, c.decreases), omega arith)

pub declared-overflow_add-result : goal.declared-overflow_add-result
declared-overflow_add-result t c =
    let l = ap locals (test_shown c.args.s.now c.in-Test.field-0 c.in-Test.then c.in-Test.otherwise c.in-Test.is) in
    let d0 = ap (λ k. all_locals (stmts_of k)) c.as_slice-in-Test.ensures in
    let e0 = c.all_declared-in-Test.ensures in
    let d1 = ap (λ k. all_locals (stmts_of k)) c.as_slice-in-Test-2.ensures in
    let e1 = c.all_declared-in-Test-2.ensures in
    let fits = c.requires in
    omega arith

pub declared-all_declared-requires-in-Repeat : goal.declared-all_declared-requires-in-Repeat
declared-all_declared-requires-in-Repeat t c =
    let q = repeat_shown c.args.s.now c.in-Repeat.repeated c.in-Repeat.is in
    let z = ap stmt_size q in
    let l = ap locals q in
    let dz = ap (λ k. all_size (stmts_of k)) c.as_slice-in-Repeat.ensures in
    let dl = ap (λ k. all_locals (stmts_of k)) c.as_slice-in-Repeat.ensures in
    let fits = c.requires in
    (omega (arith, c.decreases), omega arith)

pub declared-all_declared-requires-in-Repeat-2 : goal.declared-all_declared-requires-in-Repeat-2
declared-all_declared-requires-in-Repeat-2 t c =
    let q = repeat_shown c.args.s.now c.in-Repeat.repeated c.in-Repeat.is in
    let z = ap stmt_size q in
    let l = ap locals q in
    let dz = ap (λ k. all_size (stmts_of k)) c.as_slice-in-Repeat-2.ensures in
    let dl = ap (λ k. all_locals (stmts_of k)) c.as_slice-in-Repeat-2.ensures in
    let fits = c.requires in
    (omega (arith, c.decreases), omega arith)

pub declared-overflow_add-result-in-Repeat : goal.declared-overflow_add-result-in-Repeat
declared-overflow_add-result-in-Repeat t c =
    let l = ap locals (repeat_shown c.args.s.now c.in-Repeat.repeated c.in-Repeat.is) in
    let d0 = ap (λ k. all_locals (stmts_of k)) c.as_slice-in-Repeat.ensures in
    let e0 = c.all_declared-in-Repeat.ensures in
    let d1 = ap (λ k. all_locals (stmts_of k)) c.as_slice-in-Repeat-2.ensures in
    let e1 = c.all_declared-in-Repeat-2.ensures in
    let fits = c.requires in
    omega arith

pub declared-all_declared-requires-in-Lights : goal.declared-all_declared-requires-in-Lights
declared-all_declared-requires-in-Lights t c =
    let q = lights_shown c.args.s.now c.in-Lights.field-0 c.in-Lights.field-1 c.in-Lights.body c.in-Lights.is in
    let z = ap stmt_size q in
    let l = ap locals q in
    let dz = ap (λ k. all_size (stmts_of k)) c.as_slice-in-Lights.ensures in
    let dl = ap (λ k. all_locals (stmts_of k)) c.as_slice-in-Lights.ensures in
    let fits = c.requires in
    (omega (arith, c.decreases), omega arith)

pub declared-returns-in-Block : goal.declared-returns-in-Block
declared-returns-in-Block t c =
    let l = ap locals (block_shown c.args.s.now c.in-Block.body c.in-Block.is) in
    let d0 = ap (λ k. all_locals (stmts_of k)) c.as_slice.ensures in
    let e0 = c.all_declared.ensures in
    let fits = c.requires in
    omega arith

pub declared-returns-in-Test : goal.declared-returns-in-Test
declared-returns-in-Test t c =
    let l = ap locals (test_shown c.args.s.now c.in-Test.field-0 c.in-Test.then c.in-Test.otherwise c.in-Test.is) in
    let d0 = ap (λ k. all_locals (stmts_of k)) c.as_slice-in-Test.ensures in
    let e0 = c.all_declared-in-Test.ensures in
    let d1 = ap (λ k. all_locals (stmts_of k)) c.as_slice-in-Test-2.ensures in
    let e1 = c.all_declared-in-Test-2.ensures in
    let fits = c.requires in
    omega arith

pub declared-returns-in-Repeat : goal.declared-returns-in-Repeat
declared-returns-in-Repeat t c =
    let l = ap locals (repeat_shown c.args.s.now c.in-Repeat.repeated c.in-Repeat.is) in
    let d0 = ap (λ k. all_locals (stmts_of k)) c.as_slice-in-Repeat.ensures in
    let e0 = c.all_declared-in-Repeat.ensures in
    let d1 = ap (λ k. all_locals (stmts_of k)) c.as_slice-in-Repeat-2.ensures in
    let e1 = c.all_declared-in-Repeat-2.ensures in
    let fits = c.requires in
    omega arith

pub declared-returns-in-Lights : goal.declared-returns-in-Lights
declared-returns-in-Lights t c =
    let l = ap locals (lights_shown c.args.s.now c.in-Lights.field-0 c.in-Lights.field-1 c.in-Lights.body c.in-Lights.is) in
    let d0 = ap (λ k. all_locals (stmts_of k)) c.as_slice-in-Lights.ensures in
    let e0 = c.all_declared-in-Lights.ensures in
    let fits = c.requires in
    omega arith
