use Rattle.std.proofs.Common.{arith, length, sym, ap, subst}
use Rattle.grid_code.specs.View.{block_of}
use Rattle.sl_meaning.specs.CoreView.{stmts_of}
use Rattle.core_codegen.specs.Correct.{Means}
use Rattle.core_codegen.specs.Sizes.{ScopedAll}
use Rattle.core_codegen.specs.Slots.{slots_of, scope_of}
use Rattle.core_codegen.proofs.Correct.{means}
use Rattle.core_codegen.proofs.Emitted.{emitted}
use Rattle.core_codegen.proofs.Emitting.{all_slack}
use Rattle.core_codegen.proofs.Scoped.{grid_all}
use Rattle.core_codegen.proofs.emission.emit.Goals as goal

pub block-requires-clause-scoped : goal.block-requires-clause-scoped
block-requires-clause-scoped c =
    subst (λ ss. ScopedAll (stmts_of c.args.body.now) ss) (sym c.in_ok-scope.ensures) (grid_all (stmts_of c.args.body.now) (slots_of c.args.scope.now) c.requires.settled)

pub first_behind-temps-requires : goal.first_behind-temps-requires
first_behind-temps-requires c =
    let k = ap length c.in_ok-scope.ensures in
    let fits = c.requires.fits in
    record { fits = omega (arith, all_slack (stmts_of c.args.body.now)) }

pub block-requires-clause-spare : goal.block-requires-clause-spare
block-requires-clause-spare c =
    let k = ap length c.in_ok-scope.ensures in
    let t = c.first_behind-temps.ensures in
    let fits = c.requires.fits in
    omega (arith, all_slack (stmts_of c.args.body.now))

pub returns-clause-code : goal.returns-clause-code
returns-clause-code c =
    emitted (block_of c.new-code.result.items) _ (stmts_of c.args.body.now) (scope_of c.in_ok-scope.scope) (slots_of c.args.scope.now) c.first_behind-temps.result (ap block_of c.new-code.ensures.items)
    c.first_behind-temps.ensures c.in_ok-scope.ensures c.in_ok-block.ensures.code

pub returns-clause-means : goal.returns-clause-means
returns-clause-means c =
    let body = stmts_of c.args.body.now in
    let ss = slots_of c.args.scope.now in
    let q = emitted (block_of c.new-code.result.items) _ body (scope_of c.in_ok-scope.scope) ss c.first_behind-temps.result (ap block_of c.new-code.ensures.items) c.first_behind-temps.ensures c.in_ok-scope.ensures c.in_ok-block.ensures.code in
    subst (λ x. Means body ss x) (sym q) (means body ss c.requires.settled c.requires.stays)
