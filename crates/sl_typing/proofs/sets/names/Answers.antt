use Rattle.std.proofs.Common.{◌+◌, drop, map, rules, refl, arith, ap, sym, ◌∙◌}
use Rattle.sl_ast.specs.SyntaxView.{declared_of}
use Rattle.sl_expressions.specs.Found.{◌>>=◌}
use Rattle.sl_expressions.specs.TypedView.{tstmt_of}
use Rattle.sl_expressions.specs.Views.{around_of, local_of}
use Rattle.sl_typing.specs.Stmts.{put_after, typed_names}
use Rattle.sl_typing.proofs.After.{names_step, names_end}
use Rattle.sl_typing.proofs.Scopes.{extends_same, extends_trans}
use Rattle.sl_typing.proofs.sets.names.Goals as goal

pub loop-d-init : goal.loop-d-init
loop-d-init c = record { same = refl; extends = extends_same _ }

pub loop-d-preserved : goal.loop-d-preserved
loop-d-preserved c =
    let g = around_of c.args.g.now in
    let rest = map declared_of (drop (c.loop-d.d-index + 1) c.args.ds.now) in
    let step = names_step g c.args.from c.args.uniform c.args.kind (map tstmt_of c.loop-d.done.items) (map local_of c.loop-d.scope) c.args.ds.now c.loop-d.d-index c.d-item.result (omega arith) c.d-item.is in
    let joined = ap (λ r. r >>= λ q. put_after q.0 (typed_names g c.args.from c.args.uniform c.args.kind q.1 rest)) c.in_ok-name.ensures.gives in
    record {
      same = sym joined ∙ sym step ∙ c.loop-d.invariant.same;
      extends = extends_trans c.args.scope.now c.loop-d.scope c.name.new.scope c.loop-d.invariant.extends c.name.ensures.extends;
    }

pub returns : goal.returns
returns c =
    let g = around_of c.args.g.now in
    record {
      gives = sym c.loop-d.invariant.same ∙ names_end g c.args.from c.args.uniform c.args.kind (map tstmt_of c.loop-d.done.items) (map local_of c.loop-d.scope) c.args.ds.now c.loop-d.d-index (omega arith);
      extends = c.loop-d.invariant.extends;
    }

pub returns-in_err-name-clause-extends : goal.returns-in_err-name-clause-extends
returns-in_err-name-clause-extends c = extends_trans c.args.scope.now c.loop-d.scope c.name.new.scope c.loop-d.invariant.extends c.name.ensures.extends

pub returns-in_err-name-clause-gives : goal.returns-in_err-name-clause-gives
returns-in_err-name-clause-gives c =
    let g = around_of c.args.g.now in
    let step = names_step g c.args.from c.args.uniform c.args.kind (map tstmt_of c.loop-d.done.items) (map local_of c.loop-d.scope) c.args.ds.now c.loop-d.d-index c.d-item.result (omega arith) c.d-item.is in
    let whole = sym c.loop-d.invariant.same ∙ step in
    search rules
