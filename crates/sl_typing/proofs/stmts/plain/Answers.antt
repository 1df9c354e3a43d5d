use Rattle.std.proofs.Common.{[], ◌∷◌, Ok, map, refl, ap, ap₂, sym, ◌∙◌}
use Rattle.sl_ast.specs.SyntaxView.{stmt_of, declared_of}
use Rattle.sl_expressions.specs.Typed as T
use Rattle.sl_expressions.specs.Views.{around_of, local_of}
use Rattle.sl_typing.specs.Stmts as spec
use Rattle.sl_typing.specs.Stmts.{typed_stmt}
use Rattle.sl_typing.proofs.Scopes.{extends_same}
use Rattle.sl_typing.proofs.StmtRows.{added, given_one}
use Rattle.sl_typing.proofs.stmts.plain.Goals as goal

pub returns-in-Empty : goal.returns-in-Empty
returns-in-Empty c =
    let g = around_of c.args.g.now in
    let ls = map local_of c.args.scope.now in
    record {
      gives = added _ _ _ _ _ _ _ refl (ap (λ s. typed_stmt g c.args.from ls (stmt_of s)) c.in-Empty.is) (c.add.ensures c.args.scope.now (Ok (T.empty c.in-Empty.line ∷ [], ls)) refl);
      extends = extends_same _;
    }

pub returns-in-Set : goal.returns-in-Set
returns-in-Set c =
    let g = around_of c.args.g.now in
    let ls = map local_of c.args.scope.now in
    record {
      gives = added _ _ _ _ _ _ _ refl (ap (λ s. typed_stmt g c.args.from ls (stmt_of s)) c.in-Set.is) (c.add-in-Set.ensures c.args.scope.now _ (given_one _ ls _ c.set.ensures));
      extends = extends_same _;
    }

pub returns-in-Break : goal.returns-in-Break
returns-in-Break c =
    let g = around_of c.args.g.now in
    let ls = map local_of c.args.scope.now in
    record {
      gives = added _ _ _ _ _ _ _ refl (ap (λ s. typed_stmt g c.args.from ls (stmt_of s)) c.in-Break.is) (c.add-in-Break.ensures c.args.scope.now _ (c.leave.ensures ls));
      extends = extends_same _;
    }

pub returns-in-Continue : goal.returns-in-Continue
returns-in-Continue c =
    let g = around_of c.args.g.now in
    let ls = map local_of c.args.scope.now in
    record {
      gives = added _ _ _ _ _ _ _ refl (ap (λ s. typed_stmt g c.args.from ls (stmt_of s)) c.in-Continue.is) (c.add-in-Continue.ensures c.args.scope.now _ (c.again.ensures ls));
      extends = extends_same _;
    }

pub returns-in-Return : goal.returns-in-Return
returns-in-Return c =
    let g = around_of c.args.g.now in
    let ls = map local_of c.args.scope.now in
    record {
      gives = added _ _ _ _ _ _ _ refl (ap (λ s. typed_stmt g c.args.from ls (stmt_of s)) c.in-Return.is) (c.add-in-Return.ensures c.args.scope.now _ (c.misplaced.ensures ls _ c.expr-value.ensures));
      extends = extends_same _;
    }

pub returns-in-Declare : goal.returns-in-Declare
returns-in-Declare c =
    let g = around_of c.args.g.now in
    let ls = map local_of c.args.scope.now in
    let is = ap (λ s. typed_stmt g c.args.from ls (stmt_of s)) c.in-Declare.is
    ∙ ap₂ (λ u ds. spec.typed_names g c.args.from u c.in-Declare.kind ls (map declared_of ds)) (sym c.is_uniform-uniform.ensures) (sym c.as_slice.ensures) in
    record {
      gives = added _ _ _ _ _ _ _ refl is c.names.ensures.gives;
      extends = c.names.ensures.extends;
    }
