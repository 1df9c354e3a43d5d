use Rattle.std.proofs.Common.{◌≡◌, get_or, length, IfOk, arith, ap, sym, subst, ◌∙◌}
use Rattle.sl_ast.specs.TypedView.{default_of}
use Rattle.sl_meaning.specs.Defaults.{evaluated}
use Rattle.sl_evaluation.proofs.DefaultsThere.{defaults_there, constant_there, found}
use Rattle.sl_evaluation.proofs.defaults.default_value.Goals as goal

pub bounds-as_slice-index-3 : goal.bounds-as_slice-index-3
bounds-as_slice-index-3 c = omega (arith, c.requires.there, ap length c.as_slice-2.ensures, defaults_there c.args.tree.now c.args.tree.now.typed)

pub evaluated-requires : goal.evaluated-requires
evaluated-requires c =
    let t = c.args.tree.now in
    let k = c.args.param in
    let d = c.index-as_slice-index-2.result in
    constant_there t k d c.requires.settled t.typed c.requires.there (c.index-as_slice-index-2.is ∙ ap (λ l. get_or l k d) c.as_slice-2.ensures)

pub returns : goal.returns
returns c =
    let t = c.args.tree.now in
    let k = c.args.param in
    let p = c.index-as_slice-index.result in
    let d = c.index-as_slice-index-2.result in
    subst (λ r. IfOk c.evaluated.result (λ v. v ≡ r))
    (ap (λ q. evaluated q.kind (default_of d).value c.args.spaces.now) (sym c.index-as_slice-index.is)
    ∙ found t k p d c.args.spaces.now c.requires.there (omega (arith, c.requires.there, defaults_there t t.typed))
    (c.index-as_slice-index.is ∙ ap (λ l. get_or l k p) c.as_slice.ensures)
    (c.index-as_slice-index-2.is ∙ ap (λ l. get_or l k d) c.as_slice-2.ensures))
    c.evaluated.ensures
