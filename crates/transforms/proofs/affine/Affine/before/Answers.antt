use Rattle.std.proofs.Common.{◌≡◌, ◌∙◌, sym, ap, subst, true, IfOk}
use Rattle.std.specs.Prelude.{Result}
use Rattle.transforms.specs.declared.fault.FormFault.{FormFault}
use Rattle.transforms.specs.Matrix.{is_matrix}
use Rattle.transforms.specs.Map.{Map, before_of, differ}
use Rattle.transforms.proofs.Products.{before-identity, identity-before, mirrored_once}
use Rattle.transforms.proofs.affine.Affine.before.Goals as goal

pub returns-clause-mirrored : goal.returns-clause-mirrored
returns-clause-mirrored c =
    let P : Result Map FormFault → Type 0 = λ r. IfOk r (λ m. m.mirrored ≡ differ c.args.first.now.mirrored c.args.self.now.mirrored) in
    subst P (sym c.product.ensures) (mirrored_once c.args.self.now c.args.first.now)

pub returns-clause-after_identity : goal.returns-clause-after_identity
returns-clause-after_identity c e =
    let There : Map → Type 0 = λ m. is_matrix m.there ≡ true in
    let Back : Map → Type 0 = λ m. is_matrix m.back ≡ true in
    c.product.ensures ∙ ap (λ f. before_of c.args.self.now f) e
    ∙ before-identity c.args.self.now (subst There c.self.view_is c.recall.ensures) (subst Back c.self.view_is c.recall-2.ensures)

pub returns-clause-before_identity : goal.returns-clause-before_identity
returns-clause-before_identity c e =
    let There : Map → Type 0 = λ m. is_matrix m.there ≡ true in
    let Back : Map → Type 0 = λ m. is_matrix m.back ≡ true in
    c.product.ensures ∙ ap (λ m. before_of m c.args.first.now) e
    ∙ identity-before c.args.first.now (subst There c.first.view_is c.recall-3.ensures) (subst Back c.first.view_is c.recall-4.ensures)
