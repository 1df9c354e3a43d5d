use Rattle.std.proofs.Common.{◌≡◌, ◌∙◌, sym, ap, subst}
use Rattle.transforms.specs.Map.{Map, identity, translation}
use Rattle.transforms.specs.Laws.{ChangesNothing}
use Rattle.transforms.proofs.Products.{identity_changes_nothing}
use Rattle.transforms.proofs.affine.Affine.identity.Goals as goal

pub returns-clause-nothing : goal.returns-clause-nothing
returns-clause-nothing c =
    let P : Map → Type 0 = λ m. ChangesNothing m in
    let is : c.translate.result ≡ identity = c.translate.ensures.value ∙ ap (λ n. translation n n n) c.sat-zero.ensures in
    subst P (sym is) identity_changes_nothing
