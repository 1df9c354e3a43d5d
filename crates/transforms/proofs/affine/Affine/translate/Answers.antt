use Rattle.std.proofs.Common.{◌≡◌, ◌∙◌, sym, ap, subst, false, neg_ℤ}
use Rattle.transforms.specs.declared.matrix.Matrix.{Matrix}
use Rattle.transforms.specs.Map.{shifted}
use Rattle.transforms.specs.Laws.{Adds}
use Rattle.transforms.proofs.Products.{translations_add}
use Rattle.transforms.proofs.affine.Affine.translate.Goals as goal

pub returns-clause-adds : goal.returns-clause-adds
returns-clause-adds c =
    let d = c.args.d in
    let back : c.shifted-2.result ≡ shifted (neg_ℤ d.x) (neg_ℤ d.y) (neg_ℤ d.z) = c.shifted-2.ensures.value
    ∙ ap (λ n. shifted n c.neg-2.result c.neg-3.result) c.neg.ensures ∙ ap (λ n. shifted (neg_ℤ d.x) n c.neg-3.result) c.neg-2.ensures ∙ ap (λ n. shifted (neg_ℤ d.x) (neg_ℤ d.y) n) c.neg-3.ensures in
    let There : Matrix → Type 0 = λ t. Adds d (record { there = t; back = c.shifted-2.result; mirrored = false }) in
    let Back : Matrix → Type 0 = λ b. Adds d (record { there = shifted d.x d.y d.z; back = b; mirrored = false }) in
    subst There (sym c.shifted.ensures.value) (subst Back (sym back) (translations_add d c.shifted.ensures.x c.shifted.ensures.y c.shifted.ensures.z))
