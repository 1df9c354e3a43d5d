use Rattle.std.proofs.Common.{Err, ap, ◌∙◌}
use Rattle.std.proofs.lemmas.Result.{err_from_is_err_and}
use Rattle.acceptance.proofs.Images.{next_refused}
use Rattle.acceptance.proofs.textures.fetch_next.Goals as goal

pub returns-in_err-texture-clause-gives : goal.returns-in_err-texture-clause-gives
returns-in_err-texture-clause-gives g c =
    let p = err_from_is_err_and c.from_residual.result c.from_residual.ensures.1 in
    next_refused (g.L.Library.held c.args.library.now) c.args.name.now c.args.all.now.textures.items _ c.from_residual.result c.in_err-texture.field-0.0
    (p.1 ∙ ap (λ s. Err s) p.2) c.in_err-texture.ensures.gives
