use Rattle.std.proofs.Common.{◌≡◌, Ok, subst, sym}
use Rattle.outside.specs.Causes.{Told}
use Rattle.shader_binding.specs.Sets.{SetValue}
use Rattle.acceptance.specs.Accepting.{accepted}
use Rattle.acceptance.specs.PrimFit.{FitsScene}
use Rattle.render.proofs.accepted.accept.Goals as goal

pub returns-clause-gives : goal.returns-clause-gives
returns-clause-gives g c =
    let read = c.in_ok-read.read in
    subst (λ (s : SetValue). Told (g.L.Library.held c.args.library.now) (λ files. accepted files c.args.text.now ≡ Ok (record { scene = read.scene; set = s }))) (sym (c.in_ok-set.ensures read.textures.read)) c.in_ok-read.ensures.gives

pub returns-clause-fits : goal.returns-clause-fits
returns-clause-fits g c =
    let read = c.in_ok-read.read in
    subst (λ (s : SetValue). FitsScene s read.scene) (sym (c.in_ok-set.ensures read.textures.read)) c.in_ok-read.ensures.fits
