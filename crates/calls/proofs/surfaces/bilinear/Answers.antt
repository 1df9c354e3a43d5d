use Rattle.std.proofs.Common.{[], ◌∷◌, ◌^◌}
use Rattle.patches.specs.BoxLaws.{Each-AreWithin}
use Rattle.calls.proofs.surfaces.bilinear.Goals as goal

pub new-requires : goal.new-requires
new-requires c =
    Each-AreWithin (2 ^ 30) (c.args.a ∷ c.args.b ∷ c.args.c ∷ c.args.d ∷ [])
    (c.requires.a_small, (c.requires.b_small, (c.requires.c_small, (c.requires.d_small, tt))))
