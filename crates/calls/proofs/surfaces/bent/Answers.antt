use Rattle.std.proofs.Common.{[], ◌∷◌, ◌^◌}
use Rattle.patches.specs.BoxLaws.{Each-AreWithin}
use Rattle.calls.proofs.surfaces.bent.Goals as goal

pub new-requires : goal.new-requires
new-requires c =
    Each-AreWithin (2 ^ 30)
    (c.left.result ∷ c.left-2.result ∷ c.left-3.result ∷ c.right.result ∷ c.left-4.result ∷ c.left-5.result ∷ c.left-6.result ∷ c.right-2.result ∷ c.left-7.result ∷ c.left-8.result ∷ c.left-9.result ∷ c.right-3.result ∷ c.left-10.result ∷ c.left-11.result ∷ c.left-12.result ∷ c.right-4.result ∷ [])
    (c.left.ensures, (c.left-2.ensures, (c.left-3.ensures, (c.right.ensures, (c.left-4.ensures, (c.left-5.ensures, (c.left-6.ensures, (c.right-2.ensures, (c.left-7.ensures, (c.left-8.ensures, (c.left-9.ensures, (c.right-3.ensures, (c.left-10.ensures, (c.left-11.ensures, (c.left-12.ensures, (c.right-4.ensures, tt))))))))))))))))
