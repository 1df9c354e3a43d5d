use Rattle.std.proofs.Common.{◌<◌, ℕ, get_or}
use Rattle.scene.specs.Scene.{PrimValue, IsPrim}
use Rattle.pixel_account.proofs.account.prims_known.Given as goal

abbrev pub invariant-loop-prim : goal.invariant-loop-prim
invariant-loop-prim l = (k : ℕ) (d : PrimValue) → k < l.prim-index → IsPrim (get_or l.prims k d)
