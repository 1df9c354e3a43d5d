use Rattle.std.proofs.Common.{rules}
use Rattle.std.specs.Prelude.{Ok}
use Rattle.std.proofs.lemmas.Iterator.{YieldsList-from_map, YieldsList-from_zip, YieldsList-from_slice, items_from_collect}
use Rattle.std.proofs.lemmas.Iterator.Adapters.{YieldsList-from_vec}
use Rattle.primitives.specs.Patches.{PatchValue}
use Rattle.primitives.specs.Moving.{moved_patch}
use Rattle.primitives.proofs.motion.moved.Goals as goal

pub returns : goal.returns
returns c =
    items_from_collect {E = Unit {0}} (Ok c.in_ok-collect.field-0) c.in_ok-collect.ensures.ran
    (YieldsList-from_map _ (λ (ends : PatchValue × PatchValue). moved_patch c.args.shift ends.0 ends.1)
    (YieldsList-from_zip (YieldsList-from_vec c.args.first (search rules) (search rules)) (YieldsList-from_slice c.args.last.now (search rules)))
    c.map-patches.ensures.closure (λ x r q k. search rules))
