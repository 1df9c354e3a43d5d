use Rattle.std.proofs.Common.{rules}
use Rattle.std.specs.Prelude.{Some, Ok}
use Rattle.std.proofs.lemmas.Iterator.{YieldsList-from_map, YieldsList-from_zip, items_from_collect}
use Rattle.std.proofs.lemmas.Iterator.Adapters.{YieldsList-from_vec}
use Rattle.primitives.specs.Patches.{PatchValue}
use Rattle.primitives.proofs.motion.closed_by.Goals as goal

pub returns : goal.returns
returns c =
    items_from_collect {E = Unit {0}} (Ok c.in_ok-collect.field-0) c.in_ok-collect.ensures.ran
    (YieldsList-from_map _ (λ (ends : PatchValue × PatchValue). record ends.0 { closing = Some ends.1.patch })
    (YieldsList-from_zip (YieldsList-from_vec c.args.opening (search rules) (search rules)) (YieldsList-from_vec c.args.closing (search rules) (search rules)))
    c.map-patches.ensures.closure (λ x r q k. search rules))
