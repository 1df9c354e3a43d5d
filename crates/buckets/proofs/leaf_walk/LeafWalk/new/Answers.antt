use Rattle.std.proofs.Common.{◌∙◌, ap, ◌∷◌, []}
use Rattle.patches.specs.Parts.{Part}
use Rattle.buckets.specs.Standing.{to_come}
use Rattle.buckets.proofs.Coming.{coming_all}
use Rattle.buckets.proofs.leaf_walk.LeafWalk.new.Goals as goal

pub returns-clause-all : goal.returns-clause-all
returns-clause-all c = λ f. ap (to_come f 0) (c.new-pieces.ensures.value ∙ ap (λ (p : Part). p ∷ []) c.whole.ensures) ∙ coming_all f
