use Rattle.std.proofs.Common.{[], ◌∷◌, Some, subst, arith}
use Rattle.std.proofs.lemmas.Grind.{common_steps}
use Rattle.outside.specs.Asked.{AsksFront}
use Rattle.outside.proofs.Asking.{asks_front-one}
use Rattle.acceptance.specs.Textures.{image_of_held}
use Rattle.acceptance.specs.Answers.{Gives, as_it_is}
use Rattle.acceptance.proofs.Images.{whole_image}
use Rattle.acceptance.proofs.textures.fetch_texture.Goals as goal

pub returns-in-Whole-clause-library : goal.returns-in-Whole-clause-library
returns-in-Whole-clause-library g c = record {
  held = c.fetch.ensures.held;
  asked = subst (λ n. AsksFront (n ∷ []) (g.L.Library.asked c.args.library.now) (g.L.Library.asked c.fetch.new.self)) c.as_str.ensures.value
      (asks_front-one c.fetch.result c.as_str.result.now (g.L.Library.asked c.args.library.now) (g.L.Library.asked c.fetch.new.self) c.fetch.ensures.asked);
  asked_all = grind (arith, common_steps);
  later = c.fetch.ensures.later;
  read = grind (arith, common_steps);
}

pub returns-in-Whole-clause-gives : goal.returns-in-Whole-clause-gives
returns-in-Whole-clause-gives g c =
    whole_image c.fetch.result (g.L.Library.held c.args.library.now) c.args.name.now c.as_str.result.now _ c.fetch.new.into.items c.of_bytes.result c.in-Whole.is c.new-bytes.ensures.items
    c.fetch.ensures.bytes c.as_str.ensures.value
    (subst (λ b. Gives as_it_is c.of_bytes.result (image_of_held c.args.name.now (Some b))) c.deref.ensures.value c.of_bytes.ensures.gives)

pub returns-in_err-copied-in-Missing-clause-library : goal.returns-in_err-copied-in-Missing-clause-library
returns-in_err-copied-in-Missing-clause-library g c = record {
  held = c.fetch.ensures.held;
  asked = subst (λ n. AsksFront (n ∷ []) (g.L.Library.asked c.args.library.now) (g.L.Library.asked c.fetch.new.self)) c.as_str.ensures.value
      (asks_front-one c.fetch.result c.as_str.result.now (g.L.Library.asked c.args.library.now) (g.L.Library.asked c.fetch.new.self) c.fetch.ensures.asked);
  asked_all = grind (arith, common_steps);
  later = c.fetch.ensures.later;
  read = grind (arith, common_steps);
}
