use Rattle.std.proofs.Common.{sym, subst, arith, rules}
use Rattle.std.proofs.lemmas.Grind.{common_steps}
use Rattle.texture.specs.Files.{IsFault}
use Rattle.acceptance.specs.Answers.{Because}
use Rattle.acceptance.specs.Causes.{cause_in}
use Rattle.acceptance.proofs.ImageReads.{texture_held, fault_held, large_held}
use Rattle.acceptance.proofs.textures.of_bytes.Goals as goal

pub returns-in-Ok : goal.returns-in-Ok
returns-in-Ok c = record { gives = texture_held c.args.name.now c.args.bytes.now c.in-Ok.texture c.requires c.in-Ok.ensures; alone = search rules }

pub returns-in-Err-X1 : goal.returns-in-Err-X1
returns-in-Err-X1 c = record {
  gives = subst (λ q. Because c.in_texture.result (cause_in q)) (sym (fault_held c.args.name.now c.args.bytes.now c.requires (subst (IsFault c.args.bytes.now) c.in-Err-X1.field-0-is c.in-Err-X1.ensures))) c.in_texture.ensures.because;
  alone = grind (arith, common_steps);
}

pub returns-in-Err-M11 : goal.returns-in-Err-M11
returns-in-Err-M11 c = record {
  gives = subst (λ q. Because c.in_texture-in-Err-M11.result (cause_in q)) (sym (large_held c.args.name.now c.args.bytes.now c.requires (subst (IsFault c.args.bytes.now) c.in-Err-M11.field-0-is c.in-Err-M11.ensures)))
      c.in_texture-in-Err-M11.ensures.because;
  alone = grind (arith, common_steps);
}
