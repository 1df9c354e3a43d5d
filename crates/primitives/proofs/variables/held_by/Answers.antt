use Rattle.std.proofs.Common.{◌∙◌, ap, sym, subst, not, filter, map, All}
use Rattle.rib_reader.specs.Lists.{is_points}
use Rattle.scene.specs.declared.params.Param.{Param}
use Rattle.rib_reader.specs.Holding.{holding}
use Rattle.scene.specs.Seats.{IsOfKind}
use Rattle.primitives.specs.Variables.{variables_in}
use Rattle.primitives.proofs.Values.{filter_map, kinds_in}
use Rattle.primitives.proofs.variables.held_by.Goals as goal

pub returns : goal.returns
returns c =
    let held = ap (map (λ p. p.now)) c.deref.ensures.value ∙ c.in_ok-held.ensures ∙ ap holding c.variables.ensures.same in
    record {
      value = ap (map (λ p. p.now)) c.in_ok-others.ensures
          ∙ sym (filter_map (λ p. p.now) (λ (p : Param). not (is_points p.name)) c.deref.result.now)
          ∙ ap (filter (λ (p : Param). not (is_points p.name))) held;
      kinds = subst (λ ps. All IsOfKind (variables_in ps)) c.variables.ensures.same (kinds_in c.variables.result.now c.variables.ensures.kinds);
    }
