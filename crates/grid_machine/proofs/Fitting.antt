-- What a light's code asks of a machine that fits it.
use Rattle.std.proofs.Common.{◌≡◌, true, false, List, sym, subst}
use Rattle.std.specs.List.{list_all}
use Rattle.sl_ast.specs.declared.typed.Value.{Value}
use Rattle.grid_code.specs.declared.code.Register.{Register}
use Rattle.grid_code.specs.declared.shader_code.Code.{Code}
use Rattle.grid_code.specs.Names.{first_free}
use Rattle.grid_code.specs.Uses.{has, kind_registers, registers_from, given_registers, within}
use Rattle.grid_code.specs.View.{block_of}
use Rattle.grid_registers.specs.declared.frame.Frame.{Frame}
use Rattle.grid_machine.specs.Asked.{IsLight}
use Rattle.grid_machine.specs.Fits.{Fits, OfCode}
use Rattle.grid_machine.specs.State.{Ready}
use Rattle.grid_code.specs.Texts.{texts_of_all, texts_in}
use Rattle.grid_machine.proofs.Names.{kind_pass, params_all_pass}
use Rattle.grid_machine.proofs.Validity.{holds_own, values_known, ready_of}

-- a frame of the code's registers, and of the texts of its values and constants
pub fits_of : (f g : Frame) (code : Code) (rs : List Register) (vs : List Value) → f ≡ g → OfCode g code vs → IsLight code vs → rs ≡ registers_from first_free code.params → Fits f code rs vs
fits_of f g code rs vs e of light registers =
    let ts = g.setting.texts.now in
    let held = holds_own ts (texts_of_all vs) (texts_in (block_of code.nodes)) of.texts in
    subst (λ x. Fits x code rs vs) (sym e)
    record {
      light = light;
      registers = registers;
      given = subst (λ v. list_all (has v g.uniform.now) (given_registers code.kind code.params) ≡ true) (sym of.varying) (subst (λ u. list_all (has code.varying u) (given_registers code.kind code.params) ≡ true) (sym of.uniform) code.given);
      named = subst (λ v. within (has v g.uniform.now) (block_of code.nodes) ≡ true) (sym of.varying) (subst (λ u. within (has code.varying u) (block_of code.nodes) ≡ true) (sym of.uniform) code.named);
      known = values_known ts vs held.0;
      texts = held.1;
    }

module _ (f : Frame) (code : Code) (rs : List Register) (vs : List Value) (fits : Fits f code rs vs) where
  pub fitting_has : list_all (has f.varying.now f.uniform.now) rs ≡ true
  fitting_has = subst (λ xs. list_all (has f.varying.now f.uniform.now) xs ≡ true) (sym fits.registers) (params_all_pass (has f.varying.now f.uniform.now) code.kind code.params fits.given)

  pub fitting_names : list_all (has f.varying.now f.uniform.now) (kind_registers code.kind) ≡ true
  fitting_names = kind_pass (has f.varying.now f.uniform.now) code.kind code.params fits.given

  pub fitting_ready : Ready f.varying.now f.uniform.now f.setting.texts.now (block_of code.nodes)
  fitting_ready = ready_of f.varying.now f.uniform.now f.setting.texts.now code.kind fitting_names false true (block_of code.nodes) fits.named code.placed fits.texts
