-- What a run's machine has, by its frame.
use Rattle.std.proofs.Common.{◌≡◌, ℕ, ◌-◌, true, false, List, Option, ◌++◌, length, sym, subst, arith, length-append}
use Rattle.std.specs.List.{list_all}
use Rattle.sl_ast.specs.declared.typed.Value.{Value}
use Rattle.grid_code.specs.declared.code.Register.{Register}
use Rattle.grid_code.specs.Uses.{has}
use Rattle.grid_code.specs.declared.shader_code.Code.{Code}
use Rattle.grid_code.specs.View.{block_of}
use Rattle.grid_code.specs.Masked.{Asked, Ground}
use Rattle.builtins.specs.Differences.{Lines}
use Rattle.texture.specs.Images.{Image}
use Rattle.transforms.specs.declared.spaces.Spaces.{Spaces}
use Rattle.grid_registers.specs.declared.frame.Frame.{Frame}
use Rattle.grid_machine.specs.Fits.{OfCode}
use Rattle.place_values.specs.Cells.{is_known}
use Rattle.grid_machine.specs.State.{Ready}
use Rattle.grid_code.specs.Texts.{HasTexts, texts_of_all, texts_in}
use Rattle.grid_machine.proofs.Names.{kind_pass}
use Rattle.grid_machine.proofs.Validity.{holds_own, values_known, ready_of}

-- what a machine has whose frame is that of code and values
module _ (f g : Frame) (code : Code) (vs : List Value) (e : f ≡ g) (of : OfCode g code vs) where
  pub all_by_frame : (xs ys : List Register) → xs ≡ ys → list_all (has code.varying code.uniform) ys ≡ true → list_all (has f.varying.now f.uniform.now) xs ≡ true
  all_by_frame xs ys is h =
      subst (λ x. list_all (has x.varying.now x.uniform.now) xs ≡ true) (sym e)
      (subst (λ v. list_all (has v g.uniform.now) xs ≡ true) (sym of.varying)
      (subst (λ u. list_all (has code.varying u) xs ≡ true) (sym of.uniform)
      (subst (λ zs. list_all (has code.varying code.uniform) zs ≡ true) (sym is) h)))

  held : HasTexts g.setting.texts.now (texts_of_all vs) × HasTexts g.setting.texts.now (texts_in (block_of code.nodes))
  held = holds_own g.setting.texts.now (texts_of_all vs) (texts_in (block_of code.nodes)) of.texts

  pub known_by_frame : list_all (is_known f.setting.texts.now) vs ≡ true
  known_by_frame = subst (λ x. list_all (is_known x.setting.texts.now) vs ≡ true) (sym e) (values_known g.setting.texts.now vs held.0)

  pub ready_by_frame : Ready f.varying.now f.uniform.now f.setting.texts.now (block_of code.nodes)
  ready_by_frame =
      subst (λ y. Ready y.varying.now y.uniform.now y.setting.texts.now (block_of code.nodes)) (sym e)
      (subst (λ v. Ready v g.uniform.now g.setting.texts.now (block_of code.nodes)) (sym of.varying)
      (subst (λ u. Ready code.varying u g.setting.texts.now (block_of code.nodes)) (sym of.uniform)
      (ready_of code.varying code.uniform g.setting.texts.now code.kind (kind_pass (has code.varying code.uniform) code.kind code.params code.given) false true (block_of code.nodes) code.named code.placed held.1)))

pub joined_before : (xs ys : List Register) (a b : ℕ) → a ≡ length (xs ++ ys) → b ≡ length ys → a - b ≡ length xs
joined_before xs ys a b h k = let e = length-append xs ys in omega arith

abbrev pub ground_by : Lines → Spaces → List Asked → (ℕ → Option Image) → Ground
ground_by lines spaces lights images = record { lines = lines; spaces = spaces; lights = lights; images = images }
