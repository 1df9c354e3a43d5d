-- What a look-up reads of its registers, and that without textures nothing is named.
use Rattle.std.proofs.Common.{◌≡◌, ℕ, ℤ, true, List, [], ◌∷◌, length, get_or, Option, Some, None, refl, ap, ◌∙◌, arith}
use Rattle.std.specs.Prelude.{nat_lt}
use Rattle.std.proofs.lemmas.Bool.{cond-false, le-ltb}
use Rattle.builtins.specs.Shapes.{shape}
use Rattle.builtins.specs.Textures.{s_of, t_of, looked_up, textured, image_named, entry_of}
use Rattle.builtins.specs.Values.{number_of}
use Rattle.builtins.specs.Differences.{Lines}
use Rattle.builtins.specs.declared.shape.Shape.TheVariants as shapes
use Rattle.texture.specs.Images.{Image}
use Rattle.texture.specs.Slots.{no_image}
use Rattle.grid_code.specs.declared.code.Register.{Register}
use Rattle.grid_code.specs.Masked.{State, read, reads}
use Rattle.grid_code.specs.Valid.{are_three}
use Rattle.grid_registers.specs.declared.frame.Frame.{Frame}
use Rattle.grid_code.specs.declared.shader_code.Code.{Code}
use Rattle.grid_machine.specs.Ended.{given_images}
use Rattle.grid_machine.specs.State.{images_of}
use Rattle.grid_machine.specs.declared.inputs.Inputs.{Inputs}

pub three_long : (qs : List Register) → are_three qs ≡ true → length qs ≡ 3
three_long [] h = absurd (cc h)
three_long (a ∷ []) h = absurd (cc h)
three_long (a ∷ b ∷ []) h = absurd (cc h)
three_long (a ∷ b ∷ c ∷ []) h = refl
three_long (a ∷ b ∷ c ∷ d ∷ qs) h = absurd (cc h)

s_read : (g : State) (qs : List Register) (d : Register) (i : ℕ) → are_three qs ≡ true → number_of (read g (get_or qs 1 d) i) ≡ s_of (reads g qs i)
s_read g [] d i h = absurd (cc h)
s_read g (a ∷ []) d i h = absurd (cc h)
s_read g (a ∷ b ∷ []) d i h = absurd (cc h)
s_read g (a ∷ b ∷ c ∷ []) d i h = refl
s_read g (a ∷ b ∷ c ∷ e ∷ qs) d i h = absurd (cc h)

t_read : (g : State) (qs : List Register) (d : Register) (i : ℕ) → are_three qs ≡ true → number_of (read g (get_or qs 2 d) i) ≡ t_of (reads g qs i)
t_read g [] d i h = absurd (cc h)
t_read g (a ∷ []) d i h = absurd (cc h)
t_read g (a ∷ b ∷ []) d i h = absurd (cc h)
t_read g (a ∷ b ∷ c ∷ []) d i h = refl
t_read g (a ∷ b ∷ c ∷ e ∷ qs) d i h = absurd (cc h)

-- a look-up by what stands in the second and the third of three registers
pub look_up_reads : (lines : Lines) (p : Option Image) (g : State) (qs : List Register) (d e : Register) (s t : ℕ → ℤ) → are_three qs ≡ true → ((i : ℕ) → s i ≡ number_of (read g (get_or qs 1 d) i)) → ((i : ℕ) → t i ≡ number_of (read g (get_or qs 2 e) i))
    → (i : ℕ) → looked_up lines p s t i ≡ textured lines p (reads g qs) i
look_up_reads lines p g qs d e s t three hs ht i =
    let a : s ≡ (λ j. s_of (reads g qs j)) = λ k. λ j. (hs j ∙ s_read g qs d j three) k in
    let b : t ≡ (λ j. t_of (reads g qs j)) = λ k. λ j. (ht j ∙ t_read g qs e j three) k in
    ap (λ x. looked_up lines p x t i) a ∙ ap (λ x. looked_up lines p (λ j. s_of (reads g qs j)) x i) b

pub look_up_shape : (lines : Lines) (p : Option Image) (s t : ℕ → ℤ) (i : ℕ) → shape (looked_up lines p s t i) ≡ shapes.Triple
unfolding looked_up
look_up_shape lines None s t i = refl
look_up_shape lines (Some p) s t i = refl

nothing_named : (e : Option ℕ) → image_named [] e ≡ None
nothing_named None = refl
nothing_named (Some k) = cond-false (nat_lt k 0) (Some (get_or [] k no_image)) None (le-ltb k 0 (omega arith))

pub no_images : (f : Frame) → images_of f [] ≡ (λ k. None)
no_images f = λ i. λ k. nothing_named (entry_of f.look_ups.now.nodes f.entries.now k) i

pub nothing_given : (code : Code) (inputs : Inputs) → given_images [] code inputs ≡ (λ k. None)
nothing_given code inputs = λ i. λ k. nothing_named (entry_of code.look_ups.nodes inputs.look_ups.now k) i
