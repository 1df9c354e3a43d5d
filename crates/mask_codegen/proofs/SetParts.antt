-- A set of registers from its lists, and what sorts numbers out.
use Rattle.std.proofs.Common.{ℕ, Bool, List}
use Rattle.std.specs.List.{Contains}
use Rattle.builtins.specs.declared.shape.Shape.{Shape}
use Rattle.builtins.specs.declared.shape.Shape.TheVariants as shapes
use Rattle.grid_code.specs.declared.code.Register.{Register}
use Rattle.grid_code.specs.declared.register_set.RegisterSet.{RegisterSet}
use Rattle.grid_code.specs.Uses.{numbers_of}
use Rattle.mask_codegen.specs.Collected.{numbers_among, IsSetOf}

module _ (set : RegisterSet) (u : Bool) (qs : List Register) where
  abbrev pub Keeps : Shape → Type 0
  Keeps s = (r : ℕ) → Contains (numbers_among u s qs) r → Contains (numbers_of set s) r

  abbrev pub AddsNone : Shape → Type 0
  AddsNone s = (r : ℕ) → Contains (numbers_of set s) r → Contains (numbers_among u s qs) r

  keeps_each : Keeps shapes.Number → Keeps shapes.Triple → Keeps shapes.Word → (s : Shape) → Keeps s
  keeps_each a b d shapes.Number = a
  keeps_each a b d shapes.Triple = b
  keeps_each a b d shapes.Word = d

  adds_each : AddsNone shapes.Number → AddsNone shapes.Triple → AddsNone shapes.Word → (s : Shape) → AddsNone s
  adds_each a b d shapes.Number = a
  adds_each a b d shapes.Triple = b
  adds_each a b d shapes.Word = d

  pub is_set : Keeps shapes.Number → AddsNone shapes.Number → Keeps shapes.Triple → AddsNone shapes.Triple → Keeps shapes.Word → AddsNone shapes.Word → IsSetOf set u qs
  is_set a a' b b' d d' = record { keeps = keeps_each a b d; adds_none = adds_each a' b' d' }
