-- Code without differences and look-ups does the same whatever the lines of the grid.
use Rattle.std.proofs.Common.{◌≡◌, ℕ, Bool, true, false, cond, List, [], ◌∷◌, refl, sym, ap, ◌∙◌, Option}
use Rattle.std.specs.Prelude.{◌&&◌}
use Rattle.std.proofs.lemmas.Bool.{and_parts, and_from, false≢true}
use Rattle.texture.specs.Images.{Image}
use Rattle.transforms.specs.declared.spaces.Spaces.{Spaces}
use Rattle.sl_ast.specs.declared.kinds.LightStmt.{LightStmt}
use Rattle.sl_ast.specs.declared.kinds.LightStmt.TheVariants.{Illuminance, Illuminate, Solar}
use Rattle.sl_ast.specs.declared.kinds.SlKind.{SlKind}
use Rattle.sl_ast.specs.Names.{has_surface, is_surface}
use Rattle.builtins.specs.Differences.{Lines}
use Rattle.builtins.specs.Values.{is_true}
use Rattle.grid_code.specs.declared.code.Register.{Register}
use Rattle.grid_code.specs.declared.code.Register.TheVariants.{Uniform, Varying}
use Rattle.grid_code.specs.declared.code.Source.{Source}
use Rattle.grid_code.specs.declared.code.Source.TheVariants.{Constant, Copy, Into, Apply}
use Rattle.builtins.specs.declared.shape.Shape.TheVariants as shapes
use Rattle.grid_code.specs.Shapes.{register_shape}
use Rattle.grid_code.specs.Valid.{at_most_three, is_placed}
use Rattle.grid_code.specs.Code.{Block, end, put, differ, sum, texture, branch, loops, lights, breaks, continues}
use Rattle.grid_code.specs.Masked.{Asked, Ground, State, same_shape, write, result_of, both_parts, looped, over_lights, masked}

-- whether neither a difference nor a look-up stands in a block
abbrev pub without_differences : Block → Bool
without_differences end = true
without_differences (put r o x) = without_differences x
without_differences (differ r d q x) = false
without_differences (sum r which qs x) = without_differences x
without_differences (texture r k qs x) = false
without_differences (branch t a b x) = without_differences a && (without_differences b && without_differences x)
without_differences (loops u d t e a x) = without_differences d && (without_differences e && (without_differences a && without_differences x))
without_differences (lights w qs a x) = without_differences a && without_differences x
without_differences (breaks x) = without_differences x
without_differences (continues x) = without_differences x

abbrev Runs : Type 0
Runs = State → State

module _ (lines others : Lines) (spaces : Spaces) (ls : List Asked) (images : ℕ → Option Image) (c n : ℕ) where
  abbrev three : Ground
  three = record { lines = lines; spaces = spaces; lights = ls; images = images }

  abbrev four : Ground
  four = record { lines = others; spaces = spaces; lights = ls; images = images }

  result_alike : (o : Source) (s : State) → result_of o three s ≡ result_of o four s
  result_alike (Constant v) s = refl
  result_alike (Copy q) s = refl
  result_alike (Into t q) s = refl
  result_alike (Apply op qs) s = refl

  -- a statement over lights sees the lights alone
  over_alike : (w : LightStmt) (qs : List Register) (k : Runs) (s : State) → over_lights c w three qs k s ≡ over_lights c w four qs k s
  over_alike w [] k s = refl
  over_alike Illuminance (q ∷ qs) k s = refl
  over_alike Illuminate (q ∷ qs) k s = refl
  over_alike Solar (q ∷ qs) k s = refl

  pub lines_unread : (x : Block) → without_differences x ≡ true → masked x three c n ≡ masked x four c n
  lines_unread end g = refl
  lines_unread (put r o x) g = ap (λ (k : Runs). λ s. k (write c r (result_of o three s) s)) (lines_unread x g) ∙ (λ i s. masked x four c n (write c r (result_alike o s i) s))
  lines_unread (differ r d q x) g = absurd (false≢true g)
  lines_unread (texture r k qs x) g = absurd (false≢true g)
  lines_unread (sum r which qs x) g = ap (λ (k : Runs). λ s. k (masked (sum r which qs end) three c n s)) (lines_unread x g)
  lines_unread (branch (Uniform shape r) a b x) g =
      let p = and_parts _ _ g in
      let q = and_parts _ _ p.1 in
      ap (λ (k : Runs). λ s. k (cond (is_true (s.shared shape r)) (masked a three c n s) (masked b three c n s))) (lines_unread x q.1)
      ∙ ap (λ (k : Runs). λ s. masked x four c n (cond (is_true (s.shared shape r)) (k s) (masked b three c n s))) (lines_unread a p.0)
      ∙ ap (λ (k : Runs). λ s. masked x four c n (cond (is_true (s.shared shape r)) (masked a four c n s) (k s))) (lines_unread b q.0)
  lines_unread (branch (Varying shape r) a b x) g =
      let p = and_parts _ _ g in
      let q = and_parts _ _ p.1 in
      ap (λ (k : Runs). λ s. k (both_parts (λ i. is_true (s.rows shape r i)) (masked a three c n) (masked b three c n) s)) (lines_unread x q.1)
      ∙ ap (λ (k : Runs). λ s. masked x four c n (both_parts (λ i. is_true (s.rows shape r i)) k (masked b three c n) s)) (lines_unread a p.0)
      ∙ ap (λ (k : Runs). λ s. masked x four c n (both_parts (λ i. is_true (s.rows shape r i)) (masked a four c n) k s)) (lines_unread b q.0)
  lines_unread (loops u d t e a x) g =
      let p = and_parts _ _ g in
      let q = and_parts _ _ p.1 in
      let w = and_parts _ _ q.1 in
      ap (λ (k : Runs). λ s. k (looped n c u (masked d three c n) t (masked e three c n) (masked a three c n) s)) (lines_unread x w.1)
      ∙ ap (λ (k : Runs). λ s. masked x four c n (looped n c u k t (masked e three c n) (masked a three c n) s)) (lines_unread d p.0)
      ∙ ap (λ (k : Runs). λ s. masked x four c n (looped n c u (masked d four c n) t k (masked a three c n) s)) (lines_unread e q.0)
      ∙ ap (λ (k : Runs). λ s. masked x four c n (looped n c u (masked d four c n) t (masked e four c n) k s)) (lines_unread a w.0)
  lines_unread (lights w qs a x) g =
      let p = and_parts _ _ g in
      ap (λ (k : Runs). λ s. k (over_lights c w three qs (masked a three c n) s)) (lines_unread x p.1)
      ∙ ap (λ (k : Runs). λ s. masked x four c n (over_lights c w three qs k s)) (lines_unread a p.0)
      ∙ (λ i s. masked x four c n (over_alike w qs (masked a four c n) s i))
  lines_unread (breaks x) g = ap (λ (k : Runs). λ s. k (masked (breaks end) three c n s)) (lines_unread x g)
  lines_unread (continues x) g = ap (λ (k : Runs). λ s. k (masked (continues end) three c n s)) (lines_unread x g)

-- valid code of a shader that isn't on a surface has neither
pub placed_plain : (k : SlKind) → has_surface k ≡ false → (l u : Bool) (x : Block) → is_placed k l u x ≡ true → without_differences x ≡ true
placed_plain k n l u end h = refl
placed_plain k n l u (put r o x) h = placed_plain k n l u x (and_parts _ _ (and_parts _ _ h).1).1
placed_plain k n l u (differ r d q x) h = absurd (false≢true (sym n ∙ (and_parts _ _ (and_parts _ _ h).1).0))
placed_plain k n l u (sum r which qs x) h = placed_plain k n l u x (and_parts (at_most_three qs) (is_placed k l u x) (and_parts (same_shape shapes.Triple (register_shape r)) _ (and_parts (is_surface k) _ h).1).1).1
placed_plain k n l u (texture r m qs x) h = absurd (false≢true (sym n ∙ (and_parts _ _ (and_parts _ _ h).1).0))
placed_plain k n l u (branch t a b x) h =
    let p = and_parts _ _ h in
    let q = and_parts _ _ p.1 in
    and_from _ _ (placed_plain k n l _ a p.0) (and_from _ _ (placed_plain k n l _ b q.0) (placed_plain k n l u x q.1))
placed_plain k n l u (loops v d t e a x) h =
    let p = and_parts _ _ h in
    let q = and_parts _ _ p.1 in
    let w = and_parts _ _ q.1 in
    and_from _ _ (placed_plain k n false _ d p.0) (and_from _ _ (placed_plain k n false _ e q.0) (and_from _ _ (placed_plain k n true _ a w.0) (placed_plain k n l u x w.1)))
placed_plain k n l u (lights w qs a x) h =
    let p = and_parts _ _ (and_parts _ _ (and_parts _ _ h).1).1 in
    and_from _ _ (placed_plain k n l false a p.0) (placed_plain k n l u x p.1)
placed_plain k n l u (breaks x) h = placed_plain k n l u x (and_parts _ _ h).1
placed_plain k n l u (continues x) h = placed_plain k n l u x (and_parts _ _ h).1
