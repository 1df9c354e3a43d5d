-- Valid code whose texts are known is ready to be run.
use Rattle.std.proofs.Common.{arith, ◌≡◌, ℕ, Bool, true, false, List, [], ◌∷◌, ◌++◌, map, refl, sym, ap, ◌∙◌, true≢false}
use Rattle.std.specs.Prelude.{◌&&◌, ◌||◌}
use Rattle.std.specs.Borrow.{Bor}
use Rattle.std.specs.List.{list_any, list_all}
use Rattle.std.specs.Str.{bytes_eq}
use Rattle.sl_ast.specs.declared.kinds.SlKind.{SlKind}
use Rattle.sl_ast.specs.declared.kinds.SlKind.TheVariants as kinds
use Rattle.sl_ast.specs.declared.kinds.LightStmt.{LightStmt}
use Rattle.sl_ast.specs.declared.kinds.LightStmt.TheVariants.{Illuminance, Illuminate, Solar}
use Rattle.sl_ast.specs.declared.kinds.Predefined.TheVariants as names
use Rattle.builtins.specs.declared.shape.Shape.TheVariants as shapes
use Rattle.grid_code.specs.declared.code.Register.{Register}
use Rattle.grid_code.specs.Names.{name_at, lit_at}
use Rattle.sl_ast.specs.declared.typed.Value.{Value}
use Rattle.sl_ast.specs.declared.typed.Value.TheVariants as values
use Rattle.sl_ast.specs.Names.{has_surface, is_surface, is_light, has_lights}
use Rattle.grid_code.specs.declared.code.Source.{Source}
use Rattle.grid_code.specs.declared.code.Source.TheVariants.{Constant, Copy, Into, Apply}
use Rattle.grid_code.specs.declared.register_set.RegisterSet.{RegisterSet}
use Rattle.grid_code.specs.Code.{Block, end, put, differ, sum, texture, branch, loops, lights, breaks, continues}
use Rattle.grid_code.specs.Masked.{same_shape}
use Rattle.grid_code.specs.Shapes.{register_class, register_shape, difference_shape, source_shape}
use Rattle.grid_code.specs.Uses.{has, within, source_within, names_at, kind_registers}
use Rattle.grid_code.specs.Valid.{is_placed, has_operands, at_most_three, are_three}
use Rattle.grid_code.proofs.Both.{both, left, right}
use Rattle.grid_code.specs.Texts.{texts_of, texts_of_all, texts_of_source, texts_in, is_in_texts, HasTexts}
use Rattle.place_values.specs.Cells.{is_known}
use Rattle.grid_machine.specs.State.{Ready, source_known, lights_registers}
use Rattle.grid_registers.proofs.Writes.{shape_eq}
use Rattle.place_values.proofs.Texts.{same_bytes}
use Rattle.grid_registers.proofs.Operands.{item_passes}

in_now : (ts : List (Bor (List ℕ))) (w : List ℕ) → is_in_texts (map (λ t. t.now) ts) w ≡ list_any (λ t. bytes_eq t.now w) ts
in_now [] w = refl
in_now (t ∷ ts) w = ap (λ b. bytes_eq t.now w || b) (in_now ts w)

or_left : (a b : Bool) → a ≡ true → (a || b) ≡ true
or_left true b h = refl
or_left false b h = absurd (true≢false (sym h))

or_right : (a b : Bool) → b ≡ true → (a || b) ≡ true
or_right true b h = refl
or_right false b h = h

or_map : (b c d : Bool) → (c ≡ true → d ≡ true) → (b || c) ≡ true → (b || d) ≡ true
or_map true c d f h = refl
or_map false c d f h = f h

in_left : (xs ys : List (List ℕ)) (w : List ℕ) → is_in_texts xs w ≡ true → is_in_texts (xs ++ ys) w ≡ true
in_left [] ys w h = absurd (true≢false (sym h))
in_left (x ∷ xs) ys w h = or_map (bytes_eq x w) _ _ (in_left xs ys w) h

in_right : (xs ys : List (List ℕ)) (w : List ℕ) → is_in_texts ys w ≡ true → is_in_texts (xs ++ ys) w ≡ true
in_right [] ys w h = h
in_right (x ∷ xs) ys w h = or_right (bytes_eq x w) _ (in_right xs ys w h)

holds_left : (ts : List (Bor (List ℕ))) (xs ys : List (List ℕ)) → HasTexts ts (xs ++ ys) → HasTexts ts xs
holds_left ts xs ys h w k = h w (in_left xs ys w k)

holds_right : (ts : List (Bor (List ℕ))) (xs ys : List (List ℕ)) → HasTexts ts (xs ++ ys) → HasTexts ts ys
holds_right ts xs ys h w k = h w (in_right xs ys w k)

-- a list holds its own texts, those of values before those of code
pub holds_own : (ts : List (Bor (List ℕ))) (xs ys : List (List ℕ)) → map (λ t. t.now) ts ≡ xs ++ ys → HasTexts ts xs × HasTexts ts ys
holds_own ts xs ys e =
    let all : HasTexts ts (xs ++ ys) = λ w k. sym (in_now ts w) ∙ ap (λ zs. is_in_texts zs w) e ∙ k in
    (holds_left ts xs ys all, holds_right ts xs ys all)

itself : (w : List ℕ) → bytes_eq w w ≡ true
itself w = sym (same_bytes w w true ((λ t. refl), (λ e. refl)))

value_known : (ts : List (Bor (List ℕ))) (v : Value) → HasTexts ts (texts_of v) → is_known ts v ≡ true
value_known ts (values.Number x) h = refl
value_known ts (values.Triple t) h = refl
value_known ts (values.Word w) h = h w (or_left (bytes_eq w w) _ (itself w))

pub values_known : (ts : List (Bor (List ℕ))) (vs : List Value) → HasTexts ts (texts_of_all vs) → list_all (is_known ts) vs ≡ true
values_known ts [] h = refl
values_known ts (v ∷ vs) h = both (is_known ts v) _ (value_known ts v (holds_left ts (texts_of v) (texts_of_all vs) h)) (values_known ts vs (holds_right ts (texts_of v) (texts_of_all vs) h))

source_is_known : (ts : List (Bor (List ℕ))) (o : Source) → HasTexts ts (texts_of_source o) → source_known ts o ≡ true
source_is_known ts (Constant v) h = value_known ts v h
source_is_known ts (Copy q) h = refl
source_is_known ts (Into s q) h = refl
source_is_known ts (Apply op qs) h = refl

-- the registers of the variables that stand in sums and statements over lights
points_pass : (p : Register → Bool) (k : SlKind) → is_surface k ≡ true → list_all p (kind_registers k) ≡ true → p (name_at names.P) ≡ true
points_pass p kinds.Surface e h = item_passes p (names_at kinds.Surface) 1 (name_at names.Pi) (omega arith) h
points_pass p kinds.Displacement e h = absurd (true≢false (sym e))
points_pass p kinds.Light e h = absurd (true≢false (sym e))
points_pass p kinds.Volume e h = absurd (true≢false (sym e))

lights_pass : (p : Register → Bool) (k : SlKind) (w : LightStmt) → has_lights k w ≡ true → list_all p (kind_registers k) ≡ true → list_all p (lights_registers w) ≡ true
lights_pass p kinds.Surface Illuminance e h =
    let all = names_at kinds.Surface in
    both (p (name_at names.L)) _ (item_passes p all 16 (name_at names.Pi) (omega arith) h) (both (p (name_at names.Cl)) true (item_passes p all 17 (name_at names.Pi) (omega arith) h) refl)
lights_pass p kinds.Surface Illuminate e h = absurd (true≢false (sym e))
lights_pass p kinds.Surface Solar e h = absurd (true≢false (sym e))
lights_pass p kinds.Light Illuminance e h = absurd (true≢false (sym e))
lights_pass p kinds.Light Illuminate e h =
    let all = kind_registers kinds.Light in
    both (p (name_at names.L)) _ (item_passes p all 4 (name_at names.Pi) (omega arith) h) (both (p lit_at) _ (item_passes p all 0 (name_at names.Pi) (omega arith) h) (both (p (name_at names.Ps)) true (item_passes p all 2 (name_at names.Pi) (omega arith) h) refl))
lights_pass p kinds.Light Solar e h =
    let all = kind_registers kinds.Light in
    both (p (name_at names.L)) _ (item_passes p all 4 (name_at names.Pi) (omega arith) h) (both (p lit_at) true (item_passes p all 0 (name_at names.Pi) (omega arith) h) refl)
lights_pass p kinds.Displacement Illuminance e h = absurd (true≢false (sym e))
lights_pass p kinds.Displacement Illuminate e h = absurd (true≢false (sym e))
lights_pass p kinds.Displacement Solar e h = absurd (true≢false (sym e))
lights_pass p kinds.Volume Illuminance e h = absurd (true≢false (sym e))
lights_pass p kinds.Volume Illuminate e h = absurd (true≢false (sym e))
lights_pass p kinds.Volume Solar e h = absurd (true≢false (sym e))

pub light_registers_pass : (p : Register → Bool) (k : SlKind) → is_light k ≡ true → list_all p (kind_registers k) ≡ true → (p (name_at names.L) ≡ true) × ((p (name_at names.Cl) ≡ true) × ((p lit_at ≡ true) × (p (name_at names.Ps) ≡ true)))
light_registers_pass p kinds.Light e h =
    let all = kind_registers kinds.Light in (
      item_passes p all 4 (name_at names.Pi) (omega arith) h,
      (item_passes p all 5 (name_at names.Pi) (omega arith) h, (item_passes p all 0 (name_at names.Pi) (omega arith) h, item_passes p all 2 (name_at names.Pi) (omega arith) h)),
    )
light_registers_pass p kinds.Surface e h = absurd (true≢false (sym e))
light_registers_pass p kinds.Displacement e h = absurd (true≢false (sym e))
light_registers_pass p kinds.Volume e h = absurd (true≢false (sym e))

module _ (v u : RegisterSet) (ts : List (Bor (List ℕ))) (k : SlKind) (all : list_all (has v u) (kind_registers k) ≡ true) where
  pub ready_of : (l c : Bool) (x : Block) → within (has v u) x ≡ true → is_placed k l c x ≡ true → HasTexts ts (texts_in x) → Ready v u ts x
  ready_of l c end w p h = tt
  ready_of l c (put r q x) w p h =
      let w2 = right (has v u r) _ w in
      let p2 = right (same_shape (source_shape q) (register_shape r)) _ p in (
        left (has v u r) _ w,
        (
          record { within = left (source_within (has v u) q) _ w2; operands = left (has_operands q) _ p2; known = source_is_known ts q (holds_left ts (texts_of_source q) (texts_in x) h) },
          (
            shape_eq _ _ (left (same_shape (source_shape q) (register_shape r)) _ p),
            ready_of l c x (right (source_within (has v u) q) _ w2) (right (has_operands q) _ p2) (holds_right ts (texts_of_source q) (texts_in x) h),
          ),
        ),
      )
  ready_of l c (differ r d q x) w p h =
      let w2 = right (has v u r) _ w in
      let p3 = right (has_surface k) _ (right c _ p) in (
        left (has v u r) _ w,
        (
          left (has v u q) _ w2,
          (
            shape_eq _ _ (left (same_shape (difference_shape d (register_shape q)) (register_shape r)) _ p3),
            ready_of l c x (right (has v u q) _ w2) (right (same_shape (difference_shape d (register_shape q)) (register_shape r)) _ p3) h,
          ),
        ),
      )
  ready_of l c (sum r q qs x) w p h =
      let w2 = right (has v u r) _ w in
      let p2 = right (is_surface k) _ p in
      let p3 = right (same_shape shapes.Triple (register_shape r)) _ p2 in (
        left (has v u r) _ w,
        (
          left (list_all (has v u) qs) _ w2,
          (
            points_pass (has v u) k (left (is_surface k) _ p) all,
            (shape_eq _ _ (left (same_shape shapes.Triple (register_shape r)) _ p2), ready_of l c x (right (list_all (has v u) qs) _ w2) (right (at_most_three qs) _ p3) h),
          ),
        ),
      )
  ready_of l c (texture r m qs x) w p h =
      let w2 = right (has v u r) _ w in
      let p3 = right (has_surface k) _ (right c _ p) in
      let p4 = right (same_shape shapes.Triple (register_shape r)) _ p3 in (
        left (has v u r) _ w,
        (
          left (list_all (has v u) qs) _ w2,
          (
            left (are_three qs) _ p4,
            (shape_eq _ _ (left (same_shape shapes.Triple (register_shape r)) _ p3), ready_of l c x (right (list_all (has v u) qs) _ w2) (right (are_three qs) _ p4) h),
          ),
        ),
      )
  ready_of l c (branch t a b x) w p h =
      let w2 = right (has v u t) _ w in
      let w3 = right (within (has v u) a) _ w2 in
      let e = c && register_class t in
      let p2 = right (is_placed k l e a) _ p in
      let h2 = holds_right ts (texts_in a) (texts_in b ++ texts_in x) h in (
        left (has v u t) _ w,
        (
          ready_of l e a (left (within (has v u) a) _ w2) (left (is_placed k l e a) _ p) (holds_left ts (texts_in a) (texts_in b ++ texts_in x) h),
          (
            ready_of l e b (left (within (has v u) b) _ w3) (left (is_placed k l e b) _ p2) (holds_left ts (texts_in b) (texts_in x) h2),
            ready_of l c x (right (within (has v u) b) _ w3) (right (is_placed k l e b) _ p2) (holds_right ts (texts_in b) (texts_in x) h2),
          ),
        ),
      )
  ready_of l c (loops z d t s a x) w p h =
      let w2 = right (within (has v u) d) _ w in
      let w3 = right (has v u t) _ w2 in
      let w4 = right (within (has v u) s) _ w3 in
      let e = c && z in
      let p2 = right (is_placed k false e d) _ p in
      let p3 = right (is_placed k false e s) _ p2 in
      let h2 = holds_right ts (texts_in d) (texts_in s ++ (texts_in a ++ texts_in x)) h in
      let h3 = holds_right ts (texts_in s) (texts_in a ++ texts_in x) h2 in (
        ready_of false e d (left (within (has v u) d) _ w) (left (is_placed k false e d) _ p) (holds_left ts (texts_in d) (texts_in s ++ (texts_in a ++ texts_in x)) h),
        (
          left (has v u t) _ w2,
          (
            ready_of false e s (left (within (has v u) s) _ w3) (left (is_placed k false e s) _ p2) (holds_left ts (texts_in s) (texts_in a ++ texts_in x) h2),
            (
              ready_of true e a (left (within (has v u) a) _ w4) (left (is_placed k true e a) _ p3) (holds_left ts (texts_in a) (texts_in x) h3),
              ready_of l c x (right (within (has v u) a) _ w4) (right (is_placed k true e a) _ p3) (holds_right ts (texts_in a) (texts_in x) h3),
            ),
          ),
        ),
      )
  ready_of l c (lights q qs a x) w p h =
      let w2 = right (list_all (has v u) qs) _ w in
      let p2 = right (has_lights k q) _ p in
      let p3 = right (at_most_three qs) _ p2 in (
        left (list_all (has v u) qs) _ w,
        (
          lights_pass (has v u) k q (left (has_lights k q) _ p) all,
          (
            ready_of l false a (left (within (has v u) a) _ w2) (left (is_placed k l false a) _ p3) (holds_left ts (texts_in a) (texts_in x) h),
            ready_of l c x (right (within (has v u) a) _ w2) (right (is_placed k l false a) _ p3) (holds_right ts (texts_in a) (texts_in x) h),
          ),
        ),
      )
  ready_of l c (breaks x) w p h = ready_of l c x w (right l _ p) h
  ready_of l c (continues x) w p h = ready_of l c x w (right l _ p) h
