-- The rows of the parameters that vary hold their values at the points.
use Rattle.std.proofs.Common.{◌≡◌, ℕ, ◌*◌, ◌<◌, Bool, true, false, cond, ℤ, pos, List, [], ◌∷◌, ◌++◌, length, map, get_or, Option, Some, None, refl, sym, ap, ◌∙◌, subst, arith, append_assoc}
use Rattle.std.proofs.lemmas.List.{append-nil, length-map, get_or-map}
use Rattle.fixed_math.specs.Axes.{origin, part_of}
use Rattle.fixed_math.specs.declared.vec3.Axis.TheVariants as axes
use Rattle.fixed_math.specs.declared.vec3.Vec3.{Vec3}
use Rattle.scene.specs.declared.params.Kind.{Kind}
use Rattle.scene.specs.declared.params.Kind.TheVariants as kinds
use Rattle.scene.specs.Scene.{VariableValue}
use Rattle.sl_ast.specs.declared.typed.Value.{Value}
use Rattle.sl_ast.specs.Typed.{Local}
use Rattle.sl_ast.specs.declared.typed.Value.TheVariants.{Number, Triple}
use Rattle.builtins.specs.declared.shape.Shape.TheVariants as shapes
use Rattle.builtins.specs.Shapes.{shape}
use Rattle.grid_code.specs.declared.slot.Slot.{Slot}
use Rattle.grid_variables.specs.Points.{Leaf}
use Rattle.scene.specs.Seats.{text_of}
use Rattle.grid_variables.specs.Variables.{spread, bound_variable, value_by, value_or, values_at}
use Rattle.place_rows.specs.Layout.{row_length, same_class}
use Rattle.grid_rows.specs.Rows.{HoldList, heights, AreRows, AreRowable, row_of, triple_rows, value_rows, values_of}
use Rattle.grid_variables.specs.Places.{point_count, over}
use Rattle.grid_rows.specs.Given.{rows_by, rows_or, param_rows}
use Rattle.grid_rows.proofs.Filled.{number_rows, triples_rows, value_more_rows}
use Rattle.grid_variables.proofs.Over.{over_at, over_long}

pub same_given : (c : ℕ) (g h : ℕ → List Value) (rows : List ℤ) → ((i : ℕ) → i < c → g i ≡ h i) → AreRows c g rows → AreRows c h rows
same_given c g h rows e r =
    record {
      long = λ i l. subst (λ vs. length rows ≡ heights vs * row_length c) (e i l) (r.long i l);
      hold = λ i l. subst (λ vs. HoldList vs rows (row_length c) 0 i) (e i l) (r.hold i l);
    }

-- ---- the parameters that vary
abbrev Varies : Leaf → (ℕ → List Value) → List ℤ → List Local → List Slot → List Value → Type 0
Varies l given rows ps ss vs = AreRows (point_count l) (λ i. given i ++ values_of false ss (values_at l ps vs i)) (rows ++ param_rows l ps ss vs)

-- one value by places and its rows, where it is of a class that has rows
more_by : (l : Leaf) (given : ℕ → List Value) (rows : List ℤ) → AreRows (point_count l) given rows → (x : VariableValue) (k : Kind) (w : List ℕ) → (shape (value_by k w (spread l x 0)) ≡ shapes.Word → ⊥) →
    AreRows (point_count l) (λ i. given i ++ value_by k w (spread l x i) ∷ []) (rows ++ rows_by k (over (point_count l) (spread l x)))
more_by l given rows h x k w t = by_kind k t
  where
    c : ℕ
    c = point_count l

    values : List Vec3
    values = over (point_count l) (spread l x)

    firsts : List ℤ
    firsts = map (part_of axes.X) (over (point_count l) (spread l x))

    firsts_long : length (map (part_of axes.X) (over (point_count l) (spread l x))) ≡ point_count l
    firsts_long = length-map (over (point_count l) (spread l x)) (part_of axes.X) ∙ over_long (spread l x) (point_count l)

    first_at : (i : ℕ) → i < point_count l → get_or (map (part_of axes.X) (over (point_count l) (spread l x))) i (pos 0) ≡ (spread l x i).x
    first_at i m = get_or-map (part_of axes.X) (over (point_count l) (spread l x)) i origin (pos 0) (let e = over_long (spread l x) (point_count l) in omega (arith, e, m)) ∙ ap (part_of axes.X) (over_at (spread l x) (point_count l) i origin m)

    numbers : AreRows (point_count l) (λ i. given i ++ Number (spread l x i).x ∷ []) (rows ++ row_of (map (part_of axes.X) (over (point_count l) (spread l x))))
    numbers =
        same_given (point_count l) (λ i. given i ++ Number (get_or (map (part_of axes.X) (over (point_count l) (spread l x))) i (pos 0)) ∷ []) (λ i. given i ++ Number (spread l x i).x ∷ []) _ (λ i m. ap (λ y. given i ++ Number y ∷ []) (first_at i m))
        (number_rows (point_count l) given rows h (map (part_of axes.X) (over (point_count l) (spread l x))) (rows ++ row_of (map (part_of axes.X) (over (point_count l) (spread l x)))) firsts_long refl)

    triples : AreRows (point_count l) (λ i. given i ++ Triple (spread l x i) ∷ []) (rows ++ triple_rows (over (point_count l) (spread l x)))
    triples =
        same_given (point_count l) (λ i. given i ++ Triple (get_or (over (point_count l) (spread l x)) i origin) ∷ []) (λ i. given i ++ Triple (spread l x i) ∷ []) _ (λ i m. ap (λ y. given i ++ Triple y ∷ []) (over_at (spread l x) (point_count l) i origin m))
        (triples_rows (point_count l) given rows h (over (point_count l) (spread l x)) (rows ++ triple_rows (over (point_count l) (spread l x))) (over_long (spread l x) (point_count l)) refl)

    by_kind : (k : Kind) → (shape (value_by k w (spread l x 0)) ≡ shapes.Word → ⊥) → AreRows (point_count l) (λ i. given i ++ value_by k w (spread l x i) ∷ []) (rows ++ rows_by k (over (point_count l) (spread l x)))
    by_kind kinds.Float t = numbers
    by_kind kinds.Pair t = numbers
    by_kind kinds.Str t = absurd (t refl)
    by_kind kinds.Color t = triples
    by_kind kinds.Point t = triples
    by_kind kinds.Vector t = triples
    by_kind kinds.Normal t = triples

more_or : (l : Leaf) (given : ℕ → List Value) (rows : List ℤ) → AreRows (point_count l) given rows → (o : Option VariableValue) (v : Value) → (shape (value_or l 0 o v) ≡ shapes.Word → ⊥) →
    AreRows (point_count l) (λ i. given i ++ value_or l i o v ∷ []) (rows ++ rows_or l o v)
more_or l given rows h None v t = value_more_rows (point_count l) given rows h v (rows ++ value_rows (point_count l) v) t refl
more_or l given rows h (Some x) v t = more_by l given rows h x x.kind (text_of x.values) t

one_param : (c : ℕ) (given : ℕ → List Value) (rows : List ℤ) (u : Bool) (v : ℕ → Value) (ws : ℕ → List Value) (block rest : List ℤ) → (u ≡ true → AreRows c (λ i. given i ++ ws i) (rows ++ rest)) → (u ≡ false → AreRows c (λ i. (given i ++ v i ∷ []) ++ ws i) ((rows ++ block) ++ rest)) →
    AreRows c (λ i. given i ++ cond (same_class u false) (v i ∷ ws i) (ws i)) (rows ++ cond u rest (block ++ rest))
one_param c given rows true v ws block rest a b = a refl
one_param c given rows false v ws block rest a b =
    same_given c (λ i. (given i ++ v i ∷ []) ++ ws i) (λ i. given i ++ v i ∷ ws i) _ (λ i l. append_assoc (given i) (v i ∷ []) (ws i))
    (subst (λ q. AreRows c (λ i. (given i ++ v i ∷ []) ++ ws i) q) (append_assoc rows block rest) (b refl))

no_more : (c : ℕ) (given : ℕ → List Value) (rows : List ℤ) → AreRows c given rows → AreRows c (λ i. given i ++ []) (rows ++ [])
no_more c given rows h = same_given c given (λ i. given i ++ []) (rows ++ []) (λ i l. sym (append-nil (given i))) (subst (λ q. AreRows c given q) (sym (append-nil rows)) h)

pub params_rows : (l : Leaf) (given : ℕ → List Value) (rows : List ℤ) (ps : List Local) (ss : List Slot) (vs : List Value) → length ss ≡ length ps → length vs ≡ length ps → AreRowable ss (values_at l ps vs 0) → AreRows (point_count l) given rows → Varies l given rows ps ss vs
params_rows l given rows [] [] [] e f w h = no_more (point_count l) given rows h
params_rows l given rows [] (s ∷ ss) vs e f w h = absurd (omega arith)
params_rows l given rows [] [] (v ∷ vs) e f w h = absurd (omega arith)
params_rows l given rows (p ∷ ps) [] vs e f w h = absurd (omega arith)
params_rows l given rows (p ∷ ps) (s ∷ ss) [] e f w h = absurd (omega arith)
params_rows l given rows (p ∷ ps) (s ∷ ss) (v ∷ vs) e f w h =
    let o = bound_variable p.name l.prim.vars in
    one_param (point_count l) given rows s.uniform (λ i. value_or l i o v) (λ i. values_of false ss (values_at l ps vs i)) (rows_or l o v) (param_rows l ps ss vs)
    (λ u. params_rows l given rows ps ss vs (omega arith) (omega arith) w.1 h)
    (λ u. params_rows l (λ i. given i ++ value_or l i o v ∷ []) (rows ++ rows_or l o v) ps ss vs (omega arith) (omega arith) w.1 (more_or l given rows h o v (w.0 u)))
