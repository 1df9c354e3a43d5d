-- The rows that shaders are given hold the variables at the points.
use Rattle.std.proofs.Common.{◌≡◌, ℕ, ◌<◌, Bool, true, false, cond, ℤ, pos, List, [], ◌∷◌, ◌++◌, length, map, get_or, refl, sym, ap, subst, append_assoc}
use Rattle.std.proofs.lemmas.List.{append-nil}
use Rattle.fixed_math.specs.Axes.{origin}
use Rattle.fixed_math.specs.declared.vec3.Vec3.{Vec3}
use Rattle.sl_ast.specs.declared.kinds.Predefined.{Predefined}
use Rattle.sl_ast.specs.declared.kinds.Predefined.TheVariants as names
use Rattle.sl_ast.specs.declared.kinds.SlKind.{SlKind}
use Rattle.sl_ast.specs.declared.kinds.SlKind.TheVariants.{Surface, Displacement, Volume}
use Rattle.sl_ast.specs.declared.typed.Value.{Value}
use Rattle.sl_ast.specs.declared.typed.Value.TheVariants.{Number, Triple}
use Rattle.builtins.specs.declared.shape.Shape.TheVariants as shapes
use Rattle.builtins.specs.Shapes.{shape}
use Rattle.grid_code.specs.declared.register_set.RegisterSet.{RegisterSet}
use Rattle.grid_code.specs.declared.slot.Slot.{Slot}
use Rattle.sl_meaning.specs.Runs.{Names}
use Rattle.grid_variables.specs.Points.{Leaf, normal_of, u_at, v_at, dpdu, dpdv}
use Rattle.grid_variables.specs.Variables.{s_at, t_at, cs_at, os_at}
use Rattle.grid_variables.specs.Places.{point_count, over, normals_of, IsSized, IsColoured}
use Rattle.grid_variables.specs.declared.variables.Variables.{Variables}
use Rattle.grid_rows.specs.Rows.{AreRows, row_of, triple_rows, value_rows, values_of}
use Rattle.grid_rows.specs.Wanted.{given_order, wanted, zero_of_name}
use Rattle.grid_rows.specs.Given.{name_rows, wanted_rows, all_rows}
use Rattle.displace_shade.specs.Rows.{varying_values}
use Rattle.displace_shade.specs.Diced.{names_of, Hold}
use Rattle.grid_rows.proofs.Filled.{number_rows, triples_rows, value_more_rows}
use Rattle.grid_variables.proofs.Over.{over_at, over_long}
use Rattle.grid_rows.proofs.ParamRows.{same_given}
use Rattle.displace_shade.proofs.Looks.{Every}
use Rattle.displace_shade.proofs.Wanted.{seen}

-- no predefined variable is a text
no_text : (p : Predefined) → shape (zero_of_name p) ≡ shapes.Word → ⊥
no_text names.U h = absurd cc
no_text _ h = absurd cc

-- a variable that has rows
abbrev pub HasRows : Leaf → Variables → Predefined → Type 0
HasRows l d names.Ci = length d.colours.now ≡ point_count l
HasRows l d names.Oi = length d.opacities.now ≡ point_count l
HasRows l d names.E = ⊥
HasRows l d names.Du = ⊥
HasRows l d names.Dv = ⊥
HasRows l d names.L = ⊥
HasRows l d names.Cl = ⊥
HasRows l d names.Ps = ⊥
HasRows l d names.Pi = ⊥
HasRows l d p = Unit {0}

module _ (l : Leaf) (d : Variables) (sized : IsSized l d) where
  abbrev c : ℕ
  c = point_count l

  numbers : (g : ℕ → List Value) (rows : List ℤ) (f : ℕ → ℤ) → AreRows c g rows → AreRows c (λ i. g i ++ Number (f i) ∷ []) (rows ++ row_of (over c f))
  numbers g rows f h =
      same_given c (λ i. g i ++ Number (get_or (over c f) i (pos 0)) ∷ []) (λ i. g i ++ Number (f i) ∷ []) _ (λ i m. ap (λ x. g i ++ Number x ∷ []) (over_at f c i (pos 0) m))
      (number_rows c g rows h (over c f) (rows ++ row_of (over c f)) (over_long f c) refl)

  triples : (g : ℕ → List Value) (rows : List ℤ) (f : ℕ → Vec3) → AreRows c g rows → AreRows c (λ i. g i ++ Triple (f i) ∷ []) (rows ++ triple_rows (over c f))
  triples g rows f h =
      same_given c (λ i. g i ++ Triple (get_or (over c f) i origin) ∷ []) (λ i. g i ++ Triple (f i) ∷ []) _ (λ i m. ap (λ q. g i ++ Triple q ∷ []) (over_at f c i origin m))
      (triples_rows c g rows h (over c f) (rows ++ triple_rows (over c f)) (over_long f c) refl)

  one_name : (g : ℕ → List Value) (rows : List ℤ) → AreRows c g rows → (p : Predefined) → HasRows l d p → AreRows c (λ i. g i ++ names_of l d i p ∷ []) (rows ++ name_rows l d p)
  one_name g rows h names.P k = triples_rows c g rows h d.points.now (rows ++ triple_rows d.points.now) sized.points refl
  one_name g rows h names.N k = triples_rows c g rows h (normals_of l d.normals) (rows ++ triple_rows (normals_of l d.normals)) sized.normals refl
  one_name g rows h names.Ng k = triples g rows (normal_of l) h
  one_name g rows h names.I k = triples_rows c g rows h d.sights.now (rows ++ triple_rows d.sights.now) sized.sights refl
  one_name g rows h names.U k = numbers g rows (u_at l) h
  one_name g rows h names.V k = numbers g rows (v_at l) h
  one_name g rows h names.S k = numbers g rows (s_at l) h
  one_name g rows h names.T k = numbers g rows (t_at l) h
  one_name g rows h names.Cs k = triples g rows (cs_at l) h
  one_name g rows h names.Os k = triples g rows (os_at l) h
  one_name g rows h names.DPdu k = triples g rows (dpdu l) h
  one_name g rows h names.DPdv k = triples g rows (dpdv l) h
  one_name g rows h names.Ci k = triples_rows c g rows h d.colours.now (rows ++ triple_rows d.colours.now) k refl
  one_name g rows h names.Oi k = triples_rows c g rows h d.opacities.now (rows ++ triple_rows d.opacities.now) k refl
  one_name g rows h names.E k = absurd k
  one_name g rows h names.Du k = absurd k
  one_name g rows h names.Dv k = absurd k
  one_name g rows h names.L k = absurd k
  one_name g rows h names.Cl k = absurd k
  one_name g rows h names.Ps k = absurd k
  one_name g rows h names.Pi k = absurd k

  one_wanted : (b : Bool) (g : ℕ → List Value) (rows : List ℤ) → AreRows c g rows → (p : Predefined) → HasRows l d p →
      AreRows c (λ i. g i ++ cond b (names_of l d i p) (zero_of_name p) ∷ []) (rows ++ cond b (name_rows l d p) (value_rows c (zero_of_name p)))
  one_wanted true g rows h p k = one_name g rows h p k
  one_wanted false g rows h p k = value_more_rows c g rows h (zero_of_name p) (rows ++ value_rows c (zero_of_name p)) (no_text p) refl

  all_wanted : (kind : SlKind) (named : RegisterSet) (ps : List Predefined) → Every (HasRows l d) ps → (g : ℕ → List Value) (rows : List ℤ) → AreRows c g rows →
      AreRows c (λ i. g i ++ map (seen kind named (names_of l d i)) ps) (rows ++ all_rows (wanted_rows kind named l d) ps)
  all_wanted kind named [] k g rows h = same_given c g (λ i. g i ++ []) (rows ++ []) (λ i m. sym (append-nil (g i))) (subst (AreRows c g) (sym (append-nil rows)) h)
  all_wanted kind named (p ∷ ps) k g rows h =
      let one = one_wanted (wanted kind named p) g rows h p k.0 in
      let rest = all_wanted kind named ps k.1 (λ i. g i ++ seen kind named (names_of l d i) p ∷ []) (rows ++ wanted_rows kind named l d p) one in
      same_given c (λ i. (g i ++ seen kind named (names_of l d i) p ∷ []) ++ map (seen kind named (names_of l d i)) ps) (λ i. g i ++ map (seen kind named (names_of l d i)) (p ∷ ps)) _ (λ i m. append_assoc (g i) (seen kind named (names_of l d i) p ∷ []) (map (seen kind named (names_of l d i)) ps))
      (subst (AreRows c (λ i. (g i ++ seen kind named (names_of l d i) p ∷ []) ++ map (seen kind named (names_of l d i)) ps)) (append_assoc rows (wanted_rows kind named l d p) (all_rows (wanted_rows kind named l d) ps)) rest)

  pub surface_rows_held : Every (HasRows l d) (given_order Surface)
  surface_rows_held = (tt, (tt, (tt, (tt, (tt, (tt, (tt, (tt, (tt, (tt, (tt, (tt, tt))))))))))))

  pub displacement_rows_held : Every (HasRows l d) (given_order Displacement)
  displacement_rows_held = (tt, (tt, (tt, (tt, (tt, (tt, (tt, (tt, (tt, (tt, (tt, (tt, tt))))))))))))

  pub volume_rows_held : IsColoured l d → Every (HasRows l d) (given_order Volume)
  volume_rows_held k = (tt, (tt, (k.colours, (k.opacities, tt))))

  -- the rows of a kind, behind those of its parameters
  pub rows_held : (kind : SlKind) (named : RegisterSet) (ps : List Slot) (vs : ℕ → List Value) (params : List ℤ) → AreRows c (λ i. values_of false ps (vs i)) params → Every (HasRows l d) (given_order kind) →
      AreRows c (λ i. varying_values kind ps (vs i) (seen kind named (names_of l d i))) (params ++ all_rows (wanted_rows kind named l d) (given_order kind))
  rows_held kind named ps vs params fronts k = all_wanted kind named (given_order kind) k (λ i. values_of false ps (vs i)) params fronts

-- whatever function holds them
pub seen_held : (l : Leaf) (d : Variables) (f : ℕ → Names) → Hold l d f → (kind : SlKind) (named : RegisterSet) (ps : List Slot) (vs : ℕ → List Value) (rows : List ℤ) → AreRows (point_count l) (λ i. varying_values kind ps (vs i) (seen kind named (names_of l d i))) rows →
    AreRows (point_count l) (λ i. varying_values kind ps (vs i) (seen kind named (f i))) rows
seen_held l d f hold kind named ps vs rows h =
    same_given (point_count l) (λ i. varying_values kind ps (vs i) (seen kind named (names_of l d i))) (λ i. varying_values kind ps (vs i) (seen kind named (f i))) rows (λ i m. sym (same i m)) h
  where
    same : (i : ℕ) → i < point_count l → varying_values kind ps (vs i) (seen kind named (f i)) ≡ varying_values kind ps (vs i) (seen kind named (names_of l d i))
    same i m = λ j. values_of false ps (vs i) ++ map (λ p. cond (wanted kind named p) (hold.at i p m j) (zero_of_name p)) (given_order kind)
