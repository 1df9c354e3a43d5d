-- What the state that a run begins with holds: the variables at the points and the values of the parameters, by what the run is given.
use Rattle.std.proofs.Common.{◌≡◌, ℕ, zero, suc, ◌+◌, ◌<◌, ◌≤◌, Bool, true, false, cond, ℤ, List, [], ◌∷◌, ◌++◌, length, map, get_or, refl, sym, ap, ◌∙◌, subst, arith}
use Rattle.std.proofs.lemmas.Bool.{cond-true, true≢false}
use Rattle.std.proofs.lemmas.List.{length-map}
use Rattle.sl_ast.specs.declared.kinds.Predefined.{Predefined}
use Rattle.sl_ast.specs.declared.kinds.Predefined.TheVariants as names
use Rattle.sl_ast.specs.declared.kinds.SlKind.{SlKind}
use Rattle.sl_ast.specs.declared.kinds.SlKind.TheVariants.{Surface, Displacement, Light, Volume}
use Rattle.sl_ast.specs.declared.typed.Value.{Value}
use Rattle.sl_ast.specs.Typed.{Local}
use Rattle.sl_ast.specs.Names.{name_type, has_surface}
use Rattle.sl_ast.specs.Classes.{is_uniform_name}
use Rattle.sl_ast.specs.Variables.{variables}
use Rattle.builtins.specs.declared.shape.Shape.{Shape}
use Rattle.builtins.specs.declared.shape.Shape.TheVariants as shapes
use Rattle.builtins.specs.Names.{place_of}
use Rattle.builtins.specs.Shapes.{shape}
use Rattle.builtins.specs.Values.{shape_of, as_shape, truth}
use Rattle.grid_code.specs.declared.code.Register.{Register}
use Rattle.grid_code.specs.declared.slot.Slot.{Slot}
use Rattle.grid_code.specs.Names.{reg, name_at, lit_at, first_free}
use Rattle.grid_code.specs.Masked.{State, read, write}
use Rattle.grid_code.specs.Shapes.{register_class}
use Rattle.sl_meaning.specs.Core as core
use Rattle.sl_meaning.specs.Environment.{zero_value}
use Rattle.sl_meaning.specs.Lowered.{slots}
use Rattle.sl_meaning.specs.Runs.{Names, nothing}
use Rattle.sl_meaning.specs.Runs as runs
use Rattle.core_codegen.specs.Variables.{slot_at}
use Rattle.core_codegen.proofs.Relation.{place_small}
use Rattle.shader_binding.specs.Sets.{AreValuesOf}
use Rattle.place_rows.specs.Layout.{row_length, same_class}
use Rattle.grid_machine.specs.Run.{params_of, given_names, step_names, uniform_inputs, varying_inputs, assigned, loaded, started, fresh, begun}
use Rattle.grid_machine.specs.Run as run
use Rattle.grid_rows.specs.Rows.{HoldList, values_of}
use Rattle.grid_rows.specs.Wanted.{given_order}
use Rattle.displace_shade.specs.Rows.{uniform_values, varying_values, slot_of}
use Rattle.displace_shade.proofs.Begun.{AreNames, values_counted, values_shaped}
use Rattle.displace_shade.proofs.Looks.{Every, every_map, register_number, same_register, look, read_write, Keeps, write_keeps, keeps_on, live_on, assigned_keeps, loaded_keeps, assigned_look, Fit, loaded_look, Paired, look_on, look_apart, number_apart, class_apart, register_self, shape_of_reg, class_of_reg, number_of_reg}

-- how the parameters of the code are those of the tree
pub record AreParams (ps : List Slot) (ls : List Local) (vs : List Value) : Type 0 where
  pub slots : map slot_of ps ≡ slots ls
  pub values : AreValuesOf ls vs

-- ---- registers of parameters
head_of : (b u : Bool) (s : Shape) (n : ℕ) (P : Register → Type 0) (rs : List Register) → P (reg u s n) → Every P rs → Every P (cond b (reg u s n ∷ []) [] ++ rs)
head_of true u s n P rs h k = (h, k)
head_of false u s n P rs h k = k

params_numbered : (u : Bool) (n m : ℕ) (ps : List Slot) → m ≤ n → Every (λ r. m ≤ register_number r) (params_of u n ps)
params_numbered u n m [] h = tt
params_numbered u n m (p ∷ ps) h = head_of (same_class p.uniform u) u (shape_of p.kind) n (λ r. m ≤ register_number r) (params_of u (n + 1) ps) (let e = number_of_reg u (shape_of p.kind) n in omega (arith, e, h)) (params_numbered u (n + 1) m ps (omega arith))

params_classed : (u : Bool) (n : ℕ) (ps : List Slot) → Every (λ r. register_class r ≡ u) (params_of u n ps)
params_classed u n [] = tt
params_classed u n (p ∷ ps) = head_of (same_class p.uniform u) u (shape_of p.kind) n (λ r. register_class r ≡ u) (params_of u (n + 1) ps) (class_of_reg u (shape_of p.kind) n) (params_classed u (n + 1) ps)

below_params : (q : Register) (u : Bool) (n : ℕ) (ps : List Slot) → register_number q < n → Every (λ r. same_register q r ≡ false) (params_of u n ps)
below_params q u n ps h = every_map (λ r. n ≤ register_number r) _ (λ r e. number_apart q r (λ s. omega arith)) (params_of u n ps) (params_numbered u n n ps (omega arith))

other_params : (q : Register) (u : Bool) (n : ℕ) (ps : List Slot) → (register_class q ≡ u → ⊥) → Every (λ r. same_register q r ≡ false) (params_of u n ps)
other_params q u n ps h = every_map (λ r. register_class r ≡ u) _ (λ r e. class_apart q r (λ s. h (s ∙ e))) (params_of u n ps) (params_classed u n ps)

head_paired : (b : Bool) (r : Register) (v : Value) (rs : List Register) (vs : List Value) → Paired rs vs → Paired (cond b (r ∷ []) [] ++ rs) (cond b (v ∷ vs) vs)
head_paired true r v rs vs h = h
head_paired false r v rs vs h = h

pub params_paired : (u : Bool) (n : ℕ) (ps : List Slot) (vs : List Value) → length vs ≡ length ps → Paired (params_of u n ps) (values_of u ps vs)
params_paired u n [] [] h = tt
params_paired u n [] (v ∷ vs) h = absurd (omega arith)
params_paired u n (p ∷ ps) [] h = absurd (omega arith)
params_paired u n (p ∷ ps) (v ∷ vs) h = head_paired (same_class p.uniform u) (reg u (shape_of p.kind) n) v (params_of u (n + 1) ps) (values_of u ps vs) (params_paired u (n + 1) ps vs (omega arith))

head_fit : (b : Bool) (s : Shape) (n : ℕ) (v : Value) (rs : List Register) (vs : List Value) → s ≡ shape v → Fit rs vs → Fit (cond b (reg false s n ∷ []) [] ++ rs) (cond b (v ∷ vs) vs)
head_fit true s n v rs vs e h = ((e, refl), h)
head_fit false s n v rs vs e h = h

params_fit : (n : ℕ) (ps : List Slot) (vs : List Value) → length vs ≡ length ps → ((k : ℕ) → k < length ps → shape (get_or vs k zero_value) ≡ shape_of (get_or (map slot_of ps) k core.no_slot).kind) → Fit (params_of false n ps) (values_of false ps vs)
params_fit n [] [] h g = tt
params_fit n [] (v ∷ vs) h g = absurd (omega arith)
params_fit n (p ∷ ps) [] h g = absurd (omega arith)
params_fit n (p ∷ ps) (v ∷ vs) h g = head_fit (same_class p.uniform false) (shape_of p.kind) n v (params_of false (n + 1) ps) (values_of false ps vs) (sym (g 0 (omega arith))) (params_fit (n + 1) ps vs (omega arith) (λ k l. g (suc k) (omega arith)))

-- the register of a parameter of that class holds its value
head_look : (b : Bool) (q r : Register) (v : Value) (rs : List Register) (vs : List Value) (d : Value) → same_register q r ≡ false → look q (cond b (r ∷ []) [] ++ rs) (cond b (v ∷ vs) vs) d ≡ look q rs vs d
head_look true q r v rs vs d h = ap (look q rs vs) (ap (λ b. cond b v d) h)
head_look false q r v rs vs d h = refl

same_classes : (u : Bool) → same_class u u ≡ true
same_classes true = refl
same_classes false = refl

param_look : (u : Bool) (n : ℕ) (ps : List Slot) (vs : List Value) (d : Value) (k : ℕ) → length vs ≡ length ps → k < length ps → (get_or (map slot_of ps) k core.no_slot).uniform ≡ u →
    look (reg u (shape_of (get_or (map slot_of ps) k core.no_slot).kind) (n + k)) (params_of u n ps) (values_of u ps vs) d ≡ get_or vs k zero_value
param_look u n [] vs d k e l h = absurd (omega arith)
param_look u n (p ∷ ps) [] d k e l h = absurd (omega arith)
param_look u n (p ∷ ps) (v ∷ vs) d zero e l h =
    let q = reg u (shape_of p.kind) n in
    let b : same_class p.uniform u ≡ true = ap (λ x. same_class x u) h ∙ same_classes u in
    let here : n + 0 ≡ n = omega arith in
    ap (λ m. look (reg u (shape_of p.kind) m) (params_of u n (p ∷ ps)) (values_of u (p ∷ ps) (v ∷ vs)) d) here
    ∙ ap (λ x. look q (cond x (q ∷ []) [] ++ params_of u (n + 1) ps) (cond x (v ∷ values_of u ps vs) (values_of u ps vs)) d) b
    ∙ look_apart q (params_of u (n + 1) ps) (values_of u ps vs) (cond (same_register q q) v d) (below_params q u (n + 1) ps (let m = number_of_reg u (shape_of p.kind) n in omega (arith, m)))
    ∙ cond-true (same_register q q) v d (register_self q)
param_look u n (p ∷ ps) (v ∷ vs) d (suc k) e l h =
    let kind = (get_or (map slot_of ps) k core.no_slot).kind in
    let there : n + suc k ≡ n + 1 + k = omega arith in
    let a = number_of_reg u (shape_of kind) (n + suc k) in
    let b = number_of_reg u (shape_of p.kind) n in
    head_look (same_class p.uniform u) (reg u (shape_of kind) (n + suc k)) (reg u (shape_of p.kind) n) v (params_of u (n + 1) ps) (values_of u ps vs) d (number_apart (reg u (shape_of kind) (n + suc k)) (reg u (shape_of p.kind) n) (λ (s : register_number (reg u (shape_of kind) (n + suc k)) ≡ register_number (reg u (shape_of p.kind) n)). let z : n + suc k ≡ n = sym a ∙ s ∙ b in omega (arith, z)))
    ∙ ap (λ m. look (reg u (shape_of kind) m) (params_of u (n + 1) ps) (values_of u ps vs) d) there ∙ param_look u (n + 1) ps vs d k (omega arith) (omega arith) h

-- ---- registers of variables
names_is : (kind : SlKind) → given_names kind ≡ map name_at (given_order kind)
names_is Surface = refl
names_is Displacement = refl
names_is Light = refl
names_is Volume = refl

names_paired : (ps : List Predefined) (g : Names) → Paired (map name_at ps) (map g ps)
names_paired [] g = tt
names_paired (p ∷ ps) g = names_paired ps g

names_varying : (kind : SlKind) → Every (λ p. is_uniform_name p ≡ false) (given_order kind)
names_varying Surface = (refl, (refl, (refl, (refl, (refl, (refl, (refl, (refl, (refl, (refl, (refl, (refl, tt))))))))))))
names_varying Displacement = (refl, (refl, (refl, (refl, (refl, (refl, (refl, (refl, (refl, (refl, (refl, (refl, tt))))))))))))
names_varying Light = (refl, tt)
names_varying Volume = (refl, (refl, (refl, (refl, tt))))

names_fit : (ps : List Predefined) (g : Names) → ((p : Predefined) → shape (g p) ≡ shape_of (name_type p)) → Every (λ p. is_uniform_name p ≡ false) ps → Fit (map name_at ps) (map g ps)
names_fit [] g h e = tt
names_fit (p ∷ ps) g h e = ((shape_of_reg (is_uniform_name p) (shape_of (name_type p)) (place_of p) ∙ sym (h p), class_of_reg (is_uniform_name p) (shape_of (name_type p)) (place_of p) ∙ e.0), names_fit ps g h e.1)

fit_on : (rs qs : List Register) (vs ws : List Value) → Fit rs vs → Fit qs ws → Fit (rs ++ qs) (vs ++ ws)
fit_on [] qs [] ws a b = b
fit_on (r ∷ rs) qs (v ∷ vs) ws a b = (a.0, fit_on rs qs vs ws a.1 b)
fit_on [] qs (v ∷ vs) ws a b = absurd a
fit_on (r ∷ rs) qs [] ws a b = absurd a

pub name_number : (p : Predefined) → register_number (name_at p) < first_free
name_number p = let e = number_of_reg (is_uniform_name p) (shape_of (name_type p)) (place_of p) in let l = place_small p in omega (arith, e, l)

abbrev step_values : SlKind → Names → List Value
step_values kind g = cond (has_surface kind) (g names.Du ∷ g names.Dv ∷ []) []

-- what a variable's register holds before the variables with a start are set
abbrev before : SlKind → Names → Names → Names
before kind first g p = look (name_at p) (map name_at (given_order kind)) (map g (given_order kind)) (look (name_at p) (step_names kind) (step_values kind first) (nothing p))

-- and behind that
abbrev behind : SlKind → Names → Names
behind Surface n names.Ci = n names.Cs
behind Surface n names.Oi = n names.Os
behind kind n p = n p

-- no light is seen yet, and the eye is at the origin
record Bare (g : Names) : Type 0 where
  eye : g names.E ≡ nothing names.E
  towards : g names.L ≡ nothing names.L
  colour : g names.Cl ≡ nothing names.Cl

behind_is : (kind : SlKind) (first g : Names) (p : Predefined) → Bare g → first names.Du ≡ g names.Du → first names.Dv ≡ g names.Dv → behind kind (before kind first g) p ≡ runs.begun kind g p
behind_is Surface first g names.E e u v = sym e.eye
behind_is Surface first g names.L e u v = sym e.towards
behind_is Surface first g names.Cl e u v = sym e.colour
behind_is Surface first g names.Du e u v = u
behind_is Surface first g names.Dv e u v = v
behind_is Surface first g _ e u v = refl
behind_is Displacement first g names.E e u v = sym e.eye
behind_is Displacement first g names.Du e u v = u
behind_is Displacement first g names.Dv e u v = v
behind_is Displacement first g _ e u v = refl
behind_is Light first g names.E e u v = sym e.eye
behind_is Light first g names.L e u v = sym e.towards
behind_is Light first g _ e u v = refl
behind_is Volume first g names.E e u v = sym e.eye
behind_is Volume first g _ e u v = refl

-- ---- the variables with a start
copy_ci : ℕ → State → State
copy_ci c s = write c (name_at names.Ci) (λ i. read s (name_at names.Cs) i) s

started_name : (kind : SlKind) (c i : ℕ) (s : State) (n : Names) → i < c → s.live i ≡ true → ((p : Predefined) → read s (name_at p) i ≡ n p) → (p : Predefined) → read (started c (variables kind) s) (name_at p) i ≡ behind kind n p
unfolding copy_ci
started_name Surface c i s n l h e names.Oi =
    let t = copy_ci c s in
    let k = live_on s t i (write_keeps c (name_at names.Ci) _ s) h in
    read_write c i (name_at names.Oi) (name_at names.Oi) (λ j. read t (name_at names.Os) j) t l k ∙ read_write c i (name_at names.Os) (name_at names.Ci) (λ j. read s (name_at names.Cs) j) s l h ∙ e names.Os
started_name Surface c i s n l h e names.Ci =
    let t = copy_ci c s in
    let k = live_on s t i (write_keeps c (name_at names.Ci) _ s) h in
    read_write c i (name_at names.Ci) (name_at names.Oi) (λ j. read t (name_at names.Os) j) t l k ∙ read_write c i (name_at names.Ci) (name_at names.Ci) (λ j. read s (name_at names.Cs) j) s l h ∙ e names.Cs
started_name Surface c i s n l h e p =
    let t = copy_ci c s in
    let k = live_on s t i (write_keeps c (name_at names.Ci) _ s) h in
    read_write c i (name_at p) (name_at names.Oi) (λ j. read t (name_at names.Os) j) t l k ∙ read_write c i (name_at p) (name_at names.Ci) (λ j. read s (name_at names.Cs) j) s l h ∙ e p
started_name Displacement c i s n l h e p = e p
started_name Light c i s n l h e p = e p
started_name Volume c i s n l h e p = e p

started_other : (kind : SlKind) (c i : ℕ) (s : State) (q : Register) → i < c → s.live i ≡ true → 21 ≤ register_number q → read (started c (variables kind) s) q i ≡ read s q i
unfolding copy_ci
started_other Surface c i s q l h m =
    let t = copy_ci c s in
    let k = live_on s t i (write_keeps c (name_at names.Ci) _ s) h in
    read_write c i q (name_at names.Oi) (λ j. read t (name_at names.Os) j) t l k ∙ ap (λ b. cond b (read t (name_at names.Os) i) (read t q i)) (number_apart q (name_at names.Oi) (λ (e : register_number q ≡ 18). omega arith))
    ∙ read_write c i q (name_at names.Ci) (λ j. read s (name_at names.Cs) j) s l h ∙ ap (λ b. cond b (read s (name_at names.Cs) i) (read s q i)) (number_apart q (name_at names.Ci) (λ (e : register_number q ≡ 17). omega arith))
started_other Displacement c i s q l h m = refl
started_other Light c i s q l h m = refl
started_other Volume c i s q l h m = refl

started_keeps : (kind : SlKind) (c : ℕ) (s : State) → Keeps s (started c (variables kind) s)
unfolding copy_ci
started_keeps Surface c s = keeps_on s (copy_ci c s) _ (write_keeps c (name_at names.Ci) _ s) (write_keeps c (name_at names.Oi) _ (copy_ci c s))
started_keeps Displacement c s = record { live = refl; turns = refl; own = refl }
started_keeps Light c s = record { live = refl; turns = refl; own = refl }
started_keeps Volume c s = record { live = refl; turns = refl; own = refl }

-- ---- the state that a run begins with
pub zero_is : (s : Shape) → run.zero_of s ≡ as_shape s zero_value
zero_is shapes.Number = refl
zero_is shapes.Triple = refl
zero_is shapes.Word = refl

pub fresh_read : (u : Bool) (s : Shape) (k i : ℕ) → read fresh (reg u s k) i ≡ run.zero_of s
fresh_read true s k i = refl
fresh_read false s k i = refl

steps_apart : (kind : SlKind) (q : Register) → 21 ≤ register_number q → Every (λ r. same_register q r ≡ false) (step_names kind)
steps_apart Surface q m = (number_apart q (name_at names.Du) (λ (e : register_number q ≡ 7). omega arith), (number_apart q (name_at names.Dv) (λ (e : register_number q ≡ 8). omega arith), tt))
steps_apart Displacement q m = (number_apart q (name_at names.Du) (λ (e : register_number q ≡ 7). omega arith), (number_apart q (name_at names.Dv) (λ (e : register_number q ≡ 8). omega arith), tt))
steps_apart Light q m = tt
steps_apart Volume q m = tt

names_apart : (q : Register) (ps : List Predefined) → 21 ≤ register_number q → Every (λ r. same_register q r ≡ false) (map name_at ps)
names_apart q [] m = tt
names_apart q (p ∷ ps) m =
    let a = place_small p in
    let b = number_of_reg (is_uniform_name p) (shape_of (name_type p)) (place_of p) in
    (number_apart q (name_at p) (λ (e : register_number q ≡ register_number (name_at p)). omega (arith, a, b, e, m)), names_apart q ps m)

module _ (c : ℕ) (few : 0 < c) (kind : SlKind) (ps : List Slot) (ls : List Local) (vs : List Value) (f : ℕ → Names) (varyings : List ℤ) (params : AreParams ps ls vs) (h : AreNames c f) where
  counted : length (map slot_of ps) ≡ length ps
  counted = length-map ps slot_of

  long : length vs ≡ length ps
  long = values_counted ls vs params.values ∙ ap (λ xs. length xs) (sym params.slots) ∙ counted

  shaped : (k : ℕ) → k < length ps → shape (get_or vs k zero_value) ≡ shape_of (get_or (map slot_of ps) k core.no_slot).kind
  shaped k l =
      subst (λ q. k < length q → shape (get_or vs k zero_value) ≡ shape_of (get_or q k core.no_slot).kind) (sym params.slots)
      (λ m. values_shaped ls vs params.values k m) (subst (λ n. k < n) (sym counted) l)

  abbrev given_first : State
  given_first = assigned c (uniform_inputs kind ps) (uniform_values kind ps vs (f 0)) fresh

  abbrev given_all : State
  given_all = loaded c (row_length c) varyings (varying_inputs kind ps) 0 given_first

  first_live : (i : ℕ) → given_first.live i ≡ true
  first_live i = live_on fresh given_first i (assigned_keeps c (uniform_inputs kind ps) (uniform_values kind ps vs (f 0)) fresh) refl

  all_keeps : Keeps fresh given_all
  all_keeps = keeps_on fresh given_first given_all (assigned_keeps c (uniform_inputs kind ps) (uniform_values kind ps vs (f 0)) fresh) (loaded_keeps c (row_length c) varyings (varying_inputs kind ps) 0 given_first)

  all_live : (i : ℕ) → given_all.live i ≡ true
  all_live i = live_on fresh given_all i all_keeps refl

  pub inputs_fit : (i : ℕ) → i < c → Fit (varying_inputs kind ps) (varying_values kind ps vs (f i))
  inputs_fit i l =
      fit_on (params_of false first_free ps) (given_names kind) (values_of false ps vs) (map (f i) (given_order kind)) (params_fit first_free ps vs long shaped)
      (subst (λ q. Fit q (map (f i) (given_order kind))) (sym (names_is kind)) (names_fit (given_order kind) (f i) (λ p. h.shaped i p l) (names_varying kind)))

  -- what a register holds: of the variables, the parameters that vary, the steps and the uniform parameters, the first that is it
  all_read : (q : Register) (i : ℕ) → i < c → HoldList (varying_values kind ps vs (f i)) varyings (row_length c) 0 i →
      read given_all q i ≡ look q (map name_at (given_order kind)) (map (f i) (given_order kind)) (look q (params_of false first_free ps) (values_of false ps vs) (look q (step_names kind) (step_values kind (f 0)) (look q (params_of true first_free ps) (values_of true ps vs) (read fresh q i))))
  all_read q i l r =
      loaded_look c i (row_length c) varyings q (varying_inputs kind ps) (varying_values kind ps vs (f i)) 0 0 given_first l (first_live i) (inputs_fit i l) r (omega arith)
      ∙ ap (look q (varying_inputs kind ps) (varying_values kind ps vs (f i))) (assigned_look c i q (uniform_inputs kind ps) (uniform_values kind ps vs (f 0)) fresh l refl
      ∙ look_on q (params_of true first_free ps) (step_names kind) (values_of true ps vs) (step_values kind (f 0)) (read fresh q i) (params_paired true first_free ps vs long))
      ∙ look_on q (params_of false first_free ps) (given_names kind) (values_of false ps vs) (map (f i) (given_order kind)) _ (params_paired false first_free ps vs long)
      ∙ ap (λ rs. look q rs (map (f i) (given_order kind)) (look q (params_of false first_free ps) (values_of false ps vs) (look q (step_names kind) (step_values kind (f 0)) (look q (params_of true first_free ps) (values_of true ps vs) (read fresh q i))))) (names_is kind)

  name_read : (p : Predefined) (i : ℕ) → i < c → HoldList (varying_values kind ps vs (f i)) varyings (row_length c) 0 i → read given_all (name_at p) i ≡ before kind (f 0) (f i) p
  name_read p i l r =
      let q = name_at p in
      all_read q i l r
      ∙ ap (look q (map name_at (given_order kind)) (map (f i) (given_order kind))) (look_apart q (params_of false first_free ps) (values_of false ps vs) _ (below_params q false first_free ps (name_number p)))
      ∙ ap (λ d. look q (map name_at (given_order kind)) (map (f i) (given_order kind)) (look q (step_names kind) (step_values kind (f 0)) d))
      (look_apart q (params_of true first_free ps) (values_of true ps vs) (read fresh q i) (below_params q true first_free ps (name_number p)) ∙ fresh_read (is_uniform_name p) (shape_of (name_type p)) (place_of p) i ∙ zero_is (shape_of (name_type p)))

  -- a register behind those of the variables holds what the parameters' have
  high_read : (q : Register) (i : ℕ) → i < c → HoldList (varying_values kind ps vs (f i)) varyings (row_length c) 0 i → 21 ≤ register_number q → read given_all q i ≡ look q (params_of false first_free ps) (values_of false ps vs) (look q (params_of true first_free ps) (values_of true ps vs) (read fresh q i))
  high_read q i l r m =
      all_read q i l r ∙ look_apart q (map name_at (given_order kind)) (map (f i) (given_order kind)) _ (names_apart q (given_order kind) m)
      ∙ ap (look q (params_of false first_free ps) (values_of false ps vs)) (look_apart q (step_names kind) (step_values kind (f 0)) _ (steps_apart kind q m))

  class_read : (u : Bool) (i k : ℕ) → i < c → HoldList (varying_values kind ps vs (f i)) varyings (row_length c) 0 i → k < length ps → (get_or (map slot_of ps) k core.no_slot).uniform ≡ u → read given_all (reg u (shape_of (get_or (map slot_of ps) k core.no_slot).kind) (first_free + k)) i ≡ get_or vs k zero_value
  class_read true i k l r m e =
      let q = reg true (shape_of (get_or (map slot_of ps) k core.no_slot).kind) (first_free + k) in
      high_read q i l r (omega arith) ∙ look_apart q (params_of false first_free ps) (values_of false ps vs) _ (other_params q false first_free ps (λ z. true≢false z))
      ∙ param_look true first_free ps vs (read fresh q i) k long m e
  class_read false i k l r m e =
      let q = reg false (shape_of (get_or (map slot_of ps) k core.no_slot).kind) (first_free + k) in
      high_read q i l r (omega arith) ∙ param_look false first_free ps vs (look q (params_of true first_free ps) (values_of true ps vs) (read fresh q i)) k long m e

  abbrev state : State
  state = begun kind ps c (uniform_values kind ps vs (f 0)) varyings

  pub state_keeps : Keeps fresh state
  state_keeps = keeps_on fresh given_all state all_keeps (started_keeps kind c given_all)

  pub state_name : (p : Predefined) (i : ℕ) → i < c → HoldList (varying_values kind ps vs (f i)) varyings (row_length c) 0 i → read state (name_at p) i ≡ runs.begun kind (f i) p
  state_name p i l r =
      started_name kind c i given_all (before kind (f 0) (f i)) l (all_live i) (λ q. name_read q i l r) p
      ∙ behind_is kind (f 0) (f i) p record { eye = h.eye i l; towards = h.towards i l; colour = h.colour i l } (h.steady i names.Du l refl) (h.steady i names.Dv l refl)

  pub state_lit : (i : ℕ) → i < c → HoldList (varying_values kind ps vs (f i)) varyings (row_length c) 0 i → read state lit_at i ≡ truth false
  state_lit i l r =
      started_other kind c i given_all lit_at l (all_live i) (omega arith) ∙ high_read lit_at i l r (omega arith)
      ∙ look_apart lit_at (params_of false first_free ps) (values_of false ps vs) _ (below_params lit_at false first_free ps (omega arith))
      ∙ look_apart lit_at (params_of true first_free ps) (values_of true ps vs) _ (below_params lit_at true first_free ps (omega arith))

  pub state_param : (k i : ℕ) → i < c → HoldList (varying_values kind ps vs (f i)) varyings (row_length c) 0 i → k < length (slots ls) → read state (slot_at (get_or (slots ls) k core.no_slot) (first_free + k)) i ≡ get_or vs k zero_value
  state_param k i l r m =
      let there : k < length ps = subst (λ n. k < n) (ap (λ xs. length xs) (sym params.slots) ∙ counted) m in
      subst (λ ss. read state (slot_at (get_or ss k core.no_slot) (first_free + k)) i ≡ get_or vs k zero_value) params.slots
      (let s = get_or (map slot_of ps) k core.no_slot in
      let b = number_of_reg s.uniform (shape_of s.kind) (first_free + k) in
      started_other kind c i given_all (slot_at s (first_free + k)) l (all_live i) (omega (arith, b)) ∙ class_read s.uniform i k l r there refl)
