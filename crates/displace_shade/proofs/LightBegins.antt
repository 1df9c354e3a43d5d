-- What the state that a light's code begins with holds: the place that is asked, and the values of the light's parameters.
use Rattle.std.proofs.Common.{◌≡◌, ℕ, zero, suc, ◌+◌, ◌*◌, ◌<◌, ◌≤◌, false, cond, List, [], ◌∷◌, length, map, get_or, refl, sym, ap, ◌∙◌, subst, arith}
use Rattle.std.proofs.lemmas.Bool.{cond-true, cond-false}
use Rattle.std.proofs.lemmas.List.{length-map}
use Rattle.fixed_math.specs.declared.vec3.Vec3.{Vec3}
use Rattle.sl_ast.specs.declared.kinds.Predefined.{Predefined}
use Rattle.sl_ast.specs.declared.kinds.Predefined.TheVariants as names
use Rattle.sl_ast.specs.declared.kinds.SlKind.TheVariants.{Light}
use Rattle.sl_ast.specs.declared.typed.Value.{Value}
use Rattle.sl_ast.specs.declared.typed.Value.TheVariants.{Triple}
use Rattle.sl_ast.specs.Typed.{Local}
use Rattle.sl_ast.specs.Names.{name_type}
use Rattle.sl_ast.specs.Classes.{is_uniform_name}
use Rattle.builtins.specs.Names.{place_of}
use Rattle.builtins.specs.Shapes.{shape}
use Rattle.builtins.specs.Values.{shape_of, truth}
use Rattle.grid_code.specs.declared.code.Register.{Register}
use Rattle.grid_code.specs.declared.slot.Slot.{Slot}
use Rattle.grid_code.specs.Names.{reg, name_at, lit_at, first_free}
use Rattle.grid_code.specs.Masked.{State, read}
use Rattle.grid_code.specs.Shapes.{register_shape}
use Rattle.grid_code.specs.Uses.{registers_from}
use Rattle.sl_meaning.specs.Core as core
use Rattle.sl_meaning.specs.Environment.{Around, zero_value}
use Rattle.sl_meaning.specs.Lowered.{slots}
use Rattle.sl_meaning.specs.Runs.{beginning, asked_at, nothing}
use Rattle.sl_meaning.specs.Runs as runs
use Rattle.core_codegen.specs.Variables.{slot_at}
use Rattle.core_codegen.specs.Correct.{Begins}
use Rattle.grid_machine.specs.Asked.{begun_at}
use Rattle.grid_machine.specs.Run.{assigned, fresh}
use Rattle.displace_shade.specs.Rows.{slot_of}
use Rattle.displace_shade.proofs.Begun.{values_counted}
use Rattle.displace_shade.proofs.Looks.{Every, every_map, register_number, same_register, look, read_write, Keeps, write_keeps, keeps_on, live_on, assigned_keeps, assigned_look, look_apart, number_apart, register_self, shape_of_reg, number_of_reg}
use Rattle.displace_shade.proofs.Starts.{AreParams, name_number, fresh_read, zero_is}

-- ---- the registers of all parameters
from_numbered : (n m : ℕ) (ps : List Slot) → m ≤ n → Every (λ r. m ≤ register_number r) (registers_from n ps)
from_numbered n m [] h = tt
from_numbered n m (p ∷ ps) h = (let e = number_of_reg p.uniform (shape_of p.kind) n in omega (arith, e, h), from_numbered (n + 1) m ps (omega arith))

below_from : (q : Register) (n : ℕ) (ps : List Slot) → register_number q < n → Every (λ r. same_register q r ≡ false) (registers_from n ps)
below_from q n ps h = every_map (λ r. n ≤ register_number r) _ (λ r e. number_apart q r (λ s. omega arith)) (registers_from n ps) (from_numbered n n ps (omega arith))

pub from_shapes : (n : ℕ) (ps : List Slot) (vs : List Value) → length vs ≡ length ps → ((k : ℕ) → k < length ps → shape (get_or vs k zero_value) ≡ shape_of (get_or (map slot_of ps) k core.no_slot).kind) → map shape vs ≡ map register_shape (registers_from n ps)
from_shapes n [] [] h g = refl
from_shapes n [] (v ∷ vs) h g = absurd (omega arith)
from_shapes n (p ∷ ps) [] h g = absurd (omega arith)
from_shapes n (p ∷ ps) (v ∷ vs) h g =
    ap (λ s. s ∷ map shape vs) (g 0 (omega arith) ∙ sym (shape_of_reg p.uniform (shape_of p.kind) n)) ∙ ap (λ ss. register_shape (reg p.uniform (shape_of p.kind) n) ∷ ss) (from_shapes (n + 1) ps vs (omega arith) (λ k l. g (suc k) (omega arith)))

-- the register of a parameter holds its value
from_look : (n : ℕ) (ps : List Slot) (vs : List Value) (d : Value) (k : ℕ) → length vs ≡ length ps → k < length ps →
    look (slot_at (get_or (map slot_of ps) k core.no_slot) (n + k)) (registers_from n ps) vs d ≡ get_or vs k zero_value
from_look n [] vs d k e l = absurd (omega arith)
from_look n (p ∷ ps) [] d k e l = absurd (omega arith)
from_look n (p ∷ ps) (v ∷ vs) d zero e l =
    let q = reg p.uniform (shape_of p.kind) n in
    let here : n + 0 ≡ n = omega arith in
    ap (λ m. look (reg p.uniform (shape_of p.kind) m) (registers_from n (p ∷ ps)) (v ∷ vs) d) here
    ∙ look_apart q (registers_from (n + 1) ps) vs (cond (same_register q q) v d) (below_from q (n + 1) ps (let m = number_of_reg p.uniform (shape_of p.kind) n in omega (arith, m)))
    ∙ cond-true (same_register q q) v d (register_self q)
from_look n (p ∷ ps) (v ∷ vs) d (suc k) e l =
    let s = get_or (map slot_of ps) k core.no_slot in
    let q = slot_at s (n + suc k) in
    let r = reg p.uniform (shape_of p.kind) n in
    let there : n + suc k ≡ n + 1 + k = omega arith in
    let a = number_of_reg s.uniform (shape_of s.kind) (n + suc k) in
    let b = number_of_reg p.uniform (shape_of p.kind) n in
    ap (λ x. look q (registers_from (n + 1) ps) vs x) (cond-false (same_register q r) v d (number_apart q r (λ (e : register_number q ≡ register_number r). let z : n + suc k ≡ n = sym a ∙ e ∙ b in omega (arith, z))))
    ∙ ap (λ m. look (slot_at s m) (registers_from (n + 1) ps) vs d) there ∙ from_look (n + 1) ps vs d k (omega arith) (omega arith)

-- at a place, everything is nothing but the place
placed_is : (q : Vec3) (p : Predefined) → cond (same_register (name_at p) (name_at names.Ps)) (Triple q) (nothing p) ≡ runs.begun Light (asked_at q) p
placed_is q names.Ps = refl
placed_is q _ = refl

module _ (c : ℕ) (ps : List Slot) (ls : List Local) (vs : List Value) (params : AreParams ps ls vs) (q : ℕ → Vec3) where
  long : length vs ≡ length ps
  long = values_counted ls vs params.values ∙ ap (λ xs. length xs) (sym params.slots) ∙ length-map ps slot_of

  abbrev given : State
  given = assigned c (registers_from first_free ps) vs fresh

  abbrev state : State
  state = begun_at ps c vs q

  given_keeps : Keeps fresh given
  given_keeps = assigned_keeps c (registers_from first_free ps) vs fresh

  state_keeps : Keeps fresh state
  state_keeps = keeps_on fresh given state given_keeps (write_keeps c (name_at names.Ps) (λ i. Triple (q i)) given)

  state_read : (r : Register) (i : ℕ) → i < c → read state r i ≡ cond (same_register r (name_at names.Ps)) (Triple (q i)) (look r (registers_from first_free ps) vs (read fresh r i))
  state_read r i l =
      read_write c i r (name_at names.Ps) (λ j. Triple (q j)) given l (live_on fresh given i given_keeps refl)
      ∙ ap (cond (same_register r (name_at names.Ps)) (Triple (q i))) (assigned_look c i r (registers_from first_free ps) vs fresh l refl)

  state_name : (p : Predefined) (i : ℕ) → i < c → read state (name_at p) i ≡ runs.begun Light (asked_at (q i)) p
  state_name p i l =
      let r = name_at p in
      state_read r i l
      ∙ ap (cond (same_register r (name_at names.Ps)) (Triple (q i))) (look_apart r (registers_from first_free ps) vs (read fresh r i) (below_from r first_free ps (name_number p)) ∙ fresh_read (is_uniform_name p) (shape_of (name_type p)) (place_of p) i ∙ zero_is (shape_of (name_type p)))
      ∙ placed_is (q i) p

  state_lit : (i : ℕ) → i < c → read state lit_at i ≡ truth false
  state_lit i l = state_read lit_at i l ∙ look_apart lit_at (registers_from first_free ps) vs _ (below_from lit_at first_free ps (omega arith))

  state_param : (k i : ℕ) → i < c → k < length (slots ls) → read state (slot_at (get_or (slots ls) k core.no_slot) (first_free + k)) i ≡ get_or vs k zero_value
  state_param k i l m =
      let there : k < length ps = subst (λ n. k < n) (ap (λ xs. length xs) (sym params.slots) ∙ length-map ps slot_of) m in
      subst (λ ss. read state (slot_at (get_or ss k core.no_slot) (first_free + k)) i ≡ get_or vs k zero_value) params.slots
      (let s = get_or (map slot_of ps) k core.no_slot in
      let r = slot_at s (first_free + k) in
      let b = number_of_reg s.uniform (shape_of s.kind) (first_free + k) in
      let place = number_of_reg (is_uniform_name names.Ps) (shape_of (name_type names.Ps)) (place_of names.Ps) in
      let apart : same_register r (name_at names.Ps) ≡ false = number_apart r (name_at names.Ps) (λ (e : register_number r ≡ register_number (name_at names.Ps)). let z : first_free + k ≡ place_of names.Ps = sym b ∙ e ∙ place in omega (arith, z)) in
      state_read r i l ∙ cond-false (same_register r (name_at names.Ps)) (Triple (q i)) _ apart ∙ from_look first_free ps vs (read fresh r i) k long there)

-- a light is asked at the points q
pub light_begins : (a : Around) (ps : List Slot) (ls : List Local) (vs : List Value) (q : ℕ → Vec3) → 2 ≤ a.lines.columns → 2 ≤ a.lines.rows → AreParams ps ls vs →
    Begins (slots ls) a (λ i. beginning Light (asked_at (q i)) vs) (begun_at ps (a.lines.columns * a.lines.rows) vs q)
light_begins a ps ls vs q wide tall params =
    let c = a.lines.columns * a.lines.rows in
    let keeps = state_keeps c ps ls vs params q in
    record {
      wide = wide;
      tall = tall;
      live = λ i l. ap (λ p. p i) keeps.live;
      holds = λ i l. record {
        named = λ p. state_name c ps ls vs params q p i l;
        lit = state_lit c ps ls vs params q i l;
        values = λ k m. state_param c ps ls vs params q k i l m;
        turns = keeps.turns;
        own = ap (λ p. p i) keeps.own;
      };
      exact = λ i l. values_counted ls vs params.values;
    }
