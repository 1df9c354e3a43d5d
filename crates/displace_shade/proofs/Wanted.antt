-- A run sees nothing of the variables that its code doesn't name.
use Rattle.std.proofs.Common.{◌≡◌, ℕ, ◌+◌, ◌≤◌, Bool, true, false, cond, List, [], ◌∷◌, get_or, refl, sym, ap, ◌∙◌, arith}
use Rattle.std.specs.Prelude.{not, ◌==◌, ◌&&◌}
use Rattle.std.specs.List.{list_all, list_any}
use Rattle.std.proofs.lemmas.Bool.{and_parts, and_from, and_left, and_right, or_from, cond-false, ne_eqb, not_from_true, not_from_false}
use Rattle.sl_ast.specs.declared.kinds.Predefined.{Predefined}
use Rattle.sl_ast.specs.declared.kinds.Predefined.TheVariants as names
use Rattle.sl_ast.specs.declared.kinds.SlKind.{SlKind}
use Rattle.sl_ast.specs.declared.kinds.SlKind.TheVariants.{Surface, Displacement, Light, Volume}
use Rattle.sl_ast.specs.declared.typed.Value.{Value}
use Rattle.sl_ast.specs.Names.{name_type}
use Rattle.sl_ast.specs.Classes.{is_uniform_name}
use Rattle.builtins.specs.declared.shape.Shape.{Shape}
use Rattle.builtins.specs.declared.shape.Shape.TheVariants as shapes
use Rattle.builtins.specs.Names.{place_of}
use Rattle.builtins.specs.Shapes.{shape}
use Rattle.builtins.specs.Values.{shape_of}
use Rattle.grid_code.specs.declared.code.Register.{Register}
use Rattle.grid_code.specs.declared.code.Register.TheVariants.{Uniform, Varying}
use Rattle.grid_code.specs.declared.register_set.RegisterSet.{RegisterSet}
use Rattle.grid_code.specs.Code.{Block}
use Rattle.grid_code.specs.Names.{reg, name_at, lit_at, first_free}
use Rattle.grid_code.specs.Masked.{State, Ground, read, masked}
use Rattle.grid_code.specs.Uses.{is_in}
use Rattle.sl_meaning.specs.Core as core
use Rattle.sl_meaning.specs.Environment.{Around}
use Rattle.sl_meaning.specs.Runs.{Names, nothing, beginning}
use Rattle.sl_meaning.specs.Runs as runs
use Rattle.core_codegen.specs.Correct.{Begins}
use Rattle.core_codegen.specs.Variables.{slot_at}
use Rattle.core_codegen.proofs.Relation.{place_small}
use Rattle.mask_codegen.specs.Compiled.{is_among, NamesVarying}
use Rattle.mask_codegen.specs.Collected.{registers_of}
use Rattle.mask_codegen.proofs.Naming.{within_named}
use Rattle.grid_rows.specs.Wanted.{optional, is_optional, wanted, zero_of, zero_of_name}
use Rattle.displace_shade.proofs.Begun.{AreNames}
use Rattle.displace_shade.proofs.Looks.{Every, register_number, number_of_reg}
use Rattle.displace_shade.proofs.Unread.{Apart, instead, kept, unread}

-- the variables as a shader is given them whose code names some registers
abbrev pub seen : SlKind → RegisterSet → Names → Names
seen kind named f p = cond (wanted kind named p) (f p) (zero_of_name p)

eye_seen : (kind : SlKind) (named : RegisterSet) (f : Names) → seen kind named f names.E ≡ f names.E
eye_seen Surface named f = refl
eye_seen Displacement named f = refl
eye_seen Light named f = refl
eye_seen Volume named f = refl

towards_seen : (kind : SlKind) (named : RegisterSet) (f : Names) → seen kind named f names.L ≡ f names.L
towards_seen Surface named f = refl
towards_seen Displacement named f = refl
towards_seen Light named f = refl
towards_seen Volume named f = refl

colour_seen : (kind : SlKind) (named : RegisterSet) (f : Names) → seen kind named f names.Cl ≡ f names.Cl
colour_seen Surface named f = refl
colour_seen Displacement named f = refl
colour_seen Light named f = refl
colour_seen Volume named f = refl

pub du_seen : (kind : SlKind) (named : RegisterSet) (f : Names) → seen kind named f names.Du ≡ f names.Du
du_seen Surface named f = refl
du_seen Displacement named f = refl
du_seen Light named f = refl
du_seen Volume named f = refl

pub dv_seen : (kind : SlKind) (named : RegisterSet) (f : Names) → seen kind named f names.Dv ≡ f names.Dv
dv_seen Surface named f = refl
dv_seen Displacement named f = refl
dv_seen Light named f = refl
dv_seen Volume named f = refl

shape_zero : (s : Shape) → shape (zero_of s) ≡ s
shape_zero shapes.Number = refl
shape_zero shapes.Triple = refl
shape_zero shapes.Word = refl

shape_either : (b : Bool) (x y : Value) (s : Shape) → shape x ≡ s → shape y ≡ s → shape (cond b x y) ≡ s
shape_either true x y s e f = e
shape_either false x y s e f = f

pub seen_names : (kind : SlKind) (named : RegisterSet) (c : ℕ) (f : ℕ → Names) → AreNames c f → AreNames c (λ i. seen kind named (f i))
seen_names kind named c f h =
    record {
      shaped = λ i p l. shape_either (wanted kind named p) (f i p) (zero_of_name p) _ (h.shaped i p l) (shape_zero (shape_of (name_type p)));
      steady = λ i p l u. ap (λ x. cond (wanted kind named p) x (zero_of_name p)) (h.steady i p l u);
      eye = λ i l. eye_seen kind named (f i) ∙ h.eye i l;
      towards = λ i l. towards_seen kind named (f i) ∙ h.towards i l;
      colour = λ i l. colour_seen kind named (f i) ∙ h.colour i l;
    }

-- ---- the registers that are left out
abbrev pub left_out : SlKind → RegisterSet → Shape → ℕ → Bool
left_out kind named s k = is_optional kind k && not (is_in named s k)

pub left_apart : (kind : SlKind) (named : RegisterSet) → Apart (left_out kind named)
left_apart Surface named = record { point = refl; towards = refl; colour = refl; asked = refl; lit = refl }
left_apart Displacement named = record { point = refl; towards = refl; colour = refl; asked = refl; lit = refl }
left_apart Light named = record { point = refl; towards = refl; colour = refl; asked = refl; lit = refl }
left_apart Volume named = record { point = refl; towards = refl; colour = refl; asked = refl; lit = refl }

all_more : (p q : Register → Bool) → ((r : Register) → p r ≡ true → q r ≡ true) → (rs : List Register) → list_all p rs ≡ true → list_all q rs ≡ true
all_more p q f [] h = refl
all_more p q f (r ∷ rs) h = let both = and_parts (p r) (list_all p rs) h in and_from (q r) (list_all q rs) (f r both.0) (all_more p q f rs both.1)

-- no variable's register is so high
none_high : (ps : List Predefined) (k : ℕ) → 21 ≤ k → list_any (λ p. place_of p == k) ps ≡ false
none_high [] k h = refl
none_high (p ∷ ps) k h =
    or_from (place_of p == k) (list_any (λ q. place_of q == k) ps) (ne_eqb (place_of p) k (λ e. let s = place_small p in omega (arith, s, e, h))) (none_high ps k h)

high_in : (kind : SlKind) (named : RegisterSet) (s : Shape) (k : ℕ) → 21 ≤ k → left_out kind named s k ≡ false
high_in kind named s k h = and_left (is_optional kind k) (not (is_in named s k)) (none_high (optional kind) k h)

restored : (m : Bool) (x z r : Value) → r ≡ cond m x z → cond (not m) x r ≡ x
restored true x z r e = e
restored false x z r e = refl

-- ---- the state in which they hold what the variables are
abbrev all_names : List Predefined
all_names = names.P ∷ names.N ∷ names.Ng ∷ names.I ∷ names.E ∷ names.U ∷ names.V ∷ names.Du ∷ names.Dv ∷ names.S ∷ names.T ∷ names.Cs ∷ names.Os ∷ names.DPdu ∷ names.DPdv ∷ []

module _ (kind : SlKind) (named : RegisterSet) (f : ℕ → Names) where
  abbrev given_back : Shape → ℕ → ℕ → Value
  given_back s k i = f i (get_or all_names k names.P)

  abbrev pub whole : State → State
  whole s = instead (left_out kind named) given_back (left_apart kind named) s

  kept_in : (r : Register) → is_among named r ≡ true → kept (left_out kind named) given_back (left_apart kind named) r ≡ true
  kept_in (Uniform s k) h = refl
  kept_in (Varying s k) h = not_from_false _ (and_right (is_optional kind k) (not (is_in named s k)) (not_from_true (is_in named s k) h))

  -- code does the same in it
  pub whole_same : (x : Block) (g : Ground) (c n : ℕ) (s : State) → NamesVarying named x → masked x g c n (whole s) ≡ whole (masked x g c n s)
  whole_same x g c n s h =
      unread (left_out kind named) given_back (left_apart kind named) x g c n
      (within_named (kept (left_out kind named) given_back (left_apart kind named)) x
      ∙ all_more (is_among named) (kept (left_out kind named) given_back (left_apart kind named)) kept_in (registers_of x) (sym (within_named (is_among named) x) ∙ h)) s

  read_high : (r : Register) (s : State) (i : ℕ) → 21 ≤ register_number r → read (whole s) r i ≡ read s r i
  read_high (Uniform t k) s i h = refl
  read_high (Varying t k) s i h = cond-false _ _ _ (high_in kind named t k h)

-- what a kind leaves isn't left out
pub written_kept : (kind : SlKind) (named : RegisterSet) (f : ℕ → Names) (s : State) (i : ℕ) (after : Names) → ((p : Predefined) → read (whole kind named f s) (name_at p) i ≡ after p) → (ps : List Predefined) → Every (λ p. is_optional kind (place_of p) ≡ false) ps →
    Every (λ p. read s (name_at p) i ≡ after p) ps
written_kept kind named f s i after h [] e = tt
written_kept kind named f s i after h (p ∷ ps) e = (at p e.0 ∙ h p, written_kept kind named f s i after h ps e.1)
  where
    same : (u : Bool) (t : Shape) (k : ℕ) → is_optional kind k ≡ false → read s (reg u t k) i ≡ read (whole kind named f s) (reg u t k) i
    same true t k o = refl
    same false t k o = sym (cond-false (left_out kind named t k) _ _ (and_left (is_optional kind k) (not (is_in named t k)) o))

    at : (p : Predefined) → is_optional kind (place_of p) ≡ false → read s (name_at p) i ≡ read (whole kind named f s) (name_at p) i
    at p o = same (is_uniform_name p) (shape_of (name_type p)) (place_of p) o

begun_whole : (kind : SlKind) (named : RegisterSet) (f : ℕ → Names) (s : State) (i : ℕ) (p : Predefined) → read s (name_at p) i ≡ runs.begun kind (seen kind named (f i)) p → read (whole kind named f s) (name_at p) i ≡ runs.begun kind (f i) p
begun_whole Surface named f s i names.N e = restored (is_in named shapes.Triple 1) (f i names.N) _ _ e
begun_whole Surface named f s i names.Ng e = restored (is_in named shapes.Triple 2) (f i names.Ng) _ _ e
begun_whole Surface named f s i names.I e = restored (is_in named shapes.Triple 3) (f i names.I) _ _ e
begun_whole Surface named f s i names.U e = restored (is_in named shapes.Number 5) (f i names.U) _ _ e
begun_whole Surface named f s i names.V e = restored (is_in named shapes.Number 6) (f i names.V) _ _ e
begun_whole Surface named f s i names.S e = restored (is_in named shapes.Number 9) (f i names.S) _ _ e
begun_whole Surface named f s i names.T e = restored (is_in named shapes.Number 10) (f i names.T) _ _ e
begun_whole Surface named f s i names.DPdu e = restored (is_in named shapes.Triple 13) (f i names.DPdu) _ _ e
begun_whole Surface named f s i names.DPdv e = restored (is_in named shapes.Triple 14) (f i names.DPdv) _ _ e
begun_whole Surface named f s i p e = e
begun_whole Displacement named f s i names.Ng e = restored (is_in named shapes.Triple 2) (f i names.Ng) _ _ e
begun_whole Displacement named f s i names.I e = restored (is_in named shapes.Triple 3) (f i names.I) _ _ e
begun_whole Displacement named f s i names.U e = restored (is_in named shapes.Number 5) (f i names.U) _ _ e
begun_whole Displacement named f s i names.V e = restored (is_in named shapes.Number 6) (f i names.V) _ _ e
begun_whole Displacement named f s i names.S e = restored (is_in named shapes.Number 9) (f i names.S) _ _ e
begun_whole Displacement named f s i names.T e = restored (is_in named shapes.Number 10) (f i names.T) _ _ e
begun_whole Displacement named f s i names.Cs e = restored (is_in named shapes.Triple 11) (f i names.Cs) _ _ e
begun_whole Displacement named f s i names.Os e = restored (is_in named shapes.Triple 12) (f i names.Os) _ _ e
begun_whole Displacement named f s i names.DPdu e = restored (is_in named shapes.Triple 13) (f i names.DPdu) _ _ e
begun_whole Displacement named f s i names.DPdv e = restored (is_in named shapes.Triple 14) (f i names.DPdv) _ _ e
begun_whole Displacement named f s i p e = e
begun_whole Light named f s i p e = e
begun_whole Volume named f s i p e = e

-- it begins a run of those variables, where the state that was given begins one of what was given
pub whole_begins : (kind : SlKind) (named : RegisterSet) (f : ℕ → Names) (vs : ℕ → List Value) (ss : List core.Slot) (a : Around) (s : State) → Begins ss a (λ i. beginning kind (seen kind named (f i)) (vs i)) s → Begins ss a (λ i. beginning kind (f i) (vs i)) (whole kind named f s)
whole_begins kind named f vs ss a s b =
    record {
      wide = b.wide;
      tall = b.tall;
      live = b.live;
      holds = λ i l.
          let h = b.holds i l in
          record {
            named = λ p. begun_whole kind named f s i p (h.named p);
            lit = read_high kind named f lit_at s i (omega arith) ∙ h.lit;
            values = λ k m.
                let q = get_or ss k core.no_slot in
                read_high kind named f (slot_at q (first_free + k)) s i (let e = number_of_reg q.uniform (shape_of q.kind) (first_free + k) in omega (arith, e)) ∙ h.values k m;
            turns = h.turns;
            own = h.own;
          };
      exact = b.exact;
    }
