-- What lights answer, by what their code left.
use Rattle.std.proofs.Common.{◌≡◌, ℕ, ◌<◌, Bool, true, false, cond, refl, sym, ap, ◌∙◌, true≢false}
use Rattle.std.specs.Prelude.{not}
use Rattle.sl_ast.specs.declared.kinds.Predefined.TheVariants as names
use Rattle.sl_ast.specs.declared.kinds.SlKind.{SlKind}
use Rattle.sl_ast.specs.declared.kinds.SlKind.TheVariants as kinds
use Rattle.sl_ast.specs.Names.{is_light}
use Rattle.sl_ast.specs.declared.typed.Value.{Value}
use Rattle.builtins.specs.Lights.{Light, ambient, unlit, lit}
use Rattle.builtins.specs.Values.{is_true, triple_of}
use Rattle.grid_code.specs.declared.register_set.RegisterSet.{RegisterSet}
use Rattle.grid_code.specs.Code.{Block}
use Rattle.grid_code.specs.Masked.{State, read}
use Rattle.grid_code.specs.Names.{name_at, lit_at}
use Rattle.grid_code.specs.Uses.{has}
use Rattle.grid_code.specs.Valid.{has_light_statement, is_ambient}
use Rattle.grid_machine.specs.Asked.{answer_at}
use Rattle.light_rows.specs.Seen.{answered_by}
use Rattle.grid_machine.specs.State.{Near}
use Rattle.grid_machine.proofs.Near.{read_near}

pub answer_is : (a : Bool) (s : State) (i : ℕ) → answered_by a (is_true (read s lit_at i)) (triple_of (read s (name_at names.L) i)) (triple_of (read s (name_at names.Cl) i)) ≡ answer_at (not a) s i
answer_is true s i = refl
answer_is false s i = refl

-- the answer of a light that isn't ambient, by whether it is lit, its direction and its colour
abbrev lit_by : Value → Value → Value → Light
lit_by k x y = cond (is_true k) (lit (triple_of x) (triple_of y)) unlit

same_lit : (k k' x x' y y' : Value) → k ≡ k' → x ≡ x' → y ≡ y' → lit_by k x y ≡ lit_by k' x' y'
same_lit k k' x x' y y' e f h = ap (λ z. lit_by z x y) e ∙ ap (λ z. lit_by k' z y) f ∙ ap (λ z. lit_by k' x' z) h

pub answer_near : (c : ℕ) (v z : RegisterSet) (g m : State) (i : ℕ) (b : Bool) → Near c v z g m → i < c → has v z (name_at names.L) ≡ true → has v z (name_at names.Cl) ≡ true → has v z lit_at ≡ true → answer_at b m i ≡ answer_at b g i
answer_near c v z g m i false n l hl hc hk = ap (λ x. ambient (triple_of x)) (sym (read_near c v z g m (name_at names.Cl) i n hc l))
answer_near c v z g m i true n l hl hc hk =
    same_lit (read m lit_at i) (read g lit_at i) (read m (name_at names.L) i) (read g (name_at names.L) i) (read m (name_at names.Cl) i) (read g (name_at names.Cl) i)
    (sym (read_near c v z g m lit_at i n hk l)) (sym (read_near c v z g m (name_at names.L) i n hl l)) (sym (read_near c v z g m (name_at names.Cl) i n hc l))

pub twice : (b : Bool) → not (not b) ≡ b
twice true = refl
twice false = refl

pub class_is : (k : SlKind) (x : Block) (a : Bool) → is_light k ≡ true → a ≡ is_ambient k x → not a ≡ has_light_statement x
class_is kinds.Light x a h e = ap not e ∙ twice (has_light_statement x)
class_is kinds.Surface x a h e = absurd (true≢false (sym h))
class_is kinds.Displacement x a h e = absurd (true≢false (sym h))
class_is kinds.Volume x a h e = absurd (true≢false (sym h))
