-- What steps keep, one behind another.
use Rattle.std.proofs.Common.{◌≡◌, ℕ, ◌<◌, List, Bool, true, ◌∙◌, ap, sym, subst}
use Rattle.grid_code.specs.Uses.{has}
use Rattle.grid_code.specs.declared.code.Register.{Register}
use Rattle.grid_code.specs.Code.{Block}
use Rattle.grid_code.specs.Masked.{Asked, State, any, going, take_turn, write}
use Rattle.sl_ast.specs.declared.typed.Value.{Value}
use Rattle.place_rows.specs.declared.mask.Mask.{Mask}
use Rattle.grid_machine.specs.declared.machine.Machine.{Machine}
use Rattle.grid_registers.specs.declared.frame.Frame.{Frame}
use Rattle.light_rows.specs.Seen.{Lighting}
use Rattle.texture.specs.Images.{Image}
use Rattle.grid_machine.specs.State.{Beside, beside, state_of, lit_ground, Performs, ReadyIn, HasRegister, Runs, Kept, Ready, Near}
use Rattle.grid_machine.proofs.Near.{any_same}
use Rattle.std.specs.Borrow.{Bor}

pub kept_on : (a b d : Machine) → Kept a b → Kept b d → Kept a d
kept_on a b d x y = record { frame = y.frame ∙ x.frame; whole = y.whole }

abbrev pub StepsBy : Beside → Bor Frame → ℕ → Block → State → State → Type 0
StepsBy ls f n x s s' = Performs (lit_ground ls f.now) f.now.places f.now.varying.now f.now.uniform.now n x s s'

pub places_kept : (a b : Machine) (x y : Lighting) → Kept a b → y ≡ x → x.places ≡ a.registers.frame.now.places → y.places ≡ b.registers.frame.now.places
places_kept a b x y k e h = ap (λ s. s.places) e ∙ h ∙ sym (ap (λ f. f.now.places) k.frame)

-- a block that is ready, and a step, by an equal frame
pub ready_kept : (a b : Machine) (x : Block) → Kept a b → ReadyIn a x → ReadyIn b x
ready_kept a b x k h = subst (λ f. Ready f.now.varying.now f.now.uniform.now f.now.setting.texts.now x) (sym k.frame) h

pub has_kept : (a b : Machine) (r : Register) → Kept a b → HasRegister a r → HasRegister b r
has_kept a b r k h = subst (λ f. has f.now.varying.now f.now.uniform.now r ≡ true) (sym k.frame) h

pub beside_same : {ls ls' : List Asked} {ps ps' : List Image} → ls' ≡ ls → ps' ≡ ps → beside ls' ps' ≡ beside ls ps
beside_same {ls} {ls'} {ps} {ps'} h k = ap (λ l. beside l ps') h ∙ ap (beside ls) k

pub runs_kept : (ls ls' : Beside) (a b d : Machine) (n : ℕ) (x : Block) → Kept a b → ls' ≡ ls → Runs ls' n x b d → StepsBy ls a.registers.frame n x (state_of b) (state_of d)
runs_kept ls ls' a b d n x k e h = subst (λ fs. StepsBy fs a.registers.frame n x (state_of b) (state_of d)) e (subst (λ f. StepsBy ls' f n x (state_of b) (state_of d)) k.frame h)

-- a machine with another mask is as whole
pub kept_live : (a b : Machine) (l : Mask) → Kept a b → Kept a record b { live = l }
kept_live a b l k = record { frame = k.frame; whole = record { full = k.whole.full; sized = k.whole.sized; scratch = k.whole.scratch; own = k.whole.own } }

abbrev pub NearBy : Bor Frame → State → State → Type 0
NearBy f g h = Near f.now.places f.now.varying.now f.now.uniform.now g h

pub begin_kept : (a b : Machine) (u : Bool) (t : Register) (s : State) (q : ℕ → Bool) → Kept a b → ((i : ℕ) → i < b.registers.frame.now.places → q i ≡ going u t (state_of b) i) → ((g : State) (p : ℕ → Bool) → NearBy b.registers.frame g (state_of b) → ((i : ℕ) → i < b.registers.frame.now.places → p i ≡ q i) → NearBy b.registers.frame (take_turn u record g { live = p; staying = p }) s) → (g : State) (p : ℕ → Bool) → NearBy a.registers.frame g (state_of b) → ((i : ℕ) → i < a.registers.frame.now.places → p i ≡ going u t (state_of b) i) → NearBy a.registers.frame (take_turn u record g { live = p; staying = p }) s
begin_kept a b u t s q k e h g p near same =
    subst (λ f. (g : State) (p : ℕ → Bool) → NearBy f g (state_of b) → ((i : ℕ) → i < f.now.places → p i ≡ q i) → NearBy f (take_turn u record g { live = p; staying = p }) s) k.frame h g p near
    (λ i l. same i l ∙ sym (e i (subst (λ f. i < f.now.places) (sym k.frame) l)))

pub any_kept : (a b : Machine) (p q : ℕ → Bool) (x : Bool) → Kept a b → ((i : ℕ) → i < b.registers.frame.now.places → p i ≡ q i) → any b.registers.frame.now.places p ≡ x → any a.registers.frame.now.places q ≡ x
any_kept a b p q x k e is = subst (λ f. any f.now.places q ≡ x) k.frame (sym (any_same b.registers.frame.now.places p q e) ∙ is)

pub written_kept : (a b : Machine) (r : Register) (f : ℕ → Value) (s : State) → Kept a b → NearBy b.registers.frame (write b.registers.frame.now.places r f (state_of b)) s → NearBy a.registers.frame (write a.registers.frame.now.places r f (state_of b)) s
written_kept a b r f s k h = subst (λ x. NearBy x (write x.now.places r f (state_of b)) s) k.frame h
