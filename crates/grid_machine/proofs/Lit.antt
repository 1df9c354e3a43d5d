-- Statements over lights, over states that are the same on the grid.
use Rattle.std.proofs.Common.{◌≡◌, ℕ, ◌+◌, ◌<◌, Bool, true, false, cond, List, ◌∷◌, length, get_or, drop, refl, sym, ap, ◌∙◌, subst, add-one}
use Rattle.std.specs.Prelude.{not, ◌&&◌, ◌||◌, Option, Some, None, is_some}
use Rattle.std.specs.List.{list_all}
use Rattle.std.proofs.Math.Seq.{drop-cons}
use Rattle.fixed_math.specs.Fixed.{sub}
use Rattle.fixed_math.specs.declared.vec3.Vec3.{Vec3}
use Rattle.sl_ast.specs.declared.kinds.LightStmt.TheVariants.{Illuminance}
use Rattle.sl_ast.specs.declared.kinds.Predefined.TheVariants as names
use Rattle.sl_ast.specs.declared.typed.Value.{Value}
use Rattle.builtins.specs.Lights.{Light, ambient, unlit, lit, shown, is_in_cone}
use Rattle.builtins.specs.Triples.{each_two, negated}
use Rattle.builtins.specs.Values.{triple_of}
use Rattle.grid_code.specs.declared.code.Register.{Register}
use Rattle.grid_code.specs.declared.register_set.RegisterSet.{RegisterSet}
use Rattle.grid_code.specs.Code.{Block, end, lights}
use Rattle.grid_code.specs.Masked.{Asked, State, Ground, read, reads, under, one_part, answers, entered, under_lights, views, from_light, illuminated, masked}
use Rattle.grid_code.specs.Names.{name_at}
use Rattle.grid_code.specs.Uses.{has}
use Rattle.light_rows.specs.Seen.{unasked, shown_by, AtPlaces}
use Rattle.grid_machine.specs.State.{Beside, state_of, lit_ground, Near, Performs, Kept}
use Rattle.grid_machine.specs.Writes.{aimed_at, RunsLit}
use Rattle.grid_machine.specs.declared.machine.Machine.{Machine}
use Rattle.grid_machine.proofs.Kept.{NearBy}
use Rattle.grid_machine.proofs.Masks.{near_live}
use Rattle.grid_machine.proofs.Near.{read_near, reads_near}
use Rattle.light_rows.proofs.Totals.{none_left}

pub shown_is : (cone : List Value) (p : Vec3 → Bool) (l : Light) → ((d : Vec3) → p d ≡ is_in_cone cone d) → shown_by p l ≡ shown cone l
shown_is cone p (ambient cl) e = refl
shown_is cone p unlit e = refl
shown_is cone p (lit l cl) e = ap (λ b. cond b (Some (negated l, cl)) None) (e (negated l))

-- what is seen of light i from a state
abbrev pub view_from : List Asked → ℕ → Register → List Register → State → ℕ → Option (Vec3 × Vec3)
view_from fs i place cone g j = shown (reads g cone j) (answers (get_or fs i unasked) g place j)

module _ (w : Ground) (c : ℕ) (v z : RegisterSet) (n : ℕ) where
  -- a block under a part of the places, begun by e
  pub part_steps : (p p' : ℕ → Bool) (e : State → State) (a : Block) (h m0 m2 m3 : State) (l1 l4 : ℕ → Bool) → Near c v z h m0 → ((i : ℕ) → i < c → p i ≡ p' i) → ((i : ℕ) → i < c → l1 i ≡ (m0.live i && p' i)) → ((k : State) → Near c v z k record m0 { live = l1 } → Near c v z (e k) m2) → Performs w c v z n a m2 m3 → ((i : ℕ) → i < c → l4 i ≡ (m3.live i || (m0.live i && not (p' i)))) → Near c v z (one_part p (λ x. masked a w c n (e x)) h) record m3 { live = l4 }
  part_steps p p' e a h m0 m2 m3 l1 l4 near same e1 enter ha e4 =
      let x = masked a w c n (e (under p h)) in
      let nx = ha (e (under p h)) (enter (under p h) (near_live c v z h m0 (λ i. h.live i && p i) l1 near (λ i l. ap (λ k. k && p i) (near.live i l) ∙ ap (λ k. m0.live i && k) (same i l) ∙ sym (e1 i l)))) in
      near_live c v z x m3 (λ i. x.live i || (h.live i && not (p i))) l4 nx (λ i l.
      ap (λ k. k || (h.live i && not (p i))) (nx.live i l) ∙ ap (λ k. m3.live i || (k && not (p i))) (near.live i l) ∙ ap (λ k. m3.live i || (m0.live i && not k)) (same i l) ∙ sym (e4 i l))

  module _ (place : Register) (cone : List Register) (a : Block) where
    -- what has still to be run under the lights behind the first i of them
    pub record Showing (i : ℕ) (m0 m : State) : Type 0 where
      pub ahead : (g : State) → Near c v z g m0 → (h : State) × (Near c v z h m × (under_lights c (views (drop i w.lights) g place cone) (masked a w c n) h ≡ under_lights c (views w.lights g place cone) (masked a w c n) g))

    pub showing_init : (m : State) → Showing 0 m m
    showing_init m = record { ahead = λ g near. (g, (near, refl)) }

    pub showing_next : (i : ℕ) (m0 m m' : State) → i < length w.lights → Showing i m0 m → ((g h : State) → Near c v z g m0 → Near c v z h m → Near c v z (one_part (λ j. is_some (view_from w.lights i place cone g j)) (λ x. masked a w c n (entered c (view_from w.lights i place cone g) x)) h) m') → Showing (i + 1) m0 m'
    showing_next i m0 m m' l s step =
        record {
          ahead = λ g near.
              let y = s.ahead g near in
              let h = y.0 in
              let k = one_part (λ j. is_some (view_from w.lights i place cone g j)) (λ x. masked a w c n (entered c (view_from w.lights i place cone g) x)) h in (
                k,
                (
                  step g h near y.1.0,
                  ap (λ q. under_lights c (views (drop q w.lights) g place cone) (masked a w c n) k) (add-one i)
                      ∙ sym (ap (λ fs. under_lights c (views fs g place cone) (masked a w c n) h) (drop-cons w.lights i unasked l)) ∙ y.1.1,
                ),
              );
        }

    pub showing_end : (i : ℕ) (m0 m : State) → i ≡ length w.lights → Showing i m0 m → Performs w c v z n (lights Illuminance (place ∷ cone) a end) m0 m
    showing_end i m0 m e s g near =
        let y = s.ahead g near in
        subst (λ k. Near c v z k m) (ap (λ fs. under_lights c (views fs g place cone) (masked a w c n) y.0) (sym (none_left w.lights i e)) ∙ y.1.1) y.1.0

module _ (c : ℕ) (v z : RegisterSet) (g m : State) (place : Register) (cone : List Register) (near : Near c v z g m) (has_place : has v z place ≡ true) (has_cone : list_all (has v z) cone ≡ true) (has_points : has v z (name_at names.Ps) ≡ true) where
  pub from_near : (i : ℕ) → i < c → from_light g place i ≡ from_light m place i
  from_near i l =
      ap (λ x. each_two sub (triple_of x) (triple_of (read g place i))) (read_near c v z g m (name_at names.Ps) i near has_points l)
      ∙ ap (λ x. each_two sub (triple_of (read m (name_at names.Ps) i)) (triple_of x)) (read_near c v z g m place i near has_place l)

  pub in_cone_near : (i : ℕ) → i < c → is_in_cone (reads g cone i) (from_light g place i) ≡ is_in_cone (reads m cone i) (from_light m place i)
  in_cone_near i l = ap (λ vs. is_in_cone vs (from_light g place i)) (reads_near c v z g m cone i near has_cone l) ∙ ap (is_in_cone (reads m cone i)) (from_near i l)

-- a block under a light's own directions, by an equal frame
pub lit_kept : (ls : Beside) (n : ℕ) (x : Block) (seen : List Bool) (a b d : Machine) → Kept a b → RunsLit ls n x seen b d → (g : State) (p : ℕ → Bool) (f : ℕ → Vec3) → NearBy a.registers.frame g (state_of b) → AtPlaces a.registers.frame.now.places p (λ i. get_or seen i false) → AtPlaces a.registers.frame.now.places f (aimed_at b) → NearBy a.registers.frame (illuminated a.registers.frame.now.places p f (masked x (lit_ground ls a.registers.frame.now) a.registers.frame.now.places n) g) (state_of d)
lit_kept ls n x seen a b d k h =
    subst (λ r. (g : State) (p : ℕ → Bool) (f : ℕ → Vec3) → NearBy r g (state_of b) → AtPlaces r.now.places p (λ i. get_or seen i false) → AtPlaces r.now.places f (aimed_at b) → NearBy r (illuminated r.now.places p f (masked x (lit_ground ls r.now) r.now.places n) g) (state_of d)) k.frame h
