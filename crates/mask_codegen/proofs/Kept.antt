-- What keeps uniform variables and the uniform budget at a point: the parts of statements under varying control.
use Rattle.std.proofs.Common.{◌≡◌, ℕ, zero, suc, ◌<◌, ◌≤◌, true, false, cond, List, [], ◌∷◌, length, get_or, take, refl, ap, ◌∙◌, arith}
use Rattle.std.specs.Prelude.{◌==◌, nat_lt}
use Rattle.std.proofs.lemmas.Bool.{cond_both, cond-false}
use Rattle.std.proofs.lemmas.List.{get_or-take, length-take-le}
use Rattle.fixed_math.specs.Fixed.{sub}
use Rattle.fixed_math.specs.declared.vec3.Vec3.{Vec3}
use Rattle.sl_ast.specs.declared.kinds.LightStmt.{LightStmt}
use Rattle.sl_ast.specs.declared.kinds.LightStmt.TheVariants.{Illuminance, Illuminate, Solar}
use Rattle.sl_ast.specs.declared.kinds.Predefined.{Predefined}
use Rattle.sl_ast.specs.declared.kinds.Predefined.TheVariants as names
use Rattle.sl_ast.specs.declared.typed.Value.{Value}
use Rattle.sl_ast.specs.declared.typed.Value.TheVariants.{Triple}
use Rattle.sl_ast.specs.Classes.{is_uniform_name}
use Rattle.builtins.specs.Names.{place_of}
use Rattle.builtins.specs.Triples.{each_two}
use Rattle.builtins.specs.Values.{is_true, triple_of}
use Rattle.builtins.specs.Lights.{is_in_cone}
use Rattle.sl_meaning.specs.Core.{Slot, no_slot}
use Rattle.sl_meaning.specs.Environment.{Env, Around, Signal, Next, Break, Continue, zero_value, with_name, budget, spend, cut_to}
use Rattle.sl_meaning.specs.Alone.{Gives, Runs, on_next, either, round, loop, under_light, each_light, seen_from, lighting, over_lights}
use Rattle.core_codegen.proofs.Scopes.{Extends}

-- a varying predefined variable is no uniform one
pub names_apart : (p q : Predefined) → is_uniform_name p ≡ false → is_uniform_name q ≡ true → (place_of p == place_of q) ≡ false
names_apart names.E q h k = absurd (cc h)
names_apart names.Du q h k = absurd (cc h)
names_apart names.Dv q h k = absurd (cc h)
names_apart names.Pi q h k = absurd (cc h)
names_apart p names.E h k = refl
names_apart p names.Du h k = refl
names_apart p names.Dv h k = refl
names_apart p names.Pi h k = refl
names_apart p q h k = absurd (cc k)

-- an expression changes no variable in scope and no uniform one
pub record Same (env out : Env) : Type 0 where
  pub values : out.values ≡ env.values
  pub named : (p : Predefined) → is_uniform_name p ≡ true → out.named p ≡ env.named p
  pub turns : out.turns ≡ env.turns

-- and what begins and ends in one scope keeps what is uniform
pub record Kept (ss : List Slot) (env out : Env) : Type 0 where
  pub uniform : (k : ℕ) → k < length ss → (get_or ss k no_slot).uniform ≡ true → get_or out.values k zero_value ≡ get_or env.values k zero_value
  pub named : (p : Predefined) → is_uniform_name p ≡ true → out.named p ≡ env.named p
  pub turns : out.turns ≡ env.turns
  pub exact : length out.values ≡ length ss

-- the same of a statement that goes on, or leaves its loop, in a scope that may be longer
pub record Keeps (ss' ss : List Slot) (env : Env) (r : Signal × Env) : Type 0 where
  pub uniform : (k : ℕ) → k < length ss → (get_or ss k no_slot).uniform ≡ true → get_or r.1.values k zero_value ≡ get_or env.values k zero_value
  pub named : (p : Predefined) → is_uniform_name p ≡ true → r.1.named p ≡ env.named p
  pub turns : r.1.turns ≡ env.turns
  pub long : length ss ≤ length r.1.values
  pub exact : r.0 ≡ Next → length r.1.values ≡ length ss'

pub same_self : (env : Env) → Same env env
same_self env = record { values = refl; named = λ p h. refl; turns = refl }

pub same_on : (a b d : Env) → Same a b → Same b d → Same a d
same_on a b d x y = record { values = y.values ∙ x.values; named = λ p h. y.named p h ∙ x.named p h; turns = y.turns ∙ x.turns }

pub kept_self : (ss : List Slot) (env : Env) → length env.values ≡ length ss → Kept ss env env
kept_self ss env h = record { uniform = λ k a b. refl; named = λ p h. refl; turns = refl; exact = h }

pub kept_of : (ss : List Slot) (env out : Env) → length env.values ≡ length ss → Same env out → Kept ss env out
kept_of ss env out h s = record { uniform = λ k a b. ap (λ l. get_or l k zero_value) s.values; named = s.named; turns = s.turns; exact = ap length s.values ∙ h }

pub kept_on : (ss : List Slot) (a b d : Env) → Kept ss a b → Kept ss b d → Kept ss a d
kept_on ss a b d x y =
    record { uniform = λ k l u. y.uniform k l u ∙ x.uniform k l u; named = λ p h. y.named p h ∙ x.named p h; turns = y.turns ∙ x.turns; exact = y.exact }

pub keeps_kept : (ss : List Slot) (env : Env) (x : Signal) (out : Env) → Kept ss env out → Keeps ss ss env (x, out)
keeps_kept ss env x out k = let q = k.exact in record { uniform = k.uniform; named = k.named; turns = k.turns; long = omega arith; exact = λ z. q }

-- a block, a step
pub kept_inside : (ss' ss : List Slot) (env : Env) (x : Signal) (out : Env) → Extends ss ss' → length env.values ≡ length ss → Keeps ss' ss env (x, out) → Kept ss env (cut_to env out)
kept_inside ss' ss env x out e h k =
    let long = k.long in
    let len : length (take (length env.values) out.values) ≡ length ss = length-take-le (length env.values) out.values (omega arith) ∙ h in
    record {
      uniform = λ j a b. get_or-take (length env.values) out.values j zero_value (omega arith) ∙ k.uniform j a b;
      named = k.named;
      turns = k.turns;
      exact = len;
    }

pub kept_step : (ss' ss : List Slot) (env : Env) (r : Signal × Env) → ss' ≡ ss → r.0 ≡ Next → Keeps ss' ss env r → Kept ss env r.1
kept_step ss' ss env r e h k = record { uniform = k.uniform; named = k.named; turns = k.turns; exact = k.exact h ∙ ap length e }

pub keeps_seq : (ss2 ss1 ss : List Slot) (env : Env) (x : Signal) (mid : Env) (go : Runs) → Extends ss ss1 → Keeps ss1 ss env (x, mid) → ((m : Env) → length m.values ≡ length ss1 → Keeps ss2 ss1 m (go m)) → Keeps ss2 ss env (on_next (x, mid) go)
keeps_seq ss2 ss1 ss env Next mid go e k h =
    let y = h mid (k.exact refl) in let long = e.long in let l2 = y.long in
    record {
      uniform = λ j a b. y.uniform j (omega arith) (ap (λ s. s.uniform) (e.same j a) ∙ b) ∙ k.uniform j a b;
      named = λ p q. y.named p q ∙ k.named p q;
      turns = y.turns ∙ k.turns;
      long = omega arith;
      exact = y.exact;
    }
keeps_seq ss2 ss1 ss env Break mid go e k h = record { uniform = k.uniform; named = k.named; turns = k.turns; long = k.long; exact = λ q. cc }
keeps_seq ss2 ss1 ss env Continue mid go e k h = record { uniform = k.uniform; named = k.named; turns = k.turns; long = k.long; exact = λ q. cc }

-- what is written to a varying predefined variable
pub name_kept : (ss : List Slot) (p : Predefined) (v : Value) (env : Env) → is_uniform_name p ≡ false → length env.values ≡ length ss → Kept ss env (with_name p v env)
name_kept ss p v env n h =
    record { uniform = λ k a b. refl; named = λ q u. cond-false (place_of p == place_of q) v (env.named q) (names_apart p q n u); turns = refl; exact = h }

-- a loop with the point's own budget
module _ (ss : List Slot) (t : Gives Value) (step body : Runs) (ht : (e : Env) → length e.values ≡ length ss → Same e (t e).1) (hs : (e : Env) → length e.values ≡ length ss → Kept ss e (step e).1) (hb : (e : Env) → length e.values ≡ length ss → Kept ss e (body e).1) where
  round_kept : (go : Runs) → ((e : Env) → length e.values ≡ length ss → Kept ss e (go e).1) → (x : Signal) (e out : Env) → Kept ss e out → Kept ss e (round (x, out) step go).1
  round_kept go ih Next e out k = let s = hs out k.exact in kept_on ss e out _ k (kept_on ss out (step out).1 _ s (ih (step out).1 s.exact))
  round_kept go ih Continue e out k = let s = hs out k.exact in kept_on ss e out _ k (kept_on ss out (step out).1 _ s (ih (step out).1 s.exact))
  round_kept go ih Break e out k = k

  spend_kept : (e : Env) → length e.values ≡ length ss → Kept ss e (spend false e)
  spend_kept e h = record { uniform = λ k a b. refl; named = λ p q. refl; turns = refl; exact = h }

  pub loop_kept : (n : ℕ) (e : Env) → length e.values ≡ length ss → Kept ss e (loop n false t step body e).1
  loop_kept zero e h = kept_of ss e (t e).1 h (ht e h)
  loop_kept (suc n) e h =
      let x = t e in
      let s = kept_of ss e x.1 h (ht e h) in
      let go = loop n false t step body in
      let m = spend false x.1 in
      cond_both (is_true x.0) (cond (nat_lt 0 (budget false x.1)) (round (body m) step go) (Next, x.1)) (Next, x.1) (λ r. Kept ss e r.1)
      (λ on. cond_both (nat_lt 0 (budget false x.1)) (round (body m) step go) (Next, x.1) (λ r. Kept ss e r.1)
      (λ left. let k = spend_kept x.1 s.exact in round_kept go (loop_kept n) (body m).0 e (body m).1 (kept_on ss e x.1 (body m).1 s (kept_on ss x.1 m (body m).1 k (hb m k.exact))))
      (λ spent. s))
      (λ off. s)

-- one of two parts
pub either_kept : (ss : List Slot) (e : Env) (t : Gives Value) (a b : Runs) → Same e (t e).1 → length e.values ≡ length ss
    → ((m : Env) → length m.values ≡ length ss → Kept ss m (a m).1) → ((m : Env) → length m.values ≡ length ss → Kept ss m (b m).1) → Kept ss e (either t a b e).1
either_kept ss e t a b s h ha hb =
    let k = kept_of ss e (t e).1 h s in
    cond_both (is_true (t e).0) (a (t e).1) (b (t e).1) (λ r. Kept ss e r.1)
    (λ on. kept_on ss e (t e).1 _ k (ha (t e).1 k.exact)) (λ off. kept_on ss e (t e).1 _ k (hb (t e).1 k.exact))

-- statements over lights
module _ (ss : List Slot) (body : Runs) (hb : (e : Env) → length e.values ≡ length ss → Kept ss e (body e).1) where
  under_kept : (l : Vec3 × Vec3) (e : Env) → length e.values ≡ length ss → Kept ss e (under_light l e)
  under_kept l e h = kept_on ss e (with_name names.L (Triple l.0) e) _ (name_kept ss names.L (Triple l.0) e refl h) (name_kept ss names.Cl (Triple l.1) (with_name names.L (Triple l.0) e) refl h)

  next_kept : (go : Runs) → ((e : Env) → length e.values ≡ length ss → Kept ss e (go e).1) → (x : Signal) (e out : Env) → Kept ss e out → Kept ss e (on_next (x, out) go).1
  next_kept go ih Next e out k = kept_on ss e out _ k (ih out k.exact)
  next_kept go ih Break e out k = k
  next_kept go ih Continue e out k = k

  each_kept : (ls : List (Vec3 × Vec3)) (e : Env) → length e.values ≡ length ss → Kept ss e (each_light ls body e).1
  each_kept [] e h = kept_self ss e h
  each_kept (l ∷ ls) e h =
      let k = under_kept l e h in
      let r = body (under_light l e) in
      next_kept (each_light ls body) (each_kept ls) r.0 e r.1 (kept_on ss e (under_light l e) r.1 k (hb (under_light l e) k.exact))

  lighting_kept : (l : Vec3) (e : Env) → length e.values ≡ length ss → Kept ss e (lighting l body e).1
  lighting_kept l e h =
      let m = record (with_name names.L (Triple l) e) { lit = true } in
      let k = name_kept ss names.L (Triple l) e refl h in
      let j : Kept ss e m = record { uniform = λ q a b. refl; named = k.named; turns = refl; exact = h } in
      kept_on ss e m _ j (hb m h)

  pub lights_kept : (w : LightStmt) (a : Around) (vs : List Value) (e : Env) → length e.values ≡ length ss → Kept ss e (over_lights w a vs body e).1
  lights_kept Illuminance a vs e h = each_kept (seen_from a vs) e h
  lights_kept Illuminate a [] e h = kept_self ss e h
  lights_kept Illuminate a (place ∷ cone) e h =
      let l = each_two sub (triple_of (e.named names.Ps)) (triple_of place) in
      cond_both (is_in_cone cone l) (lighting l body e) (Next, e) (λ r. Kept ss e r.1) (λ on. lighting_kept l e h) (λ off. kept_self ss e h)
  lights_kept Solar a [] e h = kept_self ss e h
  lights_kept Solar a (axis ∷ angle) e h = lighting_kept (triple_of axis) e h
