-- Code that asks no light does the same whatever lights there are.
use Rattle.std.proofs.Common.{◌≡◌, ℕ, ◌+◌, ◌<◌, Bool, true, false, cond, List, [], ◌∷◌, length, map, get_or, drop, refl, sym, ap, ◌∙◌, true≢false, Option}
use Rattle.std.specs.Prelude.{◌||◌}
use Rattle.fixed_math.specs.declared.vec3.Vec3.{Vec3}
use Rattle.texture.specs.Images.{Image}
use Rattle.transforms.specs.declared.spaces.Spaces.{Spaces}
use Rattle.builtins.specs.Differences.{Lines}
use Rattle.builtins.specs.Lights.{Light}
use Rattle.builtins.specs.Values.{is_true}
use Rattle.grid_code.specs.declared.code.Register.{Register}
use Rattle.grid_code.specs.declared.code.Register.TheVariants.{Uniform, Varying}
use Rattle.grid_code.specs.declared.code.Source.{Source}
use Rattle.grid_code.specs.declared.code.Source.TheVariants.{Constant, Copy, Into, Apply}
use Rattle.grid_code.specs.declared.code.Node.{Node, If, Loop}
use Rattle.grid_code.specs.Code as c
use Rattle.grid_code.specs.Code.{Block, end, put, differ, sum, texture, branch, loops, lights, breaks, continues, ◌then◌}
use Rattle.grid_code.specs.Masked.{Asked, Ground, State, write, result_of, both_parts, looped, masked}
use Rattle.grid_code.specs.View.{with_node, block_of}
use Rattle.core_codegen.proofs.NodeRows.{branch_shown, loop_shown, node_before}
use Rattle.core_codegen.proofs.ValueRegisters.{next_left}
use Rattle.core_codegen.specs.Correct.{Answers}
use Rattle.displace_shade.specs.Unlit.{asks_lights}

-- ---- what is found in nodes, one after another
or_all : (a b p k : Bool) → (a || (b || (p || k))) ≡ ((a || (b || p)) || k)
or_all true b p k = refl
or_all false true p k = refl
or_all false false p k = refl

or_on : (a b k : Bool) → (a || (b || k)) ≡ ((a || b) || k)
or_on true b k = refl
or_on false b k = refl

-- a block behind another
asks_then : (x y : Block) → asks_lights (x then y) ≡ asks_lights x || asks_lights y
asks_then end y = refl
asks_then (put r o x) y = asks_then x y
asks_then (differ r d q x) y = asks_then x y
asks_then (sum r which qs x) y = refl
asks_then (texture r k qs x) y = asks_then x y
asks_then (branch t a b x) y = ap (λ k. asks_lights a || (asks_lights b || k)) (asks_then x y) ∙ or_all (asks_lights a) (asks_lights b) (asks_lights x) (asks_lights y)
asks_then (loops u d t e a x) y =
    ap (λ k. asks_lights d || (asks_lights e || (asks_lights a || k))) (asks_then x y)
    ∙ ap (λ k. asks_lights d || k) (or_all (asks_lights e) (asks_lights a) (asks_lights x) (asks_lights y))
    ∙ or_on (asks_lights d) (asks_lights e || (asks_lights a || asks_lights x)) (asks_lights y)
asks_then (lights w qs a x) y = refl
asks_then (breaks x) y = asks_then x y
asks_then (continues x) y = asks_then x y

or_false : (a : Bool) → (a || false) ≡ a
or_false true = refl
or_false false = refl

module _ (nodes : List Node) (i : ℕ) (n : Node) (lt : i < length nodes) (is : n ≡ get_or nodes i n) (b : Bool) (hb : b ≡ asks_lights (with_node n c.end))
    (left : asks_lights (block_of (drop i nodes)) ≡ asks_lights (block_of nodes)) where
  next : asks_lights (block_of nodes) ≡ b || asks_lights (block_of (drop (i + 1) nodes))
  next =
      sym left ∙ ap (λ l. asks_lights (block_of l)) (next_left nodes i n lt is) ∙ ap asks_lights (sym (node_before n (block_of (drop (i + 1) nodes)))) ∙
      asks_then (with_node n c.end) (block_of (drop (i + 1) nodes)) ∙ ap (λ x. x || asks_lights (block_of (drop (i + 1) nodes))) (sym hb)

  pub lit_found : b ≡ true → true ≡ asks_lights (block_of nodes)
  lit_found h = sym (next ∙ ap (λ x. x || asks_lights (block_of (drop (i + 1) nodes))) h)

  pub lit_on : b ≡ false → asks_lights (block_of (drop (i + 1) nodes)) ≡ asks_lights (block_of nodes)
  lit_on h = sym (next ∙ ap (λ x. x || asks_lights (block_of (drop (i + 1) nodes))) h)

pub lit_branch : (n : Node) (t : Register) (a b la lb : List Node) (x y r : Bool) → n ≡ If t a b → la ≡ a → x ≡ asks_lights (block_of la) → lb ≡ b → y ≡ asks_lights (block_of lb) →
    r ≡ x || y → r ≡ asks_lights (with_node n c.end)
lit_branch n t a b la lb x y r h ha hx hb hy hr =
    hr ∙ ap (λ k. k || y) (hx ∙ ap (λ l. asks_lights (block_of l)) ha) ∙ ap (λ k. asks_lights (block_of a) || k) (hy ∙ ap (λ l. asks_lights (block_of l)) hb) ∙
    ap (λ k. asks_lights (block_of a) || k) (sym (or_false (asks_lights (block_of b)))) ∙ ap asks_lights (sym (branch_shown n t a b h))

pub lit_loop : (n : Node) (u : Bool) (d : List Node) (t : Register) (e b ld le lb : List Node) (x y z w r : Bool) → n ≡ Loop u d t e b → ld ≡ d → x ≡ asks_lights (block_of ld) → le ≡ e →
    y ≡ asks_lights (block_of le) → lb ≡ b → z ≡ asks_lights (block_of lb) → w ≡ y || z → r ≡ x || w → r ≡ asks_lights (with_node n c.end)
lit_loop n u d t e b ld le lb x y z w r h hd hx he hy hb hz hw hr =
    let dd = asks_lights (block_of d) in
    let ee = asks_lights (block_of e) in
    hr ∙ ap (λ k. x || k) hw ∙ ap (λ k. k || (y || z)) (hx ∙ ap (λ l. asks_lights (block_of l)) hd) ∙ ap (λ k. dd || (k || z)) (hy ∙ ap (λ l. asks_lights (block_of l)) he) ∙
    ap (λ k. dd || (ee || k)) (hz ∙ ap (λ l. asks_lights (block_of l)) hb ∙ sym (or_false (asks_lights (block_of b)))) ∙
    ap asks_lights (sym (loop_shown n u d t e b h))

-- ---- what it does
abbrev Runs : Type 0
Runs = State → State

neither : (a b : Bool) → (a || b) ≡ false → (a ≡ false) × (b ≡ false)
neither true b e = absurd (true≢false e)
neither false b e = (refl, e)

module _ (lines : Lines) (spaces : Spaces) (images : ℕ → Option Image) (ls others : List Asked) (c n : ℕ) where
  abbrev some : Ground
  some = record { lines = lines; spaces = spaces; lights = ls; images = images }

  abbrev other : Ground
  other = record { lines = lines; spaces = spaces; lights = others; images = images }

  result_alike : (o : Source) (s : State) → result_of o some s ≡ result_of o other s
  result_alike (Constant v) s = refl
  result_alike (Copy q) s = refl
  result_alike (Into t q) s = refl
  result_alike (Apply op qs) s = refl

  pub lights_unread : (x : Block) → asks_lights x ≡ false → masked x some c n ≡ masked x other c n
  lights_unread end g = refl
  lights_unread (put r o x) g = ap (λ (k : Runs). λ s. k (write c r (result_of o some s) s)) (lights_unread x g) ∙ (λ i s. masked x other c n (write c r (result_alike o s i) s))
  lights_unread (differ r d q x) g = ap (λ (k : Runs). λ s. k (masked (differ r d q end) some c n s)) (lights_unread x g)
  lights_unread (sum r which qs x) g = absurd (true≢false g)
  lights_unread (texture r k qs x) g = ap (λ (k' : Runs). λ s. k' (masked (texture r k qs end) some c n s)) (lights_unread x g)
  lights_unread (branch (Uniform shape r) a b x) g =
      let p = neither _ _ g in
      let q = neither _ _ p.1 in
      ap (λ (k : Runs). λ s. k (cond (is_true (s.shared shape r)) (masked a some c n s) (masked b some c n s))) (lights_unread x q.1)
      ∙ ap (λ (k : Runs). λ s. masked x other c n (cond (is_true (s.shared shape r)) (k s) (masked b some c n s))) (lights_unread a p.0)
      ∙ ap (λ (k : Runs). λ s. masked x other c n (cond (is_true (s.shared shape r)) (masked a other c n s) (k s))) (lights_unread b q.0)
  lights_unread (branch (Varying shape r) a b x) g =
      let p = neither _ _ g in
      let q = neither _ _ p.1 in
      ap (λ (k : Runs). λ s. k (both_parts (λ i. is_true (s.rows shape r i)) (masked a some c n) (masked b some c n) s)) (lights_unread x q.1)
      ∙ ap (λ (k : Runs). λ s. masked x other c n (both_parts (λ i. is_true (s.rows shape r i)) k (masked b some c n) s)) (lights_unread a p.0)
      ∙ ap (λ (k : Runs). λ s. masked x other c n (both_parts (λ i. is_true (s.rows shape r i)) (masked a other c n) k s)) (lights_unread b q.0)
  lights_unread (loops u d t e a x) g =
      let p = neither _ _ g in
      let q = neither _ _ p.1 in
      let w = neither _ _ q.1 in
      ap (λ (k : Runs). λ s. k (looped n c u (masked d some c n) t (masked e some c n) (masked a some c n) s)) (lights_unread x w.1)
      ∙ ap (λ (k : Runs). λ s. masked x other c n (looped n c u k t (masked e some c n) (masked a some c n) s)) (lights_unread d p.0)
      ∙ ap (λ (k : Runs). λ s. masked x other c n (looped n c u (masked d other c n) t k (masked a some c n) s)) (lights_unread e q.0)
      ∙ ap (λ (k : Runs). λ s. masked x other c n (looped n c u (masked d other c n) t (masked e other c n) k s)) (lights_unread a w.0)
  lights_unread (lights w qs a x) g = absurd (true≢false g)
  lights_unread (breaks x) g = ap (λ (k : Runs). λ s. k (masked (breaks end) some c n s)) (lights_unread x g)
  lights_unread (continues x) g = ap (λ (k : Runs). λ s. k (masked (continues end) some c n s)) (lights_unread x g)

-- lights asked at all places at once that answer as these do
abbrev pub asked_as : (Vec3 → Light) → Asked
asked_as light q i = light (q i)

pub asked_answer : (c : ℕ) (ls : List (Vec3 → Light)) → Answers c (map asked_as ls) ls
asked_answer c [] = tt
asked_answer c (l ∷ ls) = ((λ q i m. refl), asked_answer c ls)
