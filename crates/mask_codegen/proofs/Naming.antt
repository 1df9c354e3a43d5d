-- The registers that nodes name, one node after another.
use Rattle.std.proofs.Common.{◌≡◌, ℕ, ◌+◌, ◌<◌, Bool, true, false, List, [], ◌∷◌, ◌++◌, length, get_or, drop, refl, sym, ap, ◌∙◌, append_assoc, append-nil}
use Rattle.std.specs.Prelude.{◌&&◌}
use Rattle.std.specs.List.{list_all}
use Rattle.std.proofs.lemmas.List.Folds.{list_all-append}
use Rattle.sl_ast.specs.declared.kinds.LightStmt.{LightStmt}
use Rattle.grid_code.specs.declared.code.Register.{Register}
use Rattle.grid_code.specs.declared.code.Source.{Source}
use Rattle.grid_code.specs.declared.code.Source.TheVariants.{Constant, Copy, Into, Apply}
use Rattle.grid_code.specs.declared.code.Node.{Node, If, Loop, Lights}
use Rattle.grid_code.specs.Code as c
use Rattle.grid_code.specs.Code.{Block, end, put, differ, sum, texture, branch, loops, lights, breaks, continues, ◌then◌}
use Rattle.grid_code.specs.Uses.{source_within, within}
use Rattle.grid_code.specs.View.{with_node, block_of}
use Rattle.mask_codegen.specs.Collected.{source_registers, registers_of}
use Rattle.core_codegen.proofs.NodeRows.{branch_shown, loop_shown, lights_shown, node_before}
use Rattle.core_codegen.proofs.ValueRegisters.{next_left}

pub registers_then : (x y : Block) → registers_of (x then y) ≡ registers_of x ++ registers_of y
registers_then end y = refl
registers_then (put r o x) y = ap (λ l. (r ∷ source_registers o) ++ l) (registers_then x y) ∙ sym (append_assoc (r ∷ source_registers o) (registers_of x) (registers_of y))
registers_then (differ r d q x) y = ap (λ l. (r ∷ q ∷ []) ++ l) (registers_then x y) ∙ sym (append_assoc (r ∷ q ∷ []) (registers_of x) (registers_of y))
registers_then (sum r w qs x) y = ap (λ l. (r ∷ qs) ++ l) (registers_then x y) ∙ sym (append_assoc (r ∷ qs) (registers_of x) (registers_of y))
registers_then (texture r k qs x) y = ap (λ l. (r ∷ qs) ++ l) (registers_then x y) ∙ sym (append_assoc (r ∷ qs) (registers_of x) (registers_of y))
registers_then (branch t a b x) y =
    let k = t ∷ (registers_of a ++ registers_of b) in
    ap (λ l. k ++ l) (registers_then x y) ∙ sym (append_assoc k (registers_of x) (registers_of y))
registers_then (loops u d t e a x) y =
    let k = registers_of d ++ (t ∷ (registers_of e ++ registers_of a)) in
    ap (λ l. k ++ l) (registers_then x y) ∙ sym (append_assoc k (registers_of x) (registers_of y))
registers_then (lights w qs a x) y =
    let k = qs ++ registers_of a in
    ap (λ l. k ++ l) (registers_then x y) ∙ sym (append_assoc k (registers_of x) (registers_of y))
registers_then (breaks x) y = registers_then x y
registers_then (continues x) y = registers_then x y

-- a step of the loop over nodes
pub named_next : (nodes : List Node) (i : ℕ) (n : Node) (seen0 seen seen' : List Register) → i < length nodes → n ≡ get_or nodes i n →
    seen ++ registers_of (block_of (drop i nodes)) ≡ seen0 ++ registers_of (block_of nodes) → seen' ≡ seen ++ registers_of (with_node n c.end) →
    seen' ++ registers_of (block_of (drop (i + 1) nodes)) ≡ seen0 ++ registers_of (block_of nodes)
named_next nodes i n seen0 seen seen' lt is h k =
    let rest = block_of (drop (i + 1) nodes) in
    ap (λ l. l ++ registers_of rest) k ∙ append_assoc seen (registers_of (with_node n c.end)) (registers_of rest) ∙
    ap (λ l. seen ++ l) (sym (registers_then (with_node n c.end) rest) ∙ ap registers_of (node_before n rest ∙ sym (ap block_of (next_left nodes i n lt is)))) ∙ h

module _ (n : Node) (s0 s1 s2 s3 s4 : List Register) where
  pub named_branch : (t : Register) (a b la lb : List Node) → n ≡ If t a b → s1 ≡ s0 ++ t ∷ [] → la ≡ a → s2 ≡ s1 ++ registers_of (block_of la) → lb ≡ b → s3 ≡ s2 ++ registers_of (block_of lb) →
      s3 ≡ s0 ++ registers_of (with_node n c.end)
  named_branch t a b la lb h h1 ha h2 hb h3 =
      let ra = registers_of (block_of a) in
      let rb = registers_of (block_of b) in
      h3 ∙ ap (λ l. s2 ++ registers_of (block_of l)) hb ∙ ap (λ l. l ++ rb) (h2 ∙ ap (λ l. s1 ++ registers_of (block_of l)) ha ∙ ap (λ l. l ++ ra) h1) ∙
      append_assoc (s0 ++ t ∷ []) ra rb ∙ append_assoc s0 (t ∷ []) (ra ++ rb) ∙ ap (λ l. s0 ++ l) (sym (append-nil (t ∷ (ra ++ rb)))) ∙
      ap (λ x. s0 ++ registers_of x) (sym (branch_shown n t a b h))

  pub named_loop : (u : Bool) (d : List Node) (t : Register) (e b ld le lb : List Node) → n ≡ Loop u d t e b → ld ≡ d → s1 ≡ s0 ++ registers_of (block_of ld) → s2 ≡ s1 ++ t ∷ [] →
      le ≡ e → s3 ≡ s2 ++ registers_of (block_of le) → lb ≡ b → s4 ≡ s3 ++ registers_of (block_of lb) → s4 ≡ s0 ++ registers_of (with_node n c.end)
  named_loop u d t e b ld le lb h hd h1 h2 he h3 hb h4 =
      let rd = registers_of (block_of d) in
      let re = registers_of (block_of e) in
      let rb = registers_of (block_of b) in
      h4 ∙ ap (λ l. s3 ++ registers_of (block_of l)) hb ∙
      ap (λ l. l ++ rb) (h3 ∙ ap (λ l. s2 ++ registers_of (block_of l)) he ∙ ap (λ l. l ++ re) (h2 ∙ ap (λ l. l ++ t ∷ []) (h1 ∙ ap (λ l. s0 ++ registers_of (block_of l)) hd))) ∙
      append_assoc ((s0 ++ rd) ++ t ∷ []) re rb ∙ append_assoc (s0 ++ rd) (t ∷ []) (re ++ rb) ∙ append_assoc s0 rd (t ∷ (re ++ rb)) ∙
      ap (λ l. s0 ++ l) (sym (append-nil (rd ++ (t ∷ (re ++ rb))))) ∙ ap (λ x. s0 ++ registers_of x) (sym (loop_shown n u d t e b h))

  pub named_lights : (w : LightStmt) (qs lq : List Register) (b lb : List Node) → n ≡ Lights w qs b → lq ≡ qs → s1 ≡ s0 ++ lq → lb ≡ b → s2 ≡ s1 ++ registers_of (block_of lb) →
      s2 ≡ s0 ++ registers_of (with_node n c.end)
  named_lights w qs lq b lb h hq h1 hb h2 =
      let rb = registers_of (block_of b) in
      h2 ∙ ap (λ l. s1 ++ registers_of (block_of l)) hb ∙ ap (λ l. l ++ rb) (h1 ∙ ap (λ l. s0 ++ l) hq) ∙ append_assoc s0 qs rb ∙
      ap (λ l. s0 ++ l) (sym (append-nil (qs ++ rb))) ∙ ap (λ x. s0 ++ registers_of x) (sym (lights_shown n w qs b h))

-- a test of the registers that code names, and of those in the list
and_assoc : (a b d : Bool) → (a && b) && d ≡ a && (b && d)
and_assoc true b d = refl
and_assoc false b d = refl

source_named : (p : Register → Bool) (o : Source) → source_within p o ≡ list_all p (source_registers o)
source_named p (Constant v) = refl
source_named p (Copy q) = sym (and_one (p q)) where
  and_one : (a : Bool) → (a && true) ≡ a
  and_one true = refl
  and_one false = refl
source_named p (Into s q) = sym (and_one (p q)) where
  and_one : (a : Bool) → (a && true) ≡ a
  and_one true = refl
  and_one false = refl
source_named p (Apply op qs) = refl

pub within_named : (p : Register → Bool) (x : Block) → within p x ≡ list_all p (registers_of x)
within_named p end = refl
within_named p (put r o x) =
    ap (λ b. p r && (b && within p x)) (source_named p o) ∙ ap (λ b. p r && (list_all p (source_registers o) && b)) (within_named p x) ∙
    ap (λ b. p r && b) (sym (list_all-append p (source_registers o) (registers_of x)))
within_named p (differ r d q x) = ap (λ b. p r && (p q && b)) (within_named p x)
within_named p (sum r w qs x) = ap (λ b. p r && (list_all p qs && b)) (within_named p x) ∙ ap (λ b. p r && b) (sym (list_all-append p qs (registers_of x)))
within_named p (texture r k qs x) = ap (λ b. p r && (list_all p qs && b)) (within_named p x) ∙ ap (λ b. p r && b) (sym (list_all-append p qs (registers_of x)))
within_named p (branch t a b x) =
    let ra = list_all p (registers_of a) in
    let rb = list_all p (registers_of b) in
    let rx = list_all p (registers_of x) in
    ap (λ l. p t && (l && (within p b && within p x))) (within_named p a) ∙ ap (λ l. p t && (ra && (l && within p x))) (within_named p b) ∙ ap (λ l. p t && (ra && (rb && l))) (within_named p x) ∙
    ap (λ l. p t && l) (sym (and_assoc ra rb rx)) ∙ ap (λ l. p t && (l && rx)) (sym (list_all-append p (registers_of a) (registers_of b))) ∙
    ap (λ l. p t && l) (sym (list_all-append p (registers_of a ++ registers_of b) (registers_of x)))
within_named p (loops u d t e a x) =
    let rd = list_all p (registers_of d) in
    let re = list_all p (registers_of e) in
    let ra = list_all p (registers_of a) in
    let rx = list_all p (registers_of x) in
    let k = t ∷ (registers_of e ++ registers_of a) in
    ap (λ l. l && (p t && (within p e && (within p a && within p x)))) (within_named p d) ∙ ap (λ l. rd && (p t && (l && (within p a && within p x)))) (within_named p e) ∙
    ap (λ l. rd && (p t && (re && (l && within p x)))) (within_named p a) ∙ ap (λ l. rd && (p t && (re && (ra && l)))) (within_named p x) ∙
    ap (λ l. rd && (p t && l)) (sym (and_assoc re ra rx)) ∙ ap (λ l. rd && (p t && (l && rx))) (sym (list_all-append p (registers_of e) (registers_of a))) ∙
    ap (λ l. rd && l) (sym (and_assoc (p t) (list_all p (registers_of e ++ registers_of a)) rx)) ∙ sym (and_assoc rd (list_all p k) rx) ∙
    ap (λ l. l && rx) (sym (list_all-append p (registers_of d) k)) ∙ sym (list_all-append p (registers_of d ++ k) (registers_of x))
within_named p (lights w qs a x) =
    let ra = list_all p (registers_of a) in
    let rx = list_all p (registers_of x) in
    ap (λ l. list_all p qs && (l && within p x)) (within_named p a) ∙ ap (λ l. list_all p qs && (ra && l)) (within_named p x) ∙ sym (and_assoc (list_all p qs) ra rx) ∙
    ap (λ l. l && rx) (sym (list_all-append p qs (registers_of a))) ∙ sym (list_all-append p (qs ++ registers_of a) (registers_of x))
within_named p (breaks x) = within_named p x
within_named p (continues x) = within_named p x
