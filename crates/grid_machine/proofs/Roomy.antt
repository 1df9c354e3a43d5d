-- Room that grows, and places in rows.
use Rattle.std.proofs.Common.{◌≡◌, ℕ, suc, ◌+◌, ◌*◌, ◌<◌, ◌≤◌, List, length, map, sym, ap, subst, arith, ⊎_elim}
use Rattle.std.specs.List.{range_with_len}
use Rattle.std.proofs.lemmas.Bool.{cases_eq}
use Rattle.std.proofs.lemmas.List.{length-map}
use Rattle.std.proofs.lemmas.List.FromFn.{length-range_with_len}
use Rattle.transforms.specs.declared.spaces.Spaces.{Spaces}
use Rattle.sl_ast.specs.declared.typed.Value.{Value}
use Rattle.builtins.specs.Differences.{Lines}
use Rattle.grid_code.specs.declared.shader_code.Code.{Code}
use Rattle.grid_machine.specs.Asked.{asked, asked_all}
use Rattle.grid_machine.specs.Lamps.{asked_by}
use Rattle.grid_machine.specs.declared.lamps.Lantern.{Lantern}
use Rattle.std.proofs.Math.Nat.{mul-le-mul}
use Rattle.grid_code.specs.declared.register_set.RegisterSet.{RegisterSet}
use Rattle.grid_registers.specs.declared.room.Room.{Room}
use Rattle.grid_registers.specs.Rooms.{HasRoom, IsNoLess}

pub roomy_more : (v u : RegisterSet) (p : ℕ) (a b : Room) → IsNoLess a b → HasRoom v u p a → HasRoom v u p b
roomy_more v u p a b n h = record {
  rows = λ s. let x = n.rows s in let y = h.rows s in omega arith;
  shared = λ s. let x = n.shared s in let y = h.shared s in omega arith;
}

-- code has room at the first of places, one more
pub room_next : (v u : ℕ → RegisterSet) (p n : ℕ) (a b : Room) → IsNoLess a b → HasRoom (v n) (u n) p b → ((k : ℕ) → k < n → HasRoom (v k) (u k) p a) → (k : ℕ) → k < n + 1 → HasRoom (v k) (u k) p b
room_next v u p n a b less here before k l =
    ⊎_elim
    (λ e. subst (λ j. HasRoom (v j) (u j) p b) (sym e) here)
    (λ ne. roomy_more (v k) (u k) p a b less (before k (omega arith)))
    (cases_eq k n)

-- there are as many lights as answers
pub some_lights : (lines : Lines) (c many : ℕ) (spaces : ℕ → Spaces) (codes : ℕ → Code) (values : ℕ → List Value) (lamps : List Lantern) → 0 < many → map asked_by lamps ≡ asked_all lines c many spaces codes values → 0 < length lamps
some_lights lines c many spaces codes values lamps some e =
    let a = length-map lamps asked_by in
    let b = ap (λ xs. length xs) e in
    let d = length-map (range_with_len 0 many) (λ n. asked lines c (spaces n) (codes n) (values n)) in
    let f = length-range_with_len 0 many in
    omega arith

-- a place of one of n rows of p places
pub within_rows : (r n p i : ℕ) → r < n → i < p → r * p + i < n * p
within_rows r n p i l m =
    let more : suc r ≤ n = omega arith in
    let same : p ≤ p = omega arith in
    let le : suc r * p ≤ n * p = mul-le-mul more same in
    let e : suc r * p ≡ r * p + p = grind arith in
    omega (arith, le, e)
