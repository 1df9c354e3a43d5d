-- The steps of a run's beginning, over states that are the same on the grid.
use Rattle.std.proofs.Common.{◌≡◌, ℕ, ◌<◌, ◌≤◌, true, refl, arith, subst, sym}
use Rattle.sl_ast.specs.declared.typed.Value.{Value}
use Rattle.grid_code.specs.declared.code.Register.{Register}
use Rattle.grid_code.specs.declared.register_set.RegisterSet.{RegisterSet}
use Rattle.grid_code.specs.Uses.{has}
use Rattle.grid_code.specs.Masked.{State, read, write}
use Rattle.grid_machine.specs.declared.machine.Machine.{Machine}
use Rattle.place_rows.specs.Layout.{row_length}
use Rattle.grid_machine.specs.State.{Near, Kept, NearIn}
use Rattle.grid_machine.proofs.Near.{near_on, read_near, write_near}
use Rattle.grid_machine.proofs.Kept.{NearBy}

pub value_written : (c : ℕ) (v z : RegisterSet) (to : Register) (f : ℕ → Value) (g s s' : State) → 0 < c → Near c v z g s → Near c v z (write c to f s) s' → Near c v z (write c to f g) s'
value_written c v z to f g s s' pos n st = near_on c v z _ _ _ (write_near c v z to f f g s pos n (λ i l. refl)) st

pub copy_written : (c : ℕ) (v z : RegisterSet) (to from : Register) (g s s' : State) → 0 < c → has v z from ≡ true → Near c v z g s → Near c v z (write c to (λ i. read s from i) s) s' → Near c v z (write c to (λ i. read g from i) g) s'
copy_written c v z to from g s s' pos h n st = near_on c v z _ _ _ (write_near c v z to (λ i. read g from i) (λ i. read s from i) g s pos n (λ i l. read_near c v z g s from i n h l)) st

pub near_kept : (a b : Machine) (g s : State) → Kept a b → NearIn b g s → NearBy a.registers.frame g s
near_kept a b g s k h = subst (λ f. NearBy f g s) k.frame h

pub near_back : (a b : Machine) (g s : State) → Kept a b → NearBy a.registers.frame g s → NearIn b g s
near_back a b g s k h = subst (λ f. NearBy f g s) (sym k.frame) h

-- a row holds the points of a grid
pub row_holds : (c : ℕ) → c ≤ row_length c
row_holds c = omega arith
