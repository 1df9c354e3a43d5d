-- What an answer of the code says of the definition.
use Rattle.std.specs.Prelude.{◌≡◌, ℕ, Bool, true, false, Result, Ok, Err}
use Rattle.sl_ast.specs.declared.kinds.ControlCode.{ControlCode}
use Rattle.sl_ast.specs.Settled as S
use Rattle.uniform_varying.specs.declared.fault.ControlFault.{ControlFault}
use Rattle.uniform_varying.specs.declared.fault.Stop.{Stop}
use Rattle.uniform_varying.specs.declared.fault.Stop.TheVariants.{At, NoMemory}
use Rattle.uniform_varying.specs.declared.spot.Spot.{Spot}

abbrev pub fault_of : ControlFault → ControlCode × ℕ
fault_of f = (f.code, f.line)

abbrev pub spot_of : Spot → S.Spot
spot_of c = record { uniform = c.uniform; looped = c.looped; inside = c.inside }

-- the answer of settling: what was found, or nothing where memory ran out
abbrev pub Gives : Result Bool Stop → S.Settles → Type 0
Gives (Ok lit) found = found ≡ Ok lit
Gives (Err (At f)) found = found ≡ Err (f.code, f.line)
Gives (Err NoMemory) found = Unit {0}

abbrev pub Refuses : Bool → ControlCode → ℕ → Result (Unit {0}) Stop → Type 0
Refuses wrong code line (Ok u) = wrong ≡ false
Refuses wrong code line (Err (At f)) = (wrong ≡ true) × ((f.code ≡ code) × (f.line ≡ line))
Refuses wrong code line (Err NoMemory) = ⊥
