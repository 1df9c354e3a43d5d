-- What each kind of shader reads and writes, and its register rows, follow from the table of its variables.
use Rattle.std.proofs.Common.{◌≡◌, Bool, ◌||◌, not, length, refl}
use Rattle.std.specs.Prelude.{filter}
use Rattle.sl_ast.specs.declared.kinds.SlKind.{SlKind}
use Rattle.sl_ast.specs.declared.kinds.SlKind.TheVariants.{Surface, Displacement, Light, Volume}
use Rattle.sl_ast.specs.declared.kinds.Predefined.{Predefined}
use Rattle.sl_ast.specs.declared.kinds.Predefined.TheVariants as names
use Rattle.sl_ast.specs.Classes.{is_uniform_name}
use Rattle.sl_ast.specs.Names.{reads, writes, is_pi}
use Rattle.sl_ast.specs.Registers.{predefined_rows}
use Rattle.sl_ast.specs.Variables.{variables, row_named, is_read, is_written}

abbrev pub Follows : SlKind → Bool → Predefined → Type 0
Follows kind lit name =
    (reads kind lit name ≡ (is_pi name || is_read lit (row_named name (variables kind)))) × (writes kind name ≡ is_written (row_named name (variables kind)))

pub follows : (kind : SlKind) (lit : Bool) (name : Predefined) → Follows kind lit name
follows Surface lit names.P = (refl, refl)
follows Surface lit names.N = (refl, refl)
follows Surface lit names.Ng = (refl, refl)
follows Surface lit names.I = (refl, refl)
follows Surface lit names.E = (refl, refl)
follows Surface lit names.U = (refl, refl)
follows Surface lit names.V = (refl, refl)
follows Surface lit names.Du = (refl, refl)
follows Surface lit names.Dv = (refl, refl)
follows Surface lit names.S = (refl, refl)
follows Surface lit names.T = (refl, refl)
follows Surface lit names.Cs = (refl, refl)
follows Surface lit names.Os = (refl, refl)
follows Surface lit names.DPdu = (refl, refl)
follows Surface lit names.DPdv = (refl, refl)
follows Surface lit names.L = (refl, refl)
follows Surface lit names.Cl = (refl, refl)
follows Surface lit names.Ci = (refl, refl)
follows Surface lit names.Oi = (refl, refl)
follows Surface lit names.Ps = (refl, refl)
follows Surface lit names.Pi = (refl, refl)
follows Displacement lit names.P = (refl, refl)
follows Displacement lit names.N = (refl, refl)
follows Displacement lit names.Ng = (refl, refl)
follows Displacement lit names.I = (refl, refl)
follows Displacement lit names.E = (refl, refl)
follows Displacement lit names.U = (refl, refl)
follows Displacement lit names.V = (refl, refl)
follows Displacement lit names.Du = (refl, refl)
follows Displacement lit names.Dv = (refl, refl)
follows Displacement lit names.S = (refl, refl)
follows Displacement lit names.T = (refl, refl)
follows Displacement lit names.Cs = (refl, refl)
follows Displacement lit names.Os = (refl, refl)
follows Displacement lit names.DPdu = (refl, refl)
follows Displacement lit names.DPdv = (refl, refl)
follows Displacement lit names.L = (refl, refl)
follows Displacement lit names.Cl = (refl, refl)
follows Displacement lit names.Ci = (refl, refl)
follows Displacement lit names.Oi = (refl, refl)
follows Displacement lit names.Ps = (refl, refl)
follows Displacement lit names.Pi = (refl, refl)
follows Light lit names.P = (refl, refl)
follows Light lit names.N = (refl, refl)
follows Light lit names.Ng = (refl, refl)
follows Light lit names.I = (refl, refl)
follows Light lit names.E = (refl, refl)
follows Light lit names.U = (refl, refl)
follows Light lit names.V = (refl, refl)
follows Light lit names.Du = (refl, refl)
follows Light lit names.Dv = (refl, refl)
follows Light lit names.S = (refl, refl)
follows Light lit names.T = (refl, refl)
follows Light lit names.Cs = (refl, refl)
follows Light lit names.Os = (refl, refl)
follows Light lit names.DPdu = (refl, refl)
follows Light lit names.DPdv = (refl, refl)
follows Light lit names.L = (refl, refl)
follows Light lit names.Cl = (refl, refl)
follows Light lit names.Ci = (refl, refl)
follows Light lit names.Oi = (refl, refl)
follows Light lit names.Ps = (refl, refl)
follows Light lit names.Pi = (refl, refl)
follows Volume lit names.P = (refl, refl)
follows Volume lit names.N = (refl, refl)
follows Volume lit names.Ng = (refl, refl)
follows Volume lit names.I = (refl, refl)
follows Volume lit names.E = (refl, refl)
follows Volume lit names.U = (refl, refl)
follows Volume lit names.V = (refl, refl)
follows Volume lit names.Du = (refl, refl)
follows Volume lit names.Dv = (refl, refl)
follows Volume lit names.S = (refl, refl)
follows Volume lit names.T = (refl, refl)
follows Volume lit names.Cs = (refl, refl)
follows Volume lit names.Os = (refl, refl)
follows Volume lit names.DPdu = (refl, refl)
follows Volume lit names.DPdv = (refl, refl)
follows Volume lit names.L = (refl, refl)
follows Volume lit names.Cl = (refl, refl)
follows Volume lit names.Ci = (refl, refl)
follows Volume lit names.Oi = (refl, refl)
follows Volume lit names.Ps = (refl, refl)
follows Volume lit names.Pi = (refl, refl)

pub rows_follow : (kind : SlKind) → predefined_rows kind ≡ length (filter (λ r. not (is_uniform_name r.name)) (variables kind))
rows_follow Surface = refl
rows_follow Displacement = refl
rows_follow Light = refl
rows_follow Volume = refl
