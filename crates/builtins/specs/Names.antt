-- The predefined variables in order.
use Rattle.std.specs.Prelude.{ℕ}
use Rattle.sl_ast.specs.declared.kinds.Predefined.{Predefined}
use Rattle.sl_ast.specs.declared.kinds.Predefined.TheVariants as names

-- the place of a name among them all
abbrev pub place_of : Predefined → ℕ
place_of names.P = 0
place_of names.N = 1
place_of names.Ng = 2
place_of names.I = 3
place_of names.E = 4
place_of names.U = 5
place_of names.V = 6
place_of names.Du = 7
place_of names.Dv = 8
place_of names.S = 9
place_of names.T = 10
place_of names.Cs = 11
place_of names.Os = 12
place_of names.DPdu = 13
place_of names.DPdv = 14
place_of names.L = 15
place_of names.Cl = 16
place_of names.Ci = 17
place_of names.Oi = 18
place_of names.Ps = 19
place_of names.Pi = 20
