-- The predefined variables by name (RenderMan Interface 3.2, sections 11 to 13), and what may be done with them at a place.
use Rattle.std.specs.Prelude.{ℕ, Bool, true, not, ◌&&◌, ◌||◌, List, [], ◌∷◌, codes}
use Rattle.sl_ast.specs.declared.kinds.Predefined.{Predefined}
use Rattle.sl_ast.specs.declared.kinds.Predefined.TheVariants as names
use Rattle.sl_ast.specs.Names.{reads, writes, is_pi}
use Rattle.sl_ast.specs.WellTyped.{Around}

-- the predefined variables by name
abbrev pub predefined_names : List (List ℕ × Predefined)
predefined_names =
    (codes "P", names.P)
    ∷ (codes "N", names.N)
    ∷ (codes "Ng", names.Ng)
    ∷ (codes "I", names.I)
    ∷ (codes "E", names.E)
    ∷ (codes "u", names.U)
    ∷ (codes "v", names.V)
    ∷ (codes "du", names.Du)
    ∷ (codes "dv", names.Dv)
    ∷ (codes "s", names.S)
    ∷ (codes "t", names.T)
    ∷ (codes "Cs", names.Cs)
    ∷ (codes "Os", names.Os)
    ∷ (codes "dPdu", names.DPdu)
    ∷ (codes "dPdv", names.DPdv)
    ∷ (codes "L", names.L)
    ∷ (codes "Cl", names.Cl)
    ∷ (codes "Ci", names.Ci)
    ∷ (codes "Oi", names.Oi)
    ∷ (codes "Ps", names.Ps)
    ∷ (codes "PI", names.Pi)
    ∷ []

-- whether a variable is read at a place; and whether it is one of this kind of shader, wherever it is read
abbrev pub is_read : Around → Predefined → Bool
is_read g x = is_pi x || (not g.bare && reads g.kind g.lit x)

-- a place may read a predefined variable of its kind of shader
abbrev pub is_own : Around → Predefined → Bool
is_own g x = is_pi x || (not g.bare && reads g.kind true x)

-- a place may set it
abbrev pub is_written : Around → Predefined → Bool
is_written g x = not g.bare && writes g.kind x
