-- The codes of refused scenes: their texts, as they stand in notes, and their statuses.
use Rattle.std.specs.Prelude.{ℕ, List, codes}
use Rattle.rib_lex.specs.declared.token.LexCode.{LexCode}
use Rattle.rib_lex.specs.declared.token.LexCode.TheVariants as lex
use Rattle.rib_reader.specs.declared.faults.RibCode.{RibCode}
use Rattle.rib_reader.specs.declared.faults.RibCode.TheVariants as rib
use Rattle.scene_parts.specs.declared.code.StateCode.{StateCode}
use Rattle.scene_parts.specs.declared.code.StateCode.TheVariants as state
use Rattle.sl_expression_grammar.specs.declared.fault.SlCode.{SlCode}
use Rattle.sl_expression_grammar.specs.declared.fault.SlCode.TheVariants as grammar
use Rattle.sl_expressions.specs.declared.faults.TypeCode.{TypeCode}
use Rattle.sl_expressions.specs.declared.faults.TypeCode.TheVariants as types
use Rattle.acceptance.specs.declared.code.FaultCode.{FaultCode}
use Rattle.acceptance.specs.declared.code.FaultCode.TheVariants.{L1, L2, L3, L4, S1, S2, S3, S4, S5, N1, N2, N3, N4, N5, N6, N7, P1, P2, P3, T1, T2, T3, T4, T5, T6, T7, T8, T9, T10, T11, B1, B2, B3, G1, G2, G3, G4, G5, M1, M2, M3, M4, M5, M6, M7, M8, M9, M10, M11, M12, X1}

-- the text of a code in notes
abbrev pub code_text : FaultCode → List ℕ
code_text L1 = codes "L1"
code_text L2 = codes "L2"
code_text L3 = codes "L3"
code_text L4 = codes "L4"
code_text S1 = codes "S1"
code_text S2 = codes "S2"
code_text S3 = codes "S3"
code_text S4 = codes "S4"
code_text S5 = codes "S5"
code_text N1 = codes "N1"
code_text N2 = codes "N2"
code_text N3 = codes "N3"
code_text N4 = codes "N4"
code_text N5 = codes "N5"
code_text N6 = codes "N6"
code_text N7 = codes "N7"
code_text P1 = codes "P1"
code_text P2 = codes "P2"
code_text P3 = codes "P3"
code_text T1 = codes "T1"
code_text T2 = codes "T2"
code_text T3 = codes "T3"
code_text T4 = codes "T4"
code_text T5 = codes "T5"
code_text T6 = codes "T6"
code_text T7 = codes "T7"
code_text T8 = codes "T8"
code_text T9 = codes "T9"
code_text T10 = codes "T10"
code_text T11 = codes "T11"
code_text B1 = codes "B1"
code_text B2 = codes "B2"
code_text B3 = codes "B3"
code_text G1 = codes "G1"
code_text G2 = codes "G2"
code_text G3 = codes "G3"
code_text G4 = codes "G4"
code_text G5 = codes "G5"
code_text M1 = codes "M1"
code_text M2 = codes "M2"
code_text M3 = codes "M3"
code_text M4 = codes "M4"
code_text M5 = codes "M5"
code_text M6 = codes "M6"
code_text M7 = codes "M7"
code_text M8 = codes "M8"
code_text M9 = codes "M9"
code_text M10 = codes "M10"
code_text M11 = codes "M11"
code_text M12 = codes "M12"
code_text X1 = codes "X1"

-- 3 for syntax, nesting and what isn't built yet, 4 for types and bindings, and 5 for geometry and limits
abbrev pub status_of_code : FaultCode → ℕ
status_of_code L1 = 3
status_of_code L2 = 3
status_of_code L3 = 3
status_of_code L4 = 3
status_of_code S1 = 3
status_of_code S2 = 3
status_of_code S3 = 3
status_of_code S4 = 3
status_of_code S5 = 3
status_of_code N1 = 3
status_of_code N2 = 3
status_of_code N3 = 3
status_of_code N4 = 3
status_of_code N5 = 3
status_of_code N6 = 3
status_of_code N7 = 3
status_of_code P1 = 3
status_of_code P2 = 3
status_of_code P3 = 3
status_of_code T1 = 4
status_of_code T2 = 4
status_of_code T3 = 4
status_of_code T4 = 4
status_of_code T5 = 4
status_of_code T6 = 4
status_of_code T7 = 4
status_of_code T8 = 4
status_of_code T9 = 4
status_of_code T10 = 4
status_of_code T11 = 4
status_of_code B1 = 4
status_of_code B2 = 4
status_of_code B3 = 4
status_of_code G1 = 5
status_of_code G2 = 5
status_of_code G3 = 5
status_of_code G4 = 5
status_of_code G5 = 5
status_of_code M1 = 5
status_of_code M2 = 5
status_of_code M3 = 5
status_of_code M4 = 5
status_of_code M5 = 5
status_of_code M6 = 5
status_of_code M7 = 5
status_of_code M8 = 5
status_of_code M9 = 5
status_of_code M10 = 5
status_of_code M11 = 5
status_of_code M12 = 5
status_of_code X1 = 3

-- a code of the scene's tokens
abbrev pub of_lex : LexCode → FaultCode
of_lex lex.L1 = L1
of_lex lex.L2 = L2
of_lex lex.L3 = L3
of_lex lex.L4 = L4

-- a code of a request
abbrev pub of_request : RibCode → FaultCode
of_request rib.S1 = S1
of_request rib.S2 = S2
of_request rib.S3 = S3
of_request rib.S4 = S4
of_request rib.S5 = S5

-- a code of the graphics state
abbrev pub of_state : StateCode → FaultCode
of_state state.N1 = N1
of_state state.N2 = N2
of_state state.N3 = N3
of_state state.N4 = N4
of_state state.N5 = N5
of_state state.N6 = N6
of_state state.N7 = N7
of_state state.G1 = G1
of_state state.G2 = G2
of_state state.G3 = G3
of_state state.G4 = G4
of_state state.G5 = G5
of_state state.M1 = M1
of_state state.M2 = M2
of_state state.M3 = M3
of_state state.M4 = M4
of_state state.M5 = M5
of_state state.M6 = M6
of_state state.M7 = M7

-- a code of a shader's grammar
abbrev pub of_syntax : SlCode → FaultCode
of_syntax grammar.P1 = P1
of_syntax grammar.P2 = P2
of_syntax grammar.P3 = P3

-- a code of a shader's types, size and classes
abbrev pub of_type : TypeCode → FaultCode
of_type types.T1 = T1
of_type types.T2 = T2
of_type types.T3 = T3
of_type types.T4 = T4
of_type types.T5 = T5
of_type types.T6 = T6
of_type types.T7 = T7
of_type types.T8 = T8
of_type types.T9 = T9
of_type types.T10 = T10
of_type types.T11 = T11
of_type types.M8 = M8
