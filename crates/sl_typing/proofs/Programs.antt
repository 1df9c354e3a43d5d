-- A file from its functions, and its parameters and body over these.
use Rattle.std.proofs.Common.{◌≡◌, List, [], length, Ok, Err, refl, ap, ◌∙◌}
use Rattle.sl_ast.specs.Syntax as U
use Rattle.sl_expressions.specs.Found.{Found, ◌>>=◌}
use Rattle.sl_expressions.specs.Scope.{Callee}
use Rattle.sl_expressions.specs.Typed as T
use Rattle.sl_expressions.specs.Views.{Gives}
use Rattle.sl_expressions.specs.declared.faults.TypeFault.{TypeFault}
use Rattle.sl_expressions.specs.declared.faults.TypeFault.TheVariants.{At, NoMemory}
use Rattle.sl_typing.specs.Assigned.{assigned_in}
use Rattle.sl_typing.specs.Functions.{Param, Program, known_from, by_default, in_body, locals_of, typed_groups, params_and_body, program}
use Rattle.sl_typing.specs.Stmts.{Rows, typed_rows}
use Rattle.sl_typing.specs.Views.{program_of}

abbrev over : List Callee → List Param × List T.Stmt → Program
over known parts = record { known = known; params = parts.0; body = parts.1 }

body_found : (known : List Callee) (params : List Param) (rows : Rows)
    → rows >>= (λ r. Ok (over known (params, r.0))) ≡ (rows >>= (λ r. Ok (params, r.0))) >>= λ parts. Ok (over known parts)
body_found known params (Ok r) = refl
body_found known params (Err e) = refl

parts_found : (known : List Callee) (params : Found (List Param)) (rows : List Param → Rows)
    → params >>= (λ ps. rows ps >>= λ r. Ok (over known (ps, r.0))) ≡ (params >>= λ ps. rows ps >>= λ r. Ok (ps, r.0)) >>= λ parts. Ok (over known parts)
parts_found known (Ok params) rows = body_found known params (rows params)
parts_found known (Err e) rows = refl

program_parts : (s : U.Shader) (known : List Callee) → known_from s.kind [] s.functions ≡ Ok known → program s ≡ params_and_body s known >>= λ parts. Ok (over known parts)
program_parts s known is =
    let rows : List Callee → List Param → Rows = λ ks ps. typed_rows (in_body s.kind ks) (length ps) (locals_of ps) s.body in
    ap (λ f. f >>= λ ks. typed_groups (by_default s.kind ks) (assigned_in s.body) [] s.params >>= λ ps. rows ks ps >>= λ r. Ok (over ks (ps, r.0))) is
    ∙ parts_found known (typed_groups (by_default s.kind known) (assigned_in s.body) [] s.params) (rows known)

pub program_found : (s : U.Shader) (known : List Callee) (parts : List Param × List T.Stmt) → known_from s.kind [] s.functions ≡ Ok known → params_and_body s known ≡ Ok parts
    → program s ≡ Ok (over known parts)
program_found s known parts is found = program_parts s known is ∙ ap (λ f. f >>= λ r. Ok (over known r)) found

-- a fault of the parameters and the body is that of the file
pub program_fault : (fault : TypeFault) (s : U.Shader) (known : List Callee) → known_from s.kind [] s.functions ≡ Ok known
    → Gives {A = Unit {0}} (λ u. ([], [])) (Err fault) (params_and_body s known) → Gives program_of (Err fault) (program s)
program_fault (At code line) s known is h = program_parts s known is ∙ ap (λ f. f >>= λ r. Ok (over known r)) h
program_fault NoMemory s known is h = tt
