-- Lists of lights that grow.
use Rattle.std.proofs.Common.{◌≡◌, ℕ, ◌+◌, List, [], ◌∷◌, ◌++◌, sym, arith}
use Rattle.std.proofs.lemmas.List.FromFn.{map-range_with_len_more}
use Rattle.transforms.specs.declared.spaces.Spaces.{Spaces}
use Rattle.sl_ast.specs.declared.typed.Value.{Value}
use Rattle.builtins.specs.Differences.{Lines}
use Rattle.grid_code.specs.declared.shader_code.Code.{Code}
use Rattle.grid_machine.specs.Asked.{asked, asked_all}

-- one light more
pub asked_more : (lines : Lines) (c n : ℕ) (spaces : ℕ → Spaces) (codes : ℕ → Code) (values : ℕ → List Value) → asked_all lines c n spaces codes values ++ asked lines c (spaces n) (codes n) (values n) ∷ [] ≡ asked_all lines c (n + 1) spaces codes values
asked_more lines c n spaces codes values = sym (map-range_with_len_more (λ k. asked lines c (spaces k) (codes k) (values k)) 0 n n (omega arith))
