-- The tree from its parts.
use Rattle.std.proofs.Common.{◌≡◌, ℕ, ◌+◌, List, map, ap, ◌∙◌}
use Rattle.sl_ast.specs.Syntax as U
use Rattle.sl_ast.specs.Typed as A
use Rattle.sl_ast.specs.declared.kinds.SlKind.{SlKind}
use Rattle.sl_ast.specs.declared.typed.Place.{Place}
use Rattle.sl_expressions.specs.Typed.{stmts}
use Rattle.sl_typing.specs.Functions.{Program}
use Rattle.sl_types.specs.Inline.{at, count_params, declared_of, defaults_at, inline_stmts, tree_of}
use Rattle.sl_types.proofs.Whole.{by_default, in_body}

abbrev pub tree_from : SlKind → List A.Local → List A.Default → A.Stmts → Place → A.Tree
tree_from kind params defaults body place = record { kind = kind; params = params; defaults = defaults; body = body; place = place }

pub assembled : (s : U.Shader) (p : Program) (params : List A.Local) (defaults : List A.Default) (body : A.Stmts) (place : Place) (i j : ℕ)
    → place ≡ at s.line 0 → i ≡ 1 → params ≡ map declared_of p.params → defaults ≡ defaults_at (by_default p) i p.params
    → j ≡ i + count_params (by_default p) p.params → body ≡ inline_stmts (in_body p) j (stmts p.body)
    → tree_from s.kind params defaults body place ≡ tree_of s p
assembled s p params defaults body place i j is_place is_one is_params is_defaults is_next is_body =
    let ds = defaults_at (by_default p) 1 p.params in
    let b = inline_stmts (in_body p) (1 + count_params (by_default p) p.params) (stmts p.body) in
    let same_defaults : defaults ≡ ds = is_defaults ∙ ap (λ k. defaults_at (by_default p) k p.params) is_one in
    let same_body : body ≡ b = is_body ∙ ap (λ k. inline_stmts (in_body p) k (stmts p.body)) (is_next ∙ ap (λ k. k + count_params (by_default p) p.params) is_one) in
    ap (λ x. tree_from s.kind x defaults body place) is_params
    ∙ ap (λ x. tree_from s.kind (map declared_of p.params) x body place) same_defaults
    ∙ ap (λ x. tree_from s.kind (map declared_of p.params) ds x place) same_body
    ∙ ap (λ x. tree_from s.kind (map declared_of p.params) ds b x) is_place
