-- One default more is made.
use Rattle.std.proofs.Common.{◌≡◌, ◌<◌, ℕ, ◌+◌, List, [], ◌∷◌, ◌++◌, map, drop, get_or, length, sym, ap, ap₂, ◌∙◌}
use Rattle.std.proofs.lemmas.List.{at_drop_more, append_assoc, map-append}
use Rattle.sl_ast.specs.TypedView.{tree_expr, default_of}
use Rattle.sl_ast.specs.declared.typed.ParamDefault.{ParamDefault}
use Rattle.sl_expressions.specs.TypedView.{typed_of}
use Rattle.sl_typing.specs.Views.{param_of}
use Rattle.sl_typing.specs.declared.file.Param.{Param}
use Rattle.sl_types.specs.Inline.{Built, at, count, defaults_at, inline}

-- a parameter and those after it
pub params_split : {Y : Type 0} (F : List Param → Y) (ps : List Param) (i : ℕ) (p : Param) → i < length ps → p ≡ get_or ps i p → F (drop i ps) ≡ F (p ∷ drop (i + 1) ps)
params_split F ps i p low is = at_drop_more F ps i p low ∙ sym (ap (λ q. F (q ∷ drop (i + 1) ps)) is)

pub default_step : (fs : List Built) (made more : List ParamDefault) (d : ParamDefault) (ps : List Param) (i : ℕ) (p : Param) (n m k : ℕ) → i < length ps → p ≡ get_or ps i p
    → more ≡ made ++ d ∷ [] → d.place ≡ at p.local.line n → m ≡ n + 1 → tree_expr d.value ≡ inline fs m (typed_of p.value) → k ≡ m + count fs (typed_of p.value)
    → map default_of more ++ defaults_at fs k (map param_of (drop (i + 1) ps)) ≡ map default_of made ++ defaults_at fs n (map param_of (drop i ps))
default_step fs made more d ps i p n m k low is grown place next tree after_it =
    let rest = map param_of (drop (i + 1) ps) in
    let j = n + 1 + count fs (typed_of p.value) in
    let last = defaults_at fs j rest in
    let value = tree ∙ ap (λ x. inline fs x (typed_of p.value)) next in
    ap₂ (λ xs x. map default_of xs ++ defaults_at fs x rest) grown (after_it ∙ ap (λ x. x + count fs (typed_of p.value)) next)
    ∙ ap (λ xs. xs ++ last) (map-append default_of made (d ∷ []))
    ∙ append_assoc (map default_of made) (default_of d ∷ []) last
    ∙ ap₂ (λ v q. map default_of made ++ record { value = v; place = q } ∷ last) value place
    ∙ sym (ap (λ xs. map default_of made ++ xs) (params_split (λ xs. defaults_at fs n (map param_of xs)) ps i p low is))
