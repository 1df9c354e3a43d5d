use Rattle.std.proofs.Common.{◌+◌, [], ◌∷◌, ◌++◌, drop, map, arith, ap, ap₂, sym, ◌∙◌}
use Rattle.std.proofs.lemmas.List.{at_drop_more, map-append}
use Rattle.sl_types.specs.Extents.{counting}
use Rattle.sl_types.specs.Sizes.{cut, extents_from, extent_of}
use Rattle.sl_types.specs.Folds.{fold_body}
use Rattle.sl_expressions.specs.Scope.{body_in}
use Rattle.sl_expressions.specs.Views.{callee_of}
use Rattle.sl_types.proofs.sizes.sizes_from.Goals as goal

pub loop-one-preserved : goal.loop-one-preserved
loop-one-preserved c =
    let h = c.loop-one.invariant in
    let d = c.args.by_default in
    let i = c.loop-one.one-index in
    let x = fold_body counting h.0 (body_in d (callee_of c.one-item.result)) in
    let size = c.size_known-size.ensures h.0 (ap (map extent_of) c.as_slice.ensures.value ∙ h.1) in
    let split = at_drop_more (λ known. extents_from d h.0 (map callee_of known)) c.args.known.now i c.one-item.result (omega arith)
    ∙ ap (λ one. extents_from d h.0 (map callee_of (one ∷ drop (i + 1) c.args.known.now))) (sym c.one-item.is) in (
      h.0 ++ x ∷ [],
      ap (map extent_of) c.in_ok-push.ensures.items ∙ map-append extent_of c.loop-one.sizes.items (c.size_known-size.result ∷ [])
          ∙ ap₂ (λ xs y. xs ++ y ∷ []) h.1 size ∙ sym (map-append cut h.0 (x ∷ [])),
      sym split ∙ h.2,
    )
