use Rattle.std.proofs.Common.{◌≡◌, ◌∙◌, ◌+◌, ◌≤◌, ap, sym, subst, true, false, List, length, take, drop, ◌∷◌, ◌++◌}
use Rattle.std.specs.Prelude.{All}
use Rattle.std.proofs.lemmas.List.Elements.{All-same, All-take}
use Rattle.hider.specs.Composite.{is_opaque}
use Rattle.hider.specs.Kept.{keep}
use Rattle.pixel_account.specs.declared.traces.Trace.{Trace}
use Rattle.pixel_account.specs.Traces.{fragments_in, IsTrace, KeepsAt}
use Rattle.pixel_account.proofs.Placing.{inserted_clear, inserted_opaque, kept_whole, all_inserted}
use Rattle.pixel_account.proofs.traces.Traces.put.Goals as goal

pub invariant_of-self-then-opaque : goal.invariant_of-self-then-opaque
invariant_of-self-then-opaque c =
    let l = c.self.inside.list.items in
    let t = c.args.trace in
    let p = c.in-Some.place in
    let at' : KeepsAt t.fragment (fragments_in l) p = subst (λ ts. KeepsAt t.fragment (fragments_in ts) p) c.as_slice.ensures.value (c.in-Some.ensures.place t.fragment (sym c.depth_of.ensures)) in
    let inside : p ≤ length l = subst (λ (ts : List Trace). p ≤ length ts) c.as_slice.ensures.value c.in-Some.ensures.inside in
    let opaque : is_opaque t.fragment ≡ true = sym c.is_opaque-opaque.ensures ∙ c.if-opaque.true in
    let items : c.truncate.new.self.items ≡ take (p + 1) (take p l ++ t ∷ drop p l) = c.truncate.ensures.items ∙ ap (take (p + 1)) c.in_ok-insert.ensures.items in
    kept_whole l c.truncate.new.self.items t.fragment (ap fragments_in items ∙ inserted_opaque l t p inside at' opaque)

pub invariant_of-self-else-opaque : goal.invariant_of-self-else-opaque
invariant_of-self-else-opaque c =
    let l = c.self.inside.list.items in
    let t = c.args.trace in
    let p = c.in-Some.place in
    let at' : KeepsAt t.fragment (fragments_in l) p = subst (λ ts. KeepsAt t.fragment (fragments_in ts) p) c.as_slice.ensures.value (c.in-Some.ensures.place t.fragment (sym c.depth_of.ensures)) in
    let clear : is_opaque t.fragment ≡ false = sym c.is_opaque-opaque.ensures ∙ c.if-opaque.false in
    kept_whole l c.insert.new.self.items t.fragment (ap fragments_in c.in_ok-insert.ensures.items ∙ inserted_clear l t p at' clear)

pub returns-then-opaque-clause-kept : goal.returns-then-opaque-clause-kept
returns-then-opaque-clause-kept c =
    let l = c.self.inside.list.items in
    let t = c.args.trace in
    let p = c.in-Some.place in
    let at' : KeepsAt t.fragment (fragments_in l) p = subst (λ ts. KeepsAt t.fragment (fragments_in ts) p) c.as_slice.ensures.value (c.in-Some.ensures.place t.fragment (sym c.depth_of.ensures)) in
    let inside : p ≤ length l = subst (λ (ts : List Trace). p ≤ length ts) c.as_slice.ensures.value c.in-Some.ensures.inside in
    let opaque : is_opaque t.fragment ≡ true = sym c.is_opaque-opaque.ensures ∙ c.if-opaque.true in
    let items : c.truncate.new.self.items ≡ take (p + 1) (take p l ++ t ∷ drop p l) = c.truncate.ensures.items ∙ ap (take (p + 1)) c.in_ok-insert.ensures.items in
    ap fragments_in items ∙ inserted_opaque l t p inside at' opaque ∙ ap (λ ts. keep t.fragment (fragments_in ts)) c.self.view_is

pub returns-then-opaque-clause-each : goal.returns-then-opaque-clause-each
returns-then-opaque-clause-each c = λ a f s is all.
    let l = c.self.inside.list.items in
    let t = c.args.trace in
    let p = c.in-Some.place in
    let items : c.truncate.new.self.items ≡ take (p + 1) (take p l ++ t ∷ drop p l) = c.truncate.ensures.items ∙ ap (take (p + 1)) c.in_ok-insert.ensures.items in
    All-same (IsTrace a f s) c.truncate.new.self.items (take (p + 1) (take p l ++ t ∷ drop p l)) items
    (All-take (IsTrace a f s) (p + 1) (take p l ++ t ∷ drop p l) (all_inserted (IsTrace a f s) l t p is (subst (All (IsTrace a f s)) (sym c.self.view_is) all)))

pub returns-else-opaque-clause-kept : goal.returns-else-opaque-clause-kept
returns-else-opaque-clause-kept c =
    let l = c.self.inside.list.items in
    let t = c.args.trace in
    let p = c.in-Some.place in
    let at' : KeepsAt t.fragment (fragments_in l) p = subst (λ ts. KeepsAt t.fragment (fragments_in ts) p) c.as_slice.ensures.value (c.in-Some.ensures.place t.fragment (sym c.depth_of.ensures)) in
    let clear : is_opaque t.fragment ≡ false = sym c.is_opaque-opaque.ensures ∙ c.if-opaque.false in
    ap fragments_in c.in_ok-insert.ensures.items ∙ inserted_clear l t p at' clear ∙ ap (λ ts. keep t.fragment (fragments_in ts)) c.self.view_is

pub returns-else-opaque-clause-each : goal.returns-else-opaque-clause-each
returns-else-opaque-clause-each c = λ a f s is all.
    let l = c.self.inside.list.items in
    let t = c.args.trace in
    let p = c.in-Some.place in
    All-same (IsTrace a f s) c.insert.new.self.items (take p l ++ t ∷ drop p l) c.in_ok-insert.ensures.items
    (all_inserted (IsTrace a f s) l t p is (subst (All (IsTrace a f s)) (sym c.self.view_is) all))
