-- The new roles are those of the span behind the old ones.
use Rattle.std.proofs.Common.{◌≡◌, ◌+◌, ◌-◌, ◌≤◌, ◌++◌, ◌∷◌, [], ◌∙◌, ap, length, arith, append_assoc}
use Rattle.std.proofs.lemmas.List.{take_all}
use Rattle.std.specs.Prelude.{replicate, vec_len}
use Rattle.outside.specs.Roles.{roles_of_span}
use Rattle.outside.specs.declared.roles.Role.TheVariants.{Name, Picture, End}
use Rattle.outside.proofs.Coding.{spans_in-push, whole-push}
use Rattle.outside.proofs.roles.push_span.Goals as goal

told : (c : goal.After-push_reserved) → c.push_reserved.new.self.items ≡ c.args.roles.now.items ++ roles_of_span c.args.span
told c =
    let old = c.args.roles.now.items in
    let span = c.args.span in
    let first = old ++ replicate span.name Name in
    let fits : length old ≤ c.len.result + span.name = omega (arith, c.len.ensures) in
    let added : c.len.result + span.name - vec_len c.args.roles.now ≡ span.name = omega (arith, c.len.ensures) in
    let named : c.resize.new.self.items ≡ first =
    c.in-Ok.ensures.items ∙ ap (λ rs. rs ++ replicate (c.len.result + span.name - vec_len c.args.roles.now) Name) (take_all (c.len.result + span.name) old fits) ∙ ap (λ k. old ++ replicate k Name) added in
    let fits-2 : length c.resize.new.self.items ≤ c.len.result + span.name + span.bytes = omega (arith, c.in-Ok.ensures.len) in
    let added-2 : c.len.result + span.name + span.bytes - vec_len c.resize.new.self ≡ span.bytes = omega (arith, c.in-Ok.ensures.len) in
    let both : c.resize-2.new.self.items ≡ first ++ replicate span.bytes Picture =
    c.in-Ok-resize.ensures.items ∙ ap (λ rs. rs ++ replicate (c.len.result + span.name + span.bytes - vec_len c.resize.new.self) Picture) (take_all (c.len.result + span.name + span.bytes) c.resize.new.self.items fits-2 ∙ named)
    ∙ ap (λ k. first ++ replicate k Picture) added-2 in
    c.push_reserved.ensures.items ∙ ap (λ rs. rs ++ End ∷ []) both
    ∙ append_assoc (old ++ replicate span.name Name) (replicate span.bytes Picture) (End ∷ []) ∙ append_assoc old (replicate span.name Name) (replicate span.bytes Picture ++ End ∷ [])

pub returns-clause-spans : goal.returns-clause-spans
returns-clause-spans c = spans_in-push c.args.roles.now.items c.push_reserved.new.self.items c.args.span c.requires.whole (told c)

pub returns-clause-whole : goal.returns-clause-whole
returns-clause-whole c = whole-push c.args.roles.now.items c.push_reserved.new.self.items c.args.span c.requires.whole (told c)
