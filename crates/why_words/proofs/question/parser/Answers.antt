use Rattle.std.proofs.Common.{ap₂, codes, ◌≡◌, ◌∙◌}
use Rattle.std.proofs.lemmas.Result.{IfOk-weaker}
use Rattle.clap.specs.Simple.{app_of, new_app, with_rule}
use Rattle.why_words.specs.Question.{name_rule, column_rule}
use Rattle.why_words.proofs.question.parser.Goals as goal

pub returns : goal.returns
returns c =
    let first : app_of c.in_ok-arg.field-0 ≡ with_rule (new_app (codes "why")) name_rule =
    c.in_ok-arg.ensures.shape c.name_arg.ensures.local ∙ ap₂ with_rule c.new.ensures.app c.name_arg.ensures.rule in
    let second : app_of c.in_ok-arg-2.field-0 ≡ with_rule (with_rule (new_app (codes "why")) name_rule) column_rule =
    c.in_ok-arg-2.ensures.shape c.column_arg.ensures.local ∙ ap₂ with_rule first c.column_arg.ensures.rule in
    let third = c.in_ok-arg-3.ensures.shape c.row_arg.ensures.local ∙ ap₂ with_rule second c.row_arg.ensures.rule in
    let fourth = c.in_ok-arg-4.ensures.shape c.frame_arg.ensures.local ∙ ap₂ with_rule third c.frame_arg.ensures.rule in
    IfOk-weaker c.arg-5.result _ _ (λ r h. h.shape c.points_arg.ensures.local ∙ ap₂ with_rule fourth c.points_arg.ensures.rule) c.arg-5.ensures
