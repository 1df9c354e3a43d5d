use Rattle.std.proofs.Common.{ap₂, codes, ◌≡◌, ◌∙◌}
use Rattle.std.proofs.lemmas.Result.{IfOk-weaker}
use Rattle.clap.specs.Simple.{app_of, new_app, with_rule}
use Rattle.command_line.specs.Command.{action_rule, name_rule}
use Rattle.command_line.proofs.command.parser.Goals as goal

pub returns : goal.returns
returns c =
    let first : app_of c.in_ok-arg.field-0 ≡ with_rule (new_app (codes "reyes")) action_rule =
    c.in_ok-arg.ensures.shape c.action_arg.ensures.local ∙ ap₂ with_rule c.new.ensures.app c.action_arg.ensures.rule in
    let second : app_of c.in_ok-arg-2.field-0 ≡ with_rule (with_rule (new_app (codes "reyes")) action_rule) name_rule =
    c.in_ok-arg-2.ensures.shape c.name_arg.ensures.local ∙ ap₂ with_rule first c.name_arg.ensures.rule in
    let third = c.in_ok-arg-3.ensures.shape c.bucket_arg.ensures.local ∙ ap₂ with_rule second c.bucket_arg.ensures.rule in
    let fourth = c.in_ok-arg-4.ensures.shape c.grid_points_arg.ensures.local ∙ ap₂ with_rule third c.grid_points_arg.ensures.rule in
    let fifth = c.in_ok-arg-5.ensures.shape c.stats_arg.ensures.local ∙ ap₂ with_rule fourth c.stats_arg.ensures.rule in
    let sixth = c.in_ok-arg-6.ensures.shape c.part_arg.ensures.local ∙ ap₂ with_rule fifth c.part_arg.ensures.rule in
    IfOk-weaker c.arg-7.result _ _ (λ r h. h.shape c.of_arg.ensures.local ∙ ap₂ with_rule sixth c.of_arg.ensures.rule) c.arg-7.ensures
