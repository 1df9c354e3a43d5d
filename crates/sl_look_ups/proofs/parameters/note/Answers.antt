use Rattle.std.proofs.Common.{◌∙◌, sym, ap}
use Rattle.sl_ast.specs.Typed.{variable}
use Rattle.sl_ast.specs.TypedView.{tree_expr}
use Rattle.sl_look_ups.specs.Naming.{is_parameter, noted}
use Rattle.sl_look_ups.proofs.Naming.{noted_none, noted_level}
use Rattle.sl_look_ups.proofs.parameters.note.Goals as goal

pub returns-in-Level : goal.returns-in-Level
returns-in-Level c =
    let bs = c.args.named.now in
    let kind = c.in-Variable.kind in
    let place = c.in-Variable.place in
    c.note_at.ensures
    ∙ sym (ap (λ e. noted (tree_expr e) 0 bs) c.in-Variable.is ∙ ap (λ v. noted (variable v kind place) 0 bs) c.in-Level.is ∙ noted_level kind place c.in-Level.level bs)

pub returns-in-Predefined : goal.returns-in-Predefined
returns-in-Predefined c =
    let kind = c.in-Variable.kind in
    let place = c.in-Variable.place in
    sym (noted_none (tree_expr c.args.name.now) 0 c.args.named.now
    (λ i. ap (λ e. is_parameter i (tree_expr e)) c.in-Variable.is ∙ ap (λ v. is_parameter i (variable v kind place)) c.in-Predefined.is))

pub returns-in-Number : goal.returns-in-Number
returns-in-Number c = sym (noted_none (tree_expr c.args.name.now) 0 c.args.named.now (λ i. ap (λ e. is_parameter i (tree_expr e)) c.in-Number.is))

pub returns-in-Word : goal.returns-in-Word
returns-in-Word c = sym (noted_none (tree_expr c.args.name.now) 0 c.args.named.now (λ i. ap (λ e. is_parameter i (tree_expr e)) c.in-Word.is))

pub returns-in-Apply : goal.returns-in-Apply
returns-in-Apply c = sym (noted_none (tree_expr c.args.name.now) 0 c.args.named.now (λ i. ap (λ e. is_parameter i (tree_expr e)) c.in-Apply.is))

pub returns-in-Call : goal.returns-in-Call
returns-in-Call c = sym (noted_none (tree_expr c.args.name.now) 0 c.args.named.now (λ i. ap (λ e. is_parameter i (tree_expr e)) c.in-Call.is))
