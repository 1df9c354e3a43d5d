use Rattle.std.proofs.Common.{rules, arith, ap, sym, subst, ◌∙◌, ◌≡◌, ◌≤◌, ◌<◌, ◌+◌, ◌-◌, ◌++◌, ◌∷◌, [], ℕ, map, length, None, Err, length-append}
use Rattle.std.proofs.lemmas.List.{map-append}
use Rattle.std.proofs.lemmas.Result.{err_from_is_err_and}
use Rattle.sl_ast.specs.SyntaxView.{stmt_of}
use Rattle.sl_lexer.specs.declared.token.Mark.TheVariants.{RightBrace}
use Rattle.sl_expression_grammar.specs.Reading.{with_front, many, rest_after, is_mark}
use Rattle.sl_expression_grammar.specs.Parsing.{Gives}
use Rattle.sl_expression_grammar.proofs.Readers.{with_front-append, handed_on}
use Rattle.sl_parser.specs.Statements.{next_stmt, stmt_at}
use Rattle.sl_parser.specs.Boxes.{boxed_stmt}
use Rattle.sl_parser.proofs.Blocks.{stmt-turn, block-fails, block-done}
use Rattle.sl_parser.proofs.statements.+statements.Goals as goal

pub block-loop-tail-preserved : goal.block-loop-tail-preserved
block-loop-tail-preserved t c =
    let stmt = stmt_at c.args.levels in
    let body = c.loop-tail.body.items in
    let rest = c.loop-tail.rest.now in
    let left = c.in_ok-item.left.now in
    let s = c.in_ok-item.item.value in
    let n : ℕ = length c.args.ts.now + 1 - length body in
    let shorter : length left < length rest = c.in_ok-item.ensures.within in
    let low : 1 ≤ n = omega (arith, c.loop-tail.invariant.room) in
    let none : None ≡ rest_after (is_mark RightBrace) rest = search rules in
    let turn = stmt-turn stmt n rest (stmt_of s) left low none c.in_ok-item.ensures.gives in
    let items : c.push_boxed.new.items.items ≡ body ++ s ∷ [] = c.in_ok-push_boxed.ensures in
    let counts : length c.args.ts.now + 1 - (length body + 1) ≡ n - 1 = omega arith in
    let grown : length c.push_boxed.new.items.items ≡ length body + 1 = ap length items ∙ length-append body (s ∷ []) in
    let more = many (next_stmt stmt) (n - 1) left in
    record {
      same = rw (grown, items) (
          ap (λ k. with_front (map stmt_of (body ++ s ∷ [])) (many (next_stmt stmt) k left)) counts
          ∙ ap (λ xs. with_front xs more) (map-append stmt_of body (s ∷ []))
          ∙ with_front-append (map stmt_of body) (stmt_of s ∷ []) more
          ∙ ap (λ r. with_front (map stmt_of body) r) (sym turn) ∙ c.loop-tail.invariant.same);
      room = rw grown (omega (arith, c.loop-tail.invariant.room));
    }

pub block-returns-in_err-item-clause-gives : goal.block-returns-in_err-item-clause-gives
block-returns-in_err-item-clause-gives t c =
    let stmt = stmt_at c.args.levels in
    let body = c.loop-tail.body.items in
    let rest = c.loop-tail.rest.now in
    let n : ℕ = length c.args.ts.now + 1 - length body in
    let low : 1 ≤ n = omega (arith, c.loop-tail.invariant.room) in
    let none : None ≡ rest_after (is_mark RightBrace) rest = search rules in
    let p = err_from_is_err_and c.from_residual.result c.from_residual.ensures.1 in
    handed_on boxed_stmt c.in_err-item.field-0.0 c.from_residual.result stmt_of (stmt rest) _ (p.1 ∙ ap (λ s. Err s) p.2) c.in_err-item.ensures.gives
    (λ x e. block-fails stmt n c.args.ts.now rest (map stmt_of body) x low none e c.loop-tail.invariant.same)

pub block-returns-in-Some-clause-gives : goal.block-returns-in-Some-clause-gives
block-returns-in-Some-clause-gives t c =
    let body = c.loop-tail.body.items in
    block-done (stmt_at c.args.levels) (length c.args.ts.now + 1 - length body) c.args.ts.now c.loop-tail.rest.now c.in-Some.tail.now (map stmt_of body)
    c.in-Some.ensures.at c.loop-tail.invariant.same

pub choice-returns-clause-gives : goal.choice-returns-clause-gives
choice-returns-clause-gives t c = subst (λ r. Gives boxed_stmt c.make_if_else.result r) (search rules) c.make_if_else.ensures.gives

pub choice-returns-in_default-clause-gives : goal.choice-returns-in_default-clause-gives
choice-returns-in_default-clause-gives t c = subst (λ r. Gives boxed_stmt c.make_if.result r) (search rules) c.make_if.ensures.gives

pub repeated-returns-clause-gives : goal.repeated-returns-clause-gives
repeated-returns-clause-gives t c = subst (λ r. Gives boxed_stmt c.make_while.result r) (search rules) c.make_while.ensures.gives

pub stepped-returns-clause-gives : goal.stepped-returns-clause-gives
stepped-returns-clause-gives t c = subst (λ r. Gives boxed_stmt c.make_for.result r) (search rules) c.make_for.ensures.gives

pub lit-returns-clause-gives : goal.lit-returns-clause-gives
lit-returns-clause-gives t c = subst (λ r. Gives boxed_stmt c.make_lights.result r) (search rules) c.make_lights.ensures.gives

pub solar-returns-clause-gives : goal.solar-returns-clause-gives
solar-returns-clause-gives t c = subst (λ r. Gives boxed_stmt c.make_solar.result r) (search rules) c.make_solar.ensures.gives
