use Rattle.std.proofs.Common.{rules, arith, ap, sym, subst, ◌∙◌, ◌≡◌, ◌≤◌, ◌<◌, ◌+◌, ◌-◌, ◌++◌, ◌∷◌, [], ℕ, map, length, Some, None, Err, Ok, length-append, append-nil}
use Rattle.std.proofs.lemmas.List.{map-append}
use Rattle.std.proofs.lemmas.Result.{err_from_is_err_and}
use Rattle.sl_ast.specs.SyntaxView.{expr_of, link_of}
use Rattle.sl_lexer.specs.declared.token.Mark.TheVariants.{Comma}
use Rattle.sl_expression_grammar.specs.Reading.{with_front, many, after_comma, rest_after, is_mark}
use Rattle.sl_expression_grammar.specs.Expressions.{most_links, link_at, next_link, expr_at, unary_at, prim_at}
use Rattle.sl_expression_grammar.specs.Rows.{operand_with}
use Rattle.sl_expression_grammar.specs.Parsing.{Gives}
use Rattle.sl_expression_grammar.specs.Boxes.{boxed_expr}
use Rattle.sl_expression_grammar.proofs.Readers.{with_front-append, handed_on, link-turn, link-err, link-end, comma-turn, comma-err, comma-end, expr-opened, prim-name, prim-type}
use Rattle.sl_expression_grammar.proofs.expressions.+expressions.Goals as goal

pub expr-returns-then-levels-gt0-clause-gives : goal.expr-returns-then-levels-gt0-clause-gives
expr-returns-then-levels-gt0-clause-gives t c =
    subst (λ r. Gives boxed_expr c.choice.result r) (sym (expr-opened c.args.levels c.args.ts.now c.if-levels-gt0.true)) c.choice.ensures.gives

pub further-loop-after-init : goal.further-loop-after-init
further-loop-after-init t c =
    let step = after_comma (expr_at c.args.levels) in
    let ts = c.args.ts.now in
    let items : c.push_boxed.new.items.items ≡ c.args.first.value ∷ [] = c.in_ok-push_boxed.ensures ∙ ap (λ xs. xs ++ c.args.first.value ∷ []) c.new-args.ensures.items in
    let counts : length ts + 1 - 1 ≡ length ts = omega arith in
    record {
      same = ap (λ xs. with_front (map expr_of xs) (many step (length ts + 1 - length xs) ts)) items
          ∙ ap (λ k. with_front (boxed_expr c.args.first ∷ []) (many step k ts)) counts;
      some = rw items (omega arith);
      room = rw items (omega arith);
    }

pub further-loop-after-preserved : goal.further-loop-after-preserved
further-loop-after-preserved t c =
    let expr = expr_at c.args.levels in
    let args = c.loop-after.args.items in
    let left = c.in_ok-arg.left.now in
    let e = c.in_ok-arg.arg.value in
    let n : ℕ = length c.args.ts.now + 1 - length args in
    let shorter : length c.in-Some.after.now < length c.loop-after.rest.now = c.in-Some.ensures.within in
    let low : 1 ≤ n = omega (arith, c.loop-after.invariant.room) in
    let turn = comma-turn expr n c.loop-after.rest.now c.in-Some.after.now (expr_of e) left low c.in-Some.ensures.at c.in_ok-arg.ensures.gives in
    let items : c.push_boxed-in-Some.new.items.items ≡ args ++ e ∷ [] = c.in_ok-push_boxed-2.ensures in
    let counts : length c.args.ts.now + 1 - (length args + 1) ≡ n - 1 = omega arith in
    let grown : length c.push_boxed-in-Some.new.items.items ≡ length args + 1 = ap length items ∙ length-append args (e ∷ []) in
    let more = many (after_comma expr) (n - 1) left in
    record {
      same = rw (grown, items) (
          ap (λ k. with_front (map expr_of (args ++ e ∷ [])) (many (after_comma expr) k left)) counts
          ∙ ap (λ xs. with_front xs more) (map-append expr_of args (e ∷ []))
          ∙ with_front-append (map expr_of args) (expr_of e ∷ []) more
          ∙ ap (λ r. with_front (map expr_of args) r) (sym turn) ∙ c.loop-after.invariant.same);
      some = rw grown (omega arith);
      room = rw grown (omega (arith, c.loop-after.invariant.room, c.in_ok-arg.ensures.within));
    }

pub further-returns-in_err-arg-clause-gives : goal.further-returns-in_err-arg-clause-gives
further-returns-in_err-arg-clause-gives t c =
    let expr = expr_at c.args.levels in
    let args = c.loop-after.args.items in
    let n : ℕ = length c.args.ts.now + 1 - length args in
    let shorter : length c.in-Some.after.now < length c.loop-after.rest.now = c.in-Some.ensures.within in
    let low : 1 ≤ n = omega (arith, c.loop-after.invariant.room) in
    let p = err_from_is_err_and c.from_residual-in_err-arg.result c.from_residual-in_err-arg.ensures.1 in
    handed_on boxed_expr c.in_err-arg.field-0.0 c.from_residual-in_err-arg.result expr_of (expr c.in-Some.after.now) _ (p.1 ∙ ap (λ s. Err s) p.2) c.in_err-arg.ensures.gives
    (λ x e. sym c.loop-after.invariant.same ∙ ap (λ r. with_front (map expr_of args) r) (comma-err expr n c.loop-after.rest.now c.in-Some.after.now x low c.in-Some.ensures.at e))

pub further-returns-clause-gives : goal.further-returns-clause-gives
further-returns-clause-gives t c =
    let expr = expr_at c.args.levels in
    let args = c.loop-after.args.items in
    let rest = c.loop-after.rest.now in
    let none : None ≡ rest_after (is_mark Comma) rest = search rules in
    sym c.loop-after.invariant.same
    ∙ ap (λ r. with_front (map expr_of args) r) (comma-end expr (length c.args.ts.now + 1 - length args) rest none)
    ∙ ap (λ xs. Ok (xs, rest)) (append-nil (map expr_of args))

pub links-loop-operator-preserved : goal.links-loop-operator-preserved
links-loop-operator-preserved t c =
    let row = c.args.row in
    let operand = operand_with row (unary_at c.args.levels) in
    let links = c.loop-operator.links.items in
    let rest = c.loop-operator.rest.now in
    let left = c.in_ok-operand.left.now in
    let len = length c.args.ts.now in
    let count = length links in
    let after = c.in-Some.after.now in
    let e = c.in_ok-operand.operand in
    let l = c.make_link.result in
    let shorter : length after < length rest = c.in-Some.ensures.within in
    let room : count < len = omega (arith, c.loop-operator.invariant.room) in
    let at : Some (c.in-Some.operator, c.in-Some.line, after) ≡ link_at row count rest = search rules in
    let turn = link-turn row operand count len rest c.in-Some.operator c.in-Some.line after (boxed_expr e) left room at c.in_ok-operand.ensures.gives in
    let items : c.push.new.items.items ≡ links ++ l ∷ [] = c.in_ok-push.ensures in
    let grown : length c.push.new.items.items ≡ count + 1 = ap length items ∙ length-append links (l ∷ []) in
    let more = many (next_link row operand) (most_links row len - (count + 1)) left in
    record {
      same = rw (grown, items) (
          ap (λ xs. with_front xs more) (map-append link_of links (l ∷ []))
          ∙ with_front-append (map link_of links) (link_of l ∷ []) more
          ∙ ap (λ r. with_front (map link_of links) r) (ap (λ k. with_front (k ∷ []) more) c.make_link.ensures ∙ sym turn)
          ∙ c.loop-operator.invariant.same);
      room = omega (arith, c.loop-operator.invariant.room, c.in_ok-operand.ensures.within);
    }

pub links-returns-in_err-operand-clause-gives : goal.links-returns-in_err-operand-clause-gives
links-returns-in_err-operand-clause-gives t c =
    let row = c.args.row in
    let operand = operand_with row (unary_at c.args.levels) in
    let links = c.loop-operator.links.items in
    let rest = c.loop-operator.rest.now in
    let len = length c.args.ts.now in
    let after = c.in-Some.after.now in
    let shorter : length after < length rest = c.in-Some.ensures.within in
    let room : length links < len = omega (arith, c.loop-operator.invariant.room) in
    let at : Some (c.in-Some.operator, c.in-Some.line, after) ≡ link_at row (length links) rest = search rules in
    let p = err_from_is_err_and c.from_residual.result c.from_residual.ensures.1 in
    handed_on boxed_expr c.in_err-operand.field-0.0 c.from_residual.result link_of (operand after) _ (p.1 ∙ ap (λ s. Err s) p.2) c.in_err-operand.ensures.gives
    (λ x e. sym c.loop-operator.invariant.same
    ∙ ap (λ r. with_front (map link_of links) r) (link-err row operand (length links) len rest c.in-Some.operator c.in-Some.line after x room at e))

pub links-returns-clause-gives : goal.links-returns-clause-gives
links-returns-clause-gives t c =
    let row = c.args.row in
    let operand = operand_with row (unary_at c.args.levels) in
    let links = c.loop-operator.links.items in
    let rest = c.loop-operator.rest.now in
    let at : None ≡ link_at row (length links) rest = search rules in
    sym c.loop-operator.invariant.same
    ∙ ap (λ r. with_front (map link_of links) r) (link-end row operand (length links) (length c.args.ts.now) rest at)
    ∙ ap (λ xs. Ok (xs, rest)) (append-nil (map link_of links))

pub prim-returns-in-Name-clause-gives : goal.prim-returns-in-Name-clause-gives
prim-returns-in-Name-clause-gives t c =
    subst (λ r. Gives boxed_expr c.named.result r)
    (sym (ap (prim_at c.args.levels) c.in-Some.ensures.cases.0
    ∙ prim-name c.args.levels c.in-Name.name c.in-Some.first.now c.in-Some.rest.now c.in-Name.is))
    c.named.ensures.gives

pub prim-returns-in-Type-2-clause-gives : goal.prim-returns-in-Type-2-clause-gives
prim-returns-in-Type-2-clause-gives t c =
    subst (λ r. Gives boxed_expr c.typed.result r)
    (sym (ap (prim_at c.args.levels) c.in-Some.ensures.cases.0
    ∙ prim-type c.args.levels c.in-Type-2.kind c.in-Some.first.now c.in-Some.rest.now (omega (arith, c.if-levels-eq0.false)) c.in-Type-2.is))
    c.typed.ensures.gives

pub chosen-returns-clause-gives : goal.chosen-returns-clause-gives
chosen-returns-clause-gives t c = subst (λ r. Gives boxed_expr c.make_choice.result r) (search rules) c.make_choice.ensures.gives

pub chain-returns-clause-gives : goal.chain-returns-clause-gives
chain-returns-clause-gives t c = subst (λ r. Gives boxed_expr c.make_chain.result r) (search rules) c.make_chain.ensures.gives

pub triple-returns-clause-gives : goal.triple-returns-clause-gives
triple-returns-clause-gives t c = subst (λ r. Gives boxed_expr c.make_triple.result r) (search rules) c.make_triple.ensures.gives

pub named-returns-clause-gives : goal.named-returns-clause-gives
named-returns-clause-gives t c = subst (λ r. Gives boxed_expr c.make_call.result r) (search rules) c.make_call.ensures.gives

pub paren-returns-clause-gives : goal.paren-returns-clause-gives
paren-returns-clause-gives t c = subst (λ r. Gives boxed_expr c.make_paren.result r) (search rules) c.make_paren.ensures.gives

pub typed-returns-clause-gives : goal.typed-returns-clause-gives
typed-returns-clause-gives t c = subst (λ r. Gives boxed_expr c.make_typed.result r) (search rules) c.make_typed.ensures.gives

pub unary-returns-clause-gives : goal.unary-returns-clause-gives
unary-returns-clause-gives t c = subst (λ r. Gives boxed_expr c.make_prefixed.result r) (search rules) c.make_prefixed.ensures.gives
