use Rattle.std.proofs.Common.{rules, arith, ap, sym, ◌∙◌, ◌≡◌, ◌≤◌, ◌<◌, ◌+◌, ◌-◌, ◌++◌, ◌∷◌, [], ℕ, map, length, None, Err, Ok, length-append, append-nil}
use Rattle.std.proofs.lemmas.List.{map-append}
use Rattle.std.proofs.lemmas.Result.{err_from_is_err_and}
use Rattle.sl_ast.specs.SyntaxView.{declared_of}
use Rattle.sl_lexer.specs.declared.token.Mark.TheVariants.{Comma}
use Rattle.sl_expression_grammar.specs.Reading.{with_front, many, after_comma, rest_after, is_mark}
use Rattle.sl_expression_grammar.specs.Expressions.{expr_at}
use Rattle.sl_expression_grammar.proofs.Readers.{with_front-append, handed_on, comma-turn, comma-err, comma-end}
use Rattle.sl_parser.specs.Statements.{declared_with}
use Rattle.sl_parser.proofs.declarations.further.Goals as goal

pub loop-after-init : goal.loop-after-init
loop-after-init c =
    let step = after_comma (declared_with (expr_at c.args.levels) c.args.valued) in
    let ts = c.args.ts.now in
    let items : c.push.new.items.items ≡ c.args.first ∷ [] = c.in_ok-push.ensures ∙ ap (λ xs. xs ++ c.args.first ∷ []) c.new-names.ensures.items in
    let counts : length ts + 1 - 1 ≡ length ts = omega arith in
    record {
      same = ap (λ xs. with_front (map declared_of xs) (many step (length ts + 1 - length xs) ts)) items
          ∙ ap (λ k. with_front (declared_of c.args.first ∷ []) (many step k ts)) counts;
      some = rw items (omega arith);
      room = rw items (omega arith);
    }

pub loop-after-preserved : goal.loop-after-preserved
loop-after-preserved c =
    let item = declared_with (expr_at c.args.levels) c.args.valued in
    let names = c.loop-after.names.items in
    let left = c.in_ok-name.left.now in
    let d = c.in_ok-name.name in
    let n : ℕ = length c.args.ts.now + 1 - length names in
    let shorter : length c.in-Some.after.now < length c.loop-after.rest.now = c.in-Some.ensures.within in
    let low : 1 ≤ n = omega (arith, c.loop-after.invariant.room) in
    let turn = comma-turn item n c.loop-after.rest.now c.in-Some.after.now (declared_of d) left low c.in-Some.ensures.at c.in_ok-name.ensures.gives in
    let items : c.push-in-Some.new.items.items ≡ names ++ d ∷ [] = c.in_ok-push-2.ensures in
    let counts : length c.args.ts.now + 1 - (length names + 1) ≡ n - 1 = omega arith in
    let grown : length c.push-in-Some.new.items.items ≡ length names + 1 = ap length items ∙ length-append names (d ∷ []) in
    let more = many (after_comma item) (n - 1) left in
    record {
      same = rw (grown, items) (
          ap (λ k. with_front (map declared_of (names ++ d ∷ [])) (many (after_comma item) k left)) counts
          ∙ ap (λ xs. with_front xs more) (map-append declared_of names (d ∷ []))
          ∙ with_front-append (map declared_of names) (declared_of d ∷ []) more
          ∙ ap (λ r. with_front (map declared_of names) r) (sym turn) ∙ c.loop-after.invariant.same);
      some = rw grown (omega arith);
      room = rw grown (omega (arith, c.loop-after.invariant.room, c.in_ok-name.ensures.within));
    }

pub returns-in_err-name-clause-gives : goal.returns-in_err-name-clause-gives
returns-in_err-name-clause-gives c =
    let item = declared_with (expr_at c.args.levels) c.args.valued in
    let names = c.loop-after.names.items in
    let n : ℕ = length c.args.ts.now + 1 - length names in
    let shorter : length c.in-Some.after.now < length c.loop-after.rest.now = c.in-Some.ensures.within in
    let low : 1 ≤ n = omega (arith, c.loop-after.invariant.room) in
    let p = err_from_is_err_and c.from_residual-in_err-name.result c.from_residual-in_err-name.ensures.1 in
    handed_on declared_of c.in_err-name.field-0.0 c.from_residual-in_err-name.result declared_of (item c.in-Some.after.now) _ (p.1 ∙ ap (λ s. Err s) p.2) c.in_err-name.ensures.gives
    (λ x e. sym c.loop-after.invariant.same ∙ ap (λ r. with_front (map declared_of names) r) (comma-err item n c.loop-after.rest.now c.in-Some.after.now x low c.in-Some.ensures.at e))

pub returns-clause-gives : goal.returns-clause-gives
returns-clause-gives c =
    let item = declared_with (expr_at c.args.levels) c.args.valued in
    let names = c.loop-after.names.items in
    let rest = c.loop-after.rest.now in
    let none : None ≡ rest_after (is_mark Comma) rest = search rules in
    sym c.loop-after.invariant.same
    ∙ ap (λ r. with_front (map declared_of names) r) (comma-end item (length c.args.ts.now + 1 - length names) rest none)
    ∙ ap (λ xs. Ok (xs, rest)) (append-nil (map declared_of names))
