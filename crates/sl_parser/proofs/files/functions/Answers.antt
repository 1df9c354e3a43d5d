use Rattle.std.proofs.Common.{rules, arith, ap, sym, ◌∙◌, ◌≡◌, ◌≤◌, ◌<◌, ◌+◌, ◌-◌, ◌++◌, ◌∷◌, [], ℕ, map, length, Some, None, Err, Ok, length-append, append-nil}
use Rattle.std.proofs.lemmas.List.{map-append}
use Rattle.std.proofs.lemmas.Result.{err_from_is_err_and}
use Rattle.sl_ast.specs.SyntaxView.{function_of}
use Rattle.sl_expression_grammar.specs.Reading.{with_front, many}
use Rattle.sl_expression_grammar.proofs.Readers.{with_front-append, handed_on}
use Rattle.sl_parser.specs.Statements.{type_at}
use Rattle.sl_parser.specs.Files.{function_with, next_function}
use Rattle.sl_parser.proofs.Blocks.{function-turn, function-err, function-end}
use Rattle.sl_parser.proofs.files.functions.Goals as goal

pub loop-returns-preserved : goal.loop-returns-preserved
loop-returns-preserved c =
    let levels = c.args.levels in
    let functions = c.loop-returns.functions.items in
    let rest = c.loop-returns.rest.now in
    let left = c.in_ok-item.left.now in
    let f = c.in_ok-item.item in
    let n : ℕ = length c.args.ts.now - length functions in
    let shorter : length c.in-Some.after.now < length rest = c.in-Some.ensures.within in
    let low : 1 ≤ n = omega (arith, c.loop-returns.invariant.room) in
    let at : Some (c.in-Some.returns, c.in-Some.after.now) ≡ type_at rest = search rules in
    let turn = function-turn levels n rest c.in-Some.returns c.in-Some.after.now (function_of f) left low at c.in_ok-item.ensures.gives in
    let items : c.push.new.items.items ≡ functions ++ f ∷ [] = c.in_ok-push.ensures in
    let counts : length c.args.ts.now - (length functions + 1) ≡ n - 1 = omega arith in
    let grown : length c.push.new.items.items ≡ length functions + 1 = ap length items ∙ length-append functions (f ∷ []) in
    let more = many (next_function levels) (n - 1) left in
    record {
      same = rw (grown, items) (
          ap (λ k. with_front (map function_of (functions ++ f ∷ [])) (many (next_function levels) k left)) counts
          ∙ ap (λ xs. with_front xs more) (map-append function_of functions (f ∷ []))
          ∙ with_front-append (map function_of functions) (function_of f ∷ []) more
          ∙ ap (λ r. with_front (map function_of functions) r) (sym turn) ∙ c.loop-returns.invariant.same);
      room = rw grown (omega (arith, c.loop-returns.invariant.room, c.in_ok-item.ensures.within));
    }

pub returns-in_err-item-clause-gives : goal.returns-in_err-item-clause-gives
returns-in_err-item-clause-gives c =
    let levels = c.args.levels in
    let functions = c.loop-returns.functions.items in
    let rest = c.loop-returns.rest.now in
    let n : ℕ = length c.args.ts.now - length functions in
    let shorter : length c.in-Some.after.now < length rest = c.in-Some.ensures.within in
    let low : 1 ≤ n = omega (arith, c.loop-returns.invariant.room) in
    let at : Some (c.in-Some.returns, c.in-Some.after.now) ≡ type_at rest = search rules in
    let p = err_from_is_err_and c.from_residual.result c.from_residual.ensures.1 in
    handed_on function_of c.in_err-item.field-0.0 c.from_residual.result function_of (function_with levels c.in-Some.returns c.in-Some.after.now) _ (p.1 ∙ ap (λ s. Err s) p.2) c.in_err-item.ensures.gives
    (λ x e. sym c.loop-returns.invariant.same ∙ ap (λ r. with_front (map function_of functions) r) (function-err levels n rest c.in-Some.returns c.in-Some.after.now x low at e))

pub returns-clause-gives : goal.returns-clause-gives
returns-clause-gives c =
    let levels = c.args.levels in
    let functions = c.loop-returns.functions.items in
    let rest = c.loop-returns.rest.now in
    let none : None ≡ type_at rest = search rules in
    sym c.loop-returns.invariant.same
    ∙ ap (λ r. with_front (map function_of functions) r) (function-end levels (length c.args.ts.now - length functions) rest none)
    ∙ ap (λ xs. Ok (xs, rest)) (append-nil (map function_of functions))
