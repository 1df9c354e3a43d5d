use Rattle.std.proofs.Common.{rules, arith, ap, sym, ◌∙◌, ◌≡◌, ◌≤◌, ◌<◌, ◌+◌, ◌-◌, ◌++◌, ◌∷◌, [], ℕ, map, length, None, Err, Ok, length-append, append-nil}
use Rattle.std.proofs.lemmas.List.{map-append}
use Rattle.std.proofs.lemmas.Result.{err_from_is_err_and}
use Rattle.sl_ast.specs.SyntaxView.{group_of}
use Rattle.sl_expression_grammar.specs.Reading.{with_front, many}
use Rattle.sl_expression_grammar.specs.Expressions.{expr_at}
use Rattle.sl_expression_grammar.proofs.Readers.{with_front-append, handed_on}
use Rattle.sl_parser.specs.Statements.{group_with}
use Rattle.sl_parser.specs.Files.{semicolon_at, next_group}
use Rattle.sl_parser.proofs.Blocks.{group-turn, group-err, group-end}
use Rattle.sl_parser.proofs.files.further.Goals as goal

pub loop-after-init : goal.loop-after-init
loop-after-init c =
    let step = next_group (group_with (expr_at c.args.levels) c.args.valued) in
    let ts = c.args.ts.now in
    let items : c.push.new.items.items ≡ c.args.first ∷ [] = c.in_ok-push.ensures ∙ ap (λ xs. xs ++ c.args.first ∷ []) c.new-groups.ensures.items in
    let counts : length ts + 1 - 1 ≡ length ts = omega arith in
    record {
      same = ap (λ xs. with_front (map group_of xs) (many step (length ts + 1 - length xs) ts)) items
          ∙ ap (λ k. with_front (group_of c.args.first ∷ []) (many step k ts)) counts;
      some = rw items (omega arith);
      room = rw items (omega arith);
    }

pub loop-after-preserved : goal.loop-after-preserved
loop-after-preserved c =
    let item = group_with (expr_at c.args.levels) c.args.valued in
    let groups = c.loop-after.groups.items in
    let left = c.in_ok-item.left.now in
    let d = c.in_ok-item.item in
    let n : ℕ = length c.args.ts.now + 1 - length groups in
    let shorter : length c.in-Some.after.now < length c.loop-after.rest.now = c.in-Some.ensures.within in
    let low : 1 ≤ n = omega (arith, c.loop-after.invariant.room) in
    let turn = group-turn item n c.loop-after.rest.now c.in-Some.after.now (group_of d) left low c.in-Some.ensures.at c.in_ok-item.ensures.gives in
    let items : c.push-in-Some.new.items.items ≡ groups ++ d ∷ [] = c.in_ok-push-2.ensures in
    let counts : length c.args.ts.now + 1 - (length groups + 1) ≡ n - 1 = omega arith in
    let grown : length c.push-in-Some.new.items.items ≡ length groups + 1 = ap length items ∙ length-append groups (d ∷ []) in
    let more = many (next_group item) (n - 1) left in
    record {
      same = rw (grown, items) (
          ap (λ k. with_front (map group_of (groups ++ d ∷ [])) (many (next_group item) k left)) counts
          ∙ ap (λ xs. with_front xs more) (map-append group_of groups (d ∷ []))
          ∙ with_front-append (map group_of groups) (group_of d ∷ []) more
          ∙ ap (λ r. with_front (map group_of groups) r) (sym turn) ∙ c.loop-after.invariant.same);
      some = rw grown (omega arith);
      room = rw grown (omega (arith, c.loop-after.invariant.room, c.in_ok-item.ensures.within));
    }

pub returns-in_err-item-clause-gives : goal.returns-in_err-item-clause-gives
returns-in_err-item-clause-gives c =
    let item = group_with (expr_at c.args.levels) c.args.valued in
    let groups = c.loop-after.groups.items in
    let n : ℕ = length c.args.ts.now + 1 - length groups in
    let shorter : length c.in-Some.after.now < length c.loop-after.rest.now = c.in-Some.ensures.within in
    let low : 1 ≤ n = omega (arith, c.loop-after.invariant.room) in
    let p = err_from_is_err_and c.from_residual-in_err-item.result c.from_residual-in_err-item.ensures.1 in
    handed_on group_of c.in_err-item.field-0.0 c.from_residual-in_err-item.result group_of (item c.in-Some.after.now) _ (p.1 ∙ ap (λ s. Err s) p.2) c.in_err-item.ensures.gives
    (λ x e. sym c.loop-after.invariant.same ∙ ap (λ r. with_front (map group_of groups) r) (group-err item n c.loop-after.rest.now c.in-Some.after.now x low c.in-Some.ensures.at e))

pub returns-clause-gives : goal.returns-clause-gives
returns-clause-gives c =
    let item = group_with (expr_at c.args.levels) c.args.valued in
    let groups = c.loop-after.groups.items in
    let rest = c.loop-after.rest.now in
    let none : None ≡ semicolon_at rest = search rules in
    sym c.loop-after.invariant.same
    ∙ ap (λ r. with_front (map group_of groups) r) (group-end item (length c.args.ts.now + 1 - length groups) rest none)
    ∙ ap (λ xs. Ok (xs, rest)) (append-nil (map group_of groups))
