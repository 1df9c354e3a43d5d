use Rattle.std.proofs.Common.{arith, ap, length, ◌≡◌, ◌∷◌, [], ◌++◌, ◌≤◌, ◌+◌, sym, ◌∙◌, subst}
use Rattle.sl_lexer.specs.Found.{found_in, IsWithin}
use Rattle.sl_lexer.specs.Tokens.{tokens_of, tokens_from}
use Rattle.sl_lexer.specs.declared.found.Found.TheVariants.{Blank, Whole}
use Rattle.sl_lexer.proofs.Steps.{go-blank, go-whole}
use Rattle.sl_lexer.proofs.lexer.tokens.Goals as goal
use Rattle.sl_lexer.proofs.lexer.tokens.Goals.{in-Blank, in-Whole+in_ok-push-in-Whole}

pub line_feeds-line-requires : goal.line_feeds-line-requires
line_feeds-line-requires c = omega (arith, c.split_at.ensures.front_len, c.split_at.ensures.back_len)

pub loop-rest-preserved : goal.loop-rest-preserved
loop-rest-preserved c =
    let rest = c.loop-rest.rest.now in
    let lines : c.loop-rest.line + c.line_feeds-line.result + length c.split_at.result.1.now ≤ 1 + length c.args.bytes.now =
    omega (arith, c.loop-rest.invariant.lines, c.line_feeds-line.ensures.within, c.split_at.ensures.front_len, c.split_at.ensures.back_len) in
    elim c.match-branch-2.branch [
      | in-Blank w ↦
          let found : found_in rest ≡ Blank c.match-branch-2.len =
          sym c.in_ok-len.ensures.found ∙ w.in-Blank.is ∙ ap (λ n. Blank n) (sym w.len-is) in
          let within : IsWithin (Blank c.match-branch-2.len) (length rest) =
          subst (λ f. IsWithin f (length rest)) (w.in-Blank.is ∙ ap (λ n. Blank n) (sym w.len-is)) c.in_ok-len.ensures.within in
          let same : c.loop-rest.tokens.items ++ tokens_from 0 (c.loop-rest.line + c.line_feeds-line.result) c.split_at.result.1.now ≡ tokens_of c.args.bytes.now =
          go-blank c.loop-rest.tokens.items c.match-branch-2.len c.loop-rest.line c.line_feeds-line.result
          rest c.split_at.result.1.now c.split_at.result.0.now (tokens_of c.args.bytes.now) within.0 within.1 found
          c.split_at.ensures.front c.split_at.ensures.back c.line_feeds-line.ensures.count c.loop-rest.invariant.same in
          record { same = rw w.tokens-is same; starts = omega (arith, c.loop-rest.invariant.starts); lines = lines }
      | in-Whole+in_ok-push-in-Whole w ↦
          let kind = w.in-Whole.kind in
          let found : found_in rest ≡ Whole kind c.match-branch-2.len =
          sym c.in_ok-len.ensures.found ∙ w.in-Whole.is ∙ ap (λ n. Whole kind n) (sym w.len-is) in
          let within : IsWithin (Whole kind c.match-branch-2.len) (length rest) =
          subst (λ f. IsWithin f (length rest)) (w.in-Whole.is ∙ ap (λ n. Whole kind n) (sym w.len-is)) c.in_ok-len.ensures.within in
          let same : (c.loop-rest.tokens.items ++ record { kind = kind; line = c.loop-rest.line } ∷ []) ++ tokens_from 0 (c.loop-rest.line + c.line_feeds-line.result) c.split_at.result.1.now ≡ tokens_of c.args.bytes.now =
          go-whole c.loop-rest.tokens.items kind c.match-branch-2.len c.loop-rest.line c.line_feeds-line.result
          rest c.split_at.result.1.now c.split_at.result.0.now (tokens_of c.args.bytes.now) within.0 within.1 found
          c.split_at.ensures.front c.split_at.ensures.back c.line_feeds-line.ensures.count c.loop-rest.invariant.same in
          record { same = rw (w.tokens-is, w.in_ok-push-in-Whole.ensures) same; starts = omega (arith, c.loop-rest.invariant.starts); lines = lines }
    ]
